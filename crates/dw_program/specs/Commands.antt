-- The words of the command line.
use Rattle.std.specs.Prelude.{ℕ, List, [], ◌∷◌, Option, Some, None, codes, bytes_eq, if◌then◌else◌}
use Rattle.dw_program.specs.declared.command.Reading.{Reading}
use Rattle.dw_program.specs.declared.command.Reading.TheVariants.{Build, Convert, Link}

-- the command that reads of a word
abbrev pub reading_named : List ℕ → Option Reading
reading_named word =
    if bytes_eq word (codes "build") then Some Build
    else (if bytes_eq word (codes "convert") then Some Convert
    else (if bytes_eq word (codes "link") then Some Link else None))

-- the same of all words, which are that one
abbrev pub reading_of : List (List ℕ) → Option Reading
reading_of [] = None
reading_of (word ∷ []) = reading_named word
reading_of (word ∷ more ∷ words) = None
