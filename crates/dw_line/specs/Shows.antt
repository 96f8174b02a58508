-- What a program that was added at the end of its section is read as (DWARF 5, 6.2).
use Rattle.std.specs.Prelude.{◌≡◌, ℕ, List, ◌++◌, Some}
use Rattle.dw_writer.specs.Meaning.{Layout, Meaning, IsTidy, resolved}
use Rattle.dw_base.specs.LineReader.{line_rows_at, line_tables_at}
use Rattle.dw_line.specs.BuiltTables.{tables_read}
use Rattle.dw_line.specs.SequenceTexts.{BuiltSequence, built_rows}
use Rattle.dw_line.specs.declared.line_string.LineString.{LineString}
use Rattle.dw_line.specs.declared.file.FileEntry.{FileEntry}

-- The program that was added at the end shows these sequences, in each layout in which the bytes are told, and whatever follows.
abbrev pub ShowsSequences : Meaning → Meaning → List BuiltSequence → Type 0
ShowsSequences old new sequences =
    IsTidy old → (l : Layout) (bytes more : List ℕ) → resolved l new ≡ Some bytes →
    line_rows_at old.is_big (bytes ++ more) old.size ≡ built_rows l sequences

-- It has these directories and files, which name strings of these tables.
abbrev pub ShowsTables : Meaning → Meaning → List (List ℕ) → List (List ℕ) → ℕ → List LineString → List FileEntry → Type 0
ShowsTables old new strings line_strings version directories files =
    IsTidy old → (l : Layout) (bytes more : List ℕ) → resolved l new ≡ Some bytes →
    line_tables_at old.is_big (bytes ++ more) old.size ≡ Some (tables_read strings line_strings l version directories files)
