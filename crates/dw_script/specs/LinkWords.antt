-- The words that begin a line of the command `link`.
use Rattle.std.specs.Prelude.{ℕ, List, Option, Some, bytes_eq, codes, if◌then◌else◌}
use Rattle.std.specs.Option.{option_map}
use Rattle.dw_script.specs.declared.link_word.LinkWord.{LinkWord}
use Rattle.dw_script.specs.declared.link_word.LinkWord.TheVariants.{Next, Symbol, Script}
use Rattle.dw_script.specs.Words.{word_of}

-- the word that a field spells: `next`, `symbol` or a script's word
abbrev pub link_word_of : List ℕ → Option LinkWord
link_word_of field =
    if bytes_eq field (codes "next") then Some Next
    else (if bytes_eq field (codes "symbol") then Some Symbol else option_map Script (word_of field))
