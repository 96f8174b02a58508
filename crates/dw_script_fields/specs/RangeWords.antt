-- The words that begin the items of range lists.
use Rattle.std.specs.Prelude.{ℕ, List, [], ◌∷◌, Option, bytes_eq, codes}
use Rattle.std.specs.Map.{lookup}
use Rattle.dw_script_fields.specs.declared.range_word.RangeWord.{RangeWord}
use Rattle.dw_script_fields.specs.declared.range_word.RangeWord.TheVariants as word

-- each word with its spelling
abbrev pub range_words : List (List ℕ × RangeWord)
range_words =
    (codes "base", word.Base)
    ∷ (codes "pair", word.Pair)
    ∷ (codes "ends", word.Ends)
    ∷ (codes "len", word.Length)
    ∷ []

-- the word that a field spells
unfoldable pub range_word_of : List ℕ → Option RangeWord
range_word_of field = lookup (bytes_eq field) range_words
