-- The words that begin the items of location lists.
use Rattle.std.specs.Prelude.{ℕ, List, [], ◌∷◌, Option, bytes_eq, codes}
use Rattle.std.specs.Map.{lookup}
use Rattle.dw_script_fields.specs.declared.location_word.LocationWord.{LocationWord}
use Rattle.dw_script_fields.specs.declared.location_word.LocationWord.TheVariants as word
use Rattle.dw_script_fields.specs.declared.range_word.RangeWord.TheVariants as range

-- each word with its spelling: those of range lists, and the default location
abbrev pub location_words : List (List ℕ × LocationWord)
location_words =
    (codes "base", word.Range range.Base)
    ∷ (codes "pair", word.Range range.Pair)
    ∷ (codes "ends", word.Range range.Ends)
    ∷ (codes "len", word.Range range.Length)
    ∷ (codes "default", word.Default)
    ∷ []

-- the word that a field spells
unfoldable pub location_word_of : List ℕ → Option LocationWord
location_word_of field = lookup (bytes_eq field) location_words
