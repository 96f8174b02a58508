-- The words that begin a line.
use Rattle.std.specs.Prelude.{ℕ, List, [], ◌∷◌, Option, Ok, ok_or, bytes_eq, codes}
use Rattle.std.specs.Map.{lookup}
use Rattle.dw_ends.specs.Fields.{Fields, Outcome, ◌>>=◌, next_field}
use Rattle.dw_ends.specs.declared.reason.Reason.TheVariants.{UnknownWord}
use Rattle.dw_script.specs.declared.word.Word.{Word}
use Rattle.dw_script.specs.declared.word.Word.TheVariants as word

-- each word with its spelling
abbrev pub words : List (List ℕ × Word)
words =
    (codes "set", word.Set)
    ∷ (codes "add", word.Add)
    ∷ (codes "row", word.Row)
    ∷ (codes "sibling", word.Sibling)
    ∷ (codes "loc", word.Loc)
    ∷ (codes "str", word.Str)
    ∷ (codes "order", word.Order)
    ∷ (codes "unit", word.Unit)
    ∷ (codes "reserve", word.Reserve)
    ∷ (codes "add_reserved", word.AddReserved)
    ∷ (codes "delete", word.Delete)
    ∷ (codes "delete_child", word.DeleteChild)
    ∷ (codes "line_str", word.LineStr)
    ∷ (codes "range", word.Range)
    ∷ (codes "line", word.Line)
    ∷ (codes "dir", word.Dir)
    ∷ (codes "file", word.File)
    ∷ (codes "sequence", word.Sequence)
    ∷ (codes "end", word.End)
    ∷ []

-- the word that a field spells
abbrev pub word_of : List ℕ → Option Word
word_of field = lookup (bytes_eq field) words

-- the word of a line, and the fields after it
abbrev pub word_field : Fields → Outcome (Word × Fields)
word_field fields = do
  (field, fields) ← next_field fields
  word ← ok_or (word_of field) UnknownWord
  Ok (word, fields)
