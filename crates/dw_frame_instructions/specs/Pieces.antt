-- Texts with their sizes.
use Rattle.std.specs.Prelude.{ℕ, ◌+◌, List, [], length, Some, None}
use Rattle.dw_base.specs.Numbers.{num}
use Rattle.dw_writer.specs.Texts.{num_text, followed}
use Rattle.dw_writer.specs.Meaning.{Meaning, Model, Appends}

-- so many bytes, and their text
pub record Piece : Type 0 where
  pub size : ℕ
  pub text : Model

abbrev pub nothing : Piece
nothing = record { size = 0; text = λ big l. Some [] }

-- what can't be written
abbrev pub missing : Piece
missing = record { size = 0; text = λ big l. None }

abbrev pub bytes : List ℕ → Piece
bytes xs = record { size = length xs; text = λ big l. Some xs }

-- a number in a field
abbrev pub number : ℕ → ℕ → Piece
number w n = record { size = w; text = λ big l. num_text big w n }

-- a number whose field is known to hold it
abbrev pub field : ℕ → ℕ → Piece
field w n = record { size = w; text = λ big l. Some (num big w n) }

-- one piece after another
unfoldable pub both : Piece → Piece → Piece
both p q = record { size = p.size + q.size; text = λ big l. followed (p.text big l) (q.text big l) }

-- the bytes of a piece are added
abbrev pub IsWritten : Meaning → Meaning → Piece → Type 0
IsWritten old new p = Appends old new p.size p.text
