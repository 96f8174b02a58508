-- What is written: a text, and why it can't be.
use Rattle.std.specs.Prelude.{ℕ, ◌+◌, Bool, true, false, not, ◌&&◌, ◌==◌, Result}
use Rattle.dw_base.specs.Numbers.{is_width, fits}
use Rattle.dw_base.specs.declared.error.Error.{Error}
use Rattle.dw_base.specs.declared.error.Error.TheVariants as errors
use Rattle.dw_writer.specs.Meaning.{Meaning}
use Rattle.dw_frame_instructions.specs.Pieces.{Piece, nothing, missing, number, both}
use Rattle.dw_frame_instructions.specs.Causes.{never, either, Writes}

-- a text, and the causes for which a writer refuses it, which hang on whether it is plain
pub record Part : Type 0 where
  pub piece : Piece
  pub fails : Bool → Error → Bool

-- a part that hangs on the place where it stands
abbrev pub Placed : Type 0
Placed = ℕ → Part

-- a text without a cause
abbrev pub free : Piece → Placed
free p at = record { piece = p; fails = λ plain. never }

-- a text with these causes
abbrev pub caused : Piece → (Error → Bool) → Placed
caused p f at = record { piece = p; fails = λ plain. f }

-- no text, where the test holds, for this cause; else an empty one
abbrev pub refused_if : Bool → (Error → Bool) → Placed
refused_if true f at = record { piece = missing; fails = λ plain. f }
refused_if false f at = record { piece = nothing; fails = λ plain. never }

-- nothing, where the test fails
abbrev pub only_if : Bool → Placed → Placed
only_if true p at = p at
only_if false p at = record { piece = nothing; fails = λ plain. never }

-- one part behind another
unfoldable pub in_turn : Placed → Placed → Placed
in_turn p q at =
    let r = q (at + (p at).piece.size) in
    record { piece = both (p at).piece r.piece; fails = λ plain. either ((p at).fails plain) (r.fails plain) }

-- a number that its width can't hold, or of no width
abbrev pub number_fails : ℕ → ℕ → Error → Bool
number_fails w n (errors.UnsupportedWordSize k) = (k == w) && not (is_width w)
number_fails w n errors.ValueTooLarge = is_width w && not (fits w n)
number_fails w n err = false

abbrev pub numbered : ℕ → ℕ → Placed
numbered w n = caused (number w n) (number_fails w n)

-- a part is added where no cause stands; else there is a cause, no memory, or a fault
abbrev pub Puts : {T : Type 0} → Result T Error → Meaning → Meaning → Placed → Type 0
Puts r old new p = Writes r old new (p old.size).piece ((p old.size).fails old.is_plain)
