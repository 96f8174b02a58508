-- What a write of a part does: it adds the part, or is refused for a cause.
use Rattle.std.specs.Prelude.{Bool, false, ◌||◌, Result, Ok, Err, IsFalse}
use Rattle.dw_base.specs.declared.error.Error.{Error}
use Rattle.dw_writer.specs.Meaning.{Meaning}
use Rattle.dw_expr.specs.Places.{Refused}
use Rattle.dw_frame_instructions.specs.Pieces.{Piece, IsWritten}

-- none of the errors has this cause
abbrev pub IsNone : (Error → Bool) → Type 0
IsNone fails = (e : Error) → IsFalse (fails e)

-- no error at all
abbrev pub never : Error → Bool
never e = false

-- one cause or another
abbrev pub either : (Error → Bool) → (Error → Bool) → Error → Bool
either f g e = f e || g e

-- a piece is added where no cause stands; else there is a cause, no memory, or a fault
abbrev pub Writes : {T : Type 0} → Result T Error → Meaning → Meaning → Piece → (Error → Bool) → Type 0
Writes (Ok x) old new p fails = IsWritten old new p × IsNone fails
Writes (Err e) old new p fails = Refused old new fails e
