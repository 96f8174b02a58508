-- What calls inside the crate read of operations.
use Rattle.std.specs.Prelude.{Option, Some, None, Ok}
use Rattle.dw_read.specs.Reading.{Read}
use Rattle.dw_read.specs.Reasons.{◌=>>◌}

-- what is read where a table has a code, and nothing where it hasn't
unfoldable pub tried : {A : Type 0} → Option (Read A) → Read (Option A)
tried None bytes = Ok (None, bytes)
tried (Some p) bytes = p bytes =>> λ x. Ok (Some x.0, x.1)
