use Rattle.dw_ends.proofs.HexDigits.{half_of_digits}
use Rattle.dw_ends.proofs.hex_bytes.HexBytes.len.Goals as goal

pub returns : goal.returns
returns c = rw (← c.self.view_is) (half_of_digits c.self.inside.digits.now c.self.invariant)
