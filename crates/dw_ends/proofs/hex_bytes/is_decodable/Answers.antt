use Rattle.std.proofs.Common.{sym}
use Rattle.dw_ends.proofs.HexDigits.{is_ok-decode_of}
use Rattle.dw_ends.proofs.hex_bytes.is_decodable.Goals as goal

pub returns-then-digits-eq0 : goal.returns-then-digits-eq0
returns-then-digits-eq0 c =
    is_ok-decode_of c.args.digits.now c.are_hex_digits.result c.if-digits-eq0.true (sym c.are_hex_digits.ensures)
