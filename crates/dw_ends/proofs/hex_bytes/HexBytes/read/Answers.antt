use Rattle.std.proofs.Common.{◌≡◌, ◌∙◌, true, bytes_eq, codes, sym, ap}
use Rattle.std.specs.Result.{result_ok}
use Rattle.dw_ends.proofs.HexDigits.{decode_of-nil}
use Rattle.dw_ends.proofs.hex_bytes.HexBytes.read.Goals as goal

pub returns-then-eq : goal.returns-then-eq
returns-then-eq c =
    let test : bytes_eq c.args.field.now (codes "-") ≡ true = sym c.eq.ensures ∙ c.if-eq.true in
    rw test (c.from_digits.ensures ∙ ap result_ok decode_of-nil)
