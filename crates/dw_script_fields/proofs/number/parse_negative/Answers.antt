use Rattle.std.proofs.Common.{◌∙◌, sym}
use Rattle.dw_ends.specs.Numbers.{number_of}
use Rattle.dw_script_fields.proofs.Signed.{negative_narrowed, negative_wide}
use Rattle.dw_script_fields.proofs.number.parse_negative.Goals as goal

pub returns-in_err-number : goal.returns-in_err-number
returns-in_err-number c = c.from_residual.ensures ∙ sym (negative_wide (number_of c.args.magnitude.now) (sym c.in_err-number.ensures))

pub returns : goal.returns
returns c =
    negative_narrowed c.checked_sub_unsigned.result c.in_ok-number.field-0 (number_of c.args.magnitude.now) (sym c.in_ok-number.ensures) c.checked_sub_unsigned.ensures
