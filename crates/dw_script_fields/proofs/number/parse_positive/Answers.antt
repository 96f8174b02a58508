use Rattle.std.proofs.Common.{◌∙◌, sym}
use Rattle.dw_ends.specs.Numbers.{number_of}
use Rattle.dw_script_fields.proofs.Signed.{positive_narrowed, positive_wide}
use Rattle.dw_script_fields.proofs.number.parse_positive.Goals as goal

pub returns-in_err-number : goal.returns-in_err-number
returns-in_err-number c = c.from_residual.ensures ∙ sym (positive_wide (number_of c.args.field.now) (sym c.in_err-number.ensures))

pub returns : goal.returns
returns c =
    c.ok.ensures.value
    ∙ positive_narrowed c.try_from.result c.in_ok-number.field-0 (number_of c.args.field.now) (sym c.in_ok-number.ensures) c.try_from.ensures
