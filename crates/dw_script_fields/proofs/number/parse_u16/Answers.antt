use Rattle.std.proofs.Common.{◌∙◌, ◌^◌, sym}
use Rattle.dw_ends.specs.Numbers.{number_of}
use Rattle.dw_ends.proofs.Limits.{result_ok_narrowed}
use Rattle.dw_script_fields.proofs.number.parse_u16.Goals as goal

pub returns : goal.returns
returns c =
    c.ok.ensures.value
    ∙ result_ok_narrowed c.try_from.result (2 ^ 64) (2 ^ 16) c.in_ok-number.field-0 (number_of c.args.field.now) (sym c.in_ok-number.ensures) c.try_from.ensures
