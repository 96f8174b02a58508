use Rattle.dw_ends.specs.Pieces.{pieces_left}
use Rattle.dw_script_fields.proofs.Expressions.{judged-expression}
use Rattle.dw_script_fields.proofs.expression.ExpressionFields.read.Goals as goal

pub invariant_of-result : goal.invariant_of-result
invariant_of-result c = judged-expression (pieces_left c.expect_open.new.fields) (pieces_left c.in_ok-fields.field-0) c.in_ok-fields.ensures
