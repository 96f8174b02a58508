use Rattle.std.proofs.Common.{◌∙◌, ap, sym}
use Rattle.dw_expr.specs.Views.{nodes_in}
use Rattle.dw_expr.specs.Equality.{nodes_eq, nodes_decides}
use Rattle.dw_expr.proofs.op.equality.ExpressionPartialEq.eq.Goals as goal

pub returns-clause-value : goal.returns-clause-value
returns-clause-value c =
    let x = c.args.self.now in
    let y = c.args.other.now in
    let left = ap nodes_in c.as_slice.ensures.value ∙ c.self.view_is in
    let right = ap nodes_in c.as_slice-2.ensures.value ∙ c.other.view_is in
    let test = c.same_operations.ensures ∙ ap (λ ns. nodes_eq ns (nodes_in c.as_slice-2.result.now)) left ∙ ap (nodes_eq x) right in
    (λ h. (nodes_decides x y).0 (sym test ∙ h), λ e. test ∙ (nodes_decides x y).1 e)
