use Rattle.std.proofs.Common.{◌∙◌, ap, arith}
use Rattle.dw_expr.specs.Views.{node_of}
use Rattle.dw_expr.specs.Calls.{is_branch_at, led, targeted}
use Rattle.dw_expr.proofs.BranchLaws.{branch_within, targeted_there}
use Rattle.dw_expr.proofs.op.Expression.set_target.Goals as goal

pub index_mut-requires : goal.index_mut-requires
index_mut-requires c =
    let xs = c.self.inside.operations.items in
    let there = ap (λ ns. is_branch_at ns c.args.operation) c.self.view_is ∙ c.requires.branch in
    omega (arith, branch_within xs c.args.operation there, c.self.inside.operations.ok.0)

pub returns : goal.returns
returns c =
    let xs = c.self.inside.operations.items in
    let i = c.args.operation in
    let k = c.args.new_target in
    let there = ap (λ ns. is_branch_at ns i) c.self.view_is ∙ c.requires.branch in
    let led_there = c.lead_to.ensures ∙ ap (λ o. led (node_of o) k) c.index_mut.ensures.value in
    targeted_there xs i k _ c.lead_to.new.self (branch_within xs i there) led_there ∙ ap (λ ns. targeted ns i k) c.self.view_is
