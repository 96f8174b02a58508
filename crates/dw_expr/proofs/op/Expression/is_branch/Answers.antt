use Rattle.std.proofs.Common.{◌∙◌, ap, ◌<◌, ◌≤◌, length}
use borrow.Author.Tests.{tests}
use Rattle.dw_expr.specs.Calls.{is_branch_at}
use Rattle.dw_expr.proofs.BranchLaws.{branch_there, branch_nowhere}
use Rattle.dw_expr.proofs.op.Expression.is_branch.Goals as goal

pub returns-in-Some : goal.returns-in-Some
returns-in-Some c =
    let xs = c.self.inside.operations.items in
    let i = c.args.operation in
    let o = c.in-Some.found.now in
    let known = rw c.deref.ensures.value at c.in-Some.ensures.lookup in
    let below : i < length xs = search (tests, known.0) in
    c.is_branch.ensures ∙ branch_there xs i o below known.1 ∙ ap (λ ns. is_branch_at ns i) c.self.view_is

pub returns-in-None : goal.returns-in-None
returns-in-None c =
    let xs = c.self.inside.operations.items in
    let i = c.args.operation in
    let known = rw c.deref.ensures.value at c.in-None.ensures.lookup in
    let past : length xs ≤ i = search (tests, known.0) in
    branch_nowhere xs i past ∙ ap (λ ns. is_branch_at ns i) c.self.view_is
