use Rattle.std.proofs.Common.{◌∙◌, ap}
use Rattle.dw_writer.proofs.Outcomes.{OnOk-map}
use Rattle.dw_writer.proofs.WriteLaws.{Drafts-is}
use Rattle.dw_expr.specs.Places.{known_by, place_by}
use Rattle.dw_expr.specs.Spelling.{expression_draft}
use Rattle.dw_expr.specs.Views.{nodes_in}
use Rattle.dw_expr.proofs.op.Expression.write.Goals as goal

pub returns-in-Some-clause-ok : goal.returns-in-Some-clause-ok
returns-in-Some-clause-ok g c =
    let draft = expression_draft c.args.encoding (place_by (known_by g.P.EntryPlaces.places c.args.places)) in
    let inner = ap nodes_in c.as_slice-operations.ensures.value ∙ c.self.view_is in
    rw c.in-Some.is (OnOk-map c.write_operations.result c.write_operations.ensures.ok (λ p. Drafts-is p (ap draft inner)))
