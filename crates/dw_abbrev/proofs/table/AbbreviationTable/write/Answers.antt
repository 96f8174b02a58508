use Rattle.std.proofs.Common.{◌∙◌, subst, arith}
use Rattle.dw_base.specs.Spellable.{AreDeclarations}
use Rattle.dw_base.proofs.TableLaws.{table-again}
use Rattle.dw_writer.proofs.Outcomes.{OnOk-map, OnErr-map, OnErr-always}
use Rattle.dw_writer.proofs.Plain.{num-byte}
use Rattle.dw_writer.proofs.Steps.{Adds-then}
use Rattle.dw_abbrev.specs.Codes.{declarations}
use Rattle.dw_abbrev.proofs.Steps.{AddsSome-more, AddsSome-then}
use Rattle.dw_abbrev.proofs.table.AbbreviationTable.write.Given.{Over}
use Rattle.dw_abbrev.proofs.table.AbbreviationTable.write.Goals as goal

pub returns-in_err-write_declarations-clause-partly : goal.returns-in_err-write_declarations-clause-partly
returns-in_err-write_declarations-clause-partly g c =
    let some = rw c.as_slice.ensures.keys at c.in_err-write_declarations.ensures.partly in
    rw (← c.self.view_is) (OnErr-always c.from_residual.result (AddsSome-more _ _ some))

pub returns-clause-ok : goal.returns-clause-ok
returns-clause-ok g c =
    let all = rw c.as_slice.ensures.keys at c.in_ok-write_declarations.ensures.ok in
    let last = rw (num-byte _ 0 (omega arith)) at c.write_u8.ensures.ok in
    rw (← c.self.view_is) (OnOk-map c.write_u8.result last (λ zero. Adds-then all zero))

pub returns-clause-partly : goal.returns-clause-partly
returns-clause-partly g c =
    let all = rw c.as_slice.ensures.keys at c.in_ok-write_declarations.ensures.ok in
    let last = rw (num-byte _ 0 (omega arith)) at c.write_u8.ensures.partly in
    rw (← c.self.view_is) (OnErr-map c.write_u8.result last (λ zero. AddsSome-then all zero))

spelled : (g : Over) (c : goal.After-write_u8 g) → AreDeclarations (declarations c.args.self.now)
spelled g c = subst (λ ss. AreDeclarations (declarations ss)) (c.as_slice.ensures.keys ∙ c.self.view_is) c.in_ok-write_declarations.ensures.spelled

pub returns-clause-spelled : goal.returns-clause-spelled
returns-clause-spelled g c = OnOk-map c.write_u8.result c.write_u8.ensures.ok (λ _. spelled g c)

pub returns-clause-again : goal.returns-clause-again
returns-clause-again g c = OnOk-map c.write_u8.result c.write_u8.ensures.ok (λ _. λ rest. table-again (declarations c.args.self.now) rest (spelled g c))
