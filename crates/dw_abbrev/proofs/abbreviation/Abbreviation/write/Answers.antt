use Rattle.dw_writer.proofs.Outcomes.{OnOk-map, OnErr-map, OnErr-always}
use Rattle.dw_writer.proofs.Steps.{Adds-then}
use Rattle.dw_abbrev.proofs.Steps.{AddsSome-more, AddsSome-then, children-byte}
use Rattle.dw_abbrev.proofs.abbreviation.Abbreviation.write.Goals as goal

pub returns-in_err-write_uleb128-clause-partly : goal.returns-in_err-write_uleb128-clause-partly
returns-in_err-write_uleb128-clause-partly g c =
    rw (← c.self.view_is) (OnErr-always c.from_residual.result (AddsSome-more _ _ c.in_err-write_uleb128.ensures.partly))

pub returns-in_err-write_u8-clause-partly : goal.returns-in_err-write_u8-clause-partly
returns-in_err-write_u8-clause-partly g c =
    let byte = rw (children-byte _ c.self.inside.has_children) at c.in_err-write_u8.ensures.partly in
    rw (← c.self.view_is)
    (OnErr-always c.from_residual-in_err-write_u8.result (AddsSome-then c.in_ok-write_uleb128.ensures.ok (AddsSome-more _ _ byte)))

pub returns-in_err-write_attributes-clause-partly : goal.returns-in_err-write_attributes-clause-partly
returns-in_err-write_attributes-clause-partly g c =
    let byte = rw (children-byte _ c.self.inside.has_children) at c.in_ok-write_u8.ensures.ok in
    let attributes = rw c.as_slice.ensures.value at c.in_err-write_attributes.ensures.partly in
    rw (← c.self.view_is)
    (OnErr-always c.from_residual-in_err-write_attributes.result (AddsSome-then c.in_ok-write_uleb128.ensures.ok (AddsSome-then byte (AddsSome-more _ _ attributes))))

pub returns-clause-ok : goal.returns-clause-ok
returns-clause-ok g c =
    let byte = rw (children-byte _ c.self.inside.has_children) at c.in_ok-write_u8.ensures.ok in
    let attributes = rw c.as_slice.ensures.value at c.in_ok-write_attributes.ensures.ok in
    rw (← c.self.view_is)
    (OnOk-map c.write.result c.write.ensures.ok (λ zeros. Adds-then c.in_ok-write_uleb128.ensures.ok (Adds-then byte (Adds-then attributes zeros))))

pub returns-clause-partly : goal.returns-clause-partly
returns-clause-partly g c =
    let byte = rw (children-byte _ c.self.inside.has_children) at c.in_ok-write_u8.ensures.ok in
    let attributes = rw c.as_slice.ensures.value at c.in_ok-write_attributes.ensures.ok in
    rw (← c.self.view_is)
    (OnErr-map c.write.result c.write.ensures.partly (λ zeros. AddsSome-then c.in_ok-write_uleb128.ensures.ok (AddsSome-then byte (AddsSome-then attributes zeros))))
