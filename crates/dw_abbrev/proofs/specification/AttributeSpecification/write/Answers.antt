use Rattle.std.proofs.Common.{◌≡◌, rules, to_z, of_z, w64}
use Rattle.std.proofs.lemmas.List.{append-nil}
use Rattle.dw_writer.proofs.Outcomes.{OnErr-always}
use Rattle.dw_writer.proofs.Steps.{Adds-then}
use Rattle.dw_abbrev.proofs.Steps.{AddsSome-more, AddsSome-then}
use Rattle.dw_abbrev.proofs.specification.AttributeSpecification.write.Goals as goal

pub returns-in_err-write_uleb128-clause-partly : goal.returns-in_err-write_uleb128-clause-partly
returns-in_err-write_uleb128-clause-partly g c =
    rw (← c.self.view_is) (OnErr-always c.from_residual.result (AddsSome-more _ _ c.in_err-write_uleb128.ensures.partly))

pub returns-in_err-write_uleb128-2-clause-partly : goal.returns-in_err-write_uleb128-2-clause-partly
returns-in_err-write_uleb128-2-clause-partly g c =
    rw (← c.self.view_is)
    (OnErr-always c.from_residual-in_err-write_uleb128-2.result (AddsSome-then c.in_ok-write_uleb128.ensures.ok (AddsSome-more _ _ c.in_err-write_uleb128-2.ensures.partly)))

pub returns-in_err-write_sleb128-clause-partly : goal.returns-in_err-write_sleb128-clause-partly
returns-in_err-write_sleb128-clause-partly g c =
    let value : to_z w64 (of_z w64 c.in-Some.value) ≡ c.in-Some.value = search rules in
    rw (← c.self.view_is, c.in-Some.is, ← value)
    (OnErr-always c.from_residual-in_err-write_sleb128.result (AddsSome-then c.in_ok-write_uleb128.ensures.ok (AddsSome-then c.in_ok-write_uleb128-2.ensures.ok c.in_err-write_sleb128.ensures.partly)))

pub returns-in_ok-write_sleb128-clause-ok : goal.returns-in_ok-write_sleb128-clause-ok
returns-in_ok-write_sleb128-clause-ok g c =
    let value : to_z w64 (of_z w64 c.in-Some.value) ≡ c.in-Some.value = search rules in
    rw (← c.self.view_is, c.in-Some.is, ← value) (Adds-then c.in_ok-write_uleb128.ensures.ok (Adds-then c.in_ok-write_uleb128-2.ensures.ok c.in_ok-write_sleb128.ensures.ok))

pub returns-in_default-clause-ok : goal.returns-in_default-clause-ok
returns-in_default-clause-ok g c =
    rw (← c.self.view_is, c.in_default.is, append-nil) (Adds-then c.in_ok-write_uleb128.ensures.ok c.in_ok-write_uleb128-2.ensures.ok)
