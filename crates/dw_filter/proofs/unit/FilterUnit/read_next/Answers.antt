use Rattle.std.proofs.Common.{◌≡◌, ◌∙◌, ap, subst, ◌+◌, Option, Ok, arith}
use Rattle.dw_base.specs.declared.ids.UnitEntryId.{UnitEntryId}
use Rattle.dw_entry_ids.specs.AnyUnit.{WalksAmong}
use Rattle.dw_sources.specs.ConvertErrors.{from_read}
use Rattle.dw_filter.proofs.FilterSteps.{hands_entry, hands_no_entry, has_room, refuses_list, refuses_row}
use Rattle.dw_filter.proofs.Handing.{is_err}
use Rattle.dw_filter.specs.FilterEntries.{spot_above}
use Rattle.dw_filter.proofs.unit.FilterUnit.read_next.Goals as goal

pub returns-in_err-parent-clause-reads : goal.returns-in_err-parent-clause-reads
returns-in_err-parent-clause-reads g c = λ front rest fault s.
    let old = c.args.self.now in
    let error = c.in_err-parent.field-0.0 in
    rw (is_err _ (from_read error) c.from_residual.ensures) (refuses_row g.R.Reader.reading old front rest fault s error (c.in_err-parent.ensures.reads old.read_unit.unit.now front rest fault s.rows))

pub returns-in_default-clause-reads : goal.returns-in_default-clause-reads
returns-in_default-clause-reads g c = λ front rest fault s.
    let old = c.args.self.now in
    hands_no_entry g.R.Reader.reading old front rest fault s c.next.new.self
    (subst (λ (o : Option (UnitEntryId × UnitEntryId)). WalksAmong g.R.Reader.reading old.read_unit.unit.now front rest fault c.next.new.self c.next.new.entry (Ok o)) c.in_default.is (c.in_ok-parent.ensures.reads old.read_unit.unit.now front rest fault s.rows))

pub returns-in_err-add_entry_places-clause-reads : goal.returns-in_err-add_entry_places-clause-reads
returns-in_err-add_entry_places-clause-reads g c = λ front rest fault s.
    let reading = g.R.Reader.reading in
    let old = c.args.self.now in
    let e = c.in_err-add_entry_places.field-0.0 in
    let h = subst (λ (o : Option (UnitEntryId × UnitEntryId)). WalksAmong reading old.read_unit.unit.now front rest fault c.next.new.self c.next.new.entry (Ok o)) c.in-Some.is (c.in_ok-parent.ensures.reads old.read_unit.unit.now front rest fault s.rows) in
    let above = c.spot_above.ensures ∙ ap (λ spots. spot_above spots c.in-Some.parent.0) c.deref.ensures.value in
    rw (is_err _ e c.from_residual-in_err-add_entry_places.ensures)
    (refuses_list reading old front rest fault s c.next.new.self c.next.new.entry c.in-Some.field-0-0.0 c.in-Some.parent.0 h c.spot_above.result c.stand_under.new.self c.leave_out.new.self above c.stand_under.ensures c.leave_out.ensures.less c.leave_out.ensures.others c.deref-2.result.now c.clear.new.self.items c.add_entry_places.new.places.items e
    c.deref-2.ensures.value c.clear.ensures.items c.in_err-add_entry_places.ensures.err)

pub returns-clause-reads : goal.returns-clause-reads
returns-clause-reads g c = λ front rest fault s.
    let reading = g.R.Reader.reading in
    let old = c.args.self.now in
    let h = subst (λ (o : Option (UnitEntryId × UnitEntryId)). WalksAmong reading old.read_unit.unit.now front rest fault c.next.new.self c.next.new.entry (Ok o)) c.in-Some.is (c.in_ok-parent.ensures.reads old.read_unit.unit.now front rest fault s.rows) in
    let above = c.spot_above.ensures ∙ ap (λ spots. spot_above spots c.in-Some.parent.0) c.deref.ensures.value in
    let room = has_room reading old front rest fault s c.next.new.self c.next.new.entry c.in-Some.field-0-0.0 c.in-Some.parent.0 h (g.met.R.Reader.is_reading c.next.new.self.rows.input) in
    let count : c.saturating_add-self.result ≡ old.count.now + 1 = omega (arith, room, c.saturating_add-self.ensures) in
    hands_entry reading old front rest fault s c.next.new.self c.next.new.entry c.in-Some.field-0-0.0 c.in-Some.parent.0 h c.spot_above.result c.stand_under.new.self c.leave_out.new.self above c.stand_under.ensures c.leave_out.ensures.less c.leave_out.ensures.others c.push.new.self c.add_entry_places.new.places
    _ c.deref-2.result.now c.clear.new.self.items c.in_ok-push.ensures.items count c.deref-2.ensures.value c.clear.ensures.items c.in_ok-add_entry_places.ensures.ok
