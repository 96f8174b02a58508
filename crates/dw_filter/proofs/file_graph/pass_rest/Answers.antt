use Rattle.std.proofs.Common.{subst, ◌++◌, ◌∷◌, [], Option, Ok}
use Rattle.dw_base.specs.declared.ids.UnitEntryId.{UnitEntryId}
use Rattle.dw_entry_ids.specs.AnyUnit.{WalksAmong}
use Rattle.dw_sources.specs.ConvertErrors.{from_read}
use Rattle.dw_filter.proofs.Handing.{handed_on}
use Rattle.dw_filter.proofs.UnitReading.{counts_on, read_whole, stopped}
use Rattle.dw_filter.proofs.file_graph.pass_rest.Goals as goal

pub returns-in_err-next-clause-err : goal.returns-in_err-next-clause-err
returns-in_err-next-clause-err g c =
    let reading = g.R.Reader.reading in
    let u = c.args.unit.unit.now in
    let w = c.rows.invariant in
    let e = c.in_err-next.field-0.0 in
    handed_on c.from_residual.result (from_read e) _ c.from_residual.ensures (stopped reading u c.rows.rows w.front w.rest w.fault w.stands e (c.in_err-next.ensures.reads u w.front w.rest w.fault w.stands))

pub rows-smaller : goal.rows-smaller
rows-smaller g c =
    let reading = g.R.Reader.reading in
    let u = c.args.unit.unit.now in
    let w = c.rows.invariant in
    let h = subst (λ (o : Option (UnitEntryId × UnitEntryId)). WalksAmong reading u w.front w.rest w.fault c.next.new.self c.next.new.entry (Ok o)) c.in-Some.is (c.in_ok-next.ensures.reads u w.front w.rest w.fault w.stands) in
    counts_on reading u c.rows.rows c.next.new.self w.front w.rest w.fault w.stands (g.met.R.Reader.is_reading c.rows.rows.rows.input) c.next.new.entry c.in-Some.field-0.0.0 c.in-Some.field-0.1.0 h

pub rows-preserved : goal.rows-preserved
rows-preserved g c =
    let reading = g.R.Reader.reading in
    let u = c.args.unit.unit.now in
    let w = c.rows.invariant in
    let h = subst (λ (o : Option (UnitEntryId × UnitEntryId)). WalksAmong reading u w.front w.rest w.fault c.next.new.self c.next.new.entry (Ok o)) c.in-Some.is (c.in_ok-next.ensures.reads u w.front w.rest w.fault w.stands) in
    record { front = (w.front ++ h.next.nulls) ++ h.next.row ∷ []; rest = h.next.back; fault = w.fault; stands = h.stands }

pub returns-clause-ok : goal.returns-clause-ok
returns-clause-ok g c =
    let reading = g.R.Reader.reading in
    let u = c.args.unit.unit.now in
    let w = c.rows.invariant in
    let h = subst (λ (o : Option (UnitEntryId × UnitEntryId)). WalksAmong reading u w.front w.rest w.fault c.next.new.self c.next.new.entry (Ok o)) c.in_default.is (c.in_ok-next.ensures.reads u w.front w.rest w.fault w.stands) in
    record { rows = w.front ++ w.rest; are = read_whole reading u c.rows.rows w.front w.rest w.fault w.stands h.whole }
