use Rattle.std.proofs.Common.{inr, refl}
use Rattle.dw_sources.specs.ConvertErrors.{from_read}
use Rattle.dw_sources.proofs.Progress.{fewer_left}
use Rattle.dw_filter.proofs.Handing.{handed_on}
use Rattle.dw_filter.proofs.ListSteps.{section_read, goes_first, goes_on, goes_to_close, goes_wrong, passes_one, closes}
use Rattle.dw_filter.proofs.location_places.add_location_list_places.Goals as goal

pub items-init : goal.items-init
items-init g c = goes_first _ _ g.R.Reader.reading c.args.unit c.args.offset.0 c.args.places.now.items c.in_ok-items.items (section_read _ _ g.R.Reader.reading c.args.unit g.met.R.Reader.is_reading) c.in_ok-items.ensures.ok

pub items-preserved : goal.items-preserved
items-preserved g c =
    let reading = g.R.Reader.reading in
    let is = g.met.R.Reader.is_reading in
    let p = passes_one _ _ reading c.args.unit c.items.items c.next.new.self _ c.in-Some.item c.in_ok-item.ensures c.in-Some.is in
    goes_on _ _ reading c.args.unit c.args.offset.0 c.args.places.now.items c.items.places.items c.items.items c.next.new.self c.items.invariant c.in-Some.item c.add_item_places.new.places.items (is c.items.items.input) (is c.next.new.self.input) p c.in_ok-add_item_places.ensures.ok

pub items-smaller : goal.items-smaller
items-smaller g c =
    let reading = g.R.Reader.reading in
    let is = g.met.R.Reader.is_reading in
    let p = passes_one _ _ reading c.args.unit c.items.items c.next.new.self _ c.in-Some.item c.in_ok-item.ensures c.in-Some.is in
    fewer_left _ _ (reading c.items.items.input) (reading c.next.new.self.input) _ (is c.items.items.input) (is c.next.new.self.input) p.item p.progress

pub returns-in_err-item-clause-err : goal.returns-in_err-item-clause-err
returns-in_err-item-clause-err g c =
    let reading = g.R.Reader.reading in
    let error = c.in_err-item.field-0.0 in
    handed_on c.from_residual-in_err-item.result (from_read error) _ c.from_residual-in_err-item.ensures
    (inr (goes_wrong _ _ reading c.args.unit c.args.offset.0 c.args.places.now.items c.items.places.items c.items.items c.next.new.self c.items.invariant error (from_read error) c.in_err-item.ensures refl))

pub returns-clause-ok : goal.returns-clause-ok
returns-clause-ok g c =
    let reading = g.R.Reader.reading in
    goes_to_close _ _ reading c.args.unit c.args.offset.0 c.args.places.now.items c.items.places.items c.items.items c.next.new.self c.items.invariant
    (closes _ _ reading c.args.unit c.items.items c.next.new.self _ c.in_ok-item.ensures c.in_default.is)
