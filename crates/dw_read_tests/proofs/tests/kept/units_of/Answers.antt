use Rattle.std.proofs.Common.{◌≤◌, All, sym, subst}
use Rattle.std.proofs.lemmas.List.Elements.{All-push}
use Rattle.dw_read.specs.UnitHeaders.{PassesUnit}
use Rattle.dw_read_units.proofs.UnitWalk.{header_place, unit_shorter}
use Rattle.dw_read_tests.proofs.tests.kept.units_of.Goals as goal

pub units-smaller : goal.units-smaller
units-smaller g c =
    let reading = g.R.Reader.reading in
    let u : PassesUnit reading c.units.headers c.next.new.self c.in-Some.header = rw c.in-Some.is at c.in_ok-header.ensures in
    unit_shorter reading c.args.dwarf.now (reading c.units.headers.input) (reading c.next.new.self.input) c.in-Some.header (g.met.R.Reader.is_reading c.units.headers.input) (g.met.R.Reader.is_reading c.next.new.self.input) (g.met.R.Reader.is_reading c.in-Some.header.body) u.unit

pub units-preserved : goal.units-preserved
units-preserved g c =
    let reading = g.R.Reader.reading in
    let u : PassesUnit reading c.units.headers c.next.new.self c.in-Some.header = rw c.in-Some.is at c.in_ok-header.ensures in
    let here = header_place reading c.args.dwarf.now (reading c.units.headers.input) (reading c.next.new.self.input) c.in-Some.header u.unit in
    subst (λ xs. All (λ u. u.header.offset.0 ≤ (reading u.header.body).place) xs) (sym c.in_ok-push.ensures.items)
    (All-push (λ u. u.header.offset.0 ≤ (reading u.header.body).place) c.units.units.items c.in_ok-unit.unit c.units.invariant (subst (λ h. h.offset.0 ≤ (reading h.body).place) (sym c.in_ok-unit.ensures.ok.header) here))
