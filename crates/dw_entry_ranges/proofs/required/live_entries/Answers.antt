use Rattle.std.proofs.Common.{◌≡◌, sym, subst, length, true, false, inl, inr, ⊎_elim}
use Rattle.std.proofs.lemmas.Result.{err_from_is_err_and}
use Rattle.dw_read.specs.Reading.{left}
use Rattle.dw_read.specs.UnitHeaders.{PassesUnit}
use Rattle.dw_read_units.proofs.UnitWalk.{header_place, header_refused, unit_refused, unit_shorter}
use Rattle.dw_entry_ranges.proofs.RequiredSteps.{UnitsSoFar, misses_entry, no_units, units_end, units_more}
use Rattle.dw_entry_ranges.proofs.required.live_entries.Goals as goal

pub units-init : goal.units-init
units-init g c =
    subst (λ xs. UnitsSoFar g.R.Reader.reading c.args.dwarf.now c.args.live.now c.units-headers.result xs) (sym c.new-required.ensures.items)
    (no_units g.R.Reader.reading c.args.dwarf.now c.args.live.now c.units-headers.result c.units-headers.ensures.input c.units-headers.ensures.begun)

pub returns-in_err-header-clause-err : goal.returns-in_err-header-clause-err
returns-in_err-header-clause-err g c =
    let p = err_from_is_err_and c.from_residual.result c.from_residual.ensures.1 in
    let more : length (left (g.R.Reader.reading c.units.headers.input)) ≡ 0 → ⊥ = λ z. c.in_err-header.ensures.not_over (inr z) in
    rw (p.1, p.2) (inr (inl (header_refused g.R.Reader.reading c.args.dwarf.now c.units.headers _ _ c.units.invariant.walked more c.in_err-header.ensures.reason)))

pub add_unit-requires : goal.add_unit-requires
add_unit-requires g c =
    let reading = g.R.Reader.reading in
    let u : PassesUnit reading c.units.headers c.next.new.self c.in-Some.header = rw c.in-Some.is at c.in_ok-header.ensures in
    header_place reading c.args.dwarf.now (reading c.units.headers.input) (reading c.next.new.self.input) c.in-Some.header u.unit

pub returns-in_err-add_unit-clause-err : goal.returns-in_err-add_unit-clause-err
returns-in_err-add_unit-clause-err g c =
    let reading = g.R.Reader.reading in
    let p = err_from_is_err_and c.from_residual-in_err-add_unit.result c.from_residual-in_err-add_unit.ensures.1 in
    let u : PassesUnit reading c.units.headers c.next.new.self c.in-Some.header = rw c.in-Some.is at c.in_ok-header.ensures in
    let i = g.met.R.Reader.is_reading c.units.headers.input in
    let j = g.met.R.Reader.is_reading c.next.new.self.input in
    let k = g.met.R.Reader.is_reading c.in-Some.header.body in
    rw (p.1, p.2) (⊎_elim inl (λ why. inr (⊎_elim
    (λ r. inl (unit_refused reading c.args.dwarf.now c.units.headers c.next.new.self _ c.in-Some.header _ i j k c.units.invariant.walked u r))
    (λ m. inr (misses_entry reading c.args.dwarf.now c.args.live.now c.units.headers c.next.new.self c.units.required.items c.in-Some.header m.at i j k c.units.invariant u m.file m.fields _ m.misses))
    why)) c.in_err-add_unit.ensures.err)

pub units-smaller : goal.units-smaller
units-smaller g c =
    let reading = g.R.Reader.reading in
    let u : PassesUnit reading c.units.headers c.next.new.self c.in-Some.header = rw c.in-Some.is at c.in_ok-header.ensures in
    unit_shorter reading c.args.dwarf.now (reading c.units.headers.input) (reading c.next.new.self.input) c.in-Some.header (g.met.R.Reader.is_reading c.units.headers.input) (g.met.R.Reader.is_reading c.next.new.self.input) (g.met.R.Reader.is_reading c.in-Some.header.body) u.unit

pub units-preserved : goal.units-preserved
units-preserved g c =
    let reading = g.R.Reader.reading in
    let u : PassesUnit reading c.units.headers c.next.new.self c.in-Some.header = rw c.in-Some.is at c.in_ok-header.ensures in
    let s = c.in_ok-add_unit.ensures.ok in
    units_more reading c.args.dwarf.now c.args.live.now c.units.headers c.next.new.self c.units.required.items c.in-Some.header s.at
    (g.met.R.Reader.is_reading c.units.headers.input) (g.met.R.Reader.is_reading c.next.new.self.input) (g.met.R.Reader.is_reading c.in-Some.header.body) c.units.invariant u s.file s.fields c.add_unit.new.required.items s.rows

pub returns-clause-ok : goal.returns-clause-ok
returns-clause-ok g c = λ list made.
    let reading = g.R.Reader.reading in
    let o = rw c.in_default.is at c.in_ok-header.ensures in
    let going : c.units.headers.has_failed ≡ false = c.units.invariant.walked.going in
    let here : length (left (reading c.units.headers.input)) ≡ 0 = ⊎_elim (λ (f : c.units.headers.has_failed ≡ true). cc) (λ z. z) o.1 in
    units_end reading c.args.dwarf.now c.args.live.now c.units.headers c.units.required.items list made c.units.invariant here
