use Rattle.std.proofs.Common.{◌≡◌, ◌∙◌, sym, subst, length, true, false, ⊎_elim, inl, inr}
use Rattle.std.proofs.lemmas.Result.{err_from_is_err_and}
use Rattle.dw_read.specs.Reading.{left}
use Rattle.dw_read.specs.UnitHeaders.{PassesUnit}
use Rattle.dw_read_units.proofs.UnitParts.{misses_rows, misses_unit}
use Rattle.dw_read_units.proofs.UnitWalk.{header_refused, unit_refused, unit_shorter}
use Rattle.dw_entry_ids.specs.KeptRows.{keep_of}
use Rattle.dw_entry_ids.specs.Units.{NumbersRows}
use Rattle.dw_entry_ids.proofs.UnitSteps.{Numbered, numbered_none, numbered_more, numbered_end}
use Rattle.dw_entry_ids.proofs.units.number_units.Goals as goal

pub units-init : goal.units-init
units-init g c =
    subst (λ xs. Numbered g.R.Reader.reading c.args.dwarf.now c.units-headers.result xs c.new-ids.result) (sym c.new-units.ensures.items)
    (numbered_none g.R.Reader.reading c.args.dwarf.now c.units-headers.result c.new-ids.result c.units-headers.ensures.input c.units-headers.ensures.begun c.new-ids.ensures)

pub returns-in_err-header-clause-err : goal.returns-in_err-header-clause-err
returns-in_err-header-clause-err g c =
    let p = err_from_is_err_and c.from_residual.result c.from_residual.ensures.1 in
    let more : length (left (g.R.Reader.reading c.units.headers.input)) ≡ 0 → ⊥ = λ z. c.in_err-header.ensures.not_over (inr z) in
    rw (p.1, p.2) (inr (header_refused g.R.Reader.reading c.args.dwarf.now c.units.headers c.units.invariant.front _ c.units.invariant.walked more c.in_err-header.ensures.reason))

pub returns-in_err-unit-clause-err : goal.returns-in_err-unit-clause-err
returns-in_err-unit-clause-err g c =
    let reading = g.R.Reader.reading in
    let p = err_from_is_err_and c.from_residual-in_err-unit.result c.from_residual-in_err-unit.ensures.1 in
    let u : PassesUnit reading c.units.headers c.next.new.self c.in-Some.header = rw c.in-Some.is at c.in_ok-header.ensures in
    rw (p.1, p.2) (⊎_elim inl (λ r. inr (unit_refused reading c.args.dwarf.now c.units.headers c.next.new.self c.units.invariant.front c.in-Some.header _
    (g.met.R.Reader.is_reading c.units.headers.input) (g.met.R.Reader.is_reading c.next.new.self.input) (g.met.R.Reader.is_reading c.in-Some.header.body) c.units.invariant.walked u r)) (misses_unit reading c.args.dwarf.now c.in-Some.header _ c.in_err-unit.ensures.err))

pub returns-in_err-entries-clause-err : goal.returns-in_err-entries-clause-err
returns-in_err-entries-clause-err g c =
    let reading = g.R.Reader.reading in
    let p = err_from_is_err_and c.from_residual-in_err-entries.result c.from_residual-in_err-entries.ensures.1 in
    let u : PassesUnit reading c.units.headers c.next.new.self c.in-Some.header = rw c.in-Some.is at c.in_ok-header.ensures in
    rw (p.1, p.2) (⊎_elim inl (λ r. inr (unit_refused reading c.args.dwarf.now c.units.headers c.next.new.self c.units.invariant.front c.in-Some.header _
    (g.met.R.Reader.is_reading c.units.headers.input) (g.met.R.Reader.is_reading c.next.new.self.input) (g.met.R.Reader.is_reading c.in-Some.header.body) c.units.invariant.walked u
    (misses_rows reading c.args.dwarf.now c.in-Some.header c.in_ok-unit.unit _ c.in_ok-unit.ensures.ok r))) c.in_err-entries.ensures.err)

pub units-smaller : goal.units-smaller
units-smaller g c =
    let reading = g.R.Reader.reading in
    let u : PassesUnit reading c.units.headers c.next.new.self c.in-Some.header = rw c.in-Some.is at c.in_ok-header.ensures in
    unit_shorter reading c.args.dwarf.now (reading c.units.headers.input) (reading c.next.new.self.input) c.in-Some.header (g.met.R.Reader.is_reading c.units.headers.input) (g.met.R.Reader.is_reading c.next.new.self.input) (g.met.R.Reader.is_reading c.in-Some.header.body) u.unit

pub units-preserved : goal.units-preserved
units-preserved g c =
    let reading = g.R.Reader.reading in
    let u : PassesUnit reading c.units.headers c.next.new.self c.in-Some.header = rw c.in-Some.is at c.in_ok-header.ensures in
    subst (λ xs. Numbered reading c.args.dwarf.now c.next.new.self xs c.number_entries.new.ids) (sym c.in_ok-push.ensures.items)
    (numbered_more reading c.args.dwarf.now c.in-Some.header c.in_ok-unit.unit c.new-id.result c.units.ids c.number_entries.new.ids c.in_ok-entries.entries c.in_ok-unit.ensures.ok
    (subst (λ kept. NumbersRows (keep_of kept) reading c.in_ok-unit.unit.header c.in_ok-unit.unit.abbreviations c.new-id.result c.units.ids c.number_entries.new.ids c.in_ok-entries.entries) c.all-all.ensures c.in_ok-entries.ensures.ok)
    c.units.headers c.next.new.self c.units.units.items
    (g.met.R.Reader.is_reading c.units.headers.input) (g.met.R.Reader.is_reading c.next.new.self.input) (g.met.R.Reader.is_reading c.in-Some.header.body) c.units.invariant u (c.new-id.ensures ∙ c.len.ensures ∙ c.units.units.ok.0))

pub returns-clause-ok : goal.returns-clause-ok
returns-clause-ok g c =
    let reading = g.R.Reader.reading in
    let o = rw c.in_default.is at c.in_ok-header.ensures in
    let going : c.units.headers.has_failed ≡ false = c.units.invariant.walked.going in
    let here : length (left (reading c.units.headers.input)) ≡ 0 = ⊎_elim (λ (f : c.units.headers.has_failed ≡ true). cc) (λ z. z) o.1 in
    numbered_end reading c.args.dwarf.now c.units.headers (record { units = c.units.units; ids = c.units.ids }) c.units.invariant here
