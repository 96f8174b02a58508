use Rattle.std.proofs.Common.{◌≡◌, ◌∙◌, sym, subst, ap, length, ◌⊎◌, ⊎_elim, inl, inr, ◌<◌, arith, IsTrue}
use Rattle.std.proofs.lemmas.Result.{err_from_is_err_and}
use Rattle.std.specs.Prelude.{◌++◌, IsFalse}
use Rattle.std.specs.List.{list_all}
use Rattle.dw_sources.specs.declared.convert_error.ConvertError.TheVariants as errors
use Rattle.dw_base.specs.Numbers.{is_width}
use Rattle.dw_read.specs.Reading.{left}
use Rattle.dw_read.specs.UnitHeaders.{PassesUnit}
use Rattle.dw_read_units.proofs.UnitWalk.{unit_shorter}
use Rattle.dw_arange_table.specs.Covers.{is_addressed, unit_set, set_if_any}
use Rattle.dw_arange_table.proofs.UnitSteps.{covered_more, covered_end, over_end, fails_after, fails_read, fails_full, fails_set, unit_width}
use Rattle.dw_arange_table.proofs.units.unit_sets.Goals as goal

pub returns-in_err-header-clause-err : goal.returns-in_err-header-clause-err
returns-in_err-header-clause-err g c =
    let reading = g.R.Reader.reading in
    let d = c.args.dwarf.now in
    let here = length (left (reading c.units.headers.input)) in
    let more : here ≡ 0 → ⊥ = λ z. c.in_err-header.ensures.not_over (inr z) in
    let some : 0 < here = omega arith in
    let p = err_from_is_err_and c.from_residual.result c.from_residual.ensures.1 in
    rw (p.1, p.2) (fails_after reading d c.units.headers _ _ c.units.invariant (fails_read reading d (reading c.units.headers.input) _ (inl (some, c.in_err-header.ensures.reason))))

pub returns-in_err-found-clause-err : goal.returns-in_err-found-clause-err
returns-in_err-found-clause-err g c =
    let reading = g.R.Reader.reading in
    let d = c.args.dwarf.now in
    let at = reading c.units.headers.input in
    let u : PassesUnit reading c.units.headers c.next.new.self c.in-Some.header = rw c.in-Some.is at c.in_ok-header.ensures in
    let p = err_from_is_err_and c.from_residual-in_err-found.result c.from_residual-in_err-found.ensures.1 in
    rw (p.1, p.2)
    (fails_after reading d c.units.headers _ _ c.units.invariant
    (⊎_elim (λ full. fails_full reading d at _ full)
    (λ why. fails_read reading d at _ (inr (record { next = reading c.next.new.self.input; header = c.in-Some.header; read = u.unit; misses = why })))
    c.in_err-found.ensures.err))

pub set_of-requires : goal.set_of-requires
set_of-requires g c =
    let reading = g.R.Reader.reading in
    let u : PassesUnit reading c.units.headers c.next.new.self c.in-Some.header = rw c.in-Some.is at c.in_ok-header.ensures in
    subst (λ e. IsTrue (is_width e.address_size)) (sym c.in_ok-found.ensures.ok.encoding) (unit_width reading _ _ c.in-Some.header u.unit)

pub returns-in_err-set-clause-err : goal.returns-in_err-set-clause-err
returns-in_err-set-clause-err g c =
    let reading = g.R.Reader.reading in
    let d = c.args.dwarf.now in
    let u : PassesUnit reading c.units.headers c.next.new.self c.in-Some.header = rw c.in-Some.is at c.in_ok-header.ensures in
    let found = c.in_ok-found.ensures.ok in
    let ranges = c.in_ok-found.found.ranges.items in
    let e = c.in_err-set.field-0.0 in
    let why = subst (λ x. (e ≡ errors.NoMemory) ⊎ ((e ≡ errors.IntegerOverflow) × IsFalse (list_all (is_addressed x.address_size) ranges))) found.encoding c.in_err-set.ensures.err in
    let p = err_from_is_err_and c.from_residual-in_err-set.result c.from_residual-in_err-set.ensures.1 in
    rw (p.1, p.2)
    (fails_after reading d c.units.headers _ _ c.units.invariant (fails_set reading d c.units.headers c.next.new.self c.in-Some.header ranges e u found.covers why))

pub units-smaller : goal.units-smaller
units-smaller g c =
    let reading = g.R.Reader.reading in
    let is = g.met.R.Reader.is_reading in
    let u : PassesUnit reading c.units.headers c.next.new.self c.in-Some.header = rw c.in-Some.is at c.in_ok-header.ensures in
    unit_shorter reading c.args.dwarf.now (reading c.units.headers.input) (reading c.next.new.self.input) c.in-Some.header (is c.units.headers.input) (is c.next.new.self.input) (is c.in-Some.header.body) u.unit

pub units-preserved : goal.units-preserved
units-preserved g c =
    let reading = g.R.Reader.reading in
    let u : PassesUnit reading c.units.headers c.next.new.self c.in-Some.header = rw c.in-Some.is at c.in_ok-header.ensures in
    let found = c.in_ok-found.ensures.ok in
    let ranges = c.in_ok-found.found.ranges.items in
    let addressed = subst (λ e. IsTrue (list_all (is_addressed e.address_size) ranges)) found.encoding c.in_ok-set.ensures.addressed in
    let set = c.in_ok-set.ensures.ok ∙ ap (λ e. unit_set e c.in_ok-found.found.unit.0 ranges) found.encoding ∙ ap (λ o. unit_set c.in-Some.header.fields.encoding o.0 ranges) found.place in
    covered_more reading c.args.dwarf.now c.units.headers c.next.new.self _ _ c.in-Some.header ranges c.units.invariant u found.covers addressed (c.in_ok-keep.ensures.ok ∙ ap (λ s. c.units.sets.items ++ set_if_any s) set)

pub returns-clause-ok : goal.returns-clause-ok
returns-clause-ok g c =
    let reading = g.R.Reader.reading in
    let over = rw c.in_default.is at c.in_ok-header.ensures in
    covered_end reading c.args.dwarf.now g.met.R.Reader.is_reading c.units.headers _ c.units.invariant (over_end reading c.args.dwarf.now c.units.headers _ c.units.invariant over.1)
