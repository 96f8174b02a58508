use Rattle.std.proofs.Common.{◌≡◌, sym, subst, length, true, false, ⊎_elim, inl, inr}
use Rattle.std.proofs.lemmas.Result.{err_from_is_err_and}
use Rattle.dw_read.specs.Reading.{left}
use Rattle.dw_read.specs.UnitHeaders.{PassesUnit}
use Rattle.dw_read_units.proofs.UnitWalk.{header_refused, unit_refused, unit_shorter, is_complete}
use Rattle.example_read.proofs.UnitWalk.{Walked, walked_none, walked_more, walked_end, is_strict}
use Rattle.example_read.proofs.walk.read_units.Goals as goal

pub units-init : goal.units-init
units-init g c =
    subst (Walked g.R.Reader.reading c.args.dwarf.now c.units-headers.result) (sym c.new-units.ensures.items) (walked_none g.R.Reader.reading c.args.dwarf.now c.units-headers.result c.units-headers.ensures.input c.units-headers.ensures.begun)

pub returns-in_err-header-clause-err : goal.returns-in_err-header-clause-err
returns-in_err-header-clause-err g c =
    let p = err_from_is_err_and c.from_residual.result c.from_residual.ensures.1 in
    let more : length (left (g.R.Reader.reading c.units.headers.input)) ≡ 0 → ⊥ = λ z. c.in_err-header.ensures.not_over (inr z) in
    rw (p.1, p.2) (inr (header_refused g.R.Reader.reading c.args.dwarf.now c.units.headers c.units.invariant.front _ c.units.invariant.walked more c.in_err-header.ensures.reason))

pub returns-in_err-header-clause-complete : goal.returns-in_err-header-clause-complete
returns-in_err-header-clause-complete g c =
    λ units there roots. let p = err_from_is_err_and c.from_residual.result c.from_residual.ensures.1 in
    let more : length (left (g.R.Reader.reading c.units.headers.input)) ≡ 0 → ⊥ = λ z. c.in_err-header.ensures.not_over (inr z) in
    rw (p.1, p.2) (is_complete g.R.Reader.reading c.args.dwarf.now units _ there roots (inr (header_refused g.R.Reader.reading c.args.dwarf.now c.units.headers c.units.invariant.front _ c.units.invariant.walked more c.in_err-header.ensures.reason)))

pub returns-in_err-unit-clause-err : goal.returns-in_err-unit-clause-err
returns-in_err-unit-clause-err g c =
    let reading = g.R.Reader.reading in
    let p = err_from_is_err_and c.from_residual-in_err-unit.result c.from_residual-in_err-unit.ensures.1 in
    let u : PassesUnit reading c.units.headers c.next.new.self c.in-Some.header = rw c.in-Some.is at c.in_ok-header.ensures in
    rw (p.1, p.2) (⊎_elim inl (λ r. inr (unit_refused reading c.args.dwarf.now c.units.headers c.next.new.self c.units.invariant.front c.in-Some.header _
    (g.met.R.Reader.is_reading c.units.headers.input) (g.met.R.Reader.is_reading c.next.new.self.input) (g.met.R.Reader.is_reading c.in-Some.header.body) c.units.invariant.walked u r)) c.in_err-unit.ensures.err)

pub returns-in_err-unit-clause-complete : goal.returns-in_err-unit-clause-complete
returns-in_err-unit-clause-complete g c =
    λ units there roots. let reading = g.R.Reader.reading in
    let p = err_from_is_err_and c.from_residual-in_err-unit.result c.from_residual-in_err-unit.ensures.1 in
    let u : PassesUnit reading c.units.headers c.next.new.self c.in-Some.header = rw c.in-Some.is at c.in_ok-header.ensures in
    rw (p.1, p.2) (is_complete reading c.args.dwarf.now units c.in_err-unit.field-0.0 there roots (⊎_elim inl (λ r. inr (unit_refused reading c.args.dwarf.now c.units.headers c.next.new.self c.units.invariant.front c.in-Some.header _
    (g.met.R.Reader.is_reading c.units.headers.input) (g.met.R.Reader.is_reading c.next.new.self.input) (g.met.R.Reader.is_reading c.in-Some.header.body) c.units.invariant.walked u r)) c.in_err-unit.ensures.err))

pub units-smaller : goal.units-smaller
units-smaller g c =
    let reading = g.R.Reader.reading in
    let u : PassesUnit reading c.units.headers c.next.new.self c.in-Some.header = rw c.in-Some.is at c.in_ok-header.ensures in
    unit_shorter reading c.args.dwarf.now (reading c.units.headers.input) (reading c.next.new.self.input) c.in-Some.header (g.met.R.Reader.is_reading c.units.headers.input) (g.met.R.Reader.is_reading c.next.new.self.input) (g.met.R.Reader.is_reading c.in-Some.header.body) u.unit

pub units-preserved : goal.units-preserved
units-preserved g c =
    let reading = g.R.Reader.reading in
    let u : PassesUnit reading c.units.headers c.next.new.self c.in-Some.header = rw c.in-Some.is at c.in_ok-header.ensures in
    walked_more reading c.args.dwarf.now c.units.headers c.next.new.self c.units.units.items c.push.new.self.items c.in-Some.header c.in_ok-unit.unit
    (g.met.R.Reader.is_reading c.units.headers.input) (g.met.R.Reader.is_reading c.next.new.self.input) (g.met.R.Reader.is_reading c.in-Some.header.body) c.units.invariant u c.in_ok-unit.ensures.ok c.in_ok-push.ensures.items

pub returns-clause-ok : goal.returns-clause-ok
returns-clause-ok g c =
    let reading = g.R.Reader.reading in
    let o = rw c.in_default.is at c.in_ok-header.ensures in
    let going : c.units.headers.has_failed ≡ false = c.units.invariant.walked.going in
    let here : length (left (reading c.units.headers.input)) ≡ 0 = ⊎_elim (λ (f : c.units.headers.has_failed ≡ true). cc) (λ z. z) o.1 in
    walked_end reading c.args.dwarf.now c.units.headers c.units.units.items c.units.invariant here

pub returns-clause-strict : goal.returns-clause-strict
returns-clause-strict g c =
    λ units begins there. let reading = g.R.Reader.reading in
    let o = rw c.in_default.is at c.in_ok-header.ensures in
    let going : c.units.headers.has_failed ≡ false = c.units.invariant.walked.going in
    let here : length (left (reading c.units.headers.input)) ≡ 0 = ⊎_elim (λ (f : c.units.headers.has_failed ≡ true). cc) (λ z. z) o.1 in
    is_strict reading c.args.dwarf.now c.units.units.items units begins there (walked_end reading c.args.dwarf.now c.units.headers c.units.units.items c.units.invariant here)
