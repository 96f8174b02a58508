use Rattle.std.proofs.Common.{inl, inr}
use Rattle.std.proofs.lemmas.Result.{err_from_is_err_and}
use Rattle.dw_read.specs.UnitHeaders.{PassesUnit}
use Rattle.dw_read_units.proofs.UnitWalk.{unit_shorter}
use Rattle.dw_entry_ids.proofs.FirstLaws.{first_none, first_more, unit_at, up_to-behind}
use Rattle.dw_live_code.proofs.file_units.file_units.Goals as goal

pub units-init : goal.units-init
units-init g c =
    first_none g.R.Reader.reading c.args.dwarf.now c.units-headers.result c.new-units.result.items c.units-headers.ensures.input c.units-headers.ensures.begun c.new-units.ensures.items

pub returns-in_err-header-clause-err : goal.returns-in_err-header-clause-err
returns-in_err-header-clause-err g c =
    let p = err_from_is_err_and c.from_residual.result c.from_residual.ensures.1 in
    rw (p.1, p.2) (inr (record { front = c.units.units.items; here = c.units.headers; are = c.units.invariant; why = inl (c.next.new.self, c.in_err-header.ensures) }))

pub returns-in_err-unit-clause-err : goal.returns-in_err-unit-clause-err
returns-in_err-unit-clause-err g c =
    let p = err_from_is_err_and c.from_residual-in_err-unit.result c.from_residual-in_err-unit.ensures.1 in
    let u : PassesUnit g.R.Reader.reading c.units.headers c.next.new.self c.in-Some.header = rw c.in-Some.is at c.in_ok-header.ensures in
    rw (p.1, p.2) (inr (record {
      front = c.units.units.items;
      here = c.units.headers;
      are = c.units.invariant;
      why = inr (record { after = c.next.new.self; header = c.in-Some.header; passes = u; misses = c.in_err-unit.ensures.err });
    }))

pub units-smaller : goal.units-smaller
units-smaller g c =
    let reading = g.R.Reader.reading in
    let u : PassesUnit reading c.units.headers c.next.new.self c.in-Some.header = rw c.in-Some.is at c.in_ok-header.ensures in
    unit_shorter reading c.args.dwarf.now (reading c.units.headers.input) (reading c.next.new.self.input) c.in-Some.header (g.met.R.Reader.is_reading c.units.headers.input) (g.met.R.Reader.is_reading c.next.new.self.input) (g.met.R.Reader.is_reading c.in-Some.header.body) u.unit

pub units-preserved : goal.units-preserved
units-preserved g c =
    let reading = g.R.Reader.reading in
    let u : PassesUnit reading c.units.headers c.next.new.self c.in-Some.header = rw c.in-Some.is at c.in_ok-header.ensures in
    first_more reading c.args.dwarf.now c.units.units.items c.push.new.self.items c.units.headers c.next.new.self c.in_ok-unit.unit c.units.invariant
    (unit_at reading c.args.dwarf.now c.units.headers c.next.new.self c.in-Some.header c.in_ok-unit.unit u c.in_ok-unit.ensures.ok) c.in_ok-push.ensures.items

pub returns-clause-all : goal.returns-clause-all
returns-clause-all g c =
    let o = rw c.in_default.is at c.in_ok-header.ensures in
    record { behind = c.units.headers; are = c.units.invariant; over = o.1 }

pub returns-clause-in_order : goal.returns-clause-in_order
returns-clause-in_order g c = up_to-behind g.R.Reader.reading c.args.dwarf.now c.units.units.items c.units.headers c.units.invariant
