use Rattle.std.proofs.Common.{◌≡◌}
use Rattle.dw_dwarf.specs.NewUnits.{unit_with}
use Rattle.dw_dwarf.proofs.convert.units.new_unit.Given as goal

abbrev pub invariant-loop : goal.invariant-loop
invariant-loop l = record {
  unit : l.unit ≡ unit_with l.fn.encoding l.unit.reserved;
  reserved : l.unit.reserved ≡ l.counter;
}
