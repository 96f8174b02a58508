use Rattle.std.proofs.Common.{◌≡◌, ◌+◌}
use Rattle.dw_dwarf.proofs.convert.split_units.reserve_ids.Given as goal

abbrev pub invariant-loop : goal.invariant-loop
invariant-loop l = record {
  unit : l.unit ≡ record l.initial.unit { reserved = l.unit.reserved };
  reserved : l.unit.reserved + 1 ≡ l.initial.unit.reserved + l.counter;
}
