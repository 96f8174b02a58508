use Rattle.std.proofs.Common.{◌≡◌, ◌++◌, map, take}
use Rattle.dw_dwarf.specs.NewUnits.{unit_for}
use Rattle.dw_dwarf.proofs.convert.found.FoundUnits.add_new.Given as goal

abbrev pub invariant-units : goal.invariant-units
invariant-units g l = l.units ≡ l.initial.units ++ map unit_for (take l.numbered-index l.numbered-items)
