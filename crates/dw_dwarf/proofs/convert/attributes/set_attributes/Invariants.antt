use Rattle.dw_dwarf.proofs.Setting.{AreSet}
use Rattle.dw_dwarf.proofs.convert.attributes.set_attributes.Given as goal

abbrev pub invariant-attributes : goal.invariant-attributes
invariant-attributes l = AreSet l.fn.entry l.entry l.yielded
