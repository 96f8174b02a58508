use Rattle.std.proofs.Common.{◌≤◌, take}
use Rattle.std.specs.Prelude.{IsFalse}
use Rattle.dw_base.specs.declared.error.Error.{Error}
use Rattle.dw_tree.specs.Pending.{info_at}
use Rattle.dw_tree.specs.UnitFaults.{holes_fail}
use Rattle.dw_unit.proofs.Filling.{FillsFront}
use Rattle.dw_unit.proofs.references.fill.Given as goal

abbrev pub invariant-loop-i : goal.invariant-loop-i
invariant-loop-i g l = record {
  front : FillsFront (g.W.Writer.meaning l.initial.w) (g.W.Writer.meaning l.w) (info_at l.units) l.fixups l.i;
  sound : (e : Error) → IsFalse (holes_fail (info_at l.units) (g.W.Writer.meaning l.initial.w).is_plain (take l.i l.fixups) e);
  faults : (g.W.Writer.meaning l.initial.w).faults ≤ (g.W.Writer.meaning l.w).faults;
}
