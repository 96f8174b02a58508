use Rattle.std.proofs.Common.{take}
use Rattle.std.specs.Prelude.{IsFalse}
use Rattle.dw_base.specs.declared.error.Error.{Error}
use Rattle.dw_writer.specs.Drafts.{Drafts}
use Rattle.dw_tree.specs.Pending.{AreRanged}
use Rattle.dw_tree.specs.TargetsAt.{targets_at}
use Rattle.dw_tree.specs.UnitFaults.{attributes_fail}
use Rattle.dw_tree.specs.UnitText.{attributes_draft}
use Rattle.dw_tree.proofs.body.write_attributes.Given as goal

abbrev pub invariant-loop-attribute : goal.invariant-loop-attribute
invariant-loop-attribute g l = record {
  added : Drafts (g.W.Writer.meaning l.initial.w) (g.W.Writer.meaning l.w) l.initial.fixups l.fixups (attributes_draft l.encoding (targets_at l.targets) (take l.attribute-index l.attributes));
  sound : (e : Error) → IsFalse (attributes_fail l.encoding (targets_at l.targets) (g.W.Writer.meaning l.initial.w).is_plain (take l.attribute-index l.attributes) e);
  ranged : AreRanged l.encoding (take l.attribute-index l.attributes);
}
