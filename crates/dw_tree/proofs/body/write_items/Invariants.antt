use Rattle.std.proofs.Common.{take}
use Rattle.std.specs.Prelude.{[], IsFalse}
use Rattle.dw_base.specs.declared.error.Error.{Error}
use Rattle.dw_writer.specs.Drafts.{Drafts}
use Rattle.dw_entries.specs.Tree.{marks}
use Rattle.dw_tree.specs.Coded.{shapes_of}
use Rattle.dw_tree.specs.Pending.{AreMarksRanged}
use Rattle.dw_tree.specs.TargetsAt.{targets_at}
use Rattle.dw_tree.specs.UnitFaults.{marks_fail}
use Rattle.dw_tree.specs.UnitText.{marks_draft}
use Rattle.dw_tree.proofs.body.write_items.Given as goal

abbrev pub invariant-loop-k : goal.invariant-loop-k
invariant-loop-k g l = record {
  added : Drafts (g.W.Writer.meaning l.initial.w) (g.W.Writer.meaning l.w) l.initial.fixups l.fixups (marks_draft l.encoding l.entries (targets_at l.targets) (shapes_of l.encoding l.entries [] (marks l.items)) (take l.k (marks l.items)));
  sound : (e : Error) → IsFalse (marks_fail l.encoding l.entries (targets_at l.targets) (g.W.Writer.meaning l.initial.w).is_plain (take l.k (marks l.items)) e);
  ranged : AreMarksRanged l.encoding l.entries (take l.k (marks l.items));
}
