use Rattle.std.proofs.Common.{refl, ap}
use Rattle.dw_writer.proofs.FaultLaws.{not_failing, counted_same, counted_replaces, counted_replaces_some, counted_patch, counted_kept, never_faulty_at}
use Rattle.dw_writer.proofs.Relocating.{ReplacesSome-faulty}
use Rattle.dw_writer.proofs.fault_vec.FaultVecWriter.write_at.Goals as goal

-- at a call that is to fail

pub returns-then-next_fails-clause-partly : goal.returns-then-next_fails-clause-partly
returns-then-next_fails-clause-partly g c = ReplacesSome-faulty _ _ _ _ _ _ _

pub returns-then-next_fails-clause-same : goal.returns-then-next_fails-clause-same
returns-then-next_fails-clause-same g c = record { order = refl; kind = refl; faults = c.if-next_fails.ensures.kept }

pub returns-then-next_fails-clause-chosen : goal.returns-then-next_fails-clause-chosen
returns-then-next_fails-clause-chosen g c = (λ _. c.if-next_fails.ensures.chosen.0 refl, λ _. refl)

pub returns-then-next_fails-clause-failed : goal.returns-then-next_fails-clause-failed
returns-then-next_fails-clause-failed g c fails = (c.if-next_fails.ensures.failed, refl)

pub returns-then-next_fails-clause-went : goal.returns-then-next_fails-clause-went
returns-then-next_fails-clause-went g c went = absurd (went (c.if-next_fails.ensures.chosen.0 refl))

-- at any other

pub returns-clause-ok : goal.returns-clause-ok
returns-clause-ok g c = counted_replaces _ _ c.args.self.now.plan.faults c.next_fails.new.self.faults c.write_at.result _ _ c.if-next_fails.ensures.kept c.write_at.ensures.ok

pub returns-clause-err : goal.returns-clause-err
returns-clause-err g c = counted_patch c.write_at.result _ _ _ c.args.self.now.plan.faults c.next_fails.new.self.faults c.write_at.ensures.err

pub returns-clause-outside : goal.returns-clause-outside
returns-clause-outside g c = counted_kept _ _ c.args.self.now.plan.faults c.next_fails.new.self.faults c.write_at.result (ap (λ p. p.faults) c.if-next_fails.ensures.quiet) c.write_at.ensures.outside

pub returns-clause-partly : goal.returns-clause-partly
returns-clause-partly g c = counted_replaces_some _ _ c.args.self.now.plan.faults c.next_fails.new.self.faults c.write_at.result _ _ c.write_at.ensures.partly

pub returns-clause-same : goal.returns-clause-same
returns-clause-same g c = counted_same _ _ c.args.self.now.plan.faults c.next_fails.new.self.faults c.write_at.ensures.same c.if-next_fails.ensures.kept

pub returns-clause-chosen : goal.returns-clause-chosen
returns-clause-chosen g c = (λ e. absurd (never_faulty_at c.write_at.result _ _ _ c.write_at.ensures.err e), λ fails. not_failing (c.if-next_fails.ensures.chosen.1 fails))

pub returns-clause-failed : goal.returns-clause-failed
returns-clause-failed g c fails = not_failing (c.if-next_fails.ensures.chosen.1 fails)
