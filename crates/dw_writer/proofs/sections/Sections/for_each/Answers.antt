use Rattle.std.proofs.Common.{Ok, Err, sym, ◌∙◌, ap, of_calls}
use Rattle.std.proofs.lemmas.Result.{err_from_is_err_and}
use Rattle.dw_writer.proofs.VisitSteps.{section_of_id_at, Visits-goes_on_at, Visits-fails_at, Visits-ends_at}
use Rattle.dw_writer.proofs.sections.Sections.for_each.Goals as goal
use Rattle.dw_writer.proofs.sections.Sections.for_each.Goals.{in-Some+in_ok-f, in_default}

pub returns-in_err-f : goal.returns-in_err-f
returns-in_err-f g c =
    let p = err_from_is_err_and c.from_residual.result c.from_residual.ensures.1 in (
      c.f.new.self,
      c.loop-id.invariant.1 c.from_residual.result c.f.new.self
          (Visits-fails_at _ _ c.loop-id.id-index c.loop-id-test.true (sym c.in-Some.ensures) c.f.ensures c.in_err-f.was (p.1 ∙ ap Err p.2)),
    )

pub loop-id-preserved : goal.loop-id-preserved
loop-id-preserved g c = elim c.match-get.branch [
  | in-Some+in_ok-f w ↦ (
    search of_calls,
    λ r last rest. c.loop-id.invariant.1 r last
        (Visits-goes_on_at _ _ c.loop-id.id-index c.loop-id-test.true (sym w.in-Some.ensures) w.f.ensures w.in_ok-f.was w.f-is rest),
  )
  | in_default w ↦ absurd (section_of_id_at c.args.self.now c.loop-id.id-index c.loop-id-test.true (sym w.in_default.ensures))
]

pub returns : goal.returns
returns g c = (c.loop-id.f, c.loop-id.invariant.1 (Ok tt) c.loop-id.f (Visits-ends_at _ _ c.loop-id.id-index c.loop-id.f c.loop-id-test.false))
