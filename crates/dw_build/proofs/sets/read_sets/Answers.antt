use Rattle.std.proofs.Common.{◌∙◌, sym, ap, subst, ◌+◌, length, arith}
use Rattle.std.proofs.lemmas.Result.{err_from_is_err_and}
use Rattle.dw_ends.specs.TextLines.{lines_left}
use Rattle.dw_build.specs.Script.{after_each}
use Rattle.dw_build.specs.Sets.{after_link_line}
use Rattle.dw_build.specs.SetsValue.{begun_in, empty_begun}
use Rattle.dw_build.proofs.Lines.{after_each-ok, sets_ended, sets_refused}
use Rattle.dw_build.proofs.SetUnits.{AreOpenSets, begun_open, link_line_open}
use Rattle.dw_build.proofs.sets.read_sets.Goals as goal

pub loop-line-init : goal.loop-line-init
loop-line-init c =
    let same = ap lines_left c.into_iter-line-iterator.ensures.into_iter_gives in
    record {
      can_next = tt;
      finite = tt;
      open_units = subst AreOpenSets (sym c.new-begun.ensures) begun_open;
      left = ap (λ s. after_each after_link_line 1 s (lines_left c.into_iter-line-iterator.result)) c.new-begun.ensures
          ∙ ap (after_each after_link_line 1 empty_begun) (same ∙ c.lines-line-items.ensures.lines);
      room = omega (arith, c.lines-line-items.ensures.few, ap length same);
    }

pub loop-line-preserved : goal.loop-line-preserved
loop-line-preserved c =
    let step = c.in-Some.ensures.steps in
    record {
      can_next = tt;
      finite = tt;
      open_units = link_line_open (begun_in c.loop-line.begun) (begun_in c.read_line.new.self) c.in-Some.line.now c.in_ok-read_line.ensures.ok c.loop-line.invariant.open_units;
      left = sym (after_each-ok after_link_line (c.loop-line.number + 1) (begun_in c.loop-line.begun) (begun_in c.read_line.new.self) c.in-Some.line.now (lines_left c.next.new.self) c.in_ok-read_line.ensures.ok)
          ∙ sym (ap (after_each after_link_line (c.loop-line.number + 1) (begun_in c.loop-line.begun)) step) ∙ c.loop-line.invariant.left;
      room = omega (arith, c.loop-line.invariant.room, ap length step);
    }

pub overflow_add-number : goal.overflow_add-number
overflow_add-number c = omega (arith, c.loop-line.invariant.room, ap length c.in-Some.ensures.steps, c.requires)

pub read_line-requires : goal.read_line-requires
read_line-requires c = c.loop-line.invariant.open_units.1

pub returns-in_err-read_line-clause-err : goal.returns-in_err-read_line-clause-err
returns-in_err-read_line-clause-err c =
    let p = err_from_is_err_and c.from_residual.result c.from_residual.ensures.1 in
    let same = sym (ap (after_each after_link_line (c.loop-line.number + 1) (begun_in c.loop-line.begun)) c.in-Some.ensures.steps) ∙ c.loop-line.invariant.left in
    rw (p.1, p.2) (sets_refused c.args.bytes.now (c.loop-line.number + 1) (begun_in c.loop-line.begun) c.in-Some.line.now (lines_left c.next.new.self) c.in_err-read_line.field-0.0 same c.in_err-read_line.ensures.err)

pub returns-clause-ok : goal.returns-clause-ok
returns-clause-ok c =
    let same = sym (ap (after_each after_link_line (c.loop-line.number + 1) (begun_in c.loop-line.begun)) c.in-None.ensures.steps.0) ∙ c.loop-line.invariant.left in
    sets_ended c.args.bytes.now (begun_in c.loop-line.begun) c.end.result (sym same) c.end.ensures.ok
