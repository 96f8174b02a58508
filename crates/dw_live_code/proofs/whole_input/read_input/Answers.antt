use Rattle.std.proofs.Common.{◌∙◌, sym, ap, ◌+◌, length, arith}
use Rattle.std.proofs.lemmas.Result.{err_from_is_err_and}
use Rattle.dw_ends.specs.TextLines.{lines_left}
use Rattle.dw_live_code.specs.LiveLines.{after_input_lines, empty_input, input_of}
use Rattle.dw_live_code.proofs.InputLines.{after_lines-ok, input_refused}
use Rattle.dw_live_code.proofs.whole_input.read_input.Goals as goal

pub loop-line-init : goal.loop-line-init
unfolding input_of
loop-line-init c =
    let same = ap lines_left c.into_iter-line-iterator.ensures.into_iter_gives in
    record {
      can_next = tt;
      finite = tt;
      left = ap (λ r. after_input_lines 1 r (lines_left c.into_iter-line-iterator.result)) c.in_ok-reader.ensures.ok
          ∙ ap (after_input_lines 1 empty_input) (same ∙ c.lines-line-items.ensures.lines);
      room = omega (arith, c.lines-line-items.ensures.few, ap length same);
    }

pub loop-line-preserved : goal.loop-line-preserved
loop-line-preserved c =
    let step = c.in-Some.ensures.steps in
    record {
      can_next = tt;
      finite = tt;
      left = sym (after_lines-ok (c.loop-line.number + 1) c.loop-line.reader c.read_line.new.reader c.in-Some.line.now (lines_left c.next.new.self) c.in_ok-read_line.ensures.ok)
          ∙ sym (ap (after_input_lines (c.loop-line.number + 1) c.loop-line.reader) step) ∙ c.loop-line.invariant.left;
      room = omega (arith, c.loop-line.invariant.room, ap length step);
    }

pub overflow_add-number : goal.overflow_add-number
overflow_add-number c = omega (arith, c.loop-line.invariant.room, ap length c.in-Some.ensures.steps, c.requires)

pub returns-in_err-read_line-clause-err : goal.returns-in_err-read_line-clause-err
returns-in_err-read_line-clause-err c =
    let p = err_from_is_err_and c.from_residual-in_err-read_line.result c.from_residual-in_err-read_line.ensures.1 in
    let same = sym (ap (after_input_lines (c.loop-line.number + 1) c.loop-line.reader) c.in-Some.ensures.steps) ∙ c.loop-line.invariant.left in
    rw (p.1, p.2) (input_refused c.args.bytes.now (c.loop-line.number + 1) c.loop-line.reader c.in-Some.line.now (lines_left c.next.new.self) c.in_err-read_line.field-0.0 same c.in_err-read_line.ensures.err)

pub returns-clause-ok : goal.returns-clause-ok
returns-clause-ok c = record {
  value = c.loop-line.reader;
  says = sym c.loop-line.invariant.left ∙ ap (after_input_lines (c.loop-line.number + 1) c.loop-line.reader) c.in-None.ensures.steps.0;
  live = c.finish.ensures.live;
  endian = c.finish.ensures.endian;
  sections = c.finish.ensures.sections;
}
