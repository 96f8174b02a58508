use Rattle.std.proofs.Common.{◌∙◌, sym, ap, subst, ◌+◌, length, arith}
use Rattle.dw_ends.specs.TextLines.{lines_left}
use Rattle.dw_build.specs.Script.{script, after_lines, AreOpen}
use Rattle.dw_build.specs.ScriptValue.{empty_script, script_in}
use Rattle.dw_build.proofs.Lines.{after_lines-ok}
use Rattle.dw_build.proofs.ScriptUnits.{none_open, line_open}
use Rattle.dw_build.proofs.script.read_script.Goals as goal

pub loop-line-init : goal.loop-line-init
unfolding script
loop-line-init c =
    let same = ap lines_left c.into_iter-line-iterator.ensures.into_iter_gives in
    record {
      can_next = tt;
      finite = tt;
      open_units = subst (λ s. AreOpen s.dwarf.units) (sym c.new-script.ensures) none_open;
      left = ap (λ s. after_lines 1 s (lines_left c.into_iter-line-iterator.result)) c.new-script.ensures
          ∙ ap (after_lines 1 empty_script) (same ∙ c.lines-line-items.ensures.lines);
      room = omega (arith, c.lines-line-items.ensures.few, ap length same);
    }

pub loop-line-preserved : goal.loop-line-preserved
loop-line-preserved c =
    let step = c.in-Some.ensures.steps in
    record {
      can_next = tt;
      finite = tt;
      open_units = line_open (script_in c.loop-line.script) (script_in c.read_line.new.self) c.in-Some.line.now c.in_ok-read_line.ensures.ok c.loop-line.invariant.open_units;
      left = sym (after_lines-ok (c.loop-line.number + 1) (script_in c.loop-line.script) (script_in c.read_line.new.self) c.in-Some.line.now (lines_left c.next.new.self) c.in_ok-read_line.ensures.ok)
          ∙ sym (ap (after_lines (c.loop-line.number + 1) (script_in c.loop-line.script)) step) ∙ c.loop-line.invariant.left;
      room = omega (arith, c.loop-line.invariant.room, ap length step);
    }

pub overflow_add-number : goal.overflow_add-number
overflow_add-number c = omega (arith, c.loop-line.invariant.room, ap length c.in-Some.ensures.steps, c.requires)

pub returns-clause-ok : goal.returns-clause-ok
returns-clause-ok c =
    sym c.loop-line.invariant.left ∙ ap (after_lines (c.loop-line.number + 1) (script_in c.loop-line.script)) c.in-None.ensures.steps.0

pub read_line-requires : goal.read_line-requires
read_line-requires c = c.loop-line.invariant.open_units
