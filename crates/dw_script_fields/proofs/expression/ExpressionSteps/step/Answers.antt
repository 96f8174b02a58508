use Rattle.std.proofs.Common.{◌≡◌, ◌∙◌, refl, rules, arith, sym, ap, Ok, Err, length}
use Rattle.dw_script_fields.specs.Expressions.{walk_left}
use Rattle.dw_ends.specs.Pieces.{pieces_left}
use Rattle.dw_script_fields.specs.Steps.{step_field, walk, is_open, step_before}
use Rattle.dw_script_fields.proofs.Walks.{step_field-shorter, walk-closed, walk-step, walk-failed}
use Rattle.dw_script_fields.proofs.expression.ExpressionSteps.step.Goals as goal

pub returns-clause-fewer : goal.returns-clause-fewer
returns-clause-fewer c =
    let s = c.args.self.now in
    let read : step_field s.depth s.is_first (pieces_left s.fields) ≡ Ok (c.in_ok-step.step, pieces_left c.next_step.new.fields) = search rules in
    step_field-shorter s.depth s.is_first (pieces_left s.fields) _ read

pub returns-then-self-eq0-clause-walk : goal.returns-then-self-eq0-clause-walk
unfolding walk_left
returns-then-self-eq0-clause-walk c =
    let s = c.args.self.now in
    (refl, ap (λ n. walk (length (pieces_left s.fields)) n s.is_first (pieces_left s.fields)) c.if-self-eq0.true ∙ walk-closed _ s.is_first (pieces_left s.fields))

pub returns-in_err-step-clause-walk : goal.returns-in_err-step-clause-walk
unfolding walk_left
returns-in_err-step-clause-walk c =
    let s = c.args.self.now in
    let failed : step_field s.depth s.is_first (pieces_left s.fields) ≡ Err c.in_err-step.field-0.0 = search rules in
    let walked = walk-failed s.depth s.is_first (pieces_left s.fields) c.in_err-step.field-0.0 (omega arith) failed in
    search (rules, walked)

pub returns-clause-walk : goal.returns-clause-walk
unfolding walk_left
returns-clause-walk c =
    let s = c.args.self.now in
    let step = c.in_ok-step.step in
    let fields = pieces_left c.next_step.new.fields in
    let read : step_field s.depth s.is_first (pieces_left s.fields) ≡ Ok (step, fields) = search rules in
    let walked = walk-step s.depth s.is_first (pieces_left s.fields) step fields (omega arith) read in
    walked
    ∙ ap (λ d. step_before step (walk (length fields) d (is_open step) fields)) (sym c.depth_after-self.ensures)
    ∙ ap (λ f. step_before step (walk (length fields) c.depth_after-self.result f fields)) (sym c.is_open-self.ensures)
