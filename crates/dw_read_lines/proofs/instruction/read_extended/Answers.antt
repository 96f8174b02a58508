use Rattle.std.proofs.Common.{sym, ℕ, Option, ◌≡◌, ◌∙◌, ap, subst, refl, Bool, Ok, Err}
use Rattle.std.proofs.lemmas.Result.{err_from_is_err_and, IfOk-weaker, IfErr-weaker}
use Rattle.dw_base.specs.LineMachine.{Instruction}
use Rattle.dw_read.specs.Reading.{Reading, left}
use Rattle.dw_base.specs.Leb128.{uleb_at}
use Rattle.dw_read.specs.Reasons.{uleb_read}
use Rattle.dw_read.proofs.Chain.{took, took_of, went, went_of, went_then, went_order, number_took, number_not}
use Rattle.dw_read.proofs.Laws.{uleb_law}
use Rattle.dw_read.proofs.HeaderParts.{bytes_took}
use Rattle.dw_read_lines.specs.LineInstructions.{coded_read, extended_read, marked_code}
use Rattle.dw_read_lines.specs.LineInstructionViews.{instruction_of}
use Rattle.dw_read_lines.proofs.instruction.read_extended.Goals as goal

pub returns-in_err-length-clause-err : goal.returns-in_err-length-clause-err
unfolding extended_read
returns-in_err-length-clause-err g c =
    let p = err_from_is_err_and c.from_residual.result c.from_residual.ensures.1 in
    rw (p.1, p.2, c.in_err-length.ensures.err.reason) refl

pub returns-in_err-body-clause-err : goal.returns-in_err-body-clause-err
unfolding extended_read
returns-in_err-body-clause-err g c =
    let n1 = (took_of _ uleb_at uleb_read _ _ _ uleb_law c.in_ok-length.ensures.ok).value in
    let p = err_from_is_err_and c.from_residual-in_err-body.result c.from_residual-in_err-body.ensures.1 in
    rw (p.1, p.2, n1, c.in_err-body.ensures.err.reason) refl

pub returns-in_err-code-clause-err : goal.returns-in_err-code-clause-err
unfolding extended_read
returns-in_err-code-clause-err g c =
    let big = (g.R.Reader.reading c.args.input.now).is_big in
    let t = took_of _ uleb_at uleb_read _ _ _ uleb_law c.in_ok-length.ensures.ok in
    let n1 = t.value in
    let n2 = bytes_took _ _ _ _ (g.met.R.Reader.is_reading c.read_uleb128.new.self) c.in_ok-body.ensures.part c.in_ok-body.ensures.ok in
    let o = ap (λ (r : Reading). r.is_big) c.in_ok-body.ensures.part ∙ went_order _ _ (went _ _ _ _ _ t) in
    let p = err_from_is_err_and c.from_residual-in_err-code.result c.from_residual-in_err-code.ensures.1 in
    rw (p.1, p.2, n1, n2, number_not big 1 _ _ o c.in_err-code.ensures.err) refl

pub returns-clause-err : goal.returns-clause-err
unfolding extended_read
returns-clause-err g c =
    let reading = g.R.Reader.reading in
    let big = (reading c.args.input.now).is_big in
    let t = took_of _ uleb_at uleb_read _ _ _ uleb_law c.in_ok-length.ensures.ok in
    let n1 = t.value in
    let n2 = bytes_took _ _ _ _ (g.met.R.Reader.is_reading c.read_uleb128.new.self) c.in_ok-body.ensures.part c.in_ok-body.ensures.ok in
    let o = ap (λ (r : Reading). r.is_big) c.in_ok-body.ensures.part ∙ went_order _ _ (went _ _ _ _ _ t) in
    let n3 = number_took big 1 _ _ _ o c.in_ok-code.ensures.ok in
    let w = went_order _ _ (went_of 1 _ _ c.in_ok-code.ensures.passes) ∙ o in
    IfErr-weaker c.read_coded.result _ _ (λ e h.
    let k = subst (λ (b : Bool). coded_read b c.in_ok-code.code (left (reading c.read_u8.new.self)) ≡ Err e) w h in
    rw (n1, n2, n3, k) refl) c.read_coded.ensures.err

pub returns-clause-ok : goal.returns-clause-ok
unfolding extended_read
returns-clause-ok g c =
    let reading = g.R.Reader.reading in
    let big = (reading c.args.input.now).is_big in
    let t = took_of _ uleb_at uleb_read _ _ _ uleb_law c.in_ok-length.ensures.ok in
    let n1 = t.value in
    let n2 = bytes_took _ _ _ _ (g.met.R.Reader.is_reading c.read_uleb128.new.self) c.in_ok-body.ensures.part c.in_ok-body.ensures.ok in
    let o = ap (λ (r : Reading). r.is_big) c.in_ok-body.ensures.part ∙ went_order _ _ (went _ _ _ _ _ t) in
    let n3 = number_took big 1 _ _ _ o c.in_ok-code.ensures.ok in
    let w = went_order _ _ (went_of 1 _ _ c.in_ok-code.ensures.passes) ∙ o in
    IfOk-weaker c.read_coded.result _ _ (λ i h.
    let k = subst (λ (b : Bool). coded_read b c.in_ok-code.code (left (reading c.read_u8.new.self)) ≡ Ok (instruction_of reading i)) w h in
    took Instruction (extended_read big) _ _ _ (went_then _ _ _ (went _ _ _ _ _ t) (went_of _ _ _ c.in_ok-body.ensures.ok)) (rw (n1, n2, n3, k) refl)) c.read_coded.ensures.ok

pub returns-clause-code : goal.returns-clause-code
unfolding marked_code
returns-clause-code g c =
    let reading = g.R.Reader.reading in
    let big = (reading c.args.input.now).is_big in
    let t = took_of _ uleb_at uleb_read _ _ _ uleb_law c.in_ok-length.ensures.ok in
    let n1 = t.value in
    let n2 = bytes_took _ _ _ _ (g.met.R.Reader.is_reading c.read_uleb128.new.self) c.in_ok-body.ensures.part c.in_ok-body.ensures.ok in
    let o = ap (λ (r : Reading). r.is_big) c.in_ok-body.ensures.part ∙ went_order _ _ (went _ _ _ _ _ t) in
    let n3 = number_took big 1 _ _ _ o c.in_ok-code.ensures.ok in
    IfOk-weaker c.read_coded.result _ _ (λ i h. rw (n1, n2, n3) (ap (λ (k : Option ℕ). Ok k) (sym h))) c.read_coded.ensures.code
