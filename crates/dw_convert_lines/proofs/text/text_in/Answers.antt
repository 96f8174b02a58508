use Rattle.std.proofs.Common.{◌≡◌, subst, refl, ℕ, List, Ok, Err}
use Rattle.std.proofs.lemmas.Result.{err_from_is_err_and, IfOk-weaker, IfErr-weaker}
use Rattle.dw_base.specs.Forms.{text_at}
use Rattle.dw_read.specs.Reading.{Reading, left}
use Rattle.dw_read.specs.Reasons.{bytes_read, text_read}
use Rattle.dw_read.proofs.Laws.{read_is, text_law}
use Rattle.dw_read_lines.proofs.Orders.{passed_over}
use Rattle.dw_convert_lines.specs.EntryNames.{text_in}
use Rattle.dw_convert_lines.proofs.Texts.{text_of}
use Rattle.dw_convert_lines.proofs.text.text_in.Goals as goal

pub returns-in_err-skip-clause-err : goal.returns-in_err-skip-clause-err
unfolding text_in
returns-in_err-skip-clause-err g c =
    let p = err_from_is_err_and c.from_residual.result c.from_residual.ensures.1 in
    let e = subst (λ (r : Reading). bytes_read c.args.offset (left r) ≡ Err c.in_err-skip.field-0.0) c.duplicate-input.ensures c.in_err-skip.ensures.err.reason in
    rw (p.1, p.2, e) refl

pub returns-clause-err : goal.returns-clause-err
unfolding text_in
returns-clause-err g c =
    let reading = g.R.Reader.reading in
    let s = passed_over c.args.offset (reading c.args.section.now) _ _ c.duplicate-input.ensures (g.met.R.Reader.is_reading c.args.section.now) c.in_ok-skip.ensures.ok in
    IfErr-weaker c.read_null_terminated.result _ _ (λ why h.
    let e : text_read (left (reading c.skip.new.self)) ≡ Err why = h.reason in
    rw (s.1, e) refl) c.read_null_terminated.ensures.err

pub returns-clause-ok : goal.returns-clause-ok
unfolding text_in
returns-clause-ok g c =
    let reading = g.R.Reader.reading in
    let s = passed_over c.args.offset (reading c.args.section.now) _ _ c.duplicate-input.ensures (g.met.R.Reader.is_reading c.args.section.now) c.in_ok-skip.ensures.ok in
    IfOk-weaker c.read_null_terminated.result _ _ (λ text h.
    let e : text_read (left (reading c.skip.new.self)) ≡ Ok (left (reading text), left (reading c.read_null_terminated.new.self)) =
    read_is (List ℕ) text_at text_read (left (reading c.skip.new.self)) (left (reading text), left (reading c.read_null_terminated.new.self)) text_law h.value in
    rw (s.1, e) refl) c.read_null_terminated.ensures.ok

pub returns-clause-text : goal.returns-clause-text
returns-clause-text g c = IfOk-weaker c.read_null_terminated.result _ _ (λ text h. text_of _ (left (g.R.Reader.reading text), left (g.R.Reader.reading c.read_null_terminated.new.self)) h.value) c.read_null_terminated.ensures.ok

pub returns-in_err-skip-clause-ok : goal.returns-in_err-skip-clause-ok
returns-in_err-skip-clause-ok g c = rw (err_from_is_err_and c.from_residual.result c.from_residual.ensures.1).1 tt

pub returns-in_err-skip-clause-text : goal.returns-in_err-skip-clause-text
returns-in_err-skip-clause-text g c = rw (err_from_is_err_and c.from_residual.result c.from_residual.ensures.1).1 tt
