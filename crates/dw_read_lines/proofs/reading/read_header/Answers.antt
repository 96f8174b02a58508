use Rattle.std.proofs.Common.{refl, Bool, ◌∙◌, ap, subst, ◌≡◌, Ok, Err}
use Rattle.std.proofs.lemmas.Result.{err_from_is_err_and, IfOk-weaker, IfErr-weaker}
use Rattle.dw_read.specs.Reading.{Reading, left}
use Rattle.dw_read.proofs.Lefts.{same_order}
use Rattle.dw_read.proofs.HeaderParts.{bytes_took}
use Rattle.dw_read_lines.specs.LineHeaders.{body_read, lines_read}
use Rattle.dw_read_lines.specs.LineHeaderViews.{lines_of}
use Rattle.dw_read_lines.proofs.Orders.{length_took}
use Rattle.dw_read_lines.proofs.reading.read_header.Goals as goal

pub returns-in_err-length-clause-err : goal.returns-in_err-length-clause-err
unfolding lines_read
returns-in_err-length-clause-err g c =
    let p = err_from_is_err_and c.from_residual.result c.from_residual.ensures.1 in
    rw (p.1, p.2, c.in_err-length.ensures.err.reason) refl

pub returns-in_err-body-clause-err : goal.returns-in_err-body-clause-err
unfolding lines_read
returns-in_err-body-clause-err g c =
    let p = err_from_is_err_and c.from_residual-in_err-body.result c.from_residual-in_err-body.ensures.1 in
    let n1 = length_took _ _ _ _ c.in_ok-length.ensures.ok in
    rw (p.1, p.2, n1, c.in_err-body.ensures.err.reason) refl

pub returns-clause-err : goal.returns-clause-err
unfolding lines_read
returns-clause-err g c =
    let reading = g.R.Reader.reading in
    let n1 = length_took _ _ _ _ c.in_ok-length.ensures.ok in
    let n2 = bytes_took _ _ _ _ (g.met.R.Reader.is_reading c.read_initial_length.new.self) c.in_ok-body.ensures.part c.in_ok-body.ensures.ok in
    let o = ap (λ (r : Reading). r.is_big) c.in_ok-body.ensures.part ∙ same_order _ _ _ c.in_ok-length.ensures.passes in
    IfErr-weaker c.read_body.result _ _ (λ e h.
    let k = subst (λ (b : Bool). body_read b c.in_ok-length.format c.args.address_size (left (reading c.in_ok-body.body)) ≡ Err e) o h in
    rw (n1, n2, k) refl) c.read_body.ensures.err

pub returns-clause-ok : goal.returns-clause-ok
unfolding lines_read
returns-clause-ok g c =
    let reading = g.R.Reader.reading in
    let n1 = length_took _ _ _ _ c.in_ok-length.ensures.ok in
    let n2 = bytes_took _ _ _ _ (g.met.R.Reader.is_reading c.read_initial_length.new.self) c.in_ok-body.ensures.part c.in_ok-body.ensures.ok in
    let o = ap (λ (r : Reading). r.is_big) c.in_ok-body.ensures.part ∙ same_order _ _ _ c.in_ok-length.ensures.passes in
    IfOk-weaker c.read_body.result _ _ (λ x h.
    let k = subst (λ (b : Bool). body_read b c.in_ok-length.format c.args.address_size (left (reading c.in_ok-body.body)) ≡ Ok (lines_of reading x)) o h in
    rw (n1, n2, k) refl) c.read_body.ensures.ok

pub returns-clause-order : goal.returns-clause-order
returns-clause-order g c =
    let o = ap (λ (r : Reading). r.is_big) c.in_ok-body.ensures.part ∙ same_order _ _ _ c.in_ok-length.ensures.passes in
    IfOk-weaker c.read_body.result _ _ (λ x h. record { tables = h.tables ∙ o; counts = h.counts ∙ o }) c.read_body.ensures.order
