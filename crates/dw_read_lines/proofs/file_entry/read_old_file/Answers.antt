use Rattle.std.proofs.Common.{◌≡◌, ◌∙◌, sym, refl, length, Option}
use Rattle.std.proofs.lemmas.Bool.{ne_eqb}
use Rattle.std.proofs.lemmas.Result.{err_from_is_err_and}
use Rattle.dw_base.specs.Forms.{text_at}
use Rattle.dw_base.specs.Leb128.{uleb_at}
use Rattle.dw_read.specs.Reading.{left}
use Rattle.dw_read.specs.Reasons.{text_read, uleb_read}
use Rattle.dw_read.proofs.Chain.{took, took_of, went, went_then}
use Rattle.dw_read.proofs.Laws.{text_law, uleb_law}
use Rattle.dw_read_lines.specs.LineEntries.{Entry, old_file_read}
use Rattle.dw_read_lines.proofs.file_entry.read_old_file.Goals as goal

pub returns-in_err-name-clause-err : goal.returns-in_err-name-clause-err
unfolding old_file_read
returns-in_err-name-clause-err g c =
    let p = err_from_is_err_and c.from_residual.result c.from_residual.ensures.1 in
    rw (p.1, p.2, c.in_err-name.ensures.err.reason) refl

pub returns-then-len-eq0-clause-ok : goal.returns-then-len-eq0-clause-ok
unfolding old_file_read
returns-then-len-eq0-clause-ok g c =
    let t = took_of _ text_at text_read _ _ _ text_law c.in_ok-name.ensures.ok in
    let z : length (left (g.R.Reader.reading c.in_ok-name.name)) ≡ 0 = sym c.len.ensures ∙ c.if-len-eq0.true in
    took (Option Entry) old_file_read _ _ _ (went _ _ _ _ _ t) (rw (t.value, z) refl)

pub returns-in_err-directory-clause-err : goal.returns-in_err-directory-clause-err
unfolding old_file_read
returns-in_err-directory-clause-err g c =
    let t = took_of _ text_at text_read _ _ _ text_law c.in_ok-name.ensures.ok in
    let n = ne_eqb (length (left (g.R.Reader.reading c.in_ok-name.name))) 0 (λ z. c.if-len-eq0.false (c.len.ensures ∙ z)) in
    let p = err_from_is_err_and c.from_residual-in_err-directory.result c.from_residual-in_err-directory.ensures.1 in
    rw (p.1, p.2, t.value, n, c.in_err-directory.ensures.err.reason) refl

pub returns-in_err-timestamp-clause-err : goal.returns-in_err-timestamp-clause-err
unfolding old_file_read
returns-in_err-timestamp-clause-err g c =
    let t = took_of _ text_at text_read _ _ _ text_law c.in_ok-name.ensures.ok in
    let n = ne_eqb (length (left (g.R.Reader.reading c.in_ok-name.name))) 0 (λ z. c.if-len-eq0.false (c.len.ensures ∙ z)) in
    let n0 = (took_of _ uleb_at uleb_read _ _ _ uleb_law c.in_ok-directory.ensures.ok).value in
    let p = err_from_is_err_and c.from_residual-in_err-timestamp.result c.from_residual-in_err-timestamp.ensures.1 in
    rw (p.1, p.2, t.value, n, n0, c.in_err-timestamp.ensures.err.reason) refl

pub returns-in_err-size-clause-err : goal.returns-in_err-size-clause-err
unfolding old_file_read
returns-in_err-size-clause-err g c =
    let t = took_of _ text_at text_read _ _ _ text_law c.in_ok-name.ensures.ok in
    let n = ne_eqb (length (left (g.R.Reader.reading c.in_ok-name.name))) 0 (λ z. c.if-len-eq0.false (c.len.ensures ∙ z)) in
    let n0 = (took_of _ uleb_at uleb_read _ _ _ uleb_law c.in_ok-directory.ensures.ok).value in
    let n1 = (took_of _ uleb_at uleb_read _ _ _ uleb_law c.in_ok-timestamp.ensures.ok).value in
    let p = err_from_is_err_and c.from_residual-in_err-size.result c.from_residual-in_err-size.ensures.1 in
    rw (p.1, p.2, t.value, n, n0, n1, c.in_err-size.ensures.err.reason) refl

pub returns-clause-ok : goal.returns-clause-ok
unfolding old_file_read
returns-clause-ok g c =
    let t = took_of _ text_at text_read _ _ _ text_law c.in_ok-name.ensures.ok in
    let n = ne_eqb (length (left (g.R.Reader.reading c.in_ok-name.name))) 0 (λ z. c.if-len-eq0.false (c.len.ensures ∙ z)) in
    let d = took_of _ uleb_at uleb_read _ _ _ uleb_law c.in_ok-directory.ensures.ok in
    let s = took_of _ uleb_at uleb_read _ _ _ uleb_law c.in_ok-timestamp.ensures.ok in
    let z = took_of _ uleb_at uleb_read _ _ _ uleb_law c.in_ok-size.ensures.ok in
    took (Option Entry) old_file_read _ _ _ (went_then _ _ _ (went_then _ _ _ (went_then _ _ _ (went _ _ _ _ _ t) (went _ _ _ _ _ d)) (went _ _ _ _ _ s)) (went _ _ _ _ _ z))
    (rw (t.value, n, d.value, s.value, z.value) refl)
