use Rattle.std.proofs.Common.{◌≡◌, ◌∙◌, sym, refl, length, Option}
use Rattle.std.proofs.lemmas.Bool.{ne_eqb}
use Rattle.std.proofs.lemmas.Result.{err_from_is_err_and}
use Rattle.dw_base.specs.Forms.{text_at}
use Rattle.dw_read.specs.Reading.{left}
use Rattle.dw_read.specs.Reasons.{text_read}
use Rattle.dw_read.proofs.Chain.{took, took_of, went}
use Rattle.dw_read.proofs.Laws.{text_law}
use Rattle.dw_read_lines.specs.LineEntries.{Entry, old_directory_read}
use Rattle.dw_read_lines.proofs.file_entry.read_old_directory.Goals as goal

pub returns-in_err-name-clause-err : goal.returns-in_err-name-clause-err
unfolding old_directory_read
returns-in_err-name-clause-err g c =
    let p = err_from_is_err_and c.from_residual.result c.from_residual.ensures.1 in
    rw (p.1, p.2, c.in_err-name.ensures.err.reason) refl

pub returns-then-len-eq0-clause-ok : goal.returns-then-len-eq0-clause-ok
unfolding old_directory_read
returns-then-len-eq0-clause-ok g c =
    let t = took_of _ text_at text_read _ _ _ text_law c.in_ok-name.ensures.ok in
    let z : length (left (g.R.Reader.reading c.in_ok-name.name)) ≡ 0 = sym c.len.ensures ∙ c.if-len-eq0.true in
    took (Option Entry) old_directory_read _ _ _ (went _ _ _ _ _ t) (rw (t.value, z) refl)

pub returns-clause-ok : goal.returns-clause-ok
unfolding old_directory_read
returns-clause-ok g c =
    let t = took_of _ text_at text_read _ _ _ text_law c.in_ok-name.ensures.ok in
    let n = ne_eqb (length (left (g.R.Reader.reading c.in_ok-name.name))) 0 (λ z. c.if-len-eq0.false (c.len.ensures ∙ z)) in
    took (Option Entry) old_directory_read _ _ _ (went _ _ _ _ _ t) (rw (t.value, n) refl)
