use Rattle.std.proofs.Common.{◌∙◌, ap, refl}
use Rattle.std.proofs.lemmas.Result.{err_from_is_err_and}
use Rattle.dw_base.specs.Leb128.{uleb_at}
use Rattle.dw_read.specs.Reading.{Reading, left}
use Rattle.dw_read.specs.Reasons.{uleb_read}
use Rattle.dw_read.proofs.Chain.{took_of, went, went_of, went_then, number_took, number_not}
use Rattle.dw_read.proofs.Laws.{uleb_law}
use Rattle.dw_read_lines.specs.LineEntries.{description_read, formats_read}
use Rattle.dw_read_lines.proofs.PastLaws.{formats_there, formats_missing}
use Rattle.dw_read_lines.proofs.described.read_description.Goals as goal

pub returns-in_err-format_count-clause-err : goal.returns-in_err-format_count-clause-err
unfolding description_read
returns-in_err-format_count-clause-err g c =
    let p = err_from_is_err_and c.from_residual.result c.from_residual.ensures.1 in
    rw (p.1, p.2, number_not (g.R.Reader.reading c.args.input.now).is_big 1 _ _ refl c.in_err-format_count.ensures.err) refl

pub returns-in_err-pass_formats-clause-err : goal.returns-in_err-pass_formats-clause-err
unfolding description_read
returns-in_err-pass_formats-clause-err g c =
    let n1 = number_took (g.R.Reader.reading c.args.input.now).is_big 1 _ _ _ refl c.in_ok-format_count.ensures.ok in
    let e = formats_missing c.in_ok-format_count.format_count _ _ c.in_err-pass_formats.ensures.err in
    let p = err_from_is_err_and c.from_residual-in_err-pass_formats.result c.from_residual-in_err-pass_formats.ensures.1 in
    rw (p.1, p.2, n1, e) refl

pub returns-in_err-count-clause-err : goal.returns-in_err-count-clause-err
unfolding description_read
returns-in_err-count-clause-err g c =
    let n1 = number_took (g.R.Reader.reading c.args.input.now).is_big 1 _ _ _ refl c.in_ok-format_count.ensures.ok in
    let f = formats_there c.in_ok-format_count.format_count _ _ c.in_ok-pass_formats.ensures.ok in
    let p = err_from_is_err_and c.from_residual-in_err-count.result c.from_residual-in_err-count.ensures.1 in
    rw (p.1, p.2, n1, f.1, c.in_err-count.ensures.err.reason) refl

pub returns-clause-went : goal.returns-clause-went
returns-clause-went g c =
    let w1 = went_of 1 _ _ c.in_ok-format_count.ensures.passes in
    let w2 = went_of _ _ _ c.in_ok-pass_formats.ensures.went.passes in
    let t = took_of _ uleb_at uleb_read _ _ _ uleb_law c.in_ok-count.ensures.ok in
    let w = went_then _ _ _ (went_then _ _ _ w1 w2) (went _ _ _ _ _ t) in
    record { count = w.count; passes = w.passes }

pub returns-clause-ok : goal.returns-clause-ok
unfolding description_read
returns-clause-ok g c =
    let reading = g.R.Reader.reading in
    let n1 = number_took (reading c.args.input.now).is_big 1 _ _ _ refl c.in_ok-format_count.ensures.ok in
    let f = formats_there c.in_ok-format_count.format_count _ _ c.in_ok-pass_formats.ensures.ok in
    let t = took_of _ uleb_at uleb_read _ _ _ uleb_law c.in_ok-count.ensures.ok in
    record {
      parts = f.0;
      described = record { rest = _; is = ap (λ (r : Reading). formats_read c.in_ok-format_count.format_count (left r)) c.duplicate-formats.ensures ∙ f.1 };
      is = rw (n1, f.1, t.value) refl;
    }
