use Rattle.std.proofs.Common.{ap, refl}
use Rattle.std.proofs.lemmas.Result.{err_from_is_err_and}
use Rattle.dw_read.specs.Reading.{Reading}
use Rattle.dw_read.proofs.RowLaws.{reads_attributes, refuses_attributes}
use Rattle.dw_read.proofs.entries.EntriesRaw.skip_attributes.Goals as goal

pub returns-in_err-pass_attributes : goal.returns-in_err-pass_attributes
returns-in_err-pass_attributes g c =
    let u = c.args.self.now in
    let p = err_from_is_err_and c.from_residual.result c.from_residual.ensures.1 in
    rw (p.1, p.2) (
      record { unit = record { table = refl; fields = refl; start = refl }; input = refl; lists = refl },
      refuses_attributes (g.R.Reader.reading u.input).is_big u.fields.now.encoding _ _ (g.R.Reader.reading u.input) _ _ c.duplicate-after.ensures (ap (λ (r : Reading). r.is_big) c.duplicate-after.ensures) c.attributes.ensures c.in_err-pass_attributes.ensures.err,
    )

pub returns : goal.returns
returns g c =
    let u = c.args.self.now in
    let h = c.in_ok-pass_attributes.ensures.ok in
    record {
      unit = record { table = refl; fields = refl; start = refl };
      lists = refl;
      attributes = h.0;
      is = reads_attributes (g.R.Reader.reading u.input).is_big u.fields.now.encoding _ _ (g.R.Reader.reading u.input) _ _ h.0 c.duplicate-after.ensures (ap (λ (r : Reading). r.is_big) c.duplicate-after.ensures) c.attributes.ensures h.1;
    }
