use Rattle.std.proofs.Common.{◌∙◌, ap, subst, ℕ, Bool, refl}
use Rattle.std.proofs.lemmas.Result.{err_from_is_err_and}
use Rattle.dw_base.specs.Leb128.{uleb_at}
use Rattle.dw_read.specs.Reading.{Reading}
use Rattle.dw_read.specs.Took.{Took}
use Rattle.dw_read.specs.Reasons.{uleb_read}
use Rattle.dw_read.specs.Rows.{deeper}
use Rattle.dw_read.proofs.Laws.{uleb_law}
use Rattle.dw_read.proofs.Chain.{reads_of}
use Rattle.dw_read.proofs.RowLaws.{reads_null, refuses_code}
use Rattle.dw_read.proofs.entries.EntriesRaw.read_abbreviation.Goals as goal

pub returns-in_err-abbreviation : goal.returns-in_err-abbreviation
returns-in_err-abbreviation g c =
    let u = c.args.self.now in
    let p = err_from_is_err_and c.from_residual.result c.from_residual.ensures.1 in
    rw (p.1, p.2) (
      record { unit = record { table = refl; fields = refl; start = refl }; input = refl; lists = refl },
      refuses_code (g.R.Reader.reading u.input).is_big u.fields.now.encoding u.abbreviations.now _ _ _ c.duplicate-after.ensures c.in_err-abbreviation.ensures.err,
    )

pub returns-in-Some : goal.returns-in-Some
returns-in-Some g c =
    let u = c.args.self.now in
    let a = c.in-Some.abbreviation.now in
    let h = rw c.in-Some.is at c.in_ok-abbreviation.ensures.ok in
    let t = subst (λ (r : Reading). Took ℕ uleb_read r (g.R.Reader.reading c.read_code.new.input) a.code) c.duplicate-after.ensures h.0 in
    record {
      unit = record { table = refl; fields = refl; start = refl };
      code = reads_of ℕ uleb_at uleb_read _ _ _ uleb_law t;
      not_null = h.1;
      declared = h.2;
      lists = c.deeper-self.ensures ∙ ap (λ (b : Bool). deeper b u.open_lists) c.has_children.ensures;
    }

pub returns-in-None : goal.returns-in-None
returns-in-None g c =
    let u = c.args.self.now in
    let h = rw c.in-None.is at c.in_ok-abbreviation.ensures.ok in
    record {
      unit = record { table = refl; fields = refl; start = refl };
      row = reads_null (g.R.Reader.reading u.input).is_big u.fields.now.encoding u.abbreviations.now _ _ _ c.duplicate-after.ensures h;
      lists = c.shallower-self.ensures;
    }
