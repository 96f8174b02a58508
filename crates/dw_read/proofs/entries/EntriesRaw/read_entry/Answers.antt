use Rattle.std.proofs.Common.{◌∙◌, ap, sym, subst, ℕ, Bool, All, refl, inr, rules}
use Rattle.std.proofs.lemmas.Result.{err_from_is_err_and}
use mir.Val.{SFits}
use mir.Syntax.{w64}
use Rattle.std.proofs.lemmas.Int.{to_z-of_z}
use Rattle.dw_read.specs.Reading.{Reading}
use Rattle.dw_read.specs.Reasons.{uleb_read}
use Rattle.dw_read.specs.Orders.{attribute_order, IsInOrder}
use Rattle.dw_read.specs.Rows.{deeper}
use Rattle.dw_read.proofs.Chain.{went, went_order}
use Rattle.dw_read.proofs.RowLaws.{reads_null, reads_entry, refuses_code, refuses_entry}
use Rattle.dw_read.proofs.entries.EntriesRaw.read_entry.Goals as goal

pub returns-in_err-abbreviation : goal.returns-in_err-abbreviation
returns-in_err-abbreviation g c =
    let u = c.args.self.now in
    let p = err_from_is_err_and c.from_residual.result c.from_residual.ensures.1 in
    rw (p.1, p.2) (
      record { unit = record { table = refl; fields = refl; start = refl }; input = refl; lists = refl },
      inr (refuses_code (g.R.Reader.reading u.input).is_big u.fields.now.encoding u.abbreviations.now _ _ _ c.duplicate-after.ensures c.in_err-abbreviation.ensures.err),
    )

pub returns-in_default : goal.returns-in_default
returns-in_default g c =
    let u = c.args.self.now in
    let h = rw c.in_default.is at c.in_ok-abbreviation.ensures.ok in (
      record {
        unit = record { table = refl; fields = refl; start = refl };
        row = reads_null (g.R.Reader.reading u.input).is_big u.fields.now.encoding u.abbreviations.now _ _ _ c.duplicate-after.ensures h;
        lists = c.shallower-self.ensures;
      },
      refl,
    )

pub returns-in_err-read_attributes : goal.returns-in_err-read_attributes
returns-in_err-read_attributes g c =
    let u = c.args.self.now in
    let a = c.in-Some.abbreviation.now in
    let h = rw c.in-Some.is at c.in_ok-abbreviation.ensures.ok in
    let p = err_from_is_err_and c.from_residual-in_err-read_attributes.result c.from_residual-in_err-read_attributes.ensures.1 in
    rw (p.1, p.2) (
      record { unit = record { table = refl; fields = refl; start = refl }; input = refl; lists = refl },
      refuses_entry (g.R.Reader.reading u.input).is_big u.fields.now.encoding u.abbreviations.now a.code a.shape _ _ _ _ _ c.duplicate-after.ensures (ap (λ (r : Reading). r.is_big) c.duplicate-after.ensures) h.0 h.1 h.2 c.attributes.ensures c.in_err-read_attributes.ensures.err,
    )

pub returns : goal.returns
returns g c =
    let u = c.args.self.now in
    let a = c.in-Some.abbreviation.now in
    let h = rw c.in-Some.is at c.in_ok-abbreviation.ensures.ok in
    record {
      unit = record { table = refl; fields = refl; start = refl };
      code = a.code;
      row = rw (c.tag-entry.ensures, c.has_children-entry.ensures) (reads_entry (g.R.Reader.reading u.input).is_big u.fields.now.encoding u.abbreviations.now a.code a.shape _ _ _ _ _ _ c.duplicate-after.ensures (ap (λ (r : Reading). r.is_big) c.duplicate-after.ensures) h.0 h.1 h.2 c.attributes.ensures c.in_ok-read_attributes.ensures.ok);
      offset = c.next_offset-offset.ensures;
      depth = (let fits : SFits w64 c.shown_depth-entry.result = search rules in to_z-of_z w64 c.shown_depth-entry.result fits ∙ c.shown_depth-entry.ensures);
      encoded = c.in_ok-read_attributes.ensures.encoded;
      in_order = subst (λ (b : Bool). All (λ a. IsInOrder b (attribute_order g.R.Reader.reading a)) c.read_attributes.new.attrs.items)
          (went_order _ _ (went ℕ uleb_read _ _ _ h.0) ∙ ap (λ (r : Reading). r.is_big) c.duplicate-after.ensures) c.in_ok-read_attributes.ensures.order;
      lists = c.deeper-self.ensures ∙ ap (λ (b : Bool). deeper b u.open_lists) (c.has_children.ensures ∙ sym c.has_children-entry.ensures);
    }
