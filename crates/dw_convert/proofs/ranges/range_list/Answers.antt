use Rattle.std.proofs.Common.{◌∙◌, sym, ap, ap₂, ◌||◌, subst, refl, inl, inr, Bool, [], ◌∷◌, ◌++◌, Ok, Err}
use Rattle.std.proofs.lemmas.List.Elements.{filter-append}
use Rattle.dw_read.specs.Reading.{left}
use Rattle.dw_read.proofs.Lefts.{left_passed, same_order}
use Rattle.dw_sources.specs.RawListViews.{span_of}
use Rattle.dw_sources.proofs.Progress.{fewer_left}
use Rattle.dw_convert.specs.Lookups.{address_of}
use Rattle.dw_convert.specs.Ranges.{RangeOutcome, is_base, kept}
use Rattle.dw_convert.specs.RangeLists.{has_base}
use Rattle.dw_convert.proofs.Addresses.{is_err}
use Rattle.dw_convert.proofs.Growing.{begun_more, based_more}
use Rattle.dw_convert.proofs.WrittenWalks.{ranges_written}
use Rattle.dw_convert.proofs.RangeSteps.{passes, closes, read_here, closed_here, refused_here}
use Rattle.dw_convert.proofs.ranges.range_list.Goals as goal

pub items-init : goal.items-init
items-init g c =
    let b = c.in_ok-items.ensures.ok in
    record {
      images = [];
      begun = record { items = []; read = left_passed _ _ _ b.input; are = tt };
      kept = c.new-ranges.ensures.items;
      base = refl;
      order = same_order _ _ _ b.input;
      encoding = b.encoding;
      open_yet = b.not_ended;
    }

pub returns-in_err-range-clause-err : goal.returns-in_err-range-clause-err
returns-in_err-range-clause-err g c =
    let i = c.items.invariant in
    let reading = g.R.Reader.reading in
    let e = is_err _ _ c.from_residual-in_err-range.ensures in
    let p = passes _ _ reading _ _ _ _ c.in_ok-item.ensures c.in-Some.is in
    rw e (inr (inr (record {
      rest = left (reading c.items.items.input);
      images = i.images;
      begun = i.begun;
      cause = inr (record {
        item = span_of c.in-Some.item;
        next = left (reading c.next.new.self.input);
        read = read_here _ _ reading _ _ _ _ _ i.order i.encoding p;
        refused = subst (λ b. RangeOutcome (goal.F-post g c.args.convert_address.now) (address_of reading c.args.unit) b (span_of c.in-Some.item) (Err c.in_err-range.field-0.0)) i.base c.in_err-range.ensures;
      });
    })))

pub items-preserved : goal.items-preserved
items-preserved g c =
    let i = c.items.invariant in
    let reading = g.R.Reader.reading in
    let p = passes _ _ reading _ _ _ _ c.in_ok-item.ensures c.in-Some.is in
    let s = span_of c.in-Some.item in
    record {
      images = i.images ++ c.in_ok-range.range ∷ [];
      begun = begun_more _ _ _ _ _ _ _ _ _ _ i.begun (read_here _ _ reading _ _ _ _ _ i.order i.encoding p) (subst (λ b. RangeOutcome (goal.F-post g c.args.convert_address.now) (address_of reading c.args.unit) b s (Ok c.in_ok-range.range)) i.base c.in_ok-range.ensures);
      kept = c.in_ok-keep.ensures.ok ∙ ap (λ l. l ++ kept (c.in_ok-range.range ∷ [])) i.kept ∙ sym (filter-append _ i.images (c.in_ok-range.range ∷ []));
      base = ap₂ (λ (a b : Bool). a || b) i.base c.is_base-has_base.ensures ∙ sym (based_more is_base (has_base c.args.unit) i.begun.items s);
      order = same_order _ _ _ p.item.passes ∙ i.order;
      encoding = p.encoding ∙ i.encoding;
      open_yet = p.went_on.1;
    }

pub items-smaller : goal.items-smaller
items-smaller g c =
    let reading = g.R.Reader.reading in
    let is = g.met.R.Reader.is_reading in
    let p = passes _ _ reading _ _ _ _ c.in_ok-item.ensures c.in-Some.is in
    fewer_left _ _ (reading c.items.items.input) (reading c.next.new.self.input) _ (is c.items.items.input) (is c.next.new.self.input) p.item p.progress

pub returns-clause-ok : goal.returns-clause-ok
returns-clause-ok g c =
    let i = c.items.invariant in
    let reading = g.R.Reader.reading in
    record {
      images = i.images;
      converted = record {
        rest = left (reading c.items.items.input);
        begun = i.begun;
        behind = left (reading c.next.new.self.input);
        close = closed_here _ _ reading _ _ _ _ i.order i.encoding i.open_yet (closes _ _ reading _ _ _ c.in_ok-item.ensures c.in_default.is);
      };
      is = i.kept;
    }

pub returns-clause-written : goal.returns-clause-written
returns-clause-written g c =
    let i = c.items.invariant in
    let reading = g.R.Reader.reading in
    ranges_written _ _ reading (goal.F-post g c.args.convert_address.now) c.args.unit _ _ (record {
      images = i.images;
      converted = record {
        rest = left (reading c.items.items.input);
        begun = i.begun;
        behind = left (reading c.next.new.self.input);
        close = closed_here _ _ reading _ _ _ _ i.order i.encoding i.open_yet (closes _ _ reading _ _ _ c.in_ok-item.ensures c.in_default.is);
      };
      is = i.kept;
    })

pub returns-in_err-items-clause-err : goal.returns-in_err-items-clause-err
returns-in_err-items-clause-err g c =
    let e = is_err _ _ c.from_residual.ensures in
    rw e (inr (inl (record { error = c.in_err-items.field-0.0; reason = c.in_err-items.ensures.err.reason; is = refl })))

pub returns-in_err-item-clause-err : goal.returns-in_err-item-clause-err
returns-in_err-item-clause-err g c =
    let i = c.items.invariant in
    let reading = g.R.Reader.reading in
    let e = is_err _ _ c.from_residual-in_err-item.ensures in
    rw e (inr (inr (record {
      rest = left (reading c.items.items.input);
      images = i.images;
      begun = i.begun;
      cause = inl (record { error = c.in_err-item.field-0.0; reason = refused_here _ _ reading _ _ _ _ _ i.order i.encoding c.in_err-item.ensures; is = refl });
    })))

pub returns-in_err-items-clause-ok : goal.returns-in_err-items-clause-ok
returns-in_err-items-clause-ok g c = rw (is_err _ _ c.from_residual.ensures) tt

pub returns-in_err-items-clause-written : goal.returns-in_err-items-clause-written
returns-in_err-items-clause-written g c = rw (is_err _ _ c.from_residual.ensures) tt

pub returns-in_err-item-clause-ok : goal.returns-in_err-item-clause-ok
returns-in_err-item-clause-ok g c = rw (is_err _ _ c.from_residual-in_err-item.ensures) tt

pub returns-in_err-item-clause-written : goal.returns-in_err-item-clause-written
returns-in_err-item-clause-written g c = rw (is_err _ _ c.from_residual-in_err-item.ensures) tt

pub returns-in_err-range-clause-ok : goal.returns-in_err-range-clause-ok
returns-in_err-range-clause-ok g c = rw (is_err _ _ c.from_residual-in_err-range.ensures) tt

pub returns-in_err-range-clause-written : goal.returns-in_err-range-clause-written
returns-in_err-range-clause-written g c = rw (is_err _ _ c.from_residual-in_err-range.ensures) tt

pub returns-in_err-keep-clause-ok : goal.returns-in_err-keep-clause-ok
returns-in_err-keep-clause-ok g c = rw (is_err _ _ c.from_residual-in_err-keep.ensures) tt

pub returns-in_err-keep-clause-written : goal.returns-in_err-keep-clause-written
returns-in_err-keep-clause-written g c = rw (is_err _ _ c.from_residual-in_err-keep.ensures) tt

pub returns-in_err-keep-clause-err : goal.returns-in_err-keep-clause-err
returns-in_err-keep-clause-err g c = rw (is_err _ _ c.from_residual-in_err-keep.ensures) (inl c.in_err-keep.ensures.err)

pub returns-clause-err : goal.returns-clause-err
returns-clause-err g c = tt
