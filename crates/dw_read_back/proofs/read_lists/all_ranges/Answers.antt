use Rattle.std.proofs.Common.{◌∙◌, subst, false, inr, map, Some, None, Ok}
use Rattle.std.proofs.lemmas.Result.{err_from_is_err_and}
use Rattle.dw_read.specs.Reading.{left}
use Rattle.dw_read.proofs.Lefts.{left_passed, same_order}
use Rattle.dw_read_units.specs.Lookups.{bytes_from}
use Rattle.dw_sources.specs.RawLists.{range_at}
use Rattle.dw_sources.specs.RawListIters.{encoding_in, ranges_section, ReadsRange, PassesRange, ClosesRanges}
use Rattle.dw_sources.specs.RawListViews.{span_of}
use Rattle.dw_read_back.specs.Views.{raw_range}
use Rattle.dw_read_back.specs.ReadLists.{AreRead}
use Rattle.dw_read_back.proofs.Items.{range_is}
use Rattle.dw_read_back.proofs.Steps.{no_list}
use Rattle.dw_read_back.proofs.Told.{none_past, all_told, none_told}
use Rattle.dw_read_back.proofs.Whole.{here, none_here, past, first, grown, closed}
use Rattle.dw_read_back.proofs.read_lists.all_ranges.Goals as goal

pub returns-in_err-items-clause-err : goal.returns-in_err-items-clause-err
returns-in_err-items-clause-err g c =
    let p = err_from_is_err_and c.from_residual.result c.from_residual.ensures.1 in
    let section = ranges_section g.R.Reader.reading c.args.unit in
    rw p.1 (inr (λ size. none_past false section.is_big (encoding_in c.args.unit) (left section) c.args.offset.0 (past c.args.offset.0 (left section) c.in_err-items.ensures.err.none)))

pub items-init : goal.items-init
items-init g c =
    let b = c.in_ok-items.ensures.ok in
    record {
      begun = first _ _ span_of _ _ c.new-ranges.ensures.items (left_passed _ _ _ b.input);
      order = same_order _ _ _ b.input;
      encoding = b.encoding;
      open_yet = b.not_ended;
    }

pub returns-in_err-item-clause-err : goal.returns-in_err-item-clause-err
returns-in_err-item-clause-err g c =
    let p = err_from_is_err_and c.from_residual-in_err-item.result c.from_residual-in_err-item.ensures.1 in
    let i = c.items.invariant in
    let reading = g.R.Reader.reading in
    let section = ranges_section reading c.args.unit in
    let e = encoding_in c.args.unit in
    let none = none_here range_at section.is_big e c.items.items.encoding (reading c.items.items.input) i.order i.encoding _ _ c.in_err-item.ensures.refused in
    rw p.1 (inr (λ size. none_told false range_at raw_range range_is section.is_big e (left section) c.args.offset.0 size
    (no_list (range_at section.is_big e) (bytes_from c.args.offset.0 section) (map span_of c.items.ranges.items) (left (reading c.items.items.input)) i.begun none)))

pub items-preserved : goal.items-preserved
items-preserved g c =
    let i = c.items.invariant in
    let reading = g.R.Reader.reading in
    let section = ranges_section reading c.args.unit in
    let p : PassesRange reading c.items.items c.next.new.self c.in-Some.item = subst (λ o. ReadsRange reading c.items.items c.next.new.self (Ok o)) c.in-Some.is c.in_ok-item.ensures in
    let r = here range_at section.is_big (encoding_in c.args.unit) c.items.items.encoding (reading c.items.items.input) i.order i.encoding (reading c.next.new.self.input) (Some (span_of c.in-Some.item)) p.item in
    record {
      begun = grown _ _ span_of c.items.ranges.items c.push.new.self.items c.in-Some.item _ _ c.in_ok-push.ensures.items i.begun r;
      order = same_order _ _ _ p.item.passes ∙ i.order;
      encoding = p.encoding ∙ i.encoding;
      open_yet = p.went_on.1;
    }

pub returns-clause-read : goal.returns-clause-read
returns-clause-read g c =
    let i = c.items.invariant in
    let reading = g.R.Reader.reading in
    let section = ranges_section reading c.args.unit in
    let p : ClosesRanges reading c.items.items c.next.new.self = subst (λ o. ReadsRange reading c.items.items c.next.new.self (Ok o)) c.in_default.is c.in_ok-item.ensures in
    let r = here range_at section.is_big (encoding_in c.args.unit) c.items.items.encoding (reading c.items.items.input) i.order i.encoding (reading c.next.new.self.input) None (p.is i.open_yet) in
    closed _ _ span_of c.items.ranges.items _ _ i.begun r

pub returns-clause-told : goal.returns-clause-told
returns-clause-told g c size =
    let section = ranges_section g.R.Reader.reading c.args.unit in
    let r : AreRead (range_at section.is_big (encoding_in c.args.unit)) (bytes_from c.args.offset.0 section) (map span_of c.items.ranges.items) = returns-clause-read g c in
    all_told false range_at raw_range range_is section.is_big (encoding_in c.args.unit) (left section) c.args.offset.0 size (map span_of c.items.ranges.items) r.behind r.items
