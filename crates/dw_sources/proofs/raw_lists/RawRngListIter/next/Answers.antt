use Rattle.std.proofs.Common.{◌≡◌, ◌<◌, subst, true, false, Option, Some, None, Err, refl}
use Rattle.dw_read.specs.Reading.{Reading, left}
use Rattle.dw_read.specs.Took.{Took}
use Rattle.dw_read.proofs.Chain.{reads_of}
use Rattle.dw_read.proofs.Laws.{refuses}
use Rattle.dw_sources.specs.RawLists.{Span, range_at, range_read}
use Rattle.dw_sources.specs.RawListViews.{span_of}
use Rattle.dw_sources.proofs.ListLaws.{range_law}
use Rattle.dw_sources.proofs.ReadLaws.{took_none, took_some}
use Rattle.dw_sources.proofs.raw_lists.RawRngListIter.next.Goals as goal

pub returns-in-Ok-Some : goal.returns-in-Ok-Some
returns-in-Ok-Some g c =
    let reading = g.R.Reader.reading in
    let old : Reading = reading c.args.self.now.input in
    let e = c.args.self.now.encoding in
    let t = took_some _ _ _ _ _ _ _ _ c.in-Ok-Some.ensures.ok c.in-Ok-Some.field-0-is in
    let h : Took (Option Span) (range_read old.is_big e) old (reading c.read_range.new.input) (Some (span_of c.in-Ok-Some.item)) = subst (λ (r : Reading). Took (Option Span) (range_read r.is_big e) r (reading c.read_range.new.input) (Some (span_of c.in-Ok-Some.item))) c.duplicate-after.ensures t in
    record {
      went_on = (c.if-self.false, c.if-self.false);
      encoding = refl;
      item = reads_of (Option Span) (range_at old.is_big e) (range_read old.is_big e) _ _ _ (range_law old.is_big e) h;
      progress = subst (λ (r : Reading). r.place < (reading c.read_range.new.input).place) c.duplicate-after.ensures c.in-Ok-Some.ensures.progress;
    }

pub returns-in-Ok-None : goal.returns-in-Ok-None
returns-in-Ok-None g c =
    let reading = g.R.Reader.reading in
    let old : Reading = reading c.args.self.now.input in
    let e = c.args.self.now.encoding in
    let t = took_none _ _ _ _ _ _ _ c.in-Ok-None.ensures.ok c.in-Ok-None.field-0-is in
    let h : Took (Option Span) (range_read old.is_big e) old (reading c.read_range.new.input) None = subst (λ (r : Reading). Took (Option Span) (range_read r.is_big e) r (reading c.read_range.new.input) None) c.duplicate-after.ensures t in
    record {
      ended = refl;
      again = λ (t : c.args.self.now.has_ended ≡ true). absurd (let f : c.args.self.now.has_ended ≡ false = c.if-self.false in cc);
      is = λ _. reads_of (Option Span) (range_at old.is_big e) (range_read old.is_big e) _ _ _ (range_law old.is_big e) h;
    }

pub returns-in-Err : goal.returns-in-Err
returns-in-Err g c =
    let old : Reading = g.R.Reader.reading c.args.self.now.input in
    let e = c.args.self.now.encoding in
    let r : range_read old.is_big e (left old) ≡ Err c.in-Err.error = subst (λ (x : Reading). range_read x.is_big e (left x) ≡ Err c.in-Err.error) c.duplicate-after.ensures c.in-Err.ensures.err in
    record {
      not_ended = c.if-self.false;
      kept = refl;
      refused = refuses (Option Span) (range_at old.is_big e) (range_read old.is_big e) old _ (range_law old.is_big e) r;
    }
