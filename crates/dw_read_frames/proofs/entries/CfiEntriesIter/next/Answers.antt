use Rattle.std.proofs.Common.{◌≡◌, ◌⊎◌, ◌<◌, ◌∙◌, subst, length, true, false, ⊎_elim, Option, Some, None, Err, refl}
use Rattle.dw_read.specs.Reading.{Reading, left}
use Rattle.dw_read.specs.Took.{Took}
use Rattle.dw_read.proofs.Chain.{reads_of}
use Rattle.dw_read.proofs.Laws.{refuses}
use Rattle.dw_read_frames.specs.HeadViews.{IsBody}
use Rattle.dw_read_frames.specs.Entries.{Entry, entry_at, entry_read}
use Rattle.dw_read_frames.specs.EntryViews.{entry_of, offset_of, rest_of}
use Rattle.dw_read_frames.proofs.Steps.{took_none, took_some, if_some}
use Rattle.dw_read_frames.proofs.EntryLaws.{entry_law}
use Rattle.dw_read_frames.proofs.entries.CfiEntriesIter.next.Goals as goal

pub returns-in-Ok-Some : goal.returns-in-Ok-Some
returns-in-Ok-Some g c =
    let reading = g.R.Reader.reading in
    let old : Reading = reading c.args.self.now.input in
    let eh = c.args.self.now.is_eh in
    let size = c.args.self.now.address_size in
    let x = c.in-Ok-Some.entry in
    let new : Reading = reading c.read_entry.new.input in
    let t = took_some _ _ _ _ _ _ _ _ c.in-Ok-Some.ensures.ok c.in-Ok-Some.field-0-is in
    let h : Took (Option Entry) (entry_read eh old.is_big size old.place) old new (Some (entry_of reading x)) = subst (λ (r : Reading). Took (Option Entry) (entry_read eh r.is_big size r.place) r new (Some (entry_of reading x))) c.duplicate-after.ensures t in
    record {
      went_on = (c.if-self.false, c.if-self.false);
      same = (refl, refl);
      entry = reads_of (Option Entry) (entry_at eh old.is_big size old.place) (entry_read eh old.is_big size old.place) _ _ _ (entry_law eh old.is_big size old.place) h;
      offset = subst (λ (r : Reading). offset_of x ≡ r.place) c.duplicate-after.ensures (if_some _ (λ y. offset_of y ≡ (reading c.duplicate-after.result).place) _ _ c.in-Ok-Some.ensures.offset c.in-Ok-Some.field-0-is);
      rest = subst (λ (r : Reading). IsBody r new (rest_of reading x)) c.duplicate-after.ensures (if_some _ (λ y. IsBody (reading c.duplicate-after.result) new (rest_of reading y)) _ _ c.in-Ok-Some.ensures.rest c.in-Ok-Some.field-0-is);
      progress = subst (λ (r : Reading). r.place < new.place) c.duplicate-after.ensures c.in-Ok-Some.ensures.progress;
    }

pub returns-in-Ok-None : goal.returns-in-Ok-None
returns-in-Ok-None g c =
    let reading = g.R.Reader.reading in
    let old : Reading = reading c.args.self.now.input in
    let eh = c.args.self.now.is_eh in
    let size = c.args.self.now.address_size in
    let new : Reading = reading c.read_entry.new.input in
    let t = took_none _ _ _ _ _ _ _ c.in-Ok-None.ensures.ok c.in-Ok-None.field-0-is in
    let h : Took (Option Entry) (entry_read eh old.is_big size old.place) old new None = subst (λ (r : Reading). Took (Option Entry) (entry_read eh r.is_big size r.place) r new None) c.duplicate-after.ensures t in
    record {
      again = λ (o : (c.args.self.now.has_ended ≡ true) ⊎ (length (left old) ≡ 0)). absurd (⊎_elim (λ (f : c.args.self.now.has_ended ≡ true). let t : c.args.self.now.has_ended ≡ false = c.if-self.false in cc) (λ (z : length (left old) ≡ 0). c.if-len-eq0.false (c.len.ensures ∙ z)) o);
      ended = λ _. refl;
      is = λ _. reads_of (Option Entry) (entry_at eh old.is_big size old.place) (entry_read eh old.is_big size old.place) _ _ _ (entry_law eh old.is_big size old.place) h;
    }

pub returns-in-Err : goal.returns-in-Err
returns-in-Err g c =
    let old : Reading = g.R.Reader.reading c.args.self.now.input in
    let eh = c.args.self.now.is_eh in
    let size = c.args.self.now.address_size in
    let r : entry_read eh old.is_big size old.place (left old) ≡ Err c.in-Err.error = subst (λ (x : Reading). entry_read eh x.is_big size x.place (left x) ≡ Err c.in-Err.error) c.duplicate-after.ensures c.in-Err.ensures.err in
    record {
      not_over = ⊎_elim (λ (f : c.args.self.now.has_ended ≡ true). let t : c.args.self.now.has_ended ≡ false = c.if-self.false in cc) (λ (z : length (left old) ≡ 0). c.if-len-eq0.false (c.len.ensures ∙ z));
      kept = refl;
      refused = refuses (Option Entry) (entry_at eh old.is_big size old.place) (entry_read eh old.is_big size old.place) old _ (entry_law eh old.is_big size old.place) r;
    }
