use Rattle.std.proofs.Common.{◌≡◌, subst, true, false, Some, None, refl}
use Rattle.dw_read.specs.Reading.{Reading}
use Rattle.dw_read_lines.specs.LineEntryViews.{entry_of}
use Rattle.dw_read_lines.specs.FileEntryIters.{TakesEntry, MissesEntry}
use Rattle.dw_read_lines.proofs.TakenLaws.{taken_none, taken_some}
use Rattle.dw_read_lines.proofs.file_entries.FileEntryIter.next.Goals as goal

pub returns-in-Ok-Some : goal.returns-in-Ok-Some
returns-in-Ok-Some g c =
    let reading = g.R.Reader.reading in
    let i = c.args.self.now in
    let new : Reading = reading c.read_next.new.input in
    let t = taken_some reading _ _ _ _ _ _ c.in-Ok-Some.ensures.ok c.in-Ok-Some.field-0-is in
    record {
      went_on = (c.if-self.false, c.if-self.false);
      layout = refl;
      remaining = c.saturating_sub-self.ensures;
      entry = subst (λ (r : Reading). TakesEntry reading r new i.layout i.remaining (Some (entry_of reading c.in-Ok-Some.entry))) c.duplicate-after.ensures t;
    }

pub returns-in-Ok-None : goal.returns-in-Ok-None
returns-in-Ok-None g c =
    let reading = g.R.Reader.reading in
    let i = c.args.self.now in
    let new : Reading = reading c.read_next.new.input in
    let t = taken_none reading _ _ _ _ _ c.in-Ok-None.ensures.ok c.in-Ok-None.field-0-is in
    record {
      ended = refl;
      layout = refl;
      again = λ (t : i.has_ended ≡ true). absurd (let f : i.has_ended ≡ false = c.if-self.false in cc);
      is = λ _. subst (λ (r : Reading). TakesEntry reading r new i.layout i.remaining None) c.duplicate-after.ensures t;
    }

pub returns-in-Err : goal.returns-in-Err
returns-in-Err g c =
    let reading = g.R.Reader.reading in
    let i = c.args.self.now in
    record {
      not_ended = c.if-self.false;
      kept = refl;
      refused = subst (λ (r : Reading). MissesEntry reading r i.layout i.remaining c.in-Err.error) c.duplicate-after.ensures c.in-Err.ensures.err;
    }
