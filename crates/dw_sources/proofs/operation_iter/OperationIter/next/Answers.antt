use Rattle.std.proofs.Common.{◌≡◌, ◌∙◌, subst, length, true, false, ⊎_elim, Err, refl}
use Rattle.dw_read.specs.Reading.{Reading, left}
use Rattle.dw_read.proofs.Chain.{reads_of}
use Rattle.dw_read.proofs.Laws.{refuses}
use Rattle.dw_sources.specs.Operations.{Operation}
use Rattle.dw_sources.specs.OperationTable.{operation_at, operation_read}
use Rattle.dw_sources.proofs.ReadLaws.{operation_law, IsRead}
use Rattle.dw_sources.proofs.operation_iter.OperationIter.next.Goals as goal

pub returns-in-Ok : goal.returns-in-Ok
returns-in-Ok g c =
    let reading = g.R.Reader.reading in
    let old : Reading = reading c.args.self.now.input in
    let e = c.args.self.now.encoding in
    let h : IsRead reading e old (reading c.read_operation.new.input) c.in-Ok.operation = subst (λ (r : Reading). IsRead reading e r (reading c.read_operation.new.input) c.in-Ok.operation) c.duplicate-after.ensures (record { ok = c.in-Ok.ensures.ok; parts = c.in-Ok.ensures.parts; progress = c.in-Ok.ensures.progress }) in
    record {
      went_on = (c.if-self.false, c.if-self.false);
      encoding = refl;
      operation = reads_of Operation (operation_at old.is_big e) (operation_read old.is_big e) _ _ _ (operation_law old.is_big e) h.ok;
      parts = h.parts;
      progress = h.progress;
    }

pub returns-in-Err : goal.returns-in-Err
returns-in-Err g c =
    let old : Reading = g.R.Reader.reading c.args.self.now.input in
    let e = c.args.self.now.encoding in
    let r : operation_read old.is_big e (left old) ≡ Err c.in-Err.error = subst (λ (x : Reading). operation_read x.is_big e (left x) ≡ Err c.in-Err.error) c.duplicate-after.ensures c.in-Err.ensures.err in
    record {
      not_over = ⊎_elim (λ (f : c.args.self.now.has_failed ≡ true). let t : c.args.self.now.has_failed ≡ false = c.if-self.false in cc) (λ (z : length (left old) ≡ 0). c.if-len-eq0.false (c.len.ensures ∙ z));
      kept = refl;
      refused = refuses Operation (operation_at old.is_big e) (operation_read old.is_big e) old _ (operation_law old.is_big e) r;
    }
