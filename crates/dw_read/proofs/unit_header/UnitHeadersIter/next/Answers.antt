use Rattle.std.proofs.Common.{◌≡◌, ◌∙◌, sym, ap, subst, length, true, false, ⊎_elim, Err, refl}
use Rattle.std.specs.Result.{result_ok}
use Rattle.dw_read.specs.Reading.{Reading, left}
use Rattle.dw_read.specs.Headers.{header_read}
use Rattle.dw_read.specs.UnitHeaders.{IsHeaderRead}
use Rattle.dw_read.proofs.HeaderRead.{header_law}
use Rattle.dw_read.proofs.unit_header.UnitHeadersIter.next.Goals as goal

pub returns-in-Ok : goal.returns-in-Ok
returns-in-Ok g c =
    let reading = g.R.Reader.reading in
    let old : Reading = reading c.args.self.now.input in
    let u : IsHeaderRead reading old (reading c.read_header.new.input) c.in-Ok.header = subst (λ (r : Reading). IsHeaderRead reading r (reading c.read_header.new.input) c.in-Ok.header) c.duplicate-after.ensures c.in-Ok.ensures.ok in
    record {
      went_on = (c.if-self.false, c.if-self.false);
      unit = u;
      grammar = sym (header_law old.is_big (left old)) ∙ ap result_ok u.is;
    }

pub returns-in-Err : goal.returns-in-Err
returns-in-Err g c =
    let old : Reading = g.R.Reader.reading c.args.self.now.input in
    let e : header_read old.is_big (left old) ≡ Err c.in-Err.error = subst (λ (r : Reading). header_read r.is_big (left r) ≡ Err c.in-Err.error) c.duplicate-after.ensures c.in-Err.ensures.err in
    record {
      not_over = ⊎_elim (λ (f : c.args.self.now.has_failed ≡ true). let t : c.args.self.now.has_failed ≡ false = c.if-self.false in cc) (λ (z : length (left old) ≡ 0). c.if-len-eq0.false (c.len.ensures ∙ z));
      kept = refl;
      none = sym (header_law old.is_big (left old)) ∙ ap result_ok e;
      reason = e;
    }
