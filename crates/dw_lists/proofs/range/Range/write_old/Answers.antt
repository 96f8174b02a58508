use Rattle.std.proofs.lemmas.Result.{err_from_is_err_and}
use Rattle.dw_writer.proofs.Outcomes.{OnOk-map, IfErr-map}
use Rattle.dw_lists.specs.Kinds.{range_kinds}
use Rattle.dw_lists.proofs.Spans.{old_ends, old_length}
use Rattle.dw_lists.proofs.Refusals.{further_none, further_refused, ends_further}
use Rattle.dw_lists.proofs.range.Range.write_old.Goals as goal

pub returns-in-BaseAddress-clause-ok : goal.returns-in-BaseAddress-clause-ok
returns-in-BaseAddress-clause-ok g c = rw c.in-BaseAddress.is c.write_base.ensures.ok

pub returns-in-BaseAddress-clause-sound : goal.returns-in-BaseAddress-clause-sound
returns-in-BaseAddress-clause-sound g c = rw c.in-BaseAddress.is c.write_base.ensures.sound

pub returns-in-BaseAddress-clause-err : goal.returns-in-BaseAddress-clause-err
returns-in-BaseAddress-clause-err g c = rw c.in-BaseAddress.is c.write_base.ensures.err

pub returns-in-OffsetPair-clause-ok : goal.returns-in-OffsetPair-clause-ok
returns-in-OffsetPair-clause-ok g c = rw c.in-OffsetPair.is c.write_offsets.ensures.ok

pub returns-in-OffsetPair-clause-sound : goal.returns-in-OffsetPair-clause-sound
returns-in-OffsetPair-clause-sound g c = rw c.in-OffsetPair.is c.write_offsets.ensures.sound

pub returns-in-OffsetPair-clause-err : goal.returns-in-OffsetPair-clause-err
returns-in-OffsetPair-clause-err g c = rw c.in-OffsetPair.is c.write_offsets.ensures.err

pub returns-in-StartEnd-clause-ok : goal.returns-in-StartEnd-clause-ok
returns-in-StartEnd-clause-ok g c =
    rw c.in-StartEnd.is (OnOk-map c.write_ends.result c.write_ends.ensures.ok (old_ends range_kinds c.args.address_size c.in-StartEnd.begin c.in-StartEnd.end))

pub returns-in-StartEnd-clause-sound : goal.returns-in-StartEnd-clause-sound
returns-in-StartEnd-clause-sound g c = rw c.in-StartEnd.is c.write_ends.ensures.sound

pub returns-in-StartEnd-clause-err : goal.returns-in-StartEnd-clause-err
returns-in-StartEnd-clause-err g c = rw c.in-StartEnd.is c.write_ends.ensures.err

pub returns-in_err-end-in-StartLength-clause-err : goal.returns-in_err-end-in-StartLength-clause-err
returns-in_err-end-in-StartLength-clause-err g c =
    let m = g.W.Writer.meaning c.args.w.now in
    let p = err_from_is_err_and c.from_residual.result c.from_residual.ensures.1 in
    rw (p.1, p.2, c.in-StartLength.is) (further_refused c.args.address_size c.in-StartLength.begin c.in-StartLength.begin c.in-StartLength.length m m m.is_plain c.in_err-end-in-StartLength.field-0.0 c.in_err-end-in-StartLength.ensures.err)

pub returns-in_ok-end-in-StartLength-clause-ok : goal.returns-in_ok-end-in-StartLength-clause-ok
returns-in_ok-end-in-StartLength-clause-ok g c =
    rw c.in-StartLength.is (OnOk-map c.write_ends-in-StartLength.result c.write_ends-in-StartLength.ensures.ok
    (old_length range_kinds c.args.address_size c.in-StartLength.begin c.in_ok-end-in-StartLength.end c.in-StartLength.length c.in_ok-end-in-StartLength.ensures.ok))

pub returns-in_ok-end-in-StartLength-clause-sound : goal.returns-in_ok-end-in-StartLength-clause-sound
returns-in_ok-end-in-StartLength-clause-sound g c =
    rw c.in-StartLength.is (OnOk-map c.write_ends-in-StartLength.result c.write_ends-in-StartLength.ensures.sound
    (further_none c.args.address_size c.in-StartLength.begin c.in_ok-end-in-StartLength.end c.in-StartLength.length c.in_ok-end-in-StartLength.ensures.ok (g.W.Writer.meaning c.args.w.now).is_plain c.in_ok-end-in-StartLength.ensures.sound))

pub returns-in_ok-end-in-StartLength-clause-err : goal.returns-in_ok-end-in-StartLength-clause-err
returns-in_ok-end-in-StartLength-clause-err g c =
    let m = g.W.Writer.meaning c.args.w.now in
    rw c.in-StartLength.is (IfErr-map c.write_ends-in-StartLength.result c.write_ends-in-StartLength.ensures.err
    (ends_further c.args.address_size c.in-StartLength.begin c.in_ok-end-in-StartLength.end c.in-StartLength.length c.in_ok-end-in-StartLength.ensures.ok m (g.W.Writer.meaning c.write_ends-in-StartLength.new.w) m.is_plain))

pub returns-in_err-end-in-StartLength-clause-ok : goal.returns-in_err-end-in-StartLength-clause-ok
returns-in_err-end-in-StartLength-clause-ok g c = rw (err_from_is_err_and c.from_residual.result c.from_residual.ensures.1).1 tt

pub returns-in_err-end-in-StartLength-clause-sound : goal.returns-in_err-end-in-StartLength-clause-sound
returns-in_err-end-in-StartLength-clause-sound g c = rw (err_from_is_err_and c.from_residual.result c.from_residual.ensures.1).1 tt

pub returns-in-BaseAddress-clause-same : goal.returns-in-BaseAddress-clause-same
returns-in-BaseAddress-clause-same g c = c.write_base.ensures.same

pub returns-in-OffsetPair-clause-same : goal.returns-in-OffsetPair-clause-same
returns-in-OffsetPair-clause-same g c = c.write_offsets.ensures.same

pub returns-in-StartEnd-clause-same : goal.returns-in-StartEnd-clause-same
returns-in-StartEnd-clause-same g c = c.write_ends.ensures.same
