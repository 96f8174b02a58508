use Rattle.std.proofs.lemmas.Result.{err_from_is_err_and}
use Rattle.dw_read_frames.proofs.HeadLaws.{not_both, head_no_length, ended, cut, no_owner, begun}
use Rattle.dw_read_frames.proofs.head.read_head.Goals.{else-is_eh-via-then-is_eh+else-length-eq0, else-is_eh-via-else-is_eh}
use Rattle.dw_read_frames.proofs.head.read_head.Goals as goal

pub returns-in_err-length-clause-err : goal.returns-in_err-length-clause-err
returns-in_err-length-clause-err g c =
    let p = err_from_is_err_and c.from_residual.result c.from_residual.ensures.1 in
    rw (p.1, p.2) (head_no_length c.args.is_eh _ _ _ _ c.in_err-length.ensures.err.reason)

pub returns-then-length-eq0-clause-ok : goal.returns-then-length-eq0-clause-ok
returns-then-length-eq0-clause-ok g c = ended c.args.is_eh c.in_ok-length.format c.in_ok-length.length _ _ c.in_ok-length.ensures.passes c.in_ok-length.ensures.ok c.if-is_eh.true c.if-length-eq0.true

pub returns-in_err-body-clause-err : goal.returns-in_err-body-clause-err
returns-in_err-body-clause-err g c =
    let p = err_from_is_err_and c.from_residual-in_err-body.result c.from_residual-in_err-body.ensures.1 in
    rw (p.1, p.2) (cut c.args.is_eh c.in_ok-length.format c.in_ok-length.length _ _ c.in_ok-length.ensures.passes c.in_ok-length.ensures.ok _ (not_both c.args.is_eh c.in_ok-length.length (λ h k. elim c.else-is_eh.branch [ else-is_eh-via-then-is_eh+else-length-eq0 w ↦ w.if-length-eq0.false k | else-is_eh-via-else-is_eh w ↦ (let f = w.if-is_eh.false in cc) ])) c.in_err-body.ensures.err.reason)

pub returns-in_err-cie-clause-err : goal.returns-in_err-cie-clause-err
returns-in_err-cie-clause-err g c =
    let p = err_from_is_err_and c.from_residual-in_err-cie.result c.from_residual-in_err-cie.ensures.1 in
    rw (p.1, p.2) (no_owner c.args.is_eh c.in_ok-length.format c.in_ok-length.length _ _ c.in_ok-length.ensures.passes c.in_ok-length.ensures.ok (not_both c.args.is_eh c.in_ok-length.length (λ h k. elim c.else-is_eh.branch [ else-is_eh-via-then-is_eh+else-length-eq0 w ↦ w.if-length-eq0.false k | else-is_eh-via-else-is_eh w ↦ (let f = w.if-is_eh.false in cc) ])) _ _ (g.met.R.Reader.is_reading c.read_initial_length.new.self) c.in_ok-body.ensures.part c.in_ok-body.ensures.ok _ c.in_err-cie.ensures.err)

pub returns-clause-ok : goal.returns-clause-ok
returns-clause-ok g c =
    begun c.args.is_eh c.in_ok-length.format c.in_ok-length.length _ _ c.in_ok-length.ensures.passes c.in_ok-length.ensures.ok (not_both c.args.is_eh c.in_ok-length.length (λ h k. elim c.else-is_eh.branch [ else-is_eh-via-then-is_eh+else-length-eq0 w ↦ w.if-length-eq0.false k | else-is_eh-via-else-is_eh w ↦ (let f = w.if-is_eh.false in cc) ])) _ _ (g.met.R.Reader.is_reading c.read_initial_length.new.self) c.in_ok-body.ensures.part c.in_ok-body.ensures.ok _ _ c.in_ok-cie.ensures.ok
