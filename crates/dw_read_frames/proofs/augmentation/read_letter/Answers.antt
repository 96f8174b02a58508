use Rattle.std.proofs.Common.{arith}
use Rattle.std.proofs.lemmas.Result.{err_from_is_err_and}
use Rattle.dw_read_frames.proofs.AugmentationLaws.{lsda_not, lsda_took, addresses_not, addresses_took, personality_not, pointer_lost, pointer_found, signal_took, unknown_letter}
use Rattle.dw_read_frames.proofs.augmentation.read_letter.Goals as goal

pub returns-in_err-lsda-clause-err : goal.returns-in_err-lsda-clause-err
returns-in_err-lsda-clause-err g c =
    let p = err_from_is_err_and c.from_residual.result c.from_residual.ensures.1 in
    rw (p.1, p.2) (lsda_not c.args.size c.args.letter c.args.known _ _ _ _ (omega arith) c.in_err-lsda.ensures.err.reason)

pub returns-then-letter-eq76-clause-ok : goal.returns-then-letter-eq76-clause-ok
returns-then-letter-eq76-clause-ok g c = lsda_took c.args.size c.args.letter c.args.known c.in_ok-lsda.lsda _ _ (omega arith) c.in_ok-lsda.ensures.ok

pub returns-in_err-encoding-clause-err : goal.returns-in_err-encoding-clause-err
returns-in_err-encoding-clause-err g c =
    let p = err_from_is_err_and c.from_residual-in_err-encoding.result c.from_residual-in_err-encoding.ensures.1 in
    rw (p.1, p.2) (personality_not c.args.size c.args.letter c.args.known _ _ _ _ (omega arith) c.in_err-encoding.ensures.err.reason)

pub returns-in_err-pointer-clause-err : goal.returns-in_err-pointer-clause-err
returns-in_err-pointer-clause-err g c =
    let p = err_from_is_err_and c.from_residual-in_err-pointer.result c.from_residual-in_err-pointer.ensures.1 in
    rw (p.1, p.2) (pointer_lost c.args.size c.args.letter c.args.known c.in_ok-encoding.encoding _ _ (omega arith) c.in_ok-encoding.ensures.ok (g.met.R.Reader.is_reading c.read_u8-then-letter-eq80.new.self) _ c.in_err-pointer.ensures.err)

pub returns-then-letter-eq80-clause-ok : goal.returns-then-letter-eq80-clause-ok
returns-then-letter-eq80-clause-ok g c = pointer_found c.args.size c.args.letter c.args.known c.in_ok-encoding.encoding _ _ (omega arith) c.in_ok-encoding.ensures.ok (g.met.R.Reader.is_reading c.read_u8-then-letter-eq80.new.self) _ _ c.in_ok-pointer.ensures.ok

pub returns-in_err-addresses-clause-err : goal.returns-in_err-addresses-clause-err
returns-in_err-addresses-clause-err g c =
    let p = err_from_is_err_and c.from_residual-in_err-addresses.result c.from_residual-in_err-addresses.ensures.1 in
    rw (p.1, p.2) (addresses_not c.args.size c.args.letter c.args.known _ _ _ _ (omega arith) c.in_err-addresses.ensures.err.reason)

pub returns-then-letter-eq82-clause-ok : goal.returns-then-letter-eq82-clause-ok
returns-then-letter-eq82-clause-ok g c = addresses_took c.args.size c.args.letter c.args.known c.in_ok-addresses.addresses _ _ (omega arith) c.in_ok-addresses.ensures.ok

pub returns-then-letter-eq83-clause-ok : goal.returns-then-letter-eq83-clause-ok
returns-then-letter-eq83-clause-ok g c = signal_took c.args.size c.args.letter c.args.known _ (g.met.R.Reader.is_reading c.args.input.now) (omega arith)

pub returns-clause-err : goal.returns-clause-err
returns-clause-err g c = unknown_letter c.args.size c.args.letter c.args.known _ _ _ (λ h. omega (arith, h)) (λ h. omega (arith, h)) (λ h. omega (arith, h)) (λ h. omega (arith, h))
