use Rattle.std.proofs.Common.{◌∙◌, sym, arith}
use Rattle.std.proofs.lemmas.Result.{err_from_is_err_and}
use Rattle.dw_read_frames.proofs.CieLaws.{size_given, size_not, size_unsupported, segment_not, segment_unsupported, size_own}
use Rattle.dw_read_frames.proofs.cie.read_sizes.Goals as goal

pub returns-then-version-ne4-clause-ok : goal.returns-then-version-ne4-clause-ok
returns-then-version-ne4-clause-ok g c = size_given c.args.version c.args.size _ (g.met.R.Reader.is_reading c.args.input.now) (λ h. omega (arith, h))

pub returns-in_err-own-clause-err : goal.returns-in_err-own-clause-err
returns-in_err-own-clause-err g c =
    let p = err_from_is_err_and c.from_residual.result c.from_residual.ensures.1 in
    rw (p.1, p.2) (size_not c.args.version c.args.size (omega arith) _ _ _ c.in_err-own.ensures.err.reason)

pub returns-then-not-is_address_size-clause-err : goal.returns-then-not-is_address_size-clause-err
returns-then-not-is_address_size-clause-err g c = size_unsupported c.args.version c.args.size (omega arith) c.in_ok-own.own _ _ c.in_ok-own.ensures.ok (sym c.is_address_size.ensures ∙ c.if-not-is_address_size.true)

pub returns-in_err-segment-clause-err : goal.returns-in_err-segment-clause-err
returns-in_err-segment-clause-err g c =
    let p = err_from_is_err_and c.from_residual-in_err-segment.result c.from_residual-in_err-segment.ensures.1 in
    rw (p.1, p.2) (segment_not c.args.version c.args.size (omega arith) c.in_ok-own.own _ _ c.in_ok-own.ensures.ok _ (sym c.is_address_size.ensures ∙ c.if-not-is_address_size.false) c.in_err-segment.ensures.err.reason)

pub returns-then-segment-ne0-clause-err : goal.returns-then-segment-ne0-clause-err
returns-then-segment-ne0-clause-err g c = segment_unsupported c.args.version c.args.size (omega arith) c.in_ok-own.own _ _ c.in_ok-own.ensures.ok (sym c.is_address_size.ensures ∙ c.if-not-is_address_size.false) c.in_ok-segment.segment _ c.in_ok-segment.ensures.ok (λ h. omega (arith, h))

pub returns-clause-ok : goal.returns-clause-ok
returns-clause-ok g c = size_own c.args.version c.args.size (omega arith) c.in_ok-own.own _ _ c.in_ok-own.ensures.ok (sym c.is_address_size.ensures ∙ c.if-not-is_address_size.false) c.in_ok-segment.segment _ c.in_ok-segment.ensures.ok (omega arith)
