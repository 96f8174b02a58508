use Rattle.std.proofs.Common.{◌∙◌, sym, arith}
use Rattle.std.proofs.lemmas.Result.{err_from_is_err_and}
use Rattle.std.proofs.Common.{ℕ}
use Rattle.dw_read.specs.Reasons.{address_read}
use Rattle.dw_sources.proofs.ListLaws.{has_width, address_on, address_took, further, pair_no_begin, pair_no_end, pair_took, pair_close, pair_base, pair_other}
use Rattle.dw_sources.proofs.range_item.read_pair.Goals as goal

pub returns-in_err-begin-clause-err : goal.returns-in_err-begin-clause-err
returns-in_err-begin-clause-err g c =
    let p = err_from_is_err_and c.from_residual.result c.from_residual.ensures.1 in
    rw (p.1, p.2) (pair_no_begin _ c.args.size _ _ c.in_err-begin.ensures.err.reason)

pub returns-in_err-end-clause-err : goal.returns-in_err-end-clause-err
returns-in_err-end-clause-err g c =
    let p = err_from_is_err_and c.from_residual-in_err-end.result c.from_residual-in_err-end.ensures.1 in
    rw (p.1, p.2) (pair_no_end c.args.size c.in_ok-begin.begin _ _ _ c.in_ok-begin.ensures.ok c.in_err-end.ensures.err.reason)

pub returns-then-end-eq0-clause-ok : goal.returns-then-end-eq0-clause-ok
returns-then-end-eq0-clause-ok g c = pair_took c.args.size _ _ _ _ _ _ (pair_close c.args.size c.in_ok-begin.begin c.in_ok-end.end (omega arith) (omega arith)) c.in_ok-begin.ensures.ok c.in_ok-end.ensures.ok

pub marker-requires : goal.marker-requires
marker-requires g c = has_width c.args.size c.in_ok-begin.begin _ _ c.in_ok-begin.ensures.ok

pub returns-then-begin-marker-clause-ok : goal.returns-then-begin-marker-clause-ok
returns-then-begin-marker-clause-ok g c = pair_took c.args.size _ _ _ _ _ _ (pair_base c.args.size c.in_ok-begin.begin c.in_ok-end.end (λ h k. omega arith) (c.if-begin-marker.true ∙ c.marker.ensures)) c.in_ok-begin.ensures.ok c.in_ok-end.ensures.ok

pub returns-clause-ok : goal.returns-clause-ok
returns-clause-ok g c = pair_took c.args.size _ _ _ _ _ _ (pair_other c.args.size c.in_ok-begin.begin c.in_ok-end.end (λ h k. omega arith) (λ e. c.if-begin-marker.false (e ∙ sym c.marker.ensures))) c.in_ok-begin.ensures.ok c.in_ok-end.ensures.ok

pub returns-then-end-eq0-clause-progress : goal.returns-then-end-eq0-clause-progress
returns-then-end-eq0-clause-progress g c = further ℕ (address_read _ c.args.size) (g.R.Reader.reading c.args.input.now) _ _ c.in_ok-end.end (address_on c.args.size c.in_ok-begin.begin _ _ (g.met.R.Reader.is_reading c.args.input.now) (g.met.R.Reader.is_reading c.read_address.new.self) c.in_ok-begin.ensures.ok) (address_took c.args.size c.in_ok-end.end _ _ c.in_ok-end.ensures.ok)

pub returns-then-begin-marker-clause-progress : goal.returns-then-begin-marker-clause-progress
returns-then-begin-marker-clause-progress g c = further ℕ (address_read _ c.args.size) (g.R.Reader.reading c.args.input.now) _ _ c.in_ok-end.end (address_on c.args.size c.in_ok-begin.begin _ _ (g.met.R.Reader.is_reading c.args.input.now) (g.met.R.Reader.is_reading c.read_address.new.self) c.in_ok-begin.ensures.ok) (address_took c.args.size c.in_ok-end.end _ _ c.in_ok-end.ensures.ok)

pub returns-clause-progress : goal.returns-clause-progress
returns-clause-progress g c = further ℕ (address_read _ c.args.size) (g.R.Reader.reading c.args.input.now) _ _ c.in_ok-end.end (address_on c.args.size c.in_ok-begin.begin _ _ (g.met.R.Reader.is_reading c.args.input.now) (g.met.R.Reader.is_reading c.read_address.new.self) c.in_ok-begin.ensures.ok) (address_took c.args.size c.in_ok-end.end _ _ c.in_ok-end.ensures.ok)

pub returns-in_err-begin-clause-ok : goal.returns-in_err-begin-clause-ok
returns-in_err-begin-clause-ok g c = rw (err_from_is_err_and c.from_residual.result c.from_residual.ensures.1).1 tt

pub returns-in_err-begin-clause-progress : goal.returns-in_err-begin-clause-progress
returns-in_err-begin-clause-progress g c = rw (err_from_is_err_and c.from_residual.result c.from_residual.ensures.1).1 tt

pub returns-in_err-end-clause-ok : goal.returns-in_err-end-clause-ok
returns-in_err-end-clause-ok g c = rw (err_from_is_err_and c.from_residual-in_err-end.result c.from_residual-in_err-end.ensures.1).1 tt

pub returns-in_err-end-clause-progress : goal.returns-in_err-end-clause-progress
returns-in_err-end-clause-progress g c = rw (err_from_is_err_and c.from_residual-in_err-end.result c.from_residual-in_err-end.ensures.1).1 tt

pub returns-then-end-eq0-clause-err : goal.returns-then-end-eq0-clause-err
returns-then-end-eq0-clause-err g c = tt

pub returns-then-begin-marker-clause-err : goal.returns-then-begin-marker-clause-err
returns-then-begin-marker-clause-err g c = tt

pub returns-clause-err : goal.returns-clause-err
returns-clause-err g c = tt
