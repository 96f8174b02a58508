use Rattle.std.proofs.lemmas.Result.{err_from_is_err_and}
use Rattle.dw_read_frames.proofs.FdeLaws.{pointed_none, pointed_not, pointed_took}
use Rattle.dw_read_frames.proofs.fde.read_pointed.Goals as goal

pub returns-in_default-clause-ok : goal.returns-in_default-clause-ok
returns-in_default-clause-ok g c = pointed_none c.args.size c.args.encoding _ (g.met.R.Reader.is_reading c.args.input.now) c.in_default.is

pub returns-in_err-pointer-clause-err : goal.returns-in_err-pointer-clause-err
returns-in_err-pointer-clause-err g c =
    let p = err_from_is_err_and c.from_residual.result c.from_residual.ensures.1 in
    rw (p.1, p.2) (pointed_not c.args.size c.args.encoding c.in-Some.known c.in-Some.is _ (g.met.R.Reader.is_reading c.args.input.now) _ c.in_err-pointer.ensures.err)

pub returns-clause-ok : goal.returns-clause-ok
returns-clause-ok g c = pointed_took c.args.size c.args.encoding c.in-Some.known c.in-Some.is _ (g.met.R.Reader.is_reading c.args.input.now) _ _ c.in_ok-pointer.ensures.ok
