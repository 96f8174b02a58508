use Rattle.std.proofs.lemmas.Result.{err_from_is_err_and}
use Rattle.dw_read_frames.proofs.FdeLaws.{fde_no_address, fde_no_length, fde_no_lsda, fde_took}
use Rattle.dw_read_frames.proofs.fde.read_fde.Goals as goal

pub returns-in_err-initial_address-clause-err : goal.returns-in_err-initial_address-clause-err
returns-in_err-initial_address-clause-err g c =
    let p = err_from_is_err_and c.from_residual.result c.from_residual.ensures.1 in
    rw (p.1, p.2) (fde_no_address c.args.cie c.address_encoding-encoding.result c.address_encoding-encoding.ensures _ (g.met.R.Reader.is_reading c.args.input.now) _ c.in_err-initial_address.ensures.err)

pub returns-in_err-length-clause-err : goal.returns-in_err-length-clause-err
returns-in_err-length-clause-err g c =
    let p = err_from_is_err_and c.from_residual-in_err-length.result c.from_residual-in_err-length.ensures.1 in
    rw (p.1, p.2) (fde_no_length c.args.cie c.address_encoding-encoding.result c.address_encoding-encoding.ensures _ (g.met.R.Reader.is_reading c.args.input.now) c.in_ok-initial_address.initial_address _ c.in_ok-initial_address.ensures.ok _ c.in_err-length.ensures.err)

pub returns-in_err-lsda-clause-err : goal.returns-in_err-lsda-clause-err
returns-in_err-lsda-clause-err g c =
    let p = err_from_is_err_and c.from_residual-in_err-lsda.result c.from_residual-in_err-lsda.ensures.1 in
    rw (p.1, p.2) (fde_no_lsda c.args.cie c.address_encoding-encoding.result c.address_encoding-encoding.ensures _ (g.met.R.Reader.is_reading c.args.input.now) c.in_ok-initial_address.initial_address _ c.in_ok-initial_address.ensures.ok c.in_ok-length.length _ c.in_ok-length.ensures.ok _ c.in_err-lsda.ensures.err)

pub returns-clause-ok : goal.returns-clause-ok
returns-clause-ok g c = fde_took c.args.cie c.address_encoding-encoding.result c.address_encoding-encoding.ensures _ (g.met.R.Reader.is_reading c.args.input.now) c.in_ok-initial_address.initial_address _ c.in_ok-initial_address.ensures.ok c.in_ok-length.length _ c.in_ok-length.ensures.ok c.in_ok-lsda.lsda _ c.in_ok-lsda.ensures.ok
