use Rattle.std.proofs.lemmas.Result.{err_from_is_err_and}
use Rattle.dw_read_frames.proofs.FdeLaws.{lsda_none, lsda_no_size, lsda_cut, lsda_lost, lsda_found}
use Rattle.dw_read_frames.proofs.fde.read_lsda.Goals as goal

pub returns-in_default-clause-ok : goal.returns-in_default-clause-ok
returns-in_default-clause-ok g c = lsda_none c.args.size c.args.augmentation _ (g.met.R.Reader.is_reading c.args.input.now) c.in_default.is

pub returns-in_err-length-clause-err : goal.returns-in_err-length-clause-err
returns-in_err-length-clause-err g c =
    let p = err_from_is_err_and c.from_residual.result c.from_residual.ensures.1 in
    rw (p.1, p.2) (lsda_no_size c.args.size c.args.augmentation c.in-Some.known c.in-Some.is _ _ _ _ c.in_err-length.ensures.err.reason)

pub returns-in_err-data-clause-err : goal.returns-in_err-data-clause-err
returns-in_err-data-clause-err g c =
    let p = err_from_is_err_and c.from_residual-in_err-data.result c.from_residual-in_err-data.ensures.1 in
    rw (p.1, p.2) (lsda_cut c.args.size c.args.augmentation c.in-Some.known c.in-Some.is c.in_ok-length.length _ _ c.in_ok-length.ensures.ok _ c.in_err-data.ensures.err.reason)

pub returns-in_err-lsda-clause-err : goal.returns-in_err-lsda-clause-err
returns-in_err-lsda-clause-err g c =
    let is = g.met.R.Reader.is_reading in
    let p = err_from_is_err_and c.from_residual-in_err-lsda.result c.from_residual-in_err-lsda.ensures.1 in
    rw (p.1, p.2) (lsda_lost c.args.size c.args.augmentation c.in-Some.known c.in-Some.is c.in_ok-length.length _ _ c.in_ok-length.ensures.ok _ _ (is c.read_uleb128.new.self) (is c.split.new.self) c.in_ok-data.ensures.part c.in_ok-data.ensures.ok _ c.in_err-lsda.ensures.err)

pub returns-clause-ok : goal.returns-clause-ok
returns-clause-ok g c =
    let is = g.met.R.Reader.is_reading in
    lsda_found c.args.size c.args.augmentation c.in-Some.known c.in-Some.is c.in_ok-length.length _ _ c.in_ok-length.ensures.ok _ _ (is c.read_uleb128.new.self) (is c.split.new.self) c.in_ok-data.ensures.part c.in_ok-data.ensures.ok _ _ c.in_ok-lsda.ensures.ok
