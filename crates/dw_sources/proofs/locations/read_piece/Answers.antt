use Rattle.std.proofs.Common.{arith}
use Rattle.std.proofs.lemmas.Result.{err_from_is_err_and}
use Rattle.dw_sources.proofs.LocationLaws.{piece_took, piece_large, piece_not}
use Rattle.dw_sources.proofs.locations.read_piece.Goals as goal

pub returns-in_err-size_in_bytes-clause-err : goal.returns-in_err-size_in_bytes-clause-err
returns-in_err-size_in_bytes-clause-err g c =
    let p = err_from_is_err_and c.from_residual.result c.from_residual.ensures.1 in
    rw (p.1, p.2) (piece_not _ _ c.in_err-size_in_bytes.ensures.err.reason)

pub returns-then-size_in_bytes-clause-err : goal.returns-then-size_in_bytes-clause-err
returns-then-size_in_bytes-clause-err g c = piece_large c.in_ok-size_in_bytes.size_in_bytes _ _ c.in_ok-size_in_bytes.ensures.ok (omega arith)

pub returns-clause-ok : goal.returns-clause-ok
returns-clause-ok g c = piece_took c.in_ok-size_in_bytes.size_in_bytes _ _ c.in_ok-size_in_bytes.ensures.ok (omega arith)

pub returns-in_err-size_in_bytes-clause-ok : goal.returns-in_err-size_in_bytes-clause-ok
returns-in_err-size_in_bytes-clause-ok g c = rw (err_from_is_err_and c.from_residual.result c.from_residual.ensures.1).1 tt

pub returns-in_err-size_in_bytes-clause-parts : goal.returns-in_err-size_in_bytes-clause-parts
returns-in_err-size_in_bytes-clause-parts g c = rw (err_from_is_err_and c.from_residual.result c.from_residual.ensures.1).1 tt

pub returns-then-size_in_bytes-clause-ok : goal.returns-then-size_in_bytes-clause-ok
returns-then-size_in_bytes-clause-ok g c = tt

pub returns-then-size_in_bytes-clause-parts : goal.returns-then-size_in_bytes-clause-parts
returns-then-size_in_bytes-clause-parts g c = tt

pub returns-clause-err : goal.returns-clause-err
returns-clause-err g c = tt
