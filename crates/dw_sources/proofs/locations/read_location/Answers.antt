use Rattle.std.proofs.Common.{ℤ, rules}
use Rattle.std.proofs.lemmas.Result.{err_from_is_err_and}
use Rattle.std.proofs.lemmas.Int.{to_z-of_z}
use mir.Val.{SFits}
use mir.Syntax.{w64}
use Rattle.dw_base.specs.Leb128.{sleb_at}
use Rattle.dw_read.specs.Reasons.{sleb_read}
use Rattle.dw_read.proofs.Laws.{sleb_law}
use Rattle.dw_read.proofs.Chain.{took_of}
use Rattle.dw_sources.specs.Operations.{RegisterOffset}
use Rattle.dw_sources.specs.OperationTable.{locations}
use Rattle.dw_sources.proofs.TableLaws.{one_ok, one_err}
use Rattle.dw_sources.proofs.LocationLaws.{based_row, other_rows}
use Rattle.dw_sources.proofs.locations.read_location.Goals as goal

pub returns-in_err-offset-clause-err : goal.returns-in_err-offset-clause-err
returns-in_err-offset-clause-err g c =
    let p = err_from_is_err_and c.from_residual.result c.from_residual.ensures.1 in
    rw (p.1, p.2) (one_err (locations (g.R.Reader.reading c.args.input.now).is_big c.args.encoding c.args.opcode.0) ℤ sleb_read (RegisterOffset c.in-Some.number) (based_row _ _ c.args.opcode.0 c.in-Some.number c.in-Some.ensures.inside c.in-Some.ensures.some) _ _ c.in_err-offset.ensures.err.reason)

pub returns-in-Some-clause-ok : goal.returns-in-Some-clause-ok
returns-in-Some-clause-ok g c =
    let fits : SFits w64 c.in_ok-offset.offset = search rules in
    rw (to_z-of_z w64 c.in_ok-offset.offset fits) (one_ok (locations (g.R.Reader.reading c.args.input.now).is_big c.args.encoding c.args.opcode.0) ℤ sleb_read (RegisterOffset c.in-Some.number) (based_row _ _ c.args.opcode.0 c.in-Some.number c.in-Some.ensures.inside c.in-Some.ensures.some) _ _ _ (took_of ℤ sleb_at sleb_read _ _ _ sleb_law c.in_ok-offset.ensures.ok))

pub returns-in_err-operation-clause-err : goal.returns-in_err-operation-clause-err
returns-in_err-operation-clause-err g c =
    let p = err_from_is_err_and c.from_residual-in_err-operation.result c.from_residual-in_err-operation.ensures.1 in
    rw (p.1, p.2, other_rows (g.R.Reader.reading c.args.input.now).is_big c.args.encoding c.args.opcode.0 c.in_default.ensures.none) c.in_err-operation.ensures.err

pub returns-clause-ok : goal.returns-clause-ok
returns-clause-ok g c = rw (other_rows (g.R.Reader.reading c.args.input.now).is_big c.args.encoding c.args.opcode.0 c.in_default.ensures.none) c.in_ok-operation.ensures.ok

pub returns-in_err-offset-clause-ok : goal.returns-in_err-offset-clause-ok
returns-in_err-offset-clause-ok g c = rw (err_from_is_err_and c.from_residual.result c.from_residual.ensures.1).1 tt

pub returns-in_err-offset-clause-parts : goal.returns-in_err-offset-clause-parts
returns-in_err-offset-clause-parts g c = rw (err_from_is_err_and c.from_residual.result c.from_residual.ensures.1).1 tt

pub returns-in-Some-clause-err : goal.returns-in-Some-clause-err
returns-in-Some-clause-err g c = tt

pub returns-in_err-operation-clause-ok : goal.returns-in_err-operation-clause-ok
returns-in_err-operation-clause-ok g c = rw (err_from_is_err_and c.from_residual-in_err-operation.result c.from_residual-in_err-operation.ensures.1).1 tt

pub returns-in_err-operation-clause-parts : goal.returns-in_err-operation-clause-parts
returns-in_err-operation-clause-parts g c = rw (err_from_is_err_and c.from_residual-in_err-operation.result c.from_residual-in_err-operation.ensures.1).1 tt

pub returns-clause-err : goal.returns-clause-err
returns-clause-err g c = tt
