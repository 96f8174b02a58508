use Rattle.std.proofs.Common.{◌∙◌, ap, Bool}
use Rattle.std.proofs.lemmas.Result.{err_from_is_err_and}
use Rattle.dw_base.specs.Numbers.{value_of}
use Rattle.dw_read.proofs.Lefts.{reads_number}
use Rattle.dw_read.proofs.Reasoned.{refuses_number}
use Rattle.dw_read.proofs.reader.Reader.read_u128.Goals as goal

pub returns-clause-ok : goal.returns-clause-ok
returns-clause-ok g c =
    reads_number _ 16 c.wide_number_of.result _ _ _ _ (g.met.Self.Reader.is_reading c.args.self.now) c.in_ok-part.ensures.ok c.in_ok-part.ensures.part c.to_slice.ensures
    (c.wide_number_of.ensures.value ∙ ap (λ (b : Bool). value_of b c.to_slice.result.now) (c.is_big_endian-big.ensures ∙ c.endian.ensures))

pub returns-in_err-part-clause-err : goal.returns-in_err-part-clause-err
returns-in_err-part-clause-err g c =
    let p = err_from_is_err_and c.from_residual.result c.from_residual.ensures.1 in
    rw (p.1, p.2) (refuses_number (g.Self.Reader.reading c.args.self.now).is_big 16 _ _ c.in_err-part.ensures.err)

pub returns-in_err-part-clause-passes : goal.returns-in_err-part-clause-passes
returns-in_err-part-clause-passes g c = rw (err_from_is_err_and c.from_residual.result c.from_residual.ensures.1).1 tt

pub returns-in_err-part-clause-ok : goal.returns-in_err-part-clause-ok
returns-in_err-part-clause-ok g c = rw (err_from_is_err_and c.from_residual.result c.from_residual.ensures.1).1 tt

pub returns-in_err-part-clause-kept : goal.returns-in_err-part-clause-kept
returns-in_err-part-clause-kept g c = rw (err_from_is_err_and c.from_residual.result c.from_residual.ensures.1).1 c.in_err-part.ensures.kept

pub returns-clause-passes : goal.returns-clause-passes
returns-clause-passes g c = c.in_ok-part.ensures.ok

pub returns-clause-err : goal.returns-clause-err
returns-clause-err g c = tt

pub returns-clause-kept : goal.returns-clause-kept
returns-clause-kept g c = tt
