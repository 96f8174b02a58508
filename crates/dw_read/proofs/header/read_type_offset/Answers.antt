use Rattle.std.proofs.Common.{ℕ, Option, refl}
use Rattle.std.proofs.lemmas.Result.{err_from_is_err_and}
use Rattle.dw_base.specs.Numbers.{word_of}
use Rattle.dw_read.specs.Headers.{optional_read}
use Rattle.dw_read.proofs.Chain.{took, number_took, number_not, went_of}
use Rattle.dw_read.proofs.HeaderRead.{optional_none, optional_some, optional_err}
use Rattle.dw_read.proofs.Chain.{went_none}
use Rattle.dw_read.proofs.header.read_type_offset.Goals as goal

pub returns-in_err-place-clause-err : goal.returns-in_err-place-clause-err
returns-in_err-place-clause-err g c =
    let p = err_from_is_err_and c.from_residual.result c.from_residual.ensures.1 in
    rw (p.1, p.2) (optional_err c.args.is_there (g.R.Reader.reading c.args.input.now).is_big (word_of c.args.format) _ _ c.if-is_there.true (number_not (g.R.Reader.reading c.args.input.now).is_big (word_of c.args.format) _ _ refl c.in_err-place.ensures.err))

pub returns-then-is_there-clause-ok : goal.returns-then-is_there-clause-ok
returns-then-is_there-clause-ok g c =
    took (Option ℕ) (optional_read c.args.is_there (g.R.Reader.reading c.args.input.now).is_big (word_of c.args.format)) _ _ _ (went_of (word_of c.args.format) _ _ c.in_ok-place.ensures.passes)
    (optional_some c.args.is_there (g.R.Reader.reading c.args.input.now).is_big (word_of c.args.format) _ _ _ c.if-is_there.true (number_took (g.R.Reader.reading c.args.input.now).is_big (word_of c.args.format) _ _ _ refl c.in_ok-place.ensures.ok))

pub returns-clause-ok : goal.returns-clause-ok
returns-clause-ok g c = took (Option ℕ) (optional_read c.args.is_there (g.R.Reader.reading c.args.input.now).is_big (word_of c.args.format)) _ _ _ (went_none _ (g.met.R.Reader.is_reading c.args.input.now)) (optional_none c.args.is_there (g.R.Reader.reading c.args.input.now).is_big (word_of c.args.format) _ c.if-is_there.false)

pub returns-in_err-place-clause-ok : goal.returns-in_err-place-clause-ok
returns-in_err-place-clause-ok g c = rw (err_from_is_err_and c.from_residual.result c.from_residual.ensures.1).1 tt

pub returns-then-is_there-clause-err : goal.returns-then-is_there-clause-err
returns-then-is_there-clause-err g c = tt

pub returns-clause-err : goal.returns-clause-err
returns-clause-err g c = tt
