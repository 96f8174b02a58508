use Rattle.std.proofs.Common.{get_or, refl}
use Rattle.std.proofs.lemmas.Result.{err_from_is_err_and}
use Rattle.dw_read_frames.proofs.AugmentationLaws.{letters_none, letters_more, letters_not, letters_end}
use Rattle.dw_read_frames.proofs.augmentation.read_letters.Goals as goal

pub loop-letter-init : goal.loop-letter-init
loop-letter-init g c = letters_none c.args.size c.args.letters.now _ (g.met.R.Reader.is_reading c.args.input.now)

pub returns-in_err-augmentation-clause-err : goal.returns-in_err-augmentation-clause-err
returns-in_err-augmentation-clause-err g c =
    let xs = c.args.letters.now in
    let i = c.loop-letter.letter-index in
    let p = err_from_is_err_and c.from_residual.result c.from_residual.ensures.1 in
    rw (p.1, p.2) (letters_not c.args.size xs i (get_or xs i 0) c.loop-letter.augmentation _ _ c.loop-letter.invariant c.loop-letter-test.true refl _ c.in_err-augmentation.ensures.err)

pub loop-letter-preserved : goal.loop-letter-preserved
loop-letter-preserved g c =
    let xs = c.args.letters.now in
    let i = c.loop-letter.letter-index in
    letters_more c.args.size xs i (get_or xs i 0) c.loop-letter.augmentation _ _ c.loop-letter.invariant c.loop-letter-test.true refl _ _ c.in_ok-augmentation.ensures.ok

pub returns-clause-ok : goal.returns-clause-ok
returns-clause-ok g c = letters_end c.args.size c.args.letters.now _ _ _ _ c.loop-letter.invariant c.loop-letter-test.false
