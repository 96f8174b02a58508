use Rattle.std.proofs.Common.{◌≡◌, subst, ℕ, List, Err, arith}
use Rattle.dw_read.specs.Reading.{left}
use Rattle.dw_read.specs.Took.{Took}
use Rattle.dw_read_frames.specs.Augmentations.{letters_read, no_letters}
use Rattle.dw_read_frames.specs.declared.augmentation.Augmentation.{Augmentation}
use Rattle.std.proofs.lemmas.Result.{err_from_is_err_and}
use Rattle.dw_read_frames.proofs.AugmentationLaws.{no_text, unread_first, unknown_text, no_size, data_cut, data_lost, data_found}
use Rattle.dw_read_frames.proofs.augmentation.read_augmentation.Goals as goal

pub returns-then-len-eq0-clause-ok : goal.returns-then-len-eq0-clause-ok
returns-then-len-eq0-clause-ok g c = no_text c.args.size _ _ (g.met.R.Reader.is_reading c.args.input.now) (omega (arith, c.len.ensures, c.if-len-eq0.true))

pub returns-in_err-first-clause-err : goal.returns-in_err-first-clause-err
returns-in_err-first-clause-err g c = unread_first _ _ _ (λ h. c.if-len-eq0.false (omega (arith, c.len.ensures, h))) c.in_err-first.ensures.err.reason

pub returns-then-first-ne122-clause-err : goal.returns-then-first-ne122-clause-err
returns-then-first-ne122-clause-err g c = unknown_text c.args.size c.in_ok-first.first _ _ c.in_ok-first.ensures.ok _ (λ h. omega (arith, h))

pub returns-in_err-length-clause-err : goal.returns-in_err-length-clause-err
returns-in_err-length-clause-err g c =
    let p = err_from_is_err_and c.from_residual-in_err-length.result c.from_residual-in_err-length.ensures.1 in
    rw (p.1, p.2) (no_size c.args.size c.in_ok-first.first _ _ c.in_ok-first.ensures.ok (omega arith) _ _ c.in_err-length.ensures.err.reason)

pub returns-in_err-data-clause-err : goal.returns-in_err-data-clause-err
returns-in_err-data-clause-err g c =
    let p = err_from_is_err_and c.from_residual-in_err-data.result c.from_residual-in_err-data.ensures.1 in
    rw (p.1, p.2) (data_cut c.args.size c.in_ok-first.first _ _ c.in_ok-first.ensures.ok (omega arith) _ c.in_ok-length.length _ c.in_ok-length.ensures.ok _ c.in_err-data.ensures.err.reason)

pub returns-in_err-augmentation-clause-err : goal.returns-in_err-augmentation-clause-err
returns-in_err-augmentation-clause-err g c =
    let is = g.met.R.Reader.is_reading in
    let p = err_from_is_err_and c.from_residual-in_err-augmentation.result c.from_residual-in_err-augmentation.ensures.1 in
    rw (p.1, p.2) (data_lost c.args.size c.in_ok-first.first _ _ c.in_ok-first.ensures.ok (omega arith) _ c.in_ok-length.length _ c.in_ok-length.ensures.ok _ _ (is c.read_uleb128.new.self) (is c.split.new.self) c.in_ok-data.ensures.part c.in_ok-data.ensures.ok _ (subst (λ (t : List ℕ). letters_read (g.R.Reader.reading c.in_ok-data.data).is_big c.args.size (g.R.Reader.reading c.in_ok-data.data).end t no_letters (left (g.R.Reader.reading c.in_ok-data.data)) ≡ Err c.in_err-augmentation.field-0.0) c.to_slice.ensures c.in_err-augmentation.ensures.err))

pub returns-clause-ok : goal.returns-clause-ok
returns-clause-ok g c =
    let is = g.met.R.Reader.is_reading in
    data_found c.args.size c.in_ok-first.first _ _ c.in_ok-first.ensures.ok (omega arith) _ c.in_ok-length.length _ c.in_ok-length.ensures.ok _ _ (is c.read_uleb128.new.self) (is c.split.new.self) c.in_ok-data.ensures.part c.in_ok-data.ensures.ok _ _ (subst (λ (t : List ℕ). Took Augmentation (letters_read (g.R.Reader.reading c.in_ok-data.data).is_big c.args.size (g.R.Reader.reading c.in_ok-data.data).end t no_letters) (g.R.Reader.reading c.in_ok-data.data) (g.R.Reader.reading c.read_letters.new.input) c.in_ok-augmentation.augmentation) c.to_slice.ensures c.in_ok-augmentation.ensures.ok)
