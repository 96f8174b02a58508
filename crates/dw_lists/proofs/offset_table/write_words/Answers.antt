use Rattle.std.proofs.Common.{◌∙◌, ◌<◌, length, get_or, refl}
use Rattle.std.proofs.lemmas.Result.{err_from_is_err_and}
use Rattle.dw_base.specs.Numbers.{word_of}
use Rattle.dw_lists.specs.Pieces.{word_draft}
use Rattle.dw_lists.specs.Causes.{number_fails}
use Rattle.dw_lists.proofs.Causes.{any_more, any_ended, read_there}
use Rattle.dw_lists.proofs.Spans.{written-number}
use Rattle.dw_lists.proofs.Tables.{written-nothing, written-more}
use Rattle.dw_lists.proofs.Refusals.{number_none, word_refused}
use Rattle.dw_lists.proofs.offset_table.write_words.Goals as goal

pub loop-word-init : goal.loop-word-init
loop-word-init g c = record { written = written-nothing (g.W.Writer.meaning c.args.w.now); none = λ e. refl }

pub loop-word-preserved : goal.loop-word-preserved
loop-word-preserved g c =
    let xs = c.args.words.now in
    let i = c.loop-word.word-index in
    let x = get_or xs i 0 in
    let w = word_of c.args.format in
    let below : i < length xs = c.loop-word-test.true in
    let fits = rw c.word_size.ensures at c.in_ok-write_udata.ensures.fits in
    let ok = rw c.word_size.ensures at c.in_ok-write_udata.ensures.ok in
    record {
      written = written-more (word_draft c.args.format) xs i x below (read_there xs i 0 below) c.loop-word.invariant.written (written-number w x fits ok);
      none = λ e. c.loop-word.invariant.none e ∙ any_more (number_fails w) xs i x below (read_there xs i 0 below) (number_none w x fits.0 fits.1) e;
    }

pub returns-clause-sound : goal.returns-clause-sound
returns-clause-sound g c = λ e. c.loop-word.invariant.none e ∙ any_ended (number_fails (word_of c.args.format)) c.args.words.now c.loop-word.word-index c.loop-word-test.false e

pub returns-in_err-write_udata-clause-err : goal.returns-in_err-write_udata-clause-err
returns-in_err-write_udata-clause-err g c =
    let xs = c.args.words.now in
    let below : c.loop-word.word-index < length xs = c.loop-word-test.true in
    let p = err_from_is_err_and c.from_residual.result c.from_residual.ensures.1 in
    let refused = rw c.word_size.ensures at c.in_err-write_udata.ensures.err in
    rw (p.1, p.2) (word_refused (g.W.Writer.meaning c.args.w.now) (g.W.Writer.meaning c.loop-word.w) (g.W.Writer.meaning c.write_udata.new.self) c.args.format xs c.loop-word.word-index below c.loop-word.invariant.written.same c.in_err-write_udata.field-0.0 refused)

pub returns-in_err-write_udata-clause-ok : goal.returns-in_err-write_udata-clause-ok
returns-in_err-write_udata-clause-ok g c = rw (err_from_is_err_and c.from_residual.result c.from_residual.ensures.1).1 tt

pub returns-in_err-write_udata-clause-sound : goal.returns-in_err-write_udata-clause-sound
returns-in_err-write_udata-clause-sound g c = rw (err_from_is_err_and c.from_residual.result c.from_residual.ensures.1).1 tt

pub returns-clause-err : goal.returns-clause-err
returns-clause-err g c = tt
