use Rattle.std.proofs.Common.{◌+◌, subst, arith}
use Rattle.std.proofs.lemmas.Bool.{or_left, or_right}
use Rattle.std.proofs.lemmas.Result.{err_from_is_err_and}
use Rattle.dw_writer.proofs.Steps.{IsSameWriter-trans}
use Rattle.dw_lists.specs.Pieces.{fields_size}
use Rattle.dw_lists.specs.Causes.{Is, size_fails, length_fails, words_fail, head_fails}
use Rattle.dw_lists.proofs.Refusals.{too_large, weaker, close_refused, refused_after}
use Rattle.dw_lists.proofs.TableCauses.{size_none, head_none}
use Rattle.dw_lists.proofs.Tables.{head_drafts, head_sized}
use Rattle.dw_lists.proofs.lists.write_head.Goals as goal

pub returns-in_err-size-clause-err : goal.returns-in_err-size-clause-err
returns-in_err-size-clause-err g c =
    let m = g.W.Writer.meaning c.args.w.now in
    let n = fields_size + c.args.end in
    let p = err_from_is_err_and c.from_residual.result c.from_residual.ensures.1 in
    rw (p.1, p.2) (too_large m m n n {q = Is (head_fails c.args.encoding.format n c.args.entries.now)} c.in_err-size.field-0.0 c.in_err-size.ensures.err (omega arith)
    (λ e h. or_left (size_fails n e) _ h))

pub returns-in_err-write_length-clause-err : goal.returns-in_err-write_length-clause-err
returns-in_err-write_length-clause-err g c =
    let m = g.W.Writer.meaning c.args.w.now in
    let format = c.args.encoding.format in
    let n = fields_size + c.args.end in
    let p = err_from_is_err_and c.from_residual-in_err-write_length.result c.from_residual-in_err-write_length.ensures.1 in
    rw (p.1, p.2) (weaker m (g.W.Writer.meaning c.write_length.new.w) (Is (length_fails format c.in_ok-size.size)) (Is (head_fails format n c.args.entries.now))
    (λ e h. or_right (size_fails n e) _ (or_left (length_fails format n e) _ (subst (λ k. Is (length_fails format k) e) c.in_ok-size.ensures.ok h)))
    c.in_err-write_length.field-0.0 c.in_err-write_length.ensures.err)

pub returns-in_err-write_fields-clause-err : goal.returns-in_err-write_fields-clause-err
returns-in_err-write_fields-clause-err g c =
    let m = g.W.Writer.meaning c.args.w.now in
    let p = err_from_is_err_and c.from_residual-in_err-write_fields.result c.from_residual-in_err-write_fields.ensures.1 in
    rw (p.1, p.2) (close_refused m (g.W.Writer.meaning c.write_length.new.w) (g.W.Writer.meaning c.write_fields.new.w) (Is (head_fails c.args.encoding.format (fields_size + c.args.end) c.args.entries.now)) c.in_ok-write_length.ensures.same
    c.in_err-write_fields.field-0.0 c.in_err-write_fields.ensures.err)

pub returns-in_err-write_words-clause-err : goal.returns-in_err-write_words-clause-err
returns-in_err-write_words-clause-err g c =
    let m = g.W.Writer.meaning c.args.w.now in
    let format = c.args.encoding.format in
    let n = fields_size + c.args.end in
    let ns = c.args.entries.now in
    let same = IsSameWriter-trans c.in_ok-write_length.ensures.same c.in_ok-write_fields.ensures.same in
    let p = err_from_is_err_and c.from_residual-in_err-write_words.result c.from_residual-in_err-write_words.ensures.1 in
    rw (p.1, p.2) (refused_after m (g.W.Writer.meaning c.write_fields.new.w) (g.W.Writer.meaning c.write_words.new.w) (Is (words_fail format ns)) (Is (head_fails format n ns)) same
    (λ e h. or_right (size_fails n e) _ (or_right (length_fails format n e) _ h))
    c.in_err-write_words.field-0.0 c.in_err-write_words.ensures.err)

pub returns-clause-ok : goal.returns-clause-ok
returns-clause-ok g c =
    λ kept. head_sized c.args.encoding c.args.entries.now kept c.in_ok-size.ensures.ok (head_drafts c.args.encoding c.in_ok-size.size c.args.entries.now c.in_ok-write_length.ensures.ok c.in_ok-write_fields.ensures.ok c.in_ok-write_words.ensures.ok kept)

pub returns-clause-base : goal.returns-clause-base
returns-clause-base g c = omega (arith, c.len-base.ensures, c.in_ok-write_fields.ensures.ok.size, c.in_ok-write_length.ensures.ok.size)

pub returns-clause-sound : goal.returns-clause-sound
returns-clause-sound g c =
    head_none c.args.encoding.format c.in_ok-size.size _ c.args.entries.now c.in_ok-size.ensures.ok (size_none c.in_ok-size.size (omega arith)) c.in_ok-write_length.ensures.sound c.in_ok-write_words.ensures.sound

pub returns-in_err-size-clause-ok : goal.returns-in_err-size-clause-ok
returns-in_err-size-clause-ok g c = rw (err_from_is_err_and c.from_residual.result c.from_residual.ensures.1).1 tt

pub returns-in_err-size-clause-base : goal.returns-in_err-size-clause-base
returns-in_err-size-clause-base g c = rw (err_from_is_err_and c.from_residual.result c.from_residual.ensures.1).1 tt

pub returns-in_err-size-clause-sound : goal.returns-in_err-size-clause-sound
returns-in_err-size-clause-sound g c = rw (err_from_is_err_and c.from_residual.result c.from_residual.ensures.1).1 tt

pub returns-in_err-write_length-clause-ok : goal.returns-in_err-write_length-clause-ok
returns-in_err-write_length-clause-ok g c = rw (err_from_is_err_and c.from_residual-in_err-write_length.result c.from_residual-in_err-write_length.ensures.1).1 tt

pub returns-in_err-write_length-clause-base : goal.returns-in_err-write_length-clause-base
returns-in_err-write_length-clause-base g c = rw (err_from_is_err_and c.from_residual-in_err-write_length.result c.from_residual-in_err-write_length.ensures.1).1 tt

pub returns-in_err-write_length-clause-sound : goal.returns-in_err-write_length-clause-sound
returns-in_err-write_length-clause-sound g c = rw (err_from_is_err_and c.from_residual-in_err-write_length.result c.from_residual-in_err-write_length.ensures.1).1 tt

pub returns-in_err-write_fields-clause-ok : goal.returns-in_err-write_fields-clause-ok
returns-in_err-write_fields-clause-ok g c = rw (err_from_is_err_and c.from_residual-in_err-write_fields.result c.from_residual-in_err-write_fields.ensures.1).1 tt

pub returns-in_err-write_fields-clause-base : goal.returns-in_err-write_fields-clause-base
returns-in_err-write_fields-clause-base g c = rw (err_from_is_err_and c.from_residual-in_err-write_fields.result c.from_residual-in_err-write_fields.ensures.1).1 tt

pub returns-in_err-write_fields-clause-sound : goal.returns-in_err-write_fields-clause-sound
returns-in_err-write_fields-clause-sound g c = rw (err_from_is_err_and c.from_residual-in_err-write_fields.result c.from_residual-in_err-write_fields.ensures.1).1 tt

pub returns-in_err-write_words-clause-ok : goal.returns-in_err-write_words-clause-ok
returns-in_err-write_words-clause-ok g c = rw (err_from_is_err_and c.from_residual-in_err-write_words.result c.from_residual-in_err-write_words.ensures.1).1 tt

pub returns-in_err-write_words-clause-base : goal.returns-in_err-write_words-clause-base
returns-in_err-write_words-clause-base g c = rw (err_from_is_err_and c.from_residual-in_err-write_words.result c.from_residual-in_err-write_words.ensures.1).1 tt

pub returns-in_err-write_words-clause-sound : goal.returns-in_err-write_words-clause-sound
returns-in_err-write_words-clause-sound g c = rw (err_from_is_err_and c.from_residual-in_err-write_words.result c.from_residual-in_err-write_words.ensures.1).1 tt

pub returns-clause-err : goal.returns-clause-err
returns-clause-err g c = tt

pub returns-in_err-write_length-clause-same : goal.returns-in_err-write_length-clause-same
returns-in_err-write_length-clause-same g c = c.in_err-write_length.ensures.same

pub returns-in_err-write_fields-clause-same : goal.returns-in_err-write_fields-clause-same
returns-in_err-write_fields-clause-same g c = IsSameWriter-trans c.in_ok-write_length.ensures.same c.in_err-write_fields.ensures.same

pub returns-in_err-write_words-clause-same : goal.returns-in_err-write_words-clause-same
returns-in_err-write_words-clause-same g c = IsSameWriter-trans c.in_ok-write_length.ensures.same (IsSameWriter-trans c.in_ok-write_fields.ensures.same c.in_err-write_words.ensures.same)

pub returns-clause-same : goal.returns-clause-same
returns-clause-same g c = IsSameWriter-trans c.in_ok-write_length.ensures.same (IsSameWriter-trans c.in_ok-write_fields.ensures.same c.in_ok-write_words.ensures.same)
