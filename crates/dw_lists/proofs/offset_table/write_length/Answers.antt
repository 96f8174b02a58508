use Rattle.dw_base.specs.Numbers.{word_of}
use Rattle.dw_writer.proofs.Outcomes.{OnOk-map, IfErr-map}
use Rattle.dw_lists.specs.Causes.{Is, length_fails}
use Rattle.dw_lists.proofs.Causes.{OnOk-both}
use Rattle.dw_lists.proofs.Refusals.{length_none, length_refused, refused_after}
use Rattle.dw_lists.proofs.Tables.{written-length, opened_size}
use Rattle.std.proofs.lemmas.Result.{err_from_is_err_and}
use Rattle.dw_writer.proofs.Steps.{IsSameWriter-trans}
use Rattle.dw_lists.proofs.offset_table.write_length.Goals as goal

pub returns-clause-ok : goal.returns-clause-ok
returns-clause-ok g c =
    OnOk-both c.write_initial_length_at.result c.write_initial_length_at.ensures.fits c.write_initial_length_at.ensures.ok
    (λ fits p. written-length c.args.format c.args.length c.in_ok-at.at c.in_ok-at.ensures.ok c.in_ok-at.ensures.place fits p)

pub returns-clause-sound : goal.returns-clause-sound
returns-clause-sound g c = OnOk-map c.write_initial_length_at.result c.write_initial_length_at.ensures.fits (λ fits. length_none c.args.format c.args.length fits)

pub returns-clause-err : goal.returns-clause-err
returns-clause-err g c =
    let a = g.W.Writer.meaning c.args.w.now in
    let b = g.W.Writer.meaning c.write_initial_length.new.self in
    let d = g.W.Writer.meaning c.write_initial_length_at.new.self in
    let fails = Is (length_fails c.args.format c.args.length) in
    let within = opened_size c.args.format c.in_ok-at.at c.in_ok-at.ensures.ok c.in_ok-at.ensures.place in
    IfErr-map c.write_initial_length_at.result c.write_initial_length_at.ensures.err
    (λ e h. refused_after a b d fails fails c.in_ok-at.ensures.ok.same (λ err k. k) e (length_refused b d c.args.format c.args.length c.in_ok-at.at (word_of c.args.format) within e h))

pub returns-in_err-at-clause-ok : goal.returns-in_err-at-clause-ok
returns-in_err-at-clause-ok g c = rw (err_from_is_err_and c.from_residual.result c.from_residual.ensures.1).1 tt

pub returns-in_err-at-clause-sound : goal.returns-in_err-at-clause-sound
returns-in_err-at-clause-sound g c = rw (err_from_is_err_and c.from_residual.result c.from_residual.ensures.1).1 tt

pub returns-in_err-at-clause-same : goal.returns-in_err-at-clause-same
returns-in_err-at-clause-same g c = c.in_err-at.ensures.same

pub returns-clause-same : goal.returns-clause-same
returns-clause-same g c = IsSameWriter-trans c.in_ok-at.ensures.same c.write_initial_length_at.ensures.same
