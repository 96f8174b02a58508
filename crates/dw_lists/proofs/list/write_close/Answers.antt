use Rattle.std.proofs.lemmas.Result.{err_from_is_err_and}
use Rattle.dw_writer.proofs.Outcomes.{OnOk-map, IfErr-map}
use Rattle.dw_writer.proofs.Steps.{Appends-then, IsSameWriter-trans}
use Rattle.dw_lists.proofs.Causes.{OnOk-both}
use Rattle.dw_lists.proofs.Spans.{written-number}
use Rattle.dw_lists.proofs.Refusals.{width_none, zero_first, zero_second}
use Rattle.dw_lists.proofs.list.write_close.Goals as goal

pub returns-in_err-write_udata-clause-err : goal.returns-in_err-write_udata-clause-err
returns-in_err-write_udata-clause-err g c =
    let p = err_from_is_err_and c.from_residual.result c.from_residual.ensures.1 in
    rw (p.1, p.2) (zero_first (g.W.Writer.meaning c.args.w.now) (g.W.Writer.meaning c.write_udata.new.self) c.args.address_size c.in_err-write_udata.field-0.0 c.in_err-write_udata.ensures.err)

pub returns-clause-ok : goal.returns-clause-ok
returns-clause-ok g c =
    let w = c.args.address_size in
    OnOk-both c.write_udata-2.result c.write_udata-2.ensures.fits c.write_udata-2.ensures.ok
    (λ fits p. Appends-then (written-number w 0 c.in_ok-write_udata.ensures.fits c.in_ok-write_udata.ensures.ok) (written-number w 0 fits p))

pub returns-clause-sound : goal.returns-clause-sound
returns-clause-sound g c = OnOk-map c.write_udata-2.result c.write_udata-2.ensures.fits (λ fits. width_none c.args.address_size fits.0)

pub returns-clause-err : goal.returns-clause-err
returns-clause-err g c =
    IfErr-map c.write_udata-2.result c.write_udata-2.ensures.err
    (zero_second (g.W.Writer.meaning c.args.w.now) (g.W.Writer.meaning c.write_udata.new.self) (g.W.Writer.meaning c.write_udata-2.new.self) c.args.address_size c.in_ok-write_udata.ensures.same)

pub returns-in_err-write_udata-clause-ok : goal.returns-in_err-write_udata-clause-ok
returns-in_err-write_udata-clause-ok g c = rw (err_from_is_err_and c.from_residual.result c.from_residual.ensures.1).1 tt

pub returns-in_err-write_udata-clause-sound : goal.returns-in_err-write_udata-clause-sound
returns-in_err-write_udata-clause-sound g c = rw (err_from_is_err_and c.from_residual.result c.from_residual.ensures.1).1 tt

pub returns-in_err-write_udata-clause-same : goal.returns-in_err-write_udata-clause-same
returns-in_err-write_udata-clause-same g c = c.in_err-write_udata.ensures.same

pub returns-clause-same : goal.returns-clause-same
returns-clause-same g c = IsSameWriter-trans c.in_ok-write_udata.ensures.same c.write_udata-2.ensures.same
