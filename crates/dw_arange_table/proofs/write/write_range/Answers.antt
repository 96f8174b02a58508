use Rattle.std.proofs.lemmas.Result.{err_from_is_err_and}
use Rattle.dw_base.specs.Numbers.{fits}
use Rattle.dw_writer.proofs.Outcomes.{OnOk-map, IfErr-map}
use Rattle.dw_arange_table.proofs.WriteSteps.{number_after, number_refused, refused_later, address_fits, length_fits}
use Rattle.dw_arange_table.proofs.write.write_range.Goals as goal

pub returns-in_err-write_udata-clause-err : goal.returns-in_err-write_udata-clause-err
returns-in_err-write_udata-clause-err g c =
    let r = c.args.range.now in
    let w = c.args.size in
    let p = err_from_is_err_and c.from_residual.result c.from_residual.ensures.1 in
    rw (p.1, p.2) (number_refused (g.W.Writer.meaning c.args.w.now) (g.W.Writer.meaning c.write_udata.new.self) w (fits w r.address) c.requires.wide (address_fits w r c.requires.fits) _ c.in_err-write_udata.ensures.err)

pub returns-clause-ok : goal.returns-clause-ok
returns-clause-ok g c =
    OnOk-map c.write_udata-2.result c.write_udata-2.ensures.ok (λ number. number_after _ c.args.size c.args.range.now.length c.in_ok-write_udata.ensures.ok number)

pub returns-clause-err : goal.returns-clause-err
returns-clause-err g c =
    let r = c.args.range.now in
    let w = c.args.size in
    let a = g.W.Writer.meaning c.args.w.now in
    let b = g.W.Writer.meaning c.write_udata.new.self in
    let d = g.W.Writer.meaning c.write_udata-2.new.self in
    IfErr-map c.write_udata-2.result c.write_udata-2.ensures.err
    (λ e why. refused_later a b d c.in_ok-write_udata.ensures.ok.same e (number_refused b d w (fits w r.length) c.requires.wide (length_fits w r c.requires.fits) e why))
