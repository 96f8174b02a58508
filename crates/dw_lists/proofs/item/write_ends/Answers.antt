use Rattle.std.proofs.lemmas.Result.{err_from_is_err_and}
use Rattle.dw_writer.proofs.Outcomes.{OnOk-map, IfErr-map}
use Rattle.dw_writer.proofs.Steps.{Appends-then, IsSameWriter-trans}
use Rattle.dw_lists.proofs.Refusals.{end_first, end_refused, ends_none}
use Rattle.dw_lists.proofs.item.write_ends.Goals as goal

pub returns-in_err-write_address-clause-err : goal.returns-in_err-write_address-clause-err
returns-in_err-write_address-clause-err g c =
    let m = g.W.Writer.meaning c.args.w.now in
    let p = err_from_is_err_and c.from_residual.result c.from_residual.ensures.1 in
    rw (p.1, p.2) (end_first m (g.W.Writer.meaning c.write_address.new.self) c.args.address_size c.args.begin c.args.end c.in_err-write_address.field-0.0 c.in_err-write_address.ensures.err)

pub returns-clause-ok : goal.returns-clause-ok
returns-clause-ok g c = OnOk-map c.write_address-2.result c.write_address-2.ensures.ok (λ p. Appends-then c.in_ok-write_address.ensures.ok p)

pub returns-clause-sound : goal.returns-clause-sound
returns-clause-sound g c =
    OnOk-map c.write_address-2.result c.write_address-2.ensures.fits
    (ends_none (g.W.Writer.meaning c.args.w.now) (g.W.Writer.meaning c.write_address.new.self) c.in_ok-write_address.ensures.same c.args.address_size c.args.begin c.args.end c.in_ok-write_address.ensures.fits)

pub returns-clause-err : goal.returns-clause-err
returns-clause-err g c =
    IfErr-map c.write_address-2.result c.write_address-2.ensures.err
    (end_refused (g.W.Writer.meaning c.args.w.now) (g.W.Writer.meaning c.write_address.new.self) c.in_ok-write_address.ensures.same c.args.address_size (g.W.Writer.meaning c.write_address-2.new.self) c.args.begin c.args.end)

pub returns-in_err-write_address-clause-ok : goal.returns-in_err-write_address-clause-ok
returns-in_err-write_address-clause-ok g c = rw (err_from_is_err_and c.from_residual.result c.from_residual.ensures.1).1 tt

pub returns-in_err-write_address-clause-sound : goal.returns-in_err-write_address-clause-sound
returns-in_err-write_address-clause-sound g c = rw (err_from_is_err_and c.from_residual.result c.from_residual.ensures.1).1 tt

pub returns-in_err-write_address-clause-same : goal.returns-in_err-write_address-clause-same
returns-in_err-write_address-clause-same g c = c.in_err-write_address.ensures.same

pub returns-clause-same : goal.returns-clause-same
returns-clause-same g c = IsSameWriter-trans c.in_ok-write_address.ensures.same c.write_address-2.ensures.same
