use Rattle.std.proofs.lemmas.Result.{err_from_is_err_and}
use Rattle.dw_writer.proofs.Outcomes.{OnOk-map, IfErr-map}
use Rattle.dw_lists.specs.Items.{marker}
use Rattle.dw_lists.specs.Kinds.{range_kinds}
use Rattle.dw_lists.proofs.Spans.{written-marker, old_base}
use Rattle.dw_lists.proofs.Refusals.{base_unsized, base_marker, base_refused, base_none}
use Rattle.dw_writer.proofs.Steps.{IsSameWriter-trans}
use Rattle.dw_lists.proofs.item.write_base.Goals as goal

pub returns-in_err-all_ones-clause-err : goal.returns-in_err-all_ones-clause-err
returns-in_err-all_ones-clause-err g c =
    let m = g.W.Writer.meaning c.args.w.now in
    let p = err_from_is_err_and c.from_residual.result c.from_residual.ensures.1 in
    rw (p.1, p.2) (base_unsized m.is_plain m m c.args.address_size c.args.address c.in_err-all_ones.field-0.0 c.in_err-all_ones.ensures.err)

pub returns-in_err-write_udata-clause-err : goal.returns-in_err-write_udata-clause-err
returns-in_err-write_udata-clause-err g c =
    let m = g.W.Writer.meaning c.args.w.now in
    let p = err_from_is_err_and c.from_residual-in_err-write_udata.result c.from_residual-in_err-write_udata.ensures.1 in
    rw (p.1, p.2) (base_marker m.is_plain m (g.W.Writer.meaning c.write_udata.new.self) c.args.address_size c.args.address c.in_ok-all_ones.all_ones c.in_ok-all_ones.ensures.ok
    c.in_err-write_udata.field-0.0 c.in_err-write_udata.ensures.err)

pub returns-clause-ok : goal.returns-clause-ok
returns-clause-ok g c =
    let w = c.args.address_size in
    OnOk-map c.write_address.result c.write_address.ensures.ok
    (old_base range_kinds w c.args.address (written-marker w c.in_ok-all_ones.all_ones (marker w) c.in_ok-all_ones.ensures.ok c.in_ok-write_udata.ensures.fits c.in_ok-write_udata.ensures.ok))

pub returns-clause-sound : goal.returns-clause-sound
returns-clause-sound g c =
    OnOk-map c.write_address.result c.write_address.ensures.fits
    (base_none (g.W.Writer.meaning c.args.w.now) (g.W.Writer.meaning c.write_udata.new.self) c.in_ok-write_udata.ensures.same c.args.address_size c.args.address c.in_ok-all_ones.ensures.width)

pub returns-clause-err : goal.returns-clause-err
returns-clause-err g c =
    IfErr-map c.write_address.result c.write_address.ensures.err
    (base_refused (g.W.Writer.meaning c.args.w.now) (g.W.Writer.meaning c.write_udata.new.self) c.in_ok-write_udata.ensures.same c.args.address_size (g.W.Writer.meaning c.write_address.new.self) c.args.address)

pub returns-in_err-all_ones-clause-ok : goal.returns-in_err-all_ones-clause-ok
returns-in_err-all_ones-clause-ok g c = rw (err_from_is_err_and c.from_residual.result c.from_residual.ensures.1).1 tt

pub returns-in_err-all_ones-clause-sound : goal.returns-in_err-all_ones-clause-sound
returns-in_err-all_ones-clause-sound g c = rw (err_from_is_err_and c.from_residual.result c.from_residual.ensures.1).1 tt

pub returns-in_err-write_udata-clause-ok : goal.returns-in_err-write_udata-clause-ok
returns-in_err-write_udata-clause-ok g c = rw (err_from_is_err_and c.from_residual-in_err-write_udata.result c.from_residual-in_err-write_udata.ensures.1).1 tt

pub returns-in_err-write_udata-clause-sound : goal.returns-in_err-write_udata-clause-sound
returns-in_err-write_udata-clause-sound g c = rw (err_from_is_err_and c.from_residual-in_err-write_udata.result c.from_residual-in_err-write_udata.ensures.1).1 tt

pub returns-in_err-write_udata-clause-same : goal.returns-in_err-write_udata-clause-same
returns-in_err-write_udata-clause-same g c = c.in_err-write_udata.ensures.same

pub returns-clause-same : goal.returns-clause-same
returns-clause-same g c = IsSameWriter-trans c.in_ok-write_udata.ensures.same c.write_address.ensures.same
