use Rattle.std.proofs.Common.{◌∙◌, ap, Err}
use Rattle.std.specs.Option.{option_copied}
use Rattle.std.proofs.lemmas.Result.{err_from_is_err_and}
use Rattle.dw_writer.proofs.Outcomes.{OnOk-map}
use Rattle.dw_writer.proofs.WriteLaws.{Drafts-nothing}
use Rattle.dw_expr.specs.Places.{known_by, place_by}
use Rattle.dw_lists.specs.Items.{is_five}
use Rattle.dw_lists.proofs.Causes.{nothing_there, refused_at}
use Rattle.dw_lists.proofs.Located.{size_located, located_drafts, located_refused, located_sound, count_located}
use Rattle.dw_writer.proofs.Steps.{IsSameWriter-trans}
use Rattle.dw_lists.proofs.part.write_located.Goals as goal

pub returns-in_default-clause-ok : goal.returns-in_default-clause-ok
returns-in_default-clause-ok g c = rw (nothing_there c.args.expression c.in_default.not-Some) (Drafts-nothing (g.W.Writer.meaning c.args.w.now) c.args.fixups.now)

pub returns-in_err-size-clause-err : goal.returns-in_err-size-clause-err
returns-in_err-size-clause-err g c =
    let known = known_by g.P.EntryPlaces.places c.args.places in
    let m = g.W.Writer.meaning c.args.w.now in
    let p = err_from_is_err_and c.from_residual.result c.from_residual.ensures.1 in
    rw (p.1, p.2, c.in-Some.is) (size_located c.args.encoding known m.is_plain m m (is_five c.args.encoding) c.in-Some.expression.now c.in_err-size.field-0.0 c.in_err-size.ensures.err)

pub returns-clause-ok : goal.returns-clause-ok
returns-clause-ok g c =
    let place = place_by (known_by g.P.EntryPlaces.places c.args.places) in
    rw c.in-Some.is (OnOk-map c.write.result c.write.ensures.ok
    (λ p. located_drafts (is_five c.args.encoding) c.args.encoding place c.in_ok-size.size c.in-Some.expression.now c.in_ok-size.ensures.ok c.in_ok-write_count.ensures.ok p))

pub returns-in_err-write_count-clause-err : goal.returns-in_err-write_count-clause-err
returns-in_err-write_count-clause-err g c =
    let known = known_by g.P.EntryPlaces.places c.args.places in
    let m = g.W.Writer.meaning c.args.w.now in
    let p = err_from_is_err_and c.from_residual-in_err-write_count.result c.from_residual-in_err-write_count.ensures.1 in
    let err = c.in_err-write_count.field-0.0 in
    refused_at c.from_residual-in_err-write_count.result _ err (p.1 ∙ ap Err p.2)
    (count_located c.args.encoding known (is_five c.args.encoding) (option_copied c.args.expression) c.in-Some.expression.now (ap option_copied c.in-Some.is) m (g.W.Writer.meaning c.write_count.new.w) c.in_ok-size.size c.in_ok-size.ensures.ok err c.in_err-write_count.ensures.err)

pub returns-clause-sound : goal.returns-clause-sound
returns-clause-sound g c =
    let known = known_by g.P.EntryPlaces.places c.args.places in
    let counted = c.in_ok-write_count.ensures in
    located_sound c.args.encoding known (is_five c.args.encoding) (option_copied c.args.expression) c.in-Some.expression.now (ap option_copied c.in-Some.is) c.write.result (g.W.Writer.meaning c.args.w.now) (g.W.Writer.meaning c.write_count.new.w) c.in_ok-size.size counted.same c.in_ok-size.ensures.ok counted.sound c.write.ensures.sound

pub returns-clause-err : goal.returns-clause-err
returns-clause-err g c =
    let known = known_by g.P.EntryPlaces.places c.args.places in
    located_refused c.args.encoding known (is_five c.args.encoding) (option_copied c.args.expression) c.in-Some.expression.now (ap option_copied c.in-Some.is) c.write.result (g.W.Writer.meaning c.args.w.now) (g.W.Writer.meaning c.write_count.new.w) (g.W.Writer.meaning c.write.new.w) c.in_ok-write_count.ensures.same c.write.ensures.err

pub returns-in_err-size-clause-ok : goal.returns-in_err-size-clause-ok
returns-in_err-size-clause-ok g c = rw (err_from_is_err_and c.from_residual.result c.from_residual.ensures.1).1 tt

pub returns-in_err-size-clause-spelled : goal.returns-in_err-size-clause-spelled
returns-in_err-size-clause-spelled g c = rw (err_from_is_err_and c.from_residual.result c.from_residual.ensures.1).1 tt

pub returns-in_err-size-clause-sound : goal.returns-in_err-size-clause-sound
returns-in_err-size-clause-sound g c = rw (err_from_is_err_and c.from_residual.result c.from_residual.ensures.1).1 tt

pub returns-in_err-write_count-clause-ok : goal.returns-in_err-write_count-clause-ok
returns-in_err-write_count-clause-ok g c = rw (err_from_is_err_and c.from_residual-in_err-write_count.result c.from_residual-in_err-write_count.ensures.1).1 tt

pub returns-in_err-write_count-clause-spelled : goal.returns-in_err-write_count-clause-spelled
returns-in_err-write_count-clause-spelled g c = rw (err_from_is_err_and c.from_residual-in_err-write_count.result c.from_residual-in_err-write_count.ensures.1).1 tt

pub returns-in_err-write_count-clause-sound : goal.returns-in_err-write_count-clause-sound
returns-in_err-write_count-clause-sound g c = rw (err_from_is_err_and c.from_residual-in_err-write_count.result c.from_residual-in_err-write_count.ensures.1).1 tt

pub returns-in_default-clause-err : goal.returns-in_default-clause-err
returns-in_default-clause-err g c = tt

pub returns-in_err-write_count-clause-same : goal.returns-in_err-write_count-clause-same
returns-in_err-write_count-clause-same g c = c.in_err-write_count.ensures.same

pub returns-clause-same : goal.returns-clause-same
returns-clause-same g c = IsSameWriter-trans c.in_ok-write_count.ensures.same c.write.ensures.same
