use Rattle.std.proofs.Common.{subst, true}
use Rattle.std.proofs.lemmas.Result.{err_from_is_err_and}
use Rattle.std.specs.Option.{option_copied}
use Rattle.dw_writer.proofs.Outcomes.{OnOk-map, IfErr-map}
use Rattle.dw_expr.specs.Places.{known_by, place_by}
use Rattle.dw_lists.specs.Items.{is_five}
use Rattle.dw_lists.specs.Parts.{Part}
use Rattle.dw_lists.specs.Texts.{IsSpelled}
use Rattle.dw_lists.specs.Causes.{Is, IsNone, new_span_fails, located_fails, new_part_fails}
use Rattle.dw_lists.proofs.Refusals.{weaker, refused_after}
use Rattle.dw_lists.proofs.Located.{part_drafts, new_part_none, in_new_span, in_new_expression}
use Rattle.dw_writer.proofs.Steps.{IsSameWriter-trans}
use Rattle.dw_lists.proofs.part.write_new_part.Goals as goal

pub returns-in_err-write_span-clause-err : goal.returns-in_err-write_span-clause-err
returns-in_err-write_span-clause-err g c =
    let known = known_by g.P.EntryPlaces.places c.args.places in
    let m = g.W.Writer.meaning c.args.w.now in
    let x = option_copied c.args.expression in
    let part : Part = record { range = c.args.range; expression = x } in
    let p = err_from_is_err_and c.from_residual.result c.from_residual.ensures.1 in
    rw (p.1, p.2) (weaker m (g.W.Writer.meaning c.write_span.new.w) (Is (new_span_fails m.is_plain c.args.encoding.address_size c.args.range)) (Is (new_part_fails c.args.encoding known m.is_plain part))
    (in_new_span c.args.encoding known m.is_plain x c.args.range) c.in_err-write_span.field-0.0 c.in_err-write_span.ensures.err)

pub returns-clause-ok : goal.returns-clause-ok
returns-clause-ok g c =
    let place = place_by (known_by g.P.EntryPlaces.places c.args.places) in
    OnOk-map c.write_located.result c.write_located.ensures.ok
    (λ p. part_drafts true (is_five c.args.encoding) c.args.encoding place c.args.kinds c.args.range (option_copied c.args.expression) c.requires.five c.in_ok-write_span.ensures.ok p)

pub returns-clause-readable : goal.returns-clause-readable
returns-clause-readable g c =
    let place = place_by (known_by g.P.EntryPlaces.places c.args.places) in
    OnOk-map c.write_located.result c.write_located.ensures.spelled
    (λ h. (c.in_ok-write_span.ensures.ranged, subst (λ five. IsSpelled five c.args.encoding place (option_copied c.args.expression)) c.requires.five h))

pub returns-clause-sound : goal.returns-clause-sound
returns-clause-sound g c =
    let known = known_by g.P.EntryPlaces.places c.args.places in
    let m = g.W.Writer.meaning c.args.w.now in
    let x = option_copied c.args.expression in
    OnOk-map c.write_located.result c.write_located.ensures.sound
    (λ h. new_part_none c.args.encoding known m.is_plain c.args.range x c.in_ok-write_span.ensures.sound
    (subst (λ five. IsNone (located_fails c.args.encoding known m.is_plain five x)) c.requires.five (subst (λ plain. IsNone (located_fails c.args.encoding known plain (is_five c.args.encoding) x)) c.in_ok-write_span.ensures.same.kind h)))

pub returns-clause-err : goal.returns-clause-err
returns-clause-err g c =
    let known = known_by g.P.EntryPlaces.places c.args.places in
    let m = g.W.Writer.meaning c.args.w.now in
    let n = g.W.Writer.meaning c.write_span.new.w in
    let five = is_five c.args.encoding in
    let x = option_copied c.args.expression in
    let part : Part = record { range = c.args.range; expression = x } in
    IfErr-map c.write_located.result c.write_located.ensures.err
    (refused_after m n (g.W.Writer.meaning c.write_located.new.w) (Is (located_fails c.args.encoding known n.is_plain five x)) (Is (new_part_fails c.args.encoding known m.is_plain part)) c.in_ok-write_span.ensures.same
    (λ e h. in_new_expression c.args.encoding known m.is_plain x c.args.range e
    (subst (λ five. Is (located_fails c.args.encoding known m.is_plain five x) e) c.requires.five (subst (λ plain. Is (located_fails c.args.encoding known plain five x) e) c.in_ok-write_span.ensures.same.kind h))))

pub returns-in_err-write_span-clause-ok : goal.returns-in_err-write_span-clause-ok
returns-in_err-write_span-clause-ok g c = rw (err_from_is_err_and c.from_residual.result c.from_residual.ensures.1).1 tt

pub returns-in_err-write_span-clause-readable : goal.returns-in_err-write_span-clause-readable
returns-in_err-write_span-clause-readable g c = rw (err_from_is_err_and c.from_residual.result c.from_residual.ensures.1).1 tt

pub returns-in_err-write_span-clause-sound : goal.returns-in_err-write_span-clause-sound
returns-in_err-write_span-clause-sound g c = rw (err_from_is_err_and c.from_residual.result c.from_residual.ensures.1).1 tt

pub returns-in_err-write_span-clause-same : goal.returns-in_err-write_span-clause-same
returns-in_err-write_span-clause-same g c = c.in_err-write_span.ensures.same

pub returns-clause-same : goal.returns-clause-same
returns-clause-same g c = IsSameWriter-trans c.in_ok-write_span.ensures.same c.write_located.ensures.same
