use Rattle.std.proofs.Common.{ℕ, subst, arith}
use Rattle.std.proofs.lemmas.Result.{err_from_is_err_and}
use Rattle.dw_writer.proofs.Outcomes.{IfErr-map}
use Rattle.dw_writer.proofs.Steps.{IsSameWriter-trans}
use Rattle.dw_entries.specs.Tree.{marks}
use Rattle.dw_tree.specs.Causes.{Is}
use Rattle.dw_tree.specs.Pending.{AreMarksRanged}
use Rattle.dw_tree.specs.TargetsAt.{targets_at}
use Rattle.dw_tree.specs.UnitFaults.{fields_fail, header_fails, marks_fail, unit_fails}
use Rattle.dw_tree.specs.UnitText.{tree_draft, unit_length}
use Rattle.dw_tree.proofs.Faults.{OnOk-both, refused_after}
use Rattle.dw_tree.proofs.PlaceSteps.{found_codes}
use Rattle.dw_tree.proofs.TreeSteps.{tree_drafted, in_header, in_marks, unit_sound}
use Rattle.dw_tree.proofs.UnitSteps.{unit_drafted, unit_length_is, place_within, length_refused, in_fields}
use Rattle.dw_tree.proofs.compile_unit.write_compile_unit.Goals as goal

pub write_items-requires-clause-codes : goal.write_items-requires-clause-codes
write_items-requires-clause-codes g c =
    found_codes c.args.encoding c.args.entries.now (marks c.args.items.now) c.args.codes.now c.requires.tree c.requires.codes

pub returns-clause-ok : goal.returns-clause-ok
returns-clause-ok g c =
    let e = c.args.encoding in
    let es = c.args.entries.now in
    let u = targets_at c.args.targets.now in
    let ms = marks c.args.items.now in
    let plain = (g.W.Writer.meaning c.args.w.now).is_plain in
    let fields = c.in_ok-write_fields.ensures.ok in
    let body = tree_drafted e es u ms c.requires.tree c.in_ok-write_items.ensures.ok in
    let long = unit_length_is e c.args.table c.len.result c.len-start.result fields body c.len.ensures c.len-start.ensures in
    let patch = rw (c.in_ok-place.ensures.place, long) at c.write_initial_length_at.ensures.ok in
    let fits = rw long at c.write_initial_length_at.ensures.fits in
    let fields_sound = rw (c.in_ok-place.ensures.same.kind) at c.in_ok-write_fields.ensures.sound in
    let marks_sound = rw (c.in_ok-write_fields.ensures.same.kind, c.in_ok-place.ensures.same.kind) at c.in_ok-write_items.ensures.sound in
    OnOk-both c.write_initial_length_at.result fits patch
    (λ fit last. record {
      draft = unit_drafted e c.args.table c.in_ok-place.ensures.ok fields body fit last;
      fits = fit;
      ranged = subst (AreMarksRanged e es) c.requires.tree c.in_ok-write_items.ensures.ranged;
      sound = unit_sound e es c.args.table u plain ms c.requires.tree fields_sound fit marks_sound;
      room = omega (arith, last.size, c.len.ensures);
    })

pub returns-in_err-write_fields-clause-err : goal.returns-in_err-write_fields-clause-err
returns-in_err-write_fields-clause-err g c =
    let e = c.args.encoding in
    let es = c.args.entries.now in
    let u = targets_at c.args.targets.now in
    let m = g.W.Writer.meaning c.args.w.now in
    let long = unit_length e (tree_draft e es u).size in
    let here = rw (c.in_ok-place.ensures.same.kind) at c.in_err-write_fields.ensures.err in
    let p = err_from_is_err_and c.from_residual-in_err-write_fields.result c.from_residual-in_err-write_fields.ensures.1 in
    rw (p.1, p.2)
    (refused_after m (g.W.Writer.meaning c.write_initial_length.new.self) (g.W.Writer.meaning c.write_fields.new.w) (Is (fields_fail e c.args.table m.is_plain)) (Is (unit_fails e es c.args.table u m.is_plain))
    c.in_ok-place.ensures.same (λ err h. in_header e es c.args.table u m.is_plain err (in_fields e c.args.table m.is_plain long err h)) c.in_err-write_fields.field-0.0 here)

pub returns-in_err-write_items-clause-err : goal.returns-in_err-write_items-clause-err
returns-in_err-write_items-clause-err g c =
    let e = c.args.encoding in
    let es = c.args.entries.now in
    let u = targets_at c.args.targets.now in
    let m = g.W.Writer.meaning c.args.w.now in
    let ms = marks c.args.items.now in
    let here = rw (c.in_ok-write_fields.ensures.same.kind, c.in_ok-place.ensures.same.kind) at c.in_err-write_items.ensures.err in
    let same = IsSameWriter-trans c.in_ok-place.ensures.same c.in_ok-write_fields.ensures.same in
    let p = err_from_is_err_and c.from_residual-in_err-write_items.result c.from_residual-in_err-write_items.ensures.1 in
    rw (p.1, p.2)
    (refused_after m (g.W.Writer.meaning c.write_fields.new.w) (g.W.Writer.meaning c.write_items.new.w) (Is (marks_fail e es u m.is_plain ms)) (Is (unit_fails e es c.args.table u m.is_plain))
    same (in_marks e es c.args.table u m.is_plain ms c.requires.tree) c.in_err-write_items.field-0.0 here)

pub returns-clause-err : goal.returns-clause-err
returns-clause-err g c =
    let e = c.args.encoding in
    let es = c.args.entries.now in
    let u = targets_at c.args.targets.now in
    let m = g.W.Writer.meaning c.args.w.now in
    let long : ℕ = unit_length e (tree_draft e es u).size in
    let start = c.in_ok-place.ensures.ok in
    let fields = c.in_ok-write_fields.ensures.ok in
    let body = tree_drafted e es u (marks c.args.items.now) c.requires.tree c.in_ok-write_items.ensures.ok in
    let is = unit_length_is e c.args.table c.len.result c.len-start.result fields body c.len.ensures c.len-start.ensures in
    let refused = rw is at c.write_initial_length_at.ensures.err in
    let inside = place_within e c.in_ok-place.place start c.in_ok-place.ensures.place in
    let same = IsSameWriter-trans c.in_ok-place.ensures.same (IsSameWriter-trans c.in_ok-write_fields.ensures.same c.in_ok-write_items.ensures.same) in
    let mid = g.W.Writer.meaning c.write_items.new.w in
    let new = g.W.Writer.meaning c.write_initial_length_at.new.self in
    IfErr-map c.write_initial_length_at.result refused
    (λ err h. refused_after m mid new (Is (header_fails e c.args.table m.is_plain long)) (Is (unit_fails e es c.args.table u m.is_plain)) same (in_header e es c.args.table u m.is_plain) err
    (length_refused mid new e c.args.table m.is_plain long c.in_ok-place.place (omega (arith, inside, fields.size, body.text.size)) err h))

pub returns-in_err-write_fields-clause-same : goal.returns-in_err-write_fields-clause-same
returns-in_err-write_fields-clause-same g c = IsSameWriter-trans c.in_ok-place.ensures.same c.in_err-write_fields.ensures.same

pub returns-in_err-write_items-clause-same : goal.returns-in_err-write_items-clause-same
returns-in_err-write_items-clause-same g c = IsSameWriter-trans c.in_ok-place.ensures.same (IsSameWriter-trans c.in_ok-write_fields.ensures.same c.in_err-write_items.ensures.same)

pub returns-clause-same : goal.returns-clause-same
returns-clause-same g c = IsSameWriter-trans c.in_ok-place.ensures.same (IsSameWriter-trans c.in_ok-write_fields.ensures.same (IsSameWriter-trans c.in_ok-write_items.ensures.same c.write_initial_length_at.ensures.same))
