use Rattle.std.proofs.Common.{refl}
use Rattle.std.proofs.lemmas.Bool.{or_left, or_right}
use Rattle.std.proofs.lemmas.Result.{err_from_is_err_and}
use Rattle.std.specs.Prelude.{◌||◌}
use Rattle.dw_base.specs.declared.section_id.SectionId.TheVariants.{DebugLoc, DebugLocLists}
use Rattle.dw_writer.specs.Causes.{HasRisen}
use Rattle.dw_writer.proofs.FaultLaws.{SomeHasRisen-info}
use Rattle.dw_writer.proofs.Outcomes.{OnOk-map, IfErr-map}
use Rattle.dw_tree.specs.Causes.{Is}
use Rattle.dw_unit.specs.Filled.{open_fail}
use Rattle.dw_tree.specs.Pending.{info_at}
use Rattle.dw_tree.specs.UnitFaults.{holes_fail}
use Rattle.dw_tree.proofs.Faults.{because-map, neither}
use Rattle.dw_unit.proofs.references.fill_all.Goals as goal

pub returns-in_err-fill-clause-err : goal.returns-in_err-fill-clause-err
returns-in_err-fill-clause-err g c =
    let m = g.W.Writer.meaning in
    let old = c.args.sections.now in
    let new = record old { debug_info = record { 0 = c.fill.new.w } } in
    let info = info_at c.args.units.now in
    let units = holes_fail info (m old.debug_info.0).is_plain old.debug_info_fixups in
    let p = err_from_is_err_and c.from_residual.result c.from_residual.ensures.1 in
    rw (p.1, p.2)
    (λ can.
    because-map {p = Is units} {q = Is (open_fail m old info)} (SomeHasRisen-info m old new) (λ e k. or_left (units e) _ k) c.in_err-fill.field-0.0
    (c.in_err-fill.ensures.err can.units))

pub returns-in_err-fill-2-clause-err : goal.returns-in_err-fill-2-clause-err
returns-in_err-fill-2-clause-err g c =
    let m = g.W.Writer.meaning in
    let old = c.args.sections.now in
    let new = record old { debug_info = record { 0 = c.fill.new.w }; debug_loc = record { 0 = c.fill-2.new.w } } in
    let info = info_at c.args.units.now in
    let units = holes_fail info (m old.debug_info.0).is_plain old.debug_info_fixups in
    let locations = holes_fail info (m old.debug_loc.0).is_plain old.debug_loc_fixups in
    let lists = holes_fail info (m old.debug_loclists.0).is_plain old.debug_loclists_fixups in
    let p = err_from_is_err_and c.from_residual-in_err-fill-2.result c.from_residual-in_err-fill-2.ensures.1 in
    rw (p.1, p.2)
    (λ can.
    because-map {p = Is locations} {q = Is (open_fail m old info)}
    (λ (h : HasRisen (m old.debug_loc.0) (m new.debug_loc.0)). record { id = DebugLoc; before = old.debug_loc.0; after = new.debug_loc.0; was = refl; is = refl; risen = h })
    (λ e k. or_right (units e) (locations e || lists e) (or_left (locations e) (lists e) k)) c.in_err-fill-2.field-0.0
    (c.in_err-fill-2.ensures.err can.locations))

pub returns-clause-sound : goal.returns-clause-sound
returns-clause-sound g c =
    let m = g.W.Writer.meaning in
    let old = c.args.sections.now in
    let info = info_at c.args.units.now in
    let units = holes_fail info (m old.debug_info.0).is_plain old.debug_info_fixups in
    let locations = holes_fail info (m old.debug_loc.0).is_plain old.debug_loc_fixups in
    let lists = holes_fail info (m old.debug_loclists.0).is_plain old.debug_loclists_fixups in
    OnOk-map c.fill-3.result c.fill-3.ensures.sound
    (λ sound e. neither (units e) (locations e || lists e) (c.in_ok-fill.ensures.sound e) (neither (locations e) (lists e) (c.in_ok-fill-2.ensures.sound e) (sound e)))

pub returns-clause-err : goal.returns-clause-err
returns-clause-err g c =
    let m = g.W.Writer.meaning in
    let old = c.args.sections.now in
    let new = record old { debug_info = record { 0 = c.fill.new.w }; debug_loc = record { 0 = c.fill-2.new.w }; debug_loclists = record { 0 = c.fill-3.new.w } } in
    let info = info_at c.args.units.now in
    let units = holes_fail info (m old.debug_info.0).is_plain old.debug_info_fixups in
    let locations = holes_fail info (m old.debug_loc.0).is_plain old.debug_loc_fixups in
    let lists = holes_fail info (m old.debug_loclists.0).is_plain old.debug_loclists_fixups in
    IfErr-map c.fill-3.result c.fill-3.ensures.err
    (λ err h can.
    because-map {p = Is lists} {q = Is (open_fail m old info)}
    (λ (h : HasRisen (m old.debug_loclists.0) (m new.debug_loclists.0)). record { id = DebugLocLists; before = old.debug_loclists.0; after = new.debug_loclists.0; was = refl; is = refl; risen = h })
    (λ e k. or_right (units e) (locations e || lists e) (or_right (locations e) (lists e) k)) err (h can.location_lists))
