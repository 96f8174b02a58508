use Rattle.std.proofs.Common.{◌≡◌, ◌∙◌, sym, ap, Some}
use Rattle.std.specs.Option.{option_map}
use Rattle.dw_base.specs.declared.offsets.DebugInfoOffset.{DebugInfoOffset}
use Rattle.dw_writer.proofs.Outcomes.{OnOk-map, IfErr-map}
use Rattle.dw_tree.specs.Pending.{info_at}
use Rattle.dw_unit.proofs.Filling.{hole_patched, hole_sound, hole_refused}
use Rattle.dw_unit.proofs.references.fill_one.Goals as goal

pub returns-clause-ok : goal.returns-clause-ok
returns-clause-ok g c =
    let info = info_at c.args.units.now in
    let h = c.args.fixup in
    let is : info h.unit.0 h.entry.0 ≡ Some c.in-Some.place.0 = sym c.place_in_info.ensures ∙ ap (option_map (λ (o : DebugInfoOffset). o.0)) c.in-Some.is in
    OnOk-map c.write_offset_at.result c.write_offset_at.ensures.ok (λ p. hole_patched info h c.in-Some.place.0 is p)

pub returns-clause-sound : goal.returns-clause-sound
returns-clause-sound g c =
    let info = info_at c.args.units.now in
    let h = c.args.fixup in
    let plain = (g.W.Writer.meaning c.args.w.now).is_plain in
    let is : info h.unit.0 h.entry.0 ≡ Some c.in-Some.place.0 = sym c.place_in_info.ensures ∙ ap (option_map (λ (o : DebugInfoOffset). o.0)) c.in-Some.is in
    OnOk-map c.write_offset_at.result c.write_offset_at.ensures.fits (λ f. hole_sound info plain h c.in-Some.place.0 is f.1)

pub returns-clause-err : goal.returns-clause-err
returns-clause-err g c =
    let info = info_at c.args.units.now in
    let h = c.args.fixup in
    let old = g.W.Writer.meaning c.args.w.now in
    let new = g.W.Writer.meaning c.write_offset_at.new.self in
    let is : info h.unit.0 h.entry.0 ≡ Some c.in-Some.place.0 = sym c.place_in_info.ensures ∙ ap (option_map (λ (o : DebugInfoOffset). o.0)) c.in-Some.is in
    IfErr-map c.write_offset_at.result c.write_offset_at.ensures.err
    (λ err r can. hole_refused old new info old.is_plain h c.in-Some.place.0 is can.width can.inside err r)
