use Rattle.std.specs.Prelude.{◌≡◌, ◌≤◌, Some, length}
use Rattle.std.proofs.Common.{sym, ap, ◌∙◌, refl, arith, get_or}
use Rattle.dw_link.proofs.Held.{held, held_beside}
use Rattle.dw_link.proofs.PartSteps.{Reached-first, Reached-next, PartRefused-at, AddsPart-last, slice_get-of}
use Rattle.dw_link.proofs.join.add_part.Goals as goal

pub each-init : goal.each-init
each-init g c = record {
  reached =
      let told = c.in_ok-append.ensures.ok.told in
      let bytes : Some c.args.part.now.writer.bytes.items ≡ Some c.slice.result.now = c.slice.ensures.bytes in
      Reached-first _ _ _ c.slice.result.now _ _ bytes told (omega (arith, c.args.joined.now.bytes.ok.0, c.len-start.ensures));
  order = c.in_ok-append.ensures.ok.same.order;
}

pub returns-in-Err-clause-err : goal.returns-in-Err-clause-err
returns-in-Err-clause-err g c =
    let rs = c.relocations-relocations.result.now in
    let at = slice_get-of rs c.args.part.now.relocations.items c.each.index _ c.relocations-relocations.ensures c.each-test.true in
    PartRefused-at (held_beside g.E.Endianity.is_big c.args.part.now) c.args.places.now.starts c.args.places.now.symbols.now c.args.joined.now.bytes.items c.each.joined.bytes.items
    c.len-start.result _ c.each.index c.args.number (g.E.Endianity.is_big c.each.joined.endian) c.args.section (get_or rs c.each.index _) c.in-Err.fault c.at.result
    c.len-start.ensures c.each.invariant.reached at (c.each.invariant.order ∙ sym c.requires) c.in-Err.ensures.err c.at.ensures

pub each-preserved : goal.each-preserved
each-preserved g c = record {
  reached =
      let at = slice_get-of c.relocations-relocations.result.now c.args.part.now.relocations.items c.each.index _ c.relocations-relocations.ensures c.each-test.true in
      let order = c.each.invariant.order ∙ sym c.requires in
      Reached-next _ _ _ c.each.invariant.reached at c.in-Ok.ensures.ok refl refl order (omega (arith, c.args.joined.now.bytes.ok.0, c.len-start.ensures));
  order = c.in-Ok.ensures.ok.order ∙ c.each.invariant.order;
}

pub returns-clause-ok : goal.returns-clause-ok
returns-clause-ok g c =
    let end : length c.args.part.now.relocations.items ≤ c.each.index = omega (arith, ap length c.relocations-relocations.ensures, c.each-test.false) in
    AddsPart-last (held_beside g.E.Endianity.is_big c.args.part.now) (held g.E.Endianity.is_big c.args.joined.now) (held g.E.Endianity.is_big c.each.joined) c.args.places.now.starts c.args.places.now.symbols.now
    c.args.joined.now.bytes.items c.each.joined.bytes.items c.len-start.result _ c.each.index c.len-start.ensures c.each.invariant.reached end refl refl refl c.each.invariant.order
