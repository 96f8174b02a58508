use Rattle.std.specs.Prelude.{◌≤◌, length}
use Rattle.std.proofs.Common.{◌∙◌, arith}
use Rattle.std.proofs.lemmas.Result.{err_from_is_err_and}
use Rattle.dw_link.specs.Sets.{parts_of, sets_of}
use Rattle.dw_link.proofs.Held.{held, held_beside}
use Rattle.dw_link.proofs.SetSteps.{ReachedSets-first, ReachedSets-next, SetsRefused-at, AddsSets-last, slice_get-map, length-map, parts_of-none, bytes_at-held, length_of-held, told_of}
use Rattle.dw_link.proofs.join.add_sets.Goals as goal

pub each-init : goal.each-init
each-init g c = record {
  reached = ReachedSets-first (sets_of (held_beside g.E.Endianity.is_big) c.args.sets.now) c.args.symbols.now (parts_of (held g.E.Endianity.is_big) c.args.joined.now) c.requires.empty;
  fixups = λ h. h;
}

pub add_set-requires : goal.add_set-requires
add_set-requires g c =
    let set = c.index-sets-number.result in
    let at = slice_get-map (parts_of (held_beside g.E.Endianity.is_big)) c.args.sets.now c.each.number set c.each-test.true c.index-sets-number.is in
    λ s. c.each.invariant.reached.orders s ∙ c.requires.orders c.each.number (parts_of (held_beside g.E.Endianity.is_big) set) at s

pub returns-in_err-add_set-clause-err : goal.returns-in_err-add_set-clause-err
returns-in_err-add_set-clause-err g c =
    let set = c.index-sets-number.result in
    let at = slice_get-map (parts_of (held_beside g.E.Endianity.is_big)) c.args.sets.now c.each.number set c.each-test.true c.index-sets-number.is in
    let p = err_from_is_err_and c.from_residual.result c.from_residual.ensures.1 in
    rw (p.1, p.2) (SetsRefused-at (sets_of (held_beside g.E.Endianity.is_big) c.args.sets.now) c.args.symbols.now (parts_of (held g.E.Endianity.is_big) c.args.joined.now)
    (parts_of (held g.E.Endianity.is_big) c.each.joined) c.each.number (parts_of (held_beside g.E.Endianity.is_big) set) c.in_err-add_set.field-0.0 at
    (parts_of-none (held_beside g.E.Endianity.is_big) set) c.each.invariant.reached c.in_err-add_set.ensures.err)

pub each-preserved : goal.each-preserved
each-preserved g c = record {
  reached =
      let set = c.index-sets-number.result in
      let at = slice_get-map (parts_of (held_beside g.E.Endianity.is_big)) c.args.sets.now c.each.number set c.each-test.true c.index-sets-number.is in
      ReachedSets-next (sets_of (held_beside g.E.Endianity.is_big) c.args.sets.now) c.args.symbols.now (parts_of (held g.E.Endianity.is_big) c.args.joined.now)
      (parts_of (held g.E.Endianity.is_big) c.each.joined) (parts_of (held g.E.Endianity.is_big) c.add_set.new.joined) c.each.number (parts_of (held_beside g.E.Endianity.is_big) set) at
      (parts_of-none (held_beside g.E.Endianity.is_big) set) (λ s m e. (told_of g.E.Endianity.is_big set s m e).0) (bytes_at-held g.E.Endianity.is_big c.add_set.new.joined)
      (length_of-held g.E.Endianity.is_big c.each.joined) (length_of-held g.E.Endianity.is_big c.add_set.new.joined) c.each.invariant.reached c.in_ok-add_set.ensures.ok;
  fixups = λ h. c.add_set.ensures.fixups (c.each.invariant.fixups h);
}

pub returns-clause-ok : goal.returns-clause-ok
returns-clause-ok g c =
    let sets = sets_of (held_beside g.E.Endianity.is_big) c.args.sets.now in
    let end : length sets ≤ c.each.number = omega (arith, length-map (parts_of (held_beside g.E.Endianity.is_big)) c.args.sets.now, c.each-test.false) in
    AddsSets-last sets c.args.symbols.now (parts_of (held g.E.Endianity.is_big) c.args.joined.now) (parts_of (held g.E.Endianity.is_big) c.each.joined) c.each.number end
    (bytes_at-held g.E.Endianity.is_big c.each.joined) c.each.invariant.reached
