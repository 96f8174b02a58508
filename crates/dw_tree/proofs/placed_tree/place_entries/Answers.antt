use Rattle.std.proofs.Common.{arith}
use Rattle.std.proofs.lemmas.Result.{err_from_is_err_and}
use Rattle.dw_entries.specs.Tree.{marks}
use Rattle.dw_tree.specs.Places.{placement_of}
use Rattle.dw_tree.proofs.PlaceSteps.{tree_distinct, tree_closes, tree_end, tree_placed, tree_no_room, too_long}
use Rattle.dw_tree.proofs.TreeWritten.{tree_early, too_long_faulty, room_refused}
use Rattle.dw_tree.proofs.placed_tree.place_entries.Goals as goal

pub lay_out-requires-clause-distinct : goal.lay_out-requires-clause-distinct
lay_out-requires-clause-distinct c = tree_distinct c.args.entries.now _ c.requires.tree c.requires.linked

pub lay_out-requires-clause-closed : goal.lay_out-requires-clause-closed
lay_out-requires-clause-closed c = tree_closes c.args.entries.now _ c.requires.tree

pub returns-in_err-places-clause-err : goal.returns-in_err-places-clause-err
returns-in_err-places-clause-err c =
    let e = c.args.encoding in
    let es = c.args.entries.now in
    let ms = marks c.args.items.now in
    let tree = c.requires.tree in
    let failed = err_from_is_err_and c.from_residual.result c.from_residual.ensures.1 in
    rw (failed.1, failed.2)
    (λ t table plain. room_refused ⊥ e es t table plain _ (tree_no_room e es ms tree) ms tree c.in_err-places.field-0.0 c.in_err-places.ensures.err)

pub returns-in_err-check_length-clause-err : goal.returns-in_err-check_length-clause-err
returns-in_err-check_length-clause-err c =
    let e = c.args.encoding in
    let es = c.args.entries.now in
    let ms = marks c.args.items.now in
    let tree = c.requires.tree in
    let places = c.in_ok-places.places in
    let p = placement_of places in
    let placed = tree_placed e es p ms tree c.in_ok-places.ensures.placed in
    let end = tree_end e es ms p.place places.end tree c.in_ok-places.ensures.end in
    let h = c.in_err-check_length.ensures.err in
    let failed = err_from_is_err_and c.from_residual-in_err-check_length.result c.from_residual-in_err-check_length.ensures.1 in
    rw (failed.1, failed.2, h.0)
    (λ t table plain. too_long_faulty e es t p placed table plain (too_long e es p.place places.end end h.1 h.2))

pub returns-clause-placed : goal.returns-clause-placed
returns-clause-placed c =
    let e = c.args.encoding in
    let es = c.args.entries.now in
    let ms = marks c.args.items.now in
    let tree = c.requires.tree in
    let places = c.in_ok-places.places in
    let p = placement_of places in
    record {
      placed = tree_placed e es p ms tree c.in_ok-places.ensures.placed;
      early = tree_early e es ms tree c.in_ok-places.ensures.early;
      end = tree_end e es ms p.place places.end tree c.in_ok-places.ensures.end;
      room = omega arith;
      fit = c.in_ok-check_length.ensures.ok;
      bounded = c.in_ok-places.ensures.bounded;
    }
