use Rattle.std.proofs.Common.{◌∙◌, sym, ap, subst}
use Rattle.std.specs.Prelude.{map}
use Rattle.dw_entries.specs.Tree.{marks, AreTagged}
use Rattle.dw_entries.proofs.Tagged.{preorder_tagged}
use Rattle.dw_tree.specs.Coded.{code_at}
use Rattle.dw_tree.specs.Whole.{tree_shapes}
use Rattle.dw_tree.proofs.DistinctShapes.{tree_shapes-found}
use Rattle.dw_tree.proofs.PlaceSteps.{tree_codes}
use Rattle.dw_tree.proofs.placed_tree.place_tree.Goals as goal

pub assign_codes-requires-clause-tagged : goal.assign_codes-requires-clause-tagged
assign_codes-requires-clause-tagged c =
    let es = c.args.entries.now in
    subst (AreTagged es) (sym (ap marks c.as_slice-items.ensures.value ∙ c.in_ok-tree.ensures.items)) (preorder_tagged es c.requires.linked c.requires.rooted)

pub place_entries-requires-clause-tree : goal.place_entries-requires-clause-tree
place_entries-requires-clause-tree c = ap marks c.as_slice-items.ensures.value ∙ c.in_ok-tree.ensures.items

pub place_entries-requires-clause-codes : goal.place_entries-requires-clause-codes
place_entries-requires-clause-codes c = c.as_slice.ensures.value ∙ c.in_ok-codes.ensures.codes

pub returns-clause-ok : goal.returns-clause-ok
returns-clause-ok c =
    let e = c.args.encoding in
    let es = c.args.entries.now in
    let same = ap marks c.as_slice-items.ensures.value in
    let tree = same ∙ c.in_ok-tree.ensures.items in
    record {
      within = c.in_ok-tree.ensures.inside;
      tree = c.in_ok-tree.ensures.items;
      table = c.in_ok-codes.ensures.table ∙ tree_shapes-found e es _ tree;
      codes = tree_codes e es _ _ tree c.in_ok-codes.ensures.codes ∙ ap (map (code_at e es (tree_shapes e es))) same;
      places = c.in_ok-places.ensures.placed;
    }
