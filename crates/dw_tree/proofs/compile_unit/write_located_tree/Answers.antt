use Rattle.std.proofs.Common.{refl}
use Rattle.std.proofs.lemmas.Result.{err_from_is_err_and}
use Rattle.dw_writer.proofs.Outcomes.{OnOk-map, IfErr-map}
use Rattle.dw_writer.specs.Sections.{SomeHasRisen}
use Rattle.dw_lists.specs.Tables.{locations_of}
use Rattle.dw_tree.specs.Elsewhere.{tables_in, tree_tables}
use Rattle.dw_tree.specs.Locations.{lists_part}
use Rattle.dw_tree.specs.Places.{known_at}
use Rattle.dw_tree.proofs.TreeLists.{own_tables, lists_refused, lists_none_fail, lists_append, refused_after, placed_after, lists_after, others_after}
use Rattle.dw_tree.proofs.compile_unit.write_located_tree.Goals as goal

pub returns-in_err-lists-clause-err : goal.returns-in_err-lists-clause-err
returns-in_err-lists-clause-err g c =
    let e = c.args.encoding in
    let es = c.args.entries.now in
    let xs = c.args.locations.now in
    let meaning = g.W.Writer.meaning in
    let old = c.args.sections.now in
    let at = c.requires.tree.places in
    let lists = locations_of meaning e old in
    let tables = tree_tables e es c.args.parts xs lists.size c.args.line_strings.now c.args.strings.now in
    let failed = err_from_is_err_and c.from_residual.result c.from_residual.ensures.1 in
    rw (failed.1, failed.2)
    (lists_refused e es c.args.tree.now.places at.early at.placed (SomeHasRisen meaning old c.write_locations.new.sections) xs c.args.has_base_address lists.is_plain tables (meaning old.debug_abbrev.0).size (meaning old.debug_info.0).is_plain c.in_err-lists.field-0.0 c.in_err-lists.ensures.err)

pub returns-in_err-lists-clause-others : goal.returns-in_err-lists-clause-others
returns-in_err-lists-clause-others g c = others_after g.W.Writer.meaning c.args.sections.now c.write_locations.new.sections c.write_locations.new.sections c.in_err-lists.ensures.others refl

pub returns-clause-others : goal.returns-clause-others
returns-clause-others g c =
    others_after g.W.Writer.meaning c.args.sections.now c.write_locations.new.sections c.write_placed_tree.new.sections c.in_ok-lists.ensures.others c.write_placed_tree.ensures.others

pub returns-clause-err : goal.returns-clause-err
returns-clause-err g c =
    let e = c.args.encoding in
    let es = c.args.entries.now in
    let xs = c.args.locations.now in
    let meaning = g.W.Writer.meaning in
    let old = c.args.sections.now in
    let places = c.args.tree.now.places in
    let at = c.requires.tree.places in
    let line_strings = c.args.line_strings.now in
    let strings = c.args.strings.now in
    let lists = locations_of meaning e old in
    let own = c.with_locations-own.result in
    let own_is = own_tables e es places at.early at.placed c.args.parts xs lists.size line_strings strings own c.in_ok-lists.lists c.with_locations-own.ensures c.in_ok-lists.ensures.offsets in
    IfErr-map c.write_placed_tree.result c.write_placed_tree.ensures.err
    (refused_after meaning old c.write_locations.new.sections c.write_placed_tree.new.sections c.in_ok-lists.ensures.others e es (tables_in own line_strings strings) (tree_tables e es c.args.parts xs lists.size line_strings strings) own_is (lists_part e (known_at places) xs) c.in_ok-lists.ensures.ok xs c.args.has_base_address)

pub returns-clause-ok : goal.returns-clause-ok
returns-clause-ok g c =
    let e = c.args.encoding in
    let es = c.args.entries.now in
    let xs = c.args.locations.now in
    let meaning = g.W.Writer.meaning in
    let old = c.args.sections.now in
    let mid = c.write_locations.new.sections in
    let new = c.write_placed_tree.new.sections in
    let places = c.args.tree.now.places in
    let at = c.requires.tree.places in
    let line_strings = c.args.line_strings.now in
    let strings = c.args.strings.now in
    let lists = locations_of meaning e old in
    let own = c.with_locations-own.result in
    let own_is = own_tables e es places at.early at.placed c.args.parts xs lists.size line_strings strings own c.in_ok-lists.lists c.with_locations-own.ensures c.in_ok-lists.ensures.offsets in
    let others = c.in_ok-lists.ensures.others in
    OnOk-map c.write_placed_tree.result c.write_placed_tree.ensures.ok
    (λ tree. record {
      tree = placed_after meaning old mid new others e es (tables_in own line_strings strings) (tree_tables e es c.args.parts xs lists.size line_strings strings) own_is places tree;
      lists = lists_after meaning old mid new others c.write_placed_tree.ensures.others e es xs (lists_append e es places at.early at.placed meaning old mid xs c.in_ok-lists.ensures.again c.in_ok-lists.ensures.ok);
      lists_sound = lists_none_fail e es places at.early at.placed xs c.args.has_base_address lists.is_plain c.in_ok-lists.ensures.sound;
    })
