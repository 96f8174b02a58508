use Rattle.std.proofs.Common.{inr}
use Rattle.std.proofs.lemmas.Result.{err_from_is_err_and}
use Rattle.std.specs.Prelude.{◌⊎◌}
use Rattle.dw_lists.specs.Tables.{locations_of}
use Rattle.dw_writer.specs.Sections.{SomeHasRisen}
use Rattle.dw_tree.specs.Causes.{TreeFails}
use Rattle.dw_tree.specs.Elsewhere.{tree_tables}
use Rattle.dw_tree.specs.Locations.{ListsFail}
use Rattle.dw_tree.proofs.Faults.{because-map}
use Rattle.dw_tree.proofs.compile_unit.write_tree.Goals as goal

pub returns-in_err-tree-clause-err : goal.returns-in_err-tree-clause-err
returns-in_err-tree-clause-err g c =
    let e = c.args.encoding in
    let es = c.args.entries.now in
    let xs = c.args.locations.now in
    let meaning = g.W.Writer.meaning in
    let old = c.args.sections.now in
    let lists = locations_of meaning e old in
    let tables = tree_tables e es c.args.parts xs lists.size c.args.line_strings.now c.args.strings.now in
    let table = (meaning old.debug_abbrev.0).size in
    let plain = (meaning old.debug_info.0).is_plain in
    let fails = TreeFails e es tables table plain in
    let failed = err_from_is_err_and c.from_residual.result c.from_residual.ensures.1 in
    rw (failed.1, failed.2)
    (because-map {rise = ⊥} {more = SomeHasRisen meaning old old} {p = fails} {q = λ x. ListsFail e es xs c.args.has_base_address lists.is_plain x ⊎ fails x} (λ h. absurd h) (λ x h. inr h) c.in_err-tree.field-0.0 (c.in_err-tree.ensures.err tables table plain))

pub returns-clause-bounded : goal.returns-clause-bounded
returns-clause-bounded g c = λ i. (c.in_ok-tree.ensures.ok.places.bounded i).0
