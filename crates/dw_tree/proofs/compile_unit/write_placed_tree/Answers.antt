use Rattle.std.proofs.Common.{◌∙◌, sym, ap, subst, length, refl, arith}
use Rattle.std.proofs.lemmas.List.{length-map}
use Rattle.std.proofs.lemmas.Result.{err_from_is_err_and}
use Rattle.std.specs.Prelude.{map, IsFalse}
use Rattle.dw_base.specs.declared.error.Error.{Error}
use Rattle.dw_writer.proofs.FaultLaws.{SomeHasRisen-abbrev, SomeHasRisen-info}
use Rattle.dw_writer.proofs.Outcomes.{OnOk-map, IfErr-map}
use Rattle.dw_entries.specs.Tree.{marks, mark_of}
use Rattle.dw_tree.specs.Causes.{Is, TreeFails}
use Rattle.dw_tree.specs.Coded.{code_at}
use Rattle.dw_tree.specs.Places.{placement_of, targets_of}
use Rattle.dw_tree.specs.TargetsAt.{tables_at}
use Rattle.dw_tree.specs.UnitFaults.{unit_fails}
use Rattle.dw_tree.specs.Whole.{tree_shapes}
use Rattle.dw_tree.proofs.Faults.{because-map, bytes_because}
use Rattle.dw_tree.proofs.PlaceSteps.{places_fit}
use Rattle.dw_tree.proofs.TextsThere.{unit_there}
use Rattle.dw_tree.proofs.TreeWritten.{table_added, table_declared, tree_is_one, tree_few, tree_writable, faulty, place_fits, unit_long}
use Rattle.dw_tree.proofs.compile_unit.write_placed_tree.Goals as goal

pub write_compile_unit-requires-clause-codes : goal.write_compile_unit-requires-clause-codes
write_compile_unit-requires-clause-codes g c =
    let code = code_at c.args.encoding c.args.entries.now (tree_shapes c.args.encoding c.args.entries.now) in
    c.as_slice-codes.ensures.value ∙ c.requires.tree.codes ∙ ap (map code) (sym (ap marks c.as_slice-items.ensures.value))

pub write_compile_unit-requires-clause-fit : goal.write_compile_unit-requires-clause-fit
write_compile_unit-requires-clause-fit g c =
    let places = c.args.targets.now.places.now in
    places_fit c.args.encoding.format (placement_of places) places.end c.requires.placed.fit c.requires.placed.bounded

pub returns-in_err-write-clause-err : goal.returns-in_err-write-clause-err
returns-in_err-write-clause-err g c =
    let meaning = g.W.Writer.meaning in
    let old = c.args.sections.now in
    let new = record old { debug_abbrev = c.write.new.w } in
    let fails = TreeFails c.args.encoding c.args.entries.now (tables_at c.args.targets.now) (meaning old.debug_abbrev.0).size (meaning old.debug_info.0).is_plain in
    let failed = err_from_is_err_and c.from_residual.result c.from_residual.ensures.1 in
    rw (failed.1, failed.2)
    (bytes_because fails (meaning old.debug_abbrev.0) (meaning new.debug_abbrev.0) (SomeHasRisen-abbrev meaning old new) c.in_err-write.field-0.0 c.in_err-write.ensures.err)

pub returns-in_err-write-clause-others : goal.returns-in_err-write-clause-others
returns-in_err-write-clause-others g c = refl

pub returns-clause-others : goal.returns-clause-others
returns-clause-others g c = refl

pub returns-clause-err : goal.returns-clause-err
returns-clause-err g c =
    let e = c.args.encoding in
    let es = c.args.entries.now in
    let meaning = g.W.Writer.meaning in
    let old = c.args.sections.now in
    let new = record old { debug_abbrev = c.write.new.w; debug_info = record { 0 = c.write_compile_unit.new.w }; debug_info_fixups = c.write_compile_unit.new.fixups } in
    let tables = tables_at c.args.targets.now in
    let p = placement_of c.args.targets.now.places.now in
    let table = (meaning old.debug_abbrev.0).size in
    let plain = (meaning old.debug_info.0).is_plain in
    let refused = rw c.len-place.ensures at c.write_compile_unit.ensures.err in
    IfErr-map c.write_compile_unit.result refused
    (because-map {p = Is (unit_fails e es table (targets_of tables p) plain)} {q = TreeFails e es tables table plain} (SomeHasRisen-info meaning old new) (faulty e es tables p c.requires.placed.placed table plain))

pub returns-clause-ok : goal.returns-clause-ok
returns-clause-ok g c =
    let e = c.args.encoding in
    let es = c.args.entries.now in
    let meaning = g.W.Writer.meaning in
    let old = c.args.sections.now in
    let items = c.as_slice-items.result.now in
    let places = c.args.targets.now.places.now in
    let p = placement_of places in
    let at = c.requires.placed in
    let tables = tables_at c.args.targets.now in
    let shapes = c.args.tree.now.codes.table in
    let table = (meaning old.debug_abbrev.0).size in
    let plain = (meaning old.debug_info.0).is_plain in
    let fit = places_fit e.format p places.end at.fit at.bounded in
    let wrote = rw c.len-place.ensures at c.write_compile_unit.ensures.ok in
    OnOk-map c.write_compile_unit.result wrote
    (λ unit. record {
      unit = record {
        stands = record {
          starts = refl;
          placed = at.placed;
          early = at.early;
          draft = unit.draft.is;
          encodable = c.requires.encodable;
          fits = unit.fits;
          ranged = unit.ranged;
          declared = table_declared e es shapes c.requires.tree.table c.in_ok-write.ensures.spelled;
          few = tree_few es (marks items) (length items) (ap marks c.as_slice-items.ensures.value ∙ c.requires.tree.tree) (sym (length-map items mark_of)) c.as_slice-items.type_inv.0;
          tree = tree_is_one es c.requires.rooted;
        };
        unit = unit.draft;
        table = table_added e es shapes c.requires.tree.table c.in_ok-write.ensures.ok;
        there = λ is. unit_there e es tables table p fit c.requires.encodable (subst (λ b. (err : Error) → IsFalse (unit_fails e es table (targets_of tables p) b err)) is unit.sound);
      };
      room = omega (arith, unit.draft.text.size, unit.room, at.end, unit_long e es tables p table);
      writable = tree_writable e es tables p at.placed table plain c.requires.encodable at.early places.end at.end at.room unit.fits unit.sound;
      place = place_fits e es table (targets_of tables p) plain unit.sound;
    })
