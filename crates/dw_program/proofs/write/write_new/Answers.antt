use Rattle.std.proofs.Common.{refl, ◌∙◌}
use Rattle.std.proofs.lemmas.Result.{err_from_is_err_and}
use Rattle.dw_base.specs.Order.{is_big_of}
use Rattle.dw_writer.proofs.FaultLaws.{SomeHasRisen-never}
use Rattle.dw_writer.proofs.NewLemmas.{IsNewPlain-from_all_mean}
use Rattle.dw_dwarf.specs.DwarfValue.{dwarf_in}
use Rattle.dw_dwarf.proofs.Held.{AreNewPlain-from, same_order, locations_order, location_lists_order, orders_are}
use Rattle.dw_program.proofs.Faulty.{dwarf_faulty}
use Rattle.dw_program.proofs.write.write_new.Goals as goal

pub returns-clause-orders : goal.returns-clause-orders
returns-clause-orders c =
    let empty = rw c.new.ensures at c.in_ok-sections.ensures.writers in
    let new = IsNewPlain-from_all_mean _ (is_big_of c.args.endian) _ _ empty c.in_ok-sections.ensures.fixups
    (record { bytes = refl; size = refl; records = refl; order = refl; plain = refl }) in
    let w = new.writers in
    let wrote = c.in_ok-write.ensures in
    orders_are _ (is_big_of c.args.endian)
    (same_order _ _ _ _ _ _ new.fixups wrote.completes ∙ w.debug_info.order)
    (wrote.lines.text_is.same.order ∙ w.debug_line.order)
    (wrote.ranges.ranges.same.order ∙ w.debug_ranges.order)
    (wrote.ranges.range_lists.same.order ∙ w.debug_rnglists.order)
    (locations_order _ _ _ _ _ _ new.fixups wrote.completes ∙ w.debug_loc.order)
    (location_lists_order _ _ _ _ _ _ new.fixups wrote.completes ∙ w.debug_loclists.order)

pub returns-in_err-write-clause-err : goal.returns-in_err-write-clause-err
returns-in_err-write-clause-err c =
    let empty = rw c.new.ensures at c.in_ok-sections.ensures.writers in
    let new = IsNewPlain-from_all_mean _ (is_big_of c.args.endian) _ _ empty c.in_ok-sections.ensures.fixups
    (record { bytes = refl; size = refl; records = refl; order = refl; plain = refl }) in
    let p = err_from_is_err_and c.from_residual-in_err-write.result c.from_residual-in_err-write.ensures.1 in
    rw (p.1, p.2) (λ some. dwarf_faulty c.in_err-write.ensures.complete c.write.new.sections (AreNewPlain-from _ (is_big_of c.args.endian) _ new) (dwarf_in c.args.dwarf.now) c.in_err-write.field-0.0 c.requires some c.in_err-write.ensures.err (SomeHasRisen-never _ _ _ (λ w. refl)))
