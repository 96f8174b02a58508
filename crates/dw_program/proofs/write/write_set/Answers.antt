use Rattle.std.proofs.Common.{refl}
use Rattle.std.proofs.lemmas.Result.{err_from_is_err_and}
use Rattle.dw_base.specs.Order.{is_big_of}
use Rattle.dw_writer.proofs.FaultLaws.{SomeHasRisen-never}
use Rattle.dw_writer.proofs.NewLemmas.{IsNew-from_all_mean}
use Rattle.dw_dwarf.specs.DwarfValue.{dwarf_in}
use Rattle.dw_link.proofs.Held.{held_beside}
use Rattle.dw_program.proofs.Faulty.{set_faulty}
use Rattle.dw_program.proofs.NewSets.{new_sets, no_plain, valid_there}
use Rattle.dw_program.proofs.SetParts.{set_written}
use Rattle.dw_program.proofs.write.write_set.Goals as goal

pub returns-clause-valid : goal.returns-clause-valid
returns-clause-valid c =
    let begun = rw c.new.ensures at c.in_ok-sections.ensures.writers in
    valid_there (held_beside is_big_of) (is_big_of c.args.endian) c.in_ok-sections.sections begun (dwarf_in c.args.dwarf.now) (c.in_ok-write.ensures.valid c.in_ok-sections.ensures.fixups c.requires)

pub returns-clause-left : goal.returns-clause-left
returns-clause-left c =
    let begun = rw c.new.ensures at c.in_ok-sections.ensures.writers in
    c.in_ok-write.ensures.left (is_big_of c.args.endian)
    (IsNew-from_all_mean (held_beside is_big_of) (is_big_of c.args.endian) _ _ begun c.in_ok-sections.ensures.fixups (record { told = refl; size = refl; records = refl; order = refl })) c.requires

pub returns-clause-parts : goal.returns-clause-parts
returns-clause-parts c =
    let begun = rw c.new.ensures at c.in_ok-sections.ensures.writers in
    let wrote = c.in_ok-write.ensures in
    set_written (held_beside is_big_of) (is_big_of c.args.endian) c.in_ok-sections.sections c.write.new.sections (dwarf_in c.args.dwarf.now) (λ w. (w.writer.bytes.items, refl)) begun c.requires
    c.in_ok-sections.ensures.fixups _ wrote.completes wrote.lines wrote.ranges wrote.strings wrote.others

pub returns-in_err-write-clause-err : goal.returns-in_err-write-clause-err
returns-in_err-write-clause-err c =
    let begun = rw c.new.ensures at c.in_ok-sections.ensures.writers in
    let new = new_sets (held_beside is_big_of) (is_big_of c.args.endian) c.in_ok-sections.sections begun c.in_ok-sections.ensures.fixups in
    let p = err_from_is_err_and c.from_residual-in_err-write.result c.from_residual-in_err-write.ensures.1 in
    rw (p.1, p.2) (λ some. set_faulty (held_beside is_big_of) _ c.write.new.sections new (no_plain (held_beside is_big_of) (is_big_of c.args.endian) c.in_ok-sections.sections begun) (dwarf_in c.args.dwarf.now) c.in_err-write.field-0.0 c.requires some
    c.in_err-write.ensures.err (SomeHasRisen-never _ _ _ (λ w. refl)))
