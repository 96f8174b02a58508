use Rattle.std.proofs.Common.{◌∙◌, refl, subst}
use Rattle.std.proofs.lemmas.Result.{err_from_is_err_and}
use Rattle.dw_frame.specs.declared.kind.FrameKind.TheVariants.{Debug, Eh}
use Rattle.dw_link.proofs.Held.{held_beside}
use Rattle.dw_link_frames.specs.Placed.{kind_of}
use Rattle.dw_link_frames.specs.Written.{IsTaken}
use Rattle.dw_link_frames.proofs.Steps.{only_memory, taken_at}
use Rattle.dw_link_frames.proofs.tables.write_table.Goals as goal

pub returns-in_err-write_eh_frame-clause-complete : goal.returns-in_err-write_eh_frame-clause-complete
returns-in_err-write_eh_frame-clause-complete g c =
    let old = held_beside g.E.Endianity.is_big c.in_ok-set.set.eh_frame.0 in
    let new = held_beside g.E.Endianity.is_big c.write_eh_frame.new.w.0 in
    λ taken.
    let p = err_from_is_err_and c.from_residual-in_err-write_eh_frame.result c.from_residual-in_err-write_eh_frame.ensures.1 in
    let here : IsTaken Eh c.args.table.now = subst (λ b. IsTaken (kind_of b) c.args.table.now) c.if-eh_frame.true taken in
    rw (p.1, p.2) (only_memory old new c.in_err-write_eh_frame.field-0.0 refl refl (c.in_err-write_eh_frame.ensures.complete (taken_at (g.E.Endianity.is_big c.args.endian) Eh c.args.table.now old (c.in_ok-set.ensures.writers.eh_frame ∙ c.new.ensures) here)))

pub returns-in_err-write_debug_frame-clause-complete : goal.returns-in_err-write_debug_frame-clause-complete
returns-in_err-write_debug_frame-clause-complete g c =
    let old = held_beside g.E.Endianity.is_big c.in_ok-set.set.debug_frame.0 in
    let new = held_beside g.E.Endianity.is_big c.write_debug_frame.new.w.0 in
    λ taken.
    let p = err_from_is_err_and c.from_residual-in_err-write_debug_frame.result c.from_residual-in_err-write_debug_frame.ensures.1 in
    let here : IsTaken Debug c.args.table.now = subst (λ b. IsTaken (kind_of b) c.args.table.now) c.if-eh_frame.false taken in
    rw (p.1, p.2) (only_memory old new c.in_err-write_debug_frame.field-0.0 refl refl (c.in_err-write_debug_frame.ensures.complete (taken_at (g.E.Endianity.is_big c.args.endian) Debug c.args.table.now old (c.in_ok-set.ensures.writers.debug_frame ∙ c.new.ensures) here)))
