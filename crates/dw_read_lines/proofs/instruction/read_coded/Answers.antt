use Rattle.std.proofs.Common.{arith}
use Rattle.std.proofs.lemmas.Result.{err_from_is_err_and}
use Rattle.dw_read_lines.proofs.InstructionReads.{address_coded, discriminator_coded, discriminator_uncoded, other_coded, end_coded}
use Rattle.dw_read_lines.proofs.instruction.read_coded.Goals as goal

pub returns-in_err-discriminator-in-DW_LNE_set_discriminator-clause-err : goal.returns-in_err-discriminator-in-DW_LNE_set_discriminator-clause-err
returns-in_err-discriminator-in-DW_LNE_set_discriminator-clause-err g c =
    let p = err_from_is_err_and c.from_residual.result c.from_residual.ensures.1 in
    rw (p.1, p.2) (discriminator_uncoded _ c.args.code.0 _ _ (omega arith) c.in_err-discriminator-in-DW_LNE_set_discriminator.ensures.err.reason)

pub returns-in-DW_LNE_end_sequence-clause-ok : goal.returns-in-DW_LNE_end_sequence-clause-ok
returns-in-DW_LNE_end_sequence-clause-ok g c = end_coded _ c.args.code.0 _ (omega arith)

pub returns-in-DW_LNE_set_address-clause-ok : goal.returns-in-DW_LNE_set_address-clause-ok
returns-in-DW_LNE_set_address-clause-ok g c = address_coded c.args.code.0 _ _ (omega arith) c.duplicate.ensures

pub returns-in_ok-discriminator-in-DW_LNE_set_discriminator-clause-ok : goal.returns-in_ok-discriminator-in-DW_LNE_set_discriminator-clause-ok
returns-in_ok-discriminator-in-DW_LNE_set_discriminator-clause-ok g c = discriminator_coded _ c.args.code.0 _ _ _ (omega arith) c.in_ok-discriminator-in-DW_LNE_set_discriminator.ensures.ok

pub returns-in_default-clause-ok : goal.returns-in_default-clause-ok
returns-in_default-clause-ok g c = other_coded _ c.args.code.0 _ (omega arith) (omega arith) (omega arith)
