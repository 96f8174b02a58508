use Rattle.std.proofs.Common.{◌≡◌, sym, inl, inr, Err, rules, w64, to_z, of_z}
use Rattle.dw_frame.proofs.ConvertLaws.{is_err}
use Rattle.dw_frame.proofs.convert_cie.convert_head.Goals as goal

pub returns-in_err-code_factor-clause-ok : goal.returns-in_err-code_factor-clause-ok
returns-in_err-code_factor-clause-ok g c = rw (is_err _ _ c.from_residual.ensures) tt

pub returns-in_err-code_factor-clause-instructions : goal.returns-in_err-code_factor-clause-instructions
returns-in_err-code_factor-clause-instructions g c = rw (is_err _ _ c.from_residual.ensures) tt

pub returns-in_err-data_factor-clause-ok : goal.returns-in_err-data_factor-clause-ok
returns-in_err-data_factor-clause-ok g c = rw (is_err _ _ c.from_residual-in_err-data_factor.ensures) tt

pub returns-in_err-data_factor-clause-instructions : goal.returns-in_err-data_factor-clause-instructions
returns-in_err-data_factor-clause-instructions g c = rw (is_err _ _ c.from_residual-in_err-data_factor.ensures) tt

pub returns-in_err-personality-clause-ok : goal.returns-in_err-personality-clause-ok
returns-in_err-personality-clause-ok g c = rw (is_err _ _ c.from_residual-in_err-personality.ensures) tt

pub returns-in_err-personality-clause-instructions : goal.returns-in_err-personality-clause-instructions
returns-in_err-personality-clause-instructions g c = rw (is_err _ _ c.from_residual-in_err-personality.ensures) tt

pub returns-clause-err : goal.returns-clause-err
returns-clause-err g c = tt

pub returns-clause-instructions : goal.returns-clause-instructions
returns-clause-instructions g c = c.new-cie.ensures.instructions

pub returns-in_err-code_factor-clause-err : goal.returns-in_err-code_factor-clause-err
returns-in_err-code_factor-clause-err g c =
    let e : c.from_residual.result ≡ Err c.in_err-code_factor.field-0.0 = is_err _ _ c.from_residual.ensures in
    rw e (inl (sym (rw c.code_alignment_factor.ensures at c.in_err-code_factor.ensures)))

pub returns-in_err-data_factor-clause-err : goal.returns-in_err-data_factor-clause-err
returns-in_err-data_factor-clause-err g c =
    let same : to_z w64 (of_z w64 c.data_alignment_factor.result) ≡ c.data_alignment_factor.result = search rules in
    let e : c.from_residual-in_err-data_factor.result ≡ Err c.in_err-data_factor.field-0.0 = is_err _ _ c.from_residual-in_err-data_factor.ensures in
    rw e (inr (inl (sym (rw (same, c.data_alignment_factor.ensures) at c.in_err-data_factor.ensures))))

pub returns-in_err-personality-clause-err : goal.returns-in_err-personality-clause-err
returns-in_err-personality-clause-err g c =
    let e : c.from_residual-in_err-personality.result ≡ Err c.in_err-personality.field-0.0 = is_err _ _ c.from_residual-in_err-personality.ensures in
    rw e (inr (inr (rw c.personality_with_encoding.ensures at c.in_err-personality.ensures)))
