use Rattle.std.proofs.Common.{ℕ, ℤ, List, refl, arith, rules}
use Rattle.std.proofs.lemmas.Result.{err_from_is_err_and}
use Rattle.std.proofs.lemmas.Bool.{ne_eqb}
use Rattle.std.proofs.lemmas.Int.{to_z-of_z}
use mir.Val.{SFits}
use mir.Syntax.{w64}
use Rattle.dw_base.specs.Leb128.{uleb_at, sleb_at}
use Rattle.dw_read.specs.Reasons.{uleb_read, uleb16_read, sleb_read}
use Rattle.dw_read.proofs.Laws.{uleb_law, sleb_law}
use Rattle.dw_read.proofs.Chain.{took_of, went}
use Rattle.dw_read_frames.specs.Instructions.{DefCfa, DefCfaExpression, DefCfaOffset, DefCfaOffsetSf, DefCfaRegister, DefCfaSf, block_read, frame_row}
use Rattle.dw_read_frames.proofs.TableLaws.{no_row, at_row, one_ok, one_err, two_ok, two_first, two_second}
use Rattle.dw_read_frames.proofs.BlockLaws.{within_after}
use Rattle.dw_read_frames.proofs.frame_rules.read_frame_rule.Goals as goal

pub returns-in_err-read_register-in-DW_CFA_def_cfa-clause-err : goal.returns-in_err-read_register-in-DW_CFA_def_cfa-clause-err
unfolding frame_row
returns-in_err-read_register-in-DW_CFA_def_cfa-clause-err g c =
    let p = err_from_is_err_and c.from_residual.result c.from_residual.ensures.1 in
    rw (p.1, p.2) (two_first (frame_row c.args.code.0) ℕ ℕ uleb16_read uleb_read DefCfa (at_row frame_row c.args.code.0 12 _ refl (omega arith)) _ _ c.in_err-read_register-in-DW_CFA_def_cfa.ensures.err)

pub returns-in_err-read_uleb128-in-DW_CFA_def_cfa-clause-err : goal.returns-in_err-read_uleb128-in-DW_CFA_def_cfa-clause-err
unfolding frame_row
returns-in_err-read_uleb128-in-DW_CFA_def_cfa-clause-err g c =
    let p = err_from_is_err_and c.from_residual-in_err-read_uleb128-in-DW_CFA_def_cfa.result c.from_residual-in_err-read_uleb128-in-DW_CFA_def_cfa.ensures.1 in
    rw (p.1, p.2) (two_second (frame_row c.args.code.0) ℕ ℕ uleb16_read uleb_read DefCfa (at_row frame_row c.args.code.0 12 _ refl (omega arith)) _ _ _ _ c.in_ok-read_register-in-DW_CFA_def_cfa.ensures.ok c.in_err-read_uleb128-in-DW_CFA_def_cfa.ensures.err.reason)

pub returns-in_ok-read_uleb128-in-DW_CFA_def_cfa-clause-ok : goal.returns-in_ok-read_uleb128-in-DW_CFA_def_cfa-clause-ok
unfolding frame_row
returns-in_ok-read_uleb128-in-DW_CFA_def_cfa-clause-ok g c = two_ok (frame_row c.args.code.0) ℕ ℕ uleb16_read uleb_read DefCfa (at_row frame_row c.args.code.0 12 _ refl (omega arith)) _ _ _ _ _ c.in_ok-read_register-in-DW_CFA_def_cfa.ensures.ok (took_of ℕ uleb_at uleb_read _ _ _ uleb_law c.in_ok-read_uleb128-in-DW_CFA_def_cfa.ensures.ok)

pub returns-in_err-read_register-in-DW_CFA_def_cfa_sf-clause-err : goal.returns-in_err-read_register-in-DW_CFA_def_cfa_sf-clause-err
unfolding frame_row
returns-in_err-read_register-in-DW_CFA_def_cfa_sf-clause-err g c =
    let p = err_from_is_err_and c.from_residual-in_err-read_register-in-DW_CFA_def_cfa_sf.result c.from_residual-in_err-read_register-in-DW_CFA_def_cfa_sf.ensures.1 in
    rw (p.1, p.2) (two_first (frame_row c.args.code.0) ℕ ℤ uleb16_read sleb_read DefCfaSf (at_row frame_row c.args.code.0 18 _ refl (omega arith)) _ _ c.in_err-read_register-in-DW_CFA_def_cfa_sf.ensures.err)

pub returns-in_err-read_sleb128-in-DW_CFA_def_cfa_sf-clause-err : goal.returns-in_err-read_sleb128-in-DW_CFA_def_cfa_sf-clause-err
unfolding frame_row
returns-in_err-read_sleb128-in-DW_CFA_def_cfa_sf-clause-err g c =
    let p = err_from_is_err_and c.from_residual-in_err-read_sleb128-in-DW_CFA_def_cfa_sf.result c.from_residual-in_err-read_sleb128-in-DW_CFA_def_cfa_sf.ensures.1 in
    rw (p.1, p.2) (two_second (frame_row c.args.code.0) ℕ ℤ uleb16_read sleb_read DefCfaSf (at_row frame_row c.args.code.0 18 _ refl (omega arith)) _ _ _ _ c.in_ok-read_register-in-DW_CFA_def_cfa_sf.ensures.ok c.in_err-read_sleb128-in-DW_CFA_def_cfa_sf.ensures.err.reason)

pub returns-in_ok-read_sleb128-in-DW_CFA_def_cfa_sf-clause-ok : goal.returns-in_ok-read_sleb128-in-DW_CFA_def_cfa_sf-clause-ok
unfolding frame_row
returns-in_ok-read_sleb128-in-DW_CFA_def_cfa_sf-clause-ok g c =
    let fits : SFits w64 c.in_ok-read_sleb128-in-DW_CFA_def_cfa_sf.field-0 = search rules in
    rw (to_z-of_z w64 c.in_ok-read_sleb128-in-DW_CFA_def_cfa_sf.field-0 fits) (two_ok (frame_row c.args.code.0) ℕ ℤ uleb16_read sleb_read DefCfaSf (at_row frame_row c.args.code.0 18 _ refl (omega arith)) _ _ _ _ _ c.in_ok-read_register-in-DW_CFA_def_cfa_sf.ensures.ok (took_of ℤ sleb_at sleb_read _ _ _ sleb_law c.in_ok-read_sleb128-in-DW_CFA_def_cfa_sf.ensures.ok))

pub returns-in_err-read_register-in-DW_CFA_def_cfa_register-clause-err : goal.returns-in_err-read_register-in-DW_CFA_def_cfa_register-clause-err
unfolding frame_row
returns-in_err-read_register-in-DW_CFA_def_cfa_register-clause-err g c =
    let p = err_from_is_err_and c.from_residual-in_err-read_register-in-DW_CFA_def_cfa_register.result c.from_residual-in_err-read_register-in-DW_CFA_def_cfa_register.ensures.1 in
    rw (p.1, p.2) (one_err (frame_row c.args.code.0) ℕ uleb16_read DefCfaRegister (at_row frame_row c.args.code.0 13 _ refl (omega arith)) _ _ c.in_err-read_register-in-DW_CFA_def_cfa_register.ensures.err)

pub returns-in_ok-read_register-in-DW_CFA_def_cfa_register-clause-ok : goal.returns-in_ok-read_register-in-DW_CFA_def_cfa_register-clause-ok
unfolding frame_row
returns-in_ok-read_register-in-DW_CFA_def_cfa_register-clause-ok g c = one_ok (frame_row c.args.code.0) ℕ uleb16_read DefCfaRegister (at_row frame_row c.args.code.0 13 _ refl (omega arith)) _ _ _ c.in_ok-read_register-in-DW_CFA_def_cfa_register.ensures.ok

pub returns-in_err-read_uleb128-in-DW_CFA_def_cfa_offset-clause-err : goal.returns-in_err-read_uleb128-in-DW_CFA_def_cfa_offset-clause-err
unfolding frame_row
returns-in_err-read_uleb128-in-DW_CFA_def_cfa_offset-clause-err g c =
    let p = err_from_is_err_and c.from_residual-in_err-read_uleb128-in-DW_CFA_def_cfa_offset.result c.from_residual-in_err-read_uleb128-in-DW_CFA_def_cfa_offset.ensures.1 in
    rw (p.1, p.2) (one_err (frame_row c.args.code.0) ℕ uleb_read DefCfaOffset (at_row frame_row c.args.code.0 14 _ refl (omega arith)) _ _ c.in_err-read_uleb128-in-DW_CFA_def_cfa_offset.ensures.err.reason)

pub returns-in_ok-read_uleb128-in-DW_CFA_def_cfa_offset-clause-ok : goal.returns-in_ok-read_uleb128-in-DW_CFA_def_cfa_offset-clause-ok
unfolding frame_row
returns-in_ok-read_uleb128-in-DW_CFA_def_cfa_offset-clause-ok g c = one_ok (frame_row c.args.code.0) ℕ uleb_read DefCfaOffset (at_row frame_row c.args.code.0 14 _ refl (omega arith)) _ _ _ (took_of ℕ uleb_at uleb_read _ _ _ uleb_law c.in_ok-read_uleb128-in-DW_CFA_def_cfa_offset.ensures.ok)

pub returns-in_err-read_sleb128-in-DW_CFA_def_cfa_offset_sf-clause-err : goal.returns-in_err-read_sleb128-in-DW_CFA_def_cfa_offset_sf-clause-err
unfolding frame_row
returns-in_err-read_sleb128-in-DW_CFA_def_cfa_offset_sf-clause-err g c =
    let p = err_from_is_err_and c.from_residual-in_err-read_sleb128-in-DW_CFA_def_cfa_offset_sf.result c.from_residual-in_err-read_sleb128-in-DW_CFA_def_cfa_offset_sf.ensures.1 in
    rw (p.1, p.2) (one_err (frame_row c.args.code.0) ℤ sleb_read DefCfaOffsetSf (at_row frame_row c.args.code.0 19 _ refl (omega arith)) _ _ c.in_err-read_sleb128-in-DW_CFA_def_cfa_offset_sf.ensures.err.reason)

pub returns-in_ok-read_sleb128-in-DW_CFA_def_cfa_offset_sf-clause-ok : goal.returns-in_ok-read_sleb128-in-DW_CFA_def_cfa_offset_sf-clause-ok
unfolding frame_row
returns-in_ok-read_sleb128-in-DW_CFA_def_cfa_offset_sf-clause-ok g c =
    let fits : SFits w64 c.in_ok-read_sleb128-in-DW_CFA_def_cfa_offset_sf.field-0 = search rules in
    rw (to_z-of_z w64 c.in_ok-read_sleb128-in-DW_CFA_def_cfa_offset_sf.field-0 fits) (one_ok (frame_row c.args.code.0) ℤ sleb_read DefCfaOffsetSf (at_row frame_row c.args.code.0 19 _ refl (omega arith)) _ _ _ (took_of ℤ sleb_at sleb_read _ _ _ sleb_law c.in_ok-read_sleb128-in-DW_CFA_def_cfa_offset_sf.ensures.ok))

pub returns-in_err-read_block-in-DW_CFA_def_cfa_expression-clause-err : goal.returns-in_err-read_block-in-DW_CFA_def_cfa_expression-clause-err
unfolding frame_row
returns-in_err-read_block-in-DW_CFA_def_cfa_expression-clause-err g c =
    let p = err_from_is_err_and c.from_residual-in_err-read_block-in-DW_CFA_def_cfa_expression.result c.from_residual-in_err-read_block-in-DW_CFA_def_cfa_expression.ensures.1 in
    rw (p.1, p.2) (one_err (frame_row c.args.code.0) (List ℕ) block_read DefCfaExpression (at_row frame_row c.args.code.0 15 _ refl (omega arith)) _ _ c.in_err-read_block-in-DW_CFA_def_cfa_expression.ensures.err)

pub returns-in_ok-read_block-in-DW_CFA_def_cfa_expression-clause-ok : goal.returns-in_ok-read_block-in-DW_CFA_def_cfa_expression-clause-ok
unfolding frame_row
returns-in_ok-read_block-in-DW_CFA_def_cfa_expression-clause-ok g c = one_ok (frame_row c.args.code.0) (List ℕ) block_read DefCfaExpression (at_row frame_row c.args.code.0 15 _ refl (omega arith)) _ _ _ c.in_ok-read_block-in-DW_CFA_def_cfa_expression.ensures.ok

pub returns-in_ok-read_block-in-DW_CFA_def_cfa_expression-clause-parts : goal.returns-in_ok-read_block-in-DW_CFA_def_cfa_expression-clause-parts
returns-in_ok-read_block-in-DW_CFA_def_cfa_expression-clause-parts g c = c.in_ok-read_block-in-DW_CFA_def_cfa_expression.ensures.part

pub returns-in_default-clause-ok : goal.returns-in_default-clause-ok
unfolding frame_row
returns-in_default-clause-ok g c = no_row (frame_row c.args.code.0) _ (g.met.R.Reader.is_reading c.args.input.now) (rw (ne_eqb c.args.code.0 12 (λ h. omega arith), ne_eqb c.args.code.0 18 (λ h. omega arith), ne_eqb c.args.code.0 13 (λ h. omega arith), ne_eqb c.args.code.0 14 (λ h. omega arith), ne_eqb c.args.code.0 19 (λ h. omega arith), ne_eqb c.args.code.0 15 (λ h. omega arith)) refl)
