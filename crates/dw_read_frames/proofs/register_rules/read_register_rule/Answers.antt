use Rattle.std.proofs.Common.{ℕ, ℤ, List, refl, arith, rules}
use Rattle.std.proofs.lemmas.Result.{err_from_is_err_and}
use Rattle.std.proofs.lemmas.Bool.{ne_eqb}
use Rattle.std.proofs.lemmas.Int.{to_z-of_z}
use mir.Val.{SFits}
use mir.Syntax.{w64}
use Rattle.dw_base.specs.Leb128.{uleb_at, sleb_at}
use Rattle.dw_read.specs.Reasons.{uleb_read, uleb16_read, sleb_read}
use Rattle.dw_read.proofs.Laws.{uleb_law, sleb_law}
use Rattle.dw_read.proofs.Chain.{took_of, went}
use Rattle.dw_read_frames.specs.Instructions.{Expression, Offset, OffsetExtendedSf, Register, Restore, SameValue, Undefined, ValExpression, ValOffset, ValOffsetSf, block_read, rule_row}
use Rattle.dw_read_frames.proofs.TableLaws.{no_row, at_row, one_ok, one_err, two_ok, two_first, two_second}
use Rattle.dw_read_frames.proofs.BlockLaws.{within_after}
use Rattle.dw_read_frames.proofs.register_rules.read_register_rule.Goals as goal

pub returns-in_err-read_register-in-DW_CFA_offset_extended-clause-err : goal.returns-in_err-read_register-in-DW_CFA_offset_extended-clause-err
unfolding rule_row
returns-in_err-read_register-in-DW_CFA_offset_extended-clause-err g c =
    let p = err_from_is_err_and c.from_residual.result c.from_residual.ensures.1 in
    rw (p.1, p.2) (two_first (rule_row c.args.code.0) ℕ ℕ uleb16_read uleb_read Offset (at_row rule_row c.args.code.0 5 _ refl (omega arith)) _ _ c.in_err-read_register-in-DW_CFA_offset_extended.ensures.err)

pub returns-in_err-read_uleb128-in-DW_CFA_offset_extended-clause-err : goal.returns-in_err-read_uleb128-in-DW_CFA_offset_extended-clause-err
unfolding rule_row
returns-in_err-read_uleb128-in-DW_CFA_offset_extended-clause-err g c =
    let p = err_from_is_err_and c.from_residual-in_err-read_uleb128-in-DW_CFA_offset_extended.result c.from_residual-in_err-read_uleb128-in-DW_CFA_offset_extended.ensures.1 in
    rw (p.1, p.2) (two_second (rule_row c.args.code.0) ℕ ℕ uleb16_read uleb_read Offset (at_row rule_row c.args.code.0 5 _ refl (omega arith)) _ _ _ _ c.in_ok-read_register-in-DW_CFA_offset_extended.ensures.ok c.in_err-read_uleb128-in-DW_CFA_offset_extended.ensures.err.reason)

pub returns-in_ok-read_uleb128-in-DW_CFA_offset_extended-clause-ok : goal.returns-in_ok-read_uleb128-in-DW_CFA_offset_extended-clause-ok
unfolding rule_row
returns-in_ok-read_uleb128-in-DW_CFA_offset_extended-clause-ok g c = two_ok (rule_row c.args.code.0) ℕ ℕ uleb16_read uleb_read Offset (at_row rule_row c.args.code.0 5 _ refl (omega arith)) _ _ _ _ _ c.in_ok-read_register-in-DW_CFA_offset_extended.ensures.ok (took_of ℕ uleb_at uleb_read _ _ _ uleb_law c.in_ok-read_uleb128-in-DW_CFA_offset_extended.ensures.ok)

pub returns-in_err-read_register-in-DW_CFA_offset_extended_sf-clause-err : goal.returns-in_err-read_register-in-DW_CFA_offset_extended_sf-clause-err
unfolding rule_row
returns-in_err-read_register-in-DW_CFA_offset_extended_sf-clause-err g c =
    let p = err_from_is_err_and c.from_residual-in_err-read_register-in-DW_CFA_offset_extended_sf.result c.from_residual-in_err-read_register-in-DW_CFA_offset_extended_sf.ensures.1 in
    rw (p.1, p.2) (two_first (rule_row c.args.code.0) ℕ ℤ uleb16_read sleb_read OffsetExtendedSf (at_row rule_row c.args.code.0 17 _ refl (omega arith)) _ _ c.in_err-read_register-in-DW_CFA_offset_extended_sf.ensures.err)

pub returns-in_err-read_sleb128-in-DW_CFA_offset_extended_sf-clause-err : goal.returns-in_err-read_sleb128-in-DW_CFA_offset_extended_sf-clause-err
unfolding rule_row
returns-in_err-read_sleb128-in-DW_CFA_offset_extended_sf-clause-err g c =
    let p = err_from_is_err_and c.from_residual-in_err-read_sleb128-in-DW_CFA_offset_extended_sf.result c.from_residual-in_err-read_sleb128-in-DW_CFA_offset_extended_sf.ensures.1 in
    rw (p.1, p.2) (two_second (rule_row c.args.code.0) ℕ ℤ uleb16_read sleb_read OffsetExtendedSf (at_row rule_row c.args.code.0 17 _ refl (omega arith)) _ _ _ _ c.in_ok-read_register-in-DW_CFA_offset_extended_sf.ensures.ok c.in_err-read_sleb128-in-DW_CFA_offset_extended_sf.ensures.err.reason)

pub returns-in_ok-read_sleb128-in-DW_CFA_offset_extended_sf-clause-ok : goal.returns-in_ok-read_sleb128-in-DW_CFA_offset_extended_sf-clause-ok
unfolding rule_row
returns-in_ok-read_sleb128-in-DW_CFA_offset_extended_sf-clause-ok g c =
    let fits : SFits w64 c.in_ok-read_sleb128-in-DW_CFA_offset_extended_sf.field-0 = search rules in
    rw (to_z-of_z w64 c.in_ok-read_sleb128-in-DW_CFA_offset_extended_sf.field-0 fits) (two_ok (rule_row c.args.code.0) ℕ ℤ uleb16_read sleb_read OffsetExtendedSf (at_row rule_row c.args.code.0 17 _ refl (omega arith)) _ _ _ _ _ c.in_ok-read_register-in-DW_CFA_offset_extended_sf.ensures.ok (took_of ℤ sleb_at sleb_read _ _ _ sleb_law c.in_ok-read_sleb128-in-DW_CFA_offset_extended_sf.ensures.ok))

pub returns-in_err-read_register-in-DW_CFA_restore_extended-clause-err : goal.returns-in_err-read_register-in-DW_CFA_restore_extended-clause-err
unfolding rule_row
returns-in_err-read_register-in-DW_CFA_restore_extended-clause-err g c =
    let p = err_from_is_err_and c.from_residual-in_err-read_register-in-DW_CFA_restore_extended.result c.from_residual-in_err-read_register-in-DW_CFA_restore_extended.ensures.1 in
    rw (p.1, p.2) (one_err (rule_row c.args.code.0) ℕ uleb16_read Restore (at_row rule_row c.args.code.0 6 _ refl (omega arith)) _ _ c.in_err-read_register-in-DW_CFA_restore_extended.ensures.err)

pub returns-in_ok-read_register-in-DW_CFA_restore_extended-clause-ok : goal.returns-in_ok-read_register-in-DW_CFA_restore_extended-clause-ok
unfolding rule_row
returns-in_ok-read_register-in-DW_CFA_restore_extended-clause-ok g c = one_ok (rule_row c.args.code.0) ℕ uleb16_read Restore (at_row rule_row c.args.code.0 6 _ refl (omega arith)) _ _ _ c.in_ok-read_register-in-DW_CFA_restore_extended.ensures.ok

pub returns-in_err-read_register-in-DW_CFA_undefined-clause-err : goal.returns-in_err-read_register-in-DW_CFA_undefined-clause-err
unfolding rule_row
returns-in_err-read_register-in-DW_CFA_undefined-clause-err g c =
    let p = err_from_is_err_and c.from_residual-in_err-read_register-in-DW_CFA_undefined.result c.from_residual-in_err-read_register-in-DW_CFA_undefined.ensures.1 in
    rw (p.1, p.2) (one_err (rule_row c.args.code.0) ℕ uleb16_read Undefined (at_row rule_row c.args.code.0 7 _ refl (omega arith)) _ _ c.in_err-read_register-in-DW_CFA_undefined.ensures.err)

pub returns-in_ok-read_register-in-DW_CFA_undefined-clause-ok : goal.returns-in_ok-read_register-in-DW_CFA_undefined-clause-ok
unfolding rule_row
returns-in_ok-read_register-in-DW_CFA_undefined-clause-ok g c = one_ok (rule_row c.args.code.0) ℕ uleb16_read Undefined (at_row rule_row c.args.code.0 7 _ refl (omega arith)) _ _ _ c.in_ok-read_register-in-DW_CFA_undefined.ensures.ok

pub returns-in_err-read_register-in-DW_CFA_same_value-clause-err : goal.returns-in_err-read_register-in-DW_CFA_same_value-clause-err
unfolding rule_row
returns-in_err-read_register-in-DW_CFA_same_value-clause-err g c =
    let p = err_from_is_err_and c.from_residual-in_err-read_register-in-DW_CFA_same_value.result c.from_residual-in_err-read_register-in-DW_CFA_same_value.ensures.1 in
    rw (p.1, p.2) (one_err (rule_row c.args.code.0) ℕ uleb16_read SameValue (at_row rule_row c.args.code.0 8 _ refl (omega arith)) _ _ c.in_err-read_register-in-DW_CFA_same_value.ensures.err)

pub returns-in_ok-read_register-in-DW_CFA_same_value-clause-ok : goal.returns-in_ok-read_register-in-DW_CFA_same_value-clause-ok
unfolding rule_row
returns-in_ok-read_register-in-DW_CFA_same_value-clause-ok g c = one_ok (rule_row c.args.code.0) ℕ uleb16_read SameValue (at_row rule_row c.args.code.0 8 _ refl (omega arith)) _ _ _ c.in_ok-read_register-in-DW_CFA_same_value.ensures.ok

pub returns-in_err-read_register-in-DW_CFA_register-clause-err : goal.returns-in_err-read_register-in-DW_CFA_register-clause-err
unfolding rule_row
returns-in_err-read_register-in-DW_CFA_register-clause-err g c =
    let p = err_from_is_err_and c.from_residual-in_err-read_register-in-DW_CFA_register.result c.from_residual-in_err-read_register-in-DW_CFA_register.ensures.1 in
    rw (p.1, p.2) (two_first (rule_row c.args.code.0) ℕ ℕ uleb16_read uleb16_read Register (at_row rule_row c.args.code.0 9 _ refl (omega arith)) _ _ c.in_err-read_register-in-DW_CFA_register.ensures.err)

pub returns-in_err-read_register-in-DW_CFA_register-2-clause-err : goal.returns-in_err-read_register-in-DW_CFA_register-2-clause-err
unfolding rule_row
returns-in_err-read_register-in-DW_CFA_register-2-clause-err g c =
    let p = err_from_is_err_and c.from_residual-in_err-read_register-in-DW_CFA_register-2.result c.from_residual-in_err-read_register-in-DW_CFA_register-2.ensures.1 in
    rw (p.1, p.2) (two_second (rule_row c.args.code.0) ℕ ℕ uleb16_read uleb16_read Register (at_row rule_row c.args.code.0 9 _ refl (omega arith)) _ _ _ _ c.in_ok-read_register-in-DW_CFA_register.ensures.ok c.in_err-read_register-in-DW_CFA_register-2.ensures.err)

pub returns-in_ok-read_register-in-DW_CFA_register-2-clause-ok : goal.returns-in_ok-read_register-in-DW_CFA_register-2-clause-ok
unfolding rule_row
returns-in_ok-read_register-in-DW_CFA_register-2-clause-ok g c = two_ok (rule_row c.args.code.0) ℕ ℕ uleb16_read uleb16_read Register (at_row rule_row c.args.code.0 9 _ refl (omega arith)) _ _ _ _ _ c.in_ok-read_register-in-DW_CFA_register.ensures.ok c.in_ok-read_register-in-DW_CFA_register-2.ensures.ok

pub returns-in_err-read_register-in-DW_CFA_expression-clause-err : goal.returns-in_err-read_register-in-DW_CFA_expression-clause-err
unfolding rule_row
returns-in_err-read_register-in-DW_CFA_expression-clause-err g c =
    let p = err_from_is_err_and c.from_residual-in_err-read_register-in-DW_CFA_expression.result c.from_residual-in_err-read_register-in-DW_CFA_expression.ensures.1 in
    rw (p.1, p.2) (two_first (rule_row c.args.code.0) ℕ (List ℕ) uleb16_read block_read Expression (at_row rule_row c.args.code.0 16 _ refl (omega arith)) _ _ c.in_err-read_register-in-DW_CFA_expression.ensures.err)

pub returns-in_err-read_block-in-DW_CFA_expression-clause-err : goal.returns-in_err-read_block-in-DW_CFA_expression-clause-err
unfolding rule_row
returns-in_err-read_block-in-DW_CFA_expression-clause-err g c =
    let p = err_from_is_err_and c.from_residual-in_err-read_block-in-DW_CFA_expression.result c.from_residual-in_err-read_block-in-DW_CFA_expression.ensures.1 in
    rw (p.1, p.2) (two_second (rule_row c.args.code.0) ℕ (List ℕ) uleb16_read block_read Expression (at_row rule_row c.args.code.0 16 _ refl (omega arith)) _ _ _ _ c.in_ok-read_register-in-DW_CFA_expression.ensures.ok c.in_err-read_block-in-DW_CFA_expression.ensures.err)

pub returns-in_ok-read_block-in-DW_CFA_expression-clause-ok : goal.returns-in_ok-read_block-in-DW_CFA_expression-clause-ok
unfolding rule_row
returns-in_ok-read_block-in-DW_CFA_expression-clause-ok g c = two_ok (rule_row c.args.code.0) ℕ (List ℕ) uleb16_read block_read Expression (at_row rule_row c.args.code.0 16 _ refl (omega arith)) _ _ _ _ _ c.in_ok-read_register-in-DW_CFA_expression.ensures.ok c.in_ok-read_block-in-DW_CFA_expression.ensures.ok

pub returns-in_ok-read_block-in-DW_CFA_expression-clause-parts : goal.returns-in_ok-read_block-in-DW_CFA_expression-clause-parts
returns-in_ok-read_block-in-DW_CFA_expression-clause-parts g c = within_after _ _ _ (went ℕ uleb16_read _ _ _ c.in_ok-read_register-in-DW_CFA_expression.ensures.ok) c.in_ok-read_block-in-DW_CFA_expression.ensures.part

pub returns-in_err-read_register-in-DW_CFA_val_expression-clause-err : goal.returns-in_err-read_register-in-DW_CFA_val_expression-clause-err
unfolding rule_row
returns-in_err-read_register-in-DW_CFA_val_expression-clause-err g c =
    let p = err_from_is_err_and c.from_residual-in_err-read_register-in-DW_CFA_val_expression.result c.from_residual-in_err-read_register-in-DW_CFA_val_expression.ensures.1 in
    rw (p.1, p.2) (two_first (rule_row c.args.code.0) ℕ (List ℕ) uleb16_read block_read ValExpression (at_row rule_row c.args.code.0 22 _ refl (omega arith)) _ _ c.in_err-read_register-in-DW_CFA_val_expression.ensures.err)

pub returns-in_err-read_block-in-DW_CFA_val_expression-clause-err : goal.returns-in_err-read_block-in-DW_CFA_val_expression-clause-err
unfolding rule_row
returns-in_err-read_block-in-DW_CFA_val_expression-clause-err g c =
    let p = err_from_is_err_and c.from_residual-in_err-read_block-in-DW_CFA_val_expression.result c.from_residual-in_err-read_block-in-DW_CFA_val_expression.ensures.1 in
    rw (p.1, p.2) (two_second (rule_row c.args.code.0) ℕ (List ℕ) uleb16_read block_read ValExpression (at_row rule_row c.args.code.0 22 _ refl (omega arith)) _ _ _ _ c.in_ok-read_register-in-DW_CFA_val_expression.ensures.ok c.in_err-read_block-in-DW_CFA_val_expression.ensures.err)

pub returns-in_ok-read_block-in-DW_CFA_val_expression-clause-ok : goal.returns-in_ok-read_block-in-DW_CFA_val_expression-clause-ok
unfolding rule_row
returns-in_ok-read_block-in-DW_CFA_val_expression-clause-ok g c = two_ok (rule_row c.args.code.0) ℕ (List ℕ) uleb16_read block_read ValExpression (at_row rule_row c.args.code.0 22 _ refl (omega arith)) _ _ _ _ _ c.in_ok-read_register-in-DW_CFA_val_expression.ensures.ok c.in_ok-read_block-in-DW_CFA_val_expression.ensures.ok

pub returns-in_ok-read_block-in-DW_CFA_val_expression-clause-parts : goal.returns-in_ok-read_block-in-DW_CFA_val_expression-clause-parts
returns-in_ok-read_block-in-DW_CFA_val_expression-clause-parts g c = within_after _ _ _ (went ℕ uleb16_read _ _ _ c.in_ok-read_register-in-DW_CFA_val_expression.ensures.ok) c.in_ok-read_block-in-DW_CFA_val_expression.ensures.part

pub returns-in_err-read_register-in-DW_CFA_val_offset-clause-err : goal.returns-in_err-read_register-in-DW_CFA_val_offset-clause-err
unfolding rule_row
returns-in_err-read_register-in-DW_CFA_val_offset-clause-err g c =
    let p = err_from_is_err_and c.from_residual-in_err-read_register-in-DW_CFA_val_offset.result c.from_residual-in_err-read_register-in-DW_CFA_val_offset.ensures.1 in
    rw (p.1, p.2) (two_first (rule_row c.args.code.0) ℕ ℕ uleb16_read uleb_read ValOffset (at_row rule_row c.args.code.0 20 _ refl (omega arith)) _ _ c.in_err-read_register-in-DW_CFA_val_offset.ensures.err)

pub returns-in_err-read_uleb128-in-DW_CFA_val_offset-clause-err : goal.returns-in_err-read_uleb128-in-DW_CFA_val_offset-clause-err
unfolding rule_row
returns-in_err-read_uleb128-in-DW_CFA_val_offset-clause-err g c =
    let p = err_from_is_err_and c.from_residual-in_err-read_uleb128-in-DW_CFA_val_offset.result c.from_residual-in_err-read_uleb128-in-DW_CFA_val_offset.ensures.1 in
    rw (p.1, p.2) (two_second (rule_row c.args.code.0) ℕ ℕ uleb16_read uleb_read ValOffset (at_row rule_row c.args.code.0 20 _ refl (omega arith)) _ _ _ _ c.in_ok-read_register-in-DW_CFA_val_offset.ensures.ok c.in_err-read_uleb128-in-DW_CFA_val_offset.ensures.err.reason)

pub returns-in_ok-read_uleb128-in-DW_CFA_val_offset-clause-ok : goal.returns-in_ok-read_uleb128-in-DW_CFA_val_offset-clause-ok
unfolding rule_row
returns-in_ok-read_uleb128-in-DW_CFA_val_offset-clause-ok g c = two_ok (rule_row c.args.code.0) ℕ ℕ uleb16_read uleb_read ValOffset (at_row rule_row c.args.code.0 20 _ refl (omega arith)) _ _ _ _ _ c.in_ok-read_register-in-DW_CFA_val_offset.ensures.ok (took_of ℕ uleb_at uleb_read _ _ _ uleb_law c.in_ok-read_uleb128-in-DW_CFA_val_offset.ensures.ok)

pub returns-in_err-read_register-in-DW_CFA_val_offset_sf-clause-err : goal.returns-in_err-read_register-in-DW_CFA_val_offset_sf-clause-err
unfolding rule_row
returns-in_err-read_register-in-DW_CFA_val_offset_sf-clause-err g c =
    let p = err_from_is_err_and c.from_residual-in_err-read_register-in-DW_CFA_val_offset_sf.result c.from_residual-in_err-read_register-in-DW_CFA_val_offset_sf.ensures.1 in
    rw (p.1, p.2) (two_first (rule_row c.args.code.0) ℕ ℤ uleb16_read sleb_read ValOffsetSf (at_row rule_row c.args.code.0 21 _ refl (omega arith)) _ _ c.in_err-read_register-in-DW_CFA_val_offset_sf.ensures.err)

pub returns-in_err-read_sleb128-in-DW_CFA_val_offset_sf-clause-err : goal.returns-in_err-read_sleb128-in-DW_CFA_val_offset_sf-clause-err
unfolding rule_row
returns-in_err-read_sleb128-in-DW_CFA_val_offset_sf-clause-err g c =
    let p = err_from_is_err_and c.from_residual-in_err-read_sleb128-in-DW_CFA_val_offset_sf.result c.from_residual-in_err-read_sleb128-in-DW_CFA_val_offset_sf.ensures.1 in
    rw (p.1, p.2) (two_second (rule_row c.args.code.0) ℕ ℤ uleb16_read sleb_read ValOffsetSf (at_row rule_row c.args.code.0 21 _ refl (omega arith)) _ _ _ _ c.in_ok-read_register-in-DW_CFA_val_offset_sf.ensures.ok c.in_err-read_sleb128-in-DW_CFA_val_offset_sf.ensures.err.reason)

pub returns-in_ok-read_sleb128-in-DW_CFA_val_offset_sf-clause-ok : goal.returns-in_ok-read_sleb128-in-DW_CFA_val_offset_sf-clause-ok
unfolding rule_row
returns-in_ok-read_sleb128-in-DW_CFA_val_offset_sf-clause-ok g c =
    let fits : SFits w64 c.in_ok-read_sleb128-in-DW_CFA_val_offset_sf.field-0 = search rules in
    rw (to_z-of_z w64 c.in_ok-read_sleb128-in-DW_CFA_val_offset_sf.field-0 fits) (two_ok (rule_row c.args.code.0) ℕ ℤ uleb16_read sleb_read ValOffsetSf (at_row rule_row c.args.code.0 21 _ refl (omega arith)) _ _ _ _ _ c.in_ok-read_register-in-DW_CFA_val_offset_sf.ensures.ok (took_of ℤ sleb_at sleb_read _ _ _ sleb_law c.in_ok-read_sleb128-in-DW_CFA_val_offset_sf.ensures.ok))

pub returns-in_default-clause-ok : goal.returns-in_default-clause-ok
unfolding rule_row
returns-in_default-clause-ok g c = no_row (rule_row c.args.code.0) _ (g.met.R.Reader.is_reading c.args.input.now) (rw (ne_eqb c.args.code.0 5 (λ h. omega arith), ne_eqb c.args.code.0 17 (λ h. omega arith), ne_eqb c.args.code.0 6 (λ h. omega arith), ne_eqb c.args.code.0 7 (λ h. omega arith), ne_eqb c.args.code.0 8 (λ h. omega arith), ne_eqb c.args.code.0 9 (λ h. omega arith), ne_eqb c.args.code.0 16 (λ h. omega arith), ne_eqb c.args.code.0 22 (λ h. omega arith), ne_eqb c.args.code.0 20 (λ h. omega arith), ne_eqb c.args.code.0 21 (λ h. omega arith)) refl)
