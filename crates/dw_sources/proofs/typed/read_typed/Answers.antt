use Rattle.std.proofs.Common.{ℕ, List, Option, true, false, refl, arith}
use Rattle.std.proofs.lemmas.Result.{err_from_is_err_and}
use Rattle.std.proofs.lemmas.Bool.{ne_eqb}
use Rattle.dw_base.specs.Numbers.{number_at}
use Rattle.dw_base.specs.Leb128.{uleb_at}
use Rattle.dw_read.specs.Reasons.{number_read, uleb_read, uleb16_read}
use Rattle.dw_read.proofs.Laws.{number_law, uleb_law}
use Rattle.dw_read.proofs.Chain.{took_of, went}
use Rattle.dw_sources.specs.Operations.{ConstantType, RegisterType, DerefType, Convert, Reinterpret}
use Rattle.dw_sources.specs.Operands.{base_read, short_block_read}
use Rattle.dw_sources.specs.OperationTable.{typed_operations}
use Rattle.dw_sources.proofs.OperandLaws.{short_took_after, short_not_after, within_after}
use Rattle.dw_sources.proofs.TableLaws.{no_row, at_row, at_either, one_ok, one_err, two_ok, two_first, two_second}
use Rattle.dw_sources.proofs.typed.read_typed.Goals as goal

pub returns-in_err-read_uleb128-in-DW_OP_const_type-clause-err : goal.returns-in_err-read_uleb128-in-DW_OP_const_type-clause-err
unfolding typed_operations
returns-in_err-read_uleb128-in-DW_OP_const_type-clause-err g c =
    let p = err_from_is_err_and c.from_residual-in_err-read_uleb128-in-DW_OP_const_type.result c.from_residual-in_err-read_uleb128-in-DW_OP_const_type.ensures.1 in
    rw (p.1, p.2) (two_first (typed_operations (g.R.Reader.reading c.args.input.now).is_big c.args.encoding c.args.opcode.0) ℕ (List ℕ) uleb_read (short_block_read (g.R.Reader.reading c.args.input.now).is_big) ConstantType (at_either (typed_operations (g.R.Reader.reading c.args.input.now).is_big c.args.encoding) c.args.opcode.0 164 244 _ refl refl (λ n. omega arith)) _ _ c.in_err-read_uleb128-in-DW_OP_const_type.ensures.err.reason)

pub returns-in_err-read_short_block-in-DW_OP_const_type-clause-err : goal.returns-in_err-read_short_block-in-DW_OP_const_type-clause-err
unfolding typed_operations
returns-in_err-read_short_block-in-DW_OP_const_type-clause-err g c =
    let p = err_from_is_err_and c.from_residual-in_err-read_short_block-in-DW_OP_const_type.result c.from_residual-in_err-read_short_block-in-DW_OP_const_type.ensures.1 in
    rw (p.1, p.2) (two_second (typed_operations (g.R.Reader.reading c.args.input.now).is_big c.args.encoding c.args.opcode.0) ℕ (List ℕ) uleb_read (short_block_read (g.R.Reader.reading c.args.input.now).is_big) ConstantType (at_either (typed_operations (g.R.Reader.reading c.args.input.now).is_big c.args.encoding) c.args.opcode.0 164 244 _ refl refl (λ n. omega arith)) _ _ _ _ (took_of ℕ uleb_at uleb_read _ _ _ uleb_law c.in_ok-read_uleb128-in-DW_OP_const_type.ensures.ok) (short_not_after _ _ _ _ (went ℕ uleb_read _ _ _ (took_of ℕ uleb_at uleb_read _ _ _ uleb_law c.in_ok-read_uleb128-in-DW_OP_const_type.ensures.ok)) c.in_err-read_short_block-in-DW_OP_const_type.ensures.err))

pub returns-in_ok-read_short_block-in-DW_OP_const_type-clause-parts : goal.returns-in_ok-read_short_block-in-DW_OP_const_type-clause-parts
unfolding typed_operations
returns-in_ok-read_short_block-in-DW_OP_const_type-clause-parts g c =
    within_after _ _ _ (went ℕ uleb_read _ _ _ (took_of ℕ uleb_at uleb_read _ _ _ uleb_law c.in_ok-read_uleb128-in-DW_OP_const_type.ensures.ok)) c.in_ok-read_short_block-in-DW_OP_const_type.ensures.part

pub returns-in_ok-read_short_block-in-DW_OP_const_type-clause-ok : goal.returns-in_ok-read_short_block-in-DW_OP_const_type-clause-ok
unfolding typed_operations
returns-in_ok-read_short_block-in-DW_OP_const_type-clause-ok g c =
    two_ok (typed_operations (g.R.Reader.reading c.args.input.now).is_big c.args.encoding c.args.opcode.0) ℕ (List ℕ) uleb_read (short_block_read (g.R.Reader.reading c.args.input.now).is_big) ConstantType (at_either (typed_operations (g.R.Reader.reading c.args.input.now).is_big c.args.encoding) c.args.opcode.0 164 244 _ refl refl (λ n. omega arith)) _ _ _ _ _ (took_of ℕ uleb_at uleb_read _ _ _ uleb_law c.in_ok-read_uleb128-in-DW_OP_const_type.ensures.ok) (short_took_after _ _ _ _ (went ℕ uleb_read _ _ _ (took_of ℕ uleb_at uleb_read _ _ _ uleb_law c.in_ok-read_uleb128-in-DW_OP_const_type.ensures.ok)) c.in_ok-read_short_block-in-DW_OP_const_type.ensures.ok)

pub returns-in_err-read_register-in-DW_OP_regval_type-clause-err : goal.returns-in_err-read_register-in-DW_OP_regval_type-clause-err
unfolding typed_operations
returns-in_err-read_register-in-DW_OP_regval_type-clause-err g c =
    let p = err_from_is_err_and c.from_residual-in_err-read_register-in-DW_OP_regval_type.result c.from_residual-in_err-read_register-in-DW_OP_regval_type.ensures.1 in
    rw (p.1, p.2) (two_first (typed_operations (g.R.Reader.reading c.args.input.now).is_big c.args.encoding c.args.opcode.0) ℕ ℕ uleb16_read uleb_read RegisterType (at_either (typed_operations (g.R.Reader.reading c.args.input.now).is_big c.args.encoding) c.args.opcode.0 165 245 _ refl refl (λ n. omega arith)) _ _ c.in_err-read_register-in-DW_OP_regval_type.ensures.err)

pub returns-in_err-read_uleb128-in-DW_OP_regval_type-clause-err : goal.returns-in_err-read_uleb128-in-DW_OP_regval_type-clause-err
unfolding typed_operations
returns-in_err-read_uleb128-in-DW_OP_regval_type-clause-err g c =
    let p = err_from_is_err_and c.from_residual-in_err-read_uleb128-in-DW_OP_regval_type.result c.from_residual-in_err-read_uleb128-in-DW_OP_regval_type.ensures.1 in
    rw (p.1, p.2) (two_second (typed_operations (g.R.Reader.reading c.args.input.now).is_big c.args.encoding c.args.opcode.0) ℕ ℕ uleb16_read uleb_read RegisterType (at_either (typed_operations (g.R.Reader.reading c.args.input.now).is_big c.args.encoding) c.args.opcode.0 165 245 _ refl refl (λ n. omega arith)) _ _ _ _ c.in_ok-read_register-in-DW_OP_regval_type.ensures.ok c.in_err-read_uleb128-in-DW_OP_regval_type.ensures.err.reason)

pub returns-in_ok-read_uleb128-in-DW_OP_regval_type-clause-ok : goal.returns-in_ok-read_uleb128-in-DW_OP_regval_type-clause-ok
unfolding typed_operations
returns-in_ok-read_uleb128-in-DW_OP_regval_type-clause-ok g c =
    two_ok (typed_operations (g.R.Reader.reading c.args.input.now).is_big c.args.encoding c.args.opcode.0) ℕ ℕ uleb16_read uleb_read RegisterType (at_either (typed_operations (g.R.Reader.reading c.args.input.now).is_big c.args.encoding) c.args.opcode.0 165 245 _ refl refl (λ n. omega arith)) _ _ _ _ _ c.in_ok-read_register-in-DW_OP_regval_type.ensures.ok (took_of ℕ uleb_at uleb_read _ _ _ uleb_law c.in_ok-read_uleb128-in-DW_OP_regval_type.ensures.ok)

pub returns-in_err-read_u8-in-DW_OP_deref_type-clause-err : goal.returns-in_err-read_u8-in-DW_OP_deref_type-clause-err
unfolding typed_operations
returns-in_err-read_u8-in-DW_OP_deref_type-clause-err g c =
    let p = err_from_is_err_and c.from_residual-in_err-read_u8-in-DW_OP_deref_type.result c.from_residual-in_err-read_u8-in-DW_OP_deref_type.ensures.1 in
    rw (p.1, p.2) (two_first (typed_operations (g.R.Reader.reading c.args.input.now).is_big c.args.encoding c.args.opcode.0) ℕ ℕ (number_read (g.R.Reader.reading c.args.input.now).is_big 1) uleb_read (DerefType false) (at_either (typed_operations (g.R.Reader.reading c.args.input.now).is_big c.args.encoding) c.args.opcode.0 166 246 _ refl refl (λ n. omega arith)) _ _ c.in_err-read_u8-in-DW_OP_deref_type.ensures.err.reason)

pub returns-in_err-read_uleb128-in-DW_OP_deref_type-clause-err : goal.returns-in_err-read_uleb128-in-DW_OP_deref_type-clause-err
unfolding typed_operations
returns-in_err-read_uleb128-in-DW_OP_deref_type-clause-err g c =
    let p = err_from_is_err_and c.from_residual-in_err-read_uleb128-in-DW_OP_deref_type.result c.from_residual-in_err-read_uleb128-in-DW_OP_deref_type.ensures.1 in
    rw (p.1, p.2) (two_second (typed_operations (g.R.Reader.reading c.args.input.now).is_big c.args.encoding c.args.opcode.0) ℕ ℕ (number_read (g.R.Reader.reading c.args.input.now).is_big 1) uleb_read (DerefType false) (at_either (typed_operations (g.R.Reader.reading c.args.input.now).is_big c.args.encoding) c.args.opcode.0 166 246 _ refl refl (λ n. omega arith)) _ _ _ _ (took_of ℕ (number_at (g.R.Reader.reading c.args.input.now).is_big 1) (number_read (g.R.Reader.reading c.args.input.now).is_big 1) _ _ _ (number_law (g.R.Reader.reading c.args.input.now).is_big 1) c.in_ok-read_u8-in-DW_OP_deref_type.ensures.ok) c.in_err-read_uleb128-in-DW_OP_deref_type.ensures.err.reason)

pub returns-in_ok-read_uleb128-in-DW_OP_deref_type-clause-ok : goal.returns-in_ok-read_uleb128-in-DW_OP_deref_type-clause-ok
unfolding typed_operations
returns-in_ok-read_uleb128-in-DW_OP_deref_type-clause-ok g c =
    two_ok (typed_operations (g.R.Reader.reading c.args.input.now).is_big c.args.encoding c.args.opcode.0) ℕ ℕ (number_read (g.R.Reader.reading c.args.input.now).is_big 1) uleb_read (DerefType false) (at_either (typed_operations (g.R.Reader.reading c.args.input.now).is_big c.args.encoding) c.args.opcode.0 166 246 _ refl refl (λ n. omega arith)) _ _ _ _ _ (took_of ℕ (number_at (g.R.Reader.reading c.args.input.now).is_big 1) (number_read (g.R.Reader.reading c.args.input.now).is_big 1) _ _ _ (number_law (g.R.Reader.reading c.args.input.now).is_big 1) c.in_ok-read_u8-in-DW_OP_deref_type.ensures.ok) (took_of ℕ uleb_at uleb_read _ _ _ uleb_law c.in_ok-read_uleb128-in-DW_OP_deref_type.ensures.ok)

pub returns-in_err-read_u8-in-DW_OP_xderef_type-clause-err : goal.returns-in_err-read_u8-in-DW_OP_xderef_type-clause-err
unfolding typed_operations
returns-in_err-read_u8-in-DW_OP_xderef_type-clause-err g c =
    let p = err_from_is_err_and c.from_residual.result c.from_residual.ensures.1 in
    rw (p.1, p.2) (two_first (typed_operations (g.R.Reader.reading c.args.input.now).is_big c.args.encoding c.args.opcode.0) ℕ ℕ (number_read (g.R.Reader.reading c.args.input.now).is_big 1) uleb_read (DerefType true) (at_row (typed_operations (g.R.Reader.reading c.args.input.now).is_big c.args.encoding) c.args.opcode.0 167 _ refl (omega arith)) _ _ c.in_err-read_u8-in-DW_OP_xderef_type.ensures.err.reason)

pub returns-in_err-read_uleb128-in-DW_OP_xderef_type-clause-err : goal.returns-in_err-read_uleb128-in-DW_OP_xderef_type-clause-err
unfolding typed_operations
returns-in_err-read_uleb128-in-DW_OP_xderef_type-clause-err g c =
    let p = err_from_is_err_and c.from_residual-in_err-read_uleb128-in-DW_OP_xderef_type.result c.from_residual-in_err-read_uleb128-in-DW_OP_xderef_type.ensures.1 in
    rw (p.1, p.2) (two_second (typed_operations (g.R.Reader.reading c.args.input.now).is_big c.args.encoding c.args.opcode.0) ℕ ℕ (number_read (g.R.Reader.reading c.args.input.now).is_big 1) uleb_read (DerefType true) (at_row (typed_operations (g.R.Reader.reading c.args.input.now).is_big c.args.encoding) c.args.opcode.0 167 _ refl (omega arith)) _ _ _ _ (took_of ℕ (number_at (g.R.Reader.reading c.args.input.now).is_big 1) (number_read (g.R.Reader.reading c.args.input.now).is_big 1) _ _ _ (number_law (g.R.Reader.reading c.args.input.now).is_big 1) c.in_ok-read_u8-in-DW_OP_xderef_type.ensures.ok) c.in_err-read_uleb128-in-DW_OP_xderef_type.ensures.err.reason)

pub returns-in_ok-read_uleb128-in-DW_OP_xderef_type-clause-ok : goal.returns-in_ok-read_uleb128-in-DW_OP_xderef_type-clause-ok
unfolding typed_operations
returns-in_ok-read_uleb128-in-DW_OP_xderef_type-clause-ok g c =
    two_ok (typed_operations (g.R.Reader.reading c.args.input.now).is_big c.args.encoding c.args.opcode.0) ℕ ℕ (number_read (g.R.Reader.reading c.args.input.now).is_big 1) uleb_read (DerefType true) (at_row (typed_operations (g.R.Reader.reading c.args.input.now).is_big c.args.encoding) c.args.opcode.0 167 _ refl (omega arith)) _ _ _ _ _ (took_of ℕ (number_at (g.R.Reader.reading c.args.input.now).is_big 1) (number_read (g.R.Reader.reading c.args.input.now).is_big 1) _ _ _ (number_law (g.R.Reader.reading c.args.input.now).is_big 1) c.in_ok-read_u8-in-DW_OP_xderef_type.ensures.ok) (took_of ℕ uleb_at uleb_read _ _ _ uleb_law c.in_ok-read_uleb128-in-DW_OP_xderef_type.ensures.ok)

pub returns-in_err-read_base-in-DW_OP_convert-clause-err : goal.returns-in_err-read_base-in-DW_OP_convert-clause-err
unfolding typed_operations
returns-in_err-read_base-in-DW_OP_convert-clause-err g c =
    let p = err_from_is_err_and c.from_residual-in_err-read_base-in-DW_OP_convert.result c.from_residual-in_err-read_base-in-DW_OP_convert.ensures.1 in
    rw (p.1, p.2) (one_err (typed_operations (g.R.Reader.reading c.args.input.now).is_big c.args.encoding c.args.opcode.0) (Option ℕ) base_read Convert (at_either (typed_operations (g.R.Reader.reading c.args.input.now).is_big c.args.encoding) c.args.opcode.0 168 247 _ refl refl (λ n. omega arith)) _ _ c.in_err-read_base-in-DW_OP_convert.ensures.err)

pub returns-in_ok-read_base-in-DW_OP_convert-clause-ok : goal.returns-in_ok-read_base-in-DW_OP_convert-clause-ok
unfolding typed_operations
returns-in_ok-read_base-in-DW_OP_convert-clause-ok g c =
    one_ok (typed_operations (g.R.Reader.reading c.args.input.now).is_big c.args.encoding c.args.opcode.0) (Option ℕ) base_read Convert (at_either (typed_operations (g.R.Reader.reading c.args.input.now).is_big c.args.encoding) c.args.opcode.0 168 247 _ refl refl (λ n. omega arith)) _ _ _ c.in_ok-read_base-in-DW_OP_convert.ensures.ok

pub returns-in_err-read_base-in-DW_OP_reinterpret-clause-err : goal.returns-in_err-read_base-in-DW_OP_reinterpret-clause-err
unfolding typed_operations
returns-in_err-read_base-in-DW_OP_reinterpret-clause-err g c =
    let p = err_from_is_err_and c.from_residual-in_err-read_base-in-DW_OP_reinterpret.result c.from_residual-in_err-read_base-in-DW_OP_reinterpret.ensures.1 in
    rw (p.1, p.2) (one_err (typed_operations (g.R.Reader.reading c.args.input.now).is_big c.args.encoding c.args.opcode.0) (Option ℕ) base_read Reinterpret (at_either (typed_operations (g.R.Reader.reading c.args.input.now).is_big c.args.encoding) c.args.opcode.0 169 249 _ refl refl (λ n. omega arith)) _ _ c.in_err-read_base-in-DW_OP_reinterpret.ensures.err)

pub returns-in_ok-read_base-in-DW_OP_reinterpret-clause-ok : goal.returns-in_ok-read_base-in-DW_OP_reinterpret-clause-ok
unfolding typed_operations
returns-in_ok-read_base-in-DW_OP_reinterpret-clause-ok g c =
    one_ok (typed_operations (g.R.Reader.reading c.args.input.now).is_big c.args.encoding c.args.opcode.0) (Option ℕ) base_read Reinterpret (at_either (typed_operations (g.R.Reader.reading c.args.input.now).is_big c.args.encoding) c.args.opcode.0 169 249 _ refl refl (λ n. omega arith)) _ _ _ c.in_ok-read_base-in-DW_OP_reinterpret.ensures.ok

pub returns-in_default-clause-ok : goal.returns-in_default-clause-ok
unfolding typed_operations
returns-in_default-clause-ok g c =
    no_row (typed_operations (g.R.Reader.reading c.args.input.now).is_big c.args.encoding c.args.opcode.0) _ (g.met.R.Reader.is_reading c.args.input.now) (rw (ne_eqb c.args.opcode.0 164 (omega arith), ne_eqb c.args.opcode.0 244 (omega arith), ne_eqb c.args.opcode.0 165 (omega arith), ne_eqb c.args.opcode.0 245 (omega arith), ne_eqb c.args.opcode.0 166 (omega arith), ne_eqb c.args.opcode.0 246 (omega arith), ne_eqb c.args.opcode.0 167 (omega arith), ne_eqb c.args.opcode.0 168 (omega arith), ne_eqb c.args.opcode.0 247 (omega arith), ne_eqb c.args.opcode.0 169 (omega arith), ne_eqb c.args.opcode.0 249 (omega arith)) refl)

pub returns-in_err-read_uleb128-in-DW_OP_const_type-clause-ok : goal.returns-in_err-read_uleb128-in-DW_OP_const_type-clause-ok
returns-in_err-read_uleb128-in-DW_OP_const_type-clause-ok g c = rw (err_from_is_err_and c.from_residual-in_err-read_uleb128-in-DW_OP_const_type.result c.from_residual-in_err-read_uleb128-in-DW_OP_const_type.ensures.1).1 tt

pub returns-in_err-read_uleb128-in-DW_OP_const_type-clause-parts : goal.returns-in_err-read_uleb128-in-DW_OP_const_type-clause-parts
returns-in_err-read_uleb128-in-DW_OP_const_type-clause-parts g c = rw (err_from_is_err_and c.from_residual-in_err-read_uleb128-in-DW_OP_const_type.result c.from_residual-in_err-read_uleb128-in-DW_OP_const_type.ensures.1).1 tt

pub returns-in_err-read_short_block-in-DW_OP_const_type-clause-ok : goal.returns-in_err-read_short_block-in-DW_OP_const_type-clause-ok
returns-in_err-read_short_block-in-DW_OP_const_type-clause-ok g c = rw (err_from_is_err_and c.from_residual-in_err-read_short_block-in-DW_OP_const_type.result c.from_residual-in_err-read_short_block-in-DW_OP_const_type.ensures.1).1 tt

pub returns-in_err-read_short_block-in-DW_OP_const_type-clause-parts : goal.returns-in_err-read_short_block-in-DW_OP_const_type-clause-parts
returns-in_err-read_short_block-in-DW_OP_const_type-clause-parts g c = rw (err_from_is_err_and c.from_residual-in_err-read_short_block-in-DW_OP_const_type.result c.from_residual-in_err-read_short_block-in-DW_OP_const_type.ensures.1).1 tt

pub returns-in_ok-read_short_block-in-DW_OP_const_type-clause-err : goal.returns-in_ok-read_short_block-in-DW_OP_const_type-clause-err
returns-in_ok-read_short_block-in-DW_OP_const_type-clause-err g c = tt

pub returns-in_err-read_register-in-DW_OP_regval_type-clause-ok : goal.returns-in_err-read_register-in-DW_OP_regval_type-clause-ok
returns-in_err-read_register-in-DW_OP_regval_type-clause-ok g c = rw (err_from_is_err_and c.from_residual-in_err-read_register-in-DW_OP_regval_type.result c.from_residual-in_err-read_register-in-DW_OP_regval_type.ensures.1).1 tt

pub returns-in_err-read_register-in-DW_OP_regval_type-clause-parts : goal.returns-in_err-read_register-in-DW_OP_regval_type-clause-parts
returns-in_err-read_register-in-DW_OP_regval_type-clause-parts g c = rw (err_from_is_err_and c.from_residual-in_err-read_register-in-DW_OP_regval_type.result c.from_residual-in_err-read_register-in-DW_OP_regval_type.ensures.1).1 tt

pub returns-in_err-read_uleb128-in-DW_OP_regval_type-clause-ok : goal.returns-in_err-read_uleb128-in-DW_OP_regval_type-clause-ok
returns-in_err-read_uleb128-in-DW_OP_regval_type-clause-ok g c = rw (err_from_is_err_and c.from_residual-in_err-read_uleb128-in-DW_OP_regval_type.result c.from_residual-in_err-read_uleb128-in-DW_OP_regval_type.ensures.1).1 tt

pub returns-in_err-read_uleb128-in-DW_OP_regval_type-clause-parts : goal.returns-in_err-read_uleb128-in-DW_OP_regval_type-clause-parts
returns-in_err-read_uleb128-in-DW_OP_regval_type-clause-parts g c = rw (err_from_is_err_and c.from_residual-in_err-read_uleb128-in-DW_OP_regval_type.result c.from_residual-in_err-read_uleb128-in-DW_OP_regval_type.ensures.1).1 tt

pub returns-in_ok-read_uleb128-in-DW_OP_regval_type-clause-err : goal.returns-in_ok-read_uleb128-in-DW_OP_regval_type-clause-err
returns-in_ok-read_uleb128-in-DW_OP_regval_type-clause-err g c = tt

pub returns-in_err-read_u8-in-DW_OP_deref_type-clause-ok : goal.returns-in_err-read_u8-in-DW_OP_deref_type-clause-ok
returns-in_err-read_u8-in-DW_OP_deref_type-clause-ok g c = rw (err_from_is_err_and c.from_residual-in_err-read_u8-in-DW_OP_deref_type.result c.from_residual-in_err-read_u8-in-DW_OP_deref_type.ensures.1).1 tt

pub returns-in_err-read_u8-in-DW_OP_deref_type-clause-parts : goal.returns-in_err-read_u8-in-DW_OP_deref_type-clause-parts
returns-in_err-read_u8-in-DW_OP_deref_type-clause-parts g c = rw (err_from_is_err_and c.from_residual-in_err-read_u8-in-DW_OP_deref_type.result c.from_residual-in_err-read_u8-in-DW_OP_deref_type.ensures.1).1 tt

pub returns-in_err-read_uleb128-in-DW_OP_deref_type-clause-ok : goal.returns-in_err-read_uleb128-in-DW_OP_deref_type-clause-ok
returns-in_err-read_uleb128-in-DW_OP_deref_type-clause-ok g c = rw (err_from_is_err_and c.from_residual-in_err-read_uleb128-in-DW_OP_deref_type.result c.from_residual-in_err-read_uleb128-in-DW_OP_deref_type.ensures.1).1 tt

pub returns-in_err-read_uleb128-in-DW_OP_deref_type-clause-parts : goal.returns-in_err-read_uleb128-in-DW_OP_deref_type-clause-parts
returns-in_err-read_uleb128-in-DW_OP_deref_type-clause-parts g c = rw (err_from_is_err_and c.from_residual-in_err-read_uleb128-in-DW_OP_deref_type.result c.from_residual-in_err-read_uleb128-in-DW_OP_deref_type.ensures.1).1 tt

pub returns-in_ok-read_uleb128-in-DW_OP_deref_type-clause-err : goal.returns-in_ok-read_uleb128-in-DW_OP_deref_type-clause-err
returns-in_ok-read_uleb128-in-DW_OP_deref_type-clause-err g c = tt

pub returns-in_err-read_u8-in-DW_OP_xderef_type-clause-ok : goal.returns-in_err-read_u8-in-DW_OP_xderef_type-clause-ok
returns-in_err-read_u8-in-DW_OP_xderef_type-clause-ok g c = rw (err_from_is_err_and c.from_residual.result c.from_residual.ensures.1).1 tt

pub returns-in_err-read_u8-in-DW_OP_xderef_type-clause-parts : goal.returns-in_err-read_u8-in-DW_OP_xderef_type-clause-parts
returns-in_err-read_u8-in-DW_OP_xderef_type-clause-parts g c = rw (err_from_is_err_and c.from_residual.result c.from_residual.ensures.1).1 tt

pub returns-in_err-read_uleb128-in-DW_OP_xderef_type-clause-ok : goal.returns-in_err-read_uleb128-in-DW_OP_xderef_type-clause-ok
returns-in_err-read_uleb128-in-DW_OP_xderef_type-clause-ok g c = rw (err_from_is_err_and c.from_residual-in_err-read_uleb128-in-DW_OP_xderef_type.result c.from_residual-in_err-read_uleb128-in-DW_OP_xderef_type.ensures.1).1 tt

pub returns-in_err-read_uleb128-in-DW_OP_xderef_type-clause-parts : goal.returns-in_err-read_uleb128-in-DW_OP_xderef_type-clause-parts
returns-in_err-read_uleb128-in-DW_OP_xderef_type-clause-parts g c = rw (err_from_is_err_and c.from_residual-in_err-read_uleb128-in-DW_OP_xderef_type.result c.from_residual-in_err-read_uleb128-in-DW_OP_xderef_type.ensures.1).1 tt

pub returns-in_ok-read_uleb128-in-DW_OP_xderef_type-clause-err : goal.returns-in_ok-read_uleb128-in-DW_OP_xderef_type-clause-err
returns-in_ok-read_uleb128-in-DW_OP_xderef_type-clause-err g c = tt

pub returns-in_err-read_base-in-DW_OP_convert-clause-ok : goal.returns-in_err-read_base-in-DW_OP_convert-clause-ok
returns-in_err-read_base-in-DW_OP_convert-clause-ok g c = rw (err_from_is_err_and c.from_residual-in_err-read_base-in-DW_OP_convert.result c.from_residual-in_err-read_base-in-DW_OP_convert.ensures.1).1 tt

pub returns-in_err-read_base-in-DW_OP_convert-clause-parts : goal.returns-in_err-read_base-in-DW_OP_convert-clause-parts
returns-in_err-read_base-in-DW_OP_convert-clause-parts g c = rw (err_from_is_err_and c.from_residual-in_err-read_base-in-DW_OP_convert.result c.from_residual-in_err-read_base-in-DW_OP_convert.ensures.1).1 tt

pub returns-in_ok-read_base-in-DW_OP_convert-clause-err : goal.returns-in_ok-read_base-in-DW_OP_convert-clause-err
returns-in_ok-read_base-in-DW_OP_convert-clause-err g c = tt

pub returns-in_err-read_base-in-DW_OP_reinterpret-clause-ok : goal.returns-in_err-read_base-in-DW_OP_reinterpret-clause-ok
returns-in_err-read_base-in-DW_OP_reinterpret-clause-ok g c = rw (err_from_is_err_and c.from_residual-in_err-read_base-in-DW_OP_reinterpret.result c.from_residual-in_err-read_base-in-DW_OP_reinterpret.ensures.1).1 tt

pub returns-in_err-read_base-in-DW_OP_reinterpret-clause-parts : goal.returns-in_err-read_base-in-DW_OP_reinterpret-clause-parts
returns-in_err-read_base-in-DW_OP_reinterpret-clause-parts g c = rw (err_from_is_err_and c.from_residual-in_err-read_base-in-DW_OP_reinterpret.result c.from_residual-in_err-read_base-in-DW_OP_reinterpret.ensures.1).1 tt

pub returns-in_ok-read_base-in-DW_OP_reinterpret-clause-err : goal.returns-in_ok-read_base-in-DW_OP_reinterpret-clause-err
returns-in_ok-read_base-in-DW_OP_reinterpret-clause-err g c = tt

pub returns-in_default-clause-err : goal.returns-in_default-clause-err
returns-in_default-clause-err g c = tt
