use Rattle.std.proofs.Common.{ℕ, ℤ, true, false, refl, arith, rules}
use Rattle.std.proofs.lemmas.Result.{err_from_is_err_and}
use Rattle.std.proofs.lemmas.Bool.{ne_eqb}
use Rattle.std.proofs.lemmas.Int.{to_z-of_z}
use mir.Val.{SFits}
use mir.Syntax.{w16}
use Rattle.dw_base.specs.Numbers.{number_at}
use Rattle.dw_base.specs.Leb128.{uleb_at}
use Rattle.dw_read.specs.Reasons.{number_read, uleb_read}
use Rattle.dw_read.proofs.Laws.{number_law, uleb_law}
use Rattle.dw_read.proofs.Chain.{took_of}
use Rattle.dw_sources.specs.Operations.{Pick, DerefSize, PlusConstant, Skip, Branch}
use Rattle.dw_sources.specs.Operands.{signed_read}
use Rattle.dw_sources.specs.OperationTable.{stack_operations}
use Rattle.dw_sources.proofs.TableLaws.{no_row, at_row, one_ok, one_err}
use Rattle.dw_sources.proofs.stack.read_on_stack.Goals as goal

pub returns-in_err-read_u8-in-DW_OP_pick-clause-err : goal.returns-in_err-read_u8-in-DW_OP_pick-clause-err
unfolding stack_operations
returns-in_err-read_u8-in-DW_OP_pick-clause-err g c =
    let p = err_from_is_err_and c.from_residual.result c.from_residual.ensures.1 in
    rw (p.1, p.2) (one_err (stack_operations (g.R.Reader.reading c.args.input.now).is_big c.args.encoding c.args.opcode.0) ℕ (number_read (g.R.Reader.reading c.args.input.now).is_big 1) Pick (at_row (stack_operations (g.R.Reader.reading c.args.input.now).is_big c.args.encoding) c.args.opcode.0 21 _ refl (omega arith)) _ _ c.in_err-read_u8-in-DW_OP_pick.ensures.err.reason)

pub returns-in_ok-read_u8-in-DW_OP_pick-clause-ok : goal.returns-in_ok-read_u8-in-DW_OP_pick-clause-ok
unfolding stack_operations
returns-in_ok-read_u8-in-DW_OP_pick-clause-ok g c =
    one_ok (stack_operations (g.R.Reader.reading c.args.input.now).is_big c.args.encoding c.args.opcode.0) ℕ (number_read (g.R.Reader.reading c.args.input.now).is_big 1) Pick (at_row (stack_operations (g.R.Reader.reading c.args.input.now).is_big c.args.encoding) c.args.opcode.0 21 _ refl (omega arith)) _ _ _ (took_of ℕ (number_at (g.R.Reader.reading c.args.input.now).is_big 1) (number_read (g.R.Reader.reading c.args.input.now).is_big 1) _ _ _ (number_law (g.R.Reader.reading c.args.input.now).is_big 1) c.in_ok-read_u8-in-DW_OP_pick.ensures.ok)

pub returns-in_err-read_u8-in-DW_OP_deref_size-clause-err : goal.returns-in_err-read_u8-in-DW_OP_deref_size-clause-err
unfolding stack_operations
returns-in_err-read_u8-in-DW_OP_deref_size-clause-err g c =
    let p = err_from_is_err_and c.from_residual-in_err-read_u8-in-DW_OP_deref_size.result c.from_residual-in_err-read_u8-in-DW_OP_deref_size.ensures.1 in
    rw (p.1, p.2) (one_err (stack_operations (g.R.Reader.reading c.args.input.now).is_big c.args.encoding c.args.opcode.0) ℕ (number_read (g.R.Reader.reading c.args.input.now).is_big 1) (DerefSize false) (at_row (stack_operations (g.R.Reader.reading c.args.input.now).is_big c.args.encoding) c.args.opcode.0 148 _ refl (omega arith)) _ _ c.in_err-read_u8-in-DW_OP_deref_size.ensures.err.reason)

pub returns-in_ok-read_u8-in-DW_OP_deref_size-clause-ok : goal.returns-in_ok-read_u8-in-DW_OP_deref_size-clause-ok
unfolding stack_operations
returns-in_ok-read_u8-in-DW_OP_deref_size-clause-ok g c =
    one_ok (stack_operations (g.R.Reader.reading c.args.input.now).is_big c.args.encoding c.args.opcode.0) ℕ (number_read (g.R.Reader.reading c.args.input.now).is_big 1) (DerefSize false) (at_row (stack_operations (g.R.Reader.reading c.args.input.now).is_big c.args.encoding) c.args.opcode.0 148 _ refl (omega arith)) _ _ _ (took_of ℕ (number_at (g.R.Reader.reading c.args.input.now).is_big 1) (number_read (g.R.Reader.reading c.args.input.now).is_big 1) _ _ _ (number_law (g.R.Reader.reading c.args.input.now).is_big 1) c.in_ok-read_u8-in-DW_OP_deref_size.ensures.ok)

pub returns-in_err-read_u8-in-DW_OP_xderef_size-clause-err : goal.returns-in_err-read_u8-in-DW_OP_xderef_size-clause-err
unfolding stack_operations
returns-in_err-read_u8-in-DW_OP_xderef_size-clause-err g c =
    let p = err_from_is_err_and c.from_residual-in_err-read_u8-in-DW_OP_xderef_size.result c.from_residual-in_err-read_u8-in-DW_OP_xderef_size.ensures.1 in
    rw (p.1, p.2) (one_err (stack_operations (g.R.Reader.reading c.args.input.now).is_big c.args.encoding c.args.opcode.0) ℕ (number_read (g.R.Reader.reading c.args.input.now).is_big 1) (DerefSize true) (at_row (stack_operations (g.R.Reader.reading c.args.input.now).is_big c.args.encoding) c.args.opcode.0 149 _ refl (omega arith)) _ _ c.in_err-read_u8-in-DW_OP_xderef_size.ensures.err.reason)

pub returns-in_ok-read_u8-in-DW_OP_xderef_size-clause-ok : goal.returns-in_ok-read_u8-in-DW_OP_xderef_size-clause-ok
unfolding stack_operations
returns-in_ok-read_u8-in-DW_OP_xderef_size-clause-ok g c =
    one_ok (stack_operations (g.R.Reader.reading c.args.input.now).is_big c.args.encoding c.args.opcode.0) ℕ (number_read (g.R.Reader.reading c.args.input.now).is_big 1) (DerefSize true) (at_row (stack_operations (g.R.Reader.reading c.args.input.now).is_big c.args.encoding) c.args.opcode.0 149 _ refl (omega arith)) _ _ _ (took_of ℕ (number_at (g.R.Reader.reading c.args.input.now).is_big 1) (number_read (g.R.Reader.reading c.args.input.now).is_big 1) _ _ _ (number_law (g.R.Reader.reading c.args.input.now).is_big 1) c.in_ok-read_u8-in-DW_OP_xderef_size.ensures.ok)

pub returns-in_err-read_uleb128-in-DW_OP_plus_uconst-clause-err : goal.returns-in_err-read_uleb128-in-DW_OP_plus_uconst-clause-err
unfolding stack_operations
returns-in_err-read_uleb128-in-DW_OP_plus_uconst-clause-err g c =
    let p = err_from_is_err_and c.from_residual-in_err-read_uleb128-in-DW_OP_plus_uconst.result c.from_residual-in_err-read_uleb128-in-DW_OP_plus_uconst.ensures.1 in
    rw (p.1, p.2) (one_err (stack_operations (g.R.Reader.reading c.args.input.now).is_big c.args.encoding c.args.opcode.0) ℕ uleb_read PlusConstant (at_row (stack_operations (g.R.Reader.reading c.args.input.now).is_big c.args.encoding) c.args.opcode.0 35 _ refl (omega arith)) _ _ c.in_err-read_uleb128-in-DW_OP_plus_uconst.ensures.err.reason)

pub returns-in_ok-read_uleb128-in-DW_OP_plus_uconst-clause-ok : goal.returns-in_ok-read_uleb128-in-DW_OP_plus_uconst-clause-ok
unfolding stack_operations
returns-in_ok-read_uleb128-in-DW_OP_plus_uconst-clause-ok g c =
    one_ok (stack_operations (g.R.Reader.reading c.args.input.now).is_big c.args.encoding c.args.opcode.0) ℕ uleb_read PlusConstant (at_row (stack_operations (g.R.Reader.reading c.args.input.now).is_big c.args.encoding) c.args.opcode.0 35 _ refl (omega arith)) _ _ _ (took_of ℕ uleb_at uleb_read _ _ _ uleb_law c.in_ok-read_uleb128-in-DW_OP_plus_uconst.ensures.ok)

pub returns-in_err-read_i16-in-DW_OP_bra-clause-err : goal.returns-in_err-read_i16-in-DW_OP_bra-clause-err
unfolding stack_operations
returns-in_err-read_i16-in-DW_OP_bra-clause-err g c =
    let p = err_from_is_err_and c.from_residual-in_err-read_i16-in-DW_OP_bra.result c.from_residual-in_err-read_i16-in-DW_OP_bra.ensures.1 in
    rw (p.1, p.2) (one_err (stack_operations (g.R.Reader.reading c.args.input.now).is_big c.args.encoding c.args.opcode.0) ℤ (signed_read (g.R.Reader.reading c.args.input.now).is_big 2) Branch (at_row (stack_operations (g.R.Reader.reading c.args.input.now).is_big c.args.encoding) c.args.opcode.0 40 _ refl (omega arith)) _ _ c.in_err-read_i16-in-DW_OP_bra.ensures.err)

pub returns-in_ok-read_i16-in-DW_OP_bra-clause-ok : goal.returns-in_ok-read_i16-in-DW_OP_bra-clause-ok
unfolding stack_operations
returns-in_ok-read_i16-in-DW_OP_bra-clause-ok g c =
    let fits : SFits w16 c.in_ok-read_i16-in-DW_OP_bra.field-0 = search rules in
    rw (to_z-of_z w16 c.in_ok-read_i16-in-DW_OP_bra.field-0 fits) (one_ok (stack_operations (g.R.Reader.reading c.args.input.now).is_big c.args.encoding c.args.opcode.0) ℤ (signed_read (g.R.Reader.reading c.args.input.now).is_big 2) Branch (at_row (stack_operations (g.R.Reader.reading c.args.input.now).is_big c.args.encoding) c.args.opcode.0 40 _ refl (omega arith)) _ _ _ c.in_ok-read_i16-in-DW_OP_bra.ensures.ok)

pub returns-in_err-read_i16-in-DW_OP_skip-clause-err : goal.returns-in_err-read_i16-in-DW_OP_skip-clause-err
unfolding stack_operations
returns-in_err-read_i16-in-DW_OP_skip-clause-err g c =
    let p = err_from_is_err_and c.from_residual-in_err-read_i16-in-DW_OP_skip.result c.from_residual-in_err-read_i16-in-DW_OP_skip.ensures.1 in
    rw (p.1, p.2) (one_err (stack_operations (g.R.Reader.reading c.args.input.now).is_big c.args.encoding c.args.opcode.0) ℤ (signed_read (g.R.Reader.reading c.args.input.now).is_big 2) Skip (at_row (stack_operations (g.R.Reader.reading c.args.input.now).is_big c.args.encoding) c.args.opcode.0 47 _ refl (omega arith)) _ _ c.in_err-read_i16-in-DW_OP_skip.ensures.err)

pub returns-in_ok-read_i16-in-DW_OP_skip-clause-ok : goal.returns-in_ok-read_i16-in-DW_OP_skip-clause-ok
unfolding stack_operations
returns-in_ok-read_i16-in-DW_OP_skip-clause-ok g c =
    let fits : SFits w16 c.in_ok-read_i16-in-DW_OP_skip.field-0 = search rules in
    rw (to_z-of_z w16 c.in_ok-read_i16-in-DW_OP_skip.field-0 fits) (one_ok (stack_operations (g.R.Reader.reading c.args.input.now).is_big c.args.encoding c.args.opcode.0) ℤ (signed_read (g.R.Reader.reading c.args.input.now).is_big 2) Skip (at_row (stack_operations (g.R.Reader.reading c.args.input.now).is_big c.args.encoding) c.args.opcode.0 47 _ refl (omega arith)) _ _ _ c.in_ok-read_i16-in-DW_OP_skip.ensures.ok)

pub returns-in_default-clause-ok : goal.returns-in_default-clause-ok
unfolding stack_operations
returns-in_default-clause-ok g c =
    no_row (stack_operations (g.R.Reader.reading c.args.input.now).is_big c.args.encoding c.args.opcode.0) _ (g.met.R.Reader.is_reading c.args.input.now) (rw (ne_eqb c.args.opcode.0 21 (omega arith), ne_eqb c.args.opcode.0 148 (omega arith), ne_eqb c.args.opcode.0 149 (omega arith), ne_eqb c.args.opcode.0 35 (omega arith), ne_eqb c.args.opcode.0 40 (omega arith), ne_eqb c.args.opcode.0 47 (omega arith)) refl)

pub returns-in_err-read_u8-in-DW_OP_pick-clause-ok : goal.returns-in_err-read_u8-in-DW_OP_pick-clause-ok
returns-in_err-read_u8-in-DW_OP_pick-clause-ok g c = rw (err_from_is_err_and c.from_residual.result c.from_residual.ensures.1).1 tt

pub returns-in_err-read_u8-in-DW_OP_pick-clause-parts : goal.returns-in_err-read_u8-in-DW_OP_pick-clause-parts
returns-in_err-read_u8-in-DW_OP_pick-clause-parts g c = rw (err_from_is_err_and c.from_residual.result c.from_residual.ensures.1).1 tt

pub returns-in_ok-read_u8-in-DW_OP_pick-clause-err : goal.returns-in_ok-read_u8-in-DW_OP_pick-clause-err
returns-in_ok-read_u8-in-DW_OP_pick-clause-err g c = tt

pub returns-in_err-read_u8-in-DW_OP_deref_size-clause-ok : goal.returns-in_err-read_u8-in-DW_OP_deref_size-clause-ok
returns-in_err-read_u8-in-DW_OP_deref_size-clause-ok g c = rw (err_from_is_err_and c.from_residual-in_err-read_u8-in-DW_OP_deref_size.result c.from_residual-in_err-read_u8-in-DW_OP_deref_size.ensures.1).1 tt

pub returns-in_err-read_u8-in-DW_OP_deref_size-clause-parts : goal.returns-in_err-read_u8-in-DW_OP_deref_size-clause-parts
returns-in_err-read_u8-in-DW_OP_deref_size-clause-parts g c = rw (err_from_is_err_and c.from_residual-in_err-read_u8-in-DW_OP_deref_size.result c.from_residual-in_err-read_u8-in-DW_OP_deref_size.ensures.1).1 tt

pub returns-in_ok-read_u8-in-DW_OP_deref_size-clause-err : goal.returns-in_ok-read_u8-in-DW_OP_deref_size-clause-err
returns-in_ok-read_u8-in-DW_OP_deref_size-clause-err g c = tt

pub returns-in_err-read_u8-in-DW_OP_xderef_size-clause-ok : goal.returns-in_err-read_u8-in-DW_OP_xderef_size-clause-ok
returns-in_err-read_u8-in-DW_OP_xderef_size-clause-ok g c = rw (err_from_is_err_and c.from_residual-in_err-read_u8-in-DW_OP_xderef_size.result c.from_residual-in_err-read_u8-in-DW_OP_xderef_size.ensures.1).1 tt

pub returns-in_err-read_u8-in-DW_OP_xderef_size-clause-parts : goal.returns-in_err-read_u8-in-DW_OP_xderef_size-clause-parts
returns-in_err-read_u8-in-DW_OP_xderef_size-clause-parts g c = rw (err_from_is_err_and c.from_residual-in_err-read_u8-in-DW_OP_xderef_size.result c.from_residual-in_err-read_u8-in-DW_OP_xderef_size.ensures.1).1 tt

pub returns-in_ok-read_u8-in-DW_OP_xderef_size-clause-err : goal.returns-in_ok-read_u8-in-DW_OP_xderef_size-clause-err
returns-in_ok-read_u8-in-DW_OP_xderef_size-clause-err g c = tt

pub returns-in_err-read_uleb128-in-DW_OP_plus_uconst-clause-ok : goal.returns-in_err-read_uleb128-in-DW_OP_plus_uconst-clause-ok
returns-in_err-read_uleb128-in-DW_OP_plus_uconst-clause-ok g c = rw (err_from_is_err_and c.from_residual-in_err-read_uleb128-in-DW_OP_plus_uconst.result c.from_residual-in_err-read_uleb128-in-DW_OP_plus_uconst.ensures.1).1 tt

pub returns-in_err-read_uleb128-in-DW_OP_plus_uconst-clause-parts : goal.returns-in_err-read_uleb128-in-DW_OP_plus_uconst-clause-parts
returns-in_err-read_uleb128-in-DW_OP_plus_uconst-clause-parts g c = rw (err_from_is_err_and c.from_residual-in_err-read_uleb128-in-DW_OP_plus_uconst.result c.from_residual-in_err-read_uleb128-in-DW_OP_plus_uconst.ensures.1).1 tt

pub returns-in_ok-read_uleb128-in-DW_OP_plus_uconst-clause-err : goal.returns-in_ok-read_uleb128-in-DW_OP_plus_uconst-clause-err
returns-in_ok-read_uleb128-in-DW_OP_plus_uconst-clause-err g c = tt

pub returns-in_err-read_i16-in-DW_OP_bra-clause-ok : goal.returns-in_err-read_i16-in-DW_OP_bra-clause-ok
returns-in_err-read_i16-in-DW_OP_bra-clause-ok g c = rw (err_from_is_err_and c.from_residual-in_err-read_i16-in-DW_OP_bra.result c.from_residual-in_err-read_i16-in-DW_OP_bra.ensures.1).1 tt

pub returns-in_err-read_i16-in-DW_OP_bra-clause-parts : goal.returns-in_err-read_i16-in-DW_OP_bra-clause-parts
returns-in_err-read_i16-in-DW_OP_bra-clause-parts g c = rw (err_from_is_err_and c.from_residual-in_err-read_i16-in-DW_OP_bra.result c.from_residual-in_err-read_i16-in-DW_OP_bra.ensures.1).1 tt

pub returns-in_ok-read_i16-in-DW_OP_bra-clause-err : goal.returns-in_ok-read_i16-in-DW_OP_bra-clause-err
returns-in_ok-read_i16-in-DW_OP_bra-clause-err g c = tt

pub returns-in_err-read_i16-in-DW_OP_skip-clause-ok : goal.returns-in_err-read_i16-in-DW_OP_skip-clause-ok
returns-in_err-read_i16-in-DW_OP_skip-clause-ok g c = rw (err_from_is_err_and c.from_residual-in_err-read_i16-in-DW_OP_skip.result c.from_residual-in_err-read_i16-in-DW_OP_skip.ensures.1).1 tt

pub returns-in_err-read_i16-in-DW_OP_skip-clause-parts : goal.returns-in_err-read_i16-in-DW_OP_skip-clause-parts
returns-in_err-read_i16-in-DW_OP_skip-clause-parts g c = rw (err_from_is_err_and c.from_residual-in_err-read_i16-in-DW_OP_skip.result c.from_residual-in_err-read_i16-in-DW_OP_skip.ensures.1).1 tt

pub returns-in_ok-read_i16-in-DW_OP_skip-clause-err : goal.returns-in_ok-read_i16-in-DW_OP_skip-clause-err
returns-in_ok-read_i16-in-DW_OP_skip-clause-err g c = tt

pub returns-in_default-clause-err : goal.returns-in_default-clause-err
returns-in_default-clause-err g c = tt
