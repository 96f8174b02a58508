use Rattle.std.proofs.Common.{ℕ, ℤ, refl, arith, rules}
use Rattle.std.proofs.lemmas.Result.{err_from_is_err_and}
use Rattle.std.proofs.lemmas.Bool.{ne_eqb}
use Rattle.std.proofs.lemmas.Int.{to_z-of_z}
use mir.Val.{SFits}
use mir.Syntax.{w8, w16, w32, w64}
use Rattle.dw_base.specs.Numbers.{number_at}
use Rattle.dw_base.specs.Leb128.{uleb_at, sleb_at}
use Rattle.dw_read.specs.Reasons.{number_read, uleb_read, sleb_read, address_at, address_read}
use Rattle.dw_read.proofs.Laws.{number_law, uleb_law, sleb_law, address_law}
use Rattle.dw_read.proofs.Chain.{took_of}
use Rattle.dw_sources.specs.Operations.{Address, AddressIndex, ConstantIndex, UnsignedConstant, SignedConstant}
use Rattle.dw_sources.specs.Operands.{signed_read}
use Rattle.dw_sources.specs.OperationTable.{literals}
use Rattle.dw_sources.proofs.OperandLaws.{widened8, widened16, widened32}
use Rattle.dw_sources.proofs.TableLaws.{no_row, at_row, one_ok, one_err}
use Rattle.dw_sources.proofs.literals.read_literal.Goals as goal

pub returns-in_err-read_address-in-DW_OP_addr-clause-err : goal.returns-in_err-read_address-in-DW_OP_addr-clause-err
unfolding literals
returns-in_err-read_address-in-DW_OP_addr-clause-err g c =
    let p = err_from_is_err_and c.from_residual.result c.from_residual.ensures.1 in
    rw (p.1, p.2) (one_err (literals (g.R.Reader.reading c.args.input.now).is_big c.args.encoding c.args.opcode.0) ℕ (address_read (g.R.Reader.reading c.args.input.now).is_big c.args.encoding.address_size) Address (at_row (literals (g.R.Reader.reading c.args.input.now).is_big c.args.encoding) c.args.opcode.0 3 _ refl (omega arith)) _ _ c.in_err-read_address-in-DW_OP_addr.ensures.err.reason)

pub returns-in_ok-read_address-in-DW_OP_addr-clause-ok : goal.returns-in_ok-read_address-in-DW_OP_addr-clause-ok
unfolding literals
returns-in_ok-read_address-in-DW_OP_addr-clause-ok g c =
    one_ok (literals (g.R.Reader.reading c.args.input.now).is_big c.args.encoding c.args.opcode.0) ℕ (address_read (g.R.Reader.reading c.args.input.now).is_big c.args.encoding.address_size) Address (at_row (literals (g.R.Reader.reading c.args.input.now).is_big c.args.encoding) c.args.opcode.0 3 _ refl (omega arith)) _ _ _ (took_of ℕ (address_at (g.R.Reader.reading c.args.input.now).is_big c.args.encoding.address_size) (address_read (g.R.Reader.reading c.args.input.now).is_big c.args.encoding.address_size) _ _ _ (address_law (g.R.Reader.reading c.args.input.now).is_big c.args.encoding.address_size) c.in_ok-read_address-in-DW_OP_addr.ensures.ok)

pub returns-in_err-read_u8-in-DW_OP_const1u-clause-err : goal.returns-in_err-read_u8-in-DW_OP_const1u-clause-err
unfolding literals
returns-in_err-read_u8-in-DW_OP_const1u-clause-err g c =
    let p = err_from_is_err_and c.from_residual-in_err-read_u8-in-DW_OP_const1u.result c.from_residual-in_err-read_u8-in-DW_OP_const1u.ensures.1 in
    rw (p.1, p.2) (one_err (literals (g.R.Reader.reading c.args.input.now).is_big c.args.encoding c.args.opcode.0) ℕ (number_read (g.R.Reader.reading c.args.input.now).is_big 1) UnsignedConstant (at_row (literals (g.R.Reader.reading c.args.input.now).is_big c.args.encoding) c.args.opcode.0 8 _ refl (omega arith)) _ _ c.in_err-read_u8-in-DW_OP_const1u.ensures.err.reason)

pub returns-in_ok-read_u8-in-DW_OP_const1u-clause-ok : goal.returns-in_ok-read_u8-in-DW_OP_const1u-clause-ok
unfolding literals
returns-in_ok-read_u8-in-DW_OP_const1u-clause-ok g c =
    one_ok (literals (g.R.Reader.reading c.args.input.now).is_big c.args.encoding c.args.opcode.0) ℕ (number_read (g.R.Reader.reading c.args.input.now).is_big 1) UnsignedConstant (at_row (literals (g.R.Reader.reading c.args.input.now).is_big c.args.encoding) c.args.opcode.0 8 _ refl (omega arith)) _ _ _ (took_of ℕ (number_at (g.R.Reader.reading c.args.input.now).is_big 1) (number_read (g.R.Reader.reading c.args.input.now).is_big 1) _ _ _ (number_law (g.R.Reader.reading c.args.input.now).is_big 1) c.in_ok-read_u8-in-DW_OP_const1u.ensures.ok)

pub returns-in_err-read_i8-in-DW_OP_const1s-clause-err : goal.returns-in_err-read_i8-in-DW_OP_const1s-clause-err
unfolding literals
returns-in_err-read_i8-in-DW_OP_const1s-clause-err g c =
    let p = err_from_is_err_and c.from_residual-in_err-read_i8-in-DW_OP_const1s.result c.from_residual-in_err-read_i8-in-DW_OP_const1s.ensures.1 in
    rw (p.1, p.2) (one_err (literals (g.R.Reader.reading c.args.input.now).is_big c.args.encoding c.args.opcode.0) ℤ (signed_read (g.R.Reader.reading c.args.input.now).is_big 1) SignedConstant (at_row (literals (g.R.Reader.reading c.args.input.now).is_big c.args.encoding) c.args.opcode.0 9 _ refl (omega arith)) _ _ c.in_err-read_i8-in-DW_OP_const1s.ensures.err)

pub returns-in_ok-read_i8-in-DW_OP_const1s-clause-ok : goal.returns-in_ok-read_i8-in-DW_OP_const1s-clause-ok
unfolding literals
returns-in_ok-read_i8-in-DW_OP_const1s-clause-ok g c =
    let fits : SFits w8 c.in_ok-read_i8-in-DW_OP_const1s.field-0 = search rules in
    rw (widened8 c.in_ok-read_i8-in-DW_OP_const1s.field-0 fits) (one_ok (literals (g.R.Reader.reading c.args.input.now).is_big c.args.encoding c.args.opcode.0) ℤ (signed_read (g.R.Reader.reading c.args.input.now).is_big 1) SignedConstant (at_row (literals (g.R.Reader.reading c.args.input.now).is_big c.args.encoding) c.args.opcode.0 9 _ refl (omega arith)) _ _ _ c.in_ok-read_i8-in-DW_OP_const1s.ensures.ok)

pub returns-in_err-read_u16-in-DW_OP_const2u-clause-err : goal.returns-in_err-read_u16-in-DW_OP_const2u-clause-err
unfolding literals
returns-in_err-read_u16-in-DW_OP_const2u-clause-err g c =
    let p = err_from_is_err_and c.from_residual-in_err-read_u16-in-DW_OP_const2u.result c.from_residual-in_err-read_u16-in-DW_OP_const2u.ensures.1 in
    rw (p.1, p.2) (one_err (literals (g.R.Reader.reading c.args.input.now).is_big c.args.encoding c.args.opcode.0) ℕ (number_read (g.R.Reader.reading c.args.input.now).is_big 2) UnsignedConstant (at_row (literals (g.R.Reader.reading c.args.input.now).is_big c.args.encoding) c.args.opcode.0 10 _ refl (omega arith)) _ _ c.in_err-read_u16-in-DW_OP_const2u.ensures.err.reason)

pub returns-in_ok-read_u16-in-DW_OP_const2u-clause-ok : goal.returns-in_ok-read_u16-in-DW_OP_const2u-clause-ok
unfolding literals
returns-in_ok-read_u16-in-DW_OP_const2u-clause-ok g c =
    one_ok (literals (g.R.Reader.reading c.args.input.now).is_big c.args.encoding c.args.opcode.0) ℕ (number_read (g.R.Reader.reading c.args.input.now).is_big 2) UnsignedConstant (at_row (literals (g.R.Reader.reading c.args.input.now).is_big c.args.encoding) c.args.opcode.0 10 _ refl (omega arith)) _ _ _ (took_of ℕ (number_at (g.R.Reader.reading c.args.input.now).is_big 2) (number_read (g.R.Reader.reading c.args.input.now).is_big 2) _ _ _ (number_law (g.R.Reader.reading c.args.input.now).is_big 2) c.in_ok-read_u16-in-DW_OP_const2u.ensures.ok)

pub returns-in_err-read_i16-in-DW_OP_const2s-clause-err : goal.returns-in_err-read_i16-in-DW_OP_const2s-clause-err
unfolding literals
returns-in_err-read_i16-in-DW_OP_const2s-clause-err g c =
    let p = err_from_is_err_and c.from_residual-in_err-read_i16-in-DW_OP_const2s.result c.from_residual-in_err-read_i16-in-DW_OP_const2s.ensures.1 in
    rw (p.1, p.2) (one_err (literals (g.R.Reader.reading c.args.input.now).is_big c.args.encoding c.args.opcode.0) ℤ (signed_read (g.R.Reader.reading c.args.input.now).is_big 2) SignedConstant (at_row (literals (g.R.Reader.reading c.args.input.now).is_big c.args.encoding) c.args.opcode.0 11 _ refl (omega arith)) _ _ c.in_err-read_i16-in-DW_OP_const2s.ensures.err)

pub returns-in_ok-read_i16-in-DW_OP_const2s-clause-ok : goal.returns-in_ok-read_i16-in-DW_OP_const2s-clause-ok
unfolding literals
returns-in_ok-read_i16-in-DW_OP_const2s-clause-ok g c =
    let fits : SFits w16 c.in_ok-read_i16-in-DW_OP_const2s.field-0 = search rules in
    rw (widened16 c.in_ok-read_i16-in-DW_OP_const2s.field-0 fits) (one_ok (literals (g.R.Reader.reading c.args.input.now).is_big c.args.encoding c.args.opcode.0) ℤ (signed_read (g.R.Reader.reading c.args.input.now).is_big 2) SignedConstant (at_row (literals (g.R.Reader.reading c.args.input.now).is_big c.args.encoding) c.args.opcode.0 11 _ refl (omega arith)) _ _ _ c.in_ok-read_i16-in-DW_OP_const2s.ensures.ok)

pub returns-in_err-read_u32-in-DW_OP_const4u-clause-err : goal.returns-in_err-read_u32-in-DW_OP_const4u-clause-err
unfolding literals
returns-in_err-read_u32-in-DW_OP_const4u-clause-err g c =
    let p = err_from_is_err_and c.from_residual-in_err-read_u32-in-DW_OP_const4u.result c.from_residual-in_err-read_u32-in-DW_OP_const4u.ensures.1 in
    rw (p.1, p.2) (one_err (literals (g.R.Reader.reading c.args.input.now).is_big c.args.encoding c.args.opcode.0) ℕ (number_read (g.R.Reader.reading c.args.input.now).is_big 4) UnsignedConstant (at_row (literals (g.R.Reader.reading c.args.input.now).is_big c.args.encoding) c.args.opcode.0 12 _ refl (omega arith)) _ _ c.in_err-read_u32-in-DW_OP_const4u.ensures.err.reason)

pub returns-in_ok-read_u32-in-DW_OP_const4u-clause-ok : goal.returns-in_ok-read_u32-in-DW_OP_const4u-clause-ok
unfolding literals
returns-in_ok-read_u32-in-DW_OP_const4u-clause-ok g c =
    one_ok (literals (g.R.Reader.reading c.args.input.now).is_big c.args.encoding c.args.opcode.0) ℕ (number_read (g.R.Reader.reading c.args.input.now).is_big 4) UnsignedConstant (at_row (literals (g.R.Reader.reading c.args.input.now).is_big c.args.encoding) c.args.opcode.0 12 _ refl (omega arith)) _ _ _ (took_of ℕ (number_at (g.R.Reader.reading c.args.input.now).is_big 4) (number_read (g.R.Reader.reading c.args.input.now).is_big 4) _ _ _ (number_law (g.R.Reader.reading c.args.input.now).is_big 4) c.in_ok-read_u32-in-DW_OP_const4u.ensures.ok)

pub returns-in_err-read_i32-in-DW_OP_const4s-clause-err : goal.returns-in_err-read_i32-in-DW_OP_const4s-clause-err
unfolding literals
returns-in_err-read_i32-in-DW_OP_const4s-clause-err g c =
    let p = err_from_is_err_and c.from_residual-in_err-read_i32-in-DW_OP_const4s.result c.from_residual-in_err-read_i32-in-DW_OP_const4s.ensures.1 in
    rw (p.1, p.2) (one_err (literals (g.R.Reader.reading c.args.input.now).is_big c.args.encoding c.args.opcode.0) ℤ (signed_read (g.R.Reader.reading c.args.input.now).is_big 4) SignedConstant (at_row (literals (g.R.Reader.reading c.args.input.now).is_big c.args.encoding) c.args.opcode.0 13 _ refl (omega arith)) _ _ c.in_err-read_i32-in-DW_OP_const4s.ensures.err)

pub returns-in_ok-read_i32-in-DW_OP_const4s-clause-ok : goal.returns-in_ok-read_i32-in-DW_OP_const4s-clause-ok
unfolding literals
returns-in_ok-read_i32-in-DW_OP_const4s-clause-ok g c =
    let fits : SFits w32 c.in_ok-read_i32-in-DW_OP_const4s.field-0 = search rules in
    rw (widened32 c.in_ok-read_i32-in-DW_OP_const4s.field-0 fits) (one_ok (literals (g.R.Reader.reading c.args.input.now).is_big c.args.encoding c.args.opcode.0) ℤ (signed_read (g.R.Reader.reading c.args.input.now).is_big 4) SignedConstant (at_row (literals (g.R.Reader.reading c.args.input.now).is_big c.args.encoding) c.args.opcode.0 13 _ refl (omega arith)) _ _ _ c.in_ok-read_i32-in-DW_OP_const4s.ensures.ok)

pub returns-in_err-read_u64-in-DW_OP_const8u-clause-err : goal.returns-in_err-read_u64-in-DW_OP_const8u-clause-err
unfolding literals
returns-in_err-read_u64-in-DW_OP_const8u-clause-err g c =
    let p = err_from_is_err_and c.from_residual-in_err-read_u64-in-DW_OP_const8u.result c.from_residual-in_err-read_u64-in-DW_OP_const8u.ensures.1 in
    rw (p.1, p.2) (one_err (literals (g.R.Reader.reading c.args.input.now).is_big c.args.encoding c.args.opcode.0) ℕ (number_read (g.R.Reader.reading c.args.input.now).is_big 8) UnsignedConstant (at_row (literals (g.R.Reader.reading c.args.input.now).is_big c.args.encoding) c.args.opcode.0 14 _ refl (omega arith)) _ _ c.in_err-read_u64-in-DW_OP_const8u.ensures.err.reason)

pub returns-in_ok-read_u64-in-DW_OP_const8u-clause-ok : goal.returns-in_ok-read_u64-in-DW_OP_const8u-clause-ok
unfolding literals
returns-in_ok-read_u64-in-DW_OP_const8u-clause-ok g c =
    one_ok (literals (g.R.Reader.reading c.args.input.now).is_big c.args.encoding c.args.opcode.0) ℕ (number_read (g.R.Reader.reading c.args.input.now).is_big 8) UnsignedConstant (at_row (literals (g.R.Reader.reading c.args.input.now).is_big c.args.encoding) c.args.opcode.0 14 _ refl (omega arith)) _ _ _ (took_of ℕ (number_at (g.R.Reader.reading c.args.input.now).is_big 8) (number_read (g.R.Reader.reading c.args.input.now).is_big 8) _ _ _ (number_law (g.R.Reader.reading c.args.input.now).is_big 8) c.in_ok-read_u64-in-DW_OP_const8u.ensures.ok)

pub returns-in_err-read_i64-in-DW_OP_const8s-clause-err : goal.returns-in_err-read_i64-in-DW_OP_const8s-clause-err
unfolding literals
returns-in_err-read_i64-in-DW_OP_const8s-clause-err g c =
    let p = err_from_is_err_and c.from_residual-in_err-read_i64-in-DW_OP_const8s.result c.from_residual-in_err-read_i64-in-DW_OP_const8s.ensures.1 in
    rw (p.1, p.2) (one_err (literals (g.R.Reader.reading c.args.input.now).is_big c.args.encoding c.args.opcode.0) ℤ (signed_read (g.R.Reader.reading c.args.input.now).is_big 8) SignedConstant (at_row (literals (g.R.Reader.reading c.args.input.now).is_big c.args.encoding) c.args.opcode.0 15 _ refl (omega arith)) _ _ c.in_err-read_i64-in-DW_OP_const8s.ensures.err)

pub returns-in_ok-read_i64-in-DW_OP_const8s-clause-ok : goal.returns-in_ok-read_i64-in-DW_OP_const8s-clause-ok
unfolding literals
returns-in_ok-read_i64-in-DW_OP_const8s-clause-ok g c =
    let fits : SFits w64 c.in_ok-read_i64-in-DW_OP_const8s.field-0 = search rules in
    rw (to_z-of_z w64 c.in_ok-read_i64-in-DW_OP_const8s.field-0 fits) (one_ok (literals (g.R.Reader.reading c.args.input.now).is_big c.args.encoding c.args.opcode.0) ℤ (signed_read (g.R.Reader.reading c.args.input.now).is_big 8) SignedConstant (at_row (literals (g.R.Reader.reading c.args.input.now).is_big c.args.encoding) c.args.opcode.0 15 _ refl (omega arith)) _ _ _ c.in_ok-read_i64-in-DW_OP_const8s.ensures.ok)

pub returns-in_err-read_uleb128-in-DW_OP_constu-clause-err : goal.returns-in_err-read_uleb128-in-DW_OP_constu-clause-err
unfolding literals
returns-in_err-read_uleb128-in-DW_OP_constu-clause-err g c =
    let p = err_from_is_err_and c.from_residual-in_err-read_uleb128-in-DW_OP_constu.result c.from_residual-in_err-read_uleb128-in-DW_OP_constu.ensures.1 in
    rw (p.1, p.2) (one_err (literals (g.R.Reader.reading c.args.input.now).is_big c.args.encoding c.args.opcode.0) ℕ uleb_read UnsignedConstant (at_row (literals (g.R.Reader.reading c.args.input.now).is_big c.args.encoding) c.args.opcode.0 16 _ refl (omega arith)) _ _ c.in_err-read_uleb128-in-DW_OP_constu.ensures.err.reason)

pub returns-in_ok-read_uleb128-in-DW_OP_constu-clause-ok : goal.returns-in_ok-read_uleb128-in-DW_OP_constu-clause-ok
unfolding literals
returns-in_ok-read_uleb128-in-DW_OP_constu-clause-ok g c =
    one_ok (literals (g.R.Reader.reading c.args.input.now).is_big c.args.encoding c.args.opcode.0) ℕ uleb_read UnsignedConstant (at_row (literals (g.R.Reader.reading c.args.input.now).is_big c.args.encoding) c.args.opcode.0 16 _ refl (omega arith)) _ _ _ (took_of ℕ uleb_at uleb_read _ _ _ uleb_law c.in_ok-read_uleb128-in-DW_OP_constu.ensures.ok)

pub returns-in_err-read_sleb128-in-DW_OP_consts-clause-err : goal.returns-in_err-read_sleb128-in-DW_OP_consts-clause-err
unfolding literals
returns-in_err-read_sleb128-in-DW_OP_consts-clause-err g c =
    let p = err_from_is_err_and c.from_residual-in_err-read_sleb128-in-DW_OP_consts.result c.from_residual-in_err-read_sleb128-in-DW_OP_consts.ensures.1 in
    rw (p.1, p.2) (one_err (literals (g.R.Reader.reading c.args.input.now).is_big c.args.encoding c.args.opcode.0) ℤ sleb_read SignedConstant (at_row (literals (g.R.Reader.reading c.args.input.now).is_big c.args.encoding) c.args.opcode.0 17 _ refl (omega arith)) _ _ c.in_err-read_sleb128-in-DW_OP_consts.ensures.err.reason)

pub returns-in_ok-read_sleb128-in-DW_OP_consts-clause-ok : goal.returns-in_ok-read_sleb128-in-DW_OP_consts-clause-ok
unfolding literals
returns-in_ok-read_sleb128-in-DW_OP_consts-clause-ok g c =
    let fits : SFits w64 c.in_ok-read_sleb128-in-DW_OP_consts.field-0 = search rules in
    rw (to_z-of_z w64 c.in_ok-read_sleb128-in-DW_OP_consts.field-0 fits) (one_ok (literals (g.R.Reader.reading c.args.input.now).is_big c.args.encoding c.args.opcode.0) ℤ sleb_read SignedConstant (at_row (literals (g.R.Reader.reading c.args.input.now).is_big c.args.encoding) c.args.opcode.0 17 _ refl (omega arith)) _ _ _ (took_of ℤ sleb_at sleb_read _ _ _ sleb_law c.in_ok-read_sleb128-in-DW_OP_consts.ensures.ok))

pub returns-in_err-read_uleb128-in-DW_OP_addrx-clause-err : goal.returns-in_err-read_uleb128-in-DW_OP_addrx-clause-err
unfolding literals
returns-in_err-read_uleb128-in-DW_OP_addrx-clause-err g c =
    let p = err_from_is_err_and c.from_residual-in_err-read_uleb128-in-DW_OP_addrx.result c.from_residual-in_err-read_uleb128-in-DW_OP_addrx.ensures.1 in
    rw (p.1, p.2) (one_err (literals (g.R.Reader.reading c.args.input.now).is_big c.args.encoding c.args.opcode.0) ℕ uleb_read AddressIndex (at_row (literals (g.R.Reader.reading c.args.input.now).is_big c.args.encoding) c.args.opcode.0 161 _ refl (omega arith)) _ _ c.in_err-read_uleb128-in-DW_OP_addrx.ensures.err.reason)

pub returns-in_ok-read_uleb128-in-DW_OP_addrx-clause-ok : goal.returns-in_ok-read_uleb128-in-DW_OP_addrx-clause-ok
unfolding literals
returns-in_ok-read_uleb128-in-DW_OP_addrx-clause-ok g c =
    one_ok (literals (g.R.Reader.reading c.args.input.now).is_big c.args.encoding c.args.opcode.0) ℕ uleb_read AddressIndex (at_row (literals (g.R.Reader.reading c.args.input.now).is_big c.args.encoding) c.args.opcode.0 161 _ refl (omega arith)) _ _ _ (took_of ℕ uleb_at uleb_read _ _ _ uleb_law c.in_ok-read_uleb128-in-DW_OP_addrx.ensures.ok)

pub returns-in_err-read_uleb128-in-DW_OP_constx-clause-err : goal.returns-in_err-read_uleb128-in-DW_OP_constx-clause-err
unfolding literals
returns-in_err-read_uleb128-in-DW_OP_constx-clause-err g c =
    let p = err_from_is_err_and c.from_residual-in_err-read_uleb128-in-DW_OP_constx.result c.from_residual-in_err-read_uleb128-in-DW_OP_constx.ensures.1 in
    rw (p.1, p.2) (one_err (literals (g.R.Reader.reading c.args.input.now).is_big c.args.encoding c.args.opcode.0) ℕ uleb_read ConstantIndex (at_row (literals (g.R.Reader.reading c.args.input.now).is_big c.args.encoding) c.args.opcode.0 162 _ refl (omega arith)) _ _ c.in_err-read_uleb128-in-DW_OP_constx.ensures.err.reason)

pub returns-in_ok-read_uleb128-in-DW_OP_constx-clause-ok : goal.returns-in_ok-read_uleb128-in-DW_OP_constx-clause-ok
unfolding literals
returns-in_ok-read_uleb128-in-DW_OP_constx-clause-ok g c =
    one_ok (literals (g.R.Reader.reading c.args.input.now).is_big c.args.encoding c.args.opcode.0) ℕ uleb_read ConstantIndex (at_row (literals (g.R.Reader.reading c.args.input.now).is_big c.args.encoding) c.args.opcode.0 162 _ refl (omega arith)) _ _ _ (took_of ℕ uleb_at uleb_read _ _ _ uleb_law c.in_ok-read_uleb128-in-DW_OP_constx.ensures.ok)

pub returns-in_default-clause-ok : goal.returns-in_default-clause-ok
unfolding literals
returns-in_default-clause-ok g c =
    no_row (literals (g.R.Reader.reading c.args.input.now).is_big c.args.encoding c.args.opcode.0) _ (g.met.R.Reader.is_reading c.args.input.now) (rw (ne_eqb c.args.opcode.0 3 (omega arith), ne_eqb c.args.opcode.0 8 (omega arith), ne_eqb c.args.opcode.0 9 (omega arith), ne_eqb c.args.opcode.0 10 (omega arith), ne_eqb c.args.opcode.0 11 (omega arith), ne_eqb c.args.opcode.0 12 (omega arith), ne_eqb c.args.opcode.0 13 (omega arith), ne_eqb c.args.opcode.0 14 (omega arith), ne_eqb c.args.opcode.0 15 (omega arith), ne_eqb c.args.opcode.0 16 (omega arith), ne_eqb c.args.opcode.0 17 (omega arith), ne_eqb c.args.opcode.0 161 (omega arith), ne_eqb c.args.opcode.0 162 (omega arith)) refl)

pub returns-in_err-read_address-in-DW_OP_addr-clause-ok : goal.returns-in_err-read_address-in-DW_OP_addr-clause-ok
returns-in_err-read_address-in-DW_OP_addr-clause-ok g c = rw (err_from_is_err_and c.from_residual.result c.from_residual.ensures.1).1 tt

pub returns-in_err-read_address-in-DW_OP_addr-clause-parts : goal.returns-in_err-read_address-in-DW_OP_addr-clause-parts
returns-in_err-read_address-in-DW_OP_addr-clause-parts g c = rw (err_from_is_err_and c.from_residual.result c.from_residual.ensures.1).1 tt

pub returns-in_ok-read_address-in-DW_OP_addr-clause-err : goal.returns-in_ok-read_address-in-DW_OP_addr-clause-err
returns-in_ok-read_address-in-DW_OP_addr-clause-err g c = tt

pub returns-in_err-read_u8-in-DW_OP_const1u-clause-ok : goal.returns-in_err-read_u8-in-DW_OP_const1u-clause-ok
returns-in_err-read_u8-in-DW_OP_const1u-clause-ok g c = rw (err_from_is_err_and c.from_residual-in_err-read_u8-in-DW_OP_const1u.result c.from_residual-in_err-read_u8-in-DW_OP_const1u.ensures.1).1 tt

pub returns-in_err-read_u8-in-DW_OP_const1u-clause-parts : goal.returns-in_err-read_u8-in-DW_OP_const1u-clause-parts
returns-in_err-read_u8-in-DW_OP_const1u-clause-parts g c = rw (err_from_is_err_and c.from_residual-in_err-read_u8-in-DW_OP_const1u.result c.from_residual-in_err-read_u8-in-DW_OP_const1u.ensures.1).1 tt

pub returns-in_ok-read_u8-in-DW_OP_const1u-clause-err : goal.returns-in_ok-read_u8-in-DW_OP_const1u-clause-err
returns-in_ok-read_u8-in-DW_OP_const1u-clause-err g c = tt

pub returns-in_err-read_i8-in-DW_OP_const1s-clause-ok : goal.returns-in_err-read_i8-in-DW_OP_const1s-clause-ok
returns-in_err-read_i8-in-DW_OP_const1s-clause-ok g c = rw (err_from_is_err_and c.from_residual-in_err-read_i8-in-DW_OP_const1s.result c.from_residual-in_err-read_i8-in-DW_OP_const1s.ensures.1).1 tt

pub returns-in_err-read_i8-in-DW_OP_const1s-clause-parts : goal.returns-in_err-read_i8-in-DW_OP_const1s-clause-parts
returns-in_err-read_i8-in-DW_OP_const1s-clause-parts g c = rw (err_from_is_err_and c.from_residual-in_err-read_i8-in-DW_OP_const1s.result c.from_residual-in_err-read_i8-in-DW_OP_const1s.ensures.1).1 tt

pub returns-in_ok-read_i8-in-DW_OP_const1s-clause-err : goal.returns-in_ok-read_i8-in-DW_OP_const1s-clause-err
returns-in_ok-read_i8-in-DW_OP_const1s-clause-err g c = tt

pub returns-in_err-read_u16-in-DW_OP_const2u-clause-ok : goal.returns-in_err-read_u16-in-DW_OP_const2u-clause-ok
returns-in_err-read_u16-in-DW_OP_const2u-clause-ok g c = rw (err_from_is_err_and c.from_residual-in_err-read_u16-in-DW_OP_const2u.result c.from_residual-in_err-read_u16-in-DW_OP_const2u.ensures.1).1 tt

pub returns-in_err-read_u16-in-DW_OP_const2u-clause-parts : goal.returns-in_err-read_u16-in-DW_OP_const2u-clause-parts
returns-in_err-read_u16-in-DW_OP_const2u-clause-parts g c = rw (err_from_is_err_and c.from_residual-in_err-read_u16-in-DW_OP_const2u.result c.from_residual-in_err-read_u16-in-DW_OP_const2u.ensures.1).1 tt

pub returns-in_ok-read_u16-in-DW_OP_const2u-clause-err : goal.returns-in_ok-read_u16-in-DW_OP_const2u-clause-err
returns-in_ok-read_u16-in-DW_OP_const2u-clause-err g c = tt

pub returns-in_err-read_i16-in-DW_OP_const2s-clause-ok : goal.returns-in_err-read_i16-in-DW_OP_const2s-clause-ok
returns-in_err-read_i16-in-DW_OP_const2s-clause-ok g c = rw (err_from_is_err_and c.from_residual-in_err-read_i16-in-DW_OP_const2s.result c.from_residual-in_err-read_i16-in-DW_OP_const2s.ensures.1).1 tt

pub returns-in_err-read_i16-in-DW_OP_const2s-clause-parts : goal.returns-in_err-read_i16-in-DW_OP_const2s-clause-parts
returns-in_err-read_i16-in-DW_OP_const2s-clause-parts g c = rw (err_from_is_err_and c.from_residual-in_err-read_i16-in-DW_OP_const2s.result c.from_residual-in_err-read_i16-in-DW_OP_const2s.ensures.1).1 tt

pub returns-in_ok-read_i16-in-DW_OP_const2s-clause-err : goal.returns-in_ok-read_i16-in-DW_OP_const2s-clause-err
returns-in_ok-read_i16-in-DW_OP_const2s-clause-err g c = tt

pub returns-in_err-read_u32-in-DW_OP_const4u-clause-ok : goal.returns-in_err-read_u32-in-DW_OP_const4u-clause-ok
returns-in_err-read_u32-in-DW_OP_const4u-clause-ok g c = rw (err_from_is_err_and c.from_residual-in_err-read_u32-in-DW_OP_const4u.result c.from_residual-in_err-read_u32-in-DW_OP_const4u.ensures.1).1 tt

pub returns-in_err-read_u32-in-DW_OP_const4u-clause-parts : goal.returns-in_err-read_u32-in-DW_OP_const4u-clause-parts
returns-in_err-read_u32-in-DW_OP_const4u-clause-parts g c = rw (err_from_is_err_and c.from_residual-in_err-read_u32-in-DW_OP_const4u.result c.from_residual-in_err-read_u32-in-DW_OP_const4u.ensures.1).1 tt

pub returns-in_ok-read_u32-in-DW_OP_const4u-clause-err : goal.returns-in_ok-read_u32-in-DW_OP_const4u-clause-err
returns-in_ok-read_u32-in-DW_OP_const4u-clause-err g c = tt

pub returns-in_err-read_i32-in-DW_OP_const4s-clause-ok : goal.returns-in_err-read_i32-in-DW_OP_const4s-clause-ok
returns-in_err-read_i32-in-DW_OP_const4s-clause-ok g c = rw (err_from_is_err_and c.from_residual-in_err-read_i32-in-DW_OP_const4s.result c.from_residual-in_err-read_i32-in-DW_OP_const4s.ensures.1).1 tt

pub returns-in_err-read_i32-in-DW_OP_const4s-clause-parts : goal.returns-in_err-read_i32-in-DW_OP_const4s-clause-parts
returns-in_err-read_i32-in-DW_OP_const4s-clause-parts g c = rw (err_from_is_err_and c.from_residual-in_err-read_i32-in-DW_OP_const4s.result c.from_residual-in_err-read_i32-in-DW_OP_const4s.ensures.1).1 tt

pub returns-in_ok-read_i32-in-DW_OP_const4s-clause-err : goal.returns-in_ok-read_i32-in-DW_OP_const4s-clause-err
returns-in_ok-read_i32-in-DW_OP_const4s-clause-err g c = tt

pub returns-in_err-read_u64-in-DW_OP_const8u-clause-ok : goal.returns-in_err-read_u64-in-DW_OP_const8u-clause-ok
returns-in_err-read_u64-in-DW_OP_const8u-clause-ok g c = rw (err_from_is_err_and c.from_residual-in_err-read_u64-in-DW_OP_const8u.result c.from_residual-in_err-read_u64-in-DW_OP_const8u.ensures.1).1 tt

pub returns-in_err-read_u64-in-DW_OP_const8u-clause-parts : goal.returns-in_err-read_u64-in-DW_OP_const8u-clause-parts
returns-in_err-read_u64-in-DW_OP_const8u-clause-parts g c = rw (err_from_is_err_and c.from_residual-in_err-read_u64-in-DW_OP_const8u.result c.from_residual-in_err-read_u64-in-DW_OP_const8u.ensures.1).1 tt

pub returns-in_ok-read_u64-in-DW_OP_const8u-clause-err : goal.returns-in_ok-read_u64-in-DW_OP_const8u-clause-err
returns-in_ok-read_u64-in-DW_OP_const8u-clause-err g c = tt

pub returns-in_err-read_i64-in-DW_OP_const8s-clause-ok : goal.returns-in_err-read_i64-in-DW_OP_const8s-clause-ok
returns-in_err-read_i64-in-DW_OP_const8s-clause-ok g c = rw (err_from_is_err_and c.from_residual-in_err-read_i64-in-DW_OP_const8s.result c.from_residual-in_err-read_i64-in-DW_OP_const8s.ensures.1).1 tt

pub returns-in_err-read_i64-in-DW_OP_const8s-clause-parts : goal.returns-in_err-read_i64-in-DW_OP_const8s-clause-parts
returns-in_err-read_i64-in-DW_OP_const8s-clause-parts g c = rw (err_from_is_err_and c.from_residual-in_err-read_i64-in-DW_OP_const8s.result c.from_residual-in_err-read_i64-in-DW_OP_const8s.ensures.1).1 tt

pub returns-in_ok-read_i64-in-DW_OP_const8s-clause-err : goal.returns-in_ok-read_i64-in-DW_OP_const8s-clause-err
returns-in_ok-read_i64-in-DW_OP_const8s-clause-err g c = tt

pub returns-in_err-read_uleb128-in-DW_OP_constu-clause-ok : goal.returns-in_err-read_uleb128-in-DW_OP_constu-clause-ok
returns-in_err-read_uleb128-in-DW_OP_constu-clause-ok g c = rw (err_from_is_err_and c.from_residual-in_err-read_uleb128-in-DW_OP_constu.result c.from_residual-in_err-read_uleb128-in-DW_OP_constu.ensures.1).1 tt

pub returns-in_err-read_uleb128-in-DW_OP_constu-clause-parts : goal.returns-in_err-read_uleb128-in-DW_OP_constu-clause-parts
returns-in_err-read_uleb128-in-DW_OP_constu-clause-parts g c = rw (err_from_is_err_and c.from_residual-in_err-read_uleb128-in-DW_OP_constu.result c.from_residual-in_err-read_uleb128-in-DW_OP_constu.ensures.1).1 tt

pub returns-in_ok-read_uleb128-in-DW_OP_constu-clause-err : goal.returns-in_ok-read_uleb128-in-DW_OP_constu-clause-err
returns-in_ok-read_uleb128-in-DW_OP_constu-clause-err g c = tt

pub returns-in_err-read_sleb128-in-DW_OP_consts-clause-ok : goal.returns-in_err-read_sleb128-in-DW_OP_consts-clause-ok
returns-in_err-read_sleb128-in-DW_OP_consts-clause-ok g c = rw (err_from_is_err_and c.from_residual-in_err-read_sleb128-in-DW_OP_consts.result c.from_residual-in_err-read_sleb128-in-DW_OP_consts.ensures.1).1 tt

pub returns-in_err-read_sleb128-in-DW_OP_consts-clause-parts : goal.returns-in_err-read_sleb128-in-DW_OP_consts-clause-parts
returns-in_err-read_sleb128-in-DW_OP_consts-clause-parts g c = rw (err_from_is_err_and c.from_residual-in_err-read_sleb128-in-DW_OP_consts.result c.from_residual-in_err-read_sleb128-in-DW_OP_consts.ensures.1).1 tt

pub returns-in_ok-read_sleb128-in-DW_OP_consts-clause-err : goal.returns-in_ok-read_sleb128-in-DW_OP_consts-clause-err
returns-in_ok-read_sleb128-in-DW_OP_consts-clause-err g c = tt

pub returns-in_err-read_uleb128-in-DW_OP_addrx-clause-ok : goal.returns-in_err-read_uleb128-in-DW_OP_addrx-clause-ok
returns-in_err-read_uleb128-in-DW_OP_addrx-clause-ok g c = rw (err_from_is_err_and c.from_residual-in_err-read_uleb128-in-DW_OP_addrx.result c.from_residual-in_err-read_uleb128-in-DW_OP_addrx.ensures.1).1 tt

pub returns-in_err-read_uleb128-in-DW_OP_addrx-clause-parts : goal.returns-in_err-read_uleb128-in-DW_OP_addrx-clause-parts
returns-in_err-read_uleb128-in-DW_OP_addrx-clause-parts g c = rw (err_from_is_err_and c.from_residual-in_err-read_uleb128-in-DW_OP_addrx.result c.from_residual-in_err-read_uleb128-in-DW_OP_addrx.ensures.1).1 tt

pub returns-in_ok-read_uleb128-in-DW_OP_addrx-clause-err : goal.returns-in_ok-read_uleb128-in-DW_OP_addrx-clause-err
returns-in_ok-read_uleb128-in-DW_OP_addrx-clause-err g c = tt

pub returns-in_err-read_uleb128-in-DW_OP_constx-clause-ok : goal.returns-in_err-read_uleb128-in-DW_OP_constx-clause-ok
returns-in_err-read_uleb128-in-DW_OP_constx-clause-ok g c = rw (err_from_is_err_and c.from_residual-in_err-read_uleb128-in-DW_OP_constx.result c.from_residual-in_err-read_uleb128-in-DW_OP_constx.ensures.1).1 tt

pub returns-in_err-read_uleb128-in-DW_OP_constx-clause-parts : goal.returns-in_err-read_uleb128-in-DW_OP_constx-clause-parts
returns-in_err-read_uleb128-in-DW_OP_constx-clause-parts g c = rw (err_from_is_err_and c.from_residual-in_err-read_uleb128-in-DW_OP_constx.result c.from_residual-in_err-read_uleb128-in-DW_OP_constx.ensures.1).1 tt

pub returns-in_ok-read_uleb128-in-DW_OP_constx-clause-err : goal.returns-in_ok-read_uleb128-in-DW_OP_constx-clause-err
returns-in_ok-read_uleb128-in-DW_OP_constx-clause-err g c = tt

pub returns-in_default-clause-err : goal.returns-in_default-clause-err
returns-in_default-clause-err g c = tt

pub returns-in_ok-read_address-in-DW_OP_addr-clause-parts : goal.returns-in_ok-read_address-in-DW_OP_addr-clause-parts
returns-in_ok-read_address-in-DW_OP_addr-clause-parts g c = tt

pub returns-in_ok-read_u8-in-DW_OP_const1u-clause-parts : goal.returns-in_ok-read_u8-in-DW_OP_const1u-clause-parts
returns-in_ok-read_u8-in-DW_OP_const1u-clause-parts g c = tt

pub returns-in_ok-read_i8-in-DW_OP_const1s-clause-parts : goal.returns-in_ok-read_i8-in-DW_OP_const1s-clause-parts
returns-in_ok-read_i8-in-DW_OP_const1s-clause-parts g c = tt

pub returns-in_ok-read_u16-in-DW_OP_const2u-clause-parts : goal.returns-in_ok-read_u16-in-DW_OP_const2u-clause-parts
returns-in_ok-read_u16-in-DW_OP_const2u-clause-parts g c = tt

pub returns-in_ok-read_i16-in-DW_OP_const2s-clause-parts : goal.returns-in_ok-read_i16-in-DW_OP_const2s-clause-parts
returns-in_ok-read_i16-in-DW_OP_const2s-clause-parts g c = tt

pub returns-in_ok-read_u32-in-DW_OP_const4u-clause-parts : goal.returns-in_ok-read_u32-in-DW_OP_const4u-clause-parts
returns-in_ok-read_u32-in-DW_OP_const4u-clause-parts g c = tt

pub returns-in_ok-read_i32-in-DW_OP_const4s-clause-parts : goal.returns-in_ok-read_i32-in-DW_OP_const4s-clause-parts
returns-in_ok-read_i32-in-DW_OP_const4s-clause-parts g c = tt

pub returns-in_ok-read_u64-in-DW_OP_const8u-clause-parts : goal.returns-in_ok-read_u64-in-DW_OP_const8u-clause-parts
returns-in_ok-read_u64-in-DW_OP_const8u-clause-parts g c = tt

pub returns-in_ok-read_i64-in-DW_OP_const8s-clause-parts : goal.returns-in_ok-read_i64-in-DW_OP_const8s-clause-parts
returns-in_ok-read_i64-in-DW_OP_const8s-clause-parts g c = tt

pub returns-in_ok-read_uleb128-in-DW_OP_constu-clause-parts : goal.returns-in_ok-read_uleb128-in-DW_OP_constu-clause-parts
returns-in_ok-read_uleb128-in-DW_OP_constu-clause-parts g c = tt

pub returns-in_ok-read_sleb128-in-DW_OP_consts-clause-parts : goal.returns-in_ok-read_sleb128-in-DW_OP_consts-clause-parts
returns-in_ok-read_sleb128-in-DW_OP_consts-clause-parts g c = tt

pub returns-in_ok-read_uleb128-in-DW_OP_addrx-clause-parts : goal.returns-in_ok-read_uleb128-in-DW_OP_addrx-clause-parts
returns-in_ok-read_uleb128-in-DW_OP_addrx-clause-parts g c = tt

pub returns-in_ok-read_uleb128-in-DW_OP_constx-clause-parts : goal.returns-in_ok-read_uleb128-in-DW_OP_constx-clause-parts
returns-in_ok-read_uleb128-in-DW_OP_constx-clause-parts g c = tt

pub returns-in_default-clause-parts : goal.returns-in_default-clause-parts
returns-in_default-clause-parts g c = tt
