use Rattle.std.proofs.Common.{ℕ, ℤ, List, refl, arith, rules}
use Rattle.std.proofs.lemmas.Result.{err_from_is_err_and}
use Rattle.std.proofs.lemmas.Bool.{ne_eqb}
use Rattle.std.proofs.lemmas.Int.{to_z-of_z}
use mir.Val.{SFits}
use mir.Syntax.{w64}
use Rattle.dw_base.specs.Leb128.{uleb_at, sleb_at}
use Rattle.dw_read.specs.Reasons.{uleb_read, uleb16_read, sleb_read}
use Rattle.dw_read.proofs.Laws.{uleb_law, sleb_law}
use Rattle.dw_read.proofs.Chain.{took_of}
use Rattle.dw_sources.specs.Operations.{FrameOffset, RegisterOffset, EntryValue, Register, ImplicitValue, BitPiece}
use Rattle.dw_sources.specs.Operands.{block_read}
use Rattle.dw_sources.specs.OperationTable.{location_rows, piece_read, wasm_read}
use Rattle.dw_sources.proofs.TableLaws.{no_row, at_row, at_either, one_ok, one_err, two_ok, two_first, two_second, row_ok, row_err}
use Rattle.dw_sources.proofs.locations.read_location_row.Goals as goal

pub returns-in_err-read_register-in-DW_OP_regx-clause-err : goal.returns-in_err-read_register-in-DW_OP_regx-clause-err
unfolding location_rows
returns-in_err-read_register-in-DW_OP_regx-clause-err g c =
    let p = err_from_is_err_and c.from_residual.result c.from_residual.ensures.1 in
    rw (p.1, p.2) (one_err (location_rows (g.R.Reader.reading c.args.input.now).is_big c.args.encoding c.args.opcode.0) ℕ uleb16_read Register (at_row (location_rows (g.R.Reader.reading c.args.input.now).is_big c.args.encoding) c.args.opcode.0 144 _ refl (omega arith)) _ _ c.in_err-read_register-in-DW_OP_regx.ensures.err)

pub returns-in_ok-read_register-in-DW_OP_regx-clause-ok : goal.returns-in_ok-read_register-in-DW_OP_regx-clause-ok
unfolding location_rows
returns-in_ok-read_register-in-DW_OP_regx-clause-ok g c =
    one_ok (location_rows (g.R.Reader.reading c.args.input.now).is_big c.args.encoding c.args.opcode.0) ℕ uleb16_read Register (at_row (location_rows (g.R.Reader.reading c.args.input.now).is_big c.args.encoding) c.args.opcode.0 144 _ refl (omega arith)) _ _ _ c.in_ok-read_register-in-DW_OP_regx.ensures.ok

pub returns-in_err-read_sleb128-in-DW_OP_fbreg-clause-err : goal.returns-in_err-read_sleb128-in-DW_OP_fbreg-clause-err
unfolding location_rows
returns-in_err-read_sleb128-in-DW_OP_fbreg-clause-err g c =
    let p = err_from_is_err_and c.from_residual-in_err-read_sleb128-in-DW_OP_fbreg.result c.from_residual-in_err-read_sleb128-in-DW_OP_fbreg.ensures.1 in
    rw (p.1, p.2) (one_err (location_rows (g.R.Reader.reading c.args.input.now).is_big c.args.encoding c.args.opcode.0) ℤ sleb_read FrameOffset (at_row (location_rows (g.R.Reader.reading c.args.input.now).is_big c.args.encoding) c.args.opcode.0 145 _ refl (omega arith)) _ _ c.in_err-read_sleb128-in-DW_OP_fbreg.ensures.err.reason)

pub returns-in_ok-read_sleb128-in-DW_OP_fbreg-clause-ok : goal.returns-in_ok-read_sleb128-in-DW_OP_fbreg-clause-ok
unfolding location_rows
returns-in_ok-read_sleb128-in-DW_OP_fbreg-clause-ok g c =
    let fits : SFits w64 c.in_ok-read_sleb128-in-DW_OP_fbreg.field-0 = search rules in
    rw (to_z-of_z w64 c.in_ok-read_sleb128-in-DW_OP_fbreg.field-0 fits) (one_ok (location_rows (g.R.Reader.reading c.args.input.now).is_big c.args.encoding c.args.opcode.0) ℤ sleb_read FrameOffset (at_row (location_rows (g.R.Reader.reading c.args.input.now).is_big c.args.encoding) c.args.opcode.0 145 _ refl (omega arith)) _ _ _ (took_of ℤ sleb_at sleb_read _ _ _ sleb_law c.in_ok-read_sleb128-in-DW_OP_fbreg.ensures.ok))

pub returns-in_err-read_register-in-DW_OP_bregx-clause-err : goal.returns-in_err-read_register-in-DW_OP_bregx-clause-err
unfolding location_rows
returns-in_err-read_register-in-DW_OP_bregx-clause-err g c =
    let p = err_from_is_err_and c.from_residual-in_err-read_register-in-DW_OP_bregx.result c.from_residual-in_err-read_register-in-DW_OP_bregx.ensures.1 in
    rw (p.1, p.2) (two_first (location_rows (g.R.Reader.reading c.args.input.now).is_big c.args.encoding c.args.opcode.0) ℕ ℤ uleb16_read sleb_read RegisterOffset (at_row (location_rows (g.R.Reader.reading c.args.input.now).is_big c.args.encoding) c.args.opcode.0 146 _ refl (omega arith)) _ _ c.in_err-read_register-in-DW_OP_bregx.ensures.err)

pub returns-in_err-read_sleb128-in-DW_OP_bregx-clause-err : goal.returns-in_err-read_sleb128-in-DW_OP_bregx-clause-err
unfolding location_rows
returns-in_err-read_sleb128-in-DW_OP_bregx-clause-err g c =
    let p = err_from_is_err_and c.from_residual-in_err-read_sleb128-in-DW_OP_bregx.result c.from_residual-in_err-read_sleb128-in-DW_OP_bregx.ensures.1 in
    rw (p.1, p.2) (two_second (location_rows (g.R.Reader.reading c.args.input.now).is_big c.args.encoding c.args.opcode.0) ℕ ℤ uleb16_read sleb_read RegisterOffset (at_row (location_rows (g.R.Reader.reading c.args.input.now).is_big c.args.encoding) c.args.opcode.0 146 _ refl (omega arith)) _ _ _ _ c.in_ok-read_register-in-DW_OP_bregx.ensures.ok c.in_err-read_sleb128-in-DW_OP_bregx.ensures.err.reason)

pub returns-in_ok-read_sleb128-in-DW_OP_bregx-clause-ok : goal.returns-in_ok-read_sleb128-in-DW_OP_bregx-clause-ok
unfolding location_rows
returns-in_ok-read_sleb128-in-DW_OP_bregx-clause-ok g c =
    let fits : SFits w64 c.in_ok-read_sleb128-in-DW_OP_bregx.field-0 = search rules in
    rw (to_z-of_z w64 c.in_ok-read_sleb128-in-DW_OP_bregx.field-0 fits) (two_ok (location_rows (g.R.Reader.reading c.args.input.now).is_big c.args.encoding c.args.opcode.0) ℕ ℤ uleb16_read sleb_read RegisterOffset (at_row (location_rows (g.R.Reader.reading c.args.input.now).is_big c.args.encoding) c.args.opcode.0 146 _ refl (omega arith)) _ _ _ _ _ c.in_ok-read_register-in-DW_OP_bregx.ensures.ok (took_of ℤ sleb_at sleb_read _ _ _ sleb_law c.in_ok-read_sleb128-in-DW_OP_bregx.ensures.ok))

pub returns-in_err-read_piece-in-DW_OP_piece-clause-err : goal.returns-in_err-read_piece-in-DW_OP_piece-clause-err
unfolding location_rows
returns-in_err-read_piece-in-DW_OP_piece-clause-err g c =
    let p = err_from_is_err_and c.from_residual-in_err-read_piece-in-DW_OP_piece.result c.from_residual-in_err-read_piece-in-DW_OP_piece.ensures.1 in
    rw (p.1, p.2) (row_err (location_rows (g.R.Reader.reading c.args.input.now).is_big c.args.encoding c.args.opcode.0) piece_read _ _ (at_row (location_rows (g.R.Reader.reading c.args.input.now).is_big c.args.encoding) c.args.opcode.0 147 _ refl (omega arith)) c.in_err-read_piece-in-DW_OP_piece.ensures.err)

pub returns-in_ok-read_piece-in-DW_OP_piece-clause-ok : goal.returns-in_ok-read_piece-in-DW_OP_piece-clause-ok
unfolding location_rows
returns-in_ok-read_piece-in-DW_OP_piece-clause-ok g c =
    row_ok (location_rows (g.R.Reader.reading c.args.input.now).is_big c.args.encoding c.args.opcode.0) piece_read _ _ _ (at_row (location_rows (g.R.Reader.reading c.args.input.now).is_big c.args.encoding) c.args.opcode.0 147 _ refl (omega arith)) c.in_ok-read_piece-in-DW_OP_piece.ensures.ok

pub returns-in_err-read_uleb128-in-DW_OP_bit_piece-clause-err : goal.returns-in_err-read_uleb128-in-DW_OP_bit_piece-clause-err
unfolding location_rows
returns-in_err-read_uleb128-in-DW_OP_bit_piece-clause-err g c =
    let p = err_from_is_err_and c.from_residual-in_err-read_uleb128-in-DW_OP_bit_piece.result c.from_residual-in_err-read_uleb128-in-DW_OP_bit_piece.ensures.1 in
    rw (p.1, p.2) (two_first (location_rows (g.R.Reader.reading c.args.input.now).is_big c.args.encoding c.args.opcode.0) ℕ ℕ uleb_read uleb_read BitPiece (at_row (location_rows (g.R.Reader.reading c.args.input.now).is_big c.args.encoding) c.args.opcode.0 157 _ refl (omega arith)) _ _ c.in_err-read_uleb128-in-DW_OP_bit_piece.ensures.err.reason)

pub returns-in_err-read_uleb128-in-DW_OP_bit_piece-2-clause-err : goal.returns-in_err-read_uleb128-in-DW_OP_bit_piece-2-clause-err
unfolding location_rows
returns-in_err-read_uleb128-in-DW_OP_bit_piece-2-clause-err g c =
    let p = err_from_is_err_and c.from_residual-in_err-read_uleb128-in-DW_OP_bit_piece-2.result c.from_residual-in_err-read_uleb128-in-DW_OP_bit_piece-2.ensures.1 in
    rw (p.1, p.2) (two_second (location_rows (g.R.Reader.reading c.args.input.now).is_big c.args.encoding c.args.opcode.0) ℕ ℕ uleb_read uleb_read BitPiece (at_row (location_rows (g.R.Reader.reading c.args.input.now).is_big c.args.encoding) c.args.opcode.0 157 _ refl (omega arith)) _ _ _ _ (took_of ℕ uleb_at uleb_read _ _ _ uleb_law c.in_ok-read_uleb128-in-DW_OP_bit_piece.ensures.ok) c.in_err-read_uleb128-in-DW_OP_bit_piece-2.ensures.err.reason)

pub returns-in_ok-read_uleb128-in-DW_OP_bit_piece-2-clause-ok : goal.returns-in_ok-read_uleb128-in-DW_OP_bit_piece-2-clause-ok
unfolding location_rows
returns-in_ok-read_uleb128-in-DW_OP_bit_piece-2-clause-ok g c =
    two_ok (location_rows (g.R.Reader.reading c.args.input.now).is_big c.args.encoding c.args.opcode.0) ℕ ℕ uleb_read uleb_read BitPiece (at_row (location_rows (g.R.Reader.reading c.args.input.now).is_big c.args.encoding) c.args.opcode.0 157 _ refl (omega arith)) _ _ _ _ _ (took_of ℕ uleb_at uleb_read _ _ _ uleb_law c.in_ok-read_uleb128-in-DW_OP_bit_piece.ensures.ok) (took_of ℕ uleb_at uleb_read _ _ _ uleb_law c.in_ok-read_uleb128-in-DW_OP_bit_piece-2.ensures.ok)

pub returns-in_err-read_block-in-DW_OP_implicit_value-clause-err : goal.returns-in_err-read_block-in-DW_OP_implicit_value-clause-err
unfolding location_rows
returns-in_err-read_block-in-DW_OP_implicit_value-clause-err g c =
    let p = err_from_is_err_and c.from_residual-in_err-read_block-in-DW_OP_implicit_value.result c.from_residual-in_err-read_block-in-DW_OP_implicit_value.ensures.1 in
    rw (p.1, p.2) (one_err (location_rows (g.R.Reader.reading c.args.input.now).is_big c.args.encoding c.args.opcode.0) (List ℕ) block_read ImplicitValue (at_row (location_rows (g.R.Reader.reading c.args.input.now).is_big c.args.encoding) c.args.opcode.0 158 _ refl (omega arith)) _ _ c.in_err-read_block-in-DW_OP_implicit_value.ensures.err)

pub returns-in_ok-read_block-in-DW_OP_implicit_value-clause-ok : goal.returns-in_ok-read_block-in-DW_OP_implicit_value-clause-ok
unfolding location_rows
returns-in_ok-read_block-in-DW_OP_implicit_value-clause-ok g c =
    one_ok (location_rows (g.R.Reader.reading c.args.input.now).is_big c.args.encoding c.args.opcode.0) (List ℕ) block_read ImplicitValue (at_row (location_rows (g.R.Reader.reading c.args.input.now).is_big c.args.encoding) c.args.opcode.0 158 _ refl (omega arith)) _ _ _ c.in_ok-read_block-in-DW_OP_implicit_value.ensures.ok

pub returns-in_err-read_block-in-DW_OP_entry_value-clause-err : goal.returns-in_err-read_block-in-DW_OP_entry_value-clause-err
unfolding location_rows
returns-in_err-read_block-in-DW_OP_entry_value-clause-err g c =
    let p = err_from_is_err_and c.from_residual-in_err-read_block-in-DW_OP_entry_value.result c.from_residual-in_err-read_block-in-DW_OP_entry_value.ensures.1 in
    rw (p.1, p.2) (one_err (location_rows (g.R.Reader.reading c.args.input.now).is_big c.args.encoding c.args.opcode.0) (List ℕ) block_read EntryValue (at_either (location_rows (g.R.Reader.reading c.args.input.now).is_big c.args.encoding) c.args.opcode.0 163 243 _ refl refl (λ n. omega arith)) _ _ c.in_err-read_block-in-DW_OP_entry_value.ensures.err)

pub returns-in_ok-read_block-in-DW_OP_entry_value-clause-ok : goal.returns-in_ok-read_block-in-DW_OP_entry_value-clause-ok
unfolding location_rows
returns-in_ok-read_block-in-DW_OP_entry_value-clause-ok g c =
    one_ok (location_rows (g.R.Reader.reading c.args.input.now).is_big c.args.encoding c.args.opcode.0) (List ℕ) block_read EntryValue (at_either (location_rows (g.R.Reader.reading c.args.input.now).is_big c.args.encoding) c.args.opcode.0 163 243 _ refl refl (λ n. omega arith)) _ _ _ c.in_ok-read_block-in-DW_OP_entry_value.ensures.ok

pub returns-in_err-read_wasm-in-DW_OP_WASM_location-clause-err : goal.returns-in_err-read_wasm-in-DW_OP_WASM_location-clause-err
unfolding location_rows
returns-in_err-read_wasm-in-DW_OP_WASM_location-clause-err g c =
    let p = err_from_is_err_and c.from_residual-in_err-read_wasm-in-DW_OP_WASM_location.result c.from_residual-in_err-read_wasm-in-DW_OP_WASM_location.ensures.1 in
    rw (p.1, p.2) (row_err (location_rows (g.R.Reader.reading c.args.input.now).is_big c.args.encoding c.args.opcode.0) (wasm_read (g.R.Reader.reading c.args.input.now).is_big) _ _ (at_row (location_rows (g.R.Reader.reading c.args.input.now).is_big c.args.encoding) c.args.opcode.0 237 _ refl (omega arith)) c.in_err-read_wasm-in-DW_OP_WASM_location.ensures.err)

pub returns-in_ok-read_wasm-in-DW_OP_WASM_location-clause-ok : goal.returns-in_ok-read_wasm-in-DW_OP_WASM_location-clause-ok
unfolding location_rows
returns-in_ok-read_wasm-in-DW_OP_WASM_location-clause-ok g c =
    row_ok (location_rows (g.R.Reader.reading c.args.input.now).is_big c.args.encoding c.args.opcode.0) (wasm_read (g.R.Reader.reading c.args.input.now).is_big) _ _ _ (at_row (location_rows (g.R.Reader.reading c.args.input.now).is_big c.args.encoding) c.args.opcode.0 237 _ refl (omega arith)) c.in_ok-read_wasm-in-DW_OP_WASM_location.ensures.ok

pub returns-in_default-clause-ok : goal.returns-in_default-clause-ok
unfolding location_rows
returns-in_default-clause-ok g c =
    no_row (location_rows (g.R.Reader.reading c.args.input.now).is_big c.args.encoding c.args.opcode.0) _ (g.met.R.Reader.is_reading c.args.input.now) (rw (ne_eqb c.args.opcode.0 144 (omega arith), ne_eqb c.args.opcode.0 145 (omega arith), ne_eqb c.args.opcode.0 146 (omega arith), ne_eqb c.args.opcode.0 147 (omega arith), ne_eqb c.args.opcode.0 157 (omega arith), ne_eqb c.args.opcode.0 158 (omega arith), ne_eqb c.args.opcode.0 163 (omega arith), ne_eqb c.args.opcode.0 243 (omega arith), ne_eqb c.args.opcode.0 237 (omega arith)) refl)

pub returns-in_err-read_register-in-DW_OP_regx-clause-ok : goal.returns-in_err-read_register-in-DW_OP_regx-clause-ok
returns-in_err-read_register-in-DW_OP_regx-clause-ok g c = rw (err_from_is_err_and c.from_residual.result c.from_residual.ensures.1).1 tt

pub returns-in_err-read_register-in-DW_OP_regx-clause-parts : goal.returns-in_err-read_register-in-DW_OP_regx-clause-parts
returns-in_err-read_register-in-DW_OP_regx-clause-parts g c = rw (err_from_is_err_and c.from_residual.result c.from_residual.ensures.1).1 tt

pub returns-in_ok-read_register-in-DW_OP_regx-clause-err : goal.returns-in_ok-read_register-in-DW_OP_regx-clause-err
returns-in_ok-read_register-in-DW_OP_regx-clause-err g c = tt

pub returns-in_err-read_sleb128-in-DW_OP_fbreg-clause-ok : goal.returns-in_err-read_sleb128-in-DW_OP_fbreg-clause-ok
returns-in_err-read_sleb128-in-DW_OP_fbreg-clause-ok g c = rw (err_from_is_err_and c.from_residual-in_err-read_sleb128-in-DW_OP_fbreg.result c.from_residual-in_err-read_sleb128-in-DW_OP_fbreg.ensures.1).1 tt

pub returns-in_err-read_sleb128-in-DW_OP_fbreg-clause-parts : goal.returns-in_err-read_sleb128-in-DW_OP_fbreg-clause-parts
returns-in_err-read_sleb128-in-DW_OP_fbreg-clause-parts g c = rw (err_from_is_err_and c.from_residual-in_err-read_sleb128-in-DW_OP_fbreg.result c.from_residual-in_err-read_sleb128-in-DW_OP_fbreg.ensures.1).1 tt

pub returns-in_ok-read_sleb128-in-DW_OP_fbreg-clause-err : goal.returns-in_ok-read_sleb128-in-DW_OP_fbreg-clause-err
returns-in_ok-read_sleb128-in-DW_OP_fbreg-clause-err g c = tt

pub returns-in_err-read_register-in-DW_OP_bregx-clause-ok : goal.returns-in_err-read_register-in-DW_OP_bregx-clause-ok
returns-in_err-read_register-in-DW_OP_bregx-clause-ok g c = rw (err_from_is_err_and c.from_residual-in_err-read_register-in-DW_OP_bregx.result c.from_residual-in_err-read_register-in-DW_OP_bregx.ensures.1).1 tt

pub returns-in_err-read_register-in-DW_OP_bregx-clause-parts : goal.returns-in_err-read_register-in-DW_OP_bregx-clause-parts
returns-in_err-read_register-in-DW_OP_bregx-clause-parts g c = rw (err_from_is_err_and c.from_residual-in_err-read_register-in-DW_OP_bregx.result c.from_residual-in_err-read_register-in-DW_OP_bregx.ensures.1).1 tt

pub returns-in_err-read_sleb128-in-DW_OP_bregx-clause-ok : goal.returns-in_err-read_sleb128-in-DW_OP_bregx-clause-ok
returns-in_err-read_sleb128-in-DW_OP_bregx-clause-ok g c = rw (err_from_is_err_and c.from_residual-in_err-read_sleb128-in-DW_OP_bregx.result c.from_residual-in_err-read_sleb128-in-DW_OP_bregx.ensures.1).1 tt

pub returns-in_err-read_sleb128-in-DW_OP_bregx-clause-parts : goal.returns-in_err-read_sleb128-in-DW_OP_bregx-clause-parts
returns-in_err-read_sleb128-in-DW_OP_bregx-clause-parts g c = rw (err_from_is_err_and c.from_residual-in_err-read_sleb128-in-DW_OP_bregx.result c.from_residual-in_err-read_sleb128-in-DW_OP_bregx.ensures.1).1 tt

pub returns-in_ok-read_sleb128-in-DW_OP_bregx-clause-err : goal.returns-in_ok-read_sleb128-in-DW_OP_bregx-clause-err
returns-in_ok-read_sleb128-in-DW_OP_bregx-clause-err g c = tt

pub returns-in_err-read_piece-in-DW_OP_piece-clause-ok : goal.returns-in_err-read_piece-in-DW_OP_piece-clause-ok
returns-in_err-read_piece-in-DW_OP_piece-clause-ok g c = rw (err_from_is_err_and c.from_residual-in_err-read_piece-in-DW_OP_piece.result c.from_residual-in_err-read_piece-in-DW_OP_piece.ensures.1).1 tt

pub returns-in_err-read_piece-in-DW_OP_piece-clause-parts : goal.returns-in_err-read_piece-in-DW_OP_piece-clause-parts
returns-in_err-read_piece-in-DW_OP_piece-clause-parts g c = rw (err_from_is_err_and c.from_residual-in_err-read_piece-in-DW_OP_piece.result c.from_residual-in_err-read_piece-in-DW_OP_piece.ensures.1).1 tt

pub returns-in_ok-read_piece-in-DW_OP_piece-clause-err : goal.returns-in_ok-read_piece-in-DW_OP_piece-clause-err
returns-in_ok-read_piece-in-DW_OP_piece-clause-err g c = tt

pub returns-in_err-read_uleb128-in-DW_OP_bit_piece-clause-ok : goal.returns-in_err-read_uleb128-in-DW_OP_bit_piece-clause-ok
returns-in_err-read_uleb128-in-DW_OP_bit_piece-clause-ok g c = rw (err_from_is_err_and c.from_residual-in_err-read_uleb128-in-DW_OP_bit_piece.result c.from_residual-in_err-read_uleb128-in-DW_OP_bit_piece.ensures.1).1 tt

pub returns-in_err-read_uleb128-in-DW_OP_bit_piece-clause-parts : goal.returns-in_err-read_uleb128-in-DW_OP_bit_piece-clause-parts
returns-in_err-read_uleb128-in-DW_OP_bit_piece-clause-parts g c = rw (err_from_is_err_and c.from_residual-in_err-read_uleb128-in-DW_OP_bit_piece.result c.from_residual-in_err-read_uleb128-in-DW_OP_bit_piece.ensures.1).1 tt

pub returns-in_err-read_uleb128-in-DW_OP_bit_piece-2-clause-ok : goal.returns-in_err-read_uleb128-in-DW_OP_bit_piece-2-clause-ok
returns-in_err-read_uleb128-in-DW_OP_bit_piece-2-clause-ok g c = rw (err_from_is_err_and c.from_residual-in_err-read_uleb128-in-DW_OP_bit_piece-2.result c.from_residual-in_err-read_uleb128-in-DW_OP_bit_piece-2.ensures.1).1 tt

pub returns-in_err-read_uleb128-in-DW_OP_bit_piece-2-clause-parts : goal.returns-in_err-read_uleb128-in-DW_OP_bit_piece-2-clause-parts
returns-in_err-read_uleb128-in-DW_OP_bit_piece-2-clause-parts g c = rw (err_from_is_err_and c.from_residual-in_err-read_uleb128-in-DW_OP_bit_piece-2.result c.from_residual-in_err-read_uleb128-in-DW_OP_bit_piece-2.ensures.1).1 tt

pub returns-in_ok-read_uleb128-in-DW_OP_bit_piece-2-clause-err : goal.returns-in_ok-read_uleb128-in-DW_OP_bit_piece-2-clause-err
returns-in_ok-read_uleb128-in-DW_OP_bit_piece-2-clause-err g c = tt

pub returns-in_err-read_block-in-DW_OP_implicit_value-clause-ok : goal.returns-in_err-read_block-in-DW_OP_implicit_value-clause-ok
returns-in_err-read_block-in-DW_OP_implicit_value-clause-ok g c = rw (err_from_is_err_and c.from_residual-in_err-read_block-in-DW_OP_implicit_value.result c.from_residual-in_err-read_block-in-DW_OP_implicit_value.ensures.1).1 tt

pub returns-in_err-read_block-in-DW_OP_implicit_value-clause-parts : goal.returns-in_err-read_block-in-DW_OP_implicit_value-clause-parts
returns-in_err-read_block-in-DW_OP_implicit_value-clause-parts g c = rw (err_from_is_err_and c.from_residual-in_err-read_block-in-DW_OP_implicit_value.result c.from_residual-in_err-read_block-in-DW_OP_implicit_value.ensures.1).1 tt

pub returns-in_ok-read_block-in-DW_OP_implicit_value-clause-err : goal.returns-in_ok-read_block-in-DW_OP_implicit_value-clause-err
returns-in_ok-read_block-in-DW_OP_implicit_value-clause-err g c = tt

pub returns-in_err-read_block-in-DW_OP_entry_value-clause-ok : goal.returns-in_err-read_block-in-DW_OP_entry_value-clause-ok
returns-in_err-read_block-in-DW_OP_entry_value-clause-ok g c = rw (err_from_is_err_and c.from_residual-in_err-read_block-in-DW_OP_entry_value.result c.from_residual-in_err-read_block-in-DW_OP_entry_value.ensures.1).1 tt

pub returns-in_err-read_block-in-DW_OP_entry_value-clause-parts : goal.returns-in_err-read_block-in-DW_OP_entry_value-clause-parts
returns-in_err-read_block-in-DW_OP_entry_value-clause-parts g c = rw (err_from_is_err_and c.from_residual-in_err-read_block-in-DW_OP_entry_value.result c.from_residual-in_err-read_block-in-DW_OP_entry_value.ensures.1).1 tt

pub returns-in_ok-read_block-in-DW_OP_entry_value-clause-err : goal.returns-in_ok-read_block-in-DW_OP_entry_value-clause-err
returns-in_ok-read_block-in-DW_OP_entry_value-clause-err g c = tt

pub returns-in_err-read_wasm-in-DW_OP_WASM_location-clause-ok : goal.returns-in_err-read_wasm-in-DW_OP_WASM_location-clause-ok
returns-in_err-read_wasm-in-DW_OP_WASM_location-clause-ok g c = rw (err_from_is_err_and c.from_residual-in_err-read_wasm-in-DW_OP_WASM_location.result c.from_residual-in_err-read_wasm-in-DW_OP_WASM_location.ensures.1).1 tt

pub returns-in_err-read_wasm-in-DW_OP_WASM_location-clause-parts : goal.returns-in_err-read_wasm-in-DW_OP_WASM_location-clause-parts
returns-in_err-read_wasm-in-DW_OP_WASM_location-clause-parts g c = rw (err_from_is_err_and c.from_residual-in_err-read_wasm-in-DW_OP_WASM_location.result c.from_residual-in_err-read_wasm-in-DW_OP_WASM_location.ensures.1).1 tt

pub returns-in_ok-read_wasm-in-DW_OP_WASM_location-clause-err : goal.returns-in_ok-read_wasm-in-DW_OP_WASM_location-clause-err
returns-in_ok-read_wasm-in-DW_OP_WASM_location-clause-err g c = tt

pub returns-in_default-clause-err : goal.returns-in_default-clause-err
returns-in_default-clause-err g c = tt
