use Rattle.std.proofs.Common.{◌∙◌, arith, rules, ℕ, ℤ}
use Rattle.std.proofs.lemmas.Int.{to_z-of_z}
use mir.Val.{SFits}
use mir.Syntax.{w64}
use Rattle.std.proofs.lemmas.Result.{err_from_is_err_and}
use Rattle.dw_base.specs.Numbers.{number_at}
use Rattle.dw_base.specs.Leb128.{uleb_at, sleb_at}
use Rattle.dw_base.specs.LineMachine.{AdvancePc, AdvanceLine, SetFile, SetColumn, FixedAdvancePc, SetIsa}
use Rattle.dw_read.specs.Reasons.{number_read, uleb_read, sleb_read}
use Rattle.dw_read.proofs.Chain.{took_of}
use Rattle.dw_read.proofs.Laws.{uleb_law, sleb_law, number_law}
use Rattle.dw_read_lines.proofs.InstructionReads.{plain_took, one_took, one_not, other_took, row_copy, row_advance_pc, row_advance_line, row_set_file, row_set_column, row_negate_stmt, row_set_basic_block, row_const_add_pc, row_fixed_advance_pc, row_set_prologue_end, row_set_epilogue_begin, row_set_isa, row_other}
use Rattle.dw_read_lines.proofs.instruction.read_standard.Goals as goal

pub returns-in-DW_LNS_copy-clause-ok : goal.returns-in-DW_LNS_copy-clause-ok
returns-in-DW_LNS_copy-clause-ok g c = plain_took (g.R.Reader.reading c.args.input.now).is_big c.args.count c.args.opcode.0 _ (row_copy (g.R.Reader.reading c.args.input.now).is_big c.args.count c.args.opcode.0 (omega arith)) _ (g.met.R.Reader.is_reading c.args.input.now)

pub returns-in-DW_LNS_negate_stmt-clause-ok : goal.returns-in-DW_LNS_negate_stmt-clause-ok
returns-in-DW_LNS_negate_stmt-clause-ok g c = plain_took (g.R.Reader.reading c.args.input.now).is_big c.args.count c.args.opcode.0 _ (row_negate_stmt (g.R.Reader.reading c.args.input.now).is_big c.args.count c.args.opcode.0 (omega arith)) _ (g.met.R.Reader.is_reading c.args.input.now)

pub returns-in-DW_LNS_set_basic_block-clause-ok : goal.returns-in-DW_LNS_set_basic_block-clause-ok
returns-in-DW_LNS_set_basic_block-clause-ok g c = plain_took (g.R.Reader.reading c.args.input.now).is_big c.args.count c.args.opcode.0 _ (row_set_basic_block (g.R.Reader.reading c.args.input.now).is_big c.args.count c.args.opcode.0 (omega arith)) _ (g.met.R.Reader.is_reading c.args.input.now)

pub returns-in-DW_LNS_const_add_pc-clause-ok : goal.returns-in-DW_LNS_const_add_pc-clause-ok
returns-in-DW_LNS_const_add_pc-clause-ok g c = plain_took (g.R.Reader.reading c.args.input.now).is_big c.args.count c.args.opcode.0 _ (row_const_add_pc (g.R.Reader.reading c.args.input.now).is_big c.args.count c.args.opcode.0 (omega arith)) _ (g.met.R.Reader.is_reading c.args.input.now)

pub returns-in-DW_LNS_set_prologue_end-clause-ok : goal.returns-in-DW_LNS_set_prologue_end-clause-ok
returns-in-DW_LNS_set_prologue_end-clause-ok g c = plain_took (g.R.Reader.reading c.args.input.now).is_big c.args.count c.args.opcode.0 _ (row_set_prologue_end (g.R.Reader.reading c.args.input.now).is_big c.args.count c.args.opcode.0 (omega arith)) _ (g.met.R.Reader.is_reading c.args.input.now)

pub returns-in-DW_LNS_set_epilogue_begin-clause-ok : goal.returns-in-DW_LNS_set_epilogue_begin-clause-ok
returns-in-DW_LNS_set_epilogue_begin-clause-ok g c = plain_took (g.R.Reader.reading c.args.input.now).is_big c.args.count c.args.opcode.0 _ (row_set_epilogue_begin (g.R.Reader.reading c.args.input.now).is_big c.args.count c.args.opcode.0 (omega arith)) _ (g.met.R.Reader.is_reading c.args.input.now)

pub returns-in_err-read_uleb128-in-DW_LNS_advance_pc-clause-err : goal.returns-in_err-read_uleb128-in-DW_LNS_advance_pc-clause-err
returns-in_err-read_uleb128-in-DW_LNS_advance_pc-clause-err g c =
    let big = (g.R.Reader.reading c.args.input.now).is_big in
    let p = err_from_is_err_and c.from_residual.result c.from_residual.ensures.1 in
    rw (p.1, p.2) (one_not big c.args.count c.args.opcode.0 ℕ uleb_read AdvancePc (row_advance_pc big c.args.count c.args.opcode.0 (omega arith)) _ _ c.in_err-read_uleb128-in-DW_LNS_advance_pc.ensures.err.reason)

pub returns-in_ok-read_uleb128-in-DW_LNS_advance_pc-clause-ok : goal.returns-in_ok-read_uleb128-in-DW_LNS_advance_pc-clause-ok
returns-in_ok-read_uleb128-in-DW_LNS_advance_pc-clause-ok g c =
    let big = (g.R.Reader.reading c.args.input.now).is_big in
    one_took big c.args.count c.args.opcode.0 ℕ uleb_read AdvancePc (row_advance_pc big c.args.count c.args.opcode.0 (omega arith)) _ _ _ (took_of ℕ uleb_at uleb_read _ _ _ uleb_law c.in_ok-read_uleb128-in-DW_LNS_advance_pc.ensures.ok)

pub returns-in_err-read_sleb128-in-DW_LNS_advance_line-clause-err : goal.returns-in_err-read_sleb128-in-DW_LNS_advance_line-clause-err
returns-in_err-read_sleb128-in-DW_LNS_advance_line-clause-err g c =
    let big = (g.R.Reader.reading c.args.input.now).is_big in
    let p = err_from_is_err_and c.from_residual-in_err-read_sleb128-in-DW_LNS_advance_line.result c.from_residual-in_err-read_sleb128-in-DW_LNS_advance_line.ensures.1 in
    rw (p.1, p.2) (one_not big c.args.count c.args.opcode.0 ℤ sleb_read AdvanceLine (row_advance_line big c.args.count c.args.opcode.0 (omega arith)) _ _ c.in_err-read_sleb128-in-DW_LNS_advance_line.ensures.err.reason)

pub returns-in_ok-read_sleb128-in-DW_LNS_advance_line-clause-ok : goal.returns-in_ok-read_sleb128-in-DW_LNS_advance_line-clause-ok
returns-in_ok-read_sleb128-in-DW_LNS_advance_line-clause-ok g c =
    let big = (g.R.Reader.reading c.args.input.now).is_big in
    let z = c.in_ok-read_sleb128-in-DW_LNS_advance_line.field-0 in
    let fits : SFits w64 z = search rules in
    rw (to_z-of_z w64 z fits) (one_took big c.args.count c.args.opcode.0 ℤ sleb_read AdvanceLine (row_advance_line big c.args.count c.args.opcode.0 (omega arith)) _ _ _ (took_of ℤ sleb_at sleb_read _ _ _ sleb_law c.in_ok-read_sleb128-in-DW_LNS_advance_line.ensures.ok))

pub returns-in_err-read_uleb128-in-DW_LNS_set_file-clause-err : goal.returns-in_err-read_uleb128-in-DW_LNS_set_file-clause-err
returns-in_err-read_uleb128-in-DW_LNS_set_file-clause-err g c =
    let big = (g.R.Reader.reading c.args.input.now).is_big in
    let p = err_from_is_err_and c.from_residual-in_err-read_uleb128-in-DW_LNS_set_file.result c.from_residual-in_err-read_uleb128-in-DW_LNS_set_file.ensures.1 in
    rw (p.1, p.2) (one_not big c.args.count c.args.opcode.0 ℕ uleb_read SetFile (row_set_file big c.args.count c.args.opcode.0 (omega arith)) _ _ c.in_err-read_uleb128-in-DW_LNS_set_file.ensures.err.reason)

pub returns-in_ok-read_uleb128-in-DW_LNS_set_file-clause-ok : goal.returns-in_ok-read_uleb128-in-DW_LNS_set_file-clause-ok
returns-in_ok-read_uleb128-in-DW_LNS_set_file-clause-ok g c =
    let big = (g.R.Reader.reading c.args.input.now).is_big in
    one_took big c.args.count c.args.opcode.0 ℕ uleb_read SetFile (row_set_file big c.args.count c.args.opcode.0 (omega arith)) _ _ _ (took_of ℕ uleb_at uleb_read _ _ _ uleb_law c.in_ok-read_uleb128-in-DW_LNS_set_file.ensures.ok)

pub returns-in_err-read_uleb128-in-DW_LNS_set_column-clause-err : goal.returns-in_err-read_uleb128-in-DW_LNS_set_column-clause-err
returns-in_err-read_uleb128-in-DW_LNS_set_column-clause-err g c =
    let big = (g.R.Reader.reading c.args.input.now).is_big in
    let p = err_from_is_err_and c.from_residual-in_err-read_uleb128-in-DW_LNS_set_column.result c.from_residual-in_err-read_uleb128-in-DW_LNS_set_column.ensures.1 in
    rw (p.1, p.2) (one_not big c.args.count c.args.opcode.0 ℕ uleb_read SetColumn (row_set_column big c.args.count c.args.opcode.0 (omega arith)) _ _ c.in_err-read_uleb128-in-DW_LNS_set_column.ensures.err.reason)

pub returns-in_ok-read_uleb128-in-DW_LNS_set_column-clause-ok : goal.returns-in_ok-read_uleb128-in-DW_LNS_set_column-clause-ok
returns-in_ok-read_uleb128-in-DW_LNS_set_column-clause-ok g c =
    let big = (g.R.Reader.reading c.args.input.now).is_big in
    one_took big c.args.count c.args.opcode.0 ℕ uleb_read SetColumn (row_set_column big c.args.count c.args.opcode.0 (omega arith)) _ _ _ (took_of ℕ uleb_at uleb_read _ _ _ uleb_law c.in_ok-read_uleb128-in-DW_LNS_set_column.ensures.ok)

pub returns-in_err-read_u16-in-DW_LNS_fixed_advance_pc-clause-err : goal.returns-in_err-read_u16-in-DW_LNS_fixed_advance_pc-clause-err
returns-in_err-read_u16-in-DW_LNS_fixed_advance_pc-clause-err g c =
    let big = (g.R.Reader.reading c.args.input.now).is_big in
    let p = err_from_is_err_and c.from_residual-in_err-read_u16-in-DW_LNS_fixed_advance_pc.result c.from_residual-in_err-read_u16-in-DW_LNS_fixed_advance_pc.ensures.1 in
    rw (p.1, p.2) (one_not big c.args.count c.args.opcode.0 ℕ (number_read big 2) FixedAdvancePc (row_fixed_advance_pc big c.args.count c.args.opcode.0 (omega arith)) _ _ c.in_err-read_u16-in-DW_LNS_fixed_advance_pc.ensures.err.reason)

pub returns-in_ok-read_u16-in-DW_LNS_fixed_advance_pc-clause-ok : goal.returns-in_ok-read_u16-in-DW_LNS_fixed_advance_pc-clause-ok
returns-in_ok-read_u16-in-DW_LNS_fixed_advance_pc-clause-ok g c =
    let big = (g.R.Reader.reading c.args.input.now).is_big in
    one_took big c.args.count c.args.opcode.0 ℕ (number_read big 2) FixedAdvancePc (row_fixed_advance_pc big c.args.count c.args.opcode.0 (omega arith)) _ _ _ (took_of ℕ (number_at big 2) (number_read big 2) _ _ _ (number_law big 2) c.in_ok-read_u16-in-DW_LNS_fixed_advance_pc.ensures.ok)

pub returns-in_err-read_uleb128-in-DW_LNS_set_isa-clause-err : goal.returns-in_err-read_uleb128-in-DW_LNS_set_isa-clause-err
returns-in_err-read_uleb128-in-DW_LNS_set_isa-clause-err g c =
    let big = (g.R.Reader.reading c.args.input.now).is_big in
    let p = err_from_is_err_and c.from_residual-in_err-read_uleb128-in-DW_LNS_set_isa.result c.from_residual-in_err-read_uleb128-in-DW_LNS_set_isa.ensures.1 in
    rw (p.1, p.2) (one_not big c.args.count c.args.opcode.0 ℕ uleb_read SetIsa (row_set_isa big c.args.count c.args.opcode.0 (omega arith)) _ _ c.in_err-read_uleb128-in-DW_LNS_set_isa.ensures.err.reason)

pub returns-in_ok-read_uleb128-in-DW_LNS_set_isa-clause-ok : goal.returns-in_ok-read_uleb128-in-DW_LNS_set_isa-clause-ok
returns-in_ok-read_uleb128-in-DW_LNS_set_isa-clause-ok g c =
    let big = (g.R.Reader.reading c.args.input.now).is_big in
    one_took big c.args.count c.args.opcode.0 ℕ uleb_read SetIsa (row_set_isa big c.args.count c.args.opcode.0 (omega arith)) _ _ _ (took_of ℕ uleb_at uleb_read _ _ _ uleb_law c.in_ok-read_uleb128-in-DW_LNS_set_isa.ensures.ok)

pub returns-in_err-pass_operands-in_default-clause-err : goal.returns-in_err-pass_operands-in_default-clause-err
returns-in_err-pass_operands-in_default-clause-err g c =
    let big = (g.R.Reader.reading c.args.input.now).is_big in
    let p = err_from_is_err_and c.from_residual-in_err-pass_operands-in_default.result c.from_residual-in_err-pass_operands-in_default.ensures.1 in
    rw (p.1, p.2) (row_other big c.args.count c.args.opcode.0 _ (omega arith) (omega arith) (omega arith) (omega arith) (omega arith) (omega arith) (omega arith) (omega arith) (omega arith) (omega arith) (omega arith) (omega arith) ∙ c.in_err-pass_operands-in_default.ensures.err)

pub returns-in_ok-pass_operands-in_default-clause-ok : goal.returns-in_ok-pass_operands-in_default-clause-ok
returns-in_ok-pass_operands-in_default-clause-ok g c =
    let big = (g.R.Reader.reading c.args.input.now).is_big in
    other_took big c.args.count c.args.opcode.0 _ _ (row_other big c.args.count c.args.opcode.0 _ (omega arith) (omega arith) (omega arith) (omega arith) (omega arith) (omega arith) (omega arith) (omega arith) (omega arith) (omega arith) (omega arith) (omega arith)) c.in_ok-pass_operands-in_default.ensures.ok
