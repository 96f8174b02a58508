use Rattle.std.proofs.Common.{ℕ, ℤ, refl, arith, rules}
use Rattle.std.proofs.lemmas.Result.{err_from_is_err_and}
use Rattle.std.proofs.lemmas.Bool.{ne_eqb}
use Rattle.std.proofs.lemmas.Int.{to_z-of_z}
use mir.Val.{SFits}
use mir.Syntax.{w64}
use Rattle.dw_base.specs.Numbers.{number_at, word_of}
use Rattle.dw_base.specs.Leb128.{sleb_at}
use Rattle.dw_read.specs.Reasons.{number_read, sleb_read}
use Rattle.dw_read.proofs.Laws.{number_law, sleb_law}
use Rattle.dw_read.proofs.Chain.{took_of}
use Rattle.dw_sources.specs.Operations.{Call, CallRef, VariableValue, ImplicitPointer, ParameterRef}
use Rattle.dw_sources.specs.Operands.{info_place_read}
use Rattle.dw_sources.specs.OperationTable.{entry_operations}
use Rattle.dw_sources.proofs.TableLaws.{no_row, at_row, at_either, one_ok, one_err, two_ok, two_first, two_second}
use Rattle.dw_sources.proofs.named_entries.read_of_entry.Goals as goal

pub returns-in_err-read_u16-in-DW_OP_call2-clause-err : goal.returns-in_err-read_u16-in-DW_OP_call2-clause-err
unfolding entry_operations
returns-in_err-read_u16-in-DW_OP_call2-clause-err g c =
    let p = err_from_is_err_and c.from_residual.result c.from_residual.ensures.1 in
    rw (p.1, p.2) (one_err (entry_operations (g.R.Reader.reading c.args.input.now).is_big c.args.encoding c.args.opcode.0) ℕ (number_read (g.R.Reader.reading c.args.input.now).is_big 2) Call (at_row (entry_operations (g.R.Reader.reading c.args.input.now).is_big c.args.encoding) c.args.opcode.0 152 _ refl (omega arith)) _ _ c.in_err-read_u16-in-DW_OP_call2.ensures.err.reason)

pub returns-in_ok-read_u16-in-DW_OP_call2-clause-ok : goal.returns-in_ok-read_u16-in-DW_OP_call2-clause-ok
unfolding entry_operations
returns-in_ok-read_u16-in-DW_OP_call2-clause-ok g c =
    one_ok (entry_operations (g.R.Reader.reading c.args.input.now).is_big c.args.encoding c.args.opcode.0) ℕ (number_read (g.R.Reader.reading c.args.input.now).is_big 2) Call (at_row (entry_operations (g.R.Reader.reading c.args.input.now).is_big c.args.encoding) c.args.opcode.0 152 _ refl (omega arith)) _ _ _ (took_of ℕ (number_at (g.R.Reader.reading c.args.input.now).is_big 2) (number_read (g.R.Reader.reading c.args.input.now).is_big 2) _ _ _ (number_law (g.R.Reader.reading c.args.input.now).is_big 2) c.in_ok-read_u16-in-DW_OP_call2.ensures.ok)

pub returns-in_err-read_u32-in-DW_OP_call4-clause-err : goal.returns-in_err-read_u32-in-DW_OP_call4-clause-err
unfolding entry_operations
returns-in_err-read_u32-in-DW_OP_call4-clause-err g c =
    let p = err_from_is_err_and c.from_residual-in_err-read_u32-in-DW_OP_call4.result c.from_residual-in_err-read_u32-in-DW_OP_call4.ensures.1 in
    rw (p.1, p.2) (one_err (entry_operations (g.R.Reader.reading c.args.input.now).is_big c.args.encoding c.args.opcode.0) ℕ (number_read (g.R.Reader.reading c.args.input.now).is_big 4) Call (at_row (entry_operations (g.R.Reader.reading c.args.input.now).is_big c.args.encoding) c.args.opcode.0 153 _ refl (omega arith)) _ _ c.in_err-read_u32-in-DW_OP_call4.ensures.err.reason)

pub returns-in_ok-read_u32-in-DW_OP_call4-clause-ok : goal.returns-in_ok-read_u32-in-DW_OP_call4-clause-ok
unfolding entry_operations
returns-in_ok-read_u32-in-DW_OP_call4-clause-ok g c =
    one_ok (entry_operations (g.R.Reader.reading c.args.input.now).is_big c.args.encoding c.args.opcode.0) ℕ (number_read (g.R.Reader.reading c.args.input.now).is_big 4) Call (at_row (entry_operations (g.R.Reader.reading c.args.input.now).is_big c.args.encoding) c.args.opcode.0 153 _ refl (omega arith)) _ _ _ (took_of ℕ (number_at (g.R.Reader.reading c.args.input.now).is_big 4) (number_read (g.R.Reader.reading c.args.input.now).is_big 4) _ _ _ (number_law (g.R.Reader.reading c.args.input.now).is_big 4) c.in_ok-read_u32-in-DW_OP_call4.ensures.ok)

pub returns-in_err-read_word-in-DW_OP_call_ref-clause-err : goal.returns-in_err-read_word-in-DW_OP_call_ref-clause-err
unfolding entry_operations
returns-in_err-read_word-in-DW_OP_call_ref-clause-err g c =
    let p = err_from_is_err_and c.from_residual-in_err-read_word-in-DW_OP_call_ref.result c.from_residual-in_err-read_word-in-DW_OP_call_ref.ensures.1 in
    rw (p.1, p.2) (one_err (entry_operations (g.R.Reader.reading c.args.input.now).is_big c.args.encoding c.args.opcode.0) ℕ (number_read (g.R.Reader.reading c.args.input.now).is_big (word_of c.args.encoding.format)) CallRef (at_row (entry_operations (g.R.Reader.reading c.args.input.now).is_big c.args.encoding) c.args.opcode.0 154 _ refl (omega arith)) _ _ c.in_err-read_word-in-DW_OP_call_ref.ensures.err.reason)

pub returns-in_ok-read_word-in-DW_OP_call_ref-clause-ok : goal.returns-in_ok-read_word-in-DW_OP_call_ref-clause-ok
unfolding entry_operations
returns-in_ok-read_word-in-DW_OP_call_ref-clause-ok g c =
    one_ok (entry_operations (g.R.Reader.reading c.args.input.now).is_big c.args.encoding c.args.opcode.0) ℕ (number_read (g.R.Reader.reading c.args.input.now).is_big (word_of c.args.encoding.format)) CallRef (at_row (entry_operations (g.R.Reader.reading c.args.input.now).is_big c.args.encoding) c.args.opcode.0 154 _ refl (omega arith)) _ _ _ (took_of ℕ (number_at (g.R.Reader.reading c.args.input.now).is_big (word_of c.args.encoding.format)) (number_read (g.R.Reader.reading c.args.input.now).is_big (word_of c.args.encoding.format)) _ _ _ (number_law (g.R.Reader.reading c.args.input.now).is_big (word_of c.args.encoding.format)) c.in_ok-read_word-in-DW_OP_call_ref.ensures.ok)

pub returns-in_err-read_info_place-in-DW_OP_implicit_pointer-clause-err : goal.returns-in_err-read_info_place-in-DW_OP_implicit_pointer-clause-err
unfolding entry_operations
returns-in_err-read_info_place-in-DW_OP_implicit_pointer-clause-err g c =
    let p = err_from_is_err_and c.from_residual-in_err-read_info_place-in-DW_OP_implicit_pointer.result c.from_residual-in_err-read_info_place-in-DW_OP_implicit_pointer.ensures.1 in
    rw (p.1, p.2) (two_first (entry_operations (g.R.Reader.reading c.args.input.now).is_big c.args.encoding c.args.opcode.0) ℕ ℤ (info_place_read (g.R.Reader.reading c.args.input.now).is_big c.args.encoding) sleb_read ImplicitPointer (at_either (entry_operations (g.R.Reader.reading c.args.input.now).is_big c.args.encoding) c.args.opcode.0 160 242 _ refl refl (λ n. omega arith)) _ _ c.in_err-read_info_place-in-DW_OP_implicit_pointer.ensures.err)

pub returns-in_err-read_sleb128-in-DW_OP_implicit_pointer-clause-err : goal.returns-in_err-read_sleb128-in-DW_OP_implicit_pointer-clause-err
unfolding entry_operations
returns-in_err-read_sleb128-in-DW_OP_implicit_pointer-clause-err g c =
    let p = err_from_is_err_and c.from_residual-in_err-read_sleb128-in-DW_OP_implicit_pointer.result c.from_residual-in_err-read_sleb128-in-DW_OP_implicit_pointer.ensures.1 in
    rw (p.1, p.2) (two_second (entry_operations (g.R.Reader.reading c.args.input.now).is_big c.args.encoding c.args.opcode.0) ℕ ℤ (info_place_read (g.R.Reader.reading c.args.input.now).is_big c.args.encoding) sleb_read ImplicitPointer (at_either (entry_operations (g.R.Reader.reading c.args.input.now).is_big c.args.encoding) c.args.opcode.0 160 242 _ refl refl (λ n. omega arith)) _ _ _ _ c.in_ok-read_info_place-in-DW_OP_implicit_pointer.ensures.ok c.in_err-read_sleb128-in-DW_OP_implicit_pointer.ensures.err.reason)

pub returns-in_ok-read_sleb128-in-DW_OP_implicit_pointer-clause-ok : goal.returns-in_ok-read_sleb128-in-DW_OP_implicit_pointer-clause-ok
unfolding entry_operations
returns-in_ok-read_sleb128-in-DW_OP_implicit_pointer-clause-ok g c =
    let fits : SFits w64 c.in_ok-read_sleb128-in-DW_OP_implicit_pointer.field-0 = search rules in
    rw (to_z-of_z w64 c.in_ok-read_sleb128-in-DW_OP_implicit_pointer.field-0 fits) (two_ok (entry_operations (g.R.Reader.reading c.args.input.now).is_big c.args.encoding c.args.opcode.0) ℕ ℤ (info_place_read (g.R.Reader.reading c.args.input.now).is_big c.args.encoding) sleb_read ImplicitPointer (at_either (entry_operations (g.R.Reader.reading c.args.input.now).is_big c.args.encoding) c.args.opcode.0 160 242 _ refl refl (λ n. omega arith)) _ _ _ _ _ c.in_ok-read_info_place-in-DW_OP_implicit_pointer.ensures.ok (took_of ℤ sleb_at sleb_read _ _ _ sleb_law c.in_ok-read_sleb128-in-DW_OP_implicit_pointer.ensures.ok))

pub returns-in_err-read_u32-in-DW_OP_GNU_parameter_ref-clause-err : goal.returns-in_err-read_u32-in-DW_OP_GNU_parameter_ref-clause-err
unfolding entry_operations
returns-in_err-read_u32-in-DW_OP_GNU_parameter_ref-clause-err g c =
    let p = err_from_is_err_and c.from_residual-in_err-read_u32-in-DW_OP_GNU_parameter_ref.result c.from_residual-in_err-read_u32-in-DW_OP_GNU_parameter_ref.ensures.1 in
    rw (p.1, p.2) (one_err (entry_operations (g.R.Reader.reading c.args.input.now).is_big c.args.encoding c.args.opcode.0) ℕ (number_read (g.R.Reader.reading c.args.input.now).is_big 4) ParameterRef (at_row (entry_operations (g.R.Reader.reading c.args.input.now).is_big c.args.encoding) c.args.opcode.0 250 _ refl (omega arith)) _ _ c.in_err-read_u32-in-DW_OP_GNU_parameter_ref.ensures.err.reason)

pub returns-in_ok-read_u32-in-DW_OP_GNU_parameter_ref-clause-ok : goal.returns-in_ok-read_u32-in-DW_OP_GNU_parameter_ref-clause-ok
unfolding entry_operations
returns-in_ok-read_u32-in-DW_OP_GNU_parameter_ref-clause-ok g c =
    one_ok (entry_operations (g.R.Reader.reading c.args.input.now).is_big c.args.encoding c.args.opcode.0) ℕ (number_read (g.R.Reader.reading c.args.input.now).is_big 4) ParameterRef (at_row (entry_operations (g.R.Reader.reading c.args.input.now).is_big c.args.encoding) c.args.opcode.0 250 _ refl (omega arith)) _ _ _ (took_of ℕ (number_at (g.R.Reader.reading c.args.input.now).is_big 4) (number_read (g.R.Reader.reading c.args.input.now).is_big 4) _ _ _ (number_law (g.R.Reader.reading c.args.input.now).is_big 4) c.in_ok-read_u32-in-DW_OP_GNU_parameter_ref.ensures.ok)

pub returns-in_err-read_word-in-DW_OP_GNU_variable_value-clause-err : goal.returns-in_err-read_word-in-DW_OP_GNU_variable_value-clause-err
unfolding entry_operations
returns-in_err-read_word-in-DW_OP_GNU_variable_value-clause-err g c =
    let p = err_from_is_err_and c.from_residual-in_err-read_word-in-DW_OP_GNU_variable_value.result c.from_residual-in_err-read_word-in-DW_OP_GNU_variable_value.ensures.1 in
    rw (p.1, p.2) (one_err (entry_operations (g.R.Reader.reading c.args.input.now).is_big c.args.encoding c.args.opcode.0) ℕ (number_read (g.R.Reader.reading c.args.input.now).is_big (word_of c.args.encoding.format)) VariableValue (at_row (entry_operations (g.R.Reader.reading c.args.input.now).is_big c.args.encoding) c.args.opcode.0 253 _ refl (omega arith)) _ _ c.in_err-read_word-in-DW_OP_GNU_variable_value.ensures.err.reason)

pub returns-in_ok-read_word-in-DW_OP_GNU_variable_value-clause-ok : goal.returns-in_ok-read_word-in-DW_OP_GNU_variable_value-clause-ok
unfolding entry_operations
returns-in_ok-read_word-in-DW_OP_GNU_variable_value-clause-ok g c =
    one_ok (entry_operations (g.R.Reader.reading c.args.input.now).is_big c.args.encoding c.args.opcode.0) ℕ (number_read (g.R.Reader.reading c.args.input.now).is_big (word_of c.args.encoding.format)) VariableValue (at_row (entry_operations (g.R.Reader.reading c.args.input.now).is_big c.args.encoding) c.args.opcode.0 253 _ refl (omega arith)) _ _ _ (took_of ℕ (number_at (g.R.Reader.reading c.args.input.now).is_big (word_of c.args.encoding.format)) (number_read (g.R.Reader.reading c.args.input.now).is_big (word_of c.args.encoding.format)) _ _ _ (number_law (g.R.Reader.reading c.args.input.now).is_big (word_of c.args.encoding.format)) c.in_ok-read_word-in-DW_OP_GNU_variable_value.ensures.ok)

pub returns-in_default-clause-ok : goal.returns-in_default-clause-ok
unfolding entry_operations
returns-in_default-clause-ok g c =
    no_row (entry_operations (g.R.Reader.reading c.args.input.now).is_big c.args.encoding c.args.opcode.0) _ (g.met.R.Reader.is_reading c.args.input.now) (rw (ne_eqb c.args.opcode.0 152 (omega arith), ne_eqb c.args.opcode.0 153 (omega arith), ne_eqb c.args.opcode.0 154 (omega arith), ne_eqb c.args.opcode.0 160 (omega arith), ne_eqb c.args.opcode.0 242 (omega arith), ne_eqb c.args.opcode.0 250 (omega arith), ne_eqb c.args.opcode.0 253 (omega arith)) refl)

pub returns-in_err-read_u16-in-DW_OP_call2-clause-ok : goal.returns-in_err-read_u16-in-DW_OP_call2-clause-ok
returns-in_err-read_u16-in-DW_OP_call2-clause-ok g c = rw (err_from_is_err_and c.from_residual.result c.from_residual.ensures.1).1 tt

pub returns-in_err-read_u16-in-DW_OP_call2-clause-parts : goal.returns-in_err-read_u16-in-DW_OP_call2-clause-parts
returns-in_err-read_u16-in-DW_OP_call2-clause-parts g c = rw (err_from_is_err_and c.from_residual.result c.from_residual.ensures.1).1 tt

pub returns-in_ok-read_u16-in-DW_OP_call2-clause-err : goal.returns-in_ok-read_u16-in-DW_OP_call2-clause-err
returns-in_ok-read_u16-in-DW_OP_call2-clause-err g c = tt

pub returns-in_err-read_u32-in-DW_OP_call4-clause-ok : goal.returns-in_err-read_u32-in-DW_OP_call4-clause-ok
returns-in_err-read_u32-in-DW_OP_call4-clause-ok g c = rw (err_from_is_err_and c.from_residual-in_err-read_u32-in-DW_OP_call4.result c.from_residual-in_err-read_u32-in-DW_OP_call4.ensures.1).1 tt

pub returns-in_err-read_u32-in-DW_OP_call4-clause-parts : goal.returns-in_err-read_u32-in-DW_OP_call4-clause-parts
returns-in_err-read_u32-in-DW_OP_call4-clause-parts g c = rw (err_from_is_err_and c.from_residual-in_err-read_u32-in-DW_OP_call4.result c.from_residual-in_err-read_u32-in-DW_OP_call4.ensures.1).1 tt

pub returns-in_ok-read_u32-in-DW_OP_call4-clause-err : goal.returns-in_ok-read_u32-in-DW_OP_call4-clause-err
returns-in_ok-read_u32-in-DW_OP_call4-clause-err g c = tt

pub returns-in_err-read_word-in-DW_OP_call_ref-clause-ok : goal.returns-in_err-read_word-in-DW_OP_call_ref-clause-ok
returns-in_err-read_word-in-DW_OP_call_ref-clause-ok g c = rw (err_from_is_err_and c.from_residual-in_err-read_word-in-DW_OP_call_ref.result c.from_residual-in_err-read_word-in-DW_OP_call_ref.ensures.1).1 tt

pub returns-in_err-read_word-in-DW_OP_call_ref-clause-parts : goal.returns-in_err-read_word-in-DW_OP_call_ref-clause-parts
returns-in_err-read_word-in-DW_OP_call_ref-clause-parts g c = rw (err_from_is_err_and c.from_residual-in_err-read_word-in-DW_OP_call_ref.result c.from_residual-in_err-read_word-in-DW_OP_call_ref.ensures.1).1 tt

pub returns-in_ok-read_word-in-DW_OP_call_ref-clause-err : goal.returns-in_ok-read_word-in-DW_OP_call_ref-clause-err
returns-in_ok-read_word-in-DW_OP_call_ref-clause-err g c = tt

pub returns-in_err-read_info_place-in-DW_OP_implicit_pointer-clause-ok : goal.returns-in_err-read_info_place-in-DW_OP_implicit_pointer-clause-ok
returns-in_err-read_info_place-in-DW_OP_implicit_pointer-clause-ok g c = rw (err_from_is_err_and c.from_residual-in_err-read_info_place-in-DW_OP_implicit_pointer.result c.from_residual-in_err-read_info_place-in-DW_OP_implicit_pointer.ensures.1).1 tt

pub returns-in_err-read_info_place-in-DW_OP_implicit_pointer-clause-parts : goal.returns-in_err-read_info_place-in-DW_OP_implicit_pointer-clause-parts
returns-in_err-read_info_place-in-DW_OP_implicit_pointer-clause-parts g c = rw (err_from_is_err_and c.from_residual-in_err-read_info_place-in-DW_OP_implicit_pointer.result c.from_residual-in_err-read_info_place-in-DW_OP_implicit_pointer.ensures.1).1 tt

pub returns-in_err-read_sleb128-in-DW_OP_implicit_pointer-clause-ok : goal.returns-in_err-read_sleb128-in-DW_OP_implicit_pointer-clause-ok
returns-in_err-read_sleb128-in-DW_OP_implicit_pointer-clause-ok g c = rw (err_from_is_err_and c.from_residual-in_err-read_sleb128-in-DW_OP_implicit_pointer.result c.from_residual-in_err-read_sleb128-in-DW_OP_implicit_pointer.ensures.1).1 tt

pub returns-in_err-read_sleb128-in-DW_OP_implicit_pointer-clause-parts : goal.returns-in_err-read_sleb128-in-DW_OP_implicit_pointer-clause-parts
returns-in_err-read_sleb128-in-DW_OP_implicit_pointer-clause-parts g c = rw (err_from_is_err_and c.from_residual-in_err-read_sleb128-in-DW_OP_implicit_pointer.result c.from_residual-in_err-read_sleb128-in-DW_OP_implicit_pointer.ensures.1).1 tt

pub returns-in_ok-read_sleb128-in-DW_OP_implicit_pointer-clause-err : goal.returns-in_ok-read_sleb128-in-DW_OP_implicit_pointer-clause-err
returns-in_ok-read_sleb128-in-DW_OP_implicit_pointer-clause-err g c = tt

pub returns-in_err-read_u32-in-DW_OP_GNU_parameter_ref-clause-ok : goal.returns-in_err-read_u32-in-DW_OP_GNU_parameter_ref-clause-ok
returns-in_err-read_u32-in-DW_OP_GNU_parameter_ref-clause-ok g c = rw (err_from_is_err_and c.from_residual-in_err-read_u32-in-DW_OP_GNU_parameter_ref.result c.from_residual-in_err-read_u32-in-DW_OP_GNU_parameter_ref.ensures.1).1 tt

pub returns-in_err-read_u32-in-DW_OP_GNU_parameter_ref-clause-parts : goal.returns-in_err-read_u32-in-DW_OP_GNU_parameter_ref-clause-parts
returns-in_err-read_u32-in-DW_OP_GNU_parameter_ref-clause-parts g c = rw (err_from_is_err_and c.from_residual-in_err-read_u32-in-DW_OP_GNU_parameter_ref.result c.from_residual-in_err-read_u32-in-DW_OP_GNU_parameter_ref.ensures.1).1 tt

pub returns-in_ok-read_u32-in-DW_OP_GNU_parameter_ref-clause-err : goal.returns-in_ok-read_u32-in-DW_OP_GNU_parameter_ref-clause-err
returns-in_ok-read_u32-in-DW_OP_GNU_parameter_ref-clause-err g c = tt

pub returns-in_err-read_word-in-DW_OP_GNU_variable_value-clause-ok : goal.returns-in_err-read_word-in-DW_OP_GNU_variable_value-clause-ok
returns-in_err-read_word-in-DW_OP_GNU_variable_value-clause-ok g c = rw (err_from_is_err_and c.from_residual-in_err-read_word-in-DW_OP_GNU_variable_value.result c.from_residual-in_err-read_word-in-DW_OP_GNU_variable_value.ensures.1).1 tt

pub returns-in_err-read_word-in-DW_OP_GNU_variable_value-clause-parts : goal.returns-in_err-read_word-in-DW_OP_GNU_variable_value-clause-parts
returns-in_err-read_word-in-DW_OP_GNU_variable_value-clause-parts g c = rw (err_from_is_err_and c.from_residual-in_err-read_word-in-DW_OP_GNU_variable_value.result c.from_residual-in_err-read_word-in-DW_OP_GNU_variable_value.ensures.1).1 tt

pub returns-in_ok-read_word-in-DW_OP_GNU_variable_value-clause-err : goal.returns-in_ok-read_word-in-DW_OP_GNU_variable_value-clause-err
returns-in_ok-read_word-in-DW_OP_GNU_variable_value-clause-err g c = tt

pub returns-in_default-clause-err : goal.returns-in_default-clause-err
returns-in_default-clause-err g c = tt
