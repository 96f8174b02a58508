use Rattle.std.proofs.Common.{sym, refl, arith}
use Rattle.std.proofs.lemmas.Bool.{ne_eqb}
use Rattle.dw_sources.specs.OperationTable.{is_simple}
use Rattle.dw_sources.proofs.PlainLaws.{simple_code}
use Rattle.dw_sources.proofs.plain.is_simple.Goals as goal

pub returns-in-DW_OP_drop : goal.returns-in-DW_OP_drop
unfolding is_simple
returns-in-DW_OP_drop c = simple_code c.args.opcode.0 19 (omega arith) refl

pub returns-in-DW_OP_drop-2 : goal.returns-in-DW_OP_drop-2
unfolding is_simple
returns-in-DW_OP_drop-2 c = simple_code c.args.opcode.0 22 (omega arith) refl

pub returns-in-DW_OP_drop-3 : goal.returns-in-DW_OP_drop-3
unfolding is_simple
returns-in-DW_OP_drop-3 c = simple_code c.args.opcode.0 23 (omega arith) refl

pub returns-in-DW_OP_abs : goal.returns-in-DW_OP_abs
unfolding is_simple
returns-in-DW_OP_abs c = simple_code c.args.opcode.0 25 (omega arith) refl

pub returns-in-DW_OP_abs-2 : goal.returns-in-DW_OP_abs-2
unfolding is_simple
returns-in-DW_OP_abs-2 c = simple_code c.args.opcode.0 26 (omega arith) refl

pub returns-in-DW_OP_abs-3 : goal.returns-in-DW_OP_abs-3
unfolding is_simple
returns-in-DW_OP_abs-3 c = simple_code c.args.opcode.0 27 (omega arith) refl

pub returns-in-DW_OP_abs-4 : goal.returns-in-DW_OP_abs-4
unfolding is_simple
returns-in-DW_OP_abs-4 c = simple_code c.args.opcode.0 28 (omega arith) refl

pub returns-in-DW_OP_abs-5 : goal.returns-in-DW_OP_abs-5
unfolding is_simple
returns-in-DW_OP_abs-5 c = simple_code c.args.opcode.0 29 (omega arith) refl

pub returns-in-DW_OP_abs-6 : goal.returns-in-DW_OP_abs-6
unfolding is_simple
returns-in-DW_OP_abs-6 c = simple_code c.args.opcode.0 30 (omega arith) refl

pub returns-in-DW_OP_neg : goal.returns-in-DW_OP_neg
unfolding is_simple
returns-in-DW_OP_neg c = simple_code c.args.opcode.0 31 (omega arith) refl

pub returns-in-DW_OP_neg-2 : goal.returns-in-DW_OP_neg-2
unfolding is_simple
returns-in-DW_OP_neg-2 c = simple_code c.args.opcode.0 32 (omega arith) refl

pub returns-in-DW_OP_neg-3 : goal.returns-in-DW_OP_neg-3
unfolding is_simple
returns-in-DW_OP_neg-3 c = simple_code c.args.opcode.0 33 (omega arith) refl

pub returns-in-DW_OP_neg-4 : goal.returns-in-DW_OP_neg-4
unfolding is_simple
returns-in-DW_OP_neg-4 c = simple_code c.args.opcode.0 34 (omega arith) refl

pub returns-in-DW_OP_shl : goal.returns-in-DW_OP_shl
unfolding is_simple
returns-in-DW_OP_shl c = simple_code c.args.opcode.0 36 (omega arith) refl

pub returns-in-DW_OP_shl-2 : goal.returns-in-DW_OP_shl-2
unfolding is_simple
returns-in-DW_OP_shl-2 c = simple_code c.args.opcode.0 37 (omega arith) refl

pub returns-in-DW_OP_shl-3 : goal.returns-in-DW_OP_shl-3
unfolding is_simple
returns-in-DW_OP_shl-3 c = simple_code c.args.opcode.0 38 (omega arith) refl

pub returns-in-DW_OP_shl-4 : goal.returns-in-DW_OP_shl-4
unfolding is_simple
returns-in-DW_OP_shl-4 c = simple_code c.args.opcode.0 39 (omega arith) refl

pub returns-in-DW_OP_eq : goal.returns-in-DW_OP_eq
unfolding is_simple
returns-in-DW_OP_eq c = simple_code c.args.opcode.0 41 (omega arith) refl

pub returns-in-DW_OP_eq-2 : goal.returns-in-DW_OP_eq-2
unfolding is_simple
returns-in-DW_OP_eq-2 c = simple_code c.args.opcode.0 42 (omega arith) refl

pub returns-in-DW_OP_eq-3 : goal.returns-in-DW_OP_eq-3
unfolding is_simple
returns-in-DW_OP_eq-3 c = simple_code c.args.opcode.0 43 (omega arith) refl

pub returns-in-DW_OP_eq-4 : goal.returns-in-DW_OP_eq-4
unfolding is_simple
returns-in-DW_OP_eq-4 c = simple_code c.args.opcode.0 44 (omega arith) refl

pub returns-in-DW_OP_eq-5 : goal.returns-in-DW_OP_eq-5
unfolding is_simple
returns-in-DW_OP_eq-5 c = simple_code c.args.opcode.0 45 (omega arith) refl

pub returns-in-DW_OP_eq-6 : goal.returns-in-DW_OP_eq-6
unfolding is_simple
returns-in-DW_OP_eq-6 c = simple_code c.args.opcode.0 46 (omega arith) refl

pub returns-in-DW_OP_nop : goal.returns-in-DW_OP_nop
unfolding is_simple
returns-in-DW_OP_nop c = simple_code c.args.opcode.0 150 (omega arith) refl

pub returns-in-DW_OP_nop-2 : goal.returns-in-DW_OP_nop-2
unfolding is_simple
returns-in-DW_OP_nop-2 c = simple_code c.args.opcode.0 151 (omega arith) refl

pub returns-in-DW_OP_nop-3 : goal.returns-in-DW_OP_nop-3
unfolding is_simple
returns-in-DW_OP_nop-3 c = simple_code c.args.opcode.0 155 (omega arith) refl

pub returns-in-DW_OP_call_frame_cfa : goal.returns-in-DW_OP_call_frame_cfa
unfolding is_simple
returns-in-DW_OP_call_frame_cfa c = simple_code c.args.opcode.0 156 (omega arith) refl

pub returns-in-DW_OP_call_frame_cfa-2 : goal.returns-in-DW_OP_call_frame_cfa-2
unfolding is_simple
returns-in-DW_OP_call_frame_cfa-2 c = simple_code c.args.opcode.0 159 (omega arith) refl

pub returns-in-DW_OP_GNU_push_tls_address : goal.returns-in-DW_OP_GNU_push_tls_address
unfolding is_simple
returns-in-DW_OP_GNU_push_tls_address c = simple_code c.args.opcode.0 224 (omega arith) refl

pub returns-in-DW_OP_GNU_push_tls_address-2 : goal.returns-in-DW_OP_GNU_push_tls_address-2
unfolding is_simple
returns-in-DW_OP_GNU_push_tls_address-2 c = simple_code c.args.opcode.0 240 (omega arith) refl

pub returns-in_default : goal.returns-in_default
unfolding is_simple
returns-in_default c = sym (rw (ne_eqb c.args.opcode.0 19 (omega arith), ne_eqb c.args.opcode.0 22 (omega arith), ne_eqb c.args.opcode.0 23 (omega arith), ne_eqb c.args.opcode.0 25 (omega arith), ne_eqb c.args.opcode.0 26 (omega arith), ne_eqb c.args.opcode.0 27 (omega arith), ne_eqb c.args.opcode.0 28 (omega arith), ne_eqb c.args.opcode.0 29 (omega arith), ne_eqb c.args.opcode.0 30 (omega arith), ne_eqb c.args.opcode.0 31 (omega arith), ne_eqb c.args.opcode.0 32 (omega arith), ne_eqb c.args.opcode.0 33 (omega arith), ne_eqb c.args.opcode.0 34 (omega arith), ne_eqb c.args.opcode.0 36 (omega arith), ne_eqb c.args.opcode.0 37 (omega arith), ne_eqb c.args.opcode.0 38 (omega arith), ne_eqb c.args.opcode.0 39 (omega arith), ne_eqb c.args.opcode.0 41 (omega arith), ne_eqb c.args.opcode.0 42 (omega arith), ne_eqb c.args.opcode.0 43 (omega arith), ne_eqb c.args.opcode.0 44 (omega arith), ne_eqb c.args.opcode.0 45 (omega arith), ne_eqb c.args.opcode.0 46 (omega arith), ne_eqb c.args.opcode.0 150 (omega arith), ne_eqb c.args.opcode.0 151 (omega arith), ne_eqb c.args.opcode.0 155 (omega arith), ne_eqb c.args.opcode.0 156 (omega arith), ne_eqb c.args.opcode.0 159 (omega arith), ne_eqb c.args.opcode.0 224 (omega arith), ne_eqb c.args.opcode.0 240 (omega arith)) refl)
