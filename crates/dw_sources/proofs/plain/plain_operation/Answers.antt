use Rattle.std.proofs.Common.{◌∙◌, sym, refl, arith}
use Rattle.std.proofs.lemmas.Bool.{ne_eqb}
use Rattle.dw_sources.proofs.PlainLaws.{plain_literal, plain_register, plain_simple, plain_row, row_at}
use Rattle.dw_sources.proofs.plain.plain_operation.Goals as goal

pub returns-in-Some-clause-is : goal.returns-in-Some-clause-is
returns-in-Some-clause-is g c = plain_literal c.args.opcode.0 c.in-Some.number c.in-Some.ensures.inside c.in-Some.ensures.some

pub returns-in-Some-number_from-clause-is : goal.returns-in-Some-number_from-clause-is
returns-in-Some-number_from-clause-is g c = plain_register c.args.opcode.0 c.in-Some-number_from.number c.in_default.ensures.none c.in-Some-number_from.ensures.inside c.in-Some-number_from.ensures.some

pub returns-then-is_simple-clause-is : goal.returns-then-is_simple-clause-is
returns-then-is_simple-clause-is g c = plain_simple c.args.opcode.0 c.in_default.ensures.none c.in_default-number_from.ensures.none (sym c.is_simple.ensures ∙ c.if-is_simple.true)

pub returns-in-DW_OP_deref-clause-is : goal.returns-in-DW_OP_deref-clause-is
returns-in-DW_OP_deref-clause-is g c = plain_row c.args.opcode.0 _ c.in_default.ensures.none c.in_default-number_from.ensures.none (sym c.is_simple.ensures ∙ c.if-is_simple.false) (row_at c.args.opcode.0 6 _ (omega arith) refl)

pub returns-in-DW_OP_xderef-clause-is : goal.returns-in-DW_OP_xderef-clause-is
returns-in-DW_OP_xderef-clause-is g c = plain_row c.args.opcode.0 _ c.in_default.ensures.none c.in_default-number_from.ensures.none (sym c.is_simple.ensures ∙ c.if-is_simple.false) (row_at c.args.opcode.0 24 _ (omega arith) refl)

pub returns-in-DW_OP_dup-clause-is : goal.returns-in-DW_OP_dup-clause-is
returns-in-DW_OP_dup-clause-is g c = plain_row c.args.opcode.0 _ c.in_default.ensures.none c.in_default-number_from.ensures.none (sym c.is_simple.ensures ∙ c.if-is_simple.false) (row_at c.args.opcode.0 18 _ (omega arith) refl)

pub returns-in-DW_OP_over-clause-is : goal.returns-in-DW_OP_over-clause-is
returns-in-DW_OP_over-clause-is g c = plain_row c.args.opcode.0 _ c.in_default.ensures.none c.in_default-number_from.ensures.none (sym c.is_simple.ensures ∙ c.if-is_simple.false) (row_at c.args.opcode.0 20 _ (omega arith) refl)

pub returns-in_default-opcode-clause-is : goal.returns-in_default-opcode-clause-is
returns-in_default-opcode-clause-is g c = plain_row c.args.opcode.0 _ c.in_default.ensures.none c.in_default-number_from.ensures.none (sym c.is_simple.ensures ∙ c.if-is_simple.false) (rw (ne_eqb c.args.opcode.0 6 (omega arith), ne_eqb c.args.opcode.0 24 (omega arith), ne_eqb c.args.opcode.0 18 (omega arith), ne_eqb c.args.opcode.0 20 (omega arith)) refl)
