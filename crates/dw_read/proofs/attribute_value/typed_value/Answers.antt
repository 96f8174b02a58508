use Rattle.std.proofs.Common.{◌∙◌, refl, arith}
use Rattle.std.proofs.lemmas.Bool.{ne_eqb}
use Rattle.dw_read.proofs.ValueLaws.{wide_is, wide_large, wide_none}
use Rattle.dw_read.proofs.attribute_value.typed_value.Goals as goal

pub returns-in-DW_AT_address_class : goal.returns-in-DW_AT_address_class
returns-in-DW_AT_address_class g c = wide_is _ 51 _ 64 _ (omega arith) (omega arith) refl

pub returns-in-DW_AT_decl_file : goal.returns-in-DW_AT_decl_file
returns-in-DW_AT_decl_file g c = wide_is _ 58 _ 64 _ (omega arith) (omega arith) refl

pub returns-in-DW_AT_call_file : goal.returns-in-DW_AT_call_file
returns-in-DW_AT_call_file g c = wide_is _ 88 _ 64 _ (omega arith) (omega arith) refl

pub returns-in-DW_AT_GNU_dwo_id : goal.returns-in-DW_AT_GNU_dwo_id
returns-in-DW_AT_GNU_dwo_id g c = wide_is _ 8497 _ 64 _ (omega arith) (omega arith) refl

pub returns-then-number-gt65535 : goal.returns-then-number-gt65535
returns-then-number-gt65535 g c = wide_large _ 19 _ 16 _ (omega arith) (omega arith) refl

pub returns-else-number-gt65535 : goal.returns-else-number-gt65535
returns-else-number-gt65535 g c = wide_is _ 19 _ 16 _ (omega arith) (omega arith) refl

pub returns-in_default : goal.returns-in_default
returns-in_default g c = c.byte_value.ensures ∙ wide_none _ _ (rw (ne_eqb c.args.name.0 19 (λ e. omega (arith, e)), ne_eqb c.args.name.0 51 (λ e. omega (arith, e)), ne_eqb c.args.name.0 58 (λ e. omega (arith, e)), ne_eqb c.args.name.0 88 (λ e. omega (arith, e)), ne_eqb c.args.name.0 8497 (λ e. omega (arith, e))) refl)
