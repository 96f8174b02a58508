use Rattle.std.proofs.Common.{refl, arith}
use Rattle.std.proofs.lemmas.Bool.{ne_eqb}
use Rattle.dw_read.proofs.ValueLaws.{byte_is, byte_large, byte_none}
use Rattle.dw_read.proofs.attribute_value.byte_value.Goals as goal

pub returns-in-DW_AT_encoding : goal.returns-in-DW_AT_encoding
returns-in-DW_AT_encoding g c = byte_is _ 62 _ _ (omega arith) (omega arith) refl

pub returns-in-DW_AT_decimal_sign : goal.returns-in-DW_AT_decimal_sign
returns-in-DW_AT_decimal_sign g c = byte_is _ 94 _ _ (omega arith) (omega arith) refl

pub returns-in-DW_AT_endianity : goal.returns-in-DW_AT_endianity
returns-in-DW_AT_endianity g c = byte_is _ 101 _ _ (omega arith) (omega arith) refl

pub returns-in-DW_AT_accessibility : goal.returns-in-DW_AT_accessibility
returns-in-DW_AT_accessibility g c = byte_is _ 50 _ _ (omega arith) (omega arith) refl

pub returns-in-DW_AT_visibility : goal.returns-in-DW_AT_visibility
returns-in-DW_AT_visibility g c = byte_is _ 23 _ _ (omega arith) (omega arith) refl

pub returns-in-DW_AT_virtuality : goal.returns-in-DW_AT_virtuality
returns-in-DW_AT_virtuality g c = byte_is _ 76 _ _ (omega arith) (omega arith) refl

pub returns-in-DW_AT_identifier_case : goal.returns-in-DW_AT_identifier_case
returns-in-DW_AT_identifier_case g c = byte_is _ 66 _ _ (omega arith) (omega arith) refl

pub returns-in-DW_AT_calling_convention : goal.returns-in-DW_AT_calling_convention
returns-in-DW_AT_calling_convention g c = byte_is _ 54 _ _ (omega arith) (omega arith) refl

pub returns-in-DW_AT_inline : goal.returns-in-DW_AT_inline
returns-in-DW_AT_inline g c = byte_is _ 32 _ _ (omega arith) (omega arith) refl

pub returns-in-DW_AT_ordering : goal.returns-in-DW_AT_ordering
returns-in-DW_AT_ordering g c = byte_is _ 9 _ _ (omega arith) (omega arith) refl

pub returns-then-number-gt255 : goal.returns-then-number-gt255
returns-then-number-gt255 g c = byte_large _ _ (omega arith)

pub returns-in_default : goal.returns-in_default
returns-in_default g c = byte_none _ _ (rw (ne_eqb c.args.name.0 62 (λ e. omega (arith, e)), ne_eqb c.args.name.0 94 (λ e. omega (arith, e)), ne_eqb c.args.name.0 101 (λ e. omega (arith, e)), ne_eqb c.args.name.0 50 (λ e. omega (arith, e)), ne_eqb c.args.name.0 23 (λ e. omega (arith, e)), ne_eqb c.args.name.0 76 (λ e. omega (arith, e)), ne_eqb c.args.name.0 66 (λ e. omega (arith, e)), ne_eqb c.args.name.0 54 (λ e. omega (arith, e)), ne_eqb c.args.name.0 32 (λ e. omega (arith, e)), ne_eqb c.args.name.0 9 (λ e. omega (arith, e))) refl) (omega arith)
