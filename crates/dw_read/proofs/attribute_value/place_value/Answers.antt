use Rattle.std.proofs.Common.{sym, refl, arith}
use Rattle.std.proofs.lemmas.Bool.{ne_eqb}
use Rattle.dw_read.specs.Values.{place_value}
use Rattle.dw_read.proofs.ValueLaws.{place_is}
use Rattle.dw_read.proofs.attribute_value.place_value.Goals as goal

pub returns-in-DW_AT_stmt_list : goal.returns-in-DW_AT_stmt_list
returns-in-DW_AT_stmt_list g c = place_is _ 16 _ _ (omega arith) refl

pub returns-in-DW_AT_macro_info : goal.returns-in-DW_AT_macro_info
returns-in-DW_AT_macro_info g c = place_is _ 67 _ _ (omega arith) refl

pub returns-in-DW_AT_macros : goal.returns-in-DW_AT_macros
returns-in-DW_AT_macros g c = place_is _ 121 _ _ (omega arith) refl

pub returns-in-DW_AT_GNU_macros : goal.returns-in-DW_AT_GNU_macros
returns-in-DW_AT_GNU_macros g c = place_is _ 8473 _ _ (omega arith) refl

pub returns-in-DW_AT_ranges : goal.returns-in-DW_AT_ranges
returns-in-DW_AT_ranges g c = place_is _ 85 _ _ (omega arith) refl

pub returns-in-DW_AT_start_scope : goal.returns-in-DW_AT_start_scope
returns-in-DW_AT_start_scope g c = place_is _ 44 _ _ (omega arith) refl

pub returns-in-DW_AT_location : goal.returns-in-DW_AT_location
returns-in-DW_AT_location g c = place_is _ 2 _ _ (omega arith) refl

pub returns-in-DW_AT_string_length : goal.returns-in-DW_AT_string_length
returns-in-DW_AT_string_length g c = place_is _ 25 _ _ (omega arith) refl

pub returns-in-DW_AT_return_addr : goal.returns-in-DW_AT_return_addr
returns-in-DW_AT_return_addr g c = place_is _ 42 _ _ (omega arith) refl

pub returns-in-DW_AT_frame_base : goal.returns-in-DW_AT_frame_base
returns-in-DW_AT_frame_base g c = place_is _ 64 _ _ (omega arith) refl

pub returns-in-DW_AT_segment : goal.returns-in-DW_AT_segment
returns-in-DW_AT_segment g c = place_is _ 70 _ _ (omega arith) refl

pub returns-in-DW_AT_static_link : goal.returns-in-DW_AT_static_link
returns-in-DW_AT_static_link g c = place_is _ 72 _ _ (omega arith) refl

pub returns-in-DW_AT_use_location : goal.returns-in-DW_AT_use_location
returns-in-DW_AT_use_location g c = place_is _ 74 _ _ (omega arith) refl

pub returns-in-DW_AT_vtable_elem_location : goal.returns-in-DW_AT_vtable_elem_location
returns-in-DW_AT_vtable_elem_location g c = place_is _ 77 _ _ (omega arith) refl

pub returns-in-DW_AT_data_member_location : goal.returns-in-DW_AT_data_member_location
returns-in-DW_AT_data_member_location g c = place_is _ 56 _ _ (omega arith) refl

pub returns-in_default : goal.returns-in_default
unfolding place_value
returns-in_default g c = sym (rw (ne_eqb c.args.name.0 16 (λ e. omega (arith, e)), ne_eqb c.args.name.0 67 (λ e. omega (arith, e)), ne_eqb c.args.name.0 121 (λ e. omega (arith, e)), ne_eqb c.args.name.0 8473 (λ e. omega (arith, e)), ne_eqb c.args.name.0 85 (λ e. omega (arith, e)), ne_eqb c.args.name.0 44 (λ e. omega (arith, e)), ne_eqb c.args.name.0 2 (λ e. omega (arith, e)), ne_eqb c.args.name.0 25 (λ e. omega (arith, e)), ne_eqb c.args.name.0 42 (λ e. omega (arith, e)), ne_eqb c.args.name.0 64 (λ e. omega (arith, e)), ne_eqb c.args.name.0 70 (λ e. omega (arith, e)), ne_eqb c.args.name.0 72 (λ e. omega (arith, e)), ne_eqb c.args.name.0 74 (λ e. omega (arith, e)), ne_eqb c.args.name.0 77 (λ e. omega (arith, e)), ne_eqb c.args.name.0 56 (λ e. omega (arith, e))) refl)
