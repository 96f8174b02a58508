use Rattle.std.proofs.Common.{sym, refl, arith}
use Rattle.std.proofs.lemmas.Bool.{ne_eqb}
use Rattle.dw_read.specs.Values.{is_old_place_name}
use Rattle.dw_read.proofs.ValueLaws.{old_place_is}
use Rattle.dw_read.proofs.attribute_value.is_old_place_name.Goals as goal

pub returns-in-DW_AT_stmt_list : goal.returns-in-DW_AT_stmt_list
returns-in-DW_AT_stmt_list c = old_place_is _ 16 _ (omega arith) refl

pub returns-in-DW_AT_stmt_list-2 : goal.returns-in-DW_AT_stmt_list-2
returns-in-DW_AT_stmt_list-2 c = old_place_is _ 67 _ (omega arith) refl

pub returns-in-DW_AT_stmt_list-3 : goal.returns-in-DW_AT_stmt_list-3
returns-in-DW_AT_stmt_list-3 c = old_place_is _ 121 _ (omega arith) refl

pub returns-in-DW_AT_stmt_list-4 : goal.returns-in-DW_AT_stmt_list-4
returns-in-DW_AT_stmt_list-4 c = old_place_is _ 8473 _ (omega arith) refl

pub returns-in-DW_AT_stmt_list-5 : goal.returns-in-DW_AT_stmt_list-5
returns-in-DW_AT_stmt_list-5 c = old_place_is _ 85 _ (omega arith) refl

pub returns-in-DW_AT_location : goal.returns-in-DW_AT_location
returns-in-DW_AT_location c = old_place_is _ 2 _ (omega arith) refl

pub returns-in-DW_AT_location-2 : goal.returns-in-DW_AT_location-2
returns-in-DW_AT_location-2 c = old_place_is _ 25 _ (omega arith) refl

pub returns-in-DW_AT_location-3 : goal.returns-in-DW_AT_location-3
returns-in-DW_AT_location-3 c = old_place_is _ 42 _ (omega arith) refl

pub returns-in-DW_AT_location-4 : goal.returns-in-DW_AT_location-4
returns-in-DW_AT_location-4 c = old_place_is _ 64 _ (omega arith) refl

pub returns-in-DW_AT_segment : goal.returns-in-DW_AT_segment
returns-in-DW_AT_segment c = old_place_is _ 70 _ (omega arith) refl

pub returns-in-DW_AT_segment-2 : goal.returns-in-DW_AT_segment-2
returns-in-DW_AT_segment-2 c = old_place_is _ 72 _ (omega arith) refl

pub returns-in-DW_AT_segment-3 : goal.returns-in-DW_AT_segment-3
returns-in-DW_AT_segment-3 c = old_place_is _ 74 _ (omega arith) refl

pub returns-in-DW_AT_vtable_elem_location : goal.returns-in-DW_AT_vtable_elem_location
returns-in-DW_AT_vtable_elem_location c = old_place_is _ 77 _ (omega arith) refl

pub returns-in-DW_AT_vtable_elem_location-2 : goal.returns-in-DW_AT_vtable_elem_location-2
returns-in-DW_AT_vtable_elem_location-2 c = old_place_is _ 56 _ (omega arith) refl

pub returns-in_default : goal.returns-in_default
unfolding is_old_place_name
returns-in_default c = sym (rw (ne_eqb c.args.name.0 16 (λ e. omega (arith, e)), ne_eqb c.args.name.0 67 (λ e. omega (arith, e)), ne_eqb c.args.name.0 121 (λ e. omega (arith, e)), ne_eqb c.args.name.0 8473 (λ e. omega (arith, e)), ne_eqb c.args.name.0 85 (λ e. omega (arith, e)), ne_eqb c.args.name.0 2 (λ e. omega (arith, e)), ne_eqb c.args.name.0 25 (λ e. omega (arith, e)), ne_eqb c.args.name.0 42 (λ e. omega (arith, e)), ne_eqb c.args.name.0 64 (λ e. omega (arith, e)), ne_eqb c.args.name.0 70 (λ e. omega (arith, e)), ne_eqb c.args.name.0 72 (λ e. omega (arith, e)), ne_eqb c.args.name.0 74 (λ e. omega (arith, e)), ne_eqb c.args.name.0 77 (λ e. omega (arith, e)), ne_eqb c.args.name.0 56 (λ e. omega (arith, e))) refl)
