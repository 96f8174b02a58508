use Rattle.std.proofs.Common.{sym, refl, arith}
use Rattle.std.proofs.lemmas.Bool.{ne_eqb}
use Rattle.dw_read.specs.Values.{is_expression_name}
use Rattle.dw_read.proofs.ValueLaws.{expression_is}
use Rattle.dw_read.proofs.attribute_value.is_expression_name.Goals as goal

pub returns-in-DW_AT_location : goal.returns-in-DW_AT_location
returns-in-DW_AT_location c = expression_is _ 2 _ (omega arith) refl

pub returns-in-DW_AT_location-2 : goal.returns-in-DW_AT_location-2
returns-in-DW_AT_location-2 c = expression_is _ 11 _ (omega arith) refl

pub returns-in-DW_AT_location-3 : goal.returns-in-DW_AT_location-3
returns-in-DW_AT_location-3 c = expression_is _ 13 _ (omega arith) refl

pub returns-in-DW_AT_location-4 : goal.returns-in-DW_AT_location-4
returns-in-DW_AT_location-4 c = expression_is _ 25 _ (omega arith) refl

pub returns-in-DW_AT_lower_bound : goal.returns-in-DW_AT_lower_bound
returns-in-DW_AT_lower_bound c = expression_is _ 34 _ (omega arith) refl

pub returns-in-DW_AT_lower_bound-2 : goal.returns-in-DW_AT_lower_bound-2
returns-in-DW_AT_lower_bound-2 c = expression_is _ 42 _ (omega arith) refl

pub returns-in-DW_AT_lower_bound-3 : goal.returns-in-DW_AT_lower_bound-3
returns-in-DW_AT_lower_bound-3 c = expression_is _ 46 _ (omega arith) refl

pub returns-in-DW_AT_lower_bound-4 : goal.returns-in-DW_AT_lower_bound-4
returns-in-DW_AT_lower_bound-4 c = expression_is _ 47 _ (omega arith) refl

pub returns-in-DW_AT_count : goal.returns-in-DW_AT_count
returns-in-DW_AT_count c = expression_is _ 55 _ (omega arith) refl

pub returns-in-DW_AT_count-2 : goal.returns-in-DW_AT_count-2
returns-in-DW_AT_count-2 c = expression_is _ 56 _ (omega arith) refl

pub returns-in-DW_AT_count-3 : goal.returns-in-DW_AT_count-3
returns-in-DW_AT_count-3 c = expression_is _ 64 _ (omega arith) refl

pub returns-in-DW_AT_count-4 : goal.returns-in-DW_AT_count-4
returns-in-DW_AT_count-4 c = expression_is _ 70 _ (omega arith) refl

pub returns-in-DW_AT_static_link : goal.returns-in-DW_AT_static_link
returns-in-DW_AT_static_link c = expression_is _ 72 _ (omega arith) refl

pub returns-in-DW_AT_static_link-2 : goal.returns-in-DW_AT_static_link-2
returns-in-DW_AT_static_link-2 c = expression_is _ 74 _ (omega arith) refl

pub returns-in-DW_AT_static_link-3 : goal.returns-in-DW_AT_static_link-3
returns-in-DW_AT_static_link-3 c = expression_is _ 77 _ (omega arith) refl

pub returns-in-DW_AT_allocated : goal.returns-in-DW_AT_allocated
returns-in-DW_AT_allocated c = expression_is _ 78 _ (omega arith) refl

pub returns-in-DW_AT_allocated-2 : goal.returns-in-DW_AT_allocated-2
returns-in-DW_AT_allocated-2 c = expression_is _ 79 _ (omega arith) refl

pub returns-in-DW_AT_allocated-3 : goal.returns-in-DW_AT_allocated-3
returns-in-DW_AT_allocated-3 c = expression_is _ 80 _ (omega arith) refl

pub returns-in-DW_AT_allocated-4 : goal.returns-in-DW_AT_allocated-4
returns-in-DW_AT_allocated-4 c = expression_is _ 81 _ (omega arith) refl

pub returns-in-DW_AT_GNU_call_site_value : goal.returns-in-DW_AT_GNU_call_site_value
returns-in-DW_AT_GNU_call_site_value c = expression_is _ 8465 _ (omega arith) refl

pub returns-in-DW_AT_GNU_call_site_value-2 : goal.returns-in-DW_AT_GNU_call_site_value-2
returns-in-DW_AT_GNU_call_site_value-2 c = expression_is _ 8466 _ (omega arith) refl

pub returns-in-DW_AT_GNU_call_site_target : goal.returns-in-DW_AT_GNU_call_site_target
returns-in-DW_AT_GNU_call_site_target c = expression_is _ 8467 _ (omega arith) refl

pub returns-in-DW_AT_GNU_call_site_target-2 : goal.returns-in-DW_AT_GNU_call_site_target-2
returns-in-DW_AT_GNU_call_site_target-2 c = expression_is _ 8468 _ (omega arith) refl

pub returns-in_default : goal.returns-in_default
unfolding is_expression_name
returns-in_default c = sym (rw (ne_eqb c.args.name.0 2 (λ e. omega (arith, e)), ne_eqb c.args.name.0 11 (λ e. omega (arith, e)), ne_eqb c.args.name.0 13 (λ e. omega (arith, e)), ne_eqb c.args.name.0 25 (λ e. omega (arith, e)), ne_eqb c.args.name.0 34 (λ e. omega (arith, e)), ne_eqb c.args.name.0 42 (λ e. omega (arith, e)), ne_eqb c.args.name.0 46 (λ e. omega (arith, e)), ne_eqb c.args.name.0 47 (λ e. omega (arith, e)), ne_eqb c.args.name.0 55 (λ e. omega (arith, e)), ne_eqb c.args.name.0 56 (λ e. omega (arith, e)), ne_eqb c.args.name.0 64 (λ e. omega (arith, e)), ne_eqb c.args.name.0 70 (λ e. omega (arith, e)), ne_eqb c.args.name.0 72 (λ e. omega (arith, e)), ne_eqb c.args.name.0 74 (λ e. omega (arith, e)), ne_eqb c.args.name.0 77 (λ e. omega (arith, e)), ne_eqb c.args.name.0 78 (λ e. omega (arith, e)), ne_eqb c.args.name.0 79 (λ e. omega (arith, e)), ne_eqb c.args.name.0 80 (λ e. omega (arith, e)), ne_eqb c.args.name.0 81 (λ e. omega (arith, e)), ne_eqb c.args.name.0 8465 (λ e. omega (arith, e)), ne_eqb c.args.name.0 8466 (λ e. omega (arith, e)), ne_eqb c.args.name.0 8467 (λ e. omega (arith, e)), ne_eqb c.args.name.0 8468 (λ e. omega (arith, e))) refl)
