use Rattle.std.proofs.Common.{sym, refl, arith}
use Rattle.std.proofs.lemmas.Bool.{ne_eqb}
use Rattle.dw_sources.specs.Dropped.{is_dropped}
use Rattle.dw_sources.proofs.DroppedNames.{dropped_is}
use Rattle.dw_sources.proofs.dropped.is_dropped.Goals as goal

pub returns-in-0 : goal.returns-in-0
returns-in-0 c = dropped_is _ 0 _ (omega arith) refl

pub returns-in-0-2 : goal.returns-in-0-2
returns-in-0-2 c = dropped_is _ 1 _ (omega arith) refl

pub returns-in-0-3 : goal.returns-in-0-3
returns-in-0-3 c = dropped_is _ 114 _ (omega arith) refl

pub returns-in-0-4 : goal.returns-in-0-4
returns-in-0-4 c = dropped_is _ 115 _ (omega arith) refl

pub returns-in-DW_AT_rnglists_base : goal.returns-in-DW_AT_rnglists_base
returns-in-DW_AT_rnglists_base c = dropped_is _ 116 _ (omega arith) refl

pub returns-in-DW_AT_rnglists_base-2 : goal.returns-in-DW_AT_rnglists_base-2
returns-in-DW_AT_rnglists_base-2 c = dropped_is _ 140 _ (omega arith) refl

pub returns-in-DW_AT_rnglists_base-3 : goal.returns-in-DW_AT_rnglists_base-3
returns-in-DW_AT_rnglists_base-3 c = dropped_is _ 118 _ (omega arith) refl

pub returns-in-DW_AT_rnglists_base-4 : goal.returns-in-DW_AT_rnglists_base-4
returns-in-DW_AT_rnglists_base-4 c = dropped_is _ 8499 _ (omega arith) refl

pub returns-in-DW_AT_GNU_ranges_base : goal.returns-in-DW_AT_GNU_ranges_base
returns-in-DW_AT_GNU_ranges_base c = dropped_is _ 8498 _ (omega arith) refl

pub returns-in-DW_AT_GNU_ranges_base-2 : goal.returns-in-DW_AT_GNU_ranges_base-2
returns-in-DW_AT_GNU_ranges_base-2 c = dropped_is _ 8496 _ (omega arith) refl

pub returns-in-DW_AT_GNU_ranges_base-3 : goal.returns-in-DW_AT_GNU_ranges_base-3
returns-in-DW_AT_GNU_ranges_base-3 c = dropped_is _ 8497 _ (omega arith) refl

pub returns-in-DW_AT_GNU_locviews : goal.returns-in-DW_AT_GNU_locviews
returns-in-DW_AT_GNU_locviews c = dropped_is _ 8503 _ (omega arith) refl

pub returns-in_default : goal.returns-in_default
unfolding is_dropped
returns-in_default c = sym (rw (ne_eqb c.args.name.0 0 (λ e. omega (arith, e)), ne_eqb c.args.name.0 1 (λ e. omega (arith, e)), ne_eqb c.args.name.0 114 (λ e. omega (arith, e)), ne_eqb c.args.name.0 115 (λ e. omega (arith, e)), ne_eqb c.args.name.0 116 (λ e. omega (arith, e)), ne_eqb c.args.name.0 140 (λ e. omega (arith, e)), ne_eqb c.args.name.0 118 (λ e. omega (arith, e)), ne_eqb c.args.name.0 8499 (λ e. omega (arith, e)), ne_eqb c.args.name.0 8498 (λ e. omega (arith, e)), ne_eqb c.args.name.0 8496 (λ e. omega (arith, e)), ne_eqb c.args.name.0 8497 (λ e. omega (arith, e)), ne_eqb c.args.name.0 8503 (λ e. omega (arith, e))) refl)
