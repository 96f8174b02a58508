use Rattle.std.proofs.Common.{refl, arith}
use Rattle.std.proofs.lemmas.Bool.{ne_eqb}
use Rattle.dw_sources.specs.RawLists.{location_row, location_behind, range_row, range_behind}
use Rattle.dw_sources.proofs.LocatedLaws.{same_kind, unknown_kind}
use Rattle.dw_sources.proofs.location_item.range_kind_of.Goals as goal

pub returns-in-DW_LLE_end_of_list-clause-some : goal.returns-in-DW_LLE_end_of_list-clause-some
unfolding location_row location_behind range_row range_behind
returns-in-DW_LLE_end_of_list-clause-some c = same_kind c.args.kind.0 0 0 (omega arith) (λ big w bytes. refl)

pub returns-in-DW_LLE_base_addressx-clause-some : goal.returns-in-DW_LLE_base_addressx-clause-some
unfolding location_row location_behind range_row range_behind
returns-in-DW_LLE_base_addressx-clause-some c = same_kind c.args.kind.0 1 1 (omega arith) (λ big w bytes. refl)

pub returns-in-DW_LLE_startx_endx-clause-some : goal.returns-in-DW_LLE_startx_endx-clause-some
unfolding location_row location_behind range_row range_behind
returns-in-DW_LLE_startx_endx-clause-some c = same_kind c.args.kind.0 2 2 (omega arith) (λ big w bytes. refl)

pub returns-in-DW_LLE_startx_length-clause-some : goal.returns-in-DW_LLE_startx_length-clause-some
unfolding location_row location_behind range_row range_behind
returns-in-DW_LLE_startx_length-clause-some c = same_kind c.args.kind.0 3 3 (omega arith) (λ big w bytes. refl)

pub returns-in-DW_LLE_offset_pair-clause-some : goal.returns-in-DW_LLE_offset_pair-clause-some
unfolding location_row location_behind range_row range_behind
returns-in-DW_LLE_offset_pair-clause-some c = same_kind c.args.kind.0 4 4 (omega arith) (λ big w bytes. refl)

pub returns-in-DW_LLE_base_address-clause-some : goal.returns-in-DW_LLE_base_address-clause-some
unfolding location_row location_behind range_row range_behind
returns-in-DW_LLE_base_address-clause-some c = same_kind c.args.kind.0 5 6 (omega arith) (λ big w bytes. refl)

pub returns-in-DW_LLE_start_end-clause-some : goal.returns-in-DW_LLE_start_end-clause-some
unfolding location_row location_behind range_row range_behind
returns-in-DW_LLE_start_end-clause-some c = same_kind c.args.kind.0 6 7 (omega arith) (λ big w bytes. refl)

pub returns-in-DW_LLE_start_length-clause-some : goal.returns-in-DW_LLE_start_length-clause-some
unfolding location_row location_behind range_row range_behind
returns-in-DW_LLE_start_length-clause-some c = same_kind c.args.kind.0 7 8 (omega arith) (λ big w bytes. refl)

pub returns-in_default-clause-none : goal.returns-in_default-clause-none
unfolding location_row
returns-in_default-clause-none c = λ big w bytes n. unknown_kind big w c.args.kind.0 bytes (rw (ne_eqb c.args.kind.0 0 (omega arith), ne_eqb c.args.kind.0 1 (omega arith), ne_eqb c.args.kind.0 2 (omega arith), ne_eqb c.args.kind.0 3 (omega arith), ne_eqb c.args.kind.0 4 (omega arith), ne_eqb c.args.kind.0 5 n, ne_eqb c.args.kind.0 6 (omega arith), ne_eqb c.args.kind.0 7 (omega arith), ne_eqb c.args.kind.0 8 (omega arith)) refl)
