use Rattle.std.proofs.Common.{◌∙◌, sym, refl, arith}
use Rattle.std.proofs.lemmas.Bool.{ne_eqb}
use Rattle.dw_read.specs.Values.{number_value}
use Rattle.dw_read.proofs.ValueLaws.{number_is}
use Rattle.dw_read.proofs.attribute_value.number_value.Goals as goal

pub returns-in-DW_FORM_addr : goal.returns-in-DW_FORM_addr
returns-in-DW_FORM_addr g c = rw c.low_word-word.ensures (number_is _ 1 _ _ (omega arith) refl)

pub returns-in-DW_FORM_data1 : goal.returns-in-DW_FORM_data1
returns-in-DW_FORM_data1 g c = number_is _ 11 _ _ (omega arith) refl

pub returns-in-DW_FORM_data2 : goal.returns-in-DW_FORM_data2
returns-in-DW_FORM_data2 g c = number_is _ 5 _ _ (omega arith) refl

pub returns-in-DW_FORM_data4 : goal.returns-in-DW_FORM_data4
returns-in-DW_FORM_data4 g c = number_is _ 6 _ _ (omega arith) refl

pub returns-in-DW_FORM_data8 : goal.returns-in-DW_FORM_data8
returns-in-DW_FORM_data8 g c = rw c.low_word-word.ensures (number_is _ 7 _ _ (omega arith) refl)

pub returns-in-DW_FORM_data16 : goal.returns-in-DW_FORM_data16
returns-in-DW_FORM_data16 g c = number_is _ 30 _ _ (omega arith) refl

pub returns-in-DW_FORM_flag : goal.returns-in-DW_FORM_flag
returns-in-DW_FORM_flag g c = number_is _ 12 _ _ (omega arith) refl

pub returns-in-DW_FORM_strp : goal.returns-in-DW_FORM_strp
returns-in-DW_FORM_strp g c = rw c.low_word-word.ensures (number_is _ 14 _ _ (omega arith) refl)

pub returns-in-DW_FORM_line_strp : goal.returns-in-DW_FORM_line_strp
returns-in-DW_FORM_line_strp g c = rw c.low_word-word.ensures (number_is _ 31 _ _ (omega arith) refl)

pub returns-in-DW_FORM_strp_sup : goal.returns-in-DW_FORM_strp_sup
returns-in-DW_FORM_strp_sup g c = rw c.low_word-word.ensures (number_is _ 29 _ _ (omega arith) refl)

pub returns-in-DW_FORM_sec_offset : goal.returns-in-DW_FORM_sec_offset
returns-in-DW_FORM_sec_offset g c = rw c.low_word-word.ensures (number_is _ 23 _ _ (omega arith) refl)

pub returns-in-DW_FORM_ref_addr : goal.returns-in-DW_FORM_ref_addr
returns-in-DW_FORM_ref_addr g c = rw c.low_word-word.ensures (number_is _ 16 _ _ (omega arith) refl)

pub returns-in-DW_FORM_ref1 : goal.returns-in-DW_FORM_ref1
returns-in-DW_FORM_ref1 g c = rw c.low_word-word.ensures (number_is _ 17 _ _ (omega arith) refl)

pub returns-in-DW_FORM_ref2 : goal.returns-in-DW_FORM_ref2
returns-in-DW_FORM_ref2 g c = rw c.low_word-word.ensures (number_is _ 18 _ _ (omega arith) refl)

pub returns-in-DW_FORM_ref4 : goal.returns-in-DW_FORM_ref4
returns-in-DW_FORM_ref4 g c = rw c.low_word-word.ensures (number_is _ 19 _ _ (omega arith) refl)

pub returns-in-DW_FORM_ref8 : goal.returns-in-DW_FORM_ref8
returns-in-DW_FORM_ref8 g c = rw c.low_word-word.ensures (number_is _ 20 _ _ (omega arith) refl)

pub returns-in-DW_FORM_ref_udata : goal.returns-in-DW_FORM_ref_udata
returns-in-DW_FORM_ref_udata g c = rw c.low_word-word.ensures (number_is _ 21 _ _ (omega arith) refl)

pub returns-in-DW_FORM_ref_sup4 : goal.returns-in-DW_FORM_ref_sup4
returns-in-DW_FORM_ref_sup4 g c = rw c.low_word-word.ensures (number_is _ 28 _ _ (omega arith) refl)

pub returns-in-DW_FORM_ref_sup8 : goal.returns-in-DW_FORM_ref_sup8
returns-in-DW_FORM_ref_sup8 g c = rw c.low_word-word.ensures (number_is _ 36 _ _ (omega arith) refl)

pub returns-in-DW_FORM_ref_sig8 : goal.returns-in-DW_FORM_ref_sig8
returns-in-DW_FORM_ref_sig8 g c = rw c.low_word-word.ensures (number_is _ 32 _ _ (omega arith) refl)

pub returns-in_default : goal.returns-in_default
unfolding number_value
returns-in_default g c = c.index_value.ensures ∙ sym (rw (ne_eqb c.args.form.0 1 (λ e. omega (arith, e)), ne_eqb c.args.form.0 11 (λ e. omega (arith, e)), ne_eqb c.args.form.0 5 (λ e. omega (arith, e)), ne_eqb c.args.form.0 6 (λ e. omega (arith, e)), ne_eqb c.args.form.0 7 (λ e. omega (arith, e)), ne_eqb c.args.form.0 30 (λ e. omega (arith, e)), ne_eqb c.args.form.0 12 (λ e. omega (arith, e)), ne_eqb c.args.form.0 14 (λ e. omega (arith, e)), ne_eqb c.args.form.0 31 (λ e. omega (arith, e)), ne_eqb c.args.form.0 29 (λ e. omega (arith, e)), ne_eqb c.args.form.0 23 (λ e. omega (arith, e)), ne_eqb c.args.form.0 16 (λ e. omega (arith, e)), ne_eqb c.args.form.0 17 (λ e. omega (arith, e)), ne_eqb c.args.form.0 18 (λ e. omega (arith, e)), ne_eqb c.args.form.0 19 (λ e. omega (arith, e)), ne_eqb c.args.form.0 20 (λ e. omega (arith, e)), ne_eqb c.args.form.0 21 (λ e. omega (arith, e)), ne_eqb c.args.form.0 28 (λ e. omega (arith, e)), ne_eqb c.args.form.0 36 (λ e. omega (arith, e)), ne_eqb c.args.form.0 32 (λ e. omega (arith, e))) refl)
