use Rattle.std.proofs.Common.{sym, refl, arith}
use Rattle.std.proofs.lemmas.Bool.{ne_eqb}
use Rattle.dw_read.specs.Values.{index_value}
use Rattle.dw_read.proofs.ValueLaws.{index_is}
use Rattle.dw_read.proofs.attribute_value.index_value.Goals as goal

pub returns-in-DW_FORM_addrx : goal.returns-in-DW_FORM_addrx
returns-in-DW_FORM_addrx g c = rw c.low_word-word.ensures (index_is _ 27 _ _ (omega arith) refl)

pub returns-in-DW_FORM_addrx1 : goal.returns-in-DW_FORM_addrx1
returns-in-DW_FORM_addrx1 g c = rw c.low_word-word.ensures (index_is _ 41 _ _ (omega arith) refl)

pub returns-in-DW_FORM_addrx2 : goal.returns-in-DW_FORM_addrx2
returns-in-DW_FORM_addrx2 g c = rw c.low_word-word.ensures (index_is _ 42 _ _ (omega arith) refl)

pub returns-in-DW_FORM_addrx3 : goal.returns-in-DW_FORM_addrx3
returns-in-DW_FORM_addrx3 g c = rw c.low_word-word.ensures (index_is _ 43 _ _ (omega arith) refl)

pub returns-in-DW_FORM_addrx4 : goal.returns-in-DW_FORM_addrx4
returns-in-DW_FORM_addrx4 g c = rw c.low_word-word.ensures (index_is _ 44 _ _ (omega arith) refl)

pub returns-in-DW_FORM_strx : goal.returns-in-DW_FORM_strx
returns-in-DW_FORM_strx g c = rw c.low_word-word.ensures (index_is _ 26 _ _ (omega arith) refl)

pub returns-in-DW_FORM_strx1 : goal.returns-in-DW_FORM_strx1
returns-in-DW_FORM_strx1 g c = rw c.low_word-word.ensures (index_is _ 37 _ _ (omega arith) refl)

pub returns-in-DW_FORM_strx2 : goal.returns-in-DW_FORM_strx2
returns-in-DW_FORM_strx2 g c = rw c.low_word-word.ensures (index_is _ 38 _ _ (omega arith) refl)

pub returns-in-DW_FORM_strx3 : goal.returns-in-DW_FORM_strx3
returns-in-DW_FORM_strx3 g c = rw c.low_word-word.ensures (index_is _ 39 _ _ (omega arith) refl)

pub returns-in-DW_FORM_strx4 : goal.returns-in-DW_FORM_strx4
returns-in-DW_FORM_strx4 g c = rw c.low_word-word.ensures (index_is _ 40 _ _ (omega arith) refl)

pub returns-in-DW_FORM_loclistx : goal.returns-in-DW_FORM_loclistx
returns-in-DW_FORM_loclistx g c = rw c.low_word-word.ensures (index_is _ 34 _ _ (omega arith) refl)

pub returns-in-DW_FORM_rnglistx : goal.returns-in-DW_FORM_rnglistx
returns-in-DW_FORM_rnglistx g c = rw c.low_word-word.ensures (index_is _ 35 _ _ (omega arith) refl)

pub returns-in_default : goal.returns-in_default
unfolding index_value
returns-in_default g c = rw c.low_word-word.ensures (sym (rw (ne_eqb c.args.form.0 27 (λ e. omega (arith, e)), ne_eqb c.args.form.0 41 (λ e. omega (arith, e)), ne_eqb c.args.form.0 42 (λ e. omega (arith, e)), ne_eqb c.args.form.0 43 (λ e. omega (arith, e)), ne_eqb c.args.form.0 44 (λ e. omega (arith, e)), ne_eqb c.args.form.0 26 (λ e. omega (arith, e)), ne_eqb c.args.form.0 37 (λ e. omega (arith, e)), ne_eqb c.args.form.0 38 (λ e. omega (arith, e)), ne_eqb c.args.form.0 39 (λ e. omega (arith, e)), ne_eqb c.args.form.0 40 (λ e. omega (arith, e)), ne_eqb c.args.form.0 34 (λ e. omega (arith, e)), ne_eqb c.args.form.0 35 (λ e. omega (arith, e))) refl))
