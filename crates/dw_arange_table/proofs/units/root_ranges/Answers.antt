use Rattle.std.proofs.Common.{◌∙◌, ap, subst}
use Rattle.dw_entry_ranges.specs.Attributes.{values_in}
use Rattle.dw_arange_table.specs.Covers.{covered}
use Rattle.dw_arange_table.specs.Found.{Answers}
use Rattle.dw_arange_table.proofs.UnitSteps.{values_are}
use Rattle.dw_arange_table.proofs.units.root_ranges.Goals as goal

pub returns : goal.returns
returns g c = λ root rest begins.
    let reading = g.R.Reader.reading in
    let row = rw c.if-not-branch.false at c.in_ok-read_entry.ensures in
    let values = ap (values_in reading) c.as_slice.ensures.value ∙ values_are reading c.args.unit _ _ _ _ root rest c.in_ok-rows.ensures.ok row begins in
    subst (λ xs. Answers (λ v. v.items) c.attribute_ranges.result (covered reading c.args.unit xs)) values c.attribute_ranges.ensures
