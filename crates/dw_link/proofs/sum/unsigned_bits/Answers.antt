use Rattle.std.proofs.Common.{rules, ◌∙◌, ap}
use Rattle.std.specs.Int.{w128}
use Rattle.std.proofs.lemmas.Int.{to_z-of_z}
use Rattle.dw_writer.specs.Pointers.{address_of}
use Rattle.dw_link.proofs.Sums.{int_bits-none, int_bits-some}
use Rattle.dw_link.proofs.sum.unsigned_bits.Goals as goal

pub returns-in_err-number : goal.returns-in_err-number
returns-in_err-number c =
    let asked = c.address_of.ensures ∙ ap address_of (to_z-of_z w128 c.args.sum c.ranges.sum) in
    int_bits-none c.args.size c.args.sum _ c.address_of.result c.requires c.in_err-number.was asked (search rules)

pub returns : goal.returns
returns c =
    let asked = c.address_of.ensures ∙ ap address_of (to_z-of_z w128 c.args.sum c.ranges.sum) in
    int_bits-some c.args.size c.args.sum c.in_ok-number.number _ c.address_of.result c.in_ok-number.was asked c.fitting.ensures
