use Rattle.std.proofs.Common.{rules, ◌∙◌, ap, subst}
use Rattle.std.specs.Int.{w128}
use Rattle.std.proofs.lemmas.Int.{to_z-of_z}
use Rattle.dw_writer.specs.Texts.{int_text}
use Rattle.dw_writer.specs.Pointers.{address_of}
use Rattle.dw_link.specs.Bits.{AreBitsOf}
use Rattle.dw_link.proofs.Sums.{sum_bits-plain, sum_bits-pointer, sum_bits-none}
use Rattle.dw_link.proofs.sum.bits_of_sum.Goals as goal

pub returns-in_err-address_of-in-Some : goal.returns-in_err-address_of-in-Some
returns-in_err-address_of-in-Some c =
    let asked = c.address_of.ensures ∙ ap address_of (to_z-of_z w128 c.args.sum c.ranges.sum) in
    sum_bits-none c.args.size c.args.place c.args.sum c.args.eh_pe c.in-Some.eh_pe c.address_of.result _ c.in-Some.is c.in_err-address_of-in-Some.was asked (search rules)

pub returns-in-None : goal.returns-in-None
returns-in-None c =
    let bits = subst (λ z. AreBitsOf c.args.size (λ big. int_text big c.args.size z) c.unsigned_bits.result) (to_z-of_z w128 c.args.sum c.ranges.sum) c.unsigned_bits.ensures in
    sum_bits-plain c.args.size c.args.place c.args.sum c.args.eh_pe _ c.in-None.is bits

pub returns-in_ok-address_of-in-Some : goal.returns-in_ok-address_of-in-Some
returns-in_ok-address_of-in-Some c =
    let asked = c.address_of.ensures ∙ ap address_of (to_z-of_z w128 c.args.sum c.ranges.sum) in
    sum_bits-pointer c.args.size c.args.place c.in_ok-address_of-in-Some.field-0 c.args.sum c.args.eh_pe c.in-Some.eh_pe c.address_of.result _ c.in-Some.is c.in_ok-address_of-in-Some.was asked c.pointer_bits.ensures
