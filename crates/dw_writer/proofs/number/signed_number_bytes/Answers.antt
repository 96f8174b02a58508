use Rattle.std.proofs.Common.{◌∙◌, ap, w64}
use Rattle.std.proofs.lemmas.Int.{to_z-of_z}
use Rattle.dw_base.specs.Numbers.{num}
use Rattle.dw_writer.specs.SignedNumbers.{signed_num, twos_complement}
use Rattle.dw_writer.proofs.number.signed_number_bytes.Goals as goal

pub returns-clause-ok : goal.returns-clause-ok
unfolding signed_num
returns-clause-ok c =
    c.low_bytes.ensures
    ∙ ap (num c.args.big c.args.size) (c.bits_of.ensures ∙ ap (twos_complement c.args.size) (to_z-of_z w64 c.args.val c.ranges.val))
