use Rattle.std.proofs.Common.{sym, subst, ◌∙◌, ap, w64}
use Rattle.std.proofs.lemmas.Int.{to_z-of_z}
use Rattle.std.specs.Prelude.{Some, IsTrue}
use Rattle.dw_base.specs.Numbers.{num}
use Rattle.dw_writer.specs.SignedNumbers.{signed_fits, twos_complement}
use Rattle.dw_link.proofs.Sums.{signed-none, signed-shown}
use Rattle.dw_link.proofs.sum.signed_bits.Goals as goal

pub returns-then-signed_fits : goal.returns-then-signed_fits
returns-then-signed_fits c =
    let same = to_z-of_z w64 c.args.number c.ranges.number in
    let fit = subst (λ z. IsTrue (signed_fits c.args.size z)) same (c.signed_fits.ensures.0 c.if-signed_fits.true) in (
      c.low_bits.ensures.fits,
      λ big. signed-shown big c.args.size c.args.number c.requires fit
          ∙ ap (λ k. Some (num big c.args.size k)) (sym (c.low_bits.ensures.value ∙ ap (twos_complement c.args.size) same)),
    )

pub returns-else-signed_fits : goal.returns-else-signed_fits
returns-else-signed_fits c =
    let same = to_z-of_z w64 c.args.number c.ranges.number in
    λ big. signed-none big c.args.size c.args.number
    (λ h. let t = c.signed_fits.ensures.1 (subst (λ z. IsTrue (signed_fits c.args.size z)) (sym same) h) in cc)
