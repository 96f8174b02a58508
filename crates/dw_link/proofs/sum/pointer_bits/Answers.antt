use Rattle.std.proofs.Common.{◌≡◌, ◌∙◌, rules, subst, sym, to_z, of_z, w64}
use Rattle.dw_writer.specs.Pointers.{signed_text}
use Rattle.dw_link.specs.Bits.{AreBitsOf}
use Rattle.dw_link.proofs.Sums.{pointer_bits-signed, pointer_bits-unsigned}
use Rattle.dw_link.proofs.sum.pointer_bits.Goals as goal

pub returns-then-is_signed : goal.returns-then-is_signed
returns-then-is_signed c =
    let back : to_z w64 (of_z w64 c.cast_signed.result) ≡ c.cast_signed.result = search rules in
    let bits = subst (λ z. AreBitsOf c.args.size (λ big. signed_text big c.args.size z) c.signed_bits.result) back c.signed_bits.ensures in
    pointer_bits-signed c.args.size c.args.eh_pe.0 c.format.result.0 c.args.place c.args.address c.counted-number.result c.cast_signed.result _ c.requires.encoding c.counted-number.ensures c.format.ensures
    (sym c.is_signed.ensures ∙ c.if-is_signed.true) c.cast_signed.ensures bits

pub returns-else-is_signed : goal.returns-else-is_signed
returns-else-is_signed c =
    pointer_bits-unsigned c.args.size c.args.eh_pe.0 c.format.result.0 c.args.place c.args.address c.counted-number.result _ c.requires.encoding c.counted-number.ensures c.format.ensures
    (sym c.is_signed.ensures ∙ c.if-is_signed.false) c.fitting.ensures
