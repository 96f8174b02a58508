use Rattle.std.specs.Prelude.{◌≡◌}
use Rattle.std.proofs.Common.{ap, rules, to_z, of_z, w32}
use Rattle.dw_base.specs.declared.error.Error.TheVariants.{InvalidFrameDataOffset}
use Rattle.dw_frame_instructions.proofs.FactorLaws.{not_factored}
use Rattle.dw_frame_instructions.proofs.factor.factored_data_offset.Goals as goal

pub returns-then-product-offset : goal.returns-then-product-offset
returns-then-product-offset c =
    let same : to_z w32 (of_z w32 c.args.offset) ≡ c.args.offset = search rules in
    let factor : to_z w32 (of_z w32 c.from-factor.result) ≡ c.args.factor = search rules in
    let quotient : to_z w32 (of_z w32 c.in-Some.quotient) ≡ c.in-Some.quotient = search rules in
    let divided = rw (same, factor) at c.in-Some.ensures.1 in
    let product = rw (quotient, factor, divided) at c.in-Some-checked_mul.ensures.1 in (
      ap InvalidFrameDataOffset same,
      not_factored c.args.factor c.args.offset c.in-Some-checked_mul.product product
          (λ e. c.if-product-offset.true (ap (of_z w32) e)),
    )
