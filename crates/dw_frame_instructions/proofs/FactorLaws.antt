-- Offsets that a factor doesn't divide.
use Rattle.std.specs.Prelude.{◌≡◌, Bool, true, false, not, ◌&&◌, Some, None, refl, ℤ, pos, ◌*ℤ◌, int_div}
use Rattle.std.proofs.Common.{◌∙◌}
use Rattle.std.specs.Ordering.{int_eq}
use Rattle.std.specs.Cmp.{signed_Decides}
use Rattle.dw_base.specs.Numbers.{when}
use Rattle.dw_writer.specs.SignedNumbers.{signed_fits}
use Rattle.dw_frame_instructions.specs.Factors.{factored}

middle_false : (a b c : Bool) (q : ℤ) → b ≡ false → when (a && b && c) (Some q) ≡ None
middle_false a true c q e = cc
middle_false true false c q e = refl
middle_false false false c q e = refl

is_not : (b : Bool) → (b ≡ true → ⊥) → b ≡ false
is_not true h = absurd (h refl)
is_not false h = refl

pub not_factored : (factor offset product : ℤ) → product ≡ int_div offset factor *ℤ factor → (product ≡ offset → ⊥) → factored factor offset ≡ None
not_factored factor offset product e differs =
    middle_false (not (int_eq factor (pos 0))) (int_eq (int_div offset factor *ℤ factor) offset) (signed_fits 4 (int_div offset factor)) (int_div offset factor)
    (is_not (int_eq (int_div offset factor *ℤ factor) offset)
    (λ h. differs (e ∙ (signed_Decides (int_div offset factor *ℤ factor) offset).0 h)))
