-- What writes of advances come to.
use Rattle.std.specs.Prelude.{◌≡◌, ℕ, ◌+◌, ◌<◌, ◌≤◌, ◌==◌, Bool, true, false, not, ◌&&◌, nat_lt, [], ◌∷◌, refl, is_none, if◌then◌else◌}
use Rattle.std.proofs.Common.{sym, ◌∙◌, ap, arith}
use Rattle.std.proofs.lemmas.Bool.{eq-eqb}
use Rattle.std.proofs.lemmas.Bool.Decides.{nat_tests}
use Rattle.dw_base.specs.declared.error.Error.TheVariants as errors
use Rattle.dw_frame_instructions.specs.Pieces.{Piece, nothing, bytes, field, both}
use Rattle.dw_frame_instructions.specs.Advances.{delta, delta_piece, advance_piece, advance_fails}
use Rattle.dw_frame_instructions.specs.Causes.{IsNone}

yes : (b : Bool) (p q : Piece) → b ≡ true → (if b then p else q) ≡ p
yes b p q e = ap (λ c. if c then p else q) e

no : (b : Bool) (p q : Piece) → b ≡ false → (if b then p else q) ≡ q
no b p q e = ap (λ c. if c then p else q) e

under : (n m : ℕ) → n < m → nat_lt n m ≡ true
under n m h = grind (arith, nat_tests)

over : (n m : ℕ) → m ≤ n → nat_lt n m ≡ false
over n m h = grind (arith, nat_tests)

pub delta_small : (n : ℕ) → n < 0x40 → bytes ((0x40 + n) ∷ []) ≡ delta_piece n
delta_small n h = sym (yes (nat_lt n 0x40) _ _ (under n 0x40 h))

pub delta_one : (n : ℕ) → 0x40 ≤ n → n < 0x100 → both (bytes (0x02 ∷ [])) (field 1 n) ≡ delta_piece n
delta_one n g h = sym (no (nat_lt n 0x40) _ _ (over n 0x40 g) ∙ yes (nat_lt n 0x100) _ _ (under n 0x100 h))

pub delta_two : (n : ℕ) → 0x100 ≤ n → n < 0x10000 → both (bytes (0x03 ∷ [])) (field 2 n) ≡ delta_piece n
delta_two n g h = sym (no (nat_lt n 0x40) _ _ (over n 0x40 (omega arith)) ∙ no (nat_lt n 0x100) _ _ (over n 0x100 g) ∙ yes (nat_lt n 0x10000) _ _ (under n 0x10000 h))

pub delta_four : (n : ℕ) → 0x10000 ≤ n → both (bytes (0x04 ∷ [])) (field 4 n) ≡ delta_piece n
delta_four n g = sym (no (nat_lt n 0x40) _ _ (over n 0x40 (omega arith)) ∙ no (nat_lt n 0x100) _ _ (over n 0x100 (omega arith)) ∙ no (nat_lt n 0x10000) _ _ (over n 0x10000 g))

pub advance_stays : (factor from to : ℕ) → to ≡ from → nothing ≡ advance_piece factor from to
advance_stays factor from to e = sym (yes (to == from) _ _ (eq-eqb to from e))

and_false : (b c : Bool) → c ≡ false → (b && c) ≡ false
and_false true c e = e
and_false false c e = refl

pub advance_none : (factor from to : ℕ) → to ≡ from → IsNone (advance_fails factor from to)
advance_none factor from to same (errors.InvalidFrameCodeOffset o) =
    and_false (o == to) (not (to == from) && is_none (delta factor from to)) (ap (λ b. not b && is_none (delta factor from to)) (eq-eqb to from same))
advance_none factor from to same e = refl
