-- Texts that were read have no zero byte.
use Rattle.std.proofs.Common.{◌≡◌, sym, ap, subst, ℕ, zero, suc, ◌<◌, Bool, true, false, List, [], ◌∷◌, length, get_or, take, Option, Some, None, refl, arith, true≢false}
use Rattle.std.specs.Prelude.{not, ◌==◌, nat_lt, position, if◌then◌else◌}
use Rattle.std.specs.List.{position_or_len, before_first}
use Rattle.std.proofs.lemmas.Bool.{ltb-false}
use Rattle.std.proofs.lemmas.List.{get_or-take, take_all}
use Rattle.std.proofs.lemmas.List.Elements.{All-nil, All-cons}
use Rattle.std.proofs.lemmas.List.Folds.{length-prefix_len}
use Rattle.std.proofs.lemmas.List.Sums.{fails_before_first}
use Rattle.dw_base.specs.Numbers.{◌>>=◌}
use Rattle.dw_base.specs.Forms.{text_at}
use Rattle.dw_base.specs.Spellable.{IsText}

front : (x y : List ℕ × List ℕ) → Some x ≡ Some y → x.0 ≡ y.0
front x y h = let e : x ≡ y = cc in ap (λ (p : List ℕ × List ℕ). p.0) e

abbrev grown : ℕ → List ℕ × List ℕ → Option (List ℕ × List ℕ)
grown b x = Some (suc b ∷ x.0, x.1)

behind : (b : ℕ) (r : Option (List ℕ × List ℕ)) (y : List ℕ × List ℕ) → ((x : List ℕ × List ℕ) → r ≡ Some x → IsText x.0) → (r >>= grown b) ≡ Some y → IsText y.0
behind b None y f h = absurd (cc)
behind b (Some x) y f h =
    let z : List ℕ × List ℕ = (suc b ∷ x.0, x.1) in
    let is : suc b ∷ x.0 ≡ y.0 = front z y h in
    subst IsText is (All-cons (λ (c : ℕ). 0 < c) (suc b) x.0 (omega arith) (f x refl))

pub text_of : (bytes : List ℕ) (y : List ℕ × List ℕ) → text_at bytes ≡ Some y → IsText y.0
unfolding text_at
text_of [] y h = absurd (cc)
text_of (zero ∷ bs) y h = let z : List ℕ × List ℕ = ([], bs) in let is : [] ≡ y.0 = front z y h in subst IsText is (All-nil (λ (c : ℕ). 0 < c))
text_of (suc b ∷ bs) y h = behind b (text_at bs) y (text_of bs) h

positive : (x : ℕ) → (x == 0) ≡ false → 0 < x
positive zero h = absurd (true≢false h)
positive (suc b) h = omega arith

-- nor have bytes up to the first zero
pub zero_free : (bytes : List ℕ) (k d : ℕ) → k < length (before_first (λ b. b == 0) bytes) → 0 < get_or (before_first (λ b. b == 0) bytes) k d
zero_free bytes k d h =
    let n : ℕ = position_or_len (λ (b : ℕ). b == 0) bytes in
    let len : length (take n bytes) ≡ n = length-prefix_len (λ (x : ℕ). not (x == 0)) bytes in
    let w : k < n = omega arith in
    let e : get_or (take n bytes) k d ≡ get_or bytes k d = get_or-take n bytes k d w in
    subst (λ (x : ℕ). 0 < x) (sym e) (positive (get_or bytes k d) (fails_before_first (λ (b : ℕ). b == 0) bytes k d w))

-- the bytes before the place of the first zero, or all bytes
cut_by : (bytes : List ℕ) (m : ℕ) (b : Bool) (i : ℕ) → nat_lt m (length bytes) ≡ b → (if b then Some m else None) ≡ Some i → take i bytes ≡ take m bytes
cut_by bytes m true i e h = let k : m ≡ i = cc in ap (λ (n : ℕ). take n bytes) (sym k)
cut_by bytes m false i e h = absurd (cc)

pub cut : (bytes : List ℕ) (i : ℕ) → position (λ b. b == 0) bytes ≡ Some i → take i bytes ≡ before_first (λ b. b == 0) bytes
cut bytes i h = cut_by bytes (position_or_len (λ (b : ℕ). b == 0) bytes) (nat_lt (position_or_len (λ (b : ℕ). b == 0) bytes) (length bytes)) i refl h

uncut_by : (bytes : List ℕ) (m : ℕ) (b : Bool) → nat_lt m (length bytes) ≡ b → (if b then Some m else None) ≡ None → bytes ≡ take m bytes
uncut_by bytes m true e h = absurd (cc)
uncut_by bytes m false e h = sym (take_all m bytes (ltb-false m (length bytes) e))

pub uncut : (bytes : List ℕ) → position (λ b. b == 0) bytes ≡ None → bytes ≡ before_first (λ b. b == 0) bytes
uncut bytes h = uncut_by bytes (position_or_len (λ (b : ℕ). b == 0) bytes) (nat_lt (position_or_len (λ (b : ℕ). b == 0) bytes) (length bytes)) refl h
