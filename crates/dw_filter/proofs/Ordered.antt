-- The places of entries, each once and in order.
use Rattle.std.proofs.Common.{◌≡◌, ◌∙◌, sym, ap, subst, ℕ, zero, suc, ◌≤◌, Bool, true, false, ◌||◌, List, [], ◌∷◌, ◌++◌, ◌↔◌, map, length, get_or, refl, arith}
use Rattle.std.specs.Prelude.{nat_eq}
use Rattle.std.specs.Cmp.{nat_eq_equiv}
use Rattle.std.specs.List.{Contains, IsDistinct, list_any}
use Rattle.std.specs.List.Sorted.{IsNonDecreasing, IsNonDecreasingBy, IsPermutation, IsStrictlyIncreasing}
use Rattle.std.proofs.lemmas.Bool.Decides.{nat_tests}
use Rattle.std.proofs.lemmas.List.Elements.{Contains-push}
use Rattle.std.proofs.lemmas.List.Sorted.{IsPermutation-map}
use Rattle.std.proofs.lemmas.Map.Keys.{IsDistinct-IsPermutation, IsDistinct-push, IsStrictlyIncreasing-from_distinct}
use Rattle.std.proofs.lemmas.Map.Views.{Contains-from_any, list_any-from_Contains}
use Rattle.dw_base.specs.declared.offsets.UnitSectionOffset.{UnitSectionOffset}

abbrev pub places : List UnitSectionOffset → List ℕ
places = map (λ e. e.0)

length-places : (xs : List UnitSectionOffset) → length (places xs) ≡ length xs
length-places [] = refl
length-places (x ∷ xs) = ap suc (length-places xs)

get_or-places : (xs : List UnitSectionOffset) (k : ℕ) (q : UnitSectionOffset) → get_or (places xs) k q.0 ≡ (get_or xs k q).0
get_or-places [] k q = refl
get_or-places (x ∷ xs) zero q = refl
get_or-places (x ∷ xs) (suc k) q = get_or-places xs k q

places-push : (xs : List UnitSectionOffset) (x : UnitSectionOffset) → places (xs ++ x ∷ []) ≡ places xs ++ x.0 ∷ []
places-push [] x = refl
places-push (y ∷ xs) x = ap (λ (ns : List ℕ). y.0 ∷ ns) (places-push xs x)

at_place : (xs : List UnitSectionOffset) (q : UnitSectionOffset) → Contains xs q ↔ Contains (places xs) q.0
at_place xs q = (
  λ h. (h.0, (let n = length-places xs in omega (arith, h.1)), get_or-places xs h.0 q ∙ ap (λ (u : UnitSectionOffset). u.0) h.2),
  λ h. (h.0, (let n = length-places xs in omega (arith, h.1)), (let e : (get_or xs h.0 q).0 ≡ q.0 = sym (get_or-places xs h.0 q) ∙ h.2 in ap (λ (n : ℕ). let u : UnitSectionOffset = record { 0 = n } in u) e)),
)

-- whether one of the entries begins at a place
abbrev pub is_among : List UnitSectionOffset → ℕ → Bool
is_among xs n = list_any (nat_eq n) (places xs)

same_number : (x y : ℕ) → nat_eq x y ≡ true → x ≡ y
same_number x y h = grind (arith, nat_tests)

pub contains_among : (xs : List UnitSectionOffset) (q : UnitSectionOffset) → Contains xs q ↔ (is_among xs q.0 ≡ true)
contains_among xs q = (
  λ h. list_any-from_Contains nat_eq_equiv q.0 (places xs) ((at_place xs q).0 h),
  λ h. (at_place xs q).1 (Contains-from_any same_number q.0 (places xs) h),
)

-- one entry more
pub among_here : (xs : List UnitSectionOffset) (x : UnitSectionOffset) → is_among (xs ++ x ∷ []) x.0 ≡ true
among_here xs x = (contains_among (xs ++ x ∷ []) x).0 (Contains-push xs x)

pub among_apart : (xs : List UnitSectionOffset) (x : UnitSectionOffset) (q : ℕ) → nat_eq q x.0 ≡ false → is_among (xs ++ x ∷ []) q ≡ is_among xs q
among_apart [] x q apart = ap (λ (b : Bool). b || false) apart
among_apart (y ∷ xs) x q apart = ap (λ (b : Bool). nat_eq q y.0 || b) (among_apart xs x q apart)

pub once_push : (xs : List UnitSectionOffset) (x : UnitSectionOffset) → IsDistinct nat_eq (places xs) → is_among xs x.0 ≡ false → IsDistinct nat_eq (places (xs ++ x ∷ []))
once_push xs x once new = subst (λ (ns : List ℕ). IsDistinct nat_eq ns) (sym (places-push xs x)) (IsDistinct-push nat_eq_equiv (places xs) x.0 once new)

flips : (x y : ℕ) → nat_eq x y ≡ nat_eq y x
flips x y = grind (arith, nat_tests)

-- entries that stand each once rise once they are sorted
pub rise : (xs ys : List UnitSectionOffset) → IsDistinct nat_eq (places xs) → IsPermutation xs ys → IsNonDecreasingBy (λ e. e.0) ys → IsStrictlyIncreasing (places ys)
rise xs ys once moved sorted =
    let distinct : IsDistinct nat_eq (places ys) = IsDistinct-IsPermutation nat_eq flips (places xs) (places ys) (IsPermutation-map (λ (e : UnitSectionOffset). e.0) xs ys moved) once in
    let up : IsNonDecreasing (places ys) = λ i j d le within.
    let q : UnitSectionOffset = record { 0 = d } in
    let a : get_or (places ys) i d ≡ (get_or ys i q).0 = get_or-places ys i q in
    let b : get_or (places ys) j d ≡ (get_or ys j q).0 = get_or-places ys j q in
    let n = length-places ys in
    let below : (get_or ys i q).0 ≤ (get_or ys j q).0 = sorted i j q le (omega (arith, within)) in
    omega arith in
    IsStrictlyIncreasing-from_distinct (places ys) up distinct
