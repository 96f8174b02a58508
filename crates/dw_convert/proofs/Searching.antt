-- Places that are looked up among those at which operations begin.
use Rattle.std.proofs.Common.{◌≡◌, ◌∙◌, sym, ap, subst, ℕ, ◌<◌, ◌^◌, List, length, get_or, slice_get, Some, Ok, Err, ℤ, pos, negsuc, ◌+ℤ◌, ◌≤ℤ◌, w64, inl, inr, arith}
use Rattle.std.specs.Int.{FitsUnsigned}
use Rattle.std.specs.Int.RustNames.{unsigned_abs}
use Rattle.std.specs.List.Sorted.{IsNonDecreasing, IsBinarySearchResult}
use Rattle.std.specs.Ordering.{nat_cmp}
use Rattle.std.proofs.lemmas.Bool.{cases_lt}
use Rattle.std.proofs.lemmas.Int.{ints}
use Rattle.std.proofs.lemmas.List.Sorted.{searched}
use Rattle.std.proofs.lemmas.Option.{slice_get-get_or, slice_get_within, get_or_from_slice_get}
use Rattle.dw_convert.specs.Branches.{LeadsTo}

-- a rising list has a place at the index that is found
pub found_place : (places : List ℕ) (x i : ℕ) → IsNonDecreasing places → IsBinarySearchResult (λ y. nat_cmp y x) places (Ok i) → slice_get places i ≡ Some x
found_place places x i rising h =
    let s = searched places x (Ok i) h (λ a b l w. rising a b 0 l w) in
    slice_get-get_or places i 0 s.0 ∙ ap (λ (y : ℕ). Some y) s.1

-- and has it nowhere where none is found
pub no_place : (places : List ℕ) (x gap i : ℕ) → IsNonDecreasing places → IsBinarySearchResult (λ y. nat_cmp y x) places (Err gap) → slice_get places i ≡ Some x → ⊥
no_place places x gap i rising h e =
    let s = searched places x (Err gap) h (λ a b l w. rising a b 0 l w) in
    let within : i < length places = slice_get_within places i x e in
    let here : get_or places i 0 ≡ x = get_or_from_slice_get places i x 0 e in
    elim (cases_lt i gap) [
      | inl below ↦ (let b : get_or places i 0 < x = s.1 i below in omega arith)
      | inr above ↦ (let b : x < get_or places i 0 = s.2 i above within in omega arith)
    ]

-- a number that isn't negative is its size
as_size : (y : ℤ) (n : ℕ) → pos 0 ≤ℤ y → n ≡ unsigned_abs y → y ≡ pos n
as_size (pos m) n l h = ap pos (sym h)
as_size (negsuc m) n l h = absurd (omega (arith, ints, l))

pub leads : (places : List ℕ) (behind : ℕ) (z : ℤ) (place i : ℕ) → FitsUnsigned w64 (pos behind +ℤ z) → place ≡ unsigned_abs (pos behind +ℤ z) → slice_get places i ≡ Some place → LeadsTo places behind z i
leads places behind z place i fits is here = record { place = place; begin = here; is = as_size (pos behind +ℤ z) place fits.0 is }

-- a branch whose target is no number of the machine leads nowhere
pub leads_outside : (places : List ℕ) (behind : ℕ) (z : ℤ) (i : ℕ) → ((k : ℕ) → get_or places k 0 < 2 ^ 64) → ¬ FitsUnsigned w64 (pos behind +ℤ z) → LeadsTo places behind z i → ⊥
leads_outside places behind z i small none h =
    let here : get_or places i 0 ≡ h.place = get_or_from_slice_get places i h.place 0 h.begin in
    let low : h.place < 2 ^ 64 = subst (λ (n : ℕ). n < 2 ^ 64) here (small i) in
    none (subst (λ (y : ℤ). FitsUnsigned w64 y) (sym h.is) (omega (arith, ints), omega (arith, ints)))

-- and so does one whose target isn't among the places
pub leads_nowhere : (places : List ℕ) (behind : ℕ) (z : ℤ) (place gap i : ℕ) → FitsUnsigned w64 (pos behind +ℤ z) → place ≡ unsigned_abs (pos behind +ℤ z) → IsNonDecreasing places → IsBinarySearchResult (λ y. nat_cmp y place) places (Err gap) → LeadsTo places behind z i → ⊥
leads_nowhere places behind z place gap i fits is rising missing h =
    let same : pos place ≡ pos h.place = sym (as_size (pos behind +ℤ z) place fits.0 is) ∙ h.is in
    let place_is : h.place ≡ place = cc in
    no_place places place gap i rising missing (h.begin ∙ ap (λ (n : ℕ). Some n) place_is)
