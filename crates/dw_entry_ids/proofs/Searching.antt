-- Whether a place is one of those that are kept.
use Rattle.std.proofs.Common.{◌≡◌, sym, ap, ℕ, zero, suc, ◌<◌, ◌≤◌, ◌==◌, ◌||◌, List, [], ◌∷◌, length, map, get_or, Bool, true, false, Result, Ok, Err, ⊎_elim, refl, arith}
use Rattle.std.specs.List.{list_any}
use Rattle.std.specs.List.Sorted.{IsBinarySearchResult, IsSearchInRange, IsNonDecreasingBy, IsStrictlyIncreasing}
use Rattle.std.specs.Ordering.{nat_cmp, ordering_index}
use Rattle.std.specs.Result.{is_ok}
use Rattle.std.proofs.lemmas.Bool.{cases_lt, ne_eqb, eq-eqb}
use Rattle.std.proofs.lemmas.Bool.Decides.{nat_tests}
use Rattle.std.proofs.lemmas.Cmp.{ranked}
use Rattle.std.proofs.lemmas.List.Folds.{list_any_none}
use Rattle.std.proofs.lemmas.List.Sorted.{IsNonDecreasingBy-from_default}
use Rattle.std.proofs.lemmas.Map.Keys.{sorted_from_strictly_increasing, below_from_sorted}
use Rattle.dw_base.specs.declared.offsets.UnitSectionOffset.{UnitSectionOffset}

some_there : (xs : List UnitSectionOffset) (i x : ℕ) (d : UnitSectionOffset) → i < length xs → (get_or xs i d).0 ≡ x → list_any (λ q. q.0 == x) xs ≡ true
some_there [] i x d l e = absurd (omega arith)
some_there (y ∷ xs) zero x d l e = ap (λ b. b || list_any (λ q. q.0 == x) xs) (eq-eqb y.0 x e)
some_there (y ∷ xs) (suc i) x d l e = go (y.0 == x) (some_there xs i x d (omega arith) e)
  where
    go : (b : Bool) → list_any (λ q. q.0 == x) xs ≡ true → (b || list_any (λ q. q.0 == x) xs) ≡ true
    go true h = refl
    go false h = h

module _ (xs : List UnitSectionOffset) (x : ℕ) (rising : IsStrictlyIncreasing (map (λ p. p.0) xs)) where
  abbrev zero_place : UnitSectionOffset
  zero_place = record { 0 = 0 }

  long : (ys : List UnitSectionOffset) → length (map (λ (p : UnitSectionOffset). p.0) ys) ≡ length ys
  long [] = refl
  long (y ∷ ys) = ap suc (long ys)

  at : (ys : List UnitSectionOffset) (i : ℕ) → (get_or ys i zero_place).0 ≡ get_or (map (λ p. p.0) ys) i 0
  at [] i = refl
  at (y ∷ ys) zero = refl
  at (y ∷ ys) (suc i) = at ys i

  rises : IsNonDecreasingBy (λ q. ordering_index (nat_cmp q.0 x)) xs
  rises = IsNonDecreasingBy-from_default (λ q. ordering_index (nat_cmp q.0 x)) xs zero_place (λ i j le in_range.
      let numbers : List ℕ = map (λ (p : UnitSectionOffset). p.0) xs in
      let inside : j < length numbers = let n : length numbers ≡ length xs = long xs in omega arith in
      let below : i < j → get_or numbers i 0 < get_or numbers j 0 = λ l. below_from_sorted numbers i j 0 (sorted_from_strictly_increasing numbers rising) l inside in
      let first : (get_or xs i zero_place).0 ≡ get_or numbers i 0 = at xs i in
      let second : (get_or xs j zero_place).0 ≡ get_or numbers j 0 = at xs j in
      let keys : (get_or xs i zero_place).0 ≤ (get_or xs j zero_place).0 = grind (arith, below, first, second, λ (same : i ≡ j). ap (λ k. (get_or xs k zero_place).0) same) in
      grind (arith, nat_tests))

  -- a binary search finds it exactly where it is one of them
  pub found_kept : (r : Result ℕ ℕ) → IsSearchInRange r (length xs) → IsBinarySearchResult (λ q. nat_cmp q.0 x) xs r → is_ok r ≡ list_any (λ q. q.0 == x) xs
  found_kept (Ok i) in_range equal = sym (some_there xs i x zero_place in_range (ranked _ x _ (sym (equal zero_place))))
  found_kept (Err i) in_range parted =
      let p = parted rises in
      sym (list_any_none (λ q. q.0 == x) xs (λ k d l. ne_eqb (get_or xs k d).0 x (λ same. absurd (⊎_elim
      (λ below. let under : (get_or xs k d).0 < x = ranked _ x _ (sym (p.0 k d (omega arith) below)) in omega arith)
      (λ above. let over : x < (get_or xs k d).0 = ranked _ x _ (sym (p.1 k d above l)) in omega arith)
      (cases_lt k i)))))
