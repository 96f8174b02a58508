-- Descriptors of ranges, one after the other.
use Rattle.std.proofs.Common.{◌≡◌, ◌∙◌, sym, ap, subst, ℕ, ◌<◌, ◌≤◌, List, [], ◌∷◌, ◌++◌, length, take, drop, get_or, Bool, true, false, not, ◌&&◌, IsTrue, refl, nat_eq, append_assoc, append-nil, if◌then◌else◌}
use Rattle.std.specs.Prelude.{IsFalse}
use Rattle.std.specs.List.{list_all}
use Rattle.std.proofs.lemmas.List.{at_drop_all, take_all}
use Rattle.std.proofs.lemmas.List.Folds.{list_all_at}
use borrow.Author.Tests.{ne_eqb, eq-eqb}
use Rattle.dw_entry_ranges.specs.declared.range.AddressRange.{AddressRange}
use Rattle.dw_arange_table.specs.declared.range.RangeDescriptor.{RangeDescriptor}
use Rattle.dw_arange_table.specs.Sets.{range_fits, is_range}
use Rattle.dw_arange_table.specs.Covers.{descriptor_of, descriptors_of}

module _ (front next : List RangeDescriptor) (d : RangeDescriptor) (r : AddressRange) (rest : List AddressRange) (all : List RangeDescriptor) where
  -- a descriptor that has a length
  pub kept : front ++ descriptors_of (r ∷ rest) ≡ all → d ≡ descriptor_of r → (d.length ≡ 0 → ⊥) → next ≡ front ++ d ∷ [] → next ++ descriptors_of rest ≡ all
  kept before is some more =
      let n : nat_eq (descriptor_of r).length 0 ≡ false = ne_eqb (descriptor_of r).length 0 (λ e. some (ap (λ x. x.length) is ∙ e)) in
      ap (λ l. l ++ descriptors_of rest) (more ∙ ap (λ x. front ++ x ∷ []) is)
      ∙ append_assoc front (descriptor_of r ∷ []) (descriptors_of rest)
      ∙ sym (ap (λ b. front ++ (if not b then descriptor_of r ∷ descriptors_of rest else descriptors_of rest)) n) ∙ before

  -- and one that hasn't
  pub left_out : front ++ descriptors_of (r ∷ rest) ≡ all → d ≡ descriptor_of r → d.length ≡ 0 → front ++ descriptors_of rest ≡ all
  left_out before is none =
      let n : nat_eq (descriptor_of r).length 0 ≡ true = eq-eqb (descriptor_of r).length 0 (sym (ap (λ x. x.length) is) ∙ none) in
      sym (ap (λ b. front ++ (if not b then descriptor_of r ∷ descriptors_of rest else descriptors_of rest)) n) ∙ before

not_both : (a b : Bool) → b ≡ false → IsTrue (not (a && b))
not_both true b h = ap not h
not_both false b h = refl

both : (a b : Bool) → IsTrue a → IsTrue b → IsTrue (a && b)
both true b h k = k
both false b h k = h

pub range_of_fits : (w : ℕ) (d : RangeDescriptor) → IsTrue (range_fits w d) → (d.length ≡ 0 → ⊥) → IsTrue (is_range w d)
range_of_fits w d h some = both (range_fits w d) _ h (not_both (nat_eq d.address 0) (nat_eq d.length 0) (ne_eqb d.length 0 some))

pub not_all : {A : Type 0} (p : A → Bool) (xs : List A) (i : ℕ) (d : A) → i < length xs → IsFalse (p (get_or xs i d)) → IsFalse (list_all p xs)
not_all p xs i d below h = list_all_at p xs i d below h

pub all_of : {A : Type 0} (p : A → Bool) (xs : List A) (i : ℕ) → length xs ≤ i → IsTrue (list_all p (take i xs)) → IsTrue (list_all p xs)
all_of p xs i h t = subst (λ l. IsTrue (list_all p l)) (take_all i xs h) t

-- no range is left
pub none_left : (front all : List RangeDescriptor) (ranges : List AddressRange) (i : ℕ) → length ranges ≤ i → front ++ descriptors_of (drop i ranges) ≡ all → front ≡ all
none_left front all ranges i h e = sym (append-nil front) ∙ sym (ap (λ l. front ++ descriptors_of l) (at_drop_all (λ l. l) ranges i h)) ∙ e
