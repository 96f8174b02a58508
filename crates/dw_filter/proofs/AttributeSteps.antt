-- Attributes whose entries are added one after the other.
use Rattle.std.proofs.Common.{◌≡◌, ◌∙◌, sym, ap, subst, ℕ, zero, suc, ◌+◌, ◌<◌, ◌≤◌, List, [], ◌∷◌, ◌++◌, length, take, drop, map, get_or, arith, refl}
use Rattle.std.proofs.lemmas.List.{take_all, map_more, map-append}
use Rattle.dw_base.specs.declared.offsets.UnitSectionOffset.{UnitSectionOffset}
use Rattle.dw_read.specs.Reading.{Reading}
use Rattle.dw_read.specs.declared.attribute.Attribute.{Attribute}
use Rattle.dw_read_units.specs.declared.unit_ref.UnitRef.{UnitRef}
use Rattle.dw_sources.specs.declared.convert_error.ConvertError.{ConvertError}
use Rattle.dw_filter.specs.AttributePlaces.{AddsAttribute, AddsAttributes, RefusesAttribute, RefusesOne, Seen, seen}

-- a list around one of its elements
around : {A : Type 0} (xs : List A) (i : ℕ) (x d : A) → i < length xs → x ≡ get_or xs i d → xs ≡ take i xs ++ x ∷ drop (suc i) xs
around [] i x d l e = absurd (omega (arith, l))
around {A} (a ∷ xs) zero x d l e = ap (λ (z : A). z ∷ xs) (sym e)
around {A} (a ∷ xs) (suc i) x d l e = ap (λ (zs : List A). a ∷ zs) (around xs i x d (omega (arith, l)) e)

module _ (R E : Type 0) (reading : R → Reading) (u : UnitRef R E) where
  one_behind : (attributes : List Seen) (a : Seen) (old mid new : List UnitSectionOffset) → AddsAttributes reading u attributes old mid → AddsAttribute reading u mid new a → AddsAttributes reading u (attributes ++ a ∷ []) old new
  one_behind [] a old mid new h i = (new, subst (λ (places : List UnitSectionOffset). AddsAttribute reading u places new a) h i, refl)
  one_behind (b ∷ bs) a old mid new h i = (h.0, h.1, one_behind bs a h.0 mid new h.2 i)

  -- what the loop knows: what the attributes so far name was added
  abbrev pub AreSoFar : List (Attribute R E) → ℕ → List UnitSectionOffset → List UnitSectionOffset → Type 0
  AreSoFar all i old places = AddsAttributes reading u (map (seen reading) (take i all)) old places

  module _ (all : List (Attribute R E)) (i : ℕ) (a blank : Attribute R E) (within : i < length all) (there : a ≡ get_or all i blank) (old mid new : List UnitSectionOffset) (far : AreSoFar all i old mid) where
    pub one_more : AddsAttribute reading u mid new (seen reading a) → AreSoFar all (i + 1) old new
    one_more h =
        let e = map_more (seen reading) all i blank within ∙ ap (λ (x : Attribute R E). map (seen reading) (take i all) ++ seen reading x ∷ []) (sym there) in
        subst (λ (read : List Seen). AddsAttributes reading u read old new) (sym e) (one_behind (map (seen reading) (take i all)) (seen reading a) old mid new far h)

    pub one_refused : (e : ConvertError) → RefusesAttribute reading u mid new (seen reading a) e → RefusesOne reading u (map (seen reading) all) old new e
    one_refused e h = record {
      front = map (seen reading) (take i all);
      attribute = seen reading a;
      back = map (seen reading) (drop (suc i) all);
      is = ap (map (seen reading)) (around all i a blank within there) ∙ map-append (seen reading) (take i all) (a ∷ drop (suc i) all);
      mid = mid;
      before = far;
      refused = h;
    }

  pub all_done : (all : List (Attribute R E)) (i : ℕ) (old new : List UnitSectionOffset) → length all ≤ i → AreSoFar all i old new → AddsAttributes reading u (map (seen reading) all) old new
  all_done all i old new past far = subst (λ (read : List (Attribute R E)). AddsAttributes reading u (map (seen reading) read) old new) (take_all i all past) far
