-- What is under the names of an entry that was changed.
use Rattle.std.proofs.Common.{◌≡◌, ◌≢◌, ◌∙◌, ap, ℕ, zero, suc, ◌<◌, List, [], ◌∷◌, Some, None, refl, arith, length, Result, Ok, Err}
use Rattle.std.specs.Prelude.{OnOk, OnErr}
use Rattle.dw_entries.specs.declared.attribute.Attribute.{Attribute}
use Rattle.dw_entries.specs.declared.value.AttributeValue.{AttributeValue}
use Rattle.dw_entries.specs.Attributes.{get_named, set_named, without_name}
use Rattle.dw_entries.specs.Entries.{EntryValue, value_of, with_attribute, with_attributes, without_attribute, with_changed, entry_at}
use Rattle.dw_entries.proofs.Changed.{length-with_changed, seen_changed}
use Rattle.dw_entries.proofs.Named.{get_named-set_named, get_named-set_other, get_named-without, get_named-without_other}

module _ (i : ℕ) (es : List EntryValue) (within : i < length es) where
  set_attributes : (n : ℕ) (v : AttributeValue) → (entry_at (with_changed i (with_attribute n v) es) i).attributes ≡ set_named n v (entry_at es i).attributes
  set_attributes n v =
      seen_changed (λ e. e.attributes) i (with_attribute n v) es (set_named n v) (λ e. refl) within

  pub value_of-set : (n : ℕ) (v : AttributeValue) (new : List EntryValue) → new ≡ with_changed i (with_attribute n v) es → value_of new i n ≡ Some v
  value_of-set n v new h =
      ap (λ xs. value_of xs i n) h ∙ ap (get_named n) (set_attributes n v) ∙ get_named-set_named n v (entry_at es i).attributes

  pub value_of-set_other : (n : ℕ) (v : AttributeValue) (new : List EntryValue) → new ≡ with_changed i (with_attribute n v) es → (m : ℕ) → m ≢ n → value_of new i m ≡ value_of es i m
  value_of-set_other n v new h m ne =
      ap (λ xs. value_of xs i m) h ∙ ap (get_named m) (set_attributes n v) ∙ get_named-set_other n m v (entry_at es i).attributes ne

  left_attributes : (n : ℕ) → (entry_at (with_changed i (without_attribute n) es) i).attributes ≡ without_name n (entry_at es i).attributes
  left_attributes n =
      seen_changed (λ e. e.attributes) i (without_attribute n) es (without_name n) (λ e. refl) within

  pub value_of-without : (n : ℕ) (new : List EntryValue) → new ≡ with_changed i (without_attribute n) es → value_of new i n ≡ None
  value_of-without n new h =
      ap (λ xs. value_of xs i n) h ∙ ap (get_named n) (left_attributes n) ∙ get_named-without n (entry_at es i).attributes

  pub value_of-without_other : (n : ℕ) (new : List EntryValue) → new ≡ with_changed i (without_attribute n) es → (m : ℕ) → m ≢ n → value_of new i m ≡ value_of es i m
  value_of-without_other n new h m ne =
      ap (λ xs. value_of xs i m) h ∙ ap (get_named m) (left_attributes n) ∙ get_named-without_other n m (entry_at es i).attributes ne

  -- in both cases of an answer
  pub value_of-other : {E : Type 0} (r : Result (Unit {0}) E) (n : ℕ) (v : AttributeValue) (new : List EntryValue) → OnOk r (new ≡ with_changed i (with_attribute n v) es) → OnErr r (new ≡ es) → (m : ℕ) → m ≢ n → value_of new i m ≡ value_of es i m
  value_of-other (Ok x) n v new ok kept m ne = value_of-set_other n v new ok m ne
  value_of-other (Err x) n v new ok kept m ne = ap (λ xs. value_of xs i m) kept

  -- as many entries as before
  pub count_changed : (f : EntryValue → EntryValue) (new : List EntryValue) → new ≡ with_changed i f es → length new ≡ length es
  count_changed f new h = ap length h ∙ length-with_changed i f es

  pub count_either : {E : Type 0} (r : Result (Unit {0}) E) (f : EntryValue → EntryValue) (new : List EntryValue) → OnOk r (new ≡ with_changed i f es) → OnErr r (new ≡ es) → length new ≡ length es
  count_either (Ok x) f new ok kept = count_changed f new ok
  count_either (Err x) f new ok kept = ap length kept

  -- a handle's index stays within
  pub within_changed : (f : EntryValue → EntryValue) (new : List EntryValue) → new ≡ with_changed i f es → i < length new
  within_changed f new h = omega (arith, count_changed f new h, within)

  pub within_either : {E : Type 0} (r : Result (Unit {0}) E) (f : EntryValue → EntryValue) (new : List EntryValue) → OnOk r (new ≡ with_changed i f es) → OnErr r (new ≡ es) → i < length new
  within_either r f new ok kept = omega (arith, count_either r f new ok kept, within)

-- Attributes put in the place of an entry's own.

pub attributes_put : (i : ℕ) (xs : List Attribute) (g : List Attribute → List Attribute) (es : List EntryValue) → xs ≡ g (entry_at es i).attributes → with_changed i (with_attributes xs) es ≡ with_changed i (λ e. with_attributes (g e.attributes) e) es
attributes_put i xs g [] h = refl
attributes_put zero xs g (e ∷ es) h = ap (λ ys. with_attributes ys e ∷ es) h
attributes_put (suc i) xs g (e ∷ es) h = ap (λ t. e ∷ t) (attributes_put i xs g es h)

pub attributes_kept : (i : ℕ) (xs : List Attribute) (es : List EntryValue) → xs ≡ (entry_at es i).attributes → with_changed i (with_attributes xs) es ≡ es
attributes_kept i xs [] h = refl
attributes_kept zero xs (e ∷ es) h = ap (λ ys. with_attributes ys e ∷ es) h
attributes_kept (suc i) xs (e ∷ es) h = ap (λ t. e ∷ t) (attributes_kept i xs es h)
