-- A value replaced under its name.
use Rattle.std.proofs.Common.{◌≡◌, ◌∙◌, sym, ap, subst, ℕ, zero, suc, ◌<◌, List, [], ◌∷◌, Some, None, Bool, true, false, refl, arith, length}
use Rattle.std.specs.Prelude.{slice_set, position, if◌then◌else◌}
use Rattle.std.proofs.Math.ListN.{get_or}
use Rattle.std.proofs.lemmas.Bool.{eqb-true}
use Rattle.std.proofs.lemmas.List.Quantifiers.{position-Some}
use Rattle.std.proofs.lemmas.Option.{slice_get_read}
use Rattle.dw_entries.specs.declared.attribute.Attribute.{Attribute}
use Rattle.dw_entries.specs.declared.value.AttributeValue.{AttributeValue}
use Rattle.dw_entries.specs.Attributes.{is_named, named, get_named, set_named, with_value_at, value_at, value_or_none, HaveDistinctNames}
use Rattle.dw_entries.proofs.Named.{set_named-found}

-- an attribute with another value
abbrev revalued : Attribute → AttributeValue → Attribute
revalued a w = record { name = a.name; value = w }

pub length-with_value_at : (i : ℕ) (w : AttributeValue) (xs : List Attribute) → length (with_value_at i w xs) ≡ length xs
length-with_value_at i w [] = refl
length-with_value_at zero w (a ∷ xs) = refl
length-with_value_at (suc i) w (a ∷ xs) = ap suc (length-with_value_at i w xs)

pub replaced_at : (i : ℕ) (a : Attribute) (w : AttributeValue) (xs : List Attribute) → i < length xs → a ≡ get_or xs i a → slice_set xs i (record { name = a.name; value = w }) ≡ with_value_at i w xs
replaced_at i a w [] h e = refl
replaced_at zero a w (x ∷ xs) h e = ap (λ b. revalued b w ∷ xs) e
replaced_at (suc i) a w (x ∷ xs) h e = ap (λ t. x ∷ t) (replaced_at i a w xs (omega arith) e)

none-with_value_at : (m i : ℕ) (w : AttributeValue) (xs : List Attribute) → get_named m xs ≡ None → get_named m (with_value_at i w xs) ≡ None
none-with_value_at m i w [] h = refl
none-with_value_at m zero w (a ∷ xs) h = go (is_named m a) h
  where
    go : (b : Bool) → (if b then Some a.value else get_named m xs) ≡ None → (if b then Some w else get_named m xs) ≡ None
    go true h = let clash : Some a.value ≡ None = h in absurd cc
    go false h = h
none-with_value_at m (suc i) w (a ∷ xs) h = go (is_named m a) (none-with_value_at m i w xs) h
  where
    go : (b : Bool) → (get_named m xs ≡ None → get_named m (with_value_at i w xs) ≡ None) → (if b then Some a.value else get_named m xs) ≡ None → (if b then Some a.value else get_named m (with_value_at i w xs)) ≡ None
    go true rest h = let clash : Some a.value ≡ None = h in absurd cc
    go false rest h = rest h

HaveDistinctNames-with_value_at : (i : ℕ) (w : AttributeValue) (xs : List Attribute) → HaveDistinctNames xs → HaveDistinctNames (with_value_at i w xs)
HaveDistinctNames-with_value_at i w [] h = tt
HaveDistinctNames-with_value_at zero w (a ∷ xs) h = h
HaveDistinctNames-with_value_at (suc i) w (a ∷ xs) h =
    (h.0, none-with_value_at _ i w xs h.1, HaveDistinctNames-with_value_at i w xs h.2)

pub named_replaced : (i : ℕ) (a : Attribute) (w : AttributeValue) (xs : List Attribute) → i < length xs → a ≡ get_or xs i a → HaveDistinctNames xs → HaveDistinctNames (slice_set xs i (record { name = a.name; value = w }))
named_replaced i a w xs within read h =
    subst HaveDistinctNames (sym (replaced_at i a w xs within read)) (HaveDistinctNames-with_value_at i w xs h)

-- the first attribute of a name
pub found_within : (n i : ℕ) (a : Attribute) (xs : List Attribute) → Some i ≡ position (is_named n) xs → i < length xs
found_within n i a xs e = (position-Some (is_named n) xs i a (sym e)).0

pub replaced_named : (n i : ℕ) (a : Attribute) (w : AttributeValue) (xs : List Attribute) → Some i ≡ position (is_named n) xs → a ≡ get_or xs i a → slice_set xs i (record { name = a.name; value = w }) ≡ set_named n w xs
replaced_named n i a w xs e read =
    let there : a.name.0 ≡ n = ap (λ x. x.name.0) read ∙ eqb-true _ n (position-Some (is_named n) xs i a (sym e)).1 in
    ap (λ m. slice_set xs i (named m w)) there ∙ set_named-found n i w xs e

-- the value that is read at a place
pub value_read : (i : ℕ) (a : Attribute) (xs : List Attribute) → i < length xs → a ≡ get_or xs i a → value_at xs i ≡ Some a.value
value_read i a xs within read = ap value_or_none (slice_get_read xs (length xs) i a refl within read)
