-- Lookups and changes by name.
use Rattle.std.proofs.Common.{◌≡◌, ◌≢◌, ◌∙◌, sym, ap, subst, ℕ, zero, suc, ◌+◌, ◌<◌, ◌≤◌, List, [], ◌∷◌, ◌++◌, Some, None, Bool, true, false, refl, arith, cond, length, Result, Ok, Err}
use Rattle.std.specs.Prelude.{◌==◌, not, if◌then◌else◌, slice_set, position, OnOk, OnErr}
use Rattle.std.proofs.Math.ListN.{get_or}
use Rattle.std.specs.List.{position_or_len}
use Rattle.std.proofs.lemmas.Bool.{eqb-true, eq-eqb, ne_eqb, false≢true}
use Rattle.std.proofs.lemmas.List.Quantifiers.{position-Some}
use Rattle.dw_base.specs.declared.constants.DwAt.{DwAt}
use Rattle.dw_entries.specs.declared.attribute.Attribute.{Attribute}
use Rattle.dw_entries.specs.declared.value.AttributeValue.{AttributeValue}
use Rattle.dw_entries.specs.Attributes.{is_named, named, get_named, set_named, without_name, HaveDistinctNames}

-- an attribute of one name doesn't have another
not_named : (n m : ℕ) (a : Attribute) → m ≢ n → is_named n a ≡ true → is_named m a ≡ false
not_named n m a ne h = ne_eqb _ m (λ e. ne (sym e ∙ eqb-true _ n h))

pub get_named-set_named : (n : ℕ) (v : AttributeValue) (xs : List Attribute) → get_named n (set_named n v xs) ≡ Some v
get_named-set_named n v [] = ap (λ b. if b then Some v else None) (eq-eqb n n refl)
get_named-set_named n v (a ∷ xs) = go (is_named n a) refl (get_named-set_named n v xs)
  where
    go : (b : Bool) → is_named n a ≡ b → get_named n (set_named n v xs) ≡ Some v → get_named n (if b then named n v ∷ xs else a ∷ set_named n v xs) ≡ Some v
    go true e r = ap (λ b. if b then Some v else get_named n xs) (eq-eqb n n refl)
    go false e r = ap (λ b. if b then Some a.value else get_named n (set_named n v xs)) e ∙ r

pub get_named-set_other : (n m : ℕ) (v : AttributeValue) (xs : List Attribute) → m ≢ n → get_named m (set_named n v xs) ≡ get_named m xs
get_named-set_other n m v [] ne = ap (λ b. if b then Some v else None) (ne_eqb n m (λ e. ne (sym e)))
get_named-set_other n m v (a ∷ xs) ne = go (is_named n a) refl (get_named-set_other n m v xs ne)
  where
    go : (b : Bool) → is_named n a ≡ b → get_named m (set_named n v xs) ≡ get_named m xs → get_named m (if b then named n v ∷ xs else a ∷ set_named n v xs) ≡ get_named m (a ∷ xs)
    go true e r =
        ap (λ b. if b then Some v else get_named m xs) (ne_eqb n m (λ e. ne (sym e))) ∙ ap (λ b. if b then Some a.value else get_named m xs) (sym (not_named n m a ne e))
    go false e r = ap (λ t. if is_named m a then Some a.value else t) r

pub get_named-without : (n : ℕ) (xs : List Attribute) → get_named n (without_name n xs) ≡ None
get_named-without n [] = refl
get_named-without n (a ∷ xs) = go (is_named n a) refl (get_named-without n xs)
  where
    go : (b : Bool) → is_named n a ≡ b → get_named n (without_name n xs) ≡ None → get_named n (if not b then a ∷ without_name n xs else without_name n xs) ≡ None
    go true e r = r
    go false e r = ap (λ b. if b then Some a.value else get_named n (without_name n xs)) e ∙ r

pub get_named-without_other : (n m : ℕ) (xs : List Attribute) → m ≢ n → get_named m (without_name n xs) ≡ get_named m xs
get_named-without_other n m [] ne = refl
get_named-without_other n m (a ∷ xs) ne = go (is_named n a) refl (get_named-without_other n m xs ne)
  where
    go : (b : Bool) → is_named n a ≡ b → get_named m (without_name n xs) ≡ get_named m xs → get_named m (if not b then a ∷ without_name n xs else without_name n xs) ≡ get_named m (a ∷ xs)
    go true e r =
        r ∙ ap (λ b. if b then Some a.value else get_named m xs) (sym (not_named n m a ne e))
    go false e r = ap (λ t. if is_named m a then Some a.value else t) r

-- what isn't there isn't there among fewer
get_named-fewer : (n m : ℕ) (xs : List Attribute) → get_named m xs ≡ None → get_named m (without_name n xs) ≡ None
get_named-fewer n m xs h = go (m == n) refl
  where
    go : (b : Bool) → (m == n) ≡ b → get_named m (without_name n xs) ≡ None
    go true e =
        let same : m ≡ n = eqb-true m n e in
        ap (λ k. get_named k (without_name n xs)) same ∙ get_named-without n xs
    go false e =
        get_named-without_other n m xs (λ same. false≢true (sym e ∙ eq-eqb m n same)) ∙ h

-- a value under a name that isn't there goes behind the others
pub set_named-absent : (n : ℕ) (v : AttributeValue) (xs : List Attribute) → get_named n xs ≡ None → set_named n v xs ≡ xs ++ named n v ∷ []
set_named-absent n v [] h = refl
set_named-absent n v (a ∷ xs) h = go (is_named n a) (set_named-absent n v xs) h
  where
    go : (b : Bool) → (get_named n xs ≡ None → set_named n v xs ≡ xs ++ named n v ∷ []) → (if b then Some a.value else get_named n xs) ≡ None → (if b then named n v ∷ xs else a ∷ set_named n v xs) ≡ a ∷ (xs ++ named n v ∷ [])
    go true rest k = let clash : Some a.value ≡ None = k in absurd cc
    go false rest k = ap (λ t. a ∷ t) (rest k)

pub HaveDistinctNames-set_named : (n : ℕ) (v : AttributeValue) (xs : List Attribute) → 1 < n → HaveDistinctNames xs → HaveDistinctNames (set_named n v xs)
HaveDistinctNames-set_named n v [] some h = (some, refl, tt)
HaveDistinctNames-set_named n v (a ∷ xs) some h = go (is_named n a) refl (HaveDistinctNames-set_named n v xs some h.2)
  where
    go : (b : Bool) → is_named n a ≡ b → HaveDistinctNames (set_named n v xs) → HaveDistinctNames (if b then named n v ∷ xs else a ∷ set_named n v xs)
    go true e r = (some, ap (λ k. get_named k xs) (sym (eqb-true _ n e)) ∙ h.1, h.2)
    go false e r =
        (h.0, get_named-set_other n _ v xs (λ same. false≢true (sym e ∙ eq-eqb _ n same)) ∙ h.1, r)

pub HaveDistinctNames-without : (n : ℕ) (xs : List Attribute) → HaveDistinctNames xs → HaveDistinctNames (without_name n xs)
HaveDistinctNames-without n [] h = tt
HaveDistinctNames-without n (a ∷ xs) h = go (is_named n a) (HaveDistinctNames-without n xs h.2)
  where
    go : (b : Bool) → HaveDistinctNames (without_name n xs) → HaveDistinctNames (if not b then a ∷ without_name n xs else without_name n xs)
    go true r = r
    go false r = (h.0, get_named-fewer n _ xs h.1, r)

-- what stands at the first place of a name
set_at : (n i : ℕ) (v : AttributeValue) (xs : List Attribute) (d : Attribute) → i < length xs → is_named n (get_or xs i d) ≡ true → ((k : ℕ) → k < i → is_named n (get_or xs k d) ≡ false) → slice_set xs i (named n v) ≡ set_named n v xs
set_at n i v [] d within here before = absurd (omega arith)
set_at n zero v (a ∷ xs) d within here before =
    ap (λ b. if b then named n v ∷ xs else a ∷ set_named n v xs) (sym here)
set_at n (suc i) v (a ∷ xs) d within here before =
    ap (λ t. a ∷ t) (set_at n i v xs d (omega arith) here (λ k h. before (suc k) (omega arith))) ∙ ap (λ b. if b then named n v ∷ xs else a ∷ set_named n v xs) (sym (before 0 (omega arith)))

get_at : (n i : ℕ) (xs : List Attribute) (d : Attribute) → i < length xs → is_named n (get_or xs i d) ≡ true → ((k : ℕ) → k < i → is_named n (get_or xs k d) ≡ false) → get_named n xs ≡ Some (get_or xs i d).value
get_at n i [] d within here before = absurd (omega arith)
get_at n zero (a ∷ xs) d within here before =
    ap (λ b. if b then Some a.value else get_named n xs) here
get_at n (suc i) (a ∷ xs) d within here before =
    ap (λ b. if b then Some a.value else get_named n xs) (before 0 (omega arith)) ∙ get_at n i xs d (omega arith) here (λ k h. before (suc k) (omega arith))

pub set_named-found : (n i : ℕ) (v : AttributeValue) (xs : List Attribute) → Some i ≡ position (is_named n) xs → slice_set xs i (named n v) ≡ set_named n v xs
set_named-found n i v xs e =
    let p = position-Some (is_named n) xs i (named n v) (sym e) in
    set_at n i v xs (named n v) p.0 p.1 p.2

pub get_named-found : (n i : ℕ) (a : Attribute) (xs : List Attribute) → Some i ≡ position (is_named n) xs → a ≡ get_or xs i a → Some a.value ≡ get_named n xs
get_named-found n i a xs e read =
    let p = position-Some (is_named n) xs i a (sym e) in
    ap (λ x. Some x.value) read ∙ sym (get_at n i xs a p.0 p.1 p.2)

-- no attribute has the name
past_all : (n : ℕ) (xs : List Attribute) → length xs ≤ position_or_len (is_named n) xs → get_named n xs ≡ None
past_all n [] h = refl
past_all n (a ∷ xs) h = go (is_named n a) refl (past_all n xs) h
  where
    go : (b : Bool) → is_named n a ≡ b → (length xs ≤ position_or_len (is_named n) xs → get_named n xs ≡ None) → suc (length xs) ≤ cond (not b) (1 + position_or_len (is_named n) xs) 0 → get_named n (a ∷ xs) ≡ None
    go true e rest k = absurd (omega arith)
    go false e rest k = ap (λ b. if b then Some a.value else get_named n xs) e ∙ rest (omega arith)

past_none : (n : ℕ) (xs : List Attribute) → None ≡ position (is_named n) xs → length xs ≤ position_or_len (is_named n) xs
past_none n xs e = grind arith

pub none_named : (n : ℕ) (xs : List Attribute) → None ≡ position (is_named n) xs → None ≡ get_named n xs
none_named n xs e = sym (past_all n xs (past_none n xs e))

-- then a value goes behind the others
push_named : (n : ℕ) (v : AttributeValue) (xs : List Attribute) → get_named n xs ≡ None → xs ++ named n v ∷ [] ≡ set_named n v xs
push_named n v [] h = refl
push_named n v (a ∷ xs) h = go (is_named n a) refl (push_named n v xs) h
  where
    go : (b : Bool) → is_named n a ≡ b → (get_named n xs ≡ None → xs ++ named n v ∷ [] ≡ set_named n v xs) → (if b then Some a.value else get_named n xs) ≡ None → a ∷ (xs ++ named n v ∷ []) ≡ (if is_named n a then named n v ∷ xs else a ∷ set_named n v xs)
    go true e rest k = let clash : Some a.value ≡ None = k in absurd cc
    go false e rest k =
        ap (λ t. a ∷ t) (rest k) ∙ ap (λ b. if b then named n v ∷ xs else a ∷ set_named n v xs) (sym e)

pub set_named-missing : (n : ℕ) (v : AttributeValue) (xs : List Attribute) → None ≡ position (is_named n) xs → xs ++ named n v ∷ [] ≡ set_named n v xs
set_named-missing n v xs e = push_named n v xs (past_all n xs (past_none n xs e))

-- in both cases of an answer
pub named_either : {E : Type 0} (r : Result (Unit {0}) E) (n : ℕ) (v : AttributeValue) (xs ys : List Attribute) → 1 < n → HaveDistinctNames xs → OnOk r (ys ≡ set_named n v xs) → OnErr r (ys ≡ xs) → HaveDistinctNames ys
named_either (Ok x) n v xs ys some h ok kept = subst HaveDistinctNames (sym ok) (HaveDistinctNames-set_named n v xs some h)
named_either (Err e) n v xs ys some h ok kept = subst HaveDistinctNames (sym kept) h

-- a name that is neither zero nor DW_AT_sibling
pub past_sibling : (name : DwAt) → name.0 ≢ 0 → name ≢ record { 0 = 1 } → 1 < name.0
past_sibling name some other =
    let at : ℕ → DwAt = λ n. record { 0 = n } in
    let not_one : name.0 ≢ 1 = λ e. other (ap at e) in
    omega arith
