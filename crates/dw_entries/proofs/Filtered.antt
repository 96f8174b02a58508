-- Lists of children that are parts of another.
use Rattle.std.proofs.Common.{◌≡◌, ◌∙◌, sym, ap, ℕ, List, [], ◌∷◌, ◌++◌, Bool, true, false, refl}
use Rattle.std.specs.Prelude.{◌==◌, ◌||◌, if◌then◌else◌}
use Rattle.std.specs.List.{list_any, IsDistinct, AllByRecursion, filter}
use Rattle.std.proofs.lemmas.Bool.{eqb-true, eq-eqb, false≢true}
use Rattle.std.proofs.lemmas.List.Folds.{list_any-append}
use Rattle.dw_entries.specs.Arena.{HasChild}

pub absent : (x : ℕ) (cs : List ℕ) → (HasChild cs x → ⊥) → AllByRecursion (λ y. (x == y) ≡ false) cs
absent x [] h = tt
absent x (c ∷ cs) h = (here (x == c) refl, absent x cs (λ t. h (later (x == c) t)))
  where
    later : (b : Bool) → list_any (λ y. x == y) cs ≡ true → (b || list_any (λ y. x == y) cs) ≡ true
    later true t = refl
    later false t = t

    here : (b : Bool) → (x == c) ≡ b → (x == c) ≡ false
    here true e = absurd (h (ap (λ t. t || list_any (λ y. x == y) cs) e))
    here false e = e

pub not_in : (x : ℕ) (cs : List ℕ) → AllByRecursion (λ y. (x == y) ≡ false) cs → HasChild cs x → ⊥
not_in x [] a h = false≢true h
not_in x (c ∷ cs) a h = not_in x cs a.1 (sym (ap (λ t. t || list_any (λ y. x == y) cs) a.0) ∙ h)

-- what a filter keeps was there, and passes
pub kept : (p : ℕ → Bool) (x : ℕ) (cs : List ℕ) → HasChild (filter p cs) x → HasChild cs x × (p x ≡ true)
kept p x [] h = absurd (false≢true h)
kept p x (c ∷ cs) h = go (p c) refl (kept p x cs) h
  where
    later : (b : Bool) → list_any (λ y. x == y) cs ≡ true → (b || list_any (λ y. x == y) cs) ≡ true
    later true t = refl
    later false t = t

    first : (b : Bool) → (x == c) ≡ b → p c ≡ true → (HasChild (filter p cs) x → HasChild cs x × (p x ≡ true)) → (b || list_any (λ y. x == y) (filter p cs)) ≡ true → HasChild (c ∷ cs) x × (p x ≡ true)
    first true e q rec h = (ap (λ t. t || list_any (λ y. x == y) cs) e, ap p (eqb-true x c e) ∙ q)
    first false e q rec h = let r = rec h in (later (x == c) r.0, r.1)

    go : (b : Bool) → p c ≡ b → (HasChild (filter p cs) x → HasChild cs x × (p x ≡ true)) → HasChild (if b then c ∷ filter p cs else filter p cs) x → HasChild (c ∷ cs) x × (p x ≡ true)
    go true q rec h = first (x == c) refl q rec h
    go false q rec h = let r = rec h in (later (x == c) r.0, r.1)

pub distinct_filter : (p : ℕ → Bool) (cs : List ℕ) → IsDistinct ◌==◌ cs → IsDistinct ◌==◌ (filter p cs)
unfolding IsDistinct
distinct_filter p [] h = tt
distinct_filter p (c ∷ cs) h = go (p c) (distinct_filter p cs h.1)
  where
    go : (b : Bool) → IsDistinct ◌==◌ (filter p cs) → IsDistinct ◌==◌ (if b then c ∷ filter p cs else filter p cs)
    go true d = (absent c (filter p cs) (λ t. not_in c cs h.0 (kept p c cs t).0), d)
    go false d = d

pub distinct_append : (xs ys : List ℕ) → IsDistinct ◌==◌ xs → IsDistinct ◌==◌ ys → ((x : ℕ) → HasChild xs x → HasChild ys x → ⊥) → IsDistinct ◌==◌ (xs ++ ys)
unfolding IsDistinct
distinct_append [] ys d e apart = e
distinct_append (x ∷ xs) ys d e apart =
    (absent x (xs ++ ys) (λ t. split _ _ refl refl (sym (list_any-append (λ y. x == y) xs ys) ∙ t)), distinct_append xs ys d.1 e (λ y h k. apart y (later y h) k))
  where
    either : (b : Bool) (t : Bool) → t ≡ true → (b || t) ≡ true
    either true t h = refl
    either false t h = h

    later : (y : ℕ) → HasChild xs y → HasChild (x ∷ xs) y
    later y h = either (y == x) _ h

    split : (a b : Bool) → list_any (λ y. x == y) xs ≡ a → list_any (λ y. x == y) ys ≡ b → (a || b) ≡ true → ⊥
    split true b p q h = not_in x xs d.0 p
    split false true p q h = apart x (ap (λ t. t || list_any (λ y. x == y) xs) (eq-eqb x x refl)) q
    split false false p q h = false≢true h
