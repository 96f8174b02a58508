-- A list with one element more, which is changed afterwards.
use Rattle.std.proofs.Common.{◌≡◌, ◌∙◌, sym, ap, refl, ℕ, List, [], ◌∷◌, ◌++◌, Some, length}
use Rattle.std.specs.Prelude.{slice_get, slice_set}

module _ {A : Type 0} where
  last_set : (xs : List A) (x y : A) → slice_set (xs ++ x ∷ []) (length xs) y ≡ xs ++ y ∷ []
  last_set [] x y = refl
  last_set (z ∷ xs) x y = ap (λ t. z ∷ t) (last_set xs x y)

  last_got : (xs : List A) (x : A) → slice_get (xs ++ x ∷ []) (length xs) ≡ Some x
  last_got [] x = refl
  last_got (z ∷ xs) x = last_got xs x

  pub set_last : (xs ys : List A) (x y : A) (i : ℕ) → ys ≡ xs ++ x ∷ [] → i ≡ length xs → slice_set ys i y ≡ xs ++ y ∷ []
  set_last xs ys x y i more last = ap (λ t. slice_set t i y) more ∙ ap (λ k. slice_set (xs ++ x ∷ []) k y) last ∙ last_set xs x y

  pub got_last : (xs ys : List A) (x y : A) (i : ℕ) → ys ≡ xs ++ x ∷ [] → i ≡ length xs → slice_get ys i ≡ Some y → y ≡ x
  got_last xs ys x y i more last got =
      let same : Some y ≡ Some x = sym got ∙ ap (λ t. slice_get t i) more ∙ ap (λ k. slice_get (xs ++ x ∷ []) k) last ∙ last_got xs x in
      cc
