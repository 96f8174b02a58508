-- Items up to the close, by fuel and one behind another.
use Rattle.std.proofs.Common.{◌≡◌, ◌∙◌, sym, ap, subst, ℕ, zero, suc, ◌<◌, ◌≤◌, List, [], ◌∷◌, map, length, Option, Some, None, refl, arith}
use Rattle.std.proofs.lemmas.Option.{none-some}
use Rattle.dw_base.specs.Numbers.{Parser}
use Rattle.dw_base.proofs.NumberLaws.{bind_is, bind_parts}
use Rattle.dw_read.specs.Took.{option_of}
use Rattle.dw_lists.specs.Items.{more_at, items_up_to}
use Rattle.dw_read_back.specs.Walks.{AreItems}
use Rattle.dw_read_back.specs.Laws.{in_words}

pub some_same : {A : Type 0} (x y : A) → ◌≡◌ {A = Option A} (Some x) (Some y) → x ≡ y
some_same x y e = cc

module _ {A : Type 0} (p : Parser (Option A)) where
  -- an item, and those behind it
  step : (more : Parser (List A)) (walk : (bs : List ℕ) (ys : List A) (end : List ℕ) → more bs ≡ Some (ys, end) → AreItems p bs ys end)
      (bytes : List ℕ) (xs : List A) (behind : List ℕ) (o : Option A) (next : List ℕ) → p bytes ≡ Some (o, next) → more_at more o next ≡ Some (xs, behind) → AreItems p bytes xs behind
  step more walk bytes xs behind None next h k = subst (λ (z : List A × List ℕ). AreItems p bytes z.0 z.1) (some_same ([], next) (xs, behind) k) h
  step more walk bytes xs behind (Some x) next h k =
      let t = bind_parts (more next) (λ m. Some (x ∷ m.0, m.1)) (xs, behind) k in
      subst (λ (z : List A × List ℕ). AreItems p bytes z.0 z.1) (some_same (x ∷ t.0.0, t.0.1) (xs, behind) t.2) (next, h, walk next t.0.0 t.0.1 t.1)

  -- items that are read with any fuel stand one behind another
  pub walked : (fuel : ℕ) (bytes : List ℕ) (xs : List A) (behind : List ℕ) → items_up_to p fuel bytes ≡ Some (xs, behind) → AreItems p bytes xs behind
  unfolding items_up_to
  walked zero bytes xs behind e = absurd (none-some _ e)
  walked (suc fuel) bytes xs behind e =
      let t = bind_parts (p bytes) (λ x. more_at (items_up_to p fuel) x.0 x.1) (xs, behind) e in
      step (items_up_to p fuel) (λ bs ys end. walked fuel bs ys end) bytes xs behind t.0.0 t.0.1 t.1 t.2

  -- where each takes a byte at least, they are read with fuel for each byte
  pub fuelled : ((bytes : List ℕ) (x : Option A × List ℕ) → p bytes ≡ Some x → length x.1 < length bytes) →
      (xs : List A) (fuel : ℕ) (bytes behind : List ℕ) → length bytes ≤ fuel → AreItems p bytes xs behind → items_up_to p fuel bytes ≡ Some (xs, behind)
  unfolding items_up_to
  fuelled takes [] zero bytes behind le h = let l = takes bytes (None, behind) h in absurd (omega arith)
  fuelled takes [] (suc fuel) bytes behind le h = bind_is _ (None, behind) (λ x. more_at (items_up_to p fuel) x.0 x.1) h
  fuelled takes (x ∷ xs) zero bytes behind le h = let l = takes bytes (Some x, h.0) h.1 in absurd (omega arith)
  fuelled takes (x ∷ xs) (suc fuel) bytes behind le h =
      let l : length h.0 < length bytes = takes bytes (Some x, h.0) h.1 in
      bind_is _ (Some x, h.0) (λ y. more_at (items_up_to p fuel) y.0 y.1) h.1
      ∙ bind_is _ (xs, behind) (λ more. Some (x ∷ more.0, more.1)) (fuelled takes xs fuel h.0 behind (omega arith) h.2)

-- what is read in words
words_some : {A B : Type 0} (f : A → B) (o : Option (Option A × List ℕ)) (y : Option B) (next : List ℕ) → in_words f o ≡ Some (y, next) → (x : Option A) × (o ≡ Some (x, next)) × (option_of f x ≡ y)
words_some f None y next e = absurd (none-some _ e)
words_some f (Some x) y next e =
    let k = some_same (option_of f x.0, x.1) (y, next) e in
    (x.0, ap (λ r. Some (x.0, r)) (ap (λ (z : Option _ × List ℕ). z.1) k), ap (λ (z : Option _ × List ℕ). z.0) k)

words_none : {A B : Type 0} (f : A → B) (x : Option A) → option_of f x ≡ None → x ≡ None
words_none f None e = refl
words_none f (Some x) e = absurd (none-some _ (sym e))

words_item : {A B : Type 0} (f : A → B) (x : Option A) (y : B) → option_of f x ≡ Some y → (a : A) × (x ≡ Some a) × (f a ≡ y)
words_item f None y e = absurd (none-some _ e)
words_item f (Some a) y e = (a, refl, some_same (f a) y e)

module _ {A B : Type 0} (p : Parser (Option A)) (q : Parser (Option B)) (f : A → B) (one : (bytes : List ℕ) → q bytes ≡ in_words f (p bytes)) where
  -- the same items in words
  pub worded : (xs : List A) (bytes behind : List ℕ) → AreItems p bytes xs behind → AreItems q bytes (map f xs) behind
  worded [] bytes behind h = one bytes ∙ ap (in_words f) h
  worded (x ∷ xs) bytes behind h = (h.0, one bytes ∙ ap (in_words f) h.1, worded xs h.0 behind h.2)

  -- and what they are in words of
  pub unworded : (ys : List B) (bytes behind : List ℕ) → AreItems q bytes ys behind → (xs : List A) × AreItems p bytes xs behind × (map f xs ≡ ys)
  unworded [] bytes behind h =
      let t = words_some f (p bytes) None behind (sym (one bytes) ∙ h) in
      ([], subst (λ o. p bytes ≡ Some (o, behind)) (words_none f t.0 t.2) t.1, refl)
  unworded (y ∷ ys) bytes behind h =
      let t = words_some f (p bytes) (Some y) h.0 (sym (one bytes) ∙ h.1) in
      let a = words_item f t.0 y t.2 in
      let more = unworded ys h.0 behind h.2 in
      (a.0 ∷ more.0, (h.0, subst (λ o. p bytes ≡ Some (o, h.0)) a.1 t.1, more.1), ap (λ z. z ∷ map f more.0) a.2 ∙ ap (λ zs. y ∷ zs) more.2)
