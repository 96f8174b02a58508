-- One step over the items of a list.
use Rattle.std.proofs.Common.{◌≡◌, ◌∙◌, sym, ap, subst, ℕ, List, [], ◌∷◌, ◌++◌, append_assoc, Option, Some, None}
use Rattle.std.proofs.lemmas.Option.{none-some}
use Rattle.dw_base.specs.Numbers.{Parser}
use Rattle.dw_read_back.specs.Walks.{AreItems}
use Rattle.dw_read_back.proofs.Walks.{some_same}

-- an item is no close
no_close : {A : Type 0} (x : A) (next behind : List ℕ) → ◌≡◌ {A = Option (Option A × List ℕ)} (Some (None, behind)) (Some (Some x, next)) → ⊥
no_close x next behind e = let k : (None, behind) ≡ (Some x, next) = cc in none-some x (ap (λ (z : Option _ × List ℕ). z.0) k)

module _ {A : Type 0} (p : Parser (Option A)) (bytes : List ℕ) where
  -- the first items of a list: items behind them make the list whole, and a whole list has items behind them
  pub record Begins (xs : List A) (rest : List ℕ) : Type 0 where
    pub whole : (ys : List A) (behind : List ℕ) → AreItems p rest ys behind → AreItems p bytes (xs ++ ys) behind
    pub more : (ys : List A) (behind : List ℕ) → AreItems p bytes ys behind → (zs : List A) × AreItems p rest zs behind

  pub begins : Begins [] bytes
  begins = record { whole = λ ys behind h. h; more = λ ys behind h. (ys, h) }

  behind_item : (rest next : List ℕ) (x : A) → p rest ≡ Some (Some x, next) → (zs : List A) (behind : List ℕ) → AreItems p rest zs behind → (ys : List A) × AreItems p next ys behind
  behind_item rest next x r [] behind h = absurd (no_close x next behind (sym h ∙ r))
  behind_item rest next x r (z ∷ zs) behind h =
      let k : h.0 ≡ next = ap (λ (y : Option A × List ℕ). y.1) (some_same (Some z, h.0) (Some x, next) (sym h.1 ∙ r)) in
      (zs, subst (λ bs. AreItems p bs zs behind) k h.2)

  pub one_more : (xs : List A) (rest next : List ℕ) (x : A) → Begins xs rest → p rest ≡ Some (Some x, next) → Begins (xs ++ x ∷ []) next
  one_more xs rest next x b r = record {
    whole = λ ys behind h. subst (λ zs. AreItems p bytes zs behind) (sym (append_assoc xs (x ∷ []) ys)) (b.whole (x ∷ ys) behind (next, r, h));
    more = λ ys behind h. let t = b.more ys behind h in behind_item rest next x r t.0 behind t.1;
  }

  -- where nothing is read behind the first items, there is no list
  no_items : (rest : List ℕ) → p rest ≡ None → (ys : List A) (behind : List ℕ) → AreItems p rest ys behind → ⊥
  no_items rest r [] behind h = none-some _ (sym r ∙ h)
  no_items rest r (y ∷ ys) behind h = none-some _ (sym r ∙ h.1)

  pub no_list : (xs : List A) (rest : List ℕ) → Begins xs rest → p rest ≡ None → (ys : List A) (behind : List ℕ) → AreItems p bytes ys behind → ⊥
  no_list xs rest b r ys behind h = let t = b.more ys behind h in no_items rest r t.0 behind t.1
