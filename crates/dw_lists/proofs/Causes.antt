-- Causes of several parts, and of elements one after another.
use Rattle.std.specs.Prelude.{◌≡◌, ℕ, suc, zero, ◌+◌, ◌<◌, ◌≤◌, Bool, true, false, ◌||◌, List, [], ◌∷◌, ◌++◌, length, take, drop, get_or, map, Result, Ok, Err, OnOk, IfOk, IfErr, Option, Some, None, refl, All, IsTrue, IsFalse}
use Rattle.std.proofs.Common.{sym, ◌∙◌, ap, subst, arith}
use Rattle.std.specs.List.{list_any}
use Rattle.std.proofs.lemmas.List.{at_drop_more, at_drop_all, take_more}
use Rattle.std.proofs.lemmas.List.Elements.{All-nil, All-cons, All-append}
use Rattle.std.proofs.lemmas.Bool.{or_left}
use Rattle.dw_base.specs.declared.common.Encoding.{Encoding}
use Rattle.dw_base.specs.declared.error.Error.{Error}
use Rattle.dw_lists.specs.Parts.{Part}
use Rattle.dw_lists.specs.Causes.{IsNone, width_fails, old_fails, old_list_fails, is_base}

first_false : (a b : Bool) → IsFalse (a || b) → IsFalse a
first_false false b h = refl
first_false true b h = h

second_false : (a b : Bool) → IsFalse (a || b) → IsFalse b
second_false false b h = h
second_false true b h = absurd (let k : true ≡ false = h in cc)

-- what holds of the error that a call answers
pub refused_at : {T : Type 0} (r : Result T Error) (p : Error → Type 0) (e : Error) → r ≡ Err e → p e → IfErr r p
refused_at r p e is h = subst (λ q. IfErr q p) (sym is) h

-- neither of two causes
pub neither_cause : (f g : Error → Bool) → IsNone f → IsNone g → IsNone (λ e. f e || g e)
neither_cause f g h k e = ap (λ b. b || g e) (h e) ∙ k e

pub first_none : (f g : Error → Bool) → IsNone (λ e. f e || g e) → IsNone f
first_none f g h e = first_false (f e) (g e) (h e)

pub second_none : (f g : Error → Bool) → IsNone (λ e. f e || g e) → IsNone g
second_none f g h e = second_false (f e) (g e) (h e)

-- none of the elements has a cause
module _ {A : Type 0} (f : A → Error → Bool) (xs : List A) (i : ℕ) (x : A) (below : i < length xs) (is : x ≡ get_or xs i x) where
  pub any_more : IsNone (f x) → (e : Error) → list_any (λ y. f y e) (drop i xs) ≡ list_any (λ y. f y e) (drop (i + 1) xs)
  any_more h e =
      at_drop_more (λ ys. list_any (λ y. f y e) ys) xs i x below
      ∙ ap (λ b. b || list_any (λ y. f y e) (drop (i + 1) xs)) (ap (λ y. f y e) (sym is) ∙ h e)

pub any_ended : {A : Type 0} (f : A → Error → Bool) (xs : List A) (i : ℕ) → length xs ≤ i → (e : Error) → list_any (λ y. f y e) (drop i xs) ≡ false
any_ended f xs i h e = at_drop_all (λ ys. list_any (λ y. f y e) ys) xs i h

-- Items up to version 4

module _ (v : Encoding) (known : Option (ℕ → Option ℕ)) (base plain : Bool) (xs : List Part) (i : ℕ) where
  module _ (d : Part) (below : i < length xs) where
    -- past an item without a fault
    pub old_more : IsNone (old_fails v known plain base (get_or xs i d)) → (e : Error) →
        old_list_fails v known plain base (drop i xs) e ≡ old_list_fails v known plain (base || is_base (get_or xs i d).range) (drop (i + 1) xs) e
    old_more h e =
        at_drop_more (λ ys. old_list_fails v known plain base ys e) xs i d below
        ∙ ap (λ b. b || old_list_fails v known plain (base || is_base (get_or xs i d).range) (drop (i + 1) xs) e) (h e)

    -- an item with a fault
    pub old_here : (e : Error) → IsTrue (old_fails v known plain base (get_or xs i d) e) → IsTrue (old_list_fails v known plain base (drop i xs) e)
    old_here e h =
        at_drop_more (λ ys. old_list_fails v known plain base ys e) xs i d below
        ∙ or_left (old_fails v known plain base (get_or xs i d) e) (old_list_fails v known plain (base || is_base (get_or xs i d).range) (drop (i + 1) xs) e) h

  -- behind the last item stands the close
  pub old_closed : length xs ≤ i → (e : Error) → old_list_fails v known plain base (drop i xs) e ≡ width_fails v.address_size e
  old_closed h e = at_drop_all (λ ys. old_list_fails v known plain base ys e) xs i h

-- Elements

-- an element that is there is read with any other in its place
pub read_there : {A : Type 0} (xs : List A) (i : ℕ) (d : A) → i < length xs → get_or xs i d ≡ get_or xs i (get_or xs i d)
read_there [] i d h = absurd (omega arith)
read_there (x ∷ xs) zero d h = refl
read_there (x ∷ xs) (suc i) d h = read_there xs i d (omega arith)

-- what is made of an element that is there
pub map_there : {A B : Type 0} (f : A → B) (xs : List A) (i : ℕ) (x : A) → i < length xs → x ≡ get_or xs i x → f x ≡ get_or (map f xs) i (f x)
map_there f [] i x h is = absurd (omega arith)
map_there f (y ∷ xs) zero x h is = ap f is
map_there f (y ∷ xs) (suc i) x h is = map_there f xs i x (omega arith) is

pub OnOk-both : {T E P Q R : Type 0} (r : Result T E) → OnOk r P → OnOk r Q → (P → Q → R) → OnOk r R
OnOk-both (Ok x) p q f = f p q
OnOk-both (Err e) p q f = tt

-- an element that has a property after others that have it
pub All-more : {X : Type 0} (P : X → Type 0) (xs : List X) (i : ℕ) (x : X) → i < length xs → x ≡ get_or xs i x → All P (take i xs) → P x → All P (take (i + 1) xs)
All-more P xs i x below is h here =
    subst (All P) (sym (take_more xs i x below ∙ ap (λ y. take i xs ++ y ∷ []) (sym is))) (All-append P (take i xs) (x ∷ []) h (All-cons P x [] here (All-nil P)))

pub IfOk-map : {T E : Type 0} {P Q : T → Type 0} (r : Result T E) → IfOk r P → ((x : T) → P x → Q x) → IfOk r Q
IfOk-map (Ok x) p f = f x p
IfOk-map (Err e) p f = tt

-- what isn't there
pub nothing_there : {T : Type 0} (o : Option T) → ((x : T) → o ≡ Some x → ⊥) → o ≡ None
nothing_there None h = refl
nothing_there (Some x) h = absurd (h x refl)
