-- Lists that are read and converted, one item after the other.
use Rattle.std.proofs.Common.{◌≡◌, sym, ap, subst, ℕ, Bool, ◌||◌, List, [], ◌∷◌, ◌++◌, Option, Some, Result, Ok, refl}
use Rattle.dw_base.specs.Numbers.{Parser}
use Rattle.dw_sources.specs.declared.convert_error.ConvertError.{ConvertError}
use Rattle.dw_convert.specs.Lists.{First, items_of, based, AreImages, Begun}

pub first_more : {A : Type 0} (grammar : Parser A) (bytes : List ℕ) (xs : List A) (rest : List ℕ) (x : A) (next : List ℕ) → First grammar bytes xs rest → grammar rest ≡ Some (x, next) → First grammar bytes (xs ++ x ∷ []) next
first_more grammar bytes [] rest x next h e = (next, subst (λ (b : List ℕ). grammar b ≡ Some (x, next)) h e, refl)
first_more grammar bytes (y ∷ ys) rest x next h e = (h.0, h.1, first_more grammar h.0 ys rest x next h.2 e)

pub items_more : {A : Type 0} (xs : List A) (x : A) → items_of (xs ++ x ∷ []) ≡ items_of xs ++ Some x ∷ []
items_more [] x = refl
items_more (y ∷ ys) x = ap (λ zs. Some y ∷ zs) (items_more ys x)

pub based_more : {A : Type 0} (is_base : A → Bool) (base : Bool) (xs : List A) (x : A) → based is_base base (xs ++ x ∷ []) ≡ (based is_base base xs || is_base x)
based_more is_base base [] x = refl
based_more is_base base (y ∷ ys) x = based_more is_base (base || is_base y) ys x

pub images_more : {A B : Type 0} (Outcome : Bool → A → Result B ConvertError → Type 0) (is_base : A → Bool) (base : Bool) (xs : List A) (ys : List B) (x : A) (y : B)
    → AreImages Outcome is_base base xs ys → Outcome (based is_base base xs) x (Ok y) → AreImages Outcome is_base base (xs ++ x ∷ []) (ys ++ y ∷ [])
images_more Outcome is_base base [] [] x y h o = (o, tt)
images_more Outcome is_base base [] (w ∷ ws) x y h o = absurd h
images_more Outcome is_base base (z ∷ zs) [] x y h o = absurd h
images_more Outcome is_base base (z ∷ zs) (w ∷ ws) x y h o = (h.0, images_more Outcome is_base (base || is_base z) zs ws x y h.1 o)

-- one more item was read, and converted
abbrev pub begun_more : {A B : Type 0} (Outcome : Bool → A → Result B ConvertError → Type 0) (is_base : A → Bool) (grammar : Parser (Option A)) (base : Bool) (bytes rest next : List ℕ) (images : List B) (x : A) (y : B)
    → (b : Begun Outcome is_base grammar base bytes rest images) → grammar rest ≡ Some (Some x, next) → Outcome (based is_base base b.items) x (Ok y)
    → Begun Outcome is_base grammar base bytes next (images ++ y ∷ [])
begun_more Outcome is_base grammar base bytes rest next images x y b e o = record {
  items = b.items ++ x ∷ [];
  read = subst (λ xs. First grammar bytes xs next) (sym (items_more b.items x)) (first_more grammar bytes (items_of b.items) rest (Some x) next b.read e);
  are = images_more Outcome is_base base b.items images x y b.are o;
}
