-- Lists that grow beside the front of another list.
use Rattle.std.proofs.Common.{◌≡◌, ◌∙◌, sym, ap, subst, ℕ, zero, suc, ◌<◌, List, [], ◌∷◌, ◌++◌, length, take, drop, map, get_or, slice_get, Some, None, refl}
use Rattle.std.specs.List.{AllZip}
use Rattle.std.specs.Option.{option_map}
use Rattle.std.proofs.lemmas.Option.{slice_get-map, slice_get_read}

same_element : {A : Type 0} (x y : A) → Some x ≡ Some y → x ≡ y
same_element x y h = cc

-- one more pair
pub zip_more : {A B : Type 0} (R : A → B → Type 0) (xs : List A) (ys : List B) (i : ℕ) (x : A) (y : B) → slice_get xs i ≡ Some x → AllZip R (take i xs) ys → R x y → AllZip R (take (suc i) xs) (ys ++ y ∷ [])
zip_more R [] ys i x y e h r = absurd (let n : None ≡ Some x = e in cc)
zip_more {A} R (a ∷ xs) [] zero x y e h r = (subst (λ (z : A). R z y) (sym (same_element a x e)) r, tt)
zip_more R (a ∷ xs) (b ∷ ys) zero x y e h r = absurd h
zip_more R (a ∷ xs) [] (suc i) x y e h r = absurd h
zip_more R (a ∷ xs) (b ∷ ys) (suc i) x y e h r = (h.0, zip_more R xs ys i x y e h.1 r)

-- a list around one of its elements
pub around : {A : Type 0} (xs : List A) (i : ℕ) (x : A) → slice_get xs i ≡ Some x → xs ≡ take i xs ++ x ∷ drop (suc i) xs
around [] i x e = absurd (let n : None ≡ Some x = e in cc)
around {A} (a ∷ xs) zero x e = ap (λ (z : A). z ∷ xs) (same_element a x e)
around {A} (a ∷ xs) (suc i) x e = ap (λ (zs : List A). a ∷ zs) (around xs i x e)

-- an element of a mapped list
pub mapped_at : {A B : Type 0} (f : A → B) (xs : List A) (i : ℕ) (x : A) → i < length xs → x ≡ get_or xs i x → slice_get (map f xs) i ≡ Some (f x)
mapped_at f xs i x l h = slice_get-map f xs i ∙ ap (option_map f) (slice_get_read xs (length xs) i x refl l h)
