-- The last value of a name, one attribute after the other.
use Rattle.std.proofs.Common.{◌≡◌, ◌∙◌, sym, ap, ℕ, suc, ◌+◌, ◌<◌, ◌≤◌, List, ◌∷◌, length, map, drop, get_or, Option, add-one}
use Rattle.std.proofs.Math.Seq.{drop-cons}
use Rattle.std.proofs.Math.ListN.{drop_of_length-le}
use Rattle.std.proofs.lemmas.List.{get_or-map, length-map}
use Rattle.dw_read.specs.Values.{Value}
use Rattle.dw_read_units.specs.Roots.{later, last_after}

next : {A B : Type 0} (f : A → B) (xs : List A) (i : ℕ) (x : A) → i < length xs → x ≡ get_or xs i x → drop i (map f xs) ≡ f x ∷ drop (i + 1) (map f xs)
next f xs i x l is =
    let m : i < length (map f xs) = rw length-map l in
    drop-cons (map f xs) i (f x) m ∙ ap (λ y. y ∷ drop (suc i) (map f xs)) (get_or-map f xs i x (f x) l ∙ ap f (sym is)) ∙ ap (λ (k : ℕ). f x ∷ drop k (map f xs)) (sym (add-one i))

pub later_step : {A : Type 0} (name other : ℕ) (f : A → ℕ × Value) (xs : List A) (i : ℕ) (x : A) (found more whole : Option Value) → i < length xs → x ≡ get_or xs i x → more ≡ later name other found (f x) → last_after name other found (drop i (map f xs)) ≡ whole
    → last_after name other more (drop (i + 1) (map f xs)) ≡ whole
later_step name other f xs i x found more whole l is m h =
    ap (λ (o : Option Value). last_after name other o (drop (i + 1) (map f xs))) m ∙ sym (ap (last_after name other found) (next f xs i x l is)) ∙ h

pub later_end : {A : Type 0} (name other : ℕ) (f : A → ℕ × Value) (xs : List A) (i : ℕ) (found whole : Option Value) → length xs ≤ i → last_after name other found (drop i (map f xs)) ≡ whole → found ≡ whole
later_end name other f xs i found whole l h = sym (ap (last_after name other found) (drop_of_length-le (map f xs) {i = i} (rw length-map l))) ∙ h
