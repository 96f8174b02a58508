-- Entries that are read one after the other.
use Rattle.std.proofs.Common.{◌≡◌, ap, subst, ℕ, ◌-◌, List, [], ◌∷◌, ◌++◌, Option, Some, Result, Ok, Err, refl}
use Rattle.dw_read.specs.Reading.{Read}
use Rattle.dw_sources.specs.declared.convert_error.ConvertError.{ConvertError}
use Rattle.dw_convert_lines.specs.Results.{◌=>◌}
use Rattle.dw_convert_lines.specs.Walks.{images, First, Walked}

step : {S : Type 0} (r : Result S ConvertError) (f g : S → Result S ConvertError) (t u : S) → ((v : S) → f v ≡ Ok t → g v ≡ Ok u) → (r => f) ≡ Ok t → (r => g) ≡ Ok u
step (Ok v) f g t u k h = k v h
step (Err e) f g t u k h = absurd (cc)

pub images_more : {A S : Type 0} (image : A → S → Result S ConvertError) (xs : List A) (s : S) (x : A) (t u : S) → images image xs s ≡ Ok t → image x t ≡ Ok u → images image (xs ++ x ∷ []) s ≡ Ok u
images_more image [] s x t u h e =
    let same : t ≡ s = cc in
    let here : image x s ≡ Ok u = subst (λ (v : _). image x v ≡ Ok u) same e in
    ap (λ (r : Result _ ConvertError). r => λ v. Ok v) here
images_more image (y ∷ ys) s x t u h e = step (image y s) (λ v. images image ys v) (λ v. images image (ys ++ x ∷ []) v) t u (λ v k. images_more image ys v x t u k e) h

pub first_more : {A : Type 0} (reads : ℕ → Read (Option A)) (n : ℕ) (bytes : List ℕ) (xs : List A) (m : ℕ) (rest : List ℕ) (x : A) (next : List ℕ) → First reads n bytes xs m rest → reads m rest ≡ Ok (Some x, next) → First reads n bytes (xs ++ x ∷ []) (m - 1) next
first_more reads n bytes [] m rest x next h e =
    (next, subst (λ (k : ℕ). reads k bytes ≡ Ok (Some x, next)) h.0 (subst (λ (b : List ℕ). reads m b ≡ Ok (Some x, next)) h.1 e), (ap (λ (k : ℕ). k - 1) h.0, refl))
first_more reads n bytes (y ∷ ys) m rest x next h e = (h.0, h.1, first_more reads (n - 1) h.0 ys m rest x next h.2 e)

-- before the first entry
abbrev pub walked_none : {A S : Type 0} (reads : ℕ → Read (Option A)) (image : A → S → Result S ConvertError) (n : ℕ) (bytes : List ℕ) (s : S) → Walked reads image n bytes s n bytes s
walked_none reads image n bytes s = record { entries = []; read = (refl, refl); become = refl }

-- one more entry was read, and added to what was made
abbrev pub walked_more : {A S : Type 0} (reads : ℕ → Read (Option A)) (image : A → S → Result S ConvertError) (n : ℕ) (bytes : List ℕ) (s : S) (m : ℕ) (rest : List ℕ) (made : S) (x : A) (next : List ℕ) (new : S)
    → Walked reads image n bytes s m rest made → reads m rest ≡ Ok (Some x, next) → image x made ≡ Ok new → Walked reads image n bytes s (m - 1) next new
walked_more reads image n bytes s m rest made x next new w e i = record {
  entries = w.entries ++ x ∷ [];
  read = first_more reads n bytes w.entries m rest x next w.read e;
  become = images_more image w.entries s x made new w.become i;
}
