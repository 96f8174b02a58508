-- Entries filled up with blank ones.
use Rattle.std.proofs.Common.{◌≡◌, sym, ap, ℕ, zero, suc, ◌+◌, ◌≤◌, List, [], ◌∷◌, ◌++◌, Some, refl, arith, length, take, add-one}
use Rattle.std.specs.Prelude.{slice_get}
use Rattle.dw_entries.specs.Arena.{AreNumbered}
use Rattle.dw_entries.specs.Entries.{EntryValue, blank_entry, filled_from, filled_up, entry_at}

-- as many as were asked for
length-filled_from : (i n : ℕ) (es : List EntryValue) → length es ≤ n → length (filled_from i n es) ≡ n
length-filled_from i zero [] h = refl
length-filled_from i zero (e ∷ es) h = absurd (omega arith)
length-filled_from i (suc n) [] h = ap suc (length-filled_from (suc i) n [] (omega arith))
length-filled_from i (suc n) (e ∷ es) h = ap suc (length-filled_from (suc i) n es (omega arith))

pub length-filled_up : (n : ℕ) (es : List EntryValue) → length es ≤ n → length (filled_up n es) ≡ n
length-filled_up n es h = length-filled_from 0 n es h

-- up to their own count nothing is added
filled_from-same : (i n : ℕ) (es : List EntryValue) → n ≡ length es → filled_from i n es ≡ es
filled_from-same i zero es h = refl
filled_from-same i (suc n) [] h = absurd (omega arith)
filled_from-same i (suc n) (e ∷ es) h = ap (λ t. e ∷ t) (filled_from-same (suc i) n es (omega arith))

pub filled_up-same : (n : ℕ) (es : List EntryValue) → n ≡ length es → filled_up n es ≡ es
filled_up-same n es h = filled_from-same 0 n es h

-- one more
filled_from-suc : (i n k : ℕ) (es : List EntryValue) → length es ≤ n → k ≡ i + n → filled_from i n es ++ blank_entry k ∷ [] ≡ filled_from i (suc n) es
filled_from-suc i zero k [] h at = ap (λ j. blank_entry j ∷ []) (omega arith)
filled_from-suc i zero k (e ∷ es) h at = absurd (omega arith)
filled_from-suc i (suc n) k [] h at =
    ap (λ t. blank_entry i ∷ t) (filled_from-suc (suc i) n k [] (omega arith) (omega arith))
filled_from-suc i (suc n) k (e ∷ es) h at =
    ap (λ t. e ∷ t) (filled_from-suc (suc i) n k es (omega arith) (omega arith))

pub filled_up-push : (n : ℕ) (es : List EntryValue) → length es ≤ n → filled_up n es ++ blank_entry n ∷ [] ≡ filled_up (n + 1) es
filled_up-push n es h = rw add-one (filled_from-suc 0 n n es h (omega arith))

-- what stood before stands at the front
take-filled_from : (i n : ℕ) (es : List EntryValue) → length es ≤ n → take (length es) (filled_from i n es) ≡ es
take-filled_from i n [] h = refl
take-filled_from i zero (e ∷ es) h = absurd (omega arith)
take-filled_from i (suc n) (e ∷ es) h = ap (λ t. e ∷ t) (take-filled_from (suc i) n es (omega arith))

pub take-filled_up : (n : ℕ) (es : List EntryValue) → length es ≤ n → take (length es) (filled_up n es) ≡ es
take-filled_up n es h = take-filled_from 0 n es h

-- a blank entry is seen as none is
seen_filled_from : {X : Type 0} (see : EntryValue → X) → ((i : ℕ) → see (blank_entry 0) ≡ see (blank_entry i)) → (i n : ℕ) (es : List EntryValue) (k : ℕ) → see (entry_at (filled_from i n es) k) ≡ see (entry_at es k)
seen_filled_from see same i zero es k = refl
seen_filled_from see same i (suc n) [] zero = sym (same i)
seen_filled_from see same i (suc n) [] (suc k) = seen_filled_from see same (suc i) n [] k
seen_filled_from see same i (suc n) (e ∷ es) zero = refl
seen_filled_from see same i (suc n) (e ∷ es) (suc k) = seen_filled_from see same (suc i) n es k

pub seen_filled : {X : Type 0} (see : EntryValue → X) → ((i : ℕ) → see (blank_entry 0) ≡ see (blank_entry i)) → (n : ℕ) (es : List EntryValue) (k : ℕ) → see (entry_at (filled_up n es) k) ≡ see (entry_at es k)
seen_filled see same n es k = seen_filled_from see same 0 n es k

-- the ids are the indices from one on
abbrev AreNumberedFrom : ℕ → List EntryValue → Type 0
AreNumberedFrom i es = (k : ℕ) (e : EntryValue) → slice_get es k ≡ Some e → e.id ≡ i + k

-- a blank entry's id is its index
numbered_filled_from : (i n : ℕ) (es : List EntryValue) → AreNumberedFrom i es → AreNumberedFrom i (filled_from i n es)
numbered_filled_from i zero es numbers k e h = numbers k e h
numbered_filled_from i (suc n) [] numbers zero e h =
    let same : blank_entry i ≡ e = cc in omega (arith, ap (λ y. y.id) same)
numbered_filled_from i (suc n) [] numbers (suc k) e h =
    omega (arith, numbered_filled_from (suc i) n [] (λ j x t. absurd cc) k e h)
numbered_filled_from i (suc n) (x ∷ es) numbers zero e h = numbers zero e h
numbered_filled_from i (suc n) (x ∷ es) numbers (suc k) e h =
    omega (arith, numbered_filled_from (suc i) n es (λ j y t. omega (arith, numbers (suc j) y t)) k e h)

pub numbered_filled : (n : ℕ) (es : List EntryValue) → AreNumbered es → AreNumbered (filled_up n es)
numbered_filled n es numbers k e h =
    omega (arith, numbered_filled_from 0 n es (λ j x t. omega (arith, numbers j x t)) k e h)
