-- The units of a table, written one after another.
use Rattle.std.specs.Prelude.{◌≡◌, ◌⊎◌, ℕ, suc, zero, ◌+◌, ◌≤◌, ◌<◌, Bool, true, false, List, [], ◌∷◌, ◌++◌, length, Option, Some, None, refl, slice_get, slice_set, slice_index_or, All, if◌then◌else◌}
use Rattle.std.proofs.Common.{sym, ◌∙◌, ap, subst, arith, append-nil, append_assoc, length-append, inl, inr}
use Rattle.std.proofs.lemmas.Bool.{cases_eq, eq-eqb, ne_eqb}
use Rattle.std.proofs.lemmas.List.Elements.{All-head, All-tail}
use Rattle.dw_base.specs.Numbers.{◌>>=◌}
use Rattle.dw_base.specs.declared.error.Error.{Error}
use Rattle.dw_entries.specs.Targets.{Tables}
use Rattle.dw_tree.specs.Elsewhere.{Elsewhere, past_parts, past_elsewhere}
use Rattle.dw_tree.specs.Built.{Numbered, Starts, table_size, settled_at}
use Rattle.dw_tree.specs.Causes.{UnitFails, UnitsFail}
use Rattle.dw_tree.specs.Pending.{Kept, kept_offsets, kept_at, offsets_at, KeepPlaces}
use Rattle.std.specs.Option.{option_map}
use Rattle.dw_tree.specs.Places.{Offsets, offsets_in}
use Rattle.dw_tree.specs.UnitValue.{UnitValue, offsets_of}
use Rattle.dw_tree.specs.Valid.{IsWritableAt, AreWritable}
use Rattle.dw_tree.specs.Whole.{settled, marked_written, IsRefused}
use Rattle.dw_tree.specs.Written.{to_write_from, past_table, IsPassedOver, IsWrittenAt, past_written, AreWritten, AreStopped}
use Rattle.dw_unit.proofs.UnitTexts.{past_all, past-old, past-new}
use Rattle.dw_unit.proofs.PendingSteps.{kept_other, kept_last}

-- A table of which some units were gone through: what they were, what they are, and the others.
pub record IsAt (us vs : List UnitValue) (i : ℕ) (before after rest : List UnitValue) : Type 0 where
  pub old_is : us ≡ before ++ rest
  pub new_is : vs ≡ after ++ rest
  pub count_before : length before ≡ i
  pub count_after : length after ≡ i

-- the unit that is next
pub next_is : (xs : List UnitValue) (rest : List UnitValue) (i : ℕ) (d : UnitValue) → length xs ≡ i → i < length (xs ++ rest) → (more : List UnitValue) × (rest ≡ slice_index_or (xs ++ rest) i d ∷ more)
next_is [] [] i d e h = absurd (omega (arith, e, h))
next_is [] (u ∷ rest) zero d e h = (rest, refl)
next_is [] (u ∷ rest) (suc i) d e h = absurd (omega (arith, e))
next_is (x ∷ xs) rest zero d e h = absurd (omega (arith, e))
next_is (x ∷ xs) rest (suc i) d e h = next_is xs rest i d (omega (arith, e)) (omega (arith, h))

pub set_next : (xs : List UnitValue) (u v : UnitValue) (rest : List UnitValue) (i : ℕ) → length xs ≡ i → slice_set (xs ++ u ∷ rest) i v ≡ xs ++ v ∷ rest
set_next [] u v rest zero e = refl
set_next [] u v rest (suc i) e = absurd (omega (arith, e))
set_next (x ∷ xs) u v rest zero e = absurd (omega (arith, e))
set_next (x ∷ xs) u v rest (suc i) e = ap (λ ys. x ∷ ys) (set_next xs u v rest i (omega (arith, e)))

one_more : (xs : List UnitValue) (u : UnitValue) (rest : List UnitValue) → xs ++ u ∷ rest ≡ (xs ++ u ∷ []) ++ rest
one_more xs u rest = sym (append_assoc xs (u ∷ []) rest)

length_more : (xs : List UnitValue) (u : UnitValue) (i : ℕ) → length xs ≡ i → length (xs ++ u ∷ []) ≡ i + 1
length_more xs u i e = omega (arith, length-append xs (u ∷ []), e)

pub none_gone : (us : List UnitValue) → IsAt us us 0 [] [] us
none_gone us = record { old_is = refl; new_is = refl; count_before = refl; count_after = refl }

pub one_gone : (us vs : List UnitValue) (i : ℕ) (before after : List UnitValue) (u v : UnitValue) (rest : List UnitValue) → IsAt us vs i before after (u ∷ rest) →
    IsAt us (slice_set vs i v) (i + 1) (before ++ u ∷ []) (after ++ v ∷ []) rest
one_gone us vs i before after u v rest h = record {
  old_is = h.old_is ∙ one_more before u rest;
  new_is = ap (λ ys. slice_set ys i v) h.new_is ∙ set_next after u v rest i h.count_after ∙ one_more after v rest;
  count_before = length_more before u i h.count_before;
  count_after = length_more after v i h.count_after;
}

no_rest : (xs rest : List UnitValue) → length (xs ++ rest) ≤ length xs → rest ≡ []
no_rest [] [] h = refl
no_rest [] (u ∷ rest) h = absurd (omega (arith, h))
no_rest (x ∷ xs) rest h = no_rest xs rest (omega (arith, h))

-- where all are gone through
pub all_gone : (us vs : List UnitValue) (i : ℕ) (before after rest : List UnitValue) → IsAt us vs i before after rest → length vs ≤ i → (before ≡ us) × (after ≡ vs)
all_gone us vs i before after rest h le =
    let none : rest ≡ [] = no_rest after rest (omega (arith, le, h.count_after, ap length h.new_is)) in
    (sym (h.old_is ∙ ap (λ r. before ++ r) none ∙ append-nil before), sym (h.new_is ∙ ap (λ r. after ++ r) none ∙ append-nil after))

-- What they are

pub passed_more : (at end : Starts) (t : Elsewhere) (xs ys : List UnitValue) (u v : UnitValue) → AreWritten at end t xs ys → IsPassedOver u v → AreWritten at end t (xs ++ u ∷ []) (ys ++ v ∷ [])
passed_more at end t [] [] u v h k = inl (k, h)
passed_more at end t [] (y ∷ ys) u v h k = absurd h
passed_more at end t (x ∷ xs) [] u v h k = absurd h
passed_more at end t (x ∷ xs) (y ∷ ys) u v (inl h) k = inl (h.0, passed_more at end t xs ys u v h.1 k)
passed_more at end t (x ∷ xs) (y ∷ ys) u v (inr h) k = inr (h.0, passed_more (past_written at t x y h.0) end (past_parts t x) xs ys u v h.1 k)

pub written_more : (at end : Starts) (t : Elsewhere) (xs ys : List UnitValue) (u v : UnitValue) → AreWritten at end t xs ys → (w : IsWrittenAt end (past_all t xs) u v) →
    AreWritten at (past_written end (past_all t xs) u v w) t (xs ++ u ∷ []) (ys ++ v ∷ [])
written_more at end t [] [] u v h w = subst (λ s. (w : IsWrittenAt s t u v) → AreWritten at (past_written s t u v w) t (u ∷ []) (v ∷ [])) h (λ w. inr (w, refl)) w
written_more at end t [] (y ∷ ys) u v h w = absurd h
written_more at end t (x ∷ xs) [] u v h w = absurd h
written_more at end t (x ∷ xs) (y ∷ ys) u v (inl h) w =
    let more = subst (λ s. (w : IsWrittenAt end (past_all s xs) u v) → AreWritten at (past_written end (past_all s xs) u v w) t (xs ++ u ∷ []) (ys ++ v ∷ []))
    (sym (past-old t x h.0.0)) (written_more at end t xs ys u v h.1) in
    inl (h.0, more w)
written_more at end t (x ∷ xs) (y ∷ ys) u v (inr h) w =
    let from = past_written at t x y h.0 in
    let more = subst (λ s. (w : IsWrittenAt end (past_all s xs) u v) → AreWritten from (past_written end (past_all s xs) u v w) (past_parts t x) (xs ++ u ∷ []) (ys ++ v ∷ []))
    (sym (past-new t x h.0.unwritten)) (written_more from end (past_parts t x) xs ys u v h.1) in
    inr (h.0, more w)

pub stopped_at : (at end : Starts) (t : Elsewhere) (xs ys : List UnitValue) (u v : UnitValue) (rest : List UnitValue) → AreWritten at end t xs ys → IsRefused u v → AreStopped at t (xs ++ u ∷ rest) (ys ++ v ∷ rest)
stopped_at at end t [] [] u v rest h k = inr (inr (k, refl))
stopped_at at end t [] (y ∷ ys) u v rest h k = absurd h
stopped_at at end t (x ∷ xs) [] u v rest h k = absurd h
stopped_at at end t (x ∷ xs) (y ∷ ys) u v rest (inl h) k = inl (h.0, stopped_at at end t xs ys u v rest h.1 k)
stopped_at at end t (x ∷ xs) (y ∷ ys) u v rest (inr h) k = inr (inl (h.0, stopped_at (past_written at t x y h.0) end (past_parts t x) xs ys u v rest h.1 k))

-- where none was refused
pub stopped_after : (at end : Starts) (t : Elsewhere) (us vs : List UnitValue) → AreWritten at end t us vs → AreStopped at t us vs
stopped_after at end t [] [] h = tt
stopped_after at end t [] (v ∷ vs) h = absurd h
stopped_after at end t (u ∷ us) [] h = absurd h
stopped_after at end t (u ∷ us) (v ∷ vs) (inl h) = inl (h.0, stopped_after at end t us vs h.1)
stopped_after at end t (u ∷ us) (v ∷ vs) (inr h) = inr (inl (h.0, stopped_after (past_written at t u v h.0) end (past_parts t u) us vs h.1))

-- Where their tables stand

-- behind the tables of units that are written
abbrev pub past_tables : ℕ → List UnitValue → ℕ
past_tables at [] = at
past_tables at (u ∷ us) = past_tables (past_table at u) us

pub writable_more : (plain : Bool) (t : Elsewhere) (at : ℕ) (xs : List UnitValue) (u : UnitValue) → AreWritable plain t at xs → (u.is_written ≡ true) ⊎ IsWritableAt plain (past_all t xs) (past_tables at xs) u →
    AreWritable plain t at (xs ++ u ∷ [])
writable_more plain t at [] u h k = (k, tt)
writable_more plain t at (x ∷ xs) u h k = (h.0, writable_more plain (past_elsewhere t x) (past_table at x) xs u h.1 k)

pub fails_at : (plain : Bool) (t : Elsewhere) (at : ℕ) (xs : List UnitValue) (u : UnitValue) (rest : List UnitValue) (err : Error) → u.is_written ≡ false → UnitFails u (past_all t xs) (past_tables at xs) plain err → UnitsFail plain t at (xs ++ u ∷ rest) err
fails_at plain t at [] u rest err new h = inl (new, h)
fails_at plain t at (x ∷ xs) u rest err new h = inr (fails_at plain (past_elsewhere t x) (past_table at x) xs u rest err new h)

pub past_more : (at : ℕ) (xs : List UnitValue) (u : UnitValue) → past_tables at (xs ++ u ∷ []) ≡ past_table (past_tables at xs) u
past_more at [] u = refl
past_more at (x ∷ xs) u = past_more (past_table at x) xs u

pub past_old : (at : ℕ) (u : UnitValue) → u.is_written ≡ true → past_table at u ≡ at
past_old at u h = ap (λ (b : Bool). if b then at else at + table_size (settled u)) h

pub past_new : (at : ℕ) (u : UnitValue) → u.is_written ≡ false → past_table at u ≡ at + table_size (settled u)
past_new at u h = ap (λ (b : Bool). if b then at else at + table_size (settled u)) h

-- What is to be written

by_mark : (n : ℕ) (t : Elsewhere) (u : UnitValue) (us : List UnitValue) (b : Bool) → u.is_written ≡ b →
    to_write_from n t (u ∷ us) ≡ (if b then to_write_from (suc n) t us else settled_at n t u ∷ to_write_from (suc n) (past_parts t u) us)
by_mark n t u us b h = ap (λ (b : Bool). if b then to_write_from (suc n) t us else settled_at n t u ∷ to_write_from (suc n) (past_parts t u) us) h

pub to_write-old : (n : ℕ) (t : Elsewhere) (xs : List UnitValue) (u : UnitValue) → u.is_written ≡ true → to_write_from n t (xs ++ u ∷ []) ≡ to_write_from n t xs
to_write-old n t [] u h = by_mark n t u [] true h
to_write-old n t (x ∷ xs) u h = step x.is_written (to_write-old (suc n) t xs u h) (to_write-old (suc n) (past_parts t x) xs u h)
  where
    step : (b : Bool) → to_write_from (suc n) t (xs ++ u ∷ []) ≡ to_write_from (suc n) t xs → to_write_from (suc n) (past_parts t x) (xs ++ u ∷ []) ≡ to_write_from (suc n) (past_parts t x) xs →
        (if b then to_write_from (suc n) t (xs ++ u ∷ []) else settled_at n t x ∷ to_write_from (suc n) (past_parts t x) (xs ++ u ∷ []))
        ≡ (if b then to_write_from (suc n) t xs else settled_at n t x ∷ to_write_from (suc n) (past_parts t x) xs)
    step true here behind = here
    step false here behind = ap (λ ys. settled_at n t x ∷ ys) behind

pub to_write-new : (n m : ℕ) (t : Elsewhere) (xs : List UnitValue) (u : UnitValue) → m ≡ n + length xs → u.is_written ≡ false → to_write_from n t (xs ++ u ∷ []) ≡ to_write_from n t xs ++ settled_at m (past_all t xs) u ∷ []
to_write-new n m t [] u e h = by_mark n t u [] false h ∙ ap (λ k. settled_at k t u ∷ []) (let k : n ≡ m = omega (arith, e) in k)
to_write-new n m t (x ∷ xs) u e h = step x.is_written refl (to_write-new (suc n) m t xs u (omega (arith, e)) h) (to_write-new (suc n) m (past_parts t x) xs u (omega (arith, e)) h)
  where
    step : (b : Bool) → x.is_written ≡ b →
        to_write_from (suc n) t (xs ++ u ∷ []) ≡ to_write_from (suc n) t xs ++ settled_at m (past_all t xs) u ∷ [] →
        to_write_from (suc n) (past_parts t x) (xs ++ u ∷ []) ≡ to_write_from (suc n) (past_parts t x) xs ++ settled_at m (past_all (past_parts t x) xs) u ∷ [] →
        to_write_from n t (x ∷ xs ++ u ∷ []) ≡ to_write_from n t (x ∷ xs) ++ settled_at m (past_all (past_elsewhere t x) xs) u ∷ []
    step true is here behind =
        by_mark n t x (xs ++ u ∷ []) true is
        ∙ here
        ∙ ap (λ s. to_write_from (suc n) t xs ++ settled_at m (past_all s xs) u ∷ []) (sym (past-old t x is))
        ∙ ap (λ ys. ys ++ settled_at m (past_all (past_elsewhere t x) xs) u ∷ []) (sym (by_mark n t x xs true is))
    step false is here behind =
        by_mark n t x (xs ++ u ∷ []) false is
        ∙ ap (λ ys. settled_at n t x ∷ ys) behind
        ∙ ap (λ s. settled_at n t x ∷ (to_write_from (suc n) (past_parts t x) xs ++ settled_at m (past_all s xs) u ∷ [])) (sym (past-new t x is))
        ∙ ap (λ ys. ys ++ settled_at m (past_all (past_elsewhere t x) xs) u ∷ []) (sym (by_mark n t x xs false is))

-- where all are written, there is nothing to write
pub to_write-none : (n : ℕ) (t : Elsewhere) (us : List UnitValue) → All (λ u. u.is_written ≡ true) us → to_write_from n t us ≡ []
to_write-none n t [] h = refl
to_write-none n t (u ∷ us) h = by_mark n t u us true (All-head (λ v. v.is_written ≡ true) u us h) ∙ to_write-none (suc n) t us (All-tail (λ v. v.is_written ≡ true) u us h)

-- Places that are kept

get_next : (xs : List UnitValue) (v : UnitValue) (rest : List UnitValue) (n : ℕ) → n ≡ length xs → slice_get (xs ++ v ∷ rest) n ≡ Some v
get_next [] v rest zero e = refl
get_next [] v rest (suc n) e = absurd (omega (arith, e))
get_next (x ∷ xs) v rest zero e = absurd (omega (arith, e))
get_next (x ∷ xs) v rest (suc n) e = get_next xs v rest n (omega (arith, e))

get_other : (xs : List UnitValue) (u v : UnitValue) (rest : List UnitValue) (n : ℕ) → (n ≡ length xs → ⊥) → slice_get (xs ++ v ∷ rest) n ≡ slice_get (xs ++ u ∷ rest) n
get_other [] u v rest zero ne = absurd (ne refl)
get_other [] u v rest (suc n) ne = refl
get_other (x ∷ xs) u v rest zero ne = refl
get_other (x ∷ xs) u v rest (suc n) ne = get_other xs u v rest n (λ e. ne (ap suc e))

bound : (o : Option UnitValue) (u : UnitValue) → o ≡ Some u → (o >>= offsets_of) ≡ offsets_of u
bound o u h = ap (λ x. x >>= offsets_of) h

-- a unit that is written keeps its places, and the others theirs
pub keeps_more : (xs : List UnitValue) (u v : UnitValue) (rest : List UnitValue) (id : ℕ) (w : UnitValue) (t : Tables) (us : List Numbered) (ks : List Kept) (k : Kept) →
    id ≡ length xs → offsets_of u ≡ None → offsets_of v ≡ Some (kept_offsets k) → length us ≡ length ks → KeepPlaces (xs ++ u ∷ rest) us ks →
    KeepPlaces (xs ++ v ∷ rest) (us ++ record { id = id; unit = w; tables = t } ∷ []) (ks ++ k ∷ [])
keeps_more xs u v rest id w t us ks k at none some same h n = by_number (cases_eq id n)
  where
    by_number : (id ≡ n) ⊎ (id ≡ n → ⊥) → offsets_at (xs ++ v ∷ rest) n ≡ kept_at (us ++ record { id = id; unit = w; tables = t } ∷ []) (ks ++ k ∷ []) n
    by_number (inl is) =
        let here : n ≡ length xs = sym is ∙ at in
        let empty : kept_at us ks n ≡ None = sym (h n) ∙ bound (slice_get (xs ++ u ∷ rest) n) u (get_next xs u rest n here) ∙ none in
        bound (slice_get (xs ++ v ∷ rest) n) v (get_next xs v rest n here) ∙ some ∙ sym (kept_last us ks (record { id = id; unit = w; tables = t }) k n same empty (eq-eqb id n is))
    by_number (inr ne) =
        ap (λ x. x >>= offsets_of) (get_other xs u v rest n (λ e. ne (at ∙ sym e))) ∙ h n ∙ sym (kept_other us ks (record { id = id; unit = w; tables = t }) k n same (ne_eqb id n ne))

pub offsets_new : (u : UnitValue) → u.is_written ≡ false → offsets_of u ≡ None
offsets_new u h = ap (λ (b : Bool). if b then option_map offsets_in u.offsets else None) h

pub offsets_marked : (u v : UnitValue) (x : Option Offsets) → v ≡ marked_written v.offsets u → option_map offsets_in v.offsets ≡ x → offsets_of v ≡ x
offsets_marked u v x is h = ap (λ w. if w.is_written then option_map offsets_in v.offsets else None) is ∙ h

-- as many units as before
pub same_count : (us vs : List UnitValue) (i : ℕ) (before after rest : List UnitValue) → IsAt us vs i before after rest → length vs ≡ length us
same_count us vs i before after rest h =
    omega (arith, ap length h.old_is, ap length h.new_is, length-append before rest, length-append after rest, h.count_before, h.count_after)

-- where all units of a table were written, the next one is
pub written_at : (us vs : List UnitValue) (i : ℕ) (before after rest : List UnitValue) (u : UnitValue) → IsAt us vs i before after rest → i < length vs → u ≡ slice_index_or vs i u → All (λ x. x.is_written ≡ true) us → u.is_written ≡ true
written_at us vs i before after rest u h below is all =
    let next = next_is after rest i u h.count_after (omega (arith, below, ap length h.new_is)) in
    let same : u ≡ slice_index_or (after ++ rest) i u = is ∙ ap (λ ys. slice_index_or ys i u) h.new_is in
    let there : us ≡ before ++ u ∷ next.0 = h.old_is ∙ ap (λ r. before ++ r) (next.1 ∙ ap (λ x. x ∷ next.0) (sym same)) in
    marked u next.0 before (subst (All (λ x. x.is_written ≡ true)) there all)
  where
    marked : (u : UnitValue) (more xs : List UnitValue) → All (λ x. x.is_written ≡ true) (xs ++ u ∷ more) → u.is_written ≡ true
    marked u more [] a = All-head (λ x. x.is_written ≡ true) u more a
    marked u more (x ∷ xs) a = marked u more xs (All-tail (λ y. y.is_written ≡ true) x (xs ++ u ∷ more) a)
