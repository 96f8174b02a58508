-- Rows and units that are numbered one after the other.
use Rattle.std.proofs.Common.{◌≡◌, ◌∙◌, sym, ap, ℕ, ◌+◌, ◌==◌, List, [], ◌∷◌, ◌++◌, length, Option, Some, None, Bool, true, false, if◌then◌else◌, refl, arith}
use Rattle.dw_base.specs.Entries.{ReadEntry, Mark, Open, Null, Row}
use Rattle.dw_base.specs.Info.{ReadUnit}
use Rattle.dw_base.specs.declared.ids.UnitId.{UnitId}
use Rattle.dw_entry_ids.specs.Ids.{Id, later_or, begins_at, is_entry, entry_count, mark_number, number_among, number_in, with_unit, id_among}

-- what a row at a place adds to what is kept
abbrev pub mark_id : ℕ → Id → Mark ReadEntry → ℕ → Option Id
mark_id place id (Open e) p = begins_at place id p
mark_id place id Null p = None

pub chosen : {A : Type 0} (b : Bool) (x : A) (o : Option A) → (if b then Some x else o) ≡ later_or (if b then Some x else None) o
chosen true x o = refl
chosen false x o = refl

later_none : {A : Type 0} (o : Option A) → later_or o None ≡ o
later_none None = refl
later_none (Some x) = refl

pub later_later : {A : Type 0} (a b c : Option A) → later_or (later_or a b) c ≡ later_or a (later_or b c)
later_later None b c = refl
later_later (Some x) b c = refl

with_later : (k : UnitId) (a b : Option ℕ) → with_unit k (later_or a b) ≡ later_or (with_unit k a) (with_unit k b)
with_later k None b = refl
with_later k (Some n) b = refl

with_begins : (k : UnitId) (b : Bool) (n : ℕ) → (if b then Some (k, record { 0 = n }) else None) ≡ with_unit k (if b then Some n else None)
with_begins k true n = refl
with_begins k false n = refl

mark_with : (k : UnitId) (place n : ℕ) (m : Mark ReadEntry) (p : ℕ) → mark_id place (k, record { 0 = n }) m p ≡ with_unit k (mark_number place n m p)
mark_with k place n (Open e) p = with_begins k (place == p) n
mark_with k place n Null p = refl

pub count_one : (rows : List Row) (r : Row) → entry_count (rows ++ r ∷ []) ≡ entry_count rows + (if is_entry r.mark then 1 else 0)
count_one [] r = omega arith
count_one (x ∷ rows) r = let h : entry_count (rows ++ r ∷ []) ≡ entry_count rows + (if is_entry r.mark then 1 else 0) = count_one rows r in omega arith

-- one row more
pub number_one : (from n : ℕ) (rows : List Row) (r : Row) (p : ℕ) → number_among from n (rows ++ r ∷ []) p ≡ later_or (mark_number (from + r.from) (entry_count rows + n) r.mark p) (number_among from n rows p)
unfolding number_among
number_one from n [] r p =
    let e : n ≡ 0 + n = omega arith in
    sym (later_none (mark_number (from + r.from) n r.mark p)) ∙ ap (λ (m : ℕ). later_or (mark_number (from + r.from) m r.mark p) None) e
number_one from n (x ∷ rows) r p =
    let c : ℕ = if is_entry x.mark then 1 else 0 in
    let e : entry_count rows + (c + n) ≡ (c + entry_count rows) + n = omega arith in
    ap (λ o. later_or o (mark_number (from + x.from) n x.mark p)) (number_one from (c + n) rows r p)
    ∙ later_later (mark_number (from + r.from) (entry_count rows + (c + n)) r.mark p) (number_among from (c + n) rows p) (mark_number (from + x.from) n x.mark p)
    ∙ ap (λ (m : ℕ). later_or (mark_number (from + r.from) m r.mark p) (later_or (number_among from (c + n) rows p) (mark_number (from + x.from) n x.mark p))) e

-- what is kept after one row more
pub kept_more : (k : UnitId) (from place : ℕ) (rows : List Row) (r : Row) (p : ℕ) (before : Option Id) → from + r.from ≡ place
    → later_or (mark_id place (k, record { 0 = entry_count rows }) r.mark p) (later_or (with_unit k (number_among from 0 rows p)) before) ≡ later_or (with_unit k (number_among from 0 (rows ++ r ∷ []) p)) before
kept_more k from place rows r p before e =
    let n : entry_count rows ≡ entry_count rows + 0 = omega arith in
    let one : number_among from 0 (rows ++ r ∷ []) p ≡ later_or (mark_number place (entry_count rows) r.mark p) (number_among from 0 rows p) =
    number_one from 0 rows r p
    ∙ ap (λ (q : ℕ). later_or (mark_number q (entry_count rows + 0) r.mark p) (number_among from 0 rows p)) e
    ∙ ap (λ (m : ℕ). later_or (mark_number place m r.mark p) (number_among from 0 rows p)) (sym n) in
    ap (λ o. later_or o (later_or (with_unit k (number_among from 0 rows p)) before)) (mark_with k place (entry_count rows) r.mark p)
    ∙ sym (later_later (with_unit k (mark_number place (entry_count rows) r.mark p)) (with_unit k (number_among from 0 rows p)) before)
    ∙ ap (λ o. later_or o before) (sym (with_later k (mark_number place (entry_count rows) r.mark p) (number_among from 0 rows p)))
    ∙ ap (λ o. later_or (with_unit k o) before) (sym one)

-- before the first row
pub kept_none : (k : UnitId) (from p : ℕ) (before : Option Id) → before ≡ later_or (with_unit k (number_among from 0 [] p)) before
unfolding number_among
kept_none k from p before = refl

-- one unit more
pub id_one : (k : ℕ) (us : List ReadUnit) (u : ReadUnit) (p : ℕ) → id_among k (us ++ u ∷ []) p ≡ later_or (with_unit (record { 0 = length us + k }) (number_in u p)) (id_among k us p)
unfolding id_among
id_one k [] u p =
    let e : k ≡ 0 + k = omega arith in
    sym (later_none (with_unit (record { 0 = k }) (number_in u p))) ∙ ap (λ (m : ℕ). later_or (with_unit (record { 0 = m }) (number_in u p)) None) e
id_one k (x ∷ us) u p =
    let e : length us + (k + 1) ≡ length (x ∷ us) + k = omega arith in
    ap (λ o. later_or o (with_unit (record { 0 = k }) (number_in x p))) (id_one (k + 1) us u p)
    ∙ later_later (with_unit (record { 0 = length us + (k + 1) }) (number_in u p)) (id_among (k + 1) us p) (with_unit (record { 0 = k }) (number_in x p))
    ∙ ap (λ (m : ℕ). later_or (with_unit (record { 0 = m }) (number_in u p)) (later_or (id_among (k + 1) us p) (with_unit (record { 0 = k }) (number_in x p)))) e

pub id_none : (p : ℕ) → None ≡ id_among 0 [] p
unfolding id_among
id_none p = refl
