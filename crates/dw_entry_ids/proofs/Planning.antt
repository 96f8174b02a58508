-- The tree that rows are, as one more row is read.
use Rattle.std.proofs.Common.{◌≡◌, ◌∙◌, sym, ap, subst, ℕ, zero, suc, ◌+◌, ◌<◌, List, [], ◌∷◌, ◌++◌, Option, Some, None, Bool, true, false, ◌⊎◌, inl, inr, refl, arith, append_assoc}
use Rattle.std.specs.Prelude.{◌==◌, ◌&&◌, if◌then◌else◌}
use Rattle.std.proofs.lemmas.Bool.{eq-eqb, ne_eqb}
use Rattle.std.proofs.lemmas.List.{append-nil}
use Rattle.dw_base.specs.Entries.{ReadEntry, Mark, Open, Null, Row}
use Rattle.dw_entry_ids.specs.Ids.{is_entry, entry_count, later_or}
use Rattle.dw_entry_ids.proofs.Steps.{later_later}
use Rattle.dw_entry_ids.specs.Plans.{Plan, counted, last_at, last_or_root, opened, or_root, parent_behind, plan_of, plans_behind, plans_of}

later_none : {A : Type 0} (o : Option A) → later_or o None ≡ o
later_none None = refl
later_none (Some x) = refl

-- ---- the last entry at a depth
abbrev row_at : ℕ → ℕ → Row → Option ℕ
row_at depth n r = if is_entry r.mark && r.depth == depth then Some n else None

last_one : (depth n : ℕ) (rows : List Row) (r : Row) → last_at depth n (rows ++ r ∷ []) ≡ later_or (row_at depth (entry_count rows + n) r) (last_at depth n rows)
last_one depth n [] r =
    let e : n ≡ 0 + n = omega arith in
    sym (later_none (row_at depth n r)) ∙ ap (λ (m : ℕ). later_or (row_at depth m r) None) e
last_one depth n (x ∷ rows) r =
    let c : ℕ = counted x.mark in
    let e : entry_count rows + (c + n) ≡ (c + entry_count rows) + n = omega arith in
    ap (λ o. later_or o (row_at depth n x)) (last_one depth (c + n) rows r)
    ∙ later_later (row_at depth (entry_count rows + (c + n)) r) (last_at depth (c + n) rows) (row_at depth n x)
    ∙ ap (λ (m : ℕ). later_or (row_at depth m r) (later_or (last_at depth (c + n) rows) (row_at depth n x))) e

-- a row that is none of the depth's entries
last_other : (depth n : ℕ) (rows : List Row) (r : Row) → (is_entry r.mark && r.depth == depth) ≡ false → last_at depth n (rows ++ r ∷ []) ≡ last_at depth n rows
last_other depth n rows r e = last_one depth n rows r ∙ ap (λ (b : Bool). later_or (if b then Some (entry_count rows + n) else None) (last_at depth n rows)) e

last_here : (depth n : ℕ) (rows : List Row) (r : Row) → (is_entry r.mark && r.depth == depth) ≡ true → last_at depth n (rows ++ r ∷ []) ≡ Some (entry_count rows + n)
last_here depth n rows r e = last_one depth n rows r ∙ ap (λ (b : Bool). later_or (if b then Some (entry_count rows + n) else None) (last_at depth n rows)) e

-- its number is one of those before
abbrev IsBefore : ℕ → Option ℕ → Type 0
IsBefore k None = Unit {0}
IsBefore k (Some m) = m < k

before_later : (k : ℕ) (a b : Option ℕ) → IsBefore k a → IsBefore k b → IsBefore k (later_or a b)
before_later k None b h i = i
before_later k (Some m) b h i = h

last_before : (depth n : ℕ) (rows : List Row) → IsBefore (entry_count rows + n) (last_at depth n rows)
last_before depth n [] = tt
last_before depth n (r ∷ rows) =
    let c : ℕ = counted r.mark in
    let e : entry_count rows + (c + n) ≡ (c + entry_count rows) + n = omega arith in
    before_later (c + entry_count rows + n) (last_at depth (c + n) rows) (row_at depth n r) (subst (λ (k : ℕ). IsBefore k (last_at depth (c + n) rows)) e (last_before depth (c + n) rows)) (here r.mark (r.depth == depth))
  where
    here : (m : Mark ReadEntry) (b : Bool) → IsBefore ((if is_entry m then 1 else 0) + entry_count rows + n) (if is_entry m && b then Some n else None)
    here (Open e) true = omega arith
    here (Open e) false = tt
    here Null b = tt

pub parent_below : (front : List Row) (depth : ℕ) → (parent_behind front depth ≡ 0) ⊎ (parent_behind front depth < entry_count front)
parent_below front zero = inl refl
parent_below front (suc depth) = go (last_at depth 0 front) (last_before depth 0 front)
  where
    go : (o : Option ℕ) → IsBefore (entry_count front + 0) o → (or_root o ≡ 0) ⊎ (or_root o < entry_count front)
    go None h = inl refl
    go (Some m) h = inr (omega (arith, h))

-- ---- the open lists of children
last_behind : (xs : List ℕ) (n : ℕ) → last_or_root (xs ++ n ∷ []) ≡ n
last_behind [] n = refl
last_behind (x ∷ []) n = refl
last_behind (x ∷ y ∷ xs) n = last_behind (y ∷ xs) n

-- an entry stands under that of the last one
pub under_last : (front : List Row) (depth : ℕ) → last_or_root (opened front depth) ≡ parent_behind front depth
under_last front zero = refl
under_last front (suc depth) = last_behind (opened front depth) (or_root (last_at depth 0 front))

-- a row leaves the lists that are open above it
opened_same : (front : List Row) (r : Row) (depth : ℕ) → ((d : ℕ) → d < depth → (is_entry r.mark && r.depth == d) ≡ false) → opened (front ++ r ∷ []) depth ≡ opened front depth
opened_same front r zero h = refl
opened_same front r (suc depth) h =
    ap (λ (xs : List ℕ). xs ++ or_root (last_at depth 0 (front ++ r ∷ [])) ∷ []) (opened_same front r depth (λ d l. h d (omega (arith, l))))
    ∙ ap (λ (o : Option ℕ). opened front depth ++ or_root o ∷ []) (last_other depth 0 front r (h depth (omega arith)))

-- a null entry closes the last one
pub opened_null : (front : List Row) (r : Row) (depth : ℕ) → r.mark ≡ Null → opened (front ++ r ∷ []) depth ≡ opened front depth
opened_null front r depth e = opened_same front r depth (λ d l. ap (λ (m : Mark ReadEntry). is_entry m && r.depth == d) e)

-- an entry with a list of children opens that
pub opened_above : (front : List Row) (r : Row) → opened (front ++ r ∷ []) r.depth ≡ opened front r.depth
opened_above front r = opened_same front r r.depth (λ d l. go (is_entry r.mark) (ne_eqb r.depth d (λ (e : r.depth ≡ d). omega (arith, e, l))))
  where
    go : (b : Bool) {c : Bool} → c ≡ false → (b && c) ≡ false
    go true e = e
    go false e = refl

pub opened_entry : (front : List Row) (r : Row) (e : ReadEntry) → r.mark ≡ Open e → opened (front ++ r ∷ []) (suc r.depth) ≡ opened front r.depth ++ entry_count front ∷ []
opened_entry front r e m =
    let here : (is_entry r.mark && r.depth == r.depth) ≡ true = ap (λ (k : Mark ReadEntry). is_entry k && r.depth == r.depth) m ∙ eq-eqb r.depth r.depth refl in
    let n : entry_count front + 0 ≡ entry_count front = omega arith in
    ap (λ (xs : List ℕ). xs ++ or_root (last_at r.depth 0 (front ++ r ∷ [])) ∷ []) (opened_above front r)
    ∙ ap (λ (o : Option ℕ). opened front r.depth ++ or_root o ∷ []) (last_here r.depth 0 front r here)
    ∙ ap (λ (k : ℕ). opened front r.depth ++ k ∷ []) n

-- ---- the plans
plans_append : (front xs ys : List Row) → plans_behind front (xs ++ ys) ≡ plans_behind front xs ++ plans_behind (front ++ xs) ys
plans_append front [] ys = ap (λ (zs : List Row). plans_behind zs ys) (sym (append-nil front))
plans_append front (r ∷ xs) ys =
    ap (λ (ps : List Plan). plan_of (entry_count front) (parent_behind front r.depth) r.mark ++ ps) (plans_append (front ++ r ∷ []) xs ys ∙ ap (λ (zs : List Row). plans_behind (front ++ r ∷ []) xs ++ plans_behind zs ys) (append_assoc front (r ∷ []) xs))
    ∙ sym (append_assoc (plan_of (entry_count front) (parent_behind front r.depth) r.mark) (plans_behind (front ++ r ∷ []) xs) (plans_behind (front ++ r ∷ xs) ys))

pub plans_more : (front more : List Row) → plans_of (front ++ more) ≡ plans_of front ++ plans_behind front more
unfolding plans_of
plans_more front more = plans_append [] front more

pub plans_one : (front : List Row) (r : Row) → plans_of (front ++ r ∷ []) ≡ plans_of front ++ plan_of (entry_count front) (parent_behind front r.depth) r.mark
plans_one front r = plans_more front (r ∷ []) ∙ ap (λ (ps : List Plan). plans_of front ++ ps) (append-nil (plan_of (entry_count front) (parent_behind front r.depth) r.mark))

pub plans_none : plans_of [] ≡ []
unfolding plans_of
plans_none = refl

-- behind an entry's row come others
pub plans_around : (front more : List Row) (r : Row) (e : ReadEntry) → r.mark ≡ Open e → plans_of ((front ++ r ∷ []) ++ more) ≡ plans_of front ++ record { number = entry_count front; parent = parent_behind front r.depth; entry = e } ∷ plans_behind (front ++ r ∷ []) more
plans_around front more r e m =
    plans_more (front ++ r ∷ []) more
    ∙ ap (λ (ps : List Plan). ps ++ plans_behind (front ++ r ∷ []) more) (plans_one front r ∙ ap (λ (k : Mark ReadEntry). plans_of front ++ plan_of (entry_count front) (parent_behind front r.depth) k) m)
    ∙ append_assoc (plans_of front) (record { number = entry_count front; parent = parent_behind front r.depth; entry = e } ∷ []) (plans_behind (front ++ r ∷ []) more)

pub count_more : (front more : List Row) → entry_count (front ++ more) ≡ entry_count front + entry_count more
count_more [] more = omega arith
count_more (r ∷ front) more = let h : entry_count (front ++ more) ≡ entry_count front + entry_count more = count_more front more in omega arith
