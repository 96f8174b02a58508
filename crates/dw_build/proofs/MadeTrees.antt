-- The tree of a generated unit, once it is settled.
use Rattle.std.proofs.Common.{◌≡◌, ◌∙◌, sym, ap, subst, refl, arith, inl, inr, ℕ, zero, suc, ◌+◌, ◌<◌, ◌≤◌, ◌^◌, Bool, true, false, ◌||◌, List, [], ◌∷◌, ◌++◌, map, length, get_or}
use Rattle.std.specs.Prelude.{◌⊎◌, All, not, filter, ◌==◌, ◌%◌, if◌then◌else◌}
use Rattle.std.specs.List.{flat_map}
use Rattle.std.proofs.lemmas.Bool.{cases_lt, eqb-true, true≢false}
use Rattle.std.proofs.lemmas.List.{length-append, append-nil, get_or_append_left, get_or_at}
use Rattle.std.proofs.lemmas.List.Elements.{All-nil, All-cons, All-head, All-tail, All-append, All-map, filter-append}
use Rattle.dw_base.specs.Entries.{Mark, Open, Null}
use Rattle.dw_entries.specs.Entries.{EntryValue, blank_entry, new_root, entry_at}
use Rattle.dw_entries.specs.Settled.{base_type_tag, is_base, bases_first}
use Rattle.dw_entries.specs.Tree.{closed, tree_from, has_entry, preorder}
use Rattle.dw_line.specs.LinePrograms.{no_line_program}
use Rattle.dw_tree.specs.UnitValue.{UnitValue, new_unit}
use Rattle.dw_tree.specs.Whole.{settled}
use Rattle.dw_build.specs.Generated.{generated_encoding, generated_unit, base_type, base_type_id, variable, variables, variable_ids}
use Rattle.dw_build.proofs.Drafts.{variable_that, length-variables}

-- the root with the base type first among its children
abbrev pub made_root : ℕ → EntryValue
made_root n = record new_root { children = base_type_id ∷ variable_ids n }

abbrev pub made_entries : ℕ → ℕ → List EntryValue
made_entries from n = made_root n ∷ base_type ∷ variables from n

abbrev pub made_unit : ℕ → ℕ → UnitValue
made_unit from n = record (new_unit generated_encoding no_line_program) { entries = made_entries from n; reserved = 2 + n }

-- its entries in preorder, and the zero that closes the root's children
abbrev pub made_marks : ℕ → List (Mark ℕ)
made_marks n = Open 0 ∷ Open base_type_id ∷ (map Open (variable_ids n) ++ Null ∷ [])

length-ids : (n : ℕ) → length (variable_ids n) ≡ n
length-ids zero = refl
length-ids (suc n) = omega (arith, length-append (variable_ids n) ((2 + n) ∷ []), length-ids n)

length-opened : (ids : List ℕ) → length (map Open ids) ≡ length ids
length-opened [] = refl
length-opened (i ∷ ids) = omega (arith, length-opened ids)

pub length-marks : (n : ℕ) → length (made_marks n) ≡ 3 + n
length-marks n = omega (arith, length-append (map Open (variable_ids n)) (Null ∷ []), length-opened (variable_ids n), length-ids n)

-- a variable at its place
variable_within : (from n k : ℕ) (d : EntryValue) → k < n → get_or (variables from n) k d ≡ variable (2 + k) (from + k)
variable_within from zero k d below = absurd (omega arith)
variable_within from (suc n) k d below = by_place (cases_lt k n) (variable_within from n k d)
  where
    by_place : (k < n) ⊎ (n ≤ k) → (k < n → get_or (variables from n) k d ≡ variable (2 + k) (from + k)) → get_or (variables from (suc n)) k d ≡ variable (2 + k) (from + k)
    by_place (inl before) more = get_or_append_left (variables from n) (variable (2 + n) (from + n) ∷ []) d k (omega (arith, length-variables from n)) ∙ more before
    by_place (inr behind) more =
        let last : n ≡ k = omega arith in
        get_or_at (variables from n) (variable (2 + n) (from + n)) [] d k (length-variables from n ∙ last) ∙ ap (λ i. variable (2 + i) (from + i)) last

-- the entry of an id from 2 on
variable_at : (from n k : ℕ) (x y : EntryValue) → k < n → entry_at (x ∷ y ∷ variables from n) (2 + k) ≡ variable (2 + k) (from + k)
variable_at from n k x y below =
    let two : 2 + k ≡ suc (suc k) = omega arith in
    ap (entry_at (x ∷ y ∷ variables from n)) two ∙ variable_within from n k (blank_entry 0) below

-- what holds of the ids of variables
each_id : (P : ℕ → Type 0) (n : ℕ) → ((k : ℕ) → k < n → P (2 + k)) → All P (variable_ids n)
each_id P zero h = All-nil P
each_id P (suc n) h =
    All-append P (variable_ids n) ((2 + n) ∷ []) (each_id P n (λ k below. h k (omega arith))) (All-cons P (2 + n) [] (h n (omega arith)) (All-nil P))

-- a mark's entry has a property
abbrev pub IfOpen : (EntryValue → Type 0) → List EntryValue → Mark ℕ → Type 0
IfOpen P es (Open i) = P (entry_at es i)
IfOpen P es Null = Unit {0}

-- a property that each entry has, whichever number a variable has and whether it names the first root or not
each_open : (P : EntryValue → Type 0) (from n : ℕ) → P (made_root n) → P base_type → ((k : ℕ) → k < n → P (entry_at (made_entries from n) (2 + k))) →
    All (IfOpen P (made_entries from n)) (made_marks n)
each_open P from n root base here =
    let es = made_entries from n in
    let behind = map Open (variable_ids n) ++ Null ∷ [] in
    All-cons (IfOpen P es) (Open 0) (Open base_type_id ∷ behind) root
    (All-cons (IfOpen P es) (Open base_type_id) behind base
    (All-append (IfOpen P es) (map Open (variable_ids n)) (Null ∷ [])
    (All-map (IfOpen P es) Open (variable_ids n) (each_id (λ i. P (entry_at es i)) n here))
    (All-cons (IfOpen P es) Null [] tt (All-nil (IfOpen P es)))))

pub each_mark : (P : EntryValue → Type 0) (from n : ℕ) → from + n ≤ 2 ^ 64 → P (made_root n) → P base_type → ((b : Bool) (id i : ℕ) → i < 2 ^ 64 → P (variable_that b id i)) →
    All (IfOpen P (made_entries from n)) (made_marks n)
each_mark P from n within root base each =
    each_open P from n root base
    (λ k below. subst P (sym (variable_at from n k (made_root n) base_type below)) (each (((from + k) % 100) == 0) (2 + k) (from + k) (omega arith)))

-- the same of a property that hangs on no number
pub each_entry : (P : EntryValue → Type 0) (from n : ℕ) → P (made_root n) → P base_type → ((b : Bool) (id i : ℕ) → P (variable_that b id i)) → All (IfOpen P (made_entries from n)) (made_marks n)
each_entry P from n root base each =
    each_open P from n root base
    (λ k below. subst P (sym (variable_at from n k (made_root n) base_type below)) (each (((from + k) % 100) == 0) (2 + k) (from + k)))

-- and of each entry among marks
pub entry_of : (P : EntryValue → Type 0) (es : List EntryValue) (ms : List (Mark ℕ)) → All (IfOpen P es) ms → (i : ℕ) → has_entry ms i ≡ true → P (entry_at es i)
entry_of P es [] h i there = absurd (true≢false (sym there))
entry_of P es (Null ∷ ms) h i there = entry_of P es ms (All-tail (IfOpen P es) Null ms h) i there
entry_of P es (Open j ∷ ms) h i there = by_test (j == i) refl (λ later. entry_of P es ms (All-tail (IfOpen P es) (Open j) ms h) i later)
  where
    by_test : (b : Bool) → (j == i) ≡ b → (has_entry ms i ≡ true → P (entry_at es i)) → P (entry_at es i)
    by_test true same rest = subst (λ k. P (entry_at es k)) (eqb-true j i same) (All-head (IfOpen P es) (Open j) ms h)
    by_test false other rest = rest (sym (ap (λ b. b || has_entry ms i) other) ∙ there)

-- The tree

leaf_marks : (es : List EntryValue) (m : ℕ) (ids : List ℕ) → All (λ i. (entry_at es i).children ≡ []) ids → flat_map (tree_from (suc m) es) ids ≡ map Open ids
unfolding tree_from
leaf_marks es m [] h = refl
leaf_marks es m (i ∷ ids) h =
    ap (λ cs. (Open i ∷ closed cs (flat_map (tree_from m es) cs)) ++ flat_map (tree_from (suc m) es) ids) (All-head (λ i. (entry_at es i).children ≡ []) i ids h)
    ∙ ap (λ ms. Open i ∷ ms) (leaf_marks es m ids (All-tail (λ i. (entry_at es i).children ≡ []) i ids h))

pub made_tree : (from n : ℕ) → preorder (made_entries from n) ≡ made_marks n
unfolding preorder tree_from
made_tree from n =
    let es = made_entries from n in
    let childless : All (λ i. (entry_at es i).children ≡ []) (variable_ids n) = each_id (λ i. (entry_at es i).children ≡ []) n (λ k below. ap (λ (x : EntryValue). x.children) (variable_at from n k (made_root n) base_type below)) in
    ap (λ ms. Open 0 ∷ ((Open base_type_id ∷ ms) ++ Null ∷ [])) (leaf_marks es (length (variables from n)) (variable_ids n) childless)

-- Settling

filter_none : (p : ℕ → Bool) (xs : List ℕ) → All (λ x. p x ≡ false) xs → filter p xs ≡ []
filter_none p [] h = refl
filter_none p (x ∷ xs) h =
    ap (λ (b : Bool). if b then x ∷ filter p xs else filter p xs) (All-head (λ x. p x ≡ false) x xs h) ∙ filter_none p xs (All-tail (λ x. p x ≡ false) x xs h)

filter_others : (p : ℕ → Bool) (xs : List ℕ) → All (λ x. p x ≡ false) xs → filter (λ x. not (p x)) xs ≡ xs
filter_others p [] h = refl
filter_others p (x ∷ xs) h =
    ap (λ (b : Bool). if not b then x ∷ filter (λ x. not (p x)) xs else filter (λ x. not (p x)) xs) (All-head (λ x. p x ≡ false) x xs h)
    ∙ ap (λ ys. x ∷ ys) (filter_others p xs (All-tail (λ x. p x ≡ false) x xs h))

-- the base type, which stands last among the root's children, comes to stand first
pub made_settled : (from n : ℕ) → settled (generated_unit from n) ≡ made_unit from n
made_settled from n =
    let es = (generated_unit from n).entries in
    let ids = variable_ids n in
    let base : ℕ → Bool = is_base es in
    let none : All (λ i. base i ≡ false) ids = each_id (λ i. base i ≡ false) n (λ k below. ap (λ (x : EntryValue). x.tag == base_type_tag) (variable_at from n k _ base_type below)) in
    let bases : filter base (ids ++ base_type_id ∷ []) ≡ base_type_id ∷ [] = filter-append base ids (base_type_id ∷ []) ∙ ap (λ xs. xs ++ base_type_id ∷ []) (filter_none base ids none) in
    let others : filter (λ i. not (base i)) (ids ++ base_type_id ∷ []) ≡ ids = filter-append (λ i. not (base i)) ids (base_type_id ∷ []) ∙ append-nil _ ∙ filter_others base ids none in
    let order : bases_first es (ids ++ base_type_id ∷ []) ≡ base_type_id ∷ ids = ap (λ xs. xs ++ filter (λ i. not (base i)) (ids ++ base_type_id ∷ [])) bases ∙ ap (λ xs. base_type_id ∷ xs) others in
    ap (λ cs. record (new_unit generated_encoding no_line_program) { entries = record new_root { children = cs } ∷ base_type ∷ variables from n; reserved = 2 + n }) order
