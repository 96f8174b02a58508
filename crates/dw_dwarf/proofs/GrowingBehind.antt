-- The entries of a unit as one more is converted, where the ids of those behind the root may begin at another than their own.
use Rattle.std.proofs.Common.{◌≡◌, ◌∙◌, sym, ap, subst, ℕ, zero, suc, ◌+◌, ◌-◌, ◌<◌, ◌≤◌, List, [], ◌∷◌, ◌++◌, length, map, true, false, Option, Some, None, ◌⊎◌, inl, inr, refl, arith, append_assoc, append-nil, length-append}
use Rattle.std.specs.Prelude.{◌==◌, ◌&&◌, not}
use Rattle.std.proofs.lemmas.Bool.{eq-eqb, ne_eqb}
use Rattle.std.proofs.lemmas.List.{map-append}
use Rattle.dw_base.specs.Entries.{ReadEntry}
use Rattle.dw_entries.proofs.Arenas.{length-with_new_child}
use Rattle.dw_entries.proofs.Changed.{length-with_changed}
use Rattle.dw_entries.proofs.Filled.{filled_up-same}
use Rattle.dw_entries.specs.Entries.{EntryValue, blank_entry, filled_from, filled_up, new_root, placed_under, with_added, with_changed, with_child, with_new_child}
use Rattle.dw_entry_ids.specs.Plans.{Plan, names_sibling}
use Rattle.dw_dwarf.proofs.Growing.{AreNumbered, AreBelow, unconverted_from, changed_front, changed_here, filled_changed, entry_child, entry_same, others_same, child_added, children_one, no_children, built_more, new_entry, grown, length-built}
use Rattle.dw_dwarf.specs.ConvertedEntries.{Values, attribute_of, children_of, built_entry, built_entries}
use Rattle.dw_dwarf.specs.Placed.{unconverted, with_contents, with_converted, with_placed}
use Rattle.dw_dwarf.specs.UnitIds.{IsFree, id_behind, id_of, plan_behind, unit_entries}

-- ---- lists
length-blank : (i n : ℕ) → length (filled_from i n []) ≡ n
length-blank i zero = refl
length-blank i (suc n) = ap suc (length-blank (suc i) n)

-- what is reserved and not added is not converted yet
pub blank_filled : (i n : ℕ) → filled_from (suc i) n [] ≡ unconverted_from (suc i) n
blank_filled i zero = refl
blank_filled i (suc n) = ap (λ (es : List EntryValue). blank_entry (suc i) ∷ es) (blank_filled (suc i) n)

unconverted_more : (k a b : ℕ) → unconverted_from k (a + b) ≡ unconverted_from k a ++ unconverted_from (k + a) b
unconverted_more k zero b =
    ap (unconverted_from k) (let e : 0 + b ≡ b = omega arith in e)
    ∙ ap (λ (j : ℕ). unconverted_from j b) (let e : k ≡ k + 0 = omega arith in e)
unconverted_more k (suc a) b =
    ap (unconverted_from k) (let e : suc a + b ≡ suc (a + b) = omega arith in e)
    ∙ ap (λ (es : List EntryValue). unconverted k ∷ es) (unconverted_more (suc k) a b ∙ ap (λ (j : ℕ). unconverted_from (suc k) a ++ unconverted_from j b) (let e : suc k + a ≡ k + suc a = omega arith in e))

-- an entry other than the root is added where it is placed
placed_added : (n id parent tag : ℕ) (es : List EntryValue) → 0 < id → with_placed n id parent tag es ≡ with_added n id parent tag es
placed_added n zero parent tag es l = absurd (omega (arith, l))
placed_added n (suc id) parent tag es l = refl

-- a change past a part of a list
changed_past : (j i : ℕ) (f : EntryValue → EntryValue) (xs ys : List EntryValue) → j ≡ length xs + i → with_changed j f (xs ++ ys) ≡ xs ++ with_changed i f ys
changed_past j i f [] ys e = ap (λ (n : ℕ). with_changed n f ys) (let q : j ≡ i = omega (arith, e) in q)
changed_past zero i f (x ∷ xs) ys e = absurd (omega (arith, e))
changed_past (suc j) i f (x ∷ xs) ys e = ap (λ (zs : List EntryValue). x ∷ zs) (changed_past j i f xs ys (omega (arith, e)))

-- the entries with the gap behind the root, also where no other stands there
abbrev pub gapped : ℕ → List EntryValue → List EntryValue
gapped first [] = []
gapped first (x ∷ xs) = x ∷ filled_from 1 (first - 1) [] ++ xs

abbrev pub filled_entries : Option ℕ → List Plan → List Values → List EntryValue
filled_entries None ps vs = built_entries ps ps vs
filled_entries (Some first) ps vs = gapped first (built_entries (map (plan_behind first) ps) (map (plan_behind first) ps) vs)

gapped_more : (first : ℕ) (xs rest : List EntryValue) (y : EntryValue) → 0 < length xs → gapped first xs ++ y ∷ rest ≡ gapped first (xs ++ y ∷ []) ++ rest
gapped_more first [] rest y l = absurd (omega (arith, l))
gapped_more first (x ∷ xs) rest y l =
    let gap : List EntryValue = filled_from 1 (first - 1) [] in
    ap (λ (zs : List EntryValue). x ∷ zs) (sym (append_assoc (gap ++ xs) (y ∷ []) rest) ∙ ap (λ (zs : List EntryValue). zs ++ rest) (append_assoc gap xs (y ∷ [])))

length-gapped : (first : ℕ) (xs : List EntryValue) → 1 ≤ first → length (gapped first xs) ≡ id_behind first (length xs)
length-gapped first [] l = refl
length-gapped first (x ∷ xs) l =
    let both : length (filled_from 1 (first - 1) [] ++ xs) ≡ length (filled_from 1 (first - 1) []) + length xs = length-append (filled_from 1 (first - 1) []) xs in
    let gap : length (filled_from 1 (first - 1) []) ≡ first - 1 = length-blank 1 (first - 1) in
    omega (arith, both, gap, l)

length-map : {A B : Type 0} (f : A → B) (xs : List A) → length (map f xs) ≡ length xs
length-map f [] = refl
length-map f (x ∷ xs) = ap suc (length-map f xs)

pub length-filled : (behind : Option ℕ) (ps : List Plan) (vs : List Values) → IsFree behind → length ps ≡ length vs → length (filled_entries behind ps vs) ≡ id_of behind (length ps)
length-filled None ps vs l m = length-built ps ps vs m
length-filled (Some first) ps vs l m =
    let qs : List Plan = map (plan_behind first) ps in
    let many : length qs ≡ length ps = length-map (plan_behind first) ps in
    let as_many : length qs ≡ length vs = many ∙ m in
    length-gapped first (built_entries qs qs vs) l ∙ ap (id_behind first) (length-built qs qs vs as_many ∙ many)

-- ---- ids
-- they rise with numbers
pub id_more : (behind : Option ℕ) (m n : ℕ) → IsFree behind → m < n → id_of behind m < id_of behind n
id_more None m n l h = h
id_more (Some first) m zero l h = absurd (omega (arith, h))
id_more (Some first) zero (suc n) l h = omega (arith, l)
id_more (Some first) (suc m) (suc n) l h = omega (arith, h)

pub id_most : (behind : Option ℕ) (m n : ℕ) → IsFree behind → m ≤ n → id_of behind m ≤ id_of behind n
id_most None m n l h = h
id_most (Some first) zero n l h = omega arith
id_most (Some first) (suc m) zero l h = absurd (omega (arith, h))
id_most (Some first) (suc m) (suc n) l h = omega (arith, h)

pub id_root : (behind : Option ℕ) → id_of behind 0 ≡ 0
id_root None = refl
id_root (Some first) = refl

module _ (first : ℕ) (free : 1 ≤ first) where
  numbered_behind : (j : ℕ) (ps : List Plan) → AreNumbered (suc j) ps → AreNumbered (first + j) (map (plan_behind first) ps)
  numbered_behind j [] h = tt
  numbered_behind j (p ∷ ps) h = (ap (id_behind first) h.0, subst (λ (n : ℕ). AreNumbered n (map (plan_behind first) ps)) (let e : first + suc j ≡ suc (first + j) = omega arith in e) (numbered_behind (suc j) ps h.1))

  parent_behind_below : (k m : ℕ) → (m ≡ 0) ⊎ (m < suc k) → (id_behind first m ≡ 0) ⊎ (id_behind first m < first + k)
  parent_behind_below k zero h = inl refl
  parent_behind_below k (suc m) (inl e) = absurd (omega (arith, e))
  parent_behind_below k (suc m) (inr l) = inr (omega (arith, l))

  below_behind : (k : ℕ) (ps : List Plan) → AreBelow (suc k) ps → AreBelow (first + k) (map (plan_behind first) ps)
  below_behind k [] h = tt
  below_behind k (p ∷ ps) h = (parent_behind_below k p.parent h.0, below_behind k ps h.1)

  -- an entry behind the gap is changed
  changed_behind : (j i : ℕ) (f : EntryValue → EntryValue) (x : EntryValue) (ys : List EntryValue) → j ≡ first + i → with_changed j f (x ∷ filled_from 1 (first - 1) [] ++ ys) ≡ x ∷ filled_from 1 (first - 1) [] ++ with_changed i f ys
  changed_behind j i f x ys e =
      let gap : length (filled_from 1 (first - 1) []) ≡ first - 1 = length-blank 1 (first - 1) in
      changed_past j i f (x ∷ filled_from 1 (first - 1) []) ys (omega (arith, e, gap, free))

  module _ (root : Plan) (own : Values) (ps : List Plan) (vs : List Values) (e : ReadEntry) (k : ℕ) where
    abbrev all : List Plan
    all = root ∷ ps

    abbrev one_more : ℕ → Plan
    one_more parent = record { number = first + k; parent = parent; entry = e }

    not_root : ((first + k) == 0) ≡ false
    not_root = ne_eqb (first + k) 0 (λ (z : first + k ≡ 0). omega (arith, z, free))

    -- its parent gets another child
    parent_changed : (q : ℕ) → root.number ≡ 0 → AreNumbered first ps → length ps ≡ length vs → k ≡ length ps → (q ≡ 0) ⊎ (q < suc k) → with_changed (id_behind first q) (with_child (first + k)) (gapped first (built_entries all all (own ∷ vs))) ≡ gapped first (built_entries (all ++ one_more (id_behind first q) ∷ []) all (own ∷ vs))
    parent_changed zero at numbered m z under =
        let gap : List EntryValue = filled_from 1 (first - 1) [] in
        let p : Plan = one_more 0 in
        let same : (0 == root.number) ≡ true = eq-eqb 0 root.number (sym at) in
        ap (λ (x : EntryValue). x ∷ gap ++ built_entries all ps vs) (sym (entry_child all p root own not_root same))
        ∙ ap (λ (ys : List EntryValue). built_entry (all ++ p ∷ []) root own ∷ gap ++ ys) (sym (others_same first all p ps vs not_root numbered free))
    parent_changed (suc q) at numbered m z (inl h) = absurd (omega (arith, h))
    parent_changed (suc q) at numbered m z (inr l) =
        let gap : List EntryValue = filled_from 1 (first - 1) [] in
        let p : Plan = one_more (first + q) in
        let other : ((first + q) == root.number) ≡ false = ne_eqb (first + q) root.number (λ (same : first + q ≡ root.number). omega (arith, same, at, free)) in
        changed_behind (first + q) q (with_child (first + k)) (built_entry all root own) (built_entries all ps vs) refl
        ∙ ap (λ (ys : List EntryValue). built_entry all root own ∷ gap ++ ys) (sym (child_added first q all p ps vs not_root numbered refl (omega (arith, l, z)) m))
        ∙ ap (λ (x : EntryValue). x ∷ gap ++ built_entries (all ++ p ∷ []) ps vs) (sym (entry_same all p root own not_root other))

    -- another entry is added
    child_grown : (n q : ℕ) (values : Values) (es : List EntryValue) → root.number ≡ 0 → AreNumbered first ps → AreBelow (first + k) all → length ps ≡ length vs → k ≡ length ps → (q ≡ 0) ⊎ (q < suc k) → first + k < n → length es ≤ n
        → filled_up n es ≡ gapped first (built_entries all all (own ∷ vs)) ++ unconverted_from (first + k) (n - (first + k))
        → filled_up n (with_changed (first + k) (with_contents (not ((first + k) == 0) && names_sibling e) (map attribute_of values)) (with_added n (first + k) (id_behind first q) e.tag es))
        ≡ gapped first (built_entries (all ++ one_more (id_behind first q) ∷ []) (all ++ one_more (id_behind first q) ∷ []) ((own ∷ vs) ++ values ∷ [])) ++ unconverted_from (first + k + 1) (n - (first + k + 1))
    child_grown n q values es at numbered below m z under l within h =
        let id : ℕ = first + k in
        let to : ℕ = id_behind first q in
        let p : Plan = one_more to in
        let f = with_contents (not (id == 0) && names_sibling e) (map attribute_of values) in
        let rest : List EntryValue = unconverted_from (suc id) (n - (id + 1)) in
        let before : List EntryValue = gapped first (built_entries all all (own ∷ vs)) in
        let built : List EntryValue = built_entries (all ++ p ∷ []) all (own ∷ vs) in
        let after : List EntryValue = gapped first built in
        let more : n - id ≡ suc (n - (id + 1)) = omega (arith, l) in
        let here : unconverted id ≡ blank_entry id = blank_there id (omega (arith, free)) in
        let whole : n ≡ length (with_changed id f (with_added n id to e.tag es)) = sym (length-with_changed id f (with_added n id to e.tag es) ∙ length-with_new_child id to e.tag n es within) in
        let as_many : length all ≡ length (own ∷ vs) = omega (arith, m) in
        let lengths : length before ≡ id_behind first (length (built_entries all all (own ∷ vs))) = length-gapped first (built_entries all all (own ∷ vs)) free in
        let all_built : length (built_entries all all (own ∷ vs)) ≡ suc k = length-built all all (own ∷ vs) as_many ∙ (let y : length all ≡ suc k = omega (arith, z) in y) in
        let as_built : length built ≡ suc k = length-built (all ++ p ∷ []) all (own ∷ vs) as_many ∙ (let y : length all ≡ suc k = omega (arith, z) in y) in
        let length_before : length before ≡ id = lengths ∙ ap (id_behind first) all_built in
        let length_after : length after ≡ id = length-gapped first built free ∙ ap (id_behind first) as_built in
        let to_below : to < id = go q under in
        let childless : children_of id (all ++ p ∷ []) ≡ [] = children_one id all p false not_root (ne_eqb to id (λ (r : to ≡ id). omega (arith, r, to_below))) ∙ append-nil (children_of id all) ∙ no_children id all below (omega (arith, free)) in
        let next : suc id ≡ id + 1 = omega arith in
        filled_up-same n (with_changed id f (with_added n id to e.tag es)) whole
        ∙ ap (λ (xs : List EntryValue). with_changed id f (with_new_child id to e.tag xs)) (h ∙ ap (λ (j : ℕ). before ++ unconverted_from id j) more ∙ ap (λ (x : EntryValue). before ++ x ∷ rest) here)
        ∙ ap (λ (xs : List EntryValue). with_changed id f (with_changed id (placed_under to e.tag) xs)) (changed_front to (with_child id) before (blank_entry id ∷ rest) (omega (arith, to_below, length_before)) ∙ ap (λ (xs : List EntryValue). xs ++ blank_entry id ∷ rest) (parent_changed q at numbered m z under))
        ∙ ap (with_changed id f) (changed_here id (placed_under to e.tag) after (blank_entry id) rest (sym length_after))
        ∙ changed_here id f after (placed_under to e.tag (blank_entry id)) rest (sym length_after)
        ∙ ap (λ (x : EntryValue). after ++ x ∷ rest) (new_entry id to e (all ++ p ∷ []) values not_root childless)
        ∙ gapped_more first built rest (built_entry (all ++ p ∷ []) p values) (omega (arith, as_built))
        ∙ ap (λ (xs : List EntryValue). gapped first xs ++ rest) (sym (built_more (all ++ p ∷ []) all (own ∷ vs) p values as_many))
        ∙ ap (λ (j : ℕ). gapped first (built_entries (all ++ p ∷ []) (all ++ p ∷ []) ((own ∷ vs) ++ values ∷ [])) ++ unconverted_from j (n - (id + 1))) next
      where
        blank_there : (i : ℕ) → 0 < i → unconverted i ≡ blank_entry i
        blank_there zero l = absurd (omega (arith, l))
        blank_there (suc i) l = refl

        go : (q : ℕ) → (q ≡ 0) ⊎ (q < suc k) → id_behind first q < first + k
        go zero u = omega (arith, free)
        go (suc q) (inl u) = absurd (omega (arith, u))
        go (suc q) (inr u) = omega (arith, u)

  module _ (n q : ℕ) (e : ReadEntry) (values : Values) (es : List EntryValue) where
    abbrev plan_at : ℕ → Plan
    plan_at k = record { number = k; parent = q; entry = e }

    -- the root is converted where it stands
    root_grown : first ≤ n → 0 < length es → filled_up n es ≡ unconverted_from 0 (n - 0)
        → filled_up n (with_converted n (plan_behind first (plan_at 0)) values es) ≡ gapped first (built_entries (plan_behind first (plan_at 0) ∷ []) (plan_behind first (plan_at 0) ∷ []) (values ∷ [])) ++ unconverted_from first (n - first)
    root_grown fits some h =
        let f = with_contents (not (0 == 0) && names_sibling e) (map attribute_of values) in
        let gap : List EntryValue = filled_from 1 (first - 1) [] in
        let more : n - 0 ≡ suc ((first - 1) + (n - first)) = omega (arith, fits, free) in
        let from : 1 + (first - 1) ≡ first = omega (arith, free) in
        filled_changed 0 n 0 f es some
        ∙ ap (with_changed 0 f) (h ∙ ap (unconverted_from 0) more)
        ∙ ap (λ (ys : List EntryValue). f new_root ∷ ys)
        (unconverted_more 1 (first - 1) (n - first)
        ∙ ap (λ (j : ℕ). unconverted_from 1 (first - 1) ++ unconverted_from j (n - first)) from
        ∙ ap (λ (ys : List EntryValue). ys ++ unconverted_from first (n - first)) (sym (blank_filled 0 (first - 1)) ∙ sym (append-nil gap)))

    grown_behind : (k : ℕ) (ps : List Plan) (vs : List Values) → k ≡ length ps → length ps ≡ length vs → AreNumbered 0 ps → AreBelow k ps → (q ≡ 0) ⊎ (q < k) → first ≤ n → id_behind first k < n → 0 < length es → length es ≤ n
        → filled_up n es ≡ filled_entries (Some first) ps vs ++ unconverted_from (id_behind first k) (n - id_behind first k)
        → filled_up n (with_converted n (plan_behind first (plan_at k)) values es) ≡ filled_entries (Some first) (ps ++ plan_at k ∷ []) (vs ++ values ∷ []) ++ unconverted_from (id_behind first (k + 1)) (n - id_behind first (k + 1))
    grown_behind zero [] [] z m numbered below under fits l some within h =
        root_grown fits some h ∙ ap (λ (j : ℕ). gapped first (built_entries (plan_behind first (plan_at 0) ∷ []) (plan_behind first (plan_at 0) ∷ []) (values ∷ [])) ++ unconverted_from j (n - j)) (let j : first ≡ id_behind first (0 + 1) = omega arith in j)
    grown_behind zero [] (v ∷ vs) z m numbered below under fits l some within h = absurd (omega (arith, m))
    grown_behind zero (p ∷ ps) vs z m numbered below under fits l some within h = absurd (omega (arith, z))
    grown_behind (suc k) [] vs z m numbered below under fits l some within h = absurd (omega (arith, z))
    grown_behind (suc k) (p ∷ ps) [] z m numbered below under fits l some within h = absurd (omega (arith, m))
    grown_behind (suc k) (p ∷ ps) (v ∷ vs) z m numbered below under fits l some within h =
        let shift : Plan → Plan = plan_behind first in
        let qs : List Plan = map shift ps in
        let many : length qs ≡ length ps = length-map shift ps in
        let entries : List Plan → List EntryValue = λ all. gapped first (built_entries all all ((v ∷ vs) ++ values ∷ [])) in
        let to : ℕ = first + k + 1 in
        ap (λ (xs : List EntryValue). filled_up n (with_changed (first + k) (with_contents (not ((first + k) == 0) && names_sibling e) (map attribute_of values)) xs)) (placed_added n (first + k) (id_behind first q) e.tag es (omega (arith, free)))
        ∙ child_grown (shift p) v qs vs e k n q values es (ap (id_behind first) numbered.0) (subst (λ (j : ℕ). AreNumbered j qs) (let j : first + 0 ≡ first = omega arith in j) (numbered_behind 0 ps numbered.1)) (below_behind k (p ∷ ps) below) (omega (arith, many, m)) (omega (arith, many, z)) under l within h
        ∙ ap (λ (all : List Plan). entries all ++ unconverted_from to (n - to)) (sym (map-append shift (p ∷ ps) (plan_at (suc k) ∷ [])))
        ∙ ap (λ (j : ℕ). entries (map shift ((p ∷ ps) ++ plan_at (suc k) ∷ [])) ++ unconverted_from j (n - j)) ((let j : to ≡ first + suc k = omega arith in j) ∙ ap (id_behind first) (let j : suc (suc k) ≡ suc k + 1 = omega arith in j))

-- an entry is converted, in either way
pub grown_in : (behind : Option ℕ) (n q : ℕ) (e : ReadEntry) (values : Values) (es : List EntryValue) → IsFree behind → (k : ℕ) (ps : List Plan) (vs : List Values) → k ≡ length ps → length ps ≡ length vs → AreNumbered 0 ps → AreBelow k ps → (q ≡ 0) ⊎ (q < k) → id_of behind 1 ≤ n → id_of behind k < n → 0 < length es → length es ≤ n
    → filled_up n es ≡ filled_entries behind ps vs ++ unconverted_from (id_of behind k) (n - id_of behind k)
    → filled_up n (with_converted n (record { number = id_of behind k; parent = id_of behind q; entry = e }) values es) ≡ filled_entries behind (ps ++ record { number = k; parent = q; entry = e } ∷ []) (vs ++ values ∷ []) ++ unconverted_from (id_of behind (k + 1)) (n - id_of behind (k + 1))
grown_in None n q e values es free k ps vs z m numbered below under fits l some within h = grown n q e values es k ps vs z m numbered below under l some within h
grown_in (Some first) n q e values es free k ps vs z m numbered below under fits l some within h = grown_behind first free n q e values es k ps vs z m numbered below under (let f : first ≤ n = omega (arith, fits) in f) l some within h

-- the root alone stays alone, and any other brings all up to what is reserved
pub grown_length : (behind : Option ℕ) (n q : ℕ) (e : ReadEntry) (values : Values) (es : List EntryValue) → IsFree behind → (k : ℕ) → length es ≤ n → (k < 2 × (length es ≡ 1)) ⊎ (1 < k × (length es ≡ n))
    → (k + 1 < 2 × (length (with_converted n (record { number = id_of behind k; parent = q; entry = e }) values es) ≡ 1)) ⊎ (1 < k + 1 × (length (with_converted n (record { number = id_of behind k; parent = q; entry = e }) values es) ≡ n))
grown_length behind n q e values es free zero within (inr h) = absurd (omega (arith, h.0))
grown_length behind n q e values es free zero within (inl h) =
    let f = with_contents (not (0 == 0) && names_sibling e) (map attribute_of values) in
    inl (omega arith, subst (λ (i : ℕ). length (with_converted n (record { number = i; parent = q; entry = e }) values es) ≡ 1) (sym (id_root behind)) (length-with_changed 0 f es ∙ h.1))
grown_length behind n q e values es free (suc k) within h =
    let id : ℕ = id_of behind (suc k) in
    let f = with_contents (not (id == 0) && names_sibling e) (map attribute_of values) in
    let some : id_of behind 0 < id = id_more behind 0 (suc k) free (omega arith) in
    let added : with_placed n id q e.tag es ≡ with_added n id q e.tag es = placed_added n id q e.tag es (omega (arith, some)) in
    inr (omega arith, ap (λ (xs : List EntryValue). length (with_changed id f xs)) added ∙ length-with_changed id f (with_added n id q e.tag es) ∙ length-with_new_child id q e.tag n es within)

-- where another entry than the root is there, so is the gap
pub filled_is : (behind : Option ℕ) (ps : List Plan) (vs : List Values) → length ps ≡ length vs → 1 < length ps → filled_entries behind ps vs ≡ unit_entries behind ps vs
filled_is None ps vs m l = refl
filled_is (Some first) [] vs m l = absurd (omega (arith, l))
filled_is (Some first) (p ∷ []) vs m l = absurd (omega (arith, l))
filled_is (Some first) (p ∷ r ∷ ps) [] m l = absurd (omega (arith, m))
filled_is (Some first) (p ∷ r ∷ ps) (v ∷ []) m l = absurd (omega (arith, m))
filled_is (Some first) (p ∷ r ∷ ps) (v ∷ w ∷ vs) m l = refl

abbrev first_entry : List EntryValue → EntryValue
first_entry [] = blank_entry 0
first_entry (e ∷ es) = e

-- the root alone has none
pub alone_is : (behind : Option ℕ) (n : ℕ) (ps : List Plan) (vs : List Values) (es : List EntryValue) (back : List EntryValue) → length ps ≡ length vs → length ps ≡ 1 → length es ≡ 1 → 1 ≤ n → filled_up n es ≡ filled_entries behind ps vs ++ back → es ≡ unit_entries behind ps vs
alone_is behind n [] vs es back m l o some h = absurd (omega (arith, l))
alone_is behind n (p ∷ r ∷ ps) vs es back m l o some h = absurd (omega (arith, l))
alone_is behind n (p ∷ []) [] es back m l o some h = absurd (omega (arith, m))
alone_is behind n (p ∷ []) (v ∷ w ∷ vs) es back m l o some h = absurd (omega (arith, m))
alone_is behind n (p ∷ []) (v ∷ []) [] back m l o some h = absurd (omega (arith, o))
alone_is behind n (p ∷ []) (v ∷ []) (x ∷ y ∷ es) back m l o some h = absurd (omega (arith, o))
alone_is behind zero (p ∷ []) (v ∷ []) (x ∷ []) back m l o some h = absurd (omega (arith, some))
alone_is None (suc n) (p ∷ []) (v ∷ []) (x ∷ []) back m l o some h = ap (λ (e : EntryValue). e ∷ []) (ap first_entry h)
alone_is (Some first) (suc n) (p ∷ []) (v ∷ []) (x ∷ []) back m l o some h = ap (λ (e : EntryValue). e ∷ []) (ap first_entry h)
