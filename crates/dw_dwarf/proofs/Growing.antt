-- The entries of a unit, as one more is converted.
use Rattle.std.proofs.Common.{◌≡◌, ◌∙◌, sym, ap, ℕ, zero, suc, ◌+◌, ◌-◌, ◌<◌, ◌≤◌, List, [], ◌∷◌, ◌++◌, length, map, filter, Bool, true, false, not, cond, ◌⊎◌, inl, inr, refl, arith, append_assoc}
use Rattle.std.specs.Prelude.{◌==◌, ◌&&◌, if◌then◌else◌, Some, None}
use Rattle.std.proofs.lemmas.Bool.{eq-eqb, ne_eqb}
use Rattle.std.proofs.lemmas.List.{map-append, append-nil}
use Rattle.std.proofs.lemmas.List.Elements.{filter-append}
use Rattle.dw_base.specs.Entries.{ReadEntry}
use Rattle.dw_entries.proofs.Arenas.{length-with_new_child}
use Rattle.dw_entries.proofs.Changed.{length-with_changed}
use Rattle.dw_entries.proofs.Filled.{filled_up-same}
use Rattle.dw_entries.specs.Entries.{EntryValue, blank_entry, compile_unit_tag, filled_from, filled_up, placed_under, with_added, with_changed, with_child, with_new_child}
use Rattle.dw_dwarf.specs.ConvertedEntries.{Values, attribute_of, children_of, built_entry, built_entries}
use Rattle.dw_dwarf.specs.Placed.{unconverted, with_contents, with_converted}
use Rattle.dw_entry_ids.specs.Plans.{Plan, names_sibling}

-- so many entries from an id on that aren't converted yet
abbrev pub unconverted_from : ℕ → ℕ → List EntryValue
unconverted_from k zero = []
unconverted_from k (suc n) = unconverted k ∷ unconverted_from (suc k) n

-- each entry has the number of its place
abbrev pub AreNumbered : ℕ → List Plan → Type 0
AreNumbered k [] = Unit {0}
AreNumbered k (p ∷ ps) = (p.number ≡ k) × AreNumbered (suc k) ps

-- each stands under the root, or under one with a lower number
abbrev pub AreBelow : ℕ → List Plan → Type 0
AreBelow k [] = Unit {0}
AreBelow k (p ∷ ps) = ((p.parent ≡ 0) ⊎ (p.parent < k)) × AreBelow k ps

pub numbered_more : (k : ℕ) (ps : List Plan) (p : Plan) → AreNumbered k ps → p.number ≡ length ps + k → AreNumbered k (ps ++ p ∷ [])
numbered_more k [] p h e = (omega (arith, e), tt)
numbered_more k (x ∷ ps) p h e = (h.0, numbered_more (suc k) ps p h.1 (omega (arith, e)))

pub below_more : (k : ℕ) (ps : List Plan) (p : Plan) → AreBelow k ps → (p.parent ≡ 0) ⊎ (p.parent < k) → AreBelow (k + 1) (ps ++ p ∷ [])
below_more k [] p h (inl e) = (inl e, tt)
below_more k [] p h (inr l) = (inr (omega (arith, l)), tt)
below_more k (x ∷ ps) p h e = (go h.0, below_more k ps p h.1 e)
  where
    go : (x.parent ≡ 0) ⊎ (x.parent < k) → (x.parent ≡ 0) ⊎ (x.parent < k + 1)
    go (inl z) = inl z
    go (inr l) = inr (omega (arith, l))

-- ---- changes of lists of entries
pub changed_front : (i : ℕ) (f : EntryValue → EntryValue) (xs ys : List EntryValue) → i < length xs → with_changed i f (xs ++ ys) ≡ with_changed i f xs ++ ys
changed_front i f [] ys l = absurd (omega (arith, l))
changed_front zero f (x ∷ xs) ys l = refl
changed_front (suc i) f (x ∷ xs) ys l = ap (λ (t : List EntryValue). x ∷ t) (changed_front i f xs ys (omega (arith, l)))

pub changed_here : (i : ℕ) (f : EntryValue → EntryValue) (xs : List EntryValue) (y : EntryValue) (ys : List EntryValue) → i ≡ length xs → with_changed i f (xs ++ y ∷ ys) ≡ xs ++ f y ∷ ys
changed_here zero f [] y ys l = refl
changed_here (suc i) f [] y ys l = absurd (omega (arith, l))
changed_here zero f (x ∷ xs) y ys l = absurd (omega (arith, l))
changed_here (suc i) f (x ∷ xs) y ys l = ap (λ (t : List EntryValue). x ∷ t) (changed_here i f xs y ys (omega (arith, l)))

pub filled_changed : (k n i : ℕ) (f : EntryValue → EntryValue) (es : List EntryValue) → i < length es → filled_from k n (with_changed i f es) ≡ with_changed i f (filled_from k n es)
filled_changed k n i f [] l = absurd (omega (arith, l))
filled_changed k zero i f (e ∷ es) l = refl
filled_changed k (suc n) zero f (e ∷ es) l = refl
filled_changed k (suc n) (suc i) f (e ∷ es) l = ap (λ (t : List EntryValue). e ∷ t) (filled_changed (suc k) n i f es (omega (arith, l)))

-- ---- children
pub and_false : (b : Bool) → (b && false) ≡ false
and_false true = refl
and_false false = refl

-- one more plan, of another entry than the root, among those of which the children are asked
pub children_one : (n : ℕ) (all : List Plan) (p : Plan) (b : Bool) → (p.number == 0) ≡ false → (p.parent == n) ≡ b → children_of n (all ++ p ∷ []) ≡ children_of n all ++ cond b (p.number ∷ []) []
children_one n all p b e f =
    let test : Plan → Bool = λ x. not (x.number == 0) && (x.parent == n) in
    let told : test p ≡ b = ap (λ (c : Bool). not c && (p.parent == n)) e ∙ f in
    ap (map (λ (x : Plan). x.number)) (filter-append test all (p ∷ []))
    ∙ map-append (λ (x : Plan). x.number) (filter test all) (filter test (p ∷ []))
    ∙ ap (λ (c : Bool). children_of n all ++ map (λ (x : Plan). x.number) (cond c (p ∷ []) [])) told
    ∙ ap (λ (xs : List ℕ). children_of n all ++ xs) (go b)
  where
    go : (c : Bool) → map (λ (x : Plan). x.number) (cond c (p ∷ []) []) ≡ cond c (p.number ∷ []) []
    go true = refl
    go false = refl

pub entry_child : (all : List Plan) (p x : Plan) (v : Values) → (p.number == 0) ≡ false → (p.parent == x.number) ≡ true → built_entry (all ++ p ∷ []) x v ≡ with_child p.number (built_entry all x v)
entry_child all p x v e f = ap (λ (cs : List ℕ). record (built_entry all x v) { children = cs }) (children_one x.number all p true e f)

pub entry_same : (all : List Plan) (p x : Plan) (v : Values) → (p.number == 0) ≡ false → (p.parent == x.number) ≡ false → built_entry (all ++ p ∷ []) x v ≡ built_entry all x v
entry_same all p x v e f = ap (λ (cs : List ℕ). record (built_entry all x v) { children = cs }) (children_one x.number all p false e f ∙ append-nil (children_of x.number all))

pub others_same : (j : ℕ) (all : List Plan) (p : Plan) (ps : List Plan) (vs : List Values) → (p.number == 0) ≡ false → AreNumbered j ps → p.parent < j → built_entries (all ++ p ∷ []) ps vs ≡ built_entries all ps vs
others_same j all p [] vs e h l = refl
others_same j all p (x ∷ ps) [] e h l = refl
others_same j all p (x ∷ ps) (v ∷ vs) e h l =
    let other : (p.parent == x.number) ≡ false = ne_eqb p.parent x.number (λ (same : p.parent ≡ x.number). omega (arith, same, h.0, l)) in
    ap (λ (y : EntryValue). y ∷ built_entries (all ++ p ∷ []) ps vs) (entry_same all p x v e other)
    ∙ ap (λ (ys : List EntryValue). built_entry all x v ∷ ys) (others_same (suc j) all p ps vs e h.1 (omega (arith, l)))

pub child_added : (j k : ℕ) (all : List Plan) (p : Plan) (ps : List Plan) (vs : List Values) → (p.number == 0) ≡ false → AreNumbered j ps → p.parent ≡ j + k → k < length ps → length ps ≡ length vs → built_entries (all ++ p ∷ []) ps vs ≡ with_changed k (with_child p.number) (built_entries all ps vs)
child_added j k all p [] vs e h f l m = absurd (omega (arith, l))
child_added j k all p (x ∷ ps) [] e h f l m = absurd (omega (arith, m))
child_added j zero all p (x ∷ ps) (v ∷ vs) e h f l m =
    let same : (p.parent == x.number) ≡ true = eq-eqb p.parent x.number (omega (arith, f, h.0)) in
    ap (λ (y : EntryValue). y ∷ built_entries (all ++ p ∷ []) ps vs) (entry_child all p x v e same)
    ∙ ap (λ (ys : List EntryValue). with_child p.number (built_entry all x v) ∷ ys) (others_same (suc j) all p ps vs e h.1 (omega (arith, f)))
child_added j (suc k) all p (x ∷ ps) (v ∷ vs) e h f l m =
    let other : (p.parent == x.number) ≡ false = ne_eqb p.parent x.number (λ (same : p.parent ≡ x.number). omega (arith, same, h.0, f)) in
    ap (λ (y : EntryValue). y ∷ built_entries (all ++ p ∷ []) ps vs) (entry_same all p x v e other)
    ∙ ap (λ (ys : List EntryValue). built_entry all x v ∷ ys) (child_added (suc j) k all p ps vs e h.1 (omega (arith, f)) (omega (arith, l)) (omega (arith, m)))

pub no_children : (k : ℕ) (ps : List Plan) → AreBelow k ps → 0 < k → children_of k ps ≡ []
no_children k [] h l = refl
no_children k (x ∷ ps) h l =
    let other : (x.parent == k) ≡ false = ne_eqb x.parent k (λ (same : x.parent ≡ k). go h.0 same) in
    let told : (not (x.number == 0) && (x.parent == k)) ≡ false = ap (λ (b : Bool). not (x.number == 0) && b) other ∙ and_false (not (x.number == 0)) in
    let rest : List Plan = filter (λ (p : Plan). not (p.number == 0) && (p.parent == k)) ps in
    ap (λ (b : Bool). map (λ (p : Plan). p.number) (cond b (x ∷ rest) rest)) told ∙ no_children k ps h.1 l
  where
    go : (x.parent ≡ 0) ⊎ (x.parent < k) → x.parent ≡ k → ⊥
    go (inl z) same = omega (arith, z, same, l)
    go (inr m) same = omega (arith, m, same)

-- ---- one entry more
pub built_more : (all ps : List Plan) (vs : List Values) (p : Plan) (v : Values) → length ps ≡ length vs → built_entries all (ps ++ p ∷ []) (vs ++ v ∷ []) ≡ built_entries all ps vs ++ built_entry all p v ∷ []
built_more all [] [] p v m = refl
built_more all [] (w ∷ vs) p v m = absurd (omega (arith, m))
built_more all (x ∷ ps) [] p v m = absurd (omega (arith, m))
built_more all (x ∷ ps) (w ∷ vs) p v m = ap (λ (ys : List EntryValue). built_entry all x w ∷ ys) (built_more all ps vs p v (omega (arith, m)))

pub length-built : (all ps : List Plan) (vs : List Values) → length ps ≡ length vs → length (built_entries all ps vs) ≡ length ps
length-built all [] [] m = refl
length-built all [] (w ∷ vs) m = absurd (omega (arith, m))
length-built all (x ∷ ps) [] m = absurd (omega (arith, m))
length-built all (x ∷ ps) (w ∷ vs) m = ap suc (length-built all ps vs (omega (arith, m)))

-- what is added under its parent, with its contents, is the entry of its plan
pub new_entry : (k q : ℕ) (e : ReadEntry) (all : List Plan) (v : Values) → (k == 0) ≡ false → children_of k all ≡ [] → with_contents (not (k == 0) && names_sibling e) (map attribute_of v) (placed_under q e.tag (blank_entry k)) ≡ built_entry all (record { number = k; parent = q; entry = e }) v
new_entry k q e all v some none =
    let as_root : Bool → List ℕ → EntryValue = λ b cs. record { id = k; parent = if b then None else Some q; tag = if b then compile_unit_tag else e.tag; sibling = not (k == 0) && names_sibling e; attributes = map attribute_of v; children = cs } in
    ap (λ (b : Bool). as_root b []) (sym some) ∙ ap (λ (cs : List ℕ). as_root (k == 0) cs) (sym none)

module _ (n q : ℕ) (e : ReadEntry) (values : Values) (es : List EntryValue) where
  -- the root is converted where it stands
  root_grown : (ps : List Plan) (vs : List Values) → 0 ≡ length ps → length ps ≡ length vs → 0 < n → 0 < length es
      → filled_up n es ≡ built_entries ps ps vs ++ unconverted_from 0 (n - 0)
      → filled_up n (with_converted n (record { number = 0; parent = q; entry = e }) values es) ≡ built_entries (ps ++ record { number = 0; parent = q; entry = e } ∷ []) (ps ++ record { number = 0; parent = q; entry = e } ∷ []) (vs ++ values ∷ []) ++ unconverted_from 1 (n - 1)
  root_grown [] [] z m l some h =
      let f = with_contents (not (0 == 0) && names_sibling e) (map attribute_of values) in
      let more : n - 0 ≡ suc (n - 1) = omega (arith, l) in
      filled_changed 0 n 0 f es some ∙ ap (with_changed 0 f) (h ∙ ap (unconverted_from 0) more)
  root_grown [] (w ∷ vs) z m l some h = absurd (omega (arith, m))
  root_grown (x ∷ ps) vs z m l some h = absurd (omega (arith, z))

  -- another entry is added
  child_grown : (k : ℕ) (ps : List Plan) (vs : List Values) → 0 < k → k ≡ length ps → length ps ≡ length vs → AreNumbered 0 ps → AreBelow k ps → q < k → k < n → length es ≤ n
      → filled_up n es ≡ built_entries ps ps vs ++ unconverted_from k (n - k)
      → filled_up n (with_changed k (with_contents (not (k == 0) && names_sibling e) (map attribute_of values)) (with_added n k q e.tag es)) ≡ built_entries (ps ++ record { number = k; parent = q; entry = e } ∷ []) (ps ++ record { number = k; parent = q; entry = e } ∷ []) (vs ++ values ∷ []) ++ unconverted_from (k + 1) (n - (k + 1))
  child_grown k ps vs some z m numbered below under l within h =
      let p : Plan = record { number = k; parent = q; entry = e } in
      let f = with_contents (not (k == 0) && names_sibling e) (map attribute_of values) in
      let not_root : (k == 0) ≡ false = ne_eqb k 0 (λ (r : k ≡ 0). omega (arith, r, some)) in
      let rest : List EntryValue = unconverted_from (suc k) (n - (k + 1)) in
      let before : List EntryValue = built_entries ps ps vs in
      let after : List EntryValue = built_entries (ps ++ p ∷ []) ps vs in
      let more : n - k ≡ suc (n - (k + 1)) = omega (arith, l) in
      let first : unconverted k ≡ blank_entry k = blank_there k some in
      let whole : n ≡ length (with_changed k f (with_added n k q e.tag es)) = sym (length-with_changed k f (with_added n k q e.tag es) ∙ length-with_new_child k q e.tag n es within) in
      let lengths : length before ≡ length ps = length-built ps ps vs m in
      let later : length after ≡ length ps = length-built (ps ++ p ∷ []) ps vs m in
      let childless : children_of k (ps ++ p ∷ []) ≡ [] = children_one k ps p false not_root (ne_eqb q k (λ (r : q ≡ k). omega (arith, r, under))) ∙ append-nil (children_of k ps) ∙ no_children k ps below some in
      let next : suc k ≡ k + 1 = omega arith in
      filled_up-same n (with_changed k f (with_added n k q e.tag es)) whole
      ∙ ap (λ (xs : List EntryValue). with_changed k f (with_new_child k q e.tag xs)) (h ∙ ap (λ (j : ℕ). before ++ unconverted_from k j) more ∙ ap (λ (x : EntryValue). before ++ x ∷ rest) first)
      ∙ ap (λ (xs : List EntryValue). with_changed k f (with_changed k (placed_under q e.tag) xs)) (changed_front q (with_child k) before (blank_entry k ∷ rest) (omega (arith, under, z, lengths)) ∙ ap (λ (xs : List EntryValue). xs ++ blank_entry k ∷ rest) (sym (child_added 0 q ps p ps vs not_root numbered (omega arith) (omega (arith, under, z)) m)))
      ∙ ap (with_changed k f) (changed_here k (placed_under q e.tag) after (blank_entry k) rest (omega (arith, z, later)))
      ∙ changed_here k f after (placed_under q e.tag (blank_entry k)) rest (omega (arith, z, later))
      ∙ ap (λ (x : EntryValue). after ++ x ∷ rest) (new_entry k q e (ps ++ p ∷ []) values not_root childless)
      ∙ sym (append_assoc after (built_entry (ps ++ p ∷ []) p values ∷ []) rest)
      ∙ ap (λ (xs : List EntryValue). xs ++ rest) (sym (built_more (ps ++ p ∷ []) ps vs p values m))
      ∙ ap (λ (j : ℕ). built_entries (ps ++ p ∷ []) (ps ++ p ∷ []) (vs ++ values ∷ []) ++ unconverted_from j (n - (k + 1))) next
    where
      blank_there : (i : ℕ) → 0 < i → unconverted i ≡ blank_entry i
      blank_there zero l = absurd (omega (arith, l))
      blank_there (suc i) l = refl

  pub grown : (k : ℕ) (ps : List Plan) (vs : List Values) → k ≡ length ps → length ps ≡ length vs → AreNumbered 0 ps → AreBelow k ps → (q ≡ 0) ⊎ (q < k) → k < n → 0 < length es → length es ≤ n
      → filled_up n es ≡ built_entries ps ps vs ++ unconverted_from k (n - k)
      → filled_up n (with_converted n (record { number = k; parent = q; entry = e }) values es) ≡ built_entries (ps ++ record { number = k; parent = q; entry = e } ∷ []) (ps ++ record { number = k; parent = q; entry = e } ∷ []) (vs ++ values ∷ []) ++ unconverted_from (k + 1) (n - (k + 1))
  grown zero ps vs z m numbered below under l some within h = root_grown ps vs z m l some h
  grown (suc k) ps vs z m numbered below under l some within h = child_grown (suc k) ps vs (omega arith) z m numbered below (go under) l within h
    where
      go : (q ≡ 0) ⊎ (q < suc k) → q < suc k
      go (inl a) = omega (arith, a)
      go (inr a) = a

  -- the root alone stays alone, and any other brings all up to what is reserved
  pub grown_count : (k : ℕ) → length es ≤ n → (k < 2 × (length es ≡ 1)) ⊎ (length es ≡ n) → (k + 1 < 2 × (length (with_converted n (record { number = k; parent = q; entry = e }) values es) ≡ 1)) ⊎ (length (with_converted n (record { number = k; parent = q; entry = e }) values es) ≡ n)
  grown_count zero within (inl h) = inl (omega arith, length-with_changed 0 (with_contents (not (0 == 0) && names_sibling e) (map attribute_of values)) es ∙ h.1)
  grown_count zero within (inr h) = inr (length-with_changed 0 (with_contents (not (0 == 0) && names_sibling e) (map attribute_of values)) es ∙ h)
  grown_count (suc k) within h = inr (length-with_changed (suc k) (with_contents (not (suc k == 0) && names_sibling e) (map attribute_of values)) (with_added n (suc k) q e.tag es) ∙ length-with_new_child (suc k) q e.tag n es within)
