-- What a unit that is read tells of the entries that were built.
use Rattle.std.proofs.Common.{◌≡◌, ◌∙◌, sym, ap, subst, arith, ℕ, zero, suc, List, [], ◌∷◌, map, drop, Option, Some, None, Bool, true, false, refl, ⊎_elim}
use Rattle.std.specs.Prelude.{◌==◌, ◌↔◌, not, slice_get, if◌then◌else◌, Contains}
use Rattle.std.specs.Option.{option_map}
use Rattle.std.proofs.lemmas.Bool.{and_parts, or_left, or_right, or_cases, not_from_true, eq-eqb, eqb-true, ne_eqb, false≢true}
use Rattle.std.proofs.lemmas.Option.{none-some, same_Some, slice_get-map}
use Rattle.dw_base.specs.Numbers.{◌>>=◌, when, fits, word_of}
use Rattle.dw_base.specs.Abbreviations.{Shape, Declaration}
use Rattle.dw_base.specs.Forms.{Operand, Number}
use Rattle.dw_base.specs.Entries.{ReadAttribute, ReadEntry, Mark, Open, Null, Row, past_row}
use Rattle.dw_base.specs.Info.{ReadUnit}
use Rattle.dw_base.specs.declared.common.Encoding.{Encoding}
use Rattle.dw_base.specs.declared.ids.UnitEntryId.{UnitEntryId}
use Rattle.dw_base.proofs.NumberLaws.{bind_parts}
use Rattle.dw_writer.specs.Layout.{Layout}
use Rattle.dw_abbrev.specs.Codes.{code_in, declarations}
use Rattle.dw_abbrev.proofs.CodeLaws.{code_in-same}
use Rattle.dw_entries.specs.declared.attribute.Attribute.{Attribute}
use Rattle.dw_entries.specs.declared.value.AttributeValue.TheVariants as values
use Rattle.dw_entries.specs.Attributes.{named}
use Rattle.dw_entries.specs.Arena.{AreLinked}
use Rattle.dw_entries.specs.Entries.{EntryValue, entry_at, has_any, has_sibling}
use Rattle.dw_entries.specs.Targets.{Targets}
use Rattle.dw_entries.specs.Tree.{preorder, has_entry, are_entries_distinct}
use Rattle.dw_entries.specs.Content.{number_in}
use Rattle.dw_entries.specs.Values.{form_of, constant_of, operand_of, reference_form}
use Rattle.dw_entries.proofs.Distinct.{preorder_distinct}
use Rattle.dw_tree.specs.Built.{Numbered, place_read, past_read, places_read, targets_read, Starts, past_unit, IsBuilt, AreBuilt}
use Rattle.dw_tree.specs.Coded.{code_of_entry}
use Rattle.dw_tree.specs.DistinctShapes.{entry_shapes, distinct_shapes}
use Rattle.dw_tree.specs.Places.{found}
use Rattle.dw_tree.specs.Read.{each, read_attribute, read_sibling, with_sibling, read_attributes, read_entry, read_coded}
use Rattle.dw_tree.specs.Shapes.{shape_of_entry, sibling_name}
use Rattle.dw_tree.specs.UnitValue.{UnitValue}
use Rattle.dw_tree.specs.Whole.{tree_shapes}
use Rattle.dw_tree.proofs.DistinctShapes.{has_shape-distinct, has_shape-entry, has_shape-at, distinct_shapes-differ, Contains-shape, code_in-place, numbered-declares, entry_of_shape}

-- An entry is read in a row: the row has the number that the entry has in preorder.
pub record IsReadIn (u : UnitValue) (r : ReadUnit) (i : ℕ) (row : Row) : Type 0 where
  pub number : ℕ
  pub entry_is : slice_get (preorder u.entries) number ≡ Some (Open i)
  pub row_is : slice_get r.rows number ≡ Some row

-- the code that an entry's row begins with
abbrev pub code_of : Row → Option ℕ
code_of row = elim row.mark [ Open x ↦ Some x.code | Null ↦ None ]

-- A declaration at a place of a unit's table is used: an entry has its shape, and is read with its code, which is the place
-- counted from 1.
pub record IsUsed (u : UnitValue) (r : ReadUnit) (place : ℕ) (d : Declaration) : Type 0 where
  pub code : d.code ≡ suc place
  pub entry : ℕ
  pub row : Row
  pub is_read : IsReadIn u r entry row
  pub shape : shape_of_entry u.encoding (entry_at u.entries entry) ≡ d.shape
  pub has_code : code_of row ≡ Some d.code

-- the attribute at a position in a row
abbrev pub attribute_at : Row → ℕ → Option ReadAttribute
attribute_at row a = elim row.mark [ Open x ↦ slice_get x.attributes a | Null ↦ None ]

-- the position at which an entry's a-th attribute is read: one later, where DW_AT_sibling stands first
abbrev pub position_read : EntryValue → ℕ → ℕ
position_read x a = if has_sibling x then suc a else a

-- an attribute with its operand, as it is read
abbrev pub with_operand : Encoding → Attribute → Operand → ReadAttribute
with_operand e x o = record { name = x.name.0; form = form_of e x.value; constant = constant_of e x.value; operand = o }

-- the place past an entry, as it is read
abbrev pub sibling_at : Encoding → ℕ → ReadAttribute
sibling_at e past = record { name = sibling_name; form = reference_form e.format; constant = None; operand = Number past }

-- an entry that has a number is among the marks
has_entry-at : (ms : List (Mark ℕ)) (n i : ℕ) → slice_get ms n ≡ Some (Open i) → has_entry ms i ≡ true
has_entry-at [] n i h = absurd (none-some (Open i) h)
has_entry-at (Open j ∷ ms) zero i h = let same : j ≡ i = cc in or_left (j == i) (has_entry ms i) (eq-eqb j i same)
has_entry-at (Null ∷ ms) zero i h = absurd cc
has_entry-at (Open j ∷ ms) (suc n) i h = or_right (j == i) (has_entry ms i) (has_entry-at ms n i h)
has_entry-at (Null ∷ ms) (suc n) i h = has_entry-at ms n i h

-- an entry that is among the marks has a number
number_of : (ms : List (Mark ℕ)) (i : ℕ) → has_entry ms i ≡ true → (n : ℕ) × (slice_get ms n ≡ Some (Open i))
number_of [] i h = absurd (false≢true h)
number_of (Open j ∷ ms) i h =
    ⊎_elim
    (λ here. (0, ap (λ k. Some (Open k)) (eqb-true j i here)))
    (λ behind. let w = number_of ms i behind in (suc w.0, w.1))
    (or_cases (j == i) (has_entry ms i) h)
number_of (Null ∷ ms) i h = let w = number_of ms i h in (suc w.0, w.1)

-- where no entry stands twice, the first of the marks is no entry that stands behind it
first_other : (ms : List (Mark ℕ)) (j n i : ℕ) → not (has_entry ms j) ≡ true → slice_get ms n ≡ Some (Open i) → (j == i) ≡ false
first_other ms j n i fresh h =
    ne_eqb j i (λ same. false≢true (sym (not_from_true (has_entry ms j) (ap (has_entry ms) same ∙ has_entry-at ms n i h)) ∙ fresh))

-- where no entry stands twice, the place of an entry and the place past it are those that the row of its number tells
found_at : (ms : List (Mark ℕ)) (rows : List Row) (n i : ℕ) (row : Row) → are_entries_distinct ms ≡ true → slice_get ms n ≡ Some (Open i) → slice_get rows n ≡ Some row → (place_read ms rows i ≡ row.from) × (past_read ms rows i ≡ past_row row (drop (suc n) rows))
found_at [] rows n i row d h g = absurd (none-some (Open i) h)
found_at (m ∷ ms) [] n i row d h g = absurd (none-some row g)
found_at (Open j ∷ ms) (x ∷ rows) zero i row d h g =
    let same : j ≡ i = cc in
    let test = eq-eqb j i same in
    let here = same_Some x row g in (
      ap (λ (b : Bool). if b then x.from else place_read ms rows i) test ∙ ap (λ y. y.from) here,
      ap (λ (b : Bool). if b then past_row x rows else past_read ms rows i) test ∙ ap (λ y. past_row y rows) here,
    )
found_at (Null ∷ ms) (x ∷ rows) zero i row d h g = absurd cc
found_at (Open j ∷ ms) (x ∷ rows) (suc n) i row d h g =
    let parts = and_parts (not (has_entry ms j)) (are_entries_distinct ms) d in
    let test = first_other ms j n i parts.0 h in
    let behind = found_at ms rows n i row parts.1 h g in (
      ap (λ (b : Bool). if b then x.from else place_read ms rows i) test ∙ behind.0,
      ap (λ (b : Bool). if b then past_row x rows else past_read ms rows i) test ∙ behind.1,
    )
found_at (Null ∷ ms) (x ∷ rows) (suc n) i row d h g = found_at ms rows n i row d h g

-- each entry's shape is among the tree's shapes
Contains-entry : (e : Encoding) (es : List EntryValue) (i : ℕ) → has_entry (preorder es) i ≡ true → Contains (tree_shapes e es) (shape_of_entry e (entry_at es i))
Contains-entry e es i h =
    let s = shape_of_entry e (entry_at es i) in Contains-shape (tree_shapes e es) s (has_shape-distinct (entry_shapes e es (preorder es)) s ∙ has_shape-entry e es (preorder es) i h)

-- what each element comes to has the element's position
each-at : {A B : Type 0} (f : A → Option B) (xs : List A) (ys : List B) (n : ℕ) (x : A) → each f xs ≡ Some ys → slice_get xs n ≡ Some x → (y : B) × (f x ≡ Some y) × (slice_get ys n ≡ Some y)
each-at f [] ys n x h at = absurd (none-some x at)
each-at f (z ∷ xs) ys zero x h at =
    let first = bind_parts (f z) _ ys h in
    let rest = bind_parts (each f xs) _ ys first.2 in
    (first.0, ap f (sym (same_Some z x at)) ∙ first.1, ap (λ l. slice_get l 0) (sym (same_Some (first.0 ∷ rest.0) ys rest.2)))
each-at f (z ∷ xs) ys (suc n) x h at =
    let first = bind_parts (f z) _ ys h in
    let rest = bind_parts (each f xs) _ ys first.2 in
    let behind = each-at f xs rest.0 n x rest.1 at in
    (behind.0, behind.1, ap (λ l. slice_get l (suc n)) (sym (same_Some (first.0 ∷ rest.0) ys rest.2)) ∙ behind.2)

-- behind the place of a sibling, an entry's attributes stand in their order
behind_sibling : (e : Encoding) (past : ℕ) (x : EntryValue) (xs ys : List ReadAttribute) (a : ℕ) → with_sibling e past x xs ≡ Some ys → slice_get ys (position_read x a) ≡ slice_get xs a
behind_sibling e past x xs ys a h = by_test (has_sibling x) h
  where
    by_test : (b : Bool) → (if b then (read_sibling e past >>= λ s. Some (s ∷ xs)) else Some xs) ≡ Some ys → slice_get ys (if b then suc a else a) ≡ slice_get xs a
    by_test true h = let s = bind_parts (read_sibling e past) _ ys h in ap (λ l. slice_get l (suc a)) (sym (same_Some (s.0 ∷ xs) ys s.2))
    by_test false h = ap (λ l. slice_get l a) (sym (same_Some xs ys h))

-- a number that fits is read as it is
number_is : (w n : ℕ) (o : Operand) → number_in w n ≡ Some o → o ≡ Number n
number_is w n o h = by_test (fits w n) h
  where
    by_test : (b : Bool) → when b (Some (Number n)) ≡ Some o → o ≡ Number n
    by_test true h = sym (same_Some (Number n) o h)
    by_test false h = absurd (none-some o h)

-- a place that is there is read as it is
place_is : (w : ℕ) (place : ℕ → ℕ) (i : ℕ) (o : Operand) → (found place i >>= number_in w) ≡ Some o → o ≡ Number (place i)
place_is w place i o h = by_test (place i == 0) h
  where
    by_test : (b : Bool) → ((if b then None else Some (place i)) >>= number_in w) ≡ Some o → o ≡ Number (place i)
    by_test true h = absurd (none-some o h)
    by_test false h = number_is w (place i) o h

-- the place past an entry is read first, where the entry names it
sibling_first : (e : Encoding) (past : ℕ) (x : EntryValue) (xs ys : List ReadAttribute) → has_sibling x ≡ true → with_sibling e past x xs ≡ Some ys → slice_get ys 0 ≡ Some (sibling_at e past)
sibling_first e past x xs ys names h =
    let there : (if true then (read_sibling e past >>= λ s. Some (s ∷ xs)) else Some xs) ≡ Some ys =
    ap (λ (b : Bool). if b then (read_sibling e past >>= λ s. Some (s ∷ xs)) else Some xs) (sym names) ∙ h in
    let s = bind_parts (read_sibling e past) _ ys there in
    let o = bind_parts (number_in (word_of e.format) past) _ s.0 s.1 in
    let made : Operand → ReadAttribute = λ n. record { name = sibling_name; form = reference_form e.format; constant = None; operand = n } in
    ap (λ l. slice_get l 0) (sym (same_Some (s.0 ∷ xs) ys s.2)) ∙ ap Some (sym (same_Some (made o.0) s.0 o.2)) ∙ ap (λ n. Some (made n)) (number_is (word_of e.format) past o.0 o.1)

module _ (big : Bool) (l : Layout) (us : List Numbered) (rs : List ReadUnit) (one : Numbered) (r : ReadUnit) (built : IsBuilt big l us rs one r) where
  abbrev pub u : UnitValue
  u = one.unit

  -- what the unit's operands lead to
  abbrev targets : Targets
  targets = targets_read us rs l one r

  abbrev shape : ℕ → Shape
  shape i = shape_of_entry u.encoding (entry_at u.entries i)

  -- What is read of an entry with the code of its shape: its attributes, in its order.
  record IsEntryRead (i : ℕ) (m : Mark ReadEntry) : Type 0 where
    entry : ReadEntry
    mark_is : m ≡ Open entry
    code_is : entry.code ≡ code_in (tree_shapes u.encoding u.entries) (shape i)
    own : List ReadAttribute
    own_are : each (read_attribute big u.encoding targets) (entry_at u.entries i).attributes ≡ Some own
    attributes_are : with_sibling u.encoding (targets.past i) (entry_at u.entries i) own ≡ Some entry.attributes

  entry_is_read : (i : ℕ) (m : Mark ReadEntry) → read_coded big u.encoding targets u.entries (tree_shapes u.encoding u.entries) (Open i) ≡ Some m → IsEntryRead i m
  entry_is_read i m h =
      let e = u.encoding in
      let x = entry_at u.entries i in
      let code = code_of_entry e u.entries (tree_shapes e u.entries) i in
      let entry = bind_parts (read_entry big e targets code i x) _ m h in
      let attributes = bind_parts (read_attributes big e targets i x) _ entry.0 entry.1 in
      let own = bind_parts (each (read_attribute big e targets) x.attributes) _ attributes.0 attributes.1 in
      let made : ReadEntry = record { code = code; tag = x.tag; has_children = has_any x.children; attributes = attributes.0 } in
      record {
        entry = made;
        mark_is = sym (same_Some (Open entry.0) m entry.2) ∙ ap (λ y. Open y) (sym (same_Some made entry.0 attributes.2));
        code_is = refl;
        own = own.0;
        own_are = own.1;
        attributes_are = own.2;
      }

  -- the row of a number holds the mark of that number
  numbered : (n i : ℕ) → slice_get (preorder u.entries) n ≡ Some (Open i) → (m : Mark ReadEntry) × IsEntryRead i m × (option_map (λ (row : Row). row.mark) (slice_get r.rows n) ≡ Some m)
  numbered n i h =
      let e = u.encoding in
      let w = each-at (read_coded big e targets u.entries (tree_shapes e u.entries)) (preorder u.entries) (map (λ row. row.mark) r.rows) n (Open i) built.entries h in
      (w.0, entry_is_read i w.0 w.1, sym (slice_get-map (λ row. row.mark) r.rows n) ∙ w.2)

  -- Each entry of the tree is read in a row.
  pub entry_read : (i : ℕ) → has_entry (preorder u.entries) i ≡ true → (row : Row) × IsReadIn u r i row
  entry_read i h =
      let n = number_of (preorder u.entries) i h in
      let m = numbered n.0 i n.1 in
      row_at n.0 n.1 m.0 (slice_get r.rows n.0) refl m.2
    where
      row_at : (n : ℕ) → slice_get (preorder u.entries) n ≡ Some (Open i) → (m : Mark ReadEntry) (o : Option Row) → slice_get r.rows n ≡ o → option_map (λ (row : Row). row.mark) o ≡ Some m → (row : Row) × IsReadIn u r i row
      row_at n is m None g e = absurd (none-some _ e)
      row_at n is m (Some row) g e = (row, record { number = n; entry_is = is; row_is = g })

  -- a row tells its entry
  mark_read : (i : ℕ) (row : Row) → IsReadIn u r i row → IsEntryRead i row.mark
  mark_read i row at =
      let m = numbered at.number i at.entry_is in
      subst (IsEntryRead i) (sym (same_Some row.mark m.0 (sym (ap (option_map (λ (x : Row). x.mark)) at.row_is) ∙ m.2))) m.1

  -- Each attribute of an entry is read in the entry's row, in the order of the entry, with what its value leads to.
  pub attribute_read : (i a : ℕ) (x : Attribute) (row : Row) → slice_get (entry_at u.entries i).attributes a ≡ Some x → IsReadIn u r i row →
      (o : Operand) × (operand_of big u.encoding (targets_read us rs l one r) x.value ≡ Some o) × (attribute_at row (position_read (entry_at u.entries i) a) ≡ Some (with_operand u.encoding x o))
  attribute_read i a x row is at =
      let e = u.encoding in
      let given = entry_at u.entries i in
      let m = mark_read i row at in
      let y = each-at (read_attribute big e targets) given.attributes m.own a x m.own_are is in
      let o = bind_parts (operand_of big e targets x.value) _ y.0 y.1 in (
        o.0,
        o.1,
        ap (λ k. attribute_at (record row { mark = k }) (position_read given a)) m.mark_is
            ∙ behind_sibling e (targets.past i) given m.own m.entry.attributes a m.attributes_are
            ∙ y.2
            ∙ ap Some (sym (same_Some (with_operand e x o.0) y.0 o.2)),
      )

  -- A reference to an entry of the unit, in DW_FORM_ref4 or DW_FORM_ref8, is read as the place where that entry's row begins.
  pub reference_read : AreLinked u.entries → (i a n : ℕ) (j : UnitEntryId) (row target : Row) → slice_get (entry_at u.entries i).attributes a ≡ Some (named n (values.UnitRef j)) → IsReadIn u r i row → IsReadIn u r j.0 target →
      attribute_at row (position_read (entry_at u.entries i) a) ≡ Some (record { name = n; form = reference_form u.encoding.format; constant = None; operand = Number target.from })
  reference_read links i a n j row target is at to =
      let e = u.encoding in
      let read = attribute_read i a (named n (values.UnitRef j)) row is at in
      let place = (places_read u r).place in
      read.2
      ∙ ap (λ o. Some (record { name = n; form = reference_form e.format; constant = None; operand = o })) (place_is (word_of e.format) place j.0 read.0 read.1)
      ∙ ap (λ p. Some (record { name = n; form = reference_form e.format; constant = None; operand = Number p })) (found_at (preorder u.entries) r.rows to.number j.0 target (preorder_distinct u.entries links) to.entry_is to.row_is).0

  -- An entry that names its sibling has DW_AT_sibling first. That is read as the place past the entry: behind the zero that
  -- closes its children, as its row and the rows behind it tell.
  pub sibling_read : AreLinked u.entries → (i : ℕ) (row : Row) (at : IsReadIn u r i row) → has_sibling (entry_at u.entries i) ≡ true →
      attribute_at row 0 ≡ Some (sibling_at u.encoding (past_row row (drop (suc at.number) r.rows)))
  sibling_read links i row at names =
      let e = u.encoding in
      let m = mark_read i row at in
      ap (λ k. attribute_at (record row { mark = k }) 0) m.mark_is
      ∙ sibling_first e (targets.past i) (entry_at u.entries i) m.own m.entry.attributes names m.attributes_are
      ∙ ap (λ past. Some (sibling_at e past)) (found_at (preorder u.entries) r.rows at.number i row (preorder_distinct u.entries links) at.entry_is at.row_is).1

  -- an entry is read with the code of its shape
  code_of_read : (i : ℕ) (row : Row) → IsReadIn u r i row → code_of row ≡ Some (code_in (tree_shapes u.encoding u.entries) (shape i))
  code_of_read i row at = let m = mark_read i row at in ap (λ k. code_of (record row { mark = k })) m.mark_is ∙ ap Some m.code_is

  -- Two entries are read with the same code exactly where their shapes are equal.
  pub codes_read : (i j : ℕ) (a b : Row) → IsReadIn u r i a → IsReadIn u r j b →
      (code_of a ≡ code_of b) ↔ (shape_of_entry u.encoding (entry_at u.entries i) ≡ shape_of_entry u.encoding (entry_at u.entries j))
  codes_read i j a b is_a is_b =
      let shapes = tree_shapes u.encoding u.entries in
      let s = shape i in
      let t = shape j in
      let same = code_in-same shapes s t (Contains-entry u.encoding u.entries i (has_entry-at (preorder u.entries) is_a.number i is_a.entry_is)) in (
        λ e. same.0 (same_Some (code_in shapes s) (code_in shapes t) (sym (code_of_read i a is_a) ∙ e ∙ code_of_read j b is_b)),
        λ e. code_of_read i a is_a ∙ ap (λ x. Some (code_in shapes x)) e ∙ sym (code_of_read j b is_b),
      )

  -- The table declares the different shapes of the entries, in the order in which each first comes, with the codes 1, 2, 3 ..
  pub declarations_read : r.table ≡ declarations (distinct_shapes (entry_shapes u.encoding u.entries (preorder u.entries)))
  declarations_read = built.declarations

  -- Each declaration of the table is used, and its code is its place counted from 1.
  pub declarations_used : (place : ℕ) (d : Declaration) → slice_get r.table place ≡ Some d → IsUsed u r place d
  declarations_used place d h =
      let e = u.encoding in
      let every = entry_shapes e u.entries (preorder u.entries) in
      let shapes = tree_shapes e u.entries in
      let declared = numbered-declares 1 shapes place d (sym (ap (λ ds. slice_get ds place) built.declarations) ∙ h) in
      let there = sym (has_shape-distinct every d.shape) ∙ has_shape-at shapes place d.shape declared.1 in
      let user = entry_of_shape e u.entries (preorder u.entries) d.shape there in
      let read = entry_read user.0 user.1 in
      let code : d.code ≡ suc place = omega (arith, declared.0) in
      record {
        code = code;
        entry = user.0;
        row = read.0;
        is_read = read.1;
        shape = user.2;
        has_code = code_of_read user.0 read.0 read.1 ∙ ap (λ s. Some (code_in shapes s)) user.2 ∙ ap Some (code_in-place shapes place d.shape (distinct_shapes-differ every) declared.1 ∙ sym code);
      }

-- Of units that are built, each is read under its own number, among those of its file.
pub unit_read : (big : Bool) (l : Layout) (all : List Numbered) (read : List ReadUnit) (at : Starts) (us : List Numbered) (rs : List ReadUnit) (i : ℕ) (u : Numbered) → AreBuilt big l all read at us rs → slice_get us i ≡ Some u →
    (r : ReadUnit) × (slice_get rs i ≡ Some r) × IsBuilt big l all read u r
unit_read big l all read at [] rs i u built is = absurd (none-some u is)
unit_read big l all read at (v ∷ us) [] i u built is = absurd built
unit_read big l all read at (v ∷ us) (r ∷ rs) zero u built is = (r, refl, subst (λ (x : Numbered). IsBuilt big l all read x r) (same_Some v u is) built.0)
unit_read big l all read at (v ∷ us) (r ∷ rs) (suc i) u built is = unit_read big l all read (past_unit at v.unit r) us rs i u built.2 is
