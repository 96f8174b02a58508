-- What is read of a tree has a spelling, and as many bytes as its size says.
use Rattle.std.specs.Prelude.{◌≡◌, ℕ, ◌+◌, ◌<◌, ◌^◌, Bool, true, false, List, [], ◌∷◌, ◌++◌, map, length, Some, None, refl, IsTrue, All, if◌then◌else◌}
use Rattle.std.specs.List.{flat_map}
use Rattle.std.proofs.Common.{sym, ◌∙◌, ap, subst, arith, length-append}
use Rattle.std.proofs.lemmas.List.Elements.{All-nil, All-cons, All-head, All-tail}
use Rattle.std.proofs.lemmas.Option.{same_Some}
use Rattle.dw_base.specs.Numbers.{◌>>=◌, word_of}
use Rattle.dw_base.specs.Leb128.{uleb}
use Rattle.dw_base.specs.Abbreviations.{Specification, Shape, shape_of_code}
use Rattle.dw_base.specs.Forms.{Operand}
use Rattle.dw_base.specs.Entries.{ReadAttribute, ReadEntry, Mark, Open, Null, is_one_tree, children_of}
use Rattle.dw_base.specs.Spelling.{attribute_bytes, mark_bytes, body_bytes}
use Rattle.dw_base.specs.Spellable.{IsAttribute, specification_of, shape_of, IsMark}
use Rattle.dw_base.specs.declared.common.Encoding.{Encoding}
use Rattle.dw_base.proofs.NumberLaws.{bind_parts}
use Rattle.dw_writer.specs.Drafts.{no_draft, whole, then_draft}
use Rattle.dw_abbrev.specs.Codes.{with_shape, declarations, code_in}
use Rattle.dw_abbrev.proofs.CodeLaws.{code_in-positive}
use Rattle.dw_entries.specs.declared.attribute.Attribute.{Attribute}
use Rattle.dw_entries.specs.Entries.{EntryValue, entry_at, has_any, has_sibling}
use Rattle.dw_entries.specs.Targets.{Targets, UnitTargets}
use Rattle.dw_entries.specs.Tree.{preorder, children_in}
use Rattle.dw_entries.specs.Content.{number_in}
use Rattle.dw_entries.specs.Values.{form_of, constant_of, operand_of, operand_size, reference_form, IsRanged}
use Rattle.dw_entries.proofs.ContentLaws.{number_in-fits, number_in-long}
use Rattle.dw_entries.proofs.ValueTexts.{operand_fits, operand_long, reference-fits, reference-long}
use Rattle.dw_entries.specs.Targets.{Tables}
use Rattle.dw_tree.specs.Coded.{code_at, code_of_entry, shapes_of}
use Rattle.dw_tree.specs.Laid.{sibling_size, values_size, entry_size, size_of, sizes_of}
use Rattle.dw_tree.specs.Pending.{AreRanged, IsMarkRanged, AreMarksRanged}
use Rattle.dw_tree.specs.Places.{Placement, targets_of}
use Rattle.dw_tree.specs.Read.{each, read_attribute, read_sibling, with_sibling, read_attributes, read_entry, read_coded, read_marks, read_tree}
use Rattle.dw_tree.specs.Shapes.{sibling_name, specification, sibling_specification, before_attributes, shape_of_entry}
use Rattle.dw_tree.specs.UnitText.{fitting_text, attributes_draft, sibling_draft, mark_draft, marks_draft, tree_draft}
use Rattle.dw_tree.specs.Whole.{tree_shapes, tree_declared, tree_size}
use Rattle.dw_tree.proofs.DistinctShapes.{tree_shapes-found}
use Rattle.dw_tree.proofs.Shared.{code_in-shapes, code_in-added, shapes-declared, with_shape-room}

-- What is read of attributes and entries

module _ (big : Bool) (e : Encoding) (t : Targets) where
  attribute_of : (a : Attribute) (r : ReadAttribute) → read_attribute big e t a ≡ Some r → (o : Operand) × (operand_of big e t a.value ≡ Some o) × (r ≡ record { name = a.name.0; form = form_of e a.value; constant = constant_of e a.value; operand = o })
  attribute_of a r h = let o = bind_parts (operand_of big e t a.value) _ r h in (o.0, o.1, sym (same_Some _ r o.2))

  sibling_of : (past : ℕ) (r : ReadAttribute) → read_sibling e past ≡ Some r → (o : Operand) × (number_in (word_of e.format) past ≡ Some o) × (r ≡ record { name = sibling_name; form = reference_form e.format; constant = None; operand = o })
  sibling_of past r h = let o = bind_parts (number_in (word_of e.format) past) _ r h in (o.0, o.1, sym (same_Some _ r o.2))

  -- they have spellings, and are declared
  attributes_fit : (xs : List Attribute) (ys : List ReadAttribute) → AreRanged e xs → each (read_attribute big e t) xs ≡ Some ys → All (IsAttribute e) ys × (map specification_of ys ≡ map (specification e) xs)
  attributes_fit [] ys r h = subst (λ zs. All (IsAttribute e) zs × (map specification_of zs ≡ [])) (same_Some [] ys h) (All-nil (IsAttribute e), refl)
  attributes_fit (a ∷ xs) ys r h =
      let first = bind_parts (read_attribute big e t a) _ ys h in
      let rest = bind_parts (each (read_attribute big e t) xs) _ ys first.2 in
      let R : Attribute → Type 0 = λ y. IsRanged e y.value in
      let more = attributes_fit xs rest.0 (All-tail R a xs r) rest.1 in
      let own = attribute_of a first.0 first.1 in
      let fit : IsAttribute e first.0 = subst (IsAttribute e) (sym own.2) (operand_fits big e t a.value own.0 (All-head R a xs r) own.1) in
      subst (λ zs. All (IsAttribute e) zs × (map specification_of zs ≡ map (specification e) (a ∷ xs))) (same_Some (first.0 ∷ rest.0) ys rest.2)
      (All-cons (IsAttribute e) first.0 rest.0 fit more.0, ap (λ z. specification_of z ∷ map specification_of rest.0) own.2 ∙ ap (λ zs. specification e a ∷ zs) more.1)

  -- also behind the place past an entry
  sibling_fits : (past : ℕ) (x : EntryValue) (ys zs : List ReadAttribute) → All (IsAttribute e) ys → with_sibling e past x ys ≡ Some zs →
      All (IsAttribute e) zs × (map specification_of zs ≡ before_attributes x (sibling_specification e) ++ map specification_of ys)
  sibling_fits past x ys zs fit h = either (has_sibling x) h
    where
      either : (b : Bool) → (if b then (read_sibling e past >>= λ s. Some (s ∷ ys)) else Some ys) ≡ Some zs →
          All (IsAttribute e) zs × (map specification_of zs ≡ (if b then sibling_specification e ∷ [] else []) ++ map specification_of ys)
      either true h =
          let first = bind_parts (read_sibling e past) _ zs h in
          let own = sibling_of past first.0 first.1 in
          let place : IsAttribute e first.0 = subst (IsAttribute e) (sym own.2) (reference-fits e own.0 (number_in-fits (word_of e.format) past own.0 own.1)) in
          subst (λ l. All (IsAttribute e) l × (map specification_of l ≡ sibling_specification e ∷ map specification_of ys)) (same_Some (first.0 ∷ ys) zs first.2)
          (All-cons (IsAttribute e) first.0 ys place fit, ap (λ z. specification_of z ∷ map specification_of ys) own.2)
      either false h = subst (λ l. All (IsAttribute e) l × (map specification_of l ≡ map specification_of ys)) (same_Some ys zs h) (fit, refl)

  entry_of : (code i : ℕ) (x : EntryValue) (r : ReadEntry) → read_entry big e t code i x ≡ Some r →
      (ys : List ReadAttribute) × (read_attributes big e t i x ≡ Some ys) × (r ≡ record { code = code; tag = x.tag; has_children = has_any x.children; attributes = ys })
  entry_of code i x r h = let ys = bind_parts (read_attributes big e t i x) _ r h in (ys.0, ys.1, sym (same_Some _ r ys.2))

  entry_fits : (code i : ℕ) (x : EntryValue) (r : ReadEntry) → AreRanged e x.attributes → read_entry big e t code i x ≡ Some r → All (IsAttribute e) r.attributes × (shape_of r ≡ shape_of_entry e x)
  entry_fits code i x r ranged h =
      let own = entry_of code i x r h in
      let ys = bind_parts (each (read_attribute big e t) x.attributes) _ own.0 own.1 in
      let fit = attributes_fit x.attributes ys.0 ranged ys.1 in
      let all = sibling_fits (t.past i) x ys.0 own.0 fit.0 ys.2 in
      let shape : List Specification → Shape = λ l. record { tag = x.tag; has_children = has_any x.children; attributes = l } in (
        subst (λ k. All (IsAttribute e) k.attributes) (sym own.2) all.0,
        ap shape_of own.2 ∙ ap shape (all.1 ∙ ap (λ l. before_attributes x (sibling_specification e) ++ l) fit.1),
      )

  -- the bytes of attributes
  abbrev bytes_of : List ReadAttribute → List ℕ
  bytes_of ys = flat_map (attribute_bytes big e) ys

  attributes_long : (xs : List Attribute) (ys : List ReadAttribute) → each (read_attribute big e t) xs ≡ Some ys → length (bytes_of ys) ≡ values_size e t.place xs
  attributes_long [] ys h = ap (λ zs. length (bytes_of zs)) (sym (same_Some [] ys h))
  attributes_long (a ∷ xs) ys h =
      let first = bind_parts (read_attribute big e t a) _ ys h in
      let rest = bind_parts (each (read_attribute big e t) xs) _ ys first.2 in
      let own = attribute_of a first.0 first.1 in
      ap (λ zs. length (bytes_of zs)) (sym (same_Some (first.0 ∷ rest.0) ys rest.2))
      ∙ length-append (attribute_bytes big e first.0) (bytes_of rest.0)
      ∙ ap (λ z. length (attribute_bytes big e z) + length (bytes_of rest.0)) own.2
      ∙ ap (λ n. n + length (bytes_of rest.0)) (operand_long big e t a.value own.0 own.1)
      ∙ ap (λ n. operand_size e t.place a.value + n) (attributes_long xs rest.0 rest.1)

  sibling_long : (past : ℕ) (x : EntryValue) (ys zs : List ReadAttribute) → with_sibling e past x ys ≡ Some zs → length (bytes_of zs) ≡ sibling_size e x + length (bytes_of ys)
  sibling_long past x ys zs h = either (has_sibling x) h
    where
      either : (b : Bool) → (if b then (read_sibling e past >>= λ s. Some (s ∷ ys)) else Some ys) ≡ Some zs → length (bytes_of zs) ≡ (if b then word_of e.format else 0) + length (bytes_of ys)
      either true h =
          let first = bind_parts (read_sibling e past) _ zs h in
          let own = sibling_of past first.0 first.1 in
          ap (λ l. length (bytes_of l)) (sym (same_Some (first.0 ∷ ys) zs first.2))
          ∙ length-append (attribute_bytes big e first.0) (bytes_of ys)
          ∙ ap (λ z. length (attribute_bytes big e z) + length (bytes_of ys)) own.2
          ∙ ap (λ n. n + length (bytes_of ys)) (reference-long big e own.0 (number_in-long big (word_of e.format) past own.0 own.1))
      either false h = ap (λ l. length (bytes_of l)) (sym (same_Some ys zs h)) ∙ omega arith

  entry_long : (code i : ℕ) (x : EntryValue) (r : ReadEntry) → read_entry big e t code i x ≡ Some r → length (mark_bytes big e (Open r)) ≡ entry_size e t.place code x
  entry_long code i x r h =
      let own = entry_of code i x r h in
      let ys = bind_parts (each (read_attribute big e t) x.attributes) _ own.0 own.1 in
      ap (λ k. length (mark_bytes big e (Open k))) own.2
      ∙ length-append (uleb code) (bytes_of own.0)
      ∙ ap (λ n. length (uleb code) + n) (sibling_long (t.past i) x ys.0 own.0 ys.2 ∙ ap (λ n. sibling_size e x + n) (attributes_long x.attributes ys.0 ys.1))

-- What is read of marks

module _ (big : Bool) (e : Encoding) (t : Targets) (es : List EntryValue) where
  entry_of_mark : (shapes : List Shape) (i : ℕ) (m : Mark ReadEntry) → read_coded big e t es shapes (Open i) ≡ Some m →
      (r : ReadEntry) × (read_entry big e t (code_of_entry e es shapes i) i (entry_at es i) ≡ Some r) × (m ≡ Open r)
  entry_of_mark shapes i m h =
      let r = bind_parts (read_entry big e t (code_of_entry e es shapes i) i (entry_at es i)) _ m h in (r.0, r.1, sym (same_Some _ m r.2))

  -- it tells of each entry whether it has children, as the tree does
  pub mark_children : (shapes : List Shape) (m : Mark ℕ) (r : Mark ReadEntry) → read_coded big e t es shapes m ≡ Some r → children_of r ≡ children_in es m
  mark_children shapes (Open i) r h =
      let x = entry_of_mark shapes i r h in
      let own = entry_of big e t (code_of_entry e es shapes i) i (entry_at es i) x.0 x.1 in
      ap children_of x.2 ∙ ap (λ k. Open k.has_children) own.2
  mark_children shapes Null r h = ap children_of (sym (same_Some Null r h))

  pub marks_children : (shapes : List Shape) (ms : List (Mark ℕ)) (rs : List (Mark ReadEntry)) → read_marks big e t es shapes ms ≡ Some rs → map children_of rs ≡ map (children_in es) ms
  marks_children shapes [] rs h = ap (map children_of) (sym (same_Some [] rs h))
  marks_children shapes (m ∷ ms) rs h =
      let first = bind_parts (read_coded big e t es shapes m) _ rs h in
      let rest = bind_parts (read_marks big e t es shapes ms) _ rs first.2 in
      ap (map children_of) (sym (same_Some (first.0 ∷ rest.0) rs rest.2))
      ∙ ap (λ c. c ∷ map children_of rest.0) (mark_children shapes m first.0 first.1)
      ∙ ap (λ cs. children_in es m ∷ cs) (marks_children shapes ms rest.0 rest.1)

  -- a mark has as many bytes as its size says
  pub mark_size : (shapes : List Shape) (m : Mark ℕ) (r : Mark ReadEntry) → read_coded big e t es shapes m ≡ Some r →
      length (mark_bytes big e r) ≡ size_of (λ i. entry_size e t.place (code_of_entry e es shapes i) (entry_at es i)) es m
  mark_size shapes (Open i) r h =
      let x = entry_of_mark shapes i r h in
      ap (λ k. length (mark_bytes big e k)) x.2 ∙ entry_long big e t (code_of_entry e es shapes i) i (entry_at es i) x.0 x.1
  mark_size shapes Null r h = ap (λ k. length (mark_bytes big e k)) (sym (same_Some Null r h))

  -- and marks as many as their sizes say
  pub marks_size : (shapes : List Shape) (ms : List (Mark ℕ)) (rs : List (Mark ReadEntry)) → read_marks big e t es shapes ms ≡ Some rs →
      length (body_bytes big e rs) ≡ sizes_of (λ i. entry_size e t.place (code_of_entry e es shapes i) (entry_at es i)) es ms
  marks_size shapes [] rs h = ap (λ k. length (body_bytes big e k)) (sym (same_Some [] rs h))
  marks_size shapes (m ∷ ms) rs h =
      let first = bind_parts (read_coded big e t es shapes m) _ rs h in
      let rest = bind_parts (read_marks big e t es shapes ms) _ rs first.2 in
      let size : ℕ → ℕ = λ i. entry_size e t.place (code_of_entry e es shapes i) (entry_at es i) in
      ap (λ k. length (body_bytes big e k)) (sym (same_Some (first.0 ∷ rest.0) rs rest.2))
      ∙ length-append (mark_bytes big e first.0) (body_bytes big e rest.0)
      ∙ ap (λ n. n + length (body_bytes big e rest.0)) (mark_size shapes m first.0 first.1)
      ∙ ap (λ n. size_of size es m + n) (marks_size shapes ms rest.0 rest.1)

  -- each entry is declared
  marks_fit : (s : List Shape) (ms : List (Mark ℕ)) (rs : List (Mark ReadEntry)) → length s + length ms < 2 ^ 64 → AreMarksRanged e es ms →
      read_marks big e t es (shapes_of e es s ms) ms ≡ Some rs → All (IsMark e (declarations (shapes_of e es s ms))) rs
  marks_fit s [] rs small ranged h = subst (All (IsMark e (declarations s))) (same_Some [] rs h) (All-nil (IsMark e (declarations s)))
  marks_fit s (Open i ∷ ms) rs small ranged h =
      let x = entry_at es i in
      let own = shape_of_entry e x in
      let u = with_shape s own in
      let final = shapes_of e es u ms in
      let code = code_in final own in
      let given = code_in-shapes e es s ms own in
      let added = code_in-added s own in
      let room = with_shape-room s own in
      let first = bind_parts (read_coded big e t es final (Open i)) _ rs h in
      let rest = bind_parts (read_marks big e t es final ms) _ rs first.2 in
      let k = entry_of_mark final i first.0 first.1 in
      let made = entry_of big e t code i x k.0 k.1 in
      let fit = entry_fits big e t code i x k.0 (All-head (IsMarkRanged e es) (Open i) ms ranged) k.1 in
      let coded : k.0.code ≡ code = ap (λ r. r.code) made.2 in
      let mark : IsMark e (declarations final) (Open k.0) = record {
        code = subst (λ n. 0 < n) (sym coded) (code_in-positive final own);
        code_fits = omega (arith, coded, given, added, room);
        declared = ap (shape_of_code (declarations final)) coded ∙ shapes-declared e es s ms own ∙ ap Some (sym fit.1);
        attributes = fit.0;
      } in
      subst (All (IsMark e (declarations final))) (same_Some (first.0 ∷ rest.0) rs rest.2)
      (All-cons (IsMark e (declarations final)) first.0 rest.0 (subst (IsMark e (declarations final)) (sym k.2) mark)
      (marks_fit u ms rest.0 (omega (arith, room)) (All-tail (IsMarkRanged e es) (Open i) ms ranged) rest.1))
  marks_fit s (Null ∷ ms) rs small ranged h =
      let final = shapes_of e es s ms in
      let rest = bind_parts (read_marks big e t es final ms) _ rs h in
      subst (All (IsMark e (declarations final))) (same_Some (Null ∷ rest.0) rs rest.2)
      (All-cons (IsMark e (declarations final)) Null rest.0 tt (marks_fit s ms rest.0 (omega arith) (All-tail (IsMarkRanged e es) Null ms ranged) rest.1))

  -- What is read of a tree is one tree, and its table declares each entry.
  pub tree_fits : (ms : List (Mark ReadEntry)) → AreMarksRanged e es (preorder es) → length (preorder es) < 2 ^ 64 → IsTrue (is_one_tree (map (children_in es) (preorder es))) →
      read_tree big e t es ≡ Some ms → All (IsMark e (tree_declared e es)) ms × IsTrue (is_one_tree (map children_of ms))
  tree_fits ms ranged few tree h =
      let found : shapes_of e es [] (preorder es) ≡ tree_shapes e es = tree_shapes-found e es (preorder es) refl in
      let read : read_marks big e t es (shapes_of e es [] (preorder es)) (preorder es) ≡ Some ms = ap (λ s. read_marks big e t es s (preorder es)) found ∙ h in (
        subst (λ s. All (IsMark e (declarations s)) ms) found (marks_fit [] (preorder es) ms (omega arith) ranged read),
        subst (λ cs. IsTrue (is_one_tree cs)) (sym (marks_children (tree_shapes e es) (preorder es) ms h)) tree,
      )

-- The sizes of drafts

module _ (e : Encoding) (u : UnitTargets) where
  attributes_draft-size : (xs : List Attribute) → (attributes_draft e u xs).size ≡ values_size e u.place xs
  unfolding then_draft
  attributes_draft-size [] = refl
  attributes_draft-size (a ∷ xs) = ap (λ n. operand_size e u.place a.value + n) (attributes_draft-size xs)

  sibling_draft-size : (past : ℕ) (x : EntryValue) → (sibling_draft e past x).size ≡ sibling_size e x
  sibling_draft-size past x = either (has_sibling x)
    where
      either : (b : Bool) → (if b then whole (word_of e.format) (fitting_text (word_of e.format) past) else no_draft).size ≡ (if b then word_of e.format else 0)
      either true = refl
      either false = refl

  module _ (es : List EntryValue) (shapes : List Shape) where
    abbrev size : ℕ → ℕ
    size i = entry_size e u.place (code_of_entry e es shapes i) (entry_at es i)

    mark_draft-size : (m : Mark ℕ) → (mark_draft e es u (code_at e es shapes m) m).size ≡ size_of size es m
    unfolding then_draft
    mark_draft-size (Open i) =
        let x = entry_at es i in
        ap (λ n. length (uleb (code_of_entry e es shapes i)) + (n + (attributes_draft e u x.attributes).size)) (sibling_draft-size (u.past i) x)
        ∙ ap (λ n. length (uleb (code_of_entry e es shapes i)) + (sibling_size e x + n)) (attributes_draft-size x.attributes)
    mark_draft-size Null = refl

    pub marks_draft-size : (ms : List (Mark ℕ)) → (marks_draft e es u shapes ms).size ≡ sizes_of (λ i. entry_size e u.place (code_of_entry e es shapes i) (entry_at es i)) es ms
    unfolding then_draft
    marks_draft-size [] = refl
    marks_draft-size (m ∷ ms) =
        ap (λ n. n + (marks_draft e es u shapes ms).size) (mark_draft-size m) ∙ ap (λ n. size_of size es m + n) (marks_draft-size ms)

-- the draft of a tree has the size of the tree
pub tree_draft-size : (e : Encoding) (es : List EntryValue) (t : Tables) (p : Placement) → (tree_draft e es (targets_of t p)).size ≡ tree_size e es p.place
tree_draft-size e es t p = marks_draft-size e (targets_of t p) es (tree_shapes e es) (preorder es)
