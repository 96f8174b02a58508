-- Entries have the shapes, the sizes and the places of those in which symbols have values.
use Rattle.std.specs.Prelude.{◌≡◌, ℕ, zero, suc, ◌+◌, ◌==◌, List, [], ◌∷◌, ◌++◌, length, map, Option, None, ℤ, refl, if◌then◌else◌}
use Rattle.std.proofs.Common.{sym, ◌∙◌, ap, ap₂}
use Rattle.std.proofs.Math.Path.{fun_ext}
use Rattle.dw_base.specs.Abbreviations.{Specification, Shape}
use Rattle.dw_base.specs.Entries.{Mark, Open, Null}
use Rattle.dw_base.specs.Leb128.{uleb}
use Rattle.dw_base.specs.Spelling.{header_size, table_bytes}
use Rattle.dw_base.specs.declared.common.Encoding.{Encoding}
use Rattle.dw_abbrev.specs.Codes.{code_in, declarations}
use Rattle.dw_writer.specs.Layout.{Layout}
use Rattle.dw_entries.specs.Entries.{EntryValue, entry_at, has_any, is_parent}
use Rattle.dw_entries.specs.Targets.{UnitTargets}
use Rattle.dw_entries.specs.Tree.{preorder}
use Rattle.dw_entries.specs.declared.attribute.Attribute.{Attribute}
use Rattle.dw_tree.specs.Coded.{code_of_entry}
use Rattle.dw_tree.specs.DistinctShapes.{entry_shapes, distinct_shapes}
use Rattle.dw_tree.specs.Laid.{sibling_size, values_size, entry_size, sized, place_from, behind_from, past_from}
use Rattle.dw_tree.specs.Locations.{places_in_tree}
use Rattle.dw_tree.specs.Places.{Placement, found}
use Rattle.dw_tree.specs.Shapes.{specification, sibling_specification, before_attributes, shape_of_entry}
use Rattle.dw_tree.specs.Whole.{tree_shapes, tree_table, surer_places, IsTreePlacement}
use Rattle.dw_dwarf_laws.specs.Entries.{numbered_attribute, numbered_entry, numbered_entries}
use Rattle.dw_dwarf_laws.proofs.Trees.{entry_same, preorder_same}
use Rattle.dw_dwarf_laws.proofs.Values.{form_same, constant_same, value_same}

module _ (symbols : List ℕ) (e : Encoding) where
  abbrev changed : List EntryValue → List EntryValue
  changed es = numbered_entries symbols es

  -- Shapes

  specification_same : (a : Attribute) → specification e (numbered_attribute symbols a) ≡ specification e a
  specification_same a =
      let with : ℕ → Option ℤ → Specification = λ form constant. record { name = a.name.0; form = form; constant = constant } in
      ap₂ with (form_same symbols e a.value) (constant_same symbols e a.value)

  specifications_same : (xs : List Attribute) → map (specification e) (map (numbered_attribute symbols) xs) ≡ map (specification e) xs
  specifications_same [] = refl
  specifications_same (a ∷ xs) = ap₂ (λ s ss. s ∷ ss) (specification_same a) (specifications_same xs)

  shape_same : (x : EntryValue) → shape_of_entry e (numbered_entry symbols x) ≡ shape_of_entry e x
  shape_same x =
      let with : List Specification → Shape = λ ss. record { tag = x.tag; has_children = has_any x.children; attributes = before_attributes x (sibling_specification e) ++ ss } in
      ap with (specifications_same x.attributes)

  shape_at_same : (es : List EntryValue) (i : ℕ) → shape_of_entry e (entry_at (changed es) i) ≡ shape_of_entry e (entry_at es i)
  shape_at_same es i = ap (shape_of_entry e) (entry_same symbols es i) ∙ shape_same (entry_at es i)

  shapes_same : (es : List EntryValue) (ms : List (Mark ℕ)) → entry_shapes e (changed es) ms ≡ entry_shapes e es ms
  shapes_same es [] = refl
  shapes_same es (Open i ∷ ms) = ap₂ (λ s ss. s ∷ ss) (shape_at_same es i) (shapes_same es ms)
  shapes_same es (Null ∷ ms) = shapes_same es ms

  pub tree_shapes_same : (es : List EntryValue) → tree_shapes e (changed es) ≡ tree_shapes e es
  tree_shapes_same es = ap (λ ms. distinct_shapes (entry_shapes e (changed es) ms)) (preorder_same symbols es) ∙ ap distinct_shapes (shapes_same es (preorder es))

  pub tree_table_same : (es : List EntryValue) → tree_table e (changed es) ≡ tree_table e es
  tree_table_same es = ap (λ ss. table_bytes (declarations ss)) (tree_shapes_same es)

  pub code_same : (es : List EntryValue) (shapes : List Shape) (i : ℕ) → code_of_entry e (changed es) shapes i ≡ code_of_entry e es shapes i
  code_same es shapes i = ap (code_in shapes) (shape_at_same es i)

  -- Sizes

  values_same : (place : ℕ → Option ℕ) (xs : List Attribute) → values_size e place (map (numbered_attribute symbols) xs) ≡ values_size e place xs
  values_same place [] = refl
  values_same place (a ∷ xs) =
      let l : Layout = record { starts = []; own_start = 0; symbols = symbols } in
      let u : UnitTargets = record { place = place; past = λ i. i; tables = record { part = λ s i. None; own = λ s. None } } in
      ap₂ (λ m n. m + n) (sym (value_same l e u a.value).size) (values_same place xs)

  entry_size_same : (place : ℕ → Option ℕ) (code : ℕ) (x : EntryValue) → entry_size e place code (numbered_entry symbols x) ≡ entry_size e place code x
  entry_size_same place code x = ap (λ n. length (uleb code) + (sibling_size e x + n)) (values_same place x.attributes)

  size_at_same : (es : List EntryValue) (shapes : List Shape) (place : ℕ → ℕ) (i : ℕ) → sized e (changed es) shapes place i ≡ sized e es shapes place i
  size_at_same es shapes place i =
      ap₂ (entry_size e (found place)) (code_same es shapes i) (entry_same symbols es i) ∙ entry_size_same (found place) (code_of_entry e es shapes i) (entry_at es i)

  -- where the tree's shapes give the codes
  sized_same : (es : List EntryValue) (place : ℕ → ℕ) → sized e (changed es) (tree_shapes e (changed es)) place ≡ sized e es (tree_shapes e es) place
  sized_same es place = ap (λ ss. sized e (changed es) ss place) (tree_shapes_same es) ∙ fun_ext (size_at_same es (tree_shapes e es) place)

  parent_same : (es : List EntryValue) (i : ℕ) → is_parent (changed es) i ≡ is_parent es i
  parent_same es i = ap (λ x. has_any x.children) (entry_same symbols es i)

  -- Places

  module _ (size : ℕ → ℕ) (es : List EntryValue) where
    place_same : (at : ℕ) (ms : List (Mark ℕ)) (i : ℕ) → place_from size (changed es) at ms i ≡ place_from size es at ms i
    place_same at [] i = refl
    place_same at (Open j ∷ ms) i = ap (λ n. if j == i then at else n) (place_same (at + size j) ms i)
    place_same at (Null ∷ ms) i = place_same (at + 1) ms i

    behind_same : (d at : ℕ) (ms : List (Mark ℕ)) → behind_from size (changed es) d at ms ≡ behind_from size es d at ms
    behind_same d at [] = refl
    behind_same d at (Open j ∷ ms) =
        ap (λ b. behind_from size (changed es) (if b then suc d else d) (at + size j) ms) (parent_same es j) ∙ behind_same (if is_parent es j then suc d else d) (at + size j) ms
    behind_same zero at (Null ∷ ms) = refl
    behind_same (suc d) at (Null ∷ ms) = behind_same d (at + 1) ms

    past_same : (at : ℕ) (ms : List (Mark ℕ)) (i : ℕ) → past_from size (changed es) at ms i ≡ past_from size es at ms i
    past_same at [] i = refl
    past_same at (Open j ∷ ms) i =
        ap (λ b. if j == i then (if b then behind_from size (changed es) 0 (at + size j) ms else at + size j) else past_from size (changed es) (at + size j) ms i) (parent_same es j)
        ∙ ap₂ (λ m n. if j == i then (if is_parent es j then m else at + size j) else n) (behind_same 0 (at + size j) ms) (past_same (at + size j) ms i)
    past_same at (Null ∷ ms) i = past_same (at + 1) ms i

  -- the place of an entry of a tree, where these places give the sizes
  tree_place_same : (es : List EntryValue) (place : ℕ → ℕ) (i : ℕ) →
      place_from (sized e (changed es) (tree_shapes e (changed es)) place) (changed es) (header_size e) (preorder (changed es)) i ≡ place_from (sized e es (tree_shapes e es) place) es (header_size e) (preorder es) i
  tree_place_same es place i =
      ap (λ size. place_from size (changed es) (header_size e) (preorder (changed es)) i) (sized_same es place)
      ∙ ap (λ ms. place_from (sized e es (tree_shapes e es) place) (changed es) (header_size e) ms i) (preorder_same symbols es)
      ∙ place_same (sized e es (tree_shapes e es) place) es (header_size e) (preorder es) i

  tree_past_same : (es : List EntryValue) (place : ℕ → ℕ) (i : ℕ) →
      past_from (sized e (changed es) (tree_shapes e (changed es)) place) (changed es) (header_size e) (preorder (changed es)) i ≡ past_from (sized e es (tree_shapes e es) place) es (header_size e) (preorder es) i
  tree_past_same es place i =
      ap (λ size. past_from size (changed es) (header_size e) (preorder (changed es)) i) (sized_same es place)
      ∙ ap (λ ms. past_from (sized e es (tree_shapes e es) place) (changed es) (header_size e) ms i) (preorder_same symbols es)
      ∙ past_same (sized e es (tree_shapes e es) place) es (header_size e) (preorder es) i

  -- a placement of one tree is one of the other
  pub placement_kept : (es : List EntryValue) (p : Placement) → IsTreePlacement e es p → IsTreePlacement e (changed es) p
  placement_kept es p placed = record {
    place = λ i. placed.place i ∙ sym (tree_place_same es p.place i);
    past = λ i. placed.past i ∙ sym (tree_past_same es p.place i);
  }

  surer_same : (es : List EntryValue) (n i : ℕ) → surer_places e (changed es) n i ≡ surer_places e es n i
  surer_same es zero i = refl
  surer_same es (suc n) i =
      ap (λ f. place_from (sized e (changed es) (tree_shapes e (changed es)) f) (changed es) (header_size e) (preorder (changed es)) i) (fun_ext (surer_same es n)) ∙ tree_place_same es (surer_places e es n) i

  pub tree_places_same : (es : List EntryValue) → places_in_tree e (changed es) ≡ places_in_tree e es
  tree_places_same es =
      ap (λ n. found (surer_places e (changed es) n)) (ap length (preorder_same symbols es)) ∙ ap found (fun_ext (surer_same es (length (preorder es))))
