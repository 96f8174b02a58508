-- Entries make the tree of those in which symbols have values, and are settled as they are.
use Rattle.std.specs.Prelude.{◌≡◌, ℕ, zero, suc, ◌==◌, Bool, true, false, not, ◌||◌, List, [], ◌∷◌, ◌++◌, length, map, filter, Option, Some, None, refl, if◌then◌else◌}
use Rattle.std.specs.List.{flat_map}
use Rattle.std.proofs.Common.{sym, ◌∙◌, ap, ap₂, cond}
use Rattle.std.proofs.Math.Path.{fun_ext}
use Rattle.std.proofs.lemmas.List.{length-map}
use Rattle.dw_base.specs.Entries.{Open}
use Rattle.dw_entries.specs.Attributes.{is_named, named, set_named, without_name}
use Rattle.dw_entries.specs.Entries.{EntryValue, entry_at}
use Rattle.dw_entries.specs.Settled.{stmt_list_name, rnglists_base_name, loclists_base_name, with_part, with_lists, settled_attributes, base_type_tag, bases_first, settled_root, settled_entries, is_file, some_file_in, some_file}
use Rattle.dw_entries.specs.Tree.{closed, tree_from, preorder}
use Rattle.dw_entries.specs.declared.attribute.Attribute.{Attribute}
use Rattle.dw_entries.specs.declared.own_parts.OwnLists.{OwnLists}
use Rattle.dw_entries.specs.declared.own_parts.OwnParts.{OwnParts}
use Rattle.dw_entries.specs.declared.value.AttributeValue.{AttributeValue}
use Rattle.dw_entries.specs.declared.value.AttributeValue.TheVariants as values
use Rattle.dw_dwarf_laws.specs.Entries.{numbered_value, numbered_attribute, numbered_entry, numbered_entries}

module _ (symbols : List ℕ) where
  pub entry_same : (es : List EntryValue) (i : ℕ) → entry_at (numbered_entries symbols es) i ≡ numbered_entry symbols (entry_at es i)
  entry_same [] i = refl
  entry_same (x ∷ es) zero = refl
  entry_same (x ∷ es) (suc i) = entry_same es i

  -- The tree

  from_same : (n : ℕ) (es : List EntryValue) (i : ℕ) → tree_from n (numbered_entries symbols es) i ≡ tree_from n es i
  unfolding tree_from
  from_same zero es i = refl
  from_same (suc n) es i =
      ap (λ x. Open i ∷ closed x.children (flat_map (tree_from n (numbered_entries symbols es)) x.children)) (entry_same es i)
      ∙ ap (λ f. Open i ∷ closed (entry_at es i).children (flat_map f (entry_at es i).children)) (fun_ext (from_same n es))

  pub preorder_same : (es : List EntryValue) → preorder (numbered_entries symbols es) ≡ preorder es
  unfolding preorder
  preorder_same es = ap (λ n. tree_from n (numbered_entries symbols es) 0) (length-map es (numbered_entry symbols)) ∙ from_same (length es) es 0

  -- Settled attributes

  module _ (n : ℕ) (v : AttributeValue) (same : numbered_value symbols v ≡ v) where
    set_same : (xs : List Attribute) → set_named n v (map (numbered_attribute symbols) xs) ≡ map (numbered_attribute symbols) (set_named n v xs)
    set_same [] = ap (λ w. named n w ∷ []) (sym same)
    set_same (a ∷ xs) = by (is_named n a) (set_same xs)
      where
        by : (b : Bool) → set_named n v (map (numbered_attribute symbols) xs) ≡ map (numbered_attribute symbols) (set_named n v xs) →
            (if b then named n v ∷ map (numbered_attribute symbols) xs else numbered_attribute symbols a ∷ set_named n v (map (numbered_attribute symbols) xs)) ≡ map (numbered_attribute symbols) (if b then named n v ∷ xs else a ∷ set_named n v xs)
        by true rest = ap (λ w. named n w ∷ map (numbered_attribute symbols) xs) (sym same)
        by false rest = ap (λ t. numbered_attribute symbols a ∷ t) rest

    without_same : (xs : List Attribute) → without_name n (map (numbered_attribute symbols) xs) ≡ map (numbered_attribute symbols) (without_name n xs)
    without_same [] = refl
    without_same (a ∷ xs) = by (not (is_named n a)) (without_same xs)
      where
        by : (b : Bool) → without_name n (map (numbered_attribute symbols) xs) ≡ map (numbered_attribute symbols) (without_name n xs) →
            cond b (numbered_attribute symbols a ∷ without_name n (map (numbered_attribute symbols) xs)) (without_name n (map (numbered_attribute symbols) xs)) ≡ map (numbered_attribute symbols) (cond b (a ∷ without_name n xs) (without_name n xs))
        by true rest = ap (λ t. numbered_attribute symbols a ∷ t) rest
        by false rest = rest

    part_same : (b : Bool) (xs : List Attribute) → with_part n v b (map (numbered_attribute symbols) xs) ≡ map (numbered_attribute symbols) (with_part n v b xs)
    part_same true xs = set_same xs
    part_same false xs = without_same xs

  lists_same : (lists : Option OwnLists) (xs : List Attribute) → with_lists lists (map (numbered_attribute symbols) xs) ≡ map (numbered_attribute symbols) (with_lists lists xs)
  lists_same None xs = refl
  lists_same (Some lists) xs =
      ap (with_part loclists_base_name values.LocationListsBase lists.locations) (part_same rnglists_base_name values.RangeListsBase refl lists.ranges xs)
      ∙ part_same loclists_base_name values.LocationListsBase refl lists.locations (with_part rnglists_base_name values.RangeListsBase lists.ranges xs)

  attributes_same : (parts : OwnParts) (xs : List Attribute) → settled_attributes parts (map (numbered_attribute symbols) xs) ≡ map (numbered_attribute symbols) (settled_attributes parts xs)
  attributes_same parts xs =
      ap (with_lists parts.lists) (part_same stmt_list_name values.LineProgramRef refl parts.line_program xs) ∙ lists_same parts.lists (with_part stmt_list_name values.LineProgramRef parts.line_program xs)

  -- Settled entries

  bases_same : (es : List EntryValue) (cs : List ℕ) → bases_first (numbered_entries symbols es) cs ≡ bases_first es cs
  bases_same es cs = ap (λ f. filter f cs ++ filter (λ c. not (f c)) cs) (fun_ext (λ i. ap (λ x. x.tag == base_type_tag) (entry_same es i)))

  root_same : (parts : OwnParts) (es : List EntryValue) (x : EntryValue) → settled_root parts (numbered_entries symbols es) (numbered_entry symbols x) ≡ numbered_entry symbols (settled_root parts es x)
  root_same parts es x =
      let with : List Attribute → List ℕ → EntryValue = λ xs cs. record x { attributes = xs; children = cs } in
      ap₂ with (attributes_same parts x.attributes) (bases_same es x.children)

  pub settled_same : (parts : OwnParts) (es : List EntryValue) → settled_entries parts (numbered_entries symbols es) ≡ numbered_entries symbols (settled_entries parts es)
  settled_same parts [] = refl
  settled_same parts (x ∷ es) = ap (λ y. y ∷ numbered_entries symbols es) (root_same parts (x ∷ es) x)

  -- Files

  file_same : (v : AttributeValue) → is_file (numbered_value symbols v) ≡ is_file v
  file_same (values.Address a) = refl
  file_same v = refl

  files_in_same : (xs : List Attribute) → some_file_in (map (numbered_attribute symbols) xs) ≡ some_file_in xs
  files_in_same [] = refl
  files_in_same (a ∷ xs) = ap₂ (λ b c. b || c) (file_same a.value) (files_in_same xs)

  pub files_same : (es : List EntryValue) → some_file (numbered_entries symbols es) ≡ some_file es
  files_same [] = refl
  files_same (x ∷ es) = ap₂ (λ b c. b || c) (files_in_same x.attributes) (files_same es)
