-- Places that were laid out, in the words of the tree.
use Rattle.std.proofs.Common.{◌≡◌, ◌∙◌, sym, ap, subst, ℕ, ◌+◌, ◌-◌, ◌≤◌, not, true, List, [], ◌∷◌, ◌++◌, map, arith, IsTrue}
use Rattle.std.specs.Prelude.{IsFalse}
use Rattle.std.proofs.lemmas.Bool.Decides.{nat_tests}
use Rattle.dw_base.specs.Abbreviations.{Shape}
use Rattle.dw_base.specs.Numbers.{fits, word_of, length_size, length_fits}
use Rattle.dw_base.specs.Entries.{Mark, Null, closes}
use Rattle.dw_base.specs.Spelling.{header_size}
use Rattle.dw_base.specs.declared.common.Encoding.{Encoding}
use Rattle.dw_base.specs.declared.common.Format.{Format}
use Rattle.dw_base.specs.declared.common.Format.TheVariants.{Dwarf32}
use Rattle.dw_entries.specs.Entries.{EntryValue}
use Rattle.dw_entries.specs.Arena.{AreLinked}
use Rattle.dw_entries.specs.Tree.{children_in, preorder, has_entry, are_entries_distinct}
use Rattle.dw_tree.specs.Coded.{shapes_of, code_at}
use Rattle.dw_tree.specs.Laid.{sized, sizes_of, IsPlacement, HasNoRoom}
use Rattle.dw_tree.specs.Places.{Placement, has_place, FitsWords}
use Rattle.dw_tree.specs.UnitText.{unit_length}
use Rattle.dw_tree.specs.Whole.{tree_shapes, tree_size, IsTreePlacement, TreeHasNoRoom}
use Rattle.dw_entries.proofs.Distinct.{preorder_distinct}
use Rattle.dw_entries.proofs.TreeLaws.{preorder_closes}
use Rattle.dw_tree.proofs.DistinctShapes.{tree_shapes-found}

pub tree_distinct : (es : List EntryValue) (ms : List (Mark ℕ)) → ms ≡ preorder es → AreLinked es → are_entries_distinct ms ≡ true
tree_distinct es ms tree links = ap are_entries_distinct tree ∙ preorder_distinct es links

pub tree_closes : (es : List EntryValue) (ms : List (Mark ℕ)) → ms ≡ preorder es → closes 1 (map (children_in es) ms ++ Null ∷ []) ≡ true
tree_closes es ms tree = ap (λ l. closes 1 (map (children_in es) l ++ Null ∷ [])) tree ∙ preorder_closes es

pub tree_codes : (e : Encoding) (es : List EntryValue) (ms : List (Mark ℕ)) (codes : List ℕ) → ms ≡ preorder es → codes ≡ map (code_at e es (shapes_of e es [] ms)) ms → codes ≡ map (code_at e es (tree_shapes e es)) ms
tree_codes e es ms codes tree given = given ∙ ap (λ ss. map (code_at e es ss) ms) (tree_shapes-found e es ms tree)

-- the codes of a tree are those of its marks
pub found_codes : (e : Encoding) (es : List EntryValue) (ms : List (Mark ℕ)) (codes : List ℕ) → ms ≡ preorder es → codes ≡ map (code_at e es (tree_shapes e es)) ms → codes ≡ map (code_at e es (shapes_of e es [] ms)) ms
found_codes e es ms codes tree given = given ∙ sym (ap (λ ss. map (code_at e es ss) ms) (tree_shapes-found e es ms tree))

-- the bytes of marks are those of the tree
pub tree_size-found : (e : Encoding) (es : List EntryValue) (ms : List (Mark ℕ)) (place : ℕ → ℕ) → ms ≡ preorder es → sizes_of (sized e es (shapes_of e es [] ms) place) es ms ≡ tree_size e es place
tree_size-found e es ms place tree =
    ap (λ (ss : List Shape). sizes_of (sized e es ss place) es ms) (tree_shapes-found e es ms tree)
    ∙ ap (sizes_of (sized e es (tree_shapes e es) place) es) tree

-- and the end of marks is that of the tree
pub tree_end : (e : Encoding) (es : List EntryValue) (ms : List (Mark ℕ)) (place : ℕ → ℕ) (end : ℕ) → ms ≡ preorder es → end ≡ header_size e + sizes_of (sized e es (shapes_of e es [] ms) place) es ms → end ≡ header_size e + tree_size e es place
tree_end e es ms place end tree at = at ∙ ap (λ n. header_size e + n) (tree_size-found e es ms place tree)

-- places of marks are those of the tree
pub tree_placed : (e : Encoding) (es : List EntryValue) (p : Placement) (ms : List (Mark ℕ)) → ms ≡ preorder es → IsPlacement (sized e es (shapes_of e es [] ms)) es (header_size e) ms p → IsTreePlacement e es p
tree_placed e es p ms tree placed =
    subst (λ (l : List (Mark ℕ)). IsPlacement (sized e es (tree_shapes e es)) es (header_size e) l p) tree
    (subst (λ (ss : List Shape). IsPlacement (sized e es ss) es (header_size e) ms p) (tree_shapes-found e es ms tree) placed)

-- marks that have no room are those of the tree
pub tree_no_room : (e : Encoding) (es : List EntryValue) (ms : List (Mark ℕ)) → ms ≡ preorder es → HasNoRoom (sized e es (shapes_of e es [] ms)) es (header_size e) ms → TreeHasNoRoom e es
tree_no_room e es ms tree full =
    subst (λ (l : List (Mark ℕ)). HasNoRoom (sized e es (tree_shapes e es)) es (header_size e) l) tree
    (subst (λ (ss : List Shape). HasNoRoom (sized e es ss) es (header_size e) ms) (tree_shapes-found e es ms tree) full)

pub tree_inside : (es : List EntryValue) (p : Placement) (ms : List (Mark ℕ)) → ms ≡ preorder es → ((i : ℕ) → has_place p i ≡ has_entry ms i) → (i : ℕ) → has_place p i ≡ has_entry (preorder es) i
tree_inside es p ms tree inside i = inside i ∙ ap (λ l. has_entry l i) tree

-- places up to the end fit where the end does
pub places_fit : (format : Format) (p : Placement) (end : ℕ) → ((n : ℕ) → n ≤ end → IsTrue (fits (word_of format) n)) → ((i : ℕ) → (p.place i ≤ end) × (p.past i ≤ end)) → FitsWords format p
places_fit format p end fit bounded i = (fit (p.place i) (bounded i).0, fit (p.past i) (bounded i).1)

-- what the length counts is what the end counts but the length itself
long_behind : (end n : ℕ) → end ≡ length_size Dwarf32 + n → IsFalse (length_fits Dwarf32 (end - length_size Dwarf32)) → IsTrue (not (length_fits Dwarf32 n))
long_behind end n at long = grind (arith, nat_tests)

-- a length that the end shows to be too long has no spelling
pub too_long : (e : Encoding) (es : List EntryValue) (place : ℕ → ℕ) (end : ℕ) → end ≡ header_size e + tree_size e es place → e.format ≡ Dwarf32 → IsFalse (length_fits Dwarf32 (end - length_size Dwarf32)) → IsTrue (not (length_fits e.format (unit_length e (tree_size e es place))))
too_long e es place end at is long =
    let n = unit_length e (tree_size e es place) in
    let width : length_size e.format ≡ length_size Dwarf32 = ap length_size is in
    subst (λ (f : Format). IsTrue (not (length_fits f n))) (sym is) (long_behind end n (omega (arith, at, width)) long)
