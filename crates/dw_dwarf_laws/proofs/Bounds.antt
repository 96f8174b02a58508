-- Places of entries fit a word where the unit's length has a spelling.
use Rattle.std.specs.Prelude.{◌≡◌, ℕ, zero, suc, ◌+◌, ◌<◌, ◌≤◌, ◌^◌, ◌==◌, Bool, true, false, List, [], ◌∷◌, IsTrue, if◌then◌else◌}
use Rattle.std.proofs.Common.{sym, subst, arith}
use Rattle.std.proofs.lemmas.Bool.Decides.{nat_tests}
use Rattle.dw_base.specs.Entries.{Mark, Open, Null}
use Rattle.dw_base.specs.Numbers.{fits, word_of, length_fits, length_size}
use Rattle.dw_base.specs.Spelling.{header_size}
use Rattle.dw_base.specs.declared.common.Encoding.{Encoding}
use Rattle.dw_base.specs.declared.common.Format.{Format}
use Rattle.dw_base.specs.declared.common.Format.TheVariants.{Dwarf32, Dwarf64}
use Rattle.dw_entries.specs.Entries.{EntryValue, is_parent}
use Rattle.dw_entries.specs.Tree.{preorder}
use Rattle.dw_tree.specs.Laid.{sized, sizes_of, place_from, behind_from, past_from}
use Rattle.dw_tree.specs.Places.{Placement, FitsWords}
use Rattle.dw_tree.specs.UnitText.{unit_length}
use Rattle.dw_tree.specs.Whole.{tree_shapes, tree_size, IsTreePlacement}
use Rattle.dw_tree.proofs.PlaceSteps.{places_fit}

module _ (size : ℕ → ℕ) (es : List EntryValue) where
  -- no entry stands behind the marks' end
  place_bound : (at : ℕ) (ms : List (Mark ℕ)) (i : ℕ) → place_from size es at ms i ≤ at + sizes_of size es ms
  place_bound at [] i = omega arith
  place_bound at (Open j ∷ ms) i = by (j == i) (place_bound (at + size j) ms i)
    where
      by : (b : Bool) → place_from size es (at + size j) ms i ≤ at + size j + sizes_of size es ms → (if b then at else place_from size es (at + size j) ms i) ≤ at + (size j + sizes_of size es ms)
      by true rest = omega arith
      by false rest = omega (arith, rest)
  place_bound at (Null ∷ ms) i = let rest = place_bound (at + 1) ms i in omega (arith, rest)

  -- and none ends there
  behind_bound : (d at : ℕ) (ms : List (Mark ℕ)) → behind_from size es d at ms ≤ at + sizes_of size es ms
  behind_bound d at [] = omega arith
  behind_bound d at (Open j ∷ ms) = let rest = behind_bound (if is_parent es j then suc d else d) (at + size j) ms in omega (arith, rest)
  behind_bound zero at (Null ∷ ms) = omega arith
  behind_bound (suc d) at (Null ∷ ms) = let rest = behind_bound d (at + 1) ms in omega (arith, rest)

  past_bound : (at : ℕ) (ms : List (Mark ℕ)) (i : ℕ) → past_from size es at ms i ≤ at + sizes_of size es ms
  past_bound at [] i = omega arith
  past_bound at (Open j ∷ ms) i = by (j == i) (is_parent es j) (behind_bound 0 (at + size j) ms) (past_bound (at + size j) ms i)
    where
      by : (b c : Bool) → behind_from size es 0 (at + size j) ms ≤ at + size j + sizes_of size es ms → past_from size es (at + size j) ms i ≤ at + size j + sizes_of size es ms →
          (if b then (if c then behind_from size es 0 (at + size j) ms else at + size j) else past_from size es (at + size j) ms i) ≤ at + (size j + sizes_of size es ms)
      by true true behind rest = omega (arith, behind)
      by true false behind rest = omega arith
      by false c behind rest = omega (arith, rest)
  past_bound at (Null ∷ ms) i = let rest = past_bound (at + 1) ms i in omega (arith, rest)

-- a place up to an end fits a word, where what lies between the length and the end is no longer than the format can tell
word_fits : (format : Format) (end n rest : ℕ) → end ≡ length_size format + rest → end < 2 ^ 64 → IsTrue (length_fits format rest) → n ≤ end → IsTrue (fits (word_of format) n)
word_fits Dwarf32 end n rest at room fit within = grind (arith, nat_tests)
word_fits Dwarf64 end n rest at room fit within = grind (arith, nat_tests)

pub words_fit : (e : Encoding) (es : List EntryValue) (p : Placement) → IsTreePlacement e es p → header_size e + tree_size e es p.place < 2 ^ 64 → IsTrue (length_fits e.format (unit_length e (tree_size e es p.place))) → FitsWords e.format p
words_fit e es p placed room fit =
    let size = sized e es (tree_shapes e es) p.place in
    let end = header_size e + tree_size e es p.place in
    places_fit e.format p end (λ n within. word_fits e.format end n (unit_length e (tree_size e es p.place)) (omega arith) room fit within)
    (λ i. (subst (λ n. n ≤ end) (sym (placed.place i)) (place_bound size es (header_size e) (preorder es) i), subst (λ n. n ≤ end) (sym (placed.past i)) (past_bound size es (header_size e) (preorder es) i)))
