-- What a layout keeps on its way through the marks of a tree.
use Rattle.std.specs.Prelude.{◌≡◌, ℕ, suc, ◌+◌, ◌<◌, ◌≤◌, true, false, ◌||◌, ◌==◌, List, [], ◌∷◌, ◌++◌, length, map, All, if◌then◌else◌}
use Rattle.std.specs.List.{list_any}
use Rattle.dw_base.specs.Entries.{Mark, Null, closes}
use Rattle.dw_entries.specs.Entries.{EntryValue}
use Rattle.dw_entries.specs.Tree.{children_in, has_entry, are_entries_distinct}
use Rattle.dw_tree.specs.Laid.{sizes_of, place_from, past_from, behind_from}
use Rattle.dw_tree.specs.Laying.{LayoutValue, placement_in, Extends}
use Rattle.dw_tree.specs.Places.{has_place}

module _ (size : ℕ → ℕ) (es : List EntryValue) (start : ℕ) (all : List (Mark ℕ)) where
  -- the children of these entries are closed by the marks that are left, the first by the d-th that closes a list from here
  abbrev pub AreBehind : ℕ → ℕ → List (Mark ℕ) → List ℕ → Type 0
  AreBehind d at rest [] = Unit {0}
  AreBehind d at rest (i ∷ parents) = (past_from size es start all i ≡ behind_from size es d at rest) × AreBehind (suc d) at rest parents

  -- the places of all marks are those of the marks that are left, and those that are kept
  pub record IsPlaced (rest : List (Mark ℕ)) (v : LayoutValue) : Type 0 where
    pub sum : v.end + sizes_of size es rest ≡ start + sizes_of size es all
    pub place : (i : ℕ) → place_from size es start all i ≡ (if has_entry rest i then place_from size es v.end rest i else (placement_in v).place i)
    pub past_left : (i : ℕ) → has_entry rest i ≡ true → past_from size es start all i ≡ past_from size es v.end rest i
    pub past_behind : AreBehind 0 v.end rest v.parents
    pub past_kept : (i : ℕ) → has_entry rest i ≡ false → list_any (λ x. i == x) v.parents ≡ false → past_from size es start all i ≡ (placement_in v).past i

-- The marks but those that are left were laid out. What is said of places holds for all that keep those which are known.
module _ (size : (ℕ → ℕ) → ℕ → ℕ) (es : List EntryValue) (start : ℕ) (all : List (Mark ℕ)) where
  pub record IsLaid (rest : List (Mark ℕ)) (v : LayoutValue) : Type 0 where
    pub distinct : are_entries_distinct rest ≡ true
    pub closed : closes (suc (length v.parents)) (map (children_in es) rest ++ Null ∷ []) ≡ true
    pub parents_in : All (λ i. i < length es) v.parents
    pub room : length v.places ≡ length es
    pub past_room : length v.pasts ≡ length es
    pub started : 0 < v.end
    pub inside : (i : ℕ) → has_entry all i ≡ (has_entry rest i || has_place (placement_in v) i)
    -- an entry that is left has no place yet
    pub fresh : (i : ℕ) → has_entry rest i ≡ true → has_place (placement_in v) i ≡ false
    pub place_bounded : (i : ℕ) → (placement_in v).place i ≤ v.end
    pub past_bounded : (i : ℕ) → (placement_in v).past i ≤ v.end
    pub placed : (place : ℕ → ℕ) → Extends v place → IsPlaced (size place) es start all rest v
