-- The tree that the lists of children make of a unit's entries.
use Rattle.std.specs.Prelude.{◌≢◌, ◌<◌, ℕ, zero, suc, List, [], ◌∷◌, ◌++◌, length, map, Bool, true, false, not, ◌||◌, ◌&&◌, ◌==◌}
use Rattle.std.specs.List.{flat_map}
use Rattle.dw_base.specs.Entries.{Mark, Open, Null}
use Rattle.dw_entries.specs.declared.tree.Item.{Item}
use Rattle.dw_entries.specs.declared.tree.Item.TheVariants as items
use Rattle.dw_entries.specs.Entries.{EntryValue, entry_at, is_parent}

-- an entry's list of children is closed where it has any
abbrev pub closed : List ℕ → List (Mark ℕ) → List (Mark ℕ)
closed [] ms = []
closed (c ∷ cs) ms = ms ++ Null ∷ []

-- the entries from i down in preorder, with a mark behind each list of children, at most n deep
unfoldable pub tree_from : ℕ → List EntryValue → ℕ → List (Mark ℕ)
tree_from zero es i = []
tree_from (suc n) es i = Open i ∷ closed (entry_at es i).children (flat_map (tree_from n es) (entry_at es i).children)

-- The tree. No way down from the root is longer than there are entries.
unfoldable pub preorder : List EntryValue → List (Mark ℕ)
preorder es = tree_from (length es) es 0

-- each entry of the tree tells whether it has children
abbrev pub children_in : List EntryValue → Mark ℕ → Mark Bool
children_in es (Open i) = Open (is_parent es i)
children_in es Null = Null

-- an entry stands among marks
abbrev pub has_entry : List (Mark ℕ) → ℕ → Bool
has_entry [] i = false
has_entry (Open j ∷ ms) i = (j == i) || has_entry ms i
has_entry (Null ∷ ms) i = has_entry ms i

-- no entry stands among them twice
abbrev pub are_entries_distinct : List (Mark ℕ) → Bool
are_entries_distinct [] = true
are_entries_distinct (Open j ∷ ms) = not (has_entry ms j) && are_entries_distinct ms
are_entries_distinct (Null ∷ ms) = are_entries_distinct ms

-- the entry is one of the first n
abbrev pub IsIn : ℕ → Mark ℕ → Type 0
IsIn n (Open i) = i < n
IsIn n Null = Unit {0}

-- each entry is one of the first n
abbrev pub AreIn : ℕ → List (Mark ℕ) → Type 0
AreIn n [] = Unit {0}
AreIn n (m ∷ ms) = IsIn n m × AreIn n ms

-- the mark's entry has a tag
abbrev pub IsTagged : List EntryValue → Mark ℕ → Type 0
IsTagged es (Open i) = (entry_at es i).tag ≢ 0
IsTagged es Null = Unit {0}

-- each entry has a tag
abbrev pub AreTagged : List EntryValue → List (Mark ℕ) → Type 0
AreTagged es [] = Unit {0}
AreTagged es (m ∷ ms) = IsTagged es m × AreTagged es ms

-- an item of the code is a mark
abbrev pub mark_of : Item → Mark ℕ
mark_of (items.Open i) = Open i
mark_of items.Null = Null

abbrev pub marks : List Item → List (Mark ℕ)
marks all = map mark_of all
