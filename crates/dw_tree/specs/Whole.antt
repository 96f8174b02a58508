-- A unit as it is written: settled, in preorder, with codes.
use Rattle.std.specs.Prelude.{◌≡◌, ◌⊎◌, ℕ, zero, suc, ◌&&◌, ◌||◌, Bool, true, false, Option, Some, None, List, [], ◌∷◌, length, if◌then◌else◌}
use Rattle.std.specs.Option.{is_some}
use Rattle.dw_base.specs.Abbreviations.{Shape, Declaration}
use Rattle.dw_base.specs.Spelling.{header_size, table_bytes}
use Rattle.dw_base.specs.declared.common.Encoding.{Encoding}
use Rattle.dw_abbrev.specs.Codes.{declarations}
use Rattle.dw_entries.specs.Entries.{EntryValue}
use Rattle.dw_entries.specs.Tree.{preorder}
use Rattle.dw_tree.specs.DistinctShapes.{entry_shapes, distinct_shapes}
use Rattle.dw_tree.specs.Laid.{sized, sizes_of, place_from, IsPlacement, HasNoRoom}
use Rattle.dw_tree.specs.Places.{Placement, OffsetsValue}
use Rattle.dw_entries.specs.Settled.{settled_entries, some_file}
use Rattle.dw_entries.specs.declared.own_parts.OwnParts.{OwnParts}
use Rattle.dw_lists.specs.Items.{is_five}
use Rattle.dw_line.specs.LinePrograms.{sequences_of}
use Rattle.dw_tree.specs.UnitValue.{UnitValue}

-- the different shapes of the tree's entries, in the order in which each first comes
abbrev pub tree_shapes : Encoding → List EntryValue → List Shape
tree_shapes e es = distinct_shapes (entry_shapes e es (preorder es))

-- what is declared for them, and the bytes of that
abbrev pub tree_declared : Encoding → List EntryValue → List Declaration
tree_declared e es = declarations (tree_shapes e es)

abbrev pub tree_table : Encoding → List EntryValue → List ℕ
tree_table e es = table_bytes (tree_declared e es)

-- the bytes of its entries where they stand at these places
abbrev pub tree_size : Encoding → List EntryValue → (ℕ → ℕ) → ℕ
tree_size e es place = sizes_of (sized e es (tree_shapes e es) place) es (preorder es)

-- THE placement of the tree's entries, of which the first stands behind the header
abbrev pub IsTreePlacement : Encoding → List EntryValue → Placement → Type 0
IsTreePlacement e es p = IsPlacement (sized e es (tree_shapes e es)) es (header_size e) (preorder es) p

-- some front of the tree ends past 64 bits
abbrev pub TreeHasNoRoom : Encoding → List EntryValue → Type 0
TreeHasNoRoom e es = HasNoRoom (sized e es (tree_shapes e es)) es (header_size e) (preorder es)

-- So many entries of a tree, in preorder, surely stand there: each behind all that is before it, in the sizes that the places of
-- the entries before it give.
abbrev pub surer_places : Encoding → List EntryValue → ℕ → ℕ → ℕ
surer_places e es zero i = 0
surer_places e es (suc n) i = place_from (sized e es (tree_shapes e es) (surer_places e es n)) es (header_size e) (preorder es) i

-- where the entries of a tree stand, which has no more of them than marks: in THE placement, where there is one
abbrev pub tree_places : Encoding → List EntryValue → ℕ → ℕ
tree_places e es = surer_places e es (length (preorder es))

-- there is one
abbrev pub is_some_of : {X : Type 0} → List X → Bool
is_some_of [] = false
is_some_of (x ∷ xs) = true

-- The unit's line program is in use: there is one, and it has a sequence, or some entry names one of its files.
abbrev pub lines_in_use : UnitValue → Bool
lines_in_use u = is_some u.line_program.program && (is_some_of (sequences_of u.line_program.program) || some_file u.entries)

-- What the root of a unit names of its own parts of other sections: its line program, where that is in use, and in version 5
-- its range lists and its location lists.
abbrev pub parts_with : Bool → UnitValue → OwnParts
parts_with line_program u = record {
  line_program = line_program;
  lists = if is_five u.encoding then Some (record { ranges = is_some_of u.ranges; locations = is_some_of u.locations }) else None;
}

-- a unit whose root names these parts, and has its base types first
abbrev pub settled : UnitValue → UnitValue
settled u = record u { entries = settled_entries (parts_with (lines_in_use u) u) u.entries }

-- as it is once it was written, with the places that it keeps
abbrev pub marked_written : Option OffsetsValue → UnitValue → UnitValue
marked_written offsets u = record u { is_written = true; offsets = offsets }

-- a unit that was refused
abbrev pub IsRefused : UnitValue → UnitValue → Type 0
IsRefused u v = (u.is_written ≡ false) × ((v ≡ u) ⊎ (v ≡ settled u))
