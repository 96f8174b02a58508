-- A layout on its way through the marks of a tree.
use Rattle.std.specs.Prelude.{◌≡◌, ℕ, Bool, Option, true, false, List, [], ◌∷◌, reverse, replicate, slice_index, slice_set}
use Rattle.dw_base.specs.Entries.{Mark, Open, Null}
use Rattle.dw_base.specs.declared.common.Encoding.{Encoding}
use Rattle.dw_entries.specs.Entries.{EntryValue, entry_at, is_parent}
use Rattle.dw_tree.specs.declared.layout.Layout.{Layout}
use Rattle.dw_tree.specs.Laid.{entry_size}
use Rattle.dw_tree.specs.Places.{Placement, found, has_place}

-- A layout, without its capacities: the places of entries, the places past them, the place past all that was laid out,
-- and the entries whose children are not closed yet, the innermost first.
pub record LayoutValue : Type 0 where
  pub places : List ℕ
  pub pasts : List ℕ
  pub end : ℕ
  pub parents : List ℕ

abbrev pub layout_value : Layout → LayoutValue
layout_value l = record { places = l.places.places.items; pasts = l.places.pasts.items; end = l.places.end; parents = reverse l.parents.items }

-- the layout of so many entries of which none has a place yet
abbrev pub unlaid : ℕ → ℕ → LayoutValue
unlaid count start = record { places = replicate count 0; pasts = replicate count 0; end = start; parents = [] }

-- what is kept under each index
abbrev pub placement_in : LayoutValue → Placement
placement_in v = record { place = slice_index v.places; past = slice_index v.pasts }

-- An entry gets the place where it begins, ahead of its bytes.
abbrev pub begun : Mark ℕ → LayoutValue → LayoutValue
begun (Open i) v = record v { places = slice_set v.places i v.end }
begun Null v = v

-- The bytes of an entry end at a place. Where it has no children, that is the place past it, too.
abbrev pub entered : ℕ → ℕ → Bool → LayoutValue → LayoutValue
entered i to true v = record v { end = to; parents = i ∷ v.parents }
entered i to false v = record v { pasts = slice_set v.pasts i to; end = to }

-- the innermost of these entries' lists of children is closed before a place
abbrev pub closed_in : List ℕ → ℕ → LayoutValue → LayoutValue
closed_in [] to v = record v { end = to }
closed_in (i ∷ parents) to v = record v { pasts = slice_set v.pasts i to; end = to; parents = parents }

-- a mark is laid out up to a place
abbrev pub stepped : List EntryValue → Mark ℕ → ℕ → LayoutValue → LayoutValue
stepped es (Open i) to v = entered i to (is_parent es i) (begun (Open i) v)
stepped es Null to v = closed_in v.parents to v

-- the bytes of a mark with its code, where entries stand at these places
abbrev pub mark_size : Encoding → List EntryValue → ℕ → Mark ℕ → (ℕ → ℕ) → ℕ
mark_size e es code (Open i) place = entry_size e (found place) code (entry_at es i)
mark_size e es code Null place = 1

-- the places that a layout has so far
abbrev pub known_in : LayoutValue → ℕ → Option ℕ
known_in v = found (placement_in v).place

-- places that keep those which a layout has so far
abbrev pub Extends : LayoutValue → (ℕ → ℕ) → Type 0
Extends v place = (i : ℕ) → has_place (placement_in v) i ≡ true → place i ≡ slice_index v.places i
