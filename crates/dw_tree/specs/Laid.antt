-- Where the entries of a unit stand: sizes and places in preorder (DWARF 5, 7.5.2 and 7.5.3).
use Rattle.std.specs.Prelude.{◌≡◌, ℕ, zero, suc, ◌+◌, ◌≤◌, ◌^◌, List, [], ◌∷◌, length, take, Option, ◌==◌, if◌then◌else◌}
use Rattle.dw_base.specs.Numbers.{word_of}
use Rattle.dw_base.specs.Leb128.{uleb}
use Rattle.dw_base.specs.Abbreviations.{Shape}
use Rattle.dw_base.specs.Entries.{Mark, Open, Null}
use Rattle.dw_base.specs.declared.common.Encoding.{Encoding}
use Rattle.dw_entries.specs.declared.attribute.Attribute.{Attribute}
use Rattle.dw_entries.specs.Entries.{EntryValue, has_sibling, entry_at, is_parent}
use Rattle.dw_entries.specs.Values.{operand_size}
use Rattle.dw_tree.specs.Coded.{code_of_entry}
use Rattle.dw_tree.specs.Places.{Placement, found, IsSamePlacement}

-- the bytes of the place past an entry, where it names that
abbrev pub sibling_size : Encoding → EntryValue → ℕ
sibling_size e x = if has_sibling x then word_of e.format else 0

-- the bytes of values, where each entry has its place
abbrev pub values_size : Encoding → (ℕ → Option ℕ) → List Attribute → ℕ
values_size e place [] = 0
values_size e place (a ∷ xs) = operand_size e place a.value + values_size e place xs

-- the bytes of an entry with its code
abbrev pub entry_size : Encoding → (ℕ → Option ℕ) → ℕ → EntryValue → ℕ
entry_size e place code x = length (uleb code) + (sibling_size e x + values_size e place x.attributes)

-- The size of each entry is given: it may hang on places, these very ones among them. A list of children is closed by one
-- byte.
module _ (size : ℕ → ℕ) (es : List EntryValue) where
  abbrev pub size_of : Mark ℕ → ℕ
  size_of (Open i) = size i
  size_of Null = 1

  -- the bytes of marks
  abbrev pub sizes_of : List (Mark ℕ) → ℕ
  sizes_of [] = 0
  sizes_of (m ∷ ms) = size_of m + sizes_of ms

  -- the place of an entry among marks of which the first stands at a place: all that is before it lies between
  abbrev pub place_from : ℕ → List (Mark ℕ) → ℕ → ℕ
  place_from at [] i = 0
  place_from at (Open j ∷ ms) i = if j == i then at else place_from (at + size_of (Open j)) ms i
  place_from at (Null ∷ ms) i = place_from (at + 1) ms i

  -- the place behind the zero that closes the innermost list of children, or that which is d lists further out
  abbrev pub behind_from : ℕ → ℕ → List (Mark ℕ) → ℕ
  behind_from d at [] = 0
  behind_from d at (Open j ∷ ms) = behind_from (if is_parent es j then suc d else d) (at + size_of (Open j)) ms
  behind_from zero at (Null ∷ ms) = at + 1
  behind_from (suc d) at (Null ∷ ms) = behind_from d (at + 1) ms

  -- the place past an entry
  abbrev pub past_from : ℕ → List (Mark ℕ) → ℕ → ℕ
  past_from at [] i = 0
  past_from at (Open j ∷ ms) i =
      if j == i then (if is_parent es j then behind_from 0 (at + size_of (Open j)) ms else at + size_of (Open j))
      else past_from (at + size_of (Open j)) ms i
  past_from at (Null ∷ ms) i = past_from (at + 1) ms i

  -- both, of marks of which the first stands at a place
  abbrev pub laid_from : ℕ → List (Mark ℕ) → Placement
  laid_from at ms = record { place = place_from at ms; past = past_from at ms }

-- the bytes of each entry where entries stand at these places
abbrev pub sized : Encoding → List EntryValue → List Shape → (ℕ → ℕ) → ℕ → ℕ
sized e es shapes place i = entry_size e (found place) (code_of_entry e es shapes i) (entry_at es i)

-- THE placement of marks: each entry stands behind all that is before it, in the sizes that these very places give.
abbrev pub IsPlacement : ((ℕ → ℕ) → ℕ → ℕ) → List EntryValue → ℕ → List (Mark ℕ) → Placement → Type 0
IsPlacement size es start ms p = IsSamePlacement p (laid_from (size p.place) es start ms)

-- The first so many marks have no room in 64 bits where they stand: a front of them ends past that. Behind it no entry has a place.
pub record HasNoRoom (size : (ℕ → ℕ) → ℕ → ℕ) (es : List EntryValue) (start : ℕ) (ms : List (Mark ℕ)) : Type 0 where
  pub count : ℕ
  pub place : ℕ → ℕ
  pub placed : (i : ℕ) → place i ≡ place_from (size place) es start (take count ms) i
  pub full : 2 ^ 64 ≤ start + sizes_of (size place) es (take count ms)
