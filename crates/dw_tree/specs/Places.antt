-- Where the entries of a unit stand.
use Rattle.std.specs.Prelude.{◌≡◌, ℕ, ◌+◌, Bool, not, ◌==◌, List, Option, Some, None, IsTrue, slice_index, if◌then◌else◌}
use Rattle.std.specs.Option.{option_map}
use Rattle.dw_base.specs.Numbers.{◌>>=◌, word_of, fits}
use Rattle.dw_base.specs.declared.common.Format.{Format}
use Rattle.dw_writer.specs.Drafts.{Info}
use Rattle.dw_entries.specs.Targets.{Tables, UnitTargets}
use Rattle.dw_tree.specs.declared.places.Places.{Places}

-- Where each entry stands in its unit, and the place past it: behind the zero that closes its children, or behind itself
-- where it has none. An entry that isn't in the tree stands at 0, where the header does.
pub record Placement : Type 0 where
  pub place : ℕ → ℕ
  pub past : ℕ → ℕ

-- an entry has a place
abbrev pub has_place : Placement → ℕ → Bool
has_place p i = not (p.place i == 0)

-- the place of an entry, if it has one
abbrev pub found : (ℕ → ℕ) → ℕ → Option ℕ
found place i = if place i == 0 then None else Some (place i)

-- what the operands of a unit lead to whose entries stand there, and what has its tables there
abbrev pub targets_of : Tables → Placement → UnitTargets
targets_of t p = record { place = found p.place; past = p.past; tables = t }

-- the places that the code keeps, each under its entry's index
abbrev pub placement_of : Places → Placement
placement_of p = record { place = slice_index p.places.items; past = slice_index p.pasts.items }

-- the places that are known there
abbrev pub known_at : Places → ℕ → Option ℕ
known_at p = found (placement_of p).place

-- each place fits a word
abbrev pub FitsWords : Format → Placement → Type 0
FitsWords format p = (i : ℕ) → IsTrue (fits (word_of format) (p.place i)) × IsTrue (fits (word_of format) (p.past i))

-- the same places
pub record IsSamePlacement (p q : Placement) : Type 0 where
  pub place : (i : ℕ) → p.place i ≡ q.place i
  pub past : (i : ℕ) → p.past i ≡ q.past i

-- Where a unit begins in .debug_info, and where each entry of its tree stands, counted from there.
pub record Offsets : Type 0 where
  pub start : ℕ
  pub place : ℕ → Option ℕ

-- The same as a unit keeps it: the places under the indices of entries, and 0 for those that don't stand in the tree.
pub record OffsetsValue : Type 0 where
  pub start : ℕ
  pub places : List ℕ

abbrev pub offsets_in : OffsetsValue → Offsets
offsets_in o = record { start = o.start; place = found (slice_index o.places) }

-- the place of an entry in .debug_info
abbrev pub in_info : Offsets → ℕ → Option ℕ
in_info o i = option_map (λ n. o.start + n) (o.place i)

-- the places of all entries, where each unit's offsets are known by its number
abbrev pub info_from : (ℕ → Option Offsets) → Info
info_from offsets n i = offsets n >>= λ o. in_info o i
