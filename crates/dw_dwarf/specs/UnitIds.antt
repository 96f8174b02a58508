-- The ids of the entries of a unit. Those of a unit of its own are their numbers. A unit that was split off is put back into its
-- skeleton's (DWARF 5, 3.1.3): its root is the skeleton's, and its other entries have ids from the first one that was free.
use Rattle.std.specs.Prelude.{ℕ, zero, suc, ◌+◌, ◌-◌, ◌≤◌, List, [], ◌∷◌, ◌++◌, map, Option, Some, None}
use Rattle.dw_base.specs.declared.ids.UnitEntryId.{UnitEntryId}
use Rattle.dw_entries.specs.Entries.{EntryValue, filled_from}
use Rattle.dw_entry_ids.specs.Plans.{Plan}
use Rattle.dw_dwarf.specs.ConvertedEntries.{Values, built_entries}
use Rattle.dw_dwarf.specs.Sums.{sum}

-- the id of the entry of a number, where those behind the root begin at an id
abbrev pub id_behind : ℕ → ℕ → ℕ
id_behind first zero = 0
id_behind first (suc n) = first + n

abbrev pub id_of : Option ℕ → ℕ → ℕ
id_of None n = n
id_of (Some first) n = id_behind first n

-- those of an entry, if it has a number
abbrev pub ids_of : Option ℕ → Option UnitEntryId → Option UnitEntryId
ids_of None o = o
ids_of (Some first) None = None
ids_of (Some first) (Some n) = Some (record { 0 = id_behind first n.0 })

-- the root's id isn't free
abbrev pub first_or_next : Option ℕ → ℕ
first_or_next None = 1
first_or_next (Some first) = first

abbrev pub IsFree : Option ℕ → Type 0
IsFree first = 1 ≤ first_or_next first

-- the id of an entry, where it has room
abbrev pub id_if : Option ℕ → Option UnitEntryId
id_if None = None
id_if (Some n) = Some (record { 0 = n })

abbrev pub placed_behind : ℕ → ℕ → Option UnitEntryId
placed_behind first zero = Some (record { 0 = 0 })
placed_behind first (suc n) = id_if (sum first n)

abbrev pub placed_id : Option ℕ → UnitEntryId → Option UnitEntryId
placed_id None id = Some id
placed_id (Some first) id = placed_behind first id.0

-- an entry with its id, and its parent's
abbrev pub plan_behind : ℕ → Plan → Plan
plan_behind first p = record { number = id_behind first p.number; parent = id_behind first p.parent; entry = p.entry }

-- under the ids between the root's and the first of the others no entry was added
abbrev pub behind_gap : ℕ → List EntryValue → List EntryValue
behind_gap first [] = []
behind_gap first (e ∷ es) = filled_from 1 (first - 1) [] ++ e ∷ es

abbrev pub with_gap : ℕ → List EntryValue → List EntryValue
with_gap first [] = []
with_gap first (root ∷ es) = root ∷ behind_gap first es

-- the entries of a unit, each with its values
abbrev pub unit_entries : Option ℕ → List Plan → List Values → List EntryValue
unit_entries None ps vs = built_entries ps ps vs
unit_entries (Some first) ps vs = let qs = map (plan_behind first) ps in with_gap first (built_entries qs qs vs)
