-- The entries that a unit may name (DWARF 5, 7.5.4).
use Rattle.std.specs.Prelude.{ℕ, ◌==◌, Option, Some, None, if◌then◌else◌}
use Rattle.dw_base.specs.declared.address.DebugInfoRef.{DebugInfoRef}
use Rattle.dw_base.specs.declared.address.DebugInfoRef.TheVariants.{Entry}
use Rattle.dw_base.specs.declared.ids.UnitEntryId.{UnitEntryId}
use Rattle.dw_entry_ids.specs.Ids.{Id, ids_at}
use Rattle.dw_entry_ids.specs.declared.ids.EntryIds.{EntryIds}
use Rattle.dw_dwarf.specs.Sums.{sum}
use Rattle.dw_dwarf.specs.UnitIds.{placed_id}
use Rattle.dw_dwarf.specs.declared.convert.refs.UnitRefs.{UnitRefs}

abbrev pub id_at : EntryIds → Option ℕ → Option Id
id_at ids None = None
id_at ids (Some place) = ids_at ids place

-- the id of an entry, where its unit is this one
abbrev pub own_entry : Option ℕ → ℕ → Option Id → Option UnitEntryId
own_entry behind k None = None
own_entry behind k (Some i) = if i.0.0 == k then placed_id behind i.1 else None

abbrev pub entry_in : Option ℕ → UnitEntryId → Option DebugInfoRef
entry_in None entry = None
entry_in (Some k) entry = Some (Entry (record { 0 = k }) entry)

abbrev pub placed_in : Option ℕ → Option UnitEntryId → Option DebugInfoRef
placed_in k None = None
placed_in k (Some entry) = entry_in k entry

-- an entry of a unit, the first of all units being that of a number
abbrev pub entry_from : Option ℕ → ℕ → Option Id → Option DebugInfoRef
entry_from behind first None = None
entry_from behind first (Some i) = placed_in (sum first i.0.0) (placed_id behind i.1)

-- the entry of unit k, which begins at a place of .debug_info, at a place in it; its ids behind the root's may begin at another one
abbrev pub entry_behind : Option ℕ → EntryIds → ℕ → ℕ → ℕ → Option UnitEntryId
entry_behind behind ids k start n = own_entry behind k (id_at ids (sum start n))

-- the entry of any unit at a place in .debug_info
abbrev pub info_behind : Option ℕ → EntryIds → ℕ → ℕ → Option DebugInfoRef
info_behind behind ids first n = entry_from behind first (ids_at ids n)

-- those of units of their own
abbrev pub entry_for : EntryIds → ℕ → ℕ → ℕ → Option UnitEntryId
entry_for = entry_behind None

abbrev pub info_for : EntryIds → ℕ → ℕ → Option DebugInfoRef
info_for = info_behind None

abbrev pub entry_of : UnitRefs → ℕ → Option UnitEntryId
entry_of r = entry_behind r.behind r.ids.now r.unit.0 r.start

abbrev pub info_of : UnitRefs → ℕ → Option DebugInfoRef
info_of r = info_behind r.behind r.ids.now r.first
