-- One entry that is converted, among those of its unit.
use Rattle.std.specs.Prelude.{ℕ, zero, suc, ◌==◌, List, map, Bool, not, ◌&&◌}
use Rattle.dw_base.specs.declared.ids.UnitEntryId.{UnitEntryId}
use Rattle.dw_entries.specs.Entries.{EntryValue, blank_entry, new_root, with_added, with_changed}
use Rattle.dw_entries.specs.declared.attribute.Attribute.{Attribute}
use Rattle.dw_read.specs.Reading.{Reading}
use Rattle.dw_read.specs.Rows.{entry_of}
use Rattle.dw_read.specs.declared.entry.DebuggingInformationEntry.{DebuggingInformationEntry}
use Rattle.dw_dwarf.specs.ConvertedEntries.{Values, attribute_of}
use Rattle.dw_entry_ids.specs.Plans.{Plan, names_sibling}

-- what stands under an id before its entry is converted
abbrev pub unconverted : ℕ → EntryValue
unconverted zero = new_root
unconverted (suc n) = blank_entry (suc n)

-- the entries with one added under its parent. The root is there
abbrev pub with_placed : ℕ → ℕ → ℕ → ℕ → List EntryValue → List EntryValue
with_placed reserved zero parent tag es = es
with_placed reserved (suc n) parent tag es = with_added reserved (suc n) parent tag es

-- an entry with another flag and other attributes
abbrev pub with_contents : Bool → List Attribute → EntryValue → EntryValue
with_contents sibling xs e = record e { sibling = sibling; attributes = xs }

-- the entries, of which so many ids were handed out, with one that is converted to values
abbrev pub with_converted : ℕ → Plan → Values → List EntryValue → List EntryValue
with_converted reserved p values es =
    with_changed p.number (with_contents (not (p.number == 0) && names_sibling p.entry) (map attribute_of values)) (with_placed reserved p.number p.parent p.entry.tag es)

-- an entry that was read under a code, with its id and that of its parent
abbrev pub plan_for : {R E : Type 0} → (R → Reading) → ℕ → UnitEntryId → UnitEntryId → DebuggingInformationEntry R E → Plan
plan_for reading code id parent d = record { number = id.0; parent = parent.0; entry = entry_of reading code d }
