-- The units that are written for those that were read.
use Rattle.std.specs.Prelude.{◌≡◌, ℕ, [], ◌∷◌, true, false, is_none}
use Rattle.dw_base.specs.declared.common.Encoding.{Encoding}
use Rattle.dw_entries.specs.Entries.{EntryValue, new_root, compile_unit_tag}
use Rattle.dw_line.specs.LinePrograms.{no_line_program}
use Rattle.dw_entry_ids.specs.declared.units.NumberedUnit.{NumberedUnit}
use Rattle.dw_tree.specs.UnitValue.{UnitValue, new_unit}

-- a new unit with so many ids
abbrev pub unit_with : Encoding → ℕ → UnitValue
unit_with encoding count = record (new_unit encoding no_line_program) { reserved = count }

-- the unit for one that was read: in its encoding, with its root alone, and an id for each of its entries
abbrev pub unit_for : {R E : Type 0} → NumberedUnit R E → UnitValue
unit_for n = unit_with n.unit.header.fields.encoding n.entries

-- an entry as a root is made, but for its id and its parent
pub record IsBareRoot (e : EntryValue) : Type 0 where
  pub tag : e.tag ≡ compile_unit_tag
  pub sibling : e.sibling ≡ false
  pub attributes : e.attributes ≡ []
  pub children : e.children ≡ []

-- a unit of its root alone, with so many ids, that is neither written nor skipped
pub record IsNewUnit (encoding : Encoding) (count : ℕ) (u : UnitValue) : Type 0 where
  pub unwritten : u.is_written ≡ false
  pub kept : u.is_freed ≡ false
  pub encoded : u.encoding ≡ encoding
  pub program : is_none u.line_program.program ≡ true
  pub ranges : u.ranges ≡ []
  pub locations : u.locations ≡ []
  pub entries : u.entries ≡ new_root ∷ []
  pub reserved : u.reserved ≡ count
