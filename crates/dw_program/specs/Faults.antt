-- Why what was built can't be written.
use Rattle.std.specs.Prelude.{Bool}
use Rattle.dw_base.specs.declared.error.Error.{Error}
use Rattle.dw_tree.specs.Built.{at_begin}
use Rattle.dw_dwarf.specs.DwarfValue.{DwarfValue}
use Rattle.dw_dwarf.specs.Valid.{DwarfFails, empty_ends}

-- Writers that are plain or not can't take some unit, where its table and its own parts of other sections stand behind those of
-- the units before it, or some reference across units leads to no entry, or to one whose place has no room.
abbrev pub HasFault : Bool → DwarfValue → Error → Type 0
HasFault is_plain d error = DwarfFails is_plain at_begin (empty_ends is_plain) d error
