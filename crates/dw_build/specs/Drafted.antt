-- What the calls that add a variable and the base type make of a unit.
use Rattle.std.specs.Prelude.{ℕ, ◌+◌, ◌%◌, ◌==◌, if◌then◌else◌}
use Rattle.dw_base.specs.declared.constants.TheConstants.{DW_TAG_variable, DW_TAG_base_type, DW_AT_byte_size, DW_AT_type, DW_AT_specification}
use Rattle.dw_entries.specs.declared.value.AttributeValue.TheVariants.{Data1, Udata, UnitRef}
use Rattle.dw_entries.specs.Entries.{with_added, with_attribute}
use Rattle.dw_tree.specs.UnitValue.{UnitValue, with_entry}
use Rattle.dw_build.specs.Generated.{first_root}

-- a unit with a variable behind the root's other children, without attributes
abbrev pub with_bare_variable : UnitValue → UnitValue
with_bare_variable u =
    record u { entries = with_added (u.reserved + 1) u.reserved 0 DW_TAG_variable.0 u.entries; reserved = u.reserved + 1 }

-- a unit with the attributes that each variable has
abbrev pub with_described : ℕ → ℕ → ℕ → UnitValue → UnitValue
with_described id base i u =
    with_entry (with_entry u id (with_attribute DW_AT_byte_size.0 (Udata i))) id (with_attribute DW_AT_type.0 (UnitRef (record { 0 = base })))

-- a unit with the variable of a number, of a base type
abbrev pub with_variable : ℕ → ℕ → UnitValue → UnitValue
with_variable base i u =
    let described = with_described u.reserved base i (with_bare_variable u) in
    if (i % 100) == 0 then with_entry described u.reserved (with_attribute DW_AT_specification.0 first_root) else described

-- a unit with the base type behind the root's other children
abbrev pub with_base_type : ℕ → UnitValue → UnitValue
with_base_type id u =
    with_entry (record u { entries = with_added u.reserved id 0 DW_TAG_base_type.0 u.entries }) id (with_attribute DW_AT_byte_size.0 (Data1 4))
