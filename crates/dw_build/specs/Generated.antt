-- The input that `make` generates: units of up to a thousand variables, which all have one base type.
use Rattle.std.specs.Prelude.{ℕ, zero, suc, ◌+◌, ◌-◌, ◌*◌, ◌/◌, ◌%◌, ◌==◌, min, List, [], ◌∷◌, ◌++◌, Some, if◌then◌else◌}
use Rattle.dw_base.specs.declared.common.Encoding.{Encoding}
use Rattle.dw_base.specs.declared.common.Format.TheVariants.{Dwarf32}
use Rattle.dw_base.specs.declared.address.DebugInfoRef.TheVariants.{Entry}
use Rattle.dw_base.specs.declared.constants.TheConstants.{DW_TAG_base_type, DW_TAG_variable, DW_AT_byte_size, DW_AT_type, DW_AT_specification}
use Rattle.dw_entries.specs.declared.attribute.Attribute.{Attribute}
use Rattle.dw_entries.specs.declared.value.AttributeValue.{AttributeValue}
use Rattle.dw_entries.specs.declared.value.AttributeValue.TheVariants.{Data1, Udata, UnitRef, DebugInfoRef}
use Rattle.dw_entries.specs.Attributes.{named}
use Rattle.dw_entries.specs.Entries.{EntryValue, blank_entry, new_root}
use Rattle.dw_line.specs.LinePrograms.{no_line_program}
use Rattle.dw_tree.specs.UnitValue.{UnitValue, new_unit}
use Rattle.dw_dwarf.specs.DwarfValue.{DwarfValue}

-- the most variables that are generated
abbrev pub most_variables : ℕ
most_variables = 1000000

-- version 5, addresses of 8 bytes, 32-bit
abbrev pub generated_encoding : Encoding
generated_encoding = record { address_size = 8; format = Dwarf32; version = 5 }

-- each unit holds so many variables, and the last one what is left
abbrev pub unit_variables : ℕ
unit_variables = 1000

-- the root of the first unit, which every hundredth variable names
abbrev pub first_root : AttributeValue
first_root = DebugInfoRef (Entry (record { 0 = 0 }) (record { 0 = 0 }))

-- the base type's entry in each unit
abbrev pub base_type_id : ℕ
base_type_id = 1

-- the attributes of the variable of a number
abbrev pub variable_attributes : ℕ → List Attribute
variable_attributes i =
    named DW_AT_byte_size.0 (Udata i) ∷ named DW_AT_type.0 (UnitRef (record { 0 = base_type_id }))
    ∷ (if (i % 100) == 0 then named DW_AT_specification.0 first_root ∷ [] else [])

-- the entry of a variable
abbrev pub variable : ℕ → ℕ → EntryValue
variable id i = record (blank_entry id) { parent = Some 0; tag = DW_TAG_variable.0; attributes = variable_attributes i }

-- the entry of the base type
abbrev pub base_type : EntryValue
base_type = record (blank_entry base_type_id) { parent = Some 0; tag = DW_TAG_base_type.0; attributes = named DW_AT_byte_size.0 (Data1 4) ∷ [] }

-- so many variables from a number on: their ids, from 2 on, and their entries
abbrev pub variable_ids : ℕ → List ℕ
variable_ids zero = []
variable_ids (suc n) = variable_ids n ++ (2 + n) ∷ []

abbrev pub variables : ℕ → ℕ → List EntryValue
variables from zero = []
variables from (suc n) = variables from n ++ variable (2 + n) (from + n) ∷ []

-- a unit of so many variables from a number on. The base type is the root's last child.
abbrev pub generated_unit : ℕ → ℕ → UnitValue
generated_unit from n =
    record (new_unit generated_encoding no_line_program) {
      entries = record new_root { children = variable_ids n ++ base_type_id ∷ [] } ∷ base_type ∷ variables from n;
      reserved = 2 + n;
    }

-- the first k units of so many variables in all
abbrev pub generated_units : ℕ → ℕ → List UnitValue
generated_units n zero = []
generated_units n (suc k) = generated_units n k ++ generated_unit (k * unit_variables) (min unit_variables (n - k * unit_variables)) ∷ []

-- what is generated for so many variables
abbrev pub generated : ℕ → DwarfValue
generated n = record { units = generated_units n (n / unit_variables + 1); line_programs = []; line_strings = []; strings = [] }
