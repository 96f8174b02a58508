-- What is generated, read on the definitions.
use Rattle.std.proofs.Common.{◌≡◌, [], ◌∷◌, Some, refl}
use Rattle.dw_base.specs.declared.common.Format.TheVariants.{Dwarf32}
use Rattle.dw_line.specs.LinePrograms.{no_line_program}
use Rattle.dw_tree.specs.UnitValue.{new_unit}
use Rattle.dw_base.specs.declared.address.DebugInfoRef.TheVariants.{Entry}
use Rattle.dw_entries.specs.Attributes.{named}
use Rattle.dw_entries.specs.Entries.{blank_entry, new_root}
use Rattle.dw_entries.specs.declared.value.AttributeValue.TheVariants.{Data1, Udata, UnitRef, DebugInfoRef}
use Rattle.dw_build.specs.Generated.{generated}

-- no variable: the base type is the root's one child
none_generated : (generated 0).units ≡ record (new_unit (record { address_size = 8; format = Dwarf32; version = 5 }) no_line_program) {
  entries = record new_root { children = 1 ∷ [] } ∷ record (blank_entry 1) { parent = Some 0; tag = 36; attributes = named 11 (Data1 4) ∷ [] } ∷ [];
  reserved = 2;
} ∷ []
none_generated = refl

-- one variable, which names the root of its own unit
one_generated : (generated 1).units ≡ record (new_unit (record { address_size = 8; format = Dwarf32; version = 5 }) no_line_program) {
  entries =
      record new_root { children = 2 ∷ 1 ∷ [] } ∷ record (blank_entry 1) { parent = Some 0; tag = 36; attributes = named 11 (Data1 4) ∷ [] }
      ∷ record (blank_entry 2) { parent = Some 0; tag = 52; attributes = named 11 (Udata 0) ∷ named 73 (UnitRef (record { 0 = 1 })) ∷ named 71 (DebugInfoRef (Entry (record { 0 = 0 }) (record { 0 = 0 }))) ∷ [] } ∷ [];
  reserved = 3;
} ∷ []
one_generated = refl
