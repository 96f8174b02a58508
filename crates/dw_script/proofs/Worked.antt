-- Lines, read on the definition.
use Rattle.std.proofs.Common.{◌≡◌, ◌∷◌, [], Some, None, Ok, Err, codes, refl}
use Rattle.dw_base.specs.declared.address.Address.TheVariants as address
use Rattle.dw_base.specs.declared.common.Format.TheVariants.{Dwarf32}
use Rattle.dw_script.specs.declared.change.Change.TheVariants as change
use Rattle.dw_script.specs.declared.command.Command.TheVariants as command
use Rattle.dw_ends.specs.declared.reason.Reason.TheVariants.{BadByte, UnknownWord, BadNumber}
use Rattle.dw_script_fields.specs.declared.value.Value.TheVariants as value
use Rattle.dw_script_fields.specs.Codes.{tag_of, attribute_of}
use Rattle.dw_script_fields.specs.Kinds.{kind_of}
use Rattle.dw_script.specs.Lines.{parsed_line}
use Rattle.hex.specs.Hex.{decode_pairs}

-- a unit of version 5, with addresses of 8 bytes, in the 32-bit format, which is spelled in base 16
hex_unit : parsed_line (codes "unit 5 8 0x20") ≡ Ok (Some (command.Unit (record { address_size = 8; format = Dwarf32; version = 5 })))
unfolding parsed_line
hex_unit = refl

-- a remark
remark : parsed_line (codes "# anything") ≡ Ok None
unfolding parsed_line
remark = refl

-- `frob` and a tab: the byte comes before the word
tab : parsed_line (102 ∷ 114 ∷ 111 ∷ 98 ∷ 9 ∷ []) ≡ Err BadByte
unfolding parsed_line
tab = refl

-- the leftmost cause is the one given
first_cause : parsed_line (codes "unit 5 8 16 9") ≡ Err BadNumber
unfolding parsed_line
first_cause = refl

-- an entry, by the name of its tag
add_name : parsed_line (codes "add 0 0 DW_TAG_variable") ≡ Ok (Some (command.Change 0 (change.Add 0 (record { 0 = 0x34 }))))
unfolding parsed_line tag_of
add_name = refl

-- no name of a tag
unknown_tag : parsed_line (codes "add 0 0 DW_TAG_frob") ≡ Err UnknownWord
unfolding parsed_line tag_of
unknown_tag = refl

-- an entry of a reserved id: the id comes before the entry above it, and the unit before both
add_reserved : parsed_line (codes "add_reserved 1 2 3 DW_TAG_variable") ≡ Ok (Some (command.Change 1 (change.AddReserved 2 3 (record { 0 = 0x34 }))))
unfolding parsed_line tag_of
add_reserved = refl

-- a child, taken out: the entry above it comes first
delete_child : parsed_line (codes "delete_child 1 2 3") ≡ Ok (Some (command.Change 1 (change.DeleteChild 2 3)))
unfolding parsed_line
delete_child = refl

-- a string of the byte 0x61
set_string : parsed_line (codes "set 0 1 DW_AT_name string 61") ≡ Ok (Some (command.Change 0 (change.Set 1 (record { 0 = 3 }) (value.String (0x61 ∷ [])))))
unfolding parsed_line attribute_of kind_of decode_pairs
set_string = refl

-- a string of no bytes
set_empty : parsed_line (codes "set 0 0 3 string -") ≡ Ok (Some (command.Change 0 (change.Set 0 (record { 0 = 3 }) (value.String []))))
unfolding parsed_line attribute_of kind_of
set_empty = refl

-- an address
set_address : parsed_line (codes "set 0 1 0x11 address 0x1000") ≡ Ok (Some (command.Change 0 (change.Set 1 (record { 0 = 0x11 }) (value.Address (address.Constant 0x1000)))))
unfolding parsed_line attribute_of kind_of
set_address = refl
