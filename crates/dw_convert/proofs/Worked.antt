-- Worked rows: numbers of files, constants of declarations, values that stay, and doubled names.
use Rattle.std.proofs.Common.{◌≡◌, List, [], ◌∷◌, Some, None, Ok, Err, true, false, refl}
use Rattle.std.specs.Prelude.{◌-◌, ◌^◌, pos, negsuc}
use Rattle.dw_base.specs.declared.ids.FileId.{FileId}
use Rattle.dw_entries.specs.declared.value.AttributeValue.TheVariants as built
use Rattle.dw_read.specs.declared.value.AttributeValue.TheVariants as read
use Rattle.dw_sources.specs.declared.convert_error.ConvertError.TheVariants.{InvalidAttributeValue, InvalidFileIndex, InvalidLineRef, IntegerOverflow}
use Rattle.dw_convert.specs.Constants.{same_value}
use Rattle.dw_convert.specs.Exprlocs.{is_index}
use Rattle.dw_convert.specs.Files.{file_image, declared_image}
use Rattle.dw_convert.specs.AttributeLists.{once}
use Rattle.dw_convert.specs.Values.{program_image}

-- the files of the numbers 0 to 2, of which the last is kept before the first
abbrev files : List FileId
files = record { 0 = 7 } ∷ record { 0 = 7 } ∷ record { 0 = 4 } ∷ []

-- DWARF 4, 6.2.4: files are counted from 1, and 0 is none
none-4 : file_image 4 files 0 ≡ Ok None
none-4 = refl

file-4 : file_image 4 files 2 ≡ Ok (Some (record { 0 = 4 }))
file-4 = refl

past-4 : file_image 4 files 3 ≡ Err InvalidFileIndex
past-4 = refl

-- DWARF 5, 6.2.4: files are counted from 0
first-5 : file_image 5 files 0 ≡ Ok (Some (record { 0 = 7 }))
first-5 = refl

file-5 : file_image 5 files 2 ≡ Ok (Some (record { 0 = 4 }))
file-5 = refl

past-5 : file_image 5 files 3 ≡ Err InvalidFileIndex
past-5 = refl

-- the id 4 is the fifth: the number 5 in version 4, and 4 in version 5; 0x3a is DW_AT_decl_file, 0x58 is DW_AT_call_file
declared-4 : declared_image 4 files 0x3a (pos 2) ≡ Ok (pos 5)
declared-4 = refl

declared-5 : declared_image 5 files 0x58 (pos 2) ≡ Ok (pos 4)
declared-5 = refl

no_file-4 : declared_image 4 files 0x3a (pos 0) ≡ Ok (pos 0)
no_file-4 = refl

first_file-5 : declared_image 5 files 0x3a (pos 0) ≡ Ok (pos 7)
first_file-5 = refl

-- numbers of no file stay, and so do those under another name, as DW_AT_byte_size
past_files : declared_image 5 files 0x3a (pos 3) ≡ Ok (pos 3)
past_files = refl

negative : declared_image 5 files 0x3a (negsuc 0) ≡ Ok (negsuc 0)
negative = refl

size : declared_image 5 files 0x0b (pos 2) ≡ Ok (pos 2)
size = refl

-- the largest constant is 2 to the 63rd less 1, and the number of this id is one more in version 4
too_large : declared_image 4 (record { 0 = 0 } ∷ record { 0 = 2 ^ 63 - 1 } ∷ []) 0x3a (pos 1) ≡ Err IntegerOverflow
too_large = refl

-- DW_AT_name twice around DW_AT_byte_size: the last value at the first place
doubled : once ((record { 0 = 0x03 }, built.Data1 1) ∷ (record { 0 = 0x0b }, built.Data1 8) ∷ (record { 0 = 0x03 }, built.Data1 2) ∷ [])
    ≡ (record { 0 = 0x03 }, built.Data1 2) ∷ (record { 0 = 0x0b }, built.Data1 8) ∷ []
doubled = refl

-- the same number in the same form; a place in a section that no name tells is none
number : same_value (read.Udata 300) ≡ Ok (built.Udata 300)
number = refl

split_unit : same_value (read.DwoId (record { 0 = 0x1122334455667788 })) ≡ Ok (built.Udata 0x1122334455667788)
split_unit = refl

nowhere : same_value (read.SecOffset 4) ≡ Err InvalidAttributeValue
nowhere = refl

own : program_image (Some (record { 0 = 0x20 })) 0x20 ≡ Ok built.LineProgramRef
own = refl

other : program_image (Some (record { 0 = 0x20 })) 0x21 ≡ Err InvalidLineRef
other = refl

-- DW_OP_constu 5 under DW_AT_vtable_elem_location; DW_OP_const1u 5 there, and the first one under DW_AT_location, are expressions
index : is_index 0x4d (0x10 ∷ 0x05 ∷ []) ≡ true
index = refl

other_constant : is_index 0x4d (0x08 ∷ 0x05 ∷ []) ≡ false
other_constant = refl

other_name : is_index 0x02 (0x10 ∷ 0x05 ∷ []) ≡ false
other_name = refl

empty : is_index 0x4d [] ≡ false
empty = refl
