-- Rows that compute: bytes of operations, and what they are read as, where the bytes behind an operation are left; and names of
-- attributes that are dropped.
use Rattle.std.proofs.Common.{◌≡◌, [], ◌∷◌, Some, None, Err, true, false, refl}
use Rattle.std.specs.Prelude.{pos, negsuc}
use Rattle.dw_base.specs.Numbers.{bytes_at, number_at}
use Rattle.dw_base.specs.Leb128.{groups_at, signed_groups_at}
use Rattle.dw_base.specs.declared.common.Encoding.{Encoding}
use Rattle.dw_base.specs.declared.common.Format.TheVariants.{Dwarf32}
use Rattle.dw_read.specs.Reasons.{bytes_read, number_read, uleb_read, uleb16_read, sleb_read, address_read}
use Rattle.dw_read.specs.declared.error.ReadError.TheVariants.{UnexpectedEof, BadLeb128, UnsupportedAddressSize, InvalidExpression, InvalidPiece}
use Rattle.dw_sources.specs.Dropped.{is_dropped, is_left_out}
use Rattle.dw_sources.specs.Operations.{Simple, Address, UnsignedConstant, SignedConstant, ConstantType, RegisterOffset, Pick, Skip, CallRef, Convert, EntryValue, Register, ImplicitPointer, WasmGlobal}
use Rattle.dw_sources.specs.Operands.{signed_read, base_read, block_read, short_block_read, info_place_read}
use Rattle.dw_sources.specs.OperationTable.{is_simple, plain_of, wasm_read, literals, stack_operations, entry_operations, typed_operations, location_rows, locations, behind, operation_read, operation_at}

-- version 5 with 4 bytes an address, and version 2 with 8
abbrev five : Encoding
five = record { address_size = 4; format = Dwarf32; version = 5 }

abbrev two : Encoding
two = record { address_size = 8; format = Dwarf32; version = 2 }

literal : operation_at false five (0x37 ∷ 0x9f ∷ []) ≡ Some (UnsignedConstant 7, 0x9f ∷ [])
unfolding operation_at operation_read behind plain_of is_simple number_read number_at bytes_at
literal = refl

register : operation_at false five (0x6f ∷ []) ≡ Some (Register 31, [])
unfolding operation_at operation_read behind plain_of is_simple number_read number_at bytes_at
register = refl

duplicate : operation_at false five (0x12 ∷ []) ≡ Some (Pick 0, [])
unfolding operation_at operation_read behind plain_of is_simple number_read number_at bytes_at
duplicate = refl

stack_value : operation_at false five (0x9f ∷ []) ≡ Some (Simple 0x9f, [])
unfolding operation_at operation_read behind plain_of is_simple number_read number_at bytes_at
stack_value = refl

address : operation_at false five (0x03 ∷ 0x78 ∷ 0x56 ∷ 0x34 ∷ 0x12 ∷ []) ≡ Some (Address 0x12345678, [])
unfolding operation_at operation_read behind plain_of is_simple literals address_read number_read number_at bytes_at
address = refl

-- two bytes less one, the highest first
signed : operation_at true five (0x0b ∷ 0xff ∷ 0xfe ∷ []) ≡ Some (SignedConstant (negsuc 1), [])
unfolding operation_at operation_read behind plain_of is_simple literals signed_read number_read number_at bytes_at
signed = refl

-- a branch over two bytes
branch : operation_at false five (0x2f ∷ 0x02 ∷ 0x00 ∷ 0x10 ∷ 0x17 ∷ []) ≡ Some (Skip (pos 2), 0x10 ∷ 0x17 ∷ [])
unfolding operation_at operation_read behind plain_of is_simple literals stack_operations signed_read number_read number_at bytes_at
branch = refl

-- the register of a code and a signed offset
based : operation_at false five (0x75 ∷ 0x70 ∷ []) ≡ Some (RegisterOffset 5 (negsuc 15), [])
unfolding operation_at operation_read behind plain_of is_simple literals stack_operations entry_operations typed_operations locations sleb_read signed_groups_at number_read number_at bytes_at
based = refl

-- the code of the extension is read in version 5, too
typed : operation_at false five (0xf4 ∷ 0x2a ∷ 0x02 ∷ 0xaa ∷ 0xbb ∷ []) ≡ Some (ConstantType 0x2a (0xaa ∷ 0xbb ∷ []), [])
unfolding operation_at operation_read behind plain_of is_simple literals stack_operations entry_operations typed_operations short_block_read uleb_read groups_at bytes_read number_read number_at bytes_at
typed = refl

generic : operation_at false five (0xa8 ∷ 0x00 ∷ []) ≡ Some (Convert None, [])
unfolding operation_at operation_read behind plain_of is_simple literals stack_operations entry_operations typed_operations base_read uleb_read groups_at number_read number_at bytes_at
generic = refl

-- an expression within is given by its bytes
nested : operation_at false five (0xa3 ∷ 0x01 ∷ 0x55 ∷ 0x9f ∷ []) ≡ Some (EntryValue (0x55 ∷ []), 0x9f ∷ [])
unfolding operation_at operation_read behind plain_of is_simple literals stack_operations entry_operations typed_operations locations location_rows block_read uleb_read groups_at bytes_read number_read number_at bytes_at
nested = refl

-- a place in .debug_info is an address wide in version 2 alone, where DW_OP_call_ref has a word
old_pointer : operation_at false two (0xf2 ∷ 0x05 ∷ 0 ∷ 0 ∷ 0 ∷ 0 ∷ 0 ∷ 0 ∷ 0 ∷ 0x7f ∷ []) ≡ Some (ImplicitPointer 5 (negsuc 0), [])
unfolding operation_at operation_read behind plain_of is_simple literals stack_operations entry_operations info_place_read address_read sleb_read signed_groups_at number_read number_at bytes_at
old_pointer = refl

old_call : operation_at false two (0x9a ∷ 0x05 ∷ 0 ∷ 0 ∷ 0 ∷ []) ≡ Some (CallRef 5, [])
unfolding operation_at operation_read behind plain_of is_simple literals stack_operations entry_operations number_read number_at bytes_at
old_call = refl

-- a global of WebAssembly by four bytes, and a kind that is none
global : operation_at false five (0xed ∷ 0x03 ∷ 0x05 ∷ 0 ∷ 0 ∷ 0 ∷ []) ≡ Some (WasmGlobal 5, [])
unfolding operation_at operation_read behind plain_of is_simple literals stack_operations entry_operations typed_operations locations location_rows wasm_read number_read number_at bytes_at
global = refl

no_kind : operation_read false five (0xed ∷ 0x04 ∷ 0x05 ∷ []) ≡ Err (InvalidExpression (record { 0 = 0xed }))
unfolding operation_read behind plain_of is_simple literals stack_operations entry_operations typed_operations locations location_rows wasm_read number_read number_at bytes_at
no_kind = refl

-- a code that no operation has
no_code : operation_read false five (0xff ∷ []) ≡ Err (InvalidExpression (record { 0 = 0xff }))
unfolding operation_read behind plain_of is_simple literals stack_operations entry_operations typed_operations locations location_rows number_read number_at bytes_at
no_code = refl

-- an operand that ends early, a register of more than 16 bits, and addresses of 3 bytes
cut : operation_read false five (0x2f ∷ 0x02 ∷ []) ≡ Err UnexpectedEof
unfolding operation_read behind plain_of is_simple literals stack_operations signed_read number_read number_at bytes_at
cut = refl

large_register : operation_read false five (0x90 ∷ 0x80 ∷ 0x80 ∷ 0x04 ∷ []) ≡ Err BadLeb128
unfolding operation_read behind plain_of is_simple literals stack_operations entry_operations typed_operations locations location_rows uleb16_read uleb_read groups_at number_read number_at bytes_at
large_register = refl

no_address : operation_read false (record five { address_size = 3 }) (0x03 ∷ 0 ∷ 0 ∷ 0 ∷ []) ≡ Err (UnsupportedAddressSize 3)
unfolding operation_read behind plain_of is_simple literals address_read number_read number_at bytes_at
no_address = refl

-- a piece of 2 ^ 61 bytes
large_piece : operation_read false five (0x93 ∷ 0x80 ∷ 0x80 ∷ 0x80 ∷ 0x80 ∷ 0x80 ∷ 0x80 ∷ 0x80 ∷ 0x80 ∷ 0x20 ∷ []) ≡ Err InvalidPiece
unfolding operation_read behind plain_of is_simple literals stack_operations entry_operations typed_operations locations location_rows uleb_read groups_at number_read number_at bytes_at
large_piece = refl

-- DWARF 5, table 7.5, and the GNU names behind it
sibling : is_dropped 0x01 ≡ true
unfolding is_dropped
sibling = refl

string_base : is_dropped 0x72 ≡ true
unfolding is_dropped
string_base = refl

split_id : is_dropped 0x2131 ≡ true
unfolding is_dropped
split_id = refl

views : is_dropped 0x2137 ≡ true
unfolding is_dropped
views = refl

location : is_dropped 0x02 ≡ false
unfolding is_dropped
location = refl

line_program : is_dropped 0x10 ≡ false
unfolding is_dropped
line_program = refl

-- views of locations are left to those who convert
kept_views : is_left_out 0x2137 ≡ false
unfolding is_dropped
kept_views = refl

left_out_sibling : is_left_out 0x01 ≡ true
unfolding is_dropped
left_out_sibling = refl
