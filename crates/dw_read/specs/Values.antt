-- The values of attributes: by form and, where it decides, by name, version and format (DWARF 5, 7.5.4 and 7.5.5 with table 7.5).
use Rattle.std.specs.Prelude.{ℕ, ◌%◌, ◌^◌, List, [], ◌∷◌, Option, Some, None, Bool, true, false, not, ◌&&◌, ◌||◌, ◌==◌, nat_lt, ℤ, pos, if◌then◌else◌}
use Rattle.dw_base.specs.Forms.{Operand, Absent, Number, Signed, Bytes, Text}
use Rattle.dw_base.specs.Entries.{ReadAttribute}
use Rattle.dw_base.specs.declared.common.Encoding.{Encoding as UnitEncoding}
use Rattle.dw_base.specs.declared.common.Format.{Format}
use Rattle.dw_base.specs.declared.common.Format.TheVariants.{Dwarf32, Dwarf64}
use Rattle.dw_base.specs.declared.constants.TheConstants.{DW_FORM_addr, DW_FORM_addrx, DW_FORM_addrx1, DW_FORM_addrx2, DW_FORM_addrx3, DW_FORM_addrx4, DW_FORM_data1, DW_FORM_data2, DW_FORM_data4, DW_FORM_data8, DW_FORM_data16, DW_FORM_flag, DW_FORM_strp, DW_FORM_line_strp, DW_FORM_strp_sup, DW_FORM_sec_offset, DW_FORM_ref_addr, DW_FORM_ref1, DW_FORM_ref2, DW_FORM_ref4, DW_FORM_ref8, DW_FORM_ref_udata, DW_FORM_ref_sup4, DW_FORM_ref_sup8, DW_FORM_ref_sig8, DW_FORM_strx, DW_FORM_strx1, DW_FORM_strx2, DW_FORM_strx3, DW_FORM_strx4, DW_FORM_loclistx, DW_FORM_rnglistx, DW_FORM_exprloc}
use Rattle.dw_base.specs.declared.constants.TheConstants.{DW_AT_GNU_call_site_data_value, DW_AT_GNU_call_site_target, DW_AT_GNU_call_site_target_clobbered, DW_AT_GNU_call_site_value, DW_AT_GNU_dwo_id, DW_AT_GNU_macros, DW_AT_accessibility, DW_AT_address_class, DW_AT_allocated, DW_AT_associated, DW_AT_bit_size, DW_AT_bit_stride, DW_AT_byte_size, DW_AT_byte_stride, DW_AT_call_file, DW_AT_calling_convention, DW_AT_count, DW_AT_data_location, DW_AT_data_member_location, DW_AT_decimal_sign, DW_AT_decl_file, DW_AT_encoding, DW_AT_endianity, DW_AT_frame_base, DW_AT_identifier_case, DW_AT_inline, DW_AT_language, DW_AT_location, DW_AT_lower_bound, DW_AT_macro_info, DW_AT_macros, DW_AT_ordering, DW_AT_ranges, DW_AT_return_addr, DW_AT_segment, DW_AT_start_scope, DW_AT_static_link, DW_AT_stmt_list, DW_AT_string_length, DW_AT_upper_bound, DW_AT_use_location, DW_AT_virtuality, DW_AT_visibility, DW_AT_vtable_elem_location}
use Rattle.dw_read.specs.Reading.{Reading, left}
use Rattle.dw_read.specs.Took.{option_of}
use Rattle.dw_read.specs.declared.value.AttributeValue.{AttributeValue}
use Rattle.dw_read.specs.declared.value.AttributeValue.TheVariants.{Addr, DebugAddrIndex, Block, Data1, Data2, Data4, Data8, Data16, Sdata, Udata, Exprloc, Flag, SecOffset, UnitRef, DebugInfoRef, DebugInfoRefSup, DebugTypesRef, DebugStrRef, DebugStrRefSup, DebugLineStrRef, String, DebugStrOffsetsIndex, DebugLocListsIndex, DebugRngListsIndex, Encoding, DecimalSign, Endianity, Accessibility, Visibility, Virtuality, Language, AddressClass, IdentifierCase, CallingConvention, Inline, Ordering, FileIndex, DwoId, DebugLineRef, DebugMacinfoRef, DebugMacroRef, RangeListsRef, LocationListsRef}

-- a value, with the bytes of blocks, texts and expressions
abbrev pub Value : Type 0
Value = AttributeValue (List ℕ) Unit

-- what a value that was read is
abbrev pub value_of : {R E : Type 0} → (R → Reading) → AttributeValue R E → Value
value_of reading (Addr x) = Addr x
value_of reading (DebugAddrIndex x) = DebugAddrIndex x
value_of reading (Block r) = Block (left (reading r))
value_of reading (Data1 x) = Data1 x
value_of reading (Data2 x) = Data2 x
value_of reading (Data4 x) = Data4 x
value_of reading (Data8 x) = Data8 x
value_of reading (Data16 x) = Data16 x
value_of reading (Sdata x) = Sdata x
value_of reading (Udata x) = Udata x
value_of reading (Exprloc r) = Exprloc (record { 0 = left (reading r.0) })
value_of reading (Flag x) = Flag x
value_of reading (SecOffset x) = SecOffset x
value_of reading (UnitRef x) = UnitRef x
value_of reading (DebugInfoRef x) = DebugInfoRef x
value_of reading (DebugInfoRefSup x) = DebugInfoRefSup x
value_of reading (DebugTypesRef x) = DebugTypesRef x
value_of reading (DebugStrRef x) = DebugStrRef x
value_of reading (DebugStrRefSup x) = DebugStrRefSup x
value_of reading (DebugLineStrRef x) = DebugLineStrRef x
value_of reading (String r) = String (left (reading r))
value_of reading (DebugStrOffsetsIndex x) = DebugStrOffsetsIndex x
value_of reading (DebugLocListsIndex x) = DebugLocListsIndex x
value_of reading (DebugRngListsIndex x) = DebugRngListsIndex x
value_of reading (Encoding x) = Encoding x
value_of reading (DecimalSign x) = DecimalSign x
value_of reading (Endianity x) = Endianity x
value_of reading (Accessibility x) = Accessibility x
value_of reading (Visibility x) = Visibility x
value_of reading (Virtuality x) = Virtuality x
value_of reading (Language x) = Language x
value_of reading (AddressClass x) = AddressClass x
value_of reading (IdentifierCase x) = IdentifierCase x
value_of reading (CallingConvention x) = CallingConvention x
value_of reading (Inline x) = Inline x
value_of reading (Ordering x) = Ordering x
value_of reading (FileIndex x) = FileIndex x
value_of reading (DwoId x) = DwoId x
value_of reading (DebugLineRef x) = DebugLineRef x
value_of reading (DebugMacinfoRef x) = DebugMacinfoRef x
value_of reading (DebugMacroRef x) = DebugMacroRef x
value_of reading (RangeListsRef x) = RangeListsRef x
value_of reading (LocationListsRef x) = LocationListsRef x

-- indices, by their forms
abbrev pub index_rows : List (ℕ × (ℕ → Value))
index_rows =
    (DW_FORM_addrx.0, λ n. DebugAddrIndex (n % 2 ^ 64))
    ∷ (DW_FORM_addrx1.0, λ n. DebugAddrIndex (n % 2 ^ 64))
    ∷ (DW_FORM_addrx2.0, λ n. DebugAddrIndex (n % 2 ^ 64))
    ∷ (DW_FORM_addrx3.0, λ n. DebugAddrIndex (n % 2 ^ 64))
    ∷ (DW_FORM_addrx4.0, λ n. DebugAddrIndex (n % 2 ^ 64))
    ∷ (DW_FORM_strx.0, λ n. DebugStrOffsetsIndex (n % 2 ^ 64))
    ∷ (DW_FORM_strx1.0, λ n. DebugStrOffsetsIndex (n % 2 ^ 64))
    ∷ (DW_FORM_strx2.0, λ n. DebugStrOffsetsIndex (n % 2 ^ 64))
    ∷ (DW_FORM_strx3.0, λ n. DebugStrOffsetsIndex (n % 2 ^ 64))
    ∷ (DW_FORM_strx4.0, λ n. DebugStrOffsetsIndex (n % 2 ^ 64))
    ∷ (DW_FORM_loclistx.0, λ n. DebugLocListsIndex (n % 2 ^ 64))
    ∷ (DW_FORM_rnglistx.0, λ n. DebugRngListsIndex (n % 2 ^ 64))
    ∷ []

-- other numbers, by their forms
abbrev pub number_rows : List (ℕ × (ℕ → Value))
number_rows =
    (DW_FORM_addr.0, λ n. Addr (n % 2 ^ 64))
    ∷ (DW_FORM_data1.0, λ n. Data1 (n % 2 ^ 8))
    ∷ (DW_FORM_data2.0, λ n. Data2 (n % 2 ^ 16))
    ∷ (DW_FORM_data4.0, λ n. Data4 (n % 2 ^ 32))
    ∷ (DW_FORM_data8.0, λ n. Data8 (n % 2 ^ 64))
    ∷ (DW_FORM_data16.0, λ n. Data16 n)
    ∷ (DW_FORM_flag.0, λ n. Flag (not (n == 0)))
    ∷ (DW_FORM_strp.0, λ n. DebugStrRef (record { 0 = n % 2 ^ 64 }))
    ∷ (DW_FORM_line_strp.0, λ n. DebugLineStrRef (record { 0 = n % 2 ^ 64 }))
    ∷ (DW_FORM_strp_sup.0, λ n. DebugStrRefSup (record { 0 = n % 2 ^ 64 }))
    ∷ (DW_FORM_sec_offset.0, λ n. SecOffset (n % 2 ^ 64))
    ∷ (DW_FORM_ref_addr.0, λ n. DebugInfoRef (record { 0 = n % 2 ^ 64 }))
    ∷ (DW_FORM_ref1.0, λ n. UnitRef (record { 0 = n % 2 ^ 64 }))
    ∷ (DW_FORM_ref2.0, λ n. UnitRef (record { 0 = n % 2 ^ 64 }))
    ∷ (DW_FORM_ref4.0, λ n. UnitRef (record { 0 = n % 2 ^ 64 }))
    ∷ (DW_FORM_ref8.0, λ n. UnitRef (record { 0 = n % 2 ^ 64 }))
    ∷ (DW_FORM_ref_udata.0, λ n. UnitRef (record { 0 = n % 2 ^ 64 }))
    ∷ (DW_FORM_ref_sup4.0, λ n. DebugInfoRefSup (record { 0 = n % 2 ^ 64 }))
    ∷ (DW_FORM_ref_sup8.0, λ n. DebugInfoRefSup (record { 0 = n % 2 ^ 64 }))
    ∷ (DW_FORM_ref_sig8.0, λ n. DebugTypesRef (record { 0 = n % 2 ^ 64 }))
    ∷ []

abbrev pub row_among : {A : Type 0} → A → ℕ → List (ℕ × A) → A
row_among other n [] = other
row_among other n (r ∷ rs) = if n == r.0 then r.1 else row_among other n rs

-- an index in a form; a number in no other form than these is udata
unfoldable pub index_value : ℕ → ℕ → Value
index_value form n = row_among (λ m. Udata (m % 2 ^ 64)) form index_rows n

-- a number in a form
unfoldable pub number_value : ℕ → ℕ → Value
number_value form n = row_among (index_value form) form number_rows n

-- what stands in no bytes: a constant of the declaration, or that something holds
abbrev pub absent_value : Option ℤ → Value
absent_value (Some z) = Sdata z
absent_value None = Flag true

-- bytes, which one form says to be an expression
abbrev pub block_value : ℕ → List ℕ → Value
block_value form xs = if form == DW_FORM_exprloc.0 then Exprloc (record { 0 = xs }) else Block xs

-- a value by its form alone
abbrev pub formed_value : ℕ → Option ℤ → Operand → Value
formed_value form constant Absent = absent_value constant
formed_value form constant (Number n) = number_value form n
formed_value form constant (Signed z) = Sdata z
formed_value form constant (Bytes xs) = block_value form xs
formed_value form constant (Text xs) = String xs

-- the names of places in sections, with the section of each
abbrev pub place_rows : List (ℕ × (ℕ → Value))
place_rows =
    (DW_AT_stmt_list.0, λ p. DebugLineRef (record { 0 = p }))
    ∷ (DW_AT_macro_info.0, λ p. DebugMacinfoRef (record { 0 = p }))
    ∷ (DW_AT_macros.0, λ p. DebugMacroRef (record { 0 = p }))
    ∷ (DW_AT_GNU_macros.0, λ p. DebugMacroRef (record { 0 = p }))
    ∷ (DW_AT_ranges.0, λ p. RangeListsRef (record { 0 = p }))
    ∷ (DW_AT_start_scope.0, λ p. RangeListsRef (record { 0 = p }))
    ∷ (DW_AT_location.0, λ p. LocationListsRef (record { 0 = p }))
    ∷ (DW_AT_string_length.0, λ p. LocationListsRef (record { 0 = p }))
    ∷ (DW_AT_return_addr.0, λ p. LocationListsRef (record { 0 = p }))
    ∷ (DW_AT_frame_base.0, λ p. LocationListsRef (record { 0 = p }))
    ∷ (DW_AT_segment.0, λ p. LocationListsRef (record { 0 = p }))
    ∷ (DW_AT_static_link.0, λ p. LocationListsRef (record { 0 = p }))
    ∷ (DW_AT_use_location.0, λ p. LocationListsRef (record { 0 = p }))
    ∷ (DW_AT_vtable_elem_location.0, λ p. LocationListsRef (record { 0 = p }))
    ∷ (DW_AT_data_member_location.0, λ p. LocationListsRef (record { 0 = p }))
    ∷ []

-- a place under a name
unfoldable pub place_value : ℕ → ℕ → Value
place_value name p = row_among (λ m. SecOffset m) name place_rows p

abbrev pub is_among : ℕ → List ℕ → Bool
is_among n [] = false
is_among n (m ∷ ms) = if n == m then true else is_among n ms

-- the names of places in versions 2 and 3
abbrev pub old_place_names : List ℕ
old_place_names =
    DW_AT_stmt_list.0 ∷ DW_AT_macro_info.0 ∷ DW_AT_macros.0 ∷ DW_AT_GNU_macros.0 ∷ DW_AT_ranges.0 ∷ DW_AT_location.0 ∷ DW_AT_string_length.0 ∷ DW_AT_return_addr.0 ∷ DW_AT_frame_base.0 ∷ DW_AT_segment.0 ∷ DW_AT_static_link.0 ∷ DW_AT_use_location.0 ∷ DW_AT_vtable_elem_location.0 ∷ DW_AT_data_member_location.0 ∷ []

unfoldable pub is_old_place_name : ℕ → Bool
is_old_place_name name = is_among name old_place_names

-- the form of a number as wide as a word
abbrev pub word_form : Format → ℕ
word_form Dwarf32 = DW_FORM_data4.0
word_form Dwarf64 = DW_FORM_data8.0

-- Versions 2 and 3 have no form of their own for a place in a section: it is a number as wide as a word (DWARF 3, 7.5.4).
abbrev pub is_old_place : UnitEncoding → ℕ → ℕ → Bool
is_old_place e name form = (e.version == 2 || e.version == 3) && (form == word_form e.format) && is_old_place_name name

-- a value by its form, and by its name where versions 2 and 3 have no form for it
abbrev pub raw_by : Bool → ℕ → Option ℤ → Operand → Value
raw_by true form constant (Number n) = SecOffset (n % 2 ^ 64)
raw_by old form constant o = formed_value form constant o

unfoldable pub raw_value_of : UnitEncoding → ReadAttribute → Value
raw_value_of e x = raw_by (is_old_place e x.name x.form) x.form x.constant x.operand

-- the names under which a block is an expression in every version (DWARF 2 and 3, 7.5.4)
abbrev pub expression_names : List ℕ
expression_names =
    DW_AT_location.0 ∷ DW_AT_byte_size.0 ∷ DW_AT_bit_size.0 ∷ DW_AT_string_length.0 ∷ DW_AT_lower_bound.0 ∷ DW_AT_return_addr.0 ∷ DW_AT_bit_stride.0 ∷ DW_AT_upper_bound.0 ∷ DW_AT_count.0 ∷ DW_AT_data_member_location.0 ∷ DW_AT_frame_base.0 ∷ DW_AT_segment.0 ∷ DW_AT_static_link.0 ∷ DW_AT_use_location.0 ∷ DW_AT_vtable_elem_location.0 ∷ DW_AT_allocated.0 ∷ DW_AT_associated.0 ∷ DW_AT_data_location.0 ∷ DW_AT_byte_stride.0 ∷ DW_AT_GNU_call_site_value.0 ∷ DW_AT_GNU_call_site_data_value.0 ∷ DW_AT_GNU_call_site_target.0 ∷ DW_AT_GNU_call_site_target_clobbered.0 ∷ []

unfoldable pub is_expression_name : ℕ → Bool
is_expression_name name = is_among name expression_names

-- the names of constants whose codes are of one byte
abbrev pub byte_rows : List (ℕ × (ℕ → Value))
byte_rows =
    (DW_AT_encoding.0, λ m. Encoding (record { 0 = m }))
    ∷ (DW_AT_decimal_sign.0, λ m. DecimalSign (record { 0 = m }))
    ∷ (DW_AT_endianity.0, λ m. Endianity (record { 0 = m }))
    ∷ (DW_AT_accessibility.0, λ m. Accessibility (record { 0 = m }))
    ∷ (DW_AT_visibility.0, λ m. Visibility (record { 0 = m }))
    ∷ (DW_AT_virtuality.0, λ m. Virtuality (record { 0 = m }))
    ∷ (DW_AT_identifier_case.0, λ m. IdentifierCase (record { 0 = m }))
    ∷ (DW_AT_calling_convention.0, λ m. CallingConvention (record { 0 = m }))
    ∷ (DW_AT_inline.0, λ m. Inline (record { 0 = m }))
    ∷ (DW_AT_ordering.0, λ m. Ordering (record { 0 = m }))
    ∷ []

-- the names of wider constants, with their bits
abbrev pub wide_rows : List (ℕ × (ℕ × (ℕ → Value)))
wide_rows =
    (DW_AT_language.0, (16, λ m. Language (record { 0 = m })))
    ∷ (DW_AT_address_class.0, (64, λ m. AddressClass (record { 0 = m })))
    ∷ (DW_AT_decl_file.0, (64, λ m. FileIndex m))
    ∷ (DW_AT_call_file.0, (64, λ m. FileIndex m))
    ∷ (DW_AT_GNU_dwo_id.0, (64, λ m. DwoId (record { 0 = m })))
    ∷ []

-- a constant that isn't negative
abbrev pub constant_in : Value → Option ℕ
constant_in (Data1 n) = Some n
constant_in (Data2 n) = Some n
constant_in (Data4 n) = Some n
constant_in (Data8 n) = Some n
constant_in (Udata n) = Some n
constant_in (Sdata (pos n)) = Some n
constant_in v = None

abbrev pub lookup : {A : Type 0} → ℕ → List (ℕ × A) → Option A
lookup n [] = None
lookup n (r ∷ rs) = if n == r.0 then Some r.1 else lookup n rs

-- a code of one byte under a name, where it fits
unfoldable pub byte_value : ℕ → ℕ → Option Value
byte_value name n = if nat_lt n (2 ^ 8) then option_of (λ f. f n) (lookup name byte_rows) else None

abbrev pub wide_or : ℕ → Option (ℕ × (ℕ → Value)) → Option Value → Option Value
wide_or n None other = other
wide_or n (Some r) other = if nat_lt n (2 ^ r.0) then Some (r.1 n) else None

-- a constant under a name that has a type of its own, where it fits
unfoldable pub typed_value : ℕ → ℕ → Option Value
typed_value name n = wide_or n (lookup name wide_rows) (byte_value name n)

abbrev pub value_or : Value → Option Value → Value
value_or v None = v
value_or v (Some w) = w

abbrev pub constant_value : ℕ → Option ℕ → Value → Value
constant_value name None v = v
constant_value name (Some n) v = value_or v (typed_value name n)

abbrev pub named_block : ℕ → List ℕ → Value
named_block name xs = if is_expression_name name then Exprloc (record { 0 = xs }) else Block xs

-- the value under a name
abbrev pub named_value : ℕ → Value → Value
named_value name (Block xs) = named_block name xs
named_value name (SecOffset p) = place_value name p
named_value name v = constant_value name (constant_in v) v
