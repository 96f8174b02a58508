-- How values are written: one line for each variant (DWARF 5, 7.5.4 to 7.5.6).
use Rattle.std.specs.Prelude.{◌≡◌, ℕ, ◌+◌, ◌≤◌, ◌^◌, Bool, true, false, ◌==◌, nat_le, List, Option, Some, None, ℤ, IsTrue, if◌then◌else◌}
use Rattle.dw_base.specs.Numbers.{◌>>=◌, word_of}
use Rattle.dw_base.specs.Forms.{Operand, kind_of}
use Rattle.dw_base.specs.Spelling.{operand_bytes}
use Rattle.dw_base.specs.declared.constants.TheConstants.{DW_FORM_addr, DW_FORM_block, DW_FORM_exprloc, DW_FORM_data1, DW_FORM_data2, DW_FORM_data4, DW_FORM_data8, DW_FORM_data16, DW_FORM_sdata, DW_FORM_udata, DW_FORM_implicit_const, DW_FORM_flag, DW_FORM_flag_present, DW_FORM_ref4, DW_FORM_ref8, DW_FORM_ref_addr, DW_FORM_ref_sup4, DW_FORM_ref_sup8, DW_FORM_ref_sig8, DW_FORM_sec_offset, DW_FORM_string, DW_FORM_strp, DW_FORM_strp_sup, DW_FORM_line_strp, DW_FORM_loclistx, DW_FORM_rnglistx}
use Rattle.dw_base.specs.declared.common.Encoding.{Encoding}
use Rattle.dw_base.specs.declared.common.Format.{Format}
use Rattle.dw_base.specs.declared.common.Format.TheVariants.{Dwarf32, Dwarf64}
use Rattle.dw_base.specs.declared.error.Error.{Error}
use Rattle.dw_base.specs.declared.error.Error.TheVariants as errors
use Rattle.dw_base.specs.declared.ids.FileId.{FileId}
use Rattle.dw_base.specs.declared.section_id.SectionId.{SectionId}
use Rattle.dw_base.specs.declared.section_id.SectionId.TheVariants.{DebugStr, DebugLineStr, DebugLine, DebugMacinfo, DebugMacro, DebugRanges, DebugRngLists, DebugLoc, DebugLocLists}
use Rattle.dw_writer.specs.Texts.{Text}
use Rattle.dw_writer.specs.Drafts.{Draft}
use Rattle.dw_writer.specs.declared.fixup.DebugInfoFixup.{DebugInfoFixup}
use Rattle.dw_expr.specs.Trees.{Node}
use Rattle.dw_expr.specs.Spelling.{expression_size}
use Rattle.dw_expr.specs.Causes.{nodes_unplaced}
use Rattle.dw_entries.specs.Content.{counted, Content, Nothing, Plain, Wide, Leb, SignedLeb, Block, Expression, Closed, Target, Offset, InTable, TableIndex, OwnPart, File, EntryPlace, InfoPlace, content_operand, content_size, content_holes, content_fails, content_unplaced, IsContentRanged}
use Rattle.dw_entries.specs.Targets.{Targets, UnitTargets, targets_in}
use Rattle.dw_entries.specs.declared.value.AttributeValue.{AttributeValue}
use Rattle.dw_entries.specs.declared.value.AttributeValue.TheVariants as values

-- the form of a place in the unit: ref4 or ref8
abbrev pub reference_form : Format → ℕ
reference_form Dwarf32 = DW_FORM_ref4.0
reference_form Dwarf64 = DW_FORM_ref8.0

-- the form of an entry of the supplementary file: ref_sup4 or ref_sup8
abbrev pub supplementary_form : Format → ℕ
supplementary_form Dwarf32 = DW_FORM_ref_sup4.0
supplementary_form Dwarf64 = DW_FORM_ref_sup8.0

-- the form of a word without a class of its own: data4 or data8
abbrev pub word_form : Format → ℕ
word_form Dwarf32 = DW_FORM_data4.0
word_form Dwarf64 = DW_FORM_data8.0

-- the form of an offset into a section, which has a class of its own from version 4 on (DWARF 4, 7.5.4)
abbrev pub offset_form : Encoding → ℕ
offset_form e = if nat_le 4 e.version then DW_FORM_sec_offset.0 else word_form e.format

-- A list is found by its place up to version 4, and by its index in the unit's table from version 5 on, which has a form of
-- its own (DWARF 5, 7.5.5).
abbrev pub list_form : Encoding → ℕ → ℕ
list_form e indexed = if e.version == 5 then indexed else offset_form e

abbrev pub list_content : Encoding → SectionId → SectionId → ℕ → Content
list_content e new old i = if e.version == 5 then TableIndex new i else InTable old i

-- a range list (DWARF 5, 7.28)
abbrev pub range_list_form : Encoding → ℕ
range_list_form e = list_form e DW_FORM_rnglistx.0

abbrev pub range_list_content : Encoding → ℕ → Content
range_list_content e i = list_content e DebugRngLists DebugRanges i

-- a location list (DWARF 5, 7.29)
abbrev pub location_list_form : Encoding → ℕ
location_list_form e = list_form e DW_FORM_loclistx.0

abbrev pub location_list_content : Encoding → ℕ → Content
location_list_content e i = list_content e DebugLocLists DebugLoc i

-- the form of an expression, which has a class of its own from version 4 on (DWARF 4, 7.5.4)
abbrev pub expression_form : Encoding → ℕ
expression_form e = if nat_le 4 e.version then DW_FORM_exprloc.0 else DW_FORM_block.0

-- the form of a flag that is set, which needs no byte from version 4 on
abbrev pub present_form : Encoding → ℕ
present_form e = if nat_le 4 e.version then DW_FORM_flag_present.0 else DW_FORM_flag.0

abbrev pub present_content : Encoding → Content
present_content e = if nat_le 4 e.version then Nothing else Plain 1 1

-- the form of a constant that stands in the declaration from version 5 on
abbrev pub constant_form : Encoding → ℕ
constant_form e = if e.version == 5 then DW_FORM_implicit_const.0 else DW_FORM_sdata.0

abbrev pub constant_content : Encoding → ℤ → Content
constant_content e z = if e.version == 5 then Nothing else SignedLeb z

abbrev pub declared_constant : Encoding → ℤ → Option ℤ
declared_constant e z = if e.version == 5 then Some z else None

-- The number of a file in the line program of the unit: counted from 0 in version 5, and from 1 below (DWARF 5, 6.2.4). No
-- file is 0.
abbrev pub file_number : Encoding → Option FileId → ℕ
file_number e None = 0
file_number e (Some file) = if nat_le e.version 4 then file.0 + 1 else file.0

-- the form in which a value is written
abbrev pub form_of : Encoding → AttributeValue → ℕ
form_of e (values.Address a) = DW_FORM_addr.0
form_of e (values.Block xs) = DW_FORM_block.0
form_of e (values.Data1 n) = DW_FORM_data1.0
form_of e (values.Data2 n) = DW_FORM_data2.0
form_of e (values.Data4 n) = DW_FORM_data4.0
form_of e (values.Data8 n) = DW_FORM_data8.0
form_of e (values.Data16 n) = DW_FORM_data16.0
form_of e (values.Sdata z) = DW_FORM_sdata.0
form_of e (values.Udata n) = DW_FORM_udata.0
form_of e (values.ImplicitConst z) = constant_form e
form_of e (values.Exprloc x) = expression_form e
form_of e (values.Flag b) = DW_FORM_flag.0
form_of e values.FlagPresent = present_form e
form_of e (values.UnitRef i) = reference_form e.format
form_of e (values.DebugInfoRef r) = DW_FORM_ref_addr.0
form_of e (values.DebugInfoRefSup n) = supplementary_form e.format
form_of e (values.DebugMacinfoRef n) = offset_form e
form_of e (values.DebugMacroRef n) = offset_form e
form_of e (values.DebugTypesRef n) = DW_FORM_ref_sig8.0
form_of e (values.DebugStrRefSup n) = DW_FORM_strp_sup.0
form_of e (values.String s) = DW_FORM_string.0
form_of e (values.StringRef i) = DW_FORM_strp.0
form_of e (values.LineStringRef i) = DW_FORM_line_strp.0
form_of e values.LineProgramRef = offset_form e
form_of e (values.FileIndex file) = DW_FORM_udata.0
form_of e (values.RangeListRef i) = range_list_form e
form_of e values.RangeListsBase = offset_form e
form_of e values.LocationListsBase = offset_form e
form_of e (values.LocationListRef i) = location_list_form e
form_of e (values.Encoding n) = DW_FORM_udata.0
form_of e (values.DecimalSign n) = DW_FORM_udata.0
form_of e (values.Endianity n) = DW_FORM_udata.0
form_of e (values.Accessibility n) = DW_FORM_udata.0
form_of e (values.Visibility n) = DW_FORM_udata.0
form_of e (values.Virtuality n) = DW_FORM_udata.0
form_of e (values.Language n) = DW_FORM_udata.0
form_of e (values.AddressClass n) = DW_FORM_udata.0
form_of e (values.IdentifierCase n) = DW_FORM_udata.0
form_of e (values.CallingConvention n) = DW_FORM_udata.0
form_of e (values.Inline n) = DW_FORM_udata.0
form_of e (values.Ordering n) = DW_FORM_udata.0

-- the constant that a declaration holds in the place of an operand
abbrev pub constant_of : Encoding → AttributeValue → Option ℤ
constant_of e (values.ImplicitConst z) = declared_constant e z
constant_of e v = None

-- whether a flag is set, as a byte
abbrev pub flag_byte : Bool → ℕ
flag_byte true = 1
flag_byte false = 0

-- what is written for a value
abbrev pub content_of : Encoding → AttributeValue → Content
content_of e (values.Address a) = Target a
content_of e (values.Block xs) = Block xs
content_of e (values.Data1 n) = Plain 1 n
content_of e (values.Data2 n) = Plain 2 n
content_of e (values.Data4 n) = Plain 4 n
content_of e (values.Data8 n) = Plain 8 n
content_of e (values.Data16 n) = Wide n
content_of e (values.Sdata z) = SignedLeb z
content_of e (values.Udata n) = Leb n
content_of e (values.ImplicitConst z) = constant_content e z
content_of e (values.Exprloc x) = Expression x
content_of e (values.Flag b) = Plain 1 (flag_byte b)
content_of e values.FlagPresent = present_content e
content_of e (values.UnitRef i) = EntryPlace i.0
content_of e (values.DebugInfoRef r) = InfoPlace r
content_of e (values.DebugInfoRefSup n) = Plain (word_of e.format) n.0
content_of e (values.DebugMacinfoRef n) = Offset DebugMacinfo n.0
content_of e (values.DebugMacroRef n) = Offset DebugMacro n.0
content_of e (values.DebugTypesRef n) = Plain 8 n.0
content_of e (values.DebugStrRefSup n) = Plain (word_of e.format) n.0
content_of e (values.String s) = Closed s
content_of e (values.StringRef i) = InTable DebugStr i.0
content_of e (values.LineStringRef i) = InTable DebugLineStr i.0
content_of e values.LineProgramRef = OwnPart DebugLine
content_of e (values.FileIndex file) = File (file_number e file)
content_of e (values.RangeListRef i) = range_list_content e i.0
content_of e values.RangeListsBase = OwnPart DebugRngLists
content_of e values.LocationListsBase = OwnPart DebugLocLists
content_of e (values.LocationListRef i) = location_list_content e i.0
content_of e (values.Encoding n) = Leb n.0
content_of e (values.DecimalSign n) = Leb n.0
content_of e (values.Endianity n) = Leb n.0
content_of e (values.Accessibility n) = Leb n.0
content_of e (values.Visibility n) = Leb n.0
content_of e (values.Virtuality n) = Leb n.0
content_of e (values.Language n) = Leb n.0
content_of e (values.AddressClass n) = Leb n.0
content_of e (values.IdentifierCase n) = Leb n.0
content_of e (values.CallingConvention n) = Leb n.0
content_of e (values.Inline n) = Leb n.0
content_of e (values.Ordering n) = Leb n.0

-- what stands for a value in an entry, if it has a spelling and what it leads to is there
abbrev pub operand_of : Bool → Encoding → Targets → AttributeValue → Option Operand
operand_of big e t v = content_operand big e t (content_of e v)

-- the bytes of that, where each entry has its place
abbrev pub operand_size : Encoding → (ℕ → Option ℕ) → AttributeValue → ℕ
operand_size e place v = content_size e place (content_of e v)

-- the references in it to entries by their place in .debug_info
abbrev pub operand_holes : Encoding → (ℕ → Option ℕ) → AttributeValue → List DebugInfoFixup
operand_holes e place v = content_holes e place (content_of e v)

abbrev pub value_text : Bool → Encoding → Targets → AttributeValue → Text
value_text big e t v = operand_of big e t v >>= λ o. Some (operand_bytes big (kind_of e (form_of e v)) o)

-- a value, as it is written in a unit whose operands lead to these targets
abbrev pub value_draft : Encoding → UnitTargets → AttributeValue → Draft
value_draft e u v = record {
  size = operand_size e u.place v;
  text = λ info big l. value_text big e (targets_in u l info) v;
  holes = operand_holes e u.place v;
}

-- the numbers of a value are those of their types
abbrev pub IsRanged : Encoding → AttributeValue → Type 0
IsRanged e v = IsContentRanged (content_of e v)

-- a value has this fault where operands lead to these targets, in a writer that is plain or not
abbrev pub value_fails : Encoding → UnitTargets → Bool → AttributeValue → Error → Bool
value_fails e u is_plain v err = content_fails e u is_plain (content_of e v) err

-- places that keep those that are known
abbrev pub KeepsPlaces : (ℕ → Option ℕ) → (ℕ → Option ℕ) → Type 0
KeepsPlaces known place = (i n : ℕ) → known i ≡ Some n → place i ≡ Some n

-- the size of a value hangs on an entry that has no place yet
abbrev pub value_unplaced : Encoding → (ℕ → Option ℕ) → AttributeValue → Error → Bool
value_unplaced e known v err = content_unplaced e known (content_of e v) err

-- Why a value has no size yet, or none in 64 bits, wherever entries without a place come to stand.
abbrev pub SizeRefused : Encoding → (ℕ → Option ℕ) → AttributeValue → Error → Type 0
SizeRefused e known v errors.ValueTooLarge = (place : ℕ → Option ℕ) → KeepsPlaces known place → 2 ^ 64 ≤ operand_size e place v
SizeRefused e known v err = IsTrue (value_unplaced e known v err)

-- the same of an expression behind its length
abbrev pub ExpressionUnsized : Encoding → (ℕ → Option ℕ) → List Node → Error → Type 0
ExpressionUnsized e known ns errors.ValueTooLarge = (place : ℕ → Option ℕ) → KeepsPlaces known place → 2 ^ 64 ≤ counted (expression_size e place ns)
ExpressionUnsized e known ns err = IsTrue (nodes_unplaced e (Some known) ns err)
