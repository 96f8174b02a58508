use Rattle.std.proofs.Common.{◌∙◌, ap, sym}
use Rattle.dw_entries.specs.Values.{content_of}
use Rattle.dw_entries.proofs.value.AttributeValue.content.Goals as goal

pub returns-in-Address : goal.returns-in-Address
returns-in-Address c = ap (content_of c.args.encoding) (sym c.in-Address.is)

pub returns-in-Data16 : goal.returns-in-Data16
returns-in-Data16 c = ap (content_of c.args.encoding) (sym c.in-Data16.is)

pub returns-in-Udata : goal.returns-in-Udata
returns-in-Udata c = ap (content_of c.args.encoding) (sym c.in-Udata.is)

pub returns-in-UnitRef : goal.returns-in-UnitRef
returns-in-UnitRef c = ap (content_of c.args.encoding) (sym c.in-UnitRef.is)

pub returns-in-DebugInfoRef : goal.returns-in-DebugInfoRef
returns-in-DebugInfoRef c = ap (content_of c.args.encoding) (sym c.in-DebugInfoRef.is)

pub returns-in-LineProgramRef : goal.returns-in-LineProgramRef
returns-in-LineProgramRef c = ap (content_of c.args.encoding) (sym c.in-LineProgramRef.is)

pub returns-in-RangeListsBase : goal.returns-in-RangeListsBase
returns-in-RangeListsBase c = ap (content_of c.args.encoding) (sym c.in-RangeListsBase.is)

pub returns-in-LocationListsBase : goal.returns-in-LocationListsBase
returns-in-LocationListsBase c = ap (content_of c.args.encoding) (sym c.in-LocationListsBase.is)

pub returns-in-Encoding : goal.returns-in-Encoding
returns-in-Encoding c = ap (content_of c.args.encoding) (sym c.in-Encoding.is)

pub returns-in-DecimalSign : goal.returns-in-DecimalSign
returns-in-DecimalSign c = ap (content_of c.args.encoding) (sym c.in-DecimalSign.is)

pub returns-in-Endianity : goal.returns-in-Endianity
returns-in-Endianity c = ap (content_of c.args.encoding) (sym c.in-Endianity.is)

pub returns-in-Accessibility : goal.returns-in-Accessibility
returns-in-Accessibility c = ap (content_of c.args.encoding) (sym c.in-Accessibility.is)

pub returns-in-Visibility : goal.returns-in-Visibility
returns-in-Visibility c = ap (content_of c.args.encoding) (sym c.in-Visibility.is)

pub returns-in-Virtuality : goal.returns-in-Virtuality
returns-in-Virtuality c = ap (content_of c.args.encoding) (sym c.in-Virtuality.is)

pub returns-in-Language : goal.returns-in-Language
returns-in-Language c = ap (content_of c.args.encoding) (sym c.in-Language.is)

pub returns-in-AddressClass : goal.returns-in-AddressClass
returns-in-AddressClass c = ap (content_of c.args.encoding) (sym c.in-AddressClass.is)

pub returns-in-IdentifierCase : goal.returns-in-IdentifierCase
returns-in-IdentifierCase c = ap (content_of c.args.encoding) (sym c.in-IdentifierCase.is)

pub returns-in-CallingConvention : goal.returns-in-CallingConvention
returns-in-CallingConvention c = ap (content_of c.args.encoding) (sym c.in-CallingConvention.is)

pub returns-in-Inline : goal.returns-in-Inline
returns-in-Inline c = ap (content_of c.args.encoding) (sym c.in-Inline.is)

pub returns-in-Ordering : goal.returns-in-Ordering
returns-in-Ordering c = ap (content_of c.args.encoding) (sym c.in-Ordering.is)

pub returns-in-Data1 : goal.returns-in-Data1
returns-in-Data1 c = c.plain.ensures ∙ ap (content_of c.args.encoding) (sym c.in-Data1.is)

pub returns-in-Data2 : goal.returns-in-Data2
returns-in-Data2 c = c.plain-in-Data2.ensures ∙ ap (content_of c.args.encoding) (sym c.in-Data2.is)

pub returns-in-Data4 : goal.returns-in-Data4
returns-in-Data4 c = c.plain-in-Data4.ensures ∙ ap (content_of c.args.encoding) (sym c.in-Data4.is)

pub returns-in-Data8 : goal.returns-in-Data8
returns-in-Data8 c = c.plain-in-Data8.ensures ∙ ap (content_of c.args.encoding) (sym c.in-Data8.is)

pub returns-in-Flag : goal.returns-in-Flag
returns-in-Flag c = c.plain-in-Flag.ensures ∙ ap (content_of c.args.encoding) (sym c.in-Flag.is)

pub returns-in-DebugTypesRef : goal.returns-in-DebugTypesRef
returns-in-DebugTypesRef c = c.plain-in-DebugTypesRef.ensures ∙ ap (content_of c.args.encoding) (sym c.in-DebugTypesRef.is)

pub returns-in-DebugMacinfoRef : goal.returns-in-DebugMacinfoRef
returns-in-DebugMacinfoRef c = c.offset_into.ensures ∙ ap (content_of c.args.encoding) (sym c.in-DebugMacinfoRef.is)

pub returns-in-DebugMacroRef : goal.returns-in-DebugMacroRef
returns-in-DebugMacroRef c = c.offset_into-in-DebugMacroRef.ensures ∙ ap (content_of c.args.encoding) (sym c.in-DebugMacroRef.is)

pub returns-in-RangeListRef : goal.returns-in-RangeListRef
returns-in-RangeListRef c = c.range_list_content.ensures ∙ ap (content_of c.args.encoding) (sym c.in-RangeListRef.is)

pub returns-in-LocationListRef : goal.returns-in-LocationListRef
returns-in-LocationListRef c = c.location_list_content.ensures ∙ ap (content_of c.args.encoding) (sym c.in-LocationListRef.is)

pub returns-in-FlagPresent : goal.returns-in-FlagPresent
returns-in-FlagPresent c = c.present_content.ensures ∙ ap (content_of c.args.encoding) (sym c.in-FlagPresent.is)
