use Rattle.std.proofs.Common.{◌∙◌, ap, sym}
use Rattle.dw_entries.specs.Keys.{value_key}
use Rattle.dw_entries.proofs.value.AttributeValue.key.Goals as goal

pub returns-in-Data1 : goal.returns-in-Data1
returns-in-Data1 c = c.number.ensures ∙ ap value_key (sym c.in-Data1.is)

pub returns-in-Data2 : goal.returns-in-Data2
returns-in-Data2 c = c.number-in-Data2.ensures ∙ ap value_key (sym c.in-Data2.is)

pub returns-in-Data4 : goal.returns-in-Data4
returns-in-Data4 c = c.number-in-Data4.ensures ∙ ap value_key (sym c.in-Data4.is)

pub returns-in-Data8 : goal.returns-in-Data8
returns-in-Data8 c = c.number-in-Data8.ensures ∙ ap value_key (sym c.in-Data8.is)

pub returns-in-Data16 : goal.returns-in-Data16
returns-in-Data16 c = c.number-in-Data16.ensures ∙ ap value_key (sym c.in-Data16.is)

pub returns-in-Udata : goal.returns-in-Udata
returns-in-Udata c = c.number-in-Udata.ensures ∙ ap value_key (sym c.in-Udata.is)

pub returns-in-Flag : goal.returns-in-Flag
returns-in-Flag c = c.number-in-Flag.ensures ∙ ap value_key (sym c.in-Flag.is)

pub returns-in-FlagPresent : goal.returns-in-FlagPresent
returns-in-FlagPresent c = c.number-in-FlagPresent.ensures ∙ ap value_key (sym c.in-FlagPresent.is)

pub returns-in-UnitRef : goal.returns-in-UnitRef
returns-in-UnitRef c = c.number-in-UnitRef.ensures ∙ ap value_key (sym c.in-UnitRef.is)

pub returns-in-DebugInfoRefSup : goal.returns-in-DebugInfoRefSup
returns-in-DebugInfoRefSup c = c.number-in-DebugInfoRefSup.ensures ∙ ap value_key (sym c.in-DebugInfoRefSup.is)

pub returns-in-DebugMacinfoRef : goal.returns-in-DebugMacinfoRef
returns-in-DebugMacinfoRef c = c.number-in-DebugMacinfoRef.ensures ∙ ap value_key (sym c.in-DebugMacinfoRef.is)

pub returns-in-DebugMacroRef : goal.returns-in-DebugMacroRef
returns-in-DebugMacroRef c = c.number-in-DebugMacroRef.ensures ∙ ap value_key (sym c.in-DebugMacroRef.is)

pub returns-in-DebugTypesRef : goal.returns-in-DebugTypesRef
returns-in-DebugTypesRef c = c.number-in-DebugTypesRef.ensures ∙ ap value_key (sym c.in-DebugTypesRef.is)

pub returns-in-DebugStrRefSup : goal.returns-in-DebugStrRefSup
returns-in-DebugStrRefSup c = c.number-in-DebugStrRefSup.ensures ∙ ap value_key (sym c.in-DebugStrRefSup.is)

pub returns-in-StringRef : goal.returns-in-StringRef
returns-in-StringRef c = c.number-in-StringRef.ensures ∙ ap value_key (sym c.in-StringRef.is)

pub returns-in-LineStringRef : goal.returns-in-LineStringRef
returns-in-LineStringRef c = c.number-in-LineStringRef.ensures ∙ ap value_key (sym c.in-LineStringRef.is)

pub returns-in-LineProgramRef : goal.returns-in-LineProgramRef
returns-in-LineProgramRef c = c.number-in-LineProgramRef.ensures ∙ ap value_key (sym c.in-LineProgramRef.is)

pub returns-in-RangeListRef : goal.returns-in-RangeListRef
returns-in-RangeListRef c = c.number-in-RangeListRef.ensures ∙ ap value_key (sym c.in-RangeListRef.is)

pub returns-in-RangeListsBase : goal.returns-in-RangeListsBase
returns-in-RangeListsBase c = c.number-in-RangeListsBase.ensures ∙ ap value_key (sym c.in-RangeListsBase.is)

pub returns-in-LocationListsBase : goal.returns-in-LocationListsBase
returns-in-LocationListsBase c = c.number-in-LocationListsBase.ensures ∙ ap value_key (sym c.in-LocationListsBase.is)

pub returns-in-LocationListRef : goal.returns-in-LocationListRef
returns-in-LocationListRef c = c.number-in-LocationListRef.ensures ∙ ap value_key (sym c.in-LocationListRef.is)

pub returns-in-Encoding : goal.returns-in-Encoding
returns-in-Encoding c = c.number-in-Encoding.ensures ∙ ap value_key (sym c.in-Encoding.is)

pub returns-in-DecimalSign : goal.returns-in-DecimalSign
returns-in-DecimalSign c = c.number-in-DecimalSign.ensures ∙ ap value_key (sym c.in-DecimalSign.is)

pub returns-in-Endianity : goal.returns-in-Endianity
returns-in-Endianity c = c.number-in-Endianity.ensures ∙ ap value_key (sym c.in-Endianity.is)

pub returns-in-Accessibility : goal.returns-in-Accessibility
returns-in-Accessibility c = c.number-in-Accessibility.ensures ∙ ap value_key (sym c.in-Accessibility.is)

pub returns-in-Visibility : goal.returns-in-Visibility
returns-in-Visibility c = c.number-in-Visibility.ensures ∙ ap value_key (sym c.in-Visibility.is)

pub returns-in-Virtuality : goal.returns-in-Virtuality
returns-in-Virtuality c = c.number-in-Virtuality.ensures ∙ ap value_key (sym c.in-Virtuality.is)

pub returns-in-Language : goal.returns-in-Language
returns-in-Language c = c.number-in-Language.ensures ∙ ap value_key (sym c.in-Language.is)

pub returns-in-AddressClass : goal.returns-in-AddressClass
returns-in-AddressClass c = c.number-in-AddressClass.ensures ∙ ap value_key (sym c.in-AddressClass.is)

pub returns-in-IdentifierCase : goal.returns-in-IdentifierCase
returns-in-IdentifierCase c = c.number-in-IdentifierCase.ensures ∙ ap value_key (sym c.in-IdentifierCase.is)

pub returns-in-CallingConvention : goal.returns-in-CallingConvention
returns-in-CallingConvention c = c.number-in-CallingConvention.ensures ∙ ap value_key (sym c.in-CallingConvention.is)

pub returns-in-Inline : goal.returns-in-Inline
returns-in-Inline c = c.number-in-Inline.ensures ∙ ap value_key (sym c.in-Inline.is)

pub returns-in-Ordering : goal.returns-in-Ordering
returns-in-Ordering c = c.number-in-Ordering.ensures ∙ ap value_key (sym c.in-Ordering.is)
