use Rattle.std.proofs.Common.{sym}
use Rattle.dw_entries.proofs.copy.AttributeValueClone.clone.Goals as goal

pub returns-in-Address : goal.returns-in-Address
returns-in-Address c = record { cases = sym c.in-Address.is }

pub returns-in-Data1 : goal.returns-in-Data1
returns-in-Data1 c = record { cases = sym c.in-Data1.is }

pub returns-in-Data2 : goal.returns-in-Data2
returns-in-Data2 c = record { cases = sym c.in-Data2.is }

pub returns-in-Data4 : goal.returns-in-Data4
returns-in-Data4 c = record { cases = sym c.in-Data4.is }

pub returns-in-Data8 : goal.returns-in-Data8
returns-in-Data8 c = record { cases = sym c.in-Data8.is }

pub returns-in-Data16 : goal.returns-in-Data16
returns-in-Data16 c = record { cases = sym c.in-Data16.is }

pub returns-in-Udata : goal.returns-in-Udata
returns-in-Udata c = record { cases = sym c.in-Udata.is }

pub returns-in-Flag : goal.returns-in-Flag
returns-in-Flag c = record { cases = sym c.in-Flag.is }

pub returns-in-FlagPresent : goal.returns-in-FlagPresent
returns-in-FlagPresent c = record { cases = sym c.in-FlagPresent.is }

pub returns-in-UnitRef : goal.returns-in-UnitRef
returns-in-UnitRef c = record { cases = sym c.in-UnitRef.is }

pub returns-in-DebugInfoRef : goal.returns-in-DebugInfoRef
returns-in-DebugInfoRef c = record { cases = sym c.in-DebugInfoRef.is }

pub returns-in-DebugInfoRefSup : goal.returns-in-DebugInfoRefSup
returns-in-DebugInfoRefSup c = record { cases = sym c.in-DebugInfoRefSup.is }

pub returns-in-DebugMacinfoRef : goal.returns-in-DebugMacinfoRef
returns-in-DebugMacinfoRef c = record { cases = sym c.in-DebugMacinfoRef.is }

pub returns-in-DebugMacroRef : goal.returns-in-DebugMacroRef
returns-in-DebugMacroRef c = record { cases = sym c.in-DebugMacroRef.is }

pub returns-in-DebugTypesRef : goal.returns-in-DebugTypesRef
returns-in-DebugTypesRef c = record { cases = sym c.in-DebugTypesRef.is }

pub returns-in-DebugStrRefSup : goal.returns-in-DebugStrRefSup
returns-in-DebugStrRefSup c = record { cases = sym c.in-DebugStrRefSup.is }

pub returns-in-StringRef : goal.returns-in-StringRef
returns-in-StringRef c = record { cases = sym c.in-StringRef.is }

pub returns-in-LineStringRef : goal.returns-in-LineStringRef
returns-in-LineStringRef c = record { cases = sym c.in-LineStringRef.is }

pub returns-in-LineProgramRef : goal.returns-in-LineProgramRef
returns-in-LineProgramRef c = record { cases = sym c.in-LineProgramRef.is }

pub returns-in-FileIndex : goal.returns-in-FileIndex
returns-in-FileIndex c = record { cases = sym c.in-FileIndex.is }

pub returns-in-RangeListRef : goal.returns-in-RangeListRef
returns-in-RangeListRef c = record { cases = sym c.in-RangeListRef.is }

pub returns-in-RangeListsBase : goal.returns-in-RangeListsBase
returns-in-RangeListsBase c = record { cases = sym c.in-RangeListsBase.is }

pub returns-in-LocationListsBase : goal.returns-in-LocationListsBase
returns-in-LocationListsBase c = record { cases = sym c.in-LocationListsBase.is }

pub returns-in-LocationListRef : goal.returns-in-LocationListRef
returns-in-LocationListRef c = record { cases = sym c.in-LocationListRef.is }

pub returns-in-Encoding : goal.returns-in-Encoding
returns-in-Encoding c = record { cases = sym c.in-Encoding.is }

pub returns-in-DecimalSign : goal.returns-in-DecimalSign
returns-in-DecimalSign c = record { cases = sym c.in-DecimalSign.is }

pub returns-in-Endianity : goal.returns-in-Endianity
returns-in-Endianity c = record { cases = sym c.in-Endianity.is }

pub returns-in-Accessibility : goal.returns-in-Accessibility
returns-in-Accessibility c = record { cases = sym c.in-Accessibility.is }

pub returns-in-Visibility : goal.returns-in-Visibility
returns-in-Visibility c = record { cases = sym c.in-Visibility.is }

pub returns-in-Virtuality : goal.returns-in-Virtuality
returns-in-Virtuality c = record { cases = sym c.in-Virtuality.is }

pub returns-in-Language : goal.returns-in-Language
returns-in-Language c = record { cases = sym c.in-Language.is }

pub returns-in-AddressClass : goal.returns-in-AddressClass
returns-in-AddressClass c = record { cases = sym c.in-AddressClass.is }

pub returns-in-IdentifierCase : goal.returns-in-IdentifierCase
returns-in-IdentifierCase c = record { cases = sym c.in-IdentifierCase.is }

pub returns-in-CallingConvention : goal.returns-in-CallingConvention
returns-in-CallingConvention c = record { cases = sym c.in-CallingConvention.is }

pub returns-in-Inline : goal.returns-in-Inline
returns-in-Inline c = record { cases = sym c.in-Inline.is }

pub returns-in-Ordering : goal.returns-in-Ordering
returns-in-Ordering c = record { cases = sym c.in-Ordering.is }
