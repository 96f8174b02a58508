use Rattle.std.proofs.Common.{refl, inr, SFits, w64, rules}
use Rattle.std.proofs.lemmas.Int.{to_z-of_z}
use Rattle.dw_convert.proofs.constant.same_value.Goals as goal

pub returns-in-Data1 : goal.returns-in-Data1
returns-in-Data1 g c = inr (rw c.in-Data1.is refl)

pub returns-in-Data2 : goal.returns-in-Data2
returns-in-Data2 g c = inr (rw c.in-Data2.is refl)

pub returns-in-Data4 : goal.returns-in-Data4
returns-in-Data4 g c = inr (rw c.in-Data4.is refl)

pub returns-in-Data8 : goal.returns-in-Data8
returns-in-Data8 g c = inr (rw c.in-Data8.is refl)

pub returns-in-Data16 : goal.returns-in-Data16
returns-in-Data16 g c = inr (rw c.in-Data16.is refl)

pub returns-in-Udata : goal.returns-in-Udata
returns-in-Udata g c = inr (rw c.in-Udata.is refl)

pub returns-in-DwoId : goal.returns-in-DwoId
returns-in-DwoId g c = inr (rw c.in-DwoId.is refl)

pub returns-in-Flag : goal.returns-in-Flag
returns-in-Flag g c = inr (rw c.in-Flag.is refl)

pub returns-in-DebugInfoRefSup : goal.returns-in-DebugInfoRefSup
returns-in-DebugInfoRefSup g c = inr (rw c.in-DebugInfoRefSup.is refl)

pub returns-in-DebugStrRefSup : goal.returns-in-DebugStrRefSup
returns-in-DebugStrRefSup g c = inr (rw c.in-DebugStrRefSup.is refl)

pub returns-in-DebugMacinfoRef : goal.returns-in-DebugMacinfoRef
returns-in-DebugMacinfoRef g c = inr (rw c.in-DebugMacinfoRef.is refl)

pub returns-in-DebugMacroRef : goal.returns-in-DebugMacroRef
returns-in-DebugMacroRef g c = inr (rw c.in-DebugMacroRef.is refl)

pub returns-in-DebugTypesRef : goal.returns-in-DebugTypesRef
returns-in-DebugTypesRef g c = inr (rw c.in-DebugTypesRef.is refl)

pub returns-in-Encoding : goal.returns-in-Encoding
returns-in-Encoding g c = inr (rw c.in-Encoding.is refl)

pub returns-in-DecimalSign : goal.returns-in-DecimalSign
returns-in-DecimalSign g c = inr (rw c.in-DecimalSign.is refl)

pub returns-in-Endianity : goal.returns-in-Endianity
returns-in-Endianity g c = inr (rw c.in-Endianity.is refl)

pub returns-in-Accessibility : goal.returns-in-Accessibility
returns-in-Accessibility g c = inr (rw c.in-Accessibility.is refl)

pub returns-in-Visibility : goal.returns-in-Visibility
returns-in-Visibility g c = inr (rw c.in-Visibility.is refl)

pub returns-in-Virtuality : goal.returns-in-Virtuality
returns-in-Virtuality g c = inr (rw c.in-Virtuality.is refl)

pub returns-in-Language : goal.returns-in-Language
returns-in-Language g c = inr (rw c.in-Language.is refl)

pub returns-in-AddressClass : goal.returns-in-AddressClass
returns-in-AddressClass g c = inr (rw c.in-AddressClass.is refl)

pub returns-in-IdentifierCase : goal.returns-in-IdentifierCase
returns-in-IdentifierCase g c = inr (rw c.in-IdentifierCase.is refl)

pub returns-in-CallingConvention : goal.returns-in-CallingConvention
returns-in-CallingConvention g c = inr (rw c.in-CallingConvention.is refl)

pub returns-in-Inline : goal.returns-in-Inline
returns-in-Inline g c = inr (rw c.in-Inline.is refl)

pub returns-in-Ordering : goal.returns-in-Ordering
returns-in-Ordering g c = inr (rw c.in-Ordering.is refl)

pub returns-in-Sdata : goal.returns-in-Sdata
returns-in-Sdata g c =
    let fits : SFits w64 c.in-Sdata.number = search rules in
    inr (rw (c.in-Sdata.is, to_z-of_z w64 c.in-Sdata.number fits) refl)
