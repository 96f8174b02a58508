use Rattle.std.proofs.Common.{refl}
use Rattle.dw_convert.proofs.Made.{made_of}
use Rattle.dw_convert.proofs.range.convert_range.Goals as goal

pub returns-in-AddressOrOffsetPair : goal.returns-in-AddressOrOffsetPair
returns-in-AddressOrOffsetPair g c = rw (c.paired.ensures, c.in-AddressOrOffsetPair.is) (made_of _ _ _ (λ a. made_of _ _ _ (λ b. refl) c.converted-end.result c.converted-end.ensures) c.converted-begin.result c.converted-begin.ensures)

pub returns-in-BaseAddress : goal.returns-in-BaseAddress
returns-in-BaseAddress g c = rw (c.based.ensures, c.in-BaseAddress.is) (made_of _ _ _ (λ a. refl) c.converted.result c.converted.ensures)

pub returns-in-BaseAddressx : goal.returns-in-BaseAddressx
returns-in-BaseAddressx g c = rw (c.based-in-BaseAddressx.ensures, c.in-BaseAddressx.is) (made_of _ _ _ (λ a. refl) c.indexed.result c.indexed.ensures)

pub returns-in-StartxEndx : goal.returns-in-StartxEndx
returns-in-StartxEndx g c = rw (c.spanned.ensures, c.in-StartxEndx.is) (made_of _ _ _ (λ a. made_of _ _ _ (λ b. refl) c.indexed-end.result c.indexed-end.ensures) c.indexed-begin.result c.indexed-begin.ensures)

pub returns-in-StartxLength : goal.returns-in-StartxLength
returns-in-StartxLength g c = rw (c.counted.ensures, c.in-StartxLength.is) (made_of _ _ _ (λ a. refl) c.indexed-in-StartxLength.result c.indexed-in-StartxLength.ensures)

pub returns-in-OffsetPair : goal.returns-in-OffsetPair
returns-in-OffsetPair g c = rw c.in-OffsetPair.is refl

pub returns-in-StartEnd : goal.returns-in-StartEnd
returns-in-StartEnd g c = rw (c.spanned-in-StartEnd.ensures, c.in-StartEnd.is) (made_of _ _ _ (λ a. made_of _ _ _ (λ b. refl) c.converted-end-in-StartEnd.result c.converted-end-in-StartEnd.ensures) c.converted-begin-in-StartEnd.result c.converted-begin-in-StartEnd.ensures)

pub returns-in-StartLength : goal.returns-in-StartLength
returns-in-StartLength g c = rw (c.counted-in-StartLength.ensures, c.in-StartLength.is) (made_of _ _ _ (λ a. refl) c.converted-in-StartLength.result c.converted-in-StartLength.ensures)
