-- Why writers' calls refuse.
use Rattle.std.specs.Prelude.{◌≡◌, ℕ, ◌+◌, ◌^◌, ◌≤◌, ◌<◌, Bool, true, false, ◌&&◌, nat_lt, Option, Some, None, IsTrue, IsFalse, if◌then◌else◌}
use Rattle.dw_base.specs.Faults as counts
use Rattle.dw_base.specs.Numbers.{is_width, fits, length_fits}
use Rattle.dw_base.specs.declared.error.Error.{Error}
use Rattle.dw_base.specs.declared.error.Error.TheVariants.{NoMemory, WriteFault, OffsetOutOfBounds, LengthOutOfBounds, ValueTooLarge, UnsupportedWordSize, InitialLengthOverflow, InvalidAddress, UnsupportedPointerEncoding}
use Rattle.dw_base.specs.declared.address.Address.{Address}
use Rattle.dw_base.specs.declared.address.Address.TheVariants.{Constant, Symbol}
use Rattle.dw_base.specs.declared.common.Format.{Format}
use Rattle.dw_base.specs.Pointers.{format_of, pointer_width, signed_of}
use Rattle.dw_writer.specs.SignedNumbers.{signed_fits}
use Rattle.dw_writer.specs.Pointers.{layout_by, counted}
use Rattle.dw_writer.specs.declared.pointer.PointerLayout.{PointerLayout}
use Rattle.dw_writer.specs.declared.pointer.PointerLayout.TheVariants.{Uleb128, Sleb128, Unsigned, Signed}
use Rattle.dw_writer.specs.Contents.{Meaning}

-- the writer failed and counted that
abbrev pub HasRisen : Meaning → Meaning → Type 0
HasRisen old new = counts.HasRisen old.faults new.faults

-- never
abbrev pub NotAtAll : Error → Type 0
NotAtAll _ = ⊥

-- another cause than want of memory
abbrev pub IsNotMemory : Error → Type 0
IsNotMemory NoMemory = ⊥
IsNotMemory _ = Unit {0}

-- bytes are refused for want of memory or by a fault
abbrev pub BytesRefused : Meaning → Meaning → Error → Type 0
BytesRefused old new NoMemory = Unit {0}
BytesRefused old new WriteFault = HasRisen old new
BytesRefused old new _ = ⊥

-- n bytes at place p of so many are refused for these too, and where they begin or end past the end
abbrev pub PatchCause : ℕ → Type 0 → ℕ → ℕ → Error → Type 0
PatchCause size rise p n NoMemory = Unit {0}
PatchCause size rise p n WriteFault = rise
PatchCause size rise p n OffsetOutOfBounds = size < p
PatchCause size rise p n LengthOutOfBounds = (p ≤ size) × (size < p + n)
PatchCause size rise p n _ = ⊥

abbrev pub PatchRefused : Meaning → Meaning → ℕ → ℕ → Error → Type 0
PatchRefused old new p n e = PatchCause old.size (HasRisen old new) p n e

-- bytes that are refused for their place alone change nothing
abbrev pub KeptOutside : Meaning → Meaning → Error → Type 0
KeptOutside old new OffsetOutOfBounds = new ≡ old
KeptOutside old new LengthOutOfBounds = new ≡ old
KeptOutside old new _ = Unit {0}

-- n bytes at place p of so many are refused only where they begin or end past the end
abbrev pub PlaceRefused : ℕ → ℕ → ℕ → Error → Type 0
PlaceRefused size p n OffsetOutOfBounds = size < p
PlaceRefused size p n LengthOutOfBounds = (p ≤ size) × (size < p + n)
PlaceRefused size p n _ = ⊥

-- first it is asked whether w is a width, then whether the number fits it, and then for more
abbrev pub NumberRefused : ℕ → Bool → (Error → Type 0) → Error → Type 0
NumberRefused w fit more (UnsupportedWordSize n) = (n ≡ w) × IsFalse (is_width w)
NumberRefused w fit more ValueTooLarge = IsTrue (is_width w) × IsFalse fit
NumberRefused w fit more e = IsTrue (is_width w) × IsTrue fit × more e

-- whether an offset can be written: a plain writer puts it in the place, another in a signed addend
abbrev pub offset_fits : Bool → ℕ → ℕ → Bool
offset_fits is_plain w n = if is_plain then fits w n else nat_lt n (2 ^ 63)

-- whether an address can be written: a plain writer takes no symbols
abbrev pub address_fits : Bool → ℕ → Address → Bool
address_fits is_plain w (Constant n) = is_width w && fits w n
address_fits true w (Symbol s a) = false
address_fits false w (Symbol s a) = is_width w

-- an address is refused as a number is, but a plain writer refuses every symbol
abbrev pub AddressRefused : Bool → ℕ → Address → (Error → Type 0) → Error → Type 0
AddressRefused is_plain w (Constant n) more e = NumberRefused w (fits w n) more e
AddressRefused true w (Symbol s a) more InvalidAddress = Unit {0}
AddressRefused true w (Symbol s a) more _ = ⊥
AddressRefused false w (Symbol s a) more e = NumberRefused w true more e

-- first it is asked whether the format can spell a length, and then for more
abbrev pub LengthRefused : Format → ℕ → (Error → Type 0) → Error → Type 0
LengthRefused format n more InitialLengthOverflow = IsFalse (length_fits format n)
LengthRefused format n more e = IsTrue (length_fits format n) × more e

-- an encoding that has no meaning here
abbrev pub EncodingRefused : ℕ → Error → Type 0
EncodingRefused encoding (UnsupportedPointerEncoding e) = e.0 ≡ encoding
EncodingRefused encoding _ = ⊥

-- a number is refused as its layout has it, which the format may not have
abbrev pub LaidRefused : Option PointerLayout → ℕ → ℕ → (Error → Type 0) → Error → Type 0
LaidRefused None format n more e = EncodingRefused format e
LaidRefused (Some Uleb128) format n more e = more e
LaidRefused (Some Sleb128) format n more e = more e
LaidRefused (Some (Unsigned w)) format n more e = NumberRefused w (fits w n) more e
LaidRefused (Some (Signed w)) format n more e = NumberRefused w (signed_fits w (signed_of n)) more e

abbrev pub DataRefused : ℕ → ℕ → ℕ → (Error → Type 0) → Error → Type 0
DataRefused size format n more e = LaidRefused (layout_by size format) format n more e

-- first it is asked what the encoding counts from
abbrev pub CountedRefused : Option ℕ → ℕ → ℕ → (Error → Type 0) → Error → Type 0
CountedRefused None size encoding more e = EncodingRefused encoding e
CountedRefused (Some n) size encoding more e = DataRefused size (format_of encoding) n more e

-- a record of a pointer has a width, which two formats haven't
abbrev pub RecordRefused : Option ℕ → ℕ → (Error → Type 0) → Error → Type 0
RecordRefused None encoding more e = EncodingRefused encoding e
RecordRefused (Some w) encoding more e = NumberRefused w true more e

-- a pointer to an address by an encoding, at a place: a plain writer refuses every symbol
abbrev pub PointerRefused : Bool → ℕ → ℕ → ℕ → Address → (Error → Type 0) → Error → Type 0
PointerRefused is_plain size encoding place (Constant n) more e = CountedRefused (counted encoding place n) size encoding more e
PointerRefused true size encoding place (Symbol s a) more InvalidAddress = Unit {0}
PointerRefused true size encoding place (Symbol s a) more _ = ⊥
PointerRefused false size encoding place (Symbol s a) more e = RecordRefused (pointer_width size (format_of encoding)) encoding more e
