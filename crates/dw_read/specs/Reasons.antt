-- Numbers and texts as dw_base's grammar has them, with the reason where it reads nothing: a law beside each says that the two
-- read the same (DWARF 5, 7.4 to 7.6).
use Rattle.std.specs.Prelude.{ℕ, ◌^◌, Bool, ◌==◌, nat_lt, List, Option, Some, None, Result, Ok, Err, ℤ, pos, negsuc, true, false, ◌-◌, if◌then◌else◌}
use Rattle.dw_base.specs.Numbers.{Parser, when, bytes_at, number_at, is_width}
use Rattle.dw_base.specs.Leb128.{groups_at, signed_groups_at, fits_i64}
use Rattle.dw_base.specs.Forms.{text_at}
use Rattle.dw_base.specs.declared.common.Format.{Format}
use Rattle.dw_base.specs.declared.common.Format.TheVariants.{Dwarf32, Dwarf64}
use Rattle.dw_read.specs.Reading.{Read}
use Rattle.dw_read.specs.declared.error.ReadError.{ReadError}
use Rattle.dw_read.specs.declared.error.ReadError.TheVariants.{UnexpectedEof, BadLeb128, UnknownReservedLength, UnsupportedAddressSize}

-- the next step, where there was a value
infixl 10 ◌=>>◌
abbrev pub ◌=>>◌ : {A B : Type 0} → Result A ReadError → (A → Result B ReadError) → Result B ReadError
(Ok x) =>> f = f x
(Err e) =>> f = Err e

-- a value that is there, or a reason
abbrev pub or_refuse : {A : Type 0} → ReadError → Option A → Result A ReadError
or_refuse e None = Err e
or_refuse e (Some x) = Ok x

-- a value that passes a test, or a reason
abbrev pub if_so : {A : Type 0} → Bool → ReadError → Result A ReadError → Result A ReadError
if_so b e x = if b then x else Err e

-- the bytes are too few, or there are so many
unfoldable pub bytes_read : ℕ → Read (List ℕ)
bytes_read n bytes = or_refuse UnexpectedEof (bytes_at n bytes)

-- a number of w bytes
unfoldable pub number_read : Bool → ℕ → Read ℕ
number_read big w bytes = or_refuse UnexpectedEof (number_at big w bytes)

-- an unsigned number: its last group isn't there, or it passes 64 bits
unfoldable pub uleb_read : Read ℕ
uleb_read bytes = or_refuse UnexpectedEof (groups_at bytes) =>> λ x. if_so (nat_lt x.0 (2 ^ 64)) BadLeb128 (Ok x)

-- an unsigned number of 16 bits
unfoldable pub uleb16_read : Read ℕ
uleb16_read bytes = uleb_read bytes =>> λ x. if_so (nat_lt x.0 (2 ^ 16)) BadLeb128 (Ok x)

-- a signed number: its last group isn't there, or it passes 64 bits
unfoldable pub sleb_read : Read ℤ
sleb_read bytes = or_refuse UnexpectedEof (signed_groups_at bytes) =>> λ x. if_so (fits_i64 x.0) BadLeb128 (Ok x)

-- the bytes before a zero: no zero is there
unfoldable pub text_read : Read (List ℕ)
text_read bytes = or_refuse UnexpectedEof (text_at bytes)

-- an address of a size that addresses may have
unfoldable pub address_at : Bool → ℕ → Parser ℕ
address_at big size bytes = when (is_width size) (number_at big size bytes)

-- an address of a size: no address has this size, or the bytes are too few
unfoldable pub address_read : Bool → ℕ → Read ℕ
address_read big size bytes = if_so (is_width size) (UnsupportedAddressSize size) (number_read big size bytes)

-- after four bytes: their number is the length, it is reserved, or it says that eight more bytes are
abbrev pub length_after_read : Bool → ℕ × List ℕ → Result ((Format × ℕ) × List ℕ) ReadError
length_after_read big x =
    if nat_lt x.0 0xffff_fff0 then Ok ((Dwarf32, x.0), x.1)
    else if_so (x.0 == 0xffff_ffff) UnknownReservedLength (number_read big 8 x.1 =>> λ y. Ok ((Dwarf64, y.0), y.1))

-- an initial length, with the format that it tells
unfoldable pub initial_length_read : Bool → Read (Format × ℕ)
initial_length_read big bytes = number_read big 4 bytes =>> length_after_read big

-- seven bits of a signed number as they count in it, or in minus it less one where it is negative
abbrev pub digit : Bool → ℕ → ℕ
digit true seven = 127 - seven
digit false seven = seven

-- the signed number of a magnitude that is counted so
abbrev pub signed : Bool → ℕ → ℤ
signed true n = negsuc n
signed false n = pos n
