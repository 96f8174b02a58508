-- Numbers of several bytes in either order, and the lengths that units begin with (DWARF 5, 7.4 and 7.26).
use Rattle.std.specs.Prelude.{ℕ, ◌+◌, ◌*◌, ◌^◌, Bool, true, false, ◌||◌, ◌==◌, nat_lt, nat_le, List, [], ◌∷◌, length, take, drop, Option, Some, None, if◌then◌else◌}
use Rattle.std.specs.Int.{bytes_low_first, bytes_high_first}
use Rattle.dw_base.specs.declared.common.Format.{Format}
use Rattle.dw_base.specs.declared.common.Format.TheVariants.{Dwarf32, Dwarf64}

-- what is read from the front of bytes, and the bytes after it
abbrev pub Parser : Type 0 → Type 0
Parser A = List ℕ → Option (A × List ℕ)

-- the next step, where there was a value
infixl 10 ◌>>=◌
abbrev pub ◌>>=◌ : {A B : Type 0} → Option A → (A → Option B) → Option B
None >>= f = None
(Some x) >>= f = f x

-- nothing, unless the test holds
abbrev pub when : {A : Type 0} → Bool → Option A → Option A
when true x = x
when false x = None

-- so many bytes
unfoldable pub bytes_at : ℕ → Parser (List ℕ)
bytes_at n bytes = when (nat_le n (length bytes)) (Some (take n bytes, drop n bytes))

-- the number of bytes with the lowest first, and with the highest first after a number n
abbrev pub low_first : List ℕ → ℕ
low_first [] = 0
low_first (b ∷ bs) = b + 256 * low_first bs

abbrev pub high_first : ℕ → List ℕ → ℕ
high_first n [] = n
high_first n (b ∷ bs) = high_first (n * 256 + b) bs

-- the number of bytes in an order; true is the highest first
abbrev pub value_of : Bool → List ℕ → ℕ
value_of true bytes = high_first 0 bytes
value_of false bytes = low_first bytes

-- a number of w bytes
unfoldable pub number_at : Bool → ℕ → Parser ℕ
number_at big w bytes = bytes_at w bytes >>= λ x. Some (value_of big x.0, x.1)

-- the w bytes of a number in an order
unfoldable pub num : Bool → ℕ → ℕ → List ℕ
num true w n = bytes_high_first w n
num false w n = bytes_low_first 0 w n

-- a width that a field and an address may have
abbrev pub is_width : ℕ → Bool
is_width w = (w == 1) || (w == 2) || (w == 4) || (w == 8)

-- n fits w bytes
abbrev pub fits : ℕ → ℕ → Bool
fits w n = nat_lt n (2 ^ (8 * w))

-- the bytes of a word
abbrev pub word_of : Format → ℕ
word_of Dwarf32 = 4
word_of Dwarf64 = 8

-- what stands before a length of eight bytes
abbrev pub escape_of : Format → List ℕ
escape_of Dwarf32 = []
escape_of Dwarf64 = 0xff ∷ 0xff ∷ 0xff ∷ 0xff ∷ []

-- the bytes of an initial length
abbrev pub length_size : Format → ℕ
length_size format = length (escape_of format) + word_of format

-- whether a format can spell a length
abbrev pub length_fits : Format → ℕ → Bool
length_fits Dwarf32 n = nat_lt n 0xffff_fff0
length_fits Dwarf64 n = nat_lt n (2 ^ 64)

-- after four bytes: their number is the length, or says that eight more bytes are
abbrev pub length_after : Bool → ℕ × List ℕ → Option ((Format × ℕ) × List ℕ)
length_after big x =
    if nat_lt x.0 0xffff_fff0 then Some ((Dwarf32, x.0), x.1)
    else when (x.0 == 0xffff_ffff) (number_at big 8 x.1 >>= λ y. Some ((Dwarf64, y.0), y.1))

-- an initial length, with the format that it tells
unfoldable pub initial_length_at : Bool → Parser (Format × ℕ)
initial_length_at big bytes = number_at big 4 bytes >>= length_after big
