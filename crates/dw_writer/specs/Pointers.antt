-- The text of a pointer by its encoding.
use Rattle.std.specs.Prelude.{ℕ, ◌^◌, ◌==◌, ◌&&◌, Bool, nat_lt, length, Option, Some, None, ℤ, pos, negsuc, if◌then◌else◌}
use Rattle.dw_base.specs.Numbers.{◌>>=◌, when, is_width}
use Rattle.dw_base.specs.Leb128.{uleb, sleb}
use Rattle.dw_base.specs.declared.constants.TheConstants.{DW_EH_PE_uleb128, DW_EH_PE_sleb128}
use Rattle.dw_writer.specs.declared.pointer.PointerLayout.{PointerLayout}
use Rattle.dw_writer.specs.declared.pointer.PointerLayout.TheVariants.{Uleb128, Sleb128, Unsigned, Signed}
use Rattle.dw_base.specs.Pointers.{format_of, application_of, from_zero, from_place, pointer_width, is_signed, signed_of, distance}
use Rattle.dw_writer.specs.Texts.{Text, num_text}
use Rattle.dw_writer.specs.SignedNumbers.{signed_fits, signed_num}

-- the text of a signed number, where w is a width and the number fits it
unfoldable pub signed_text : Bool → ℕ → ℤ → Text
signed_text big w z = if is_width w && signed_fits w z then Some (signed_num big w z) else None

-- a whole number as an address of 64 bits
abbrev pub address_of : ℤ → Option ℕ
address_of (pos n) = when (nat_lt n (2 ^ 64)) (Some n)
address_of (negsuc n) = None

-- a number of 64 bits in w bytes, by a format that has as many
unfoldable pub formatted : Bool → ℕ → ℕ → ℕ → Text
formatted big w format n =
    pointer_width w format >>= λ k. when (k == w) (if is_signed format then signed_text big w (signed_of n) else num_text big w n)

-- a pointer to an address, in the w bytes at a place: the address, or how far it stands behind the place
unfoldable pub pointer_text : Bool → ℕ → ℕ → ℕ → ℕ → Text
pointer_text big w encoding place n =
    if application_of encoding == from_zero then formatted big w (format_of encoding) n
    else (if application_of encoding == from_place then formatted big w (format_of encoding) (distance place n) else None)

-- how a format lays a number out, where an address has so many bytes
abbrev pub layout_by : ℕ → ℕ → Option PointerLayout
layout_by size format =
    if format == DW_EH_PE_uleb128.0 then Some Uleb128
    else (if format == DW_EH_PE_sleb128.0 then Some Sleb128
    else (pointer_width size format >>= λ w. Some (if is_signed format then Signed w else Unsigned w)))

-- a number of 64 bits, laid out so; a signed one is that with the same 64 bits
abbrev pub laid_out : Bool → PointerLayout → ℕ → Text
laid_out big Uleb128 n = Some (uleb n)
laid_out big Sleb128 n = Some (sleb (signed_of n))
laid_out big (Unsigned w) n = num_text big w n
laid_out big (Signed w) n = signed_text big w (signed_of n)

-- the bytes of such a number
abbrev pub laid_size : PointerLayout → ℕ → ℕ
laid_size Uleb128 n = length (uleb n)
laid_size Sleb128 n = length (sleb (signed_of n))
laid_size (Unsigned w) n = w
laid_size (Signed w) n = w

-- a number of 64 bits by a format
unfoldable pub data_text : Bool → ℕ → ℕ → ℕ → Text
data_text big size format n = layout_by size format >>= λ layout. laid_out big layout n

-- what a pointer to n holds at a place: how far n stands behind what the encoding counts from, which is zero or the place
abbrev pub counted : ℕ → ℕ → ℕ → Option ℕ
counted encoding place n =
    if application_of encoding == from_zero then Some n
    else (if application_of encoding == from_place then Some (distance place n) else None)

-- a pointer to an address that is known, at a place
unfoldable pub constant_pointer : Bool → ℕ → ℕ → ℕ → ℕ → Text
constant_pointer big size encoding place n = counted encoding place n >>= data_text big size (format_of encoding)
