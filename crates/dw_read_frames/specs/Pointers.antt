-- How the pointers of call frame tables are read, with the reason where one can't be (Linux Standard Base Core 5.0, 10.5.1).
use Rattle.std.specs.Prelude.{ℕ, suc, ◌+◌, ◌-◌, ◌*◌, ◌%◌, ◌^◌, ◌==◌, nat_lt, Bool, List, [], ◌∷◌, Option, Some, None, Ok, ℤ, pos, negsuc, if◌then◌else◌}
use Rattle.dw_base.specs.Pointers.{format_of, application_of, from_zero, from_place}
use Rattle.dw_base.specs.declared.constants.DwEhPe.{DwEhPe}
use Rattle.dw_base.specs.declared.constants.TheConstants.{DW_EH_PE_absptr, DW_EH_PE_uleb128, DW_EH_PE_udata2, DW_EH_PE_udata4, DW_EH_PE_udata8, DW_EH_PE_sleb128, DW_EH_PE_sdata2, DW_EH_PE_sdata4, DW_EH_PE_sdata8}
use Rattle.dw_read.specs.Reading.{Read}
use Rattle.dw_read.specs.Reasons.{◌=>>◌, or_refuse, number_read, uleb_read, sleb_read, address_read}
use Rattle.dw_read.specs.declared.error.ReadError.TheVariants.{UnknownPointerEncoding}

-- a row of a table, and the row of a key
abbrev pub Row : Type 0 → Type 0
Row A = ℕ × A

abbrev pub among : {A : Type 0} → ℕ → List (Row A) → Option A
among key [] = None
among key (r ∷ rows) = if key == r.0 then Some r.1 else among key rows

-- a number of w bytes in two's complement, with its highest bit carried up to 64 bits
abbrev pub extended : ℕ → ℕ → ℕ
extended w n = if nat_lt n (2 ^ (8 * w - 1)) then n else n + (2 ^ 64 - 2 ^ (8 * w))

-- a signed number in 64 bits
abbrev pub in_bits : ℤ → ℕ
in_bits (pos n) = n
in_bits (negsuc n) = 2 ^ 64 - suc n

abbrev pub extended_read : Bool → ℕ → Read ℕ
extended_read big w bytes = number_read big w bytes =>> λ x. Ok (extended w x.0, x.1)

abbrev pub signed_read : Read ℕ
signed_read bytes = sleb_read bytes =>> λ x. Ok (in_bits x.0, x.1)

-- the formats of a number of 64 bits, where an address has so many bytes
unfoldable pub format_row : Bool → ℕ → ℕ → Option (Read ℕ)
format_row big size format = among format (
    (DW_EH_PE_absptr.0, address_read big size)
    ∷ (DW_EH_PE_uleb128.0, uleb_read)
    ∷ (DW_EH_PE_udata2.0, number_read big 2)
    ∷ (DW_EH_PE_udata4.0, number_read big 4)
    ∷ (DW_EH_PE_udata8.0, number_read big 8)
    ∷ (DW_EH_PE_sleb128.0, signed_read)
    ∷ (DW_EH_PE_sdata2.0, extended_read big 2)
    ∷ (DW_EH_PE_sdata4.0, extended_read big 4)
    ∷ (DW_EH_PE_sdata8.0, number_read big 8)
    ∷ [])

-- a number by the format of an encoding
unfoldable pub data_read : Bool → ℕ → DwEhPe → Read ℕ
data_read big size encoding bytes = or_refuse (UnknownPointerEncoding encoding) (format_row big size (format_of encoding.0)) =>> λ p. p bytes

-- what a number leads to that stands at a place: it counts from zero, or from there
abbrev pub led_to : ℕ → ℕ → ℕ → Option ℕ
led_to application place n =
    if application == from_zero then Some n
    else if application == from_place then Some ((n + place) % 2 ^ 64)
    else None

-- the address that a pointer at a place leads to
unfoldable pub pointer_read : Bool → ℕ → DwEhPe → ℕ → Read ℕ
pointer_read big size encoding place bytes =
    data_read big size encoding bytes =>> λ x.
    or_refuse (UnknownPointerEncoding encoding) (led_to (application_of encoding.0) place x.0) =>> λ a. Ok (a, x.1)
