-- How the entries of call frame sections begin, with the reason where one can't be read (DWARF 5, 6.4.1 and 7.24; Linux Standard Base
-- Core 5.0, 10.6.1).
use Rattle.std.specs.Prelude.{ℕ, ◌+◌, ◌-◌, ◌==◌, ◌&&◌, nat_le, Bool, true, false, List, Option, Some, None, Ok, if◌then◌else◌}
use Rattle.dw_base.specs.Numbers.{length_size}
use Rattle.dw_base.specs.declared.common.Format.{Format}
use Rattle.dw_base.specs.declared.common.Format.TheVariants.{Dwarf32, Dwarf64}
use Rattle.dw_read.specs.Reading.{Read}
use Rattle.dw_read.specs.Reasons.{◌=>>◌, or_refuse, bytes_read, number_read, initial_length_read}
use Rattle.dw_read.specs.declared.error.ReadError.TheVariants.{InvalidCiePointer}

-- the bytes of the field that tells a CIE from an FDE, by whether the section is `.eh_frame`
abbrev pub id_width : Bool → Format → ℕ
id_width true format = 4
id_width false Dwarf32 = 4
id_width false Dwarf64 = 8

-- what stands there in a CIE: zero, or a word whose bits are all one
abbrev pub cie_number : Bool → Format → ℕ
cie_number true format = 0
cie_number false Dwarf32 = 0xffff_ffff
cie_number false Dwarf64 = 0xffff_ffff_ffff_ffff

-- where the field of an FDE leads that stands at a place: it is the CIE's offset, or how far the CIE stands before the field
abbrev pub led_back : Bool → ℕ → ℕ → Option ℕ
led_back true place n = if nat_le n place then Some (place - n) else None
led_back false place n = Some n

-- the field, which stands at a place
unfoldable pub owner_read : Bool → Bool → Format → ℕ → Read (Option ℕ)
owner_read eh big format place bytes =
    number_read big (id_width eh format) bytes =>> λ n.
    if n.0 == cie_number eh format then Ok (None, n.1)
    else (or_refuse (InvalidCiePointer n.0) (led_back eh place n.0) =>> λ c. Ok (Some c, n.1))

-- an entry as it begins: its format, the place of an FDE's CIE, and what follows that field
pub record Head : Type 0 where
  pub format : Format
  pub cie : Option ℕ
  pub body : List ℕ

-- the entry at a place; a zero length, which is none, ends `.eh_frame`
unfoldable pub head_read : Bool → Bool → ℕ → Read (Option Head)
head_read eh big at bytes =
    initial_length_read big bytes =>> λ n.
    if eh && (n.0.1 == 0) then Ok (None, n.1)
    else (bytes_read n.0.1 n.1 =>> λ entry. owner_read eh big n.0.0 (at + length_size n.0.0) entry.0 =>> λ owner.
    Ok (Some (record { format = n.0.0; cie = owner.0; body = owner.1 }), entry.1))
