-- Unit headers as dw_base's grammar has them, with the reason where it reads nothing (DWARF 5, 7.5.1).
use Rattle.std.specs.Prelude.{ℕ, ◌+◌, ◌-◌, List, length, Option, Some, None, Bool, ◌&&◌, ◌==◌, nat_le, Result, Ok, if◌then◌else◌}
use Rattle.dw_base.specs.Numbers.{word_of, length_size, is_width}
use Rattle.dw_base.specs.Headers.{Header, HeaderRead, is_unit_type, has_identity, has_type_offset}
use Rattle.dw_base.specs.declared.common.Format.{Format}
use Rattle.dw_read.specs.Reading.{Read}
use Rattle.dw_read.specs.Reasons.{◌=>>◌, if_so, bytes_read, number_read, initial_length_read}
use Rattle.dw_read.specs.declared.error.ReadError.{ReadError}
use Rattle.dw_read.specs.declared.error.ReadError.TheVariants.{UnknownVersion, UnsupportedAddressSize, UnknownUnitType}

-- a number that only some units have
abbrev pub optional_read : Bool → Bool → ℕ → Read (Option ℕ)
optional_read there big width bytes = if there then (number_read big width bytes =>> λ x. Ok (Some x.0, x.1)) else Ok (None, bytes)

-- what follows the version in versions 2 to 4
unfoldable pub old_fields_read : Bool → Format → ℕ → Read Header
old_fields_read big format version bytes =
    number_read big (word_of format) bytes =>> λ table. number_read big 1 table.1 =>> λ size.
    if_so (is_width size.0) (UnsupportedAddressSize size.0) (Ok (
      record {
        encoding = record { address_size = size.0; format = format; version = version };
        unit_type = None;
        table_offset = table.0;
        identity = None;
        type_offset = None;
      },
      size.1,
    ))

-- what each header of version 5 begins with after its version: the unit's type, the size of addresses and the offset of the table
unfoldable pub new_begin_read : Bool → Format → Read (ℕ × ℕ × ℕ)
new_begin_read big format bytes =
    number_read big 1 bytes =>> λ type. number_read big 1 type.1 =>> λ size. number_read big (word_of format) size.1 =>> λ table.
    if_so (is_unit_type type.0) (UnknownUnitType (record { 0 = type.0 })) (if_so (is_width size.0) (UnsupportedAddressSize size.0)
    (Ok ((type.0, size.0, table.0), table.1)))

-- what follows it in version 5
unfoldable pub new_fields_read : Bool → Format → Read Header
new_fields_read big format bytes =
    number_read big 1 bytes =>> λ type. number_read big 1 type.1 =>> λ size. number_read big (word_of format) size.1 =>> λ table.
    if_so (is_unit_type type.0) (UnknownUnitType (record { 0 = type.0 })) (if_so (is_width size.0) (UnsupportedAddressSize size.0)
    (optional_read (has_identity type.0) big 8 table.1 =>> λ identity. optional_read (has_type_offset type.0) big (word_of format) identity.1 =>> λ place. Ok (
      record {
        encoding = record { address_size = size.0; format = format; version = 5 };
        unit_type = Some type.0;
        table_offset = table.0;
        identity = identity.0;
        type_offset = place.0;
      },
      place.1,
    )))

-- the fields after the length
unfoldable pub fields_read : Bool → Format → Read Header
fields_read big format bytes =
    number_read big 2 bytes =>> λ version. if version.0 == 5 then new_fields_read big format version.1
    else if_so (nat_le 2 version.0 && nat_le version.0 4) (UnknownVersion version.0) (old_fields_read big format version.0 version.1)

-- a unit's header, the bytes that it takes, the bytes of the unit after it, and the bytes after the unit
unfoldable pub header_read : Bool → List ℕ → Result HeaderRead ReadError
header_read big bytes =
    initial_length_read big bytes =>> λ start. bytes_read start.0.1 start.1 =>> λ unit. fields_read big start.0.0 unit.0 =>> λ fields.
    Ok (record { header = fields.0; size = length_size start.0.0 + (length unit.0 - length fields.1); body = fields.1; rest = unit.1 })
