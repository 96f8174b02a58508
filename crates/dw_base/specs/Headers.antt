-- Unit headers (DWARF 5, 7.5.1; below version 5 the address size stands after the offset and there is no type).
use Rattle.std.specs.Prelude.{ℕ, ◌+◌, ◌-◌, List, length, Option, Some, None, Bool, ◌&&◌, ◌||◌, ◌==◌, nat_le, if◌then◌else◌}
use Rattle.dw_base.specs.Numbers.{Parser, ◌>>=◌, when, bytes_at, number_at, initial_length_at, word_of, length_size, is_width}
use Rattle.dw_base.specs.declared.common.Encoding.{Encoding}
use Rattle.dw_base.specs.declared.common.Format.{Format}
use Rattle.dw_base.specs.declared.constants.TheConstants.{DW_UT_compile, DW_UT_type, DW_UT_skeleton, DW_UT_split_compile, DW_UT_split_type}

pub record Header : Type 0 where
  pub encoding : Encoding
  -- there from version 5 on
  pub unit_type : Option ℕ
  -- where the unit's abbreviation table stands in its section
  pub table_offset : ℕ
  -- the id of a skeleton or a split compile unit, the signature of a type unit
  pub identity : Option ℕ
  -- where the type of a type unit stands in it
  pub type_offset : Option ℕ

-- the types of unit, from compile to split type (DWARF 5, table 7.2)
abbrev pub is_unit_type : ℕ → Bool
is_unit_type type = nat_le DW_UT_compile.0 type && nat_le type DW_UT_split_type.0

-- a skeleton and a split compile unit have an id, type units a signature (DWARF 5, 7.5.1.2 and 7.5.1.3)
abbrev pub has_identity : ℕ → Bool
has_identity type =
    (type == DW_UT_type.0) || (type == DW_UT_skeleton.0) || (type == DW_UT_split_compile.0) || (type == DW_UT_split_type.0)

-- type units have the place of their type (DWARF 5, 7.5.1.3)
abbrev pub has_type_offset : ℕ → Bool
has_type_offset type = (type == DW_UT_type.0) || (type == DW_UT_split_type.0)

-- eight bytes that only some types of unit have
abbrev pub identity_at : Bool → ℕ → Parser (Option ℕ)
identity_at big type bytes =
    if has_identity type then (number_at big 8 bytes >>= λ x. Some (Some x.0, x.1)) else Some (None, bytes)

-- a word that only type units have
abbrev pub type_offset_at : Bool → Format → ℕ → Parser (Option ℕ)
type_offset_at big format type bytes =
    if has_type_offset type then (number_at big (word_of format) bytes >>= λ x. Some (Some x.0, x.1)) else Some (None, bytes)

-- what follows the version in versions 2 to 4: the table's offset and the address size
abbrev pub old_fields_at : Bool → Format → ℕ → Parser Header
old_fields_at big format version bytes =
    number_at big (word_of format) bytes >>= λ table. number_at big 1 table.1 >>= λ size.
    when (is_width size.0) (Some (
      record {
        encoding = record { address_size = size.0; format = format; version = version };
        unit_type = None;
        table_offset = table.0;
        identity = None;
        type_offset = None;
      },
      size.1,
    ))

-- what follows it in version 5: the unit's type, the address size, the table's offset, and what the type asks for
abbrev pub new_fields_at : Bool → Format → Parser Header
new_fields_at big format bytes =
    number_at big 1 bytes >>= λ type. number_at big 1 type.1 >>= λ size. number_at big (word_of format) size.1 >>= λ table.
    when (is_unit_type type.0 && is_width size.0)
    (identity_at big type.0 table.1 >>= λ identity. type_offset_at big format type.0 identity.1 >>= λ place. Some (
      record {
        encoding = record { address_size = size.0; format = format; version = 5 };
        unit_type = Some type.0;
        table_offset = table.0;
        identity = identity.0;
        type_offset = place.0;
      },
      place.1,
    ))

-- the fields after the length
abbrev pub fields_at : Bool → Format → Parser Header
fields_at big format bytes =
    number_at big 2 bytes >>= λ version. if version.0 == 5 then new_fields_at big format version.1
    else when (nat_le 2 version.0 && nat_le version.0 4) (old_fields_at big format version.0 version.1)

-- a unit's header, the bytes that it takes, the bytes of the unit after it, and the bytes after the unit
pub record HeaderRead : Type 0 where
  pub header : Header
  pub size : ℕ
  pub body : List ℕ
  pub rest : List ℕ

unfoldable pub header_at : Bool → List ℕ → Option HeaderRead
header_at big bytes =
    initial_length_at big bytes >>= λ start. bytes_at start.0.1 start.1 >>= λ unit. fields_at big start.0.0 unit.0 >>= λ fields.
    Some (record { header = fields.0; size = length_size start.0.0 + (length unit.0 - length fields.1); body = fields.1; rest = unit.1 })
