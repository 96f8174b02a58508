-- The fields of an attribute's value, each read from the front of those that are left.
use Rattle.std.specs.Prelude.{ℕ, ◌^◌, Ok, Err, ok_or}
use Rattle.dw_base.specs.declared.constants.DwTag.{DwTag}
use Rattle.dw_base.specs.declared.constants.DwAt.{DwAt}
use Rattle.dw_script_fields.specs.declared.kind.ConstantKind.{ConstantKind}
use Rattle.dw_script_fields.specs.declared.kind.ConstantKind.TheVariants as constant
use Rattle.dw_script_fields.specs.declared.kind.Kind.{Kind}
use Rattle.dw_script_fields.specs.declared.kind.Kind.TheVariants as kind
use Rattle.dw_script_fields.specs.declared.kind.NumberKind.{NumberKind}
use Rattle.dw_script_fields.specs.declared.kind.NumberKind.TheVariants as number
use Rattle.dw_script_fields.specs.declared.kind.PlaceKind.{PlaceKind}
use Rattle.dw_script_fields.specs.declared.kind.PlaceKind.TheVariants as place
use Rattle.dw_ends.specs.declared.reason.Reason.TheVariants.{UnknownWord}
use Rattle.dw_script_fields.specs.declared.value.Value.{Value}
use Rattle.dw_script_fields.specs.declared.value.Value.TheVariants as value
use Rattle.dw_script_fields.specs.Codes.{tag_of, attribute_of}
use Rattle.dw_script_fields.specs.Expressions.{expression_field}
use Rattle.dw_ends.specs.Fields.{Fields, Outcome, ◌>>=◌, next_field, number_field, hex_field}
use Rattle.dw_script_fields.specs.Fields.{signed_field, flag_field, address_field, reference_field, index_or_none_field, made}
use Rattle.dw_script_fields.specs.Kinds.{kind_of}

-- a tag, and the fields after it
abbrev pub tag_field : Fields → Outcome (DwTag × Fields)
tag_field fields = do
  (field, fields) ← next_field fields
  tag ← tag_of field
  Ok (record { 0 = tag }, fields)

-- the name of an attribute, and the fields after it
abbrev pub attribute_field : Fields → Outcome (DwAt × Fields)
attribute_field fields = do
  (field, fields) ← next_field fields
  name ← attribute_of field
  Ok (record { 0 = name }, fields)

-- the kind of a value, and the fields after it
abbrev pub kind_field : Fields → Outcome (Kind × Fields)
kind_field fields = do
  (field, fields) ← next_field fields
  kind ← ok_or (kind_of field) UnknownWord
  Ok (kind, fields)

-- a number of 64 bits
abbrev pub number_of_kind : NumberKind → ℕ → Value
number_of_kind number.Data8 n = value.Data8 n
number_of_kind number.Udata n = value.Udata n
number_of_kind number.UnitRef n = value.UnitRef n
number_of_kind number.DebugTypesRef n = value.DebugTypesRef (record { 0 = n })
number_of_kind number.StringRef n = value.StringRef n
number_of_kind number.LineStringRef n = value.LineStringRef n
number_of_kind number.RangeListRef n = value.RangeListRef n
number_of_kind number.LocationListRef n = value.LocationListRef n
number_of_kind number.AddressClass n = value.AddressClass (record { 0 = n })

-- a place in another section, or in one of the supplementary file
abbrev pub place_of_kind : PlaceKind → ℕ → Value
place_of_kind place.DebugInfoRefSup n = value.DebugInfoRefSup (record { 0 = n })
place_of_kind place.DebugMacinfoRef n = value.DebugMacinfoRef (record { 0 = n })
place_of_kind place.DebugMacroRef n = value.DebugMacroRef (record { 0 = n })
place_of_kind place.DebugStrRefSup n = value.DebugStrRefSup (record { 0 = n })

-- a number of one byte that the standard gives meanings
abbrev pub constant_of_kind : ConstantKind → ℕ → Value
constant_of_kind constant.Encoding n = value.Encoding (record { 0 = n })
constant_of_kind constant.DecimalSign n = value.DecimalSign (record { 0 = n })
constant_of_kind constant.Endianity n = value.Endianity (record { 0 = n })
constant_of_kind constant.Accessibility n = value.Accessibility (record { 0 = n })
constant_of_kind constant.Visibility n = value.Visibility (record { 0 = n })
constant_of_kind constant.Virtuality n = value.Virtuality (record { 0 = n })
constant_of_kind constant.IdentifierCase n = value.IdentifierCase (record { 0 = n })
constant_of_kind constant.CallingConvention n = value.CallingConvention (record { 0 = n })
constant_of_kind constant.Inline n = value.Inline (record { 0 = n })
constant_of_kind constant.Ordering n = value.Ordering (record { 0 = n })

-- a value of a kind, and the fields after it
abbrev pub value_of_kind : Kind → Fields → Outcome (Value × Fields)
value_of_kind kind.Address fields = made value.Address (address_field fields)
value_of_kind kind.Block fields = made value.Block (hex_field fields)
value_of_kind kind.Data1 fields = made value.Data1 (number_field (2 ^ 8) fields)
value_of_kind kind.Data2 fields = made value.Data2 (number_field (2 ^ 16) fields)
value_of_kind kind.Data4 fields = made value.Data4 (number_field (2 ^ 32) fields)
value_of_kind kind.Data16 fields = made value.Data16 (number_field (2 ^ 128) fields)
value_of_kind kind.Sdata fields = made value.Sdata (signed_field fields)
value_of_kind kind.ImplicitConst fields = made value.ImplicitConst (signed_field fields)
value_of_kind kind.Exprloc fields = made value.Exprloc (expression_field fields)
value_of_kind kind.Flag fields = made value.Flag (flag_field fields)
value_of_kind kind.FlagPresent fields = Ok (value.FlagPresent, fields)
value_of_kind kind.DebugInfoRef fields = made value.DebugInfoRef (reference_field fields)
value_of_kind kind.String fields = made value.String (hex_field fields)
value_of_kind kind.RangeListsBase fields = Ok (value.RangeListsBase, fields)
value_of_kind kind.LocationListsBase fields = Ok (value.LocationListsBase, fields)
value_of_kind kind.LineProgramRef fields = Ok (value.LineProgramRef, fields)
value_of_kind kind.FileIndex fields = made value.FileIndex (index_or_none_field fields)
value_of_kind kind.Language fields = made (λ n. value.Language (record { 0 = n })) (number_field (2 ^ 16) fields)
value_of_kind (kind.Number kind) fields = made (number_of_kind kind) (number_field (2 ^ 64) fields)
value_of_kind (kind.Place kind) fields = made (place_of_kind kind) (number_field (2 ^ 64) fields)
value_of_kind (kind.Constant kind) fields = made (constant_of_kind kind) (number_field (2 ^ 8) fields)

-- a value, its kind before it, and the fields after it
abbrev pub value_field : Fields → Outcome (Value × Fields)
value_field fields = do
  (kind, fields) ← kind_field fields
  value_of_kind kind fields
