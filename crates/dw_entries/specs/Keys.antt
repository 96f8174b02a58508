-- Keys: a value as six fields, by which values are told apart.
use Rattle.std.specs.Prelude.{◌≡◌, ℕ, zero, suc, ◌==◌, Bool, true, false, ◌&&◌, Option, Some, None, List, [], nat_eq, ℤ, pos, refl, if◌then◌else◌}
use Rattle.std.specs.Ordering.{int_eq}
use Rattle.std.specs.Cmp.Lexicographic.{pointwise}
use Rattle.std.specs.Option.{option_eq, unwrap_or}
use Rattle.dw_base.specs.declared.address.Address.{Address}
use Rattle.dw_base.specs.declared.address.Address.TheVariants as addresses
use Rattle.dw_base.specs.declared.address.DebugInfoRef.{DebugInfoRef as InfoRef}
use Rattle.dw_base.specs.declared.address.DebugInfoRef.TheVariants as refs
use Rattle.dw_base.specs.declared.ids.FileId.{FileId}
use Rattle.dw_expr.specs.Trees.{Node}
use Rattle.dw_expr.specs.Equality.{nodes_eq}
use Rattle.dw_entries.specs.Values.{flag_byte}
use Rattle.dw_entries.specs.declared.value.AttributeValue.{AttributeValue}
use Rattle.dw_entries.specs.declared.value.AttributeValue.TheVariants as values

pub record Key : Type 0 where
  pub kind : ℕ
  pub number : ℕ
  pub unit : ℕ
  pub signed : ℤ
  pub bytes : List ℕ
  pub expression : Option (List Node)

abbrev pub key_by : ℕ → ℕ → ℤ → List ℕ → Key
key_by kind number signed bytes =
    record { kind = kind; number = number; unit = 0; signed = signed; bytes = bytes; expression = None }

abbrev pub address_key : Address → Key
address_key (addresses.Constant n) = key_by 0 n (pos 0) []
address_key (addresses.Symbol s addend) = key_by 1 s addend []

abbrev pub entry_key : InfoRef → Key
entry_key (refs.Symbol s) = key_by 32 s (pos 0) []
entry_key (refs.Entry u i) = record { kind = 33; number = i.0; unit = u.0; signed = pos 0; bytes = []; expression = None }

abbrev pub file_key : Option FileId → Key
file_key None = key_by 37 0 (pos 0) []
file_key (Some file) = key_by 38 file.0 (pos 0) []

abbrev pub expression_key : List Node → Key
expression_key x = record (key_by 39 0 (pos 0) []) { expression = Some x }

abbrev pub value_key : AttributeValue → Key
value_key (values.Address a) = address_key a
value_key (values.Block xs) = key_by 2 0 (pos 0) xs
value_key (values.Data1 n) = key_by 3 n (pos 0) []
value_key (values.Data2 n) = key_by 4 n (pos 0) []
value_key (values.Data4 n) = key_by 5 n (pos 0) []
value_key (values.Data8 n) = key_by 6 n (pos 0) []
value_key (values.Data16 n) = key_by 7 n (pos 0) []
value_key (values.Sdata z) = key_by 8 0 z []
value_key (values.Udata n) = key_by 9 n (pos 0) []
value_key (values.ImplicitConst z) = key_by 10 0 z []
value_key (values.Exprloc x) = expression_key x
value_key (values.Flag b) = key_by 11 (flag_byte b) (pos 0) []
value_key values.FlagPresent = key_by 12 0 (pos 0) []
value_key (values.UnitRef i) = key_by 13 i.0 (pos 0) []
value_key (values.DebugInfoRef r) = entry_key r
value_key (values.DebugInfoRefSup n) = key_by 14 n.0 (pos 0) []
value_key (values.DebugMacinfoRef n) = key_by 15 n.0 (pos 0) []
value_key (values.DebugMacroRef n) = key_by 16 n.0 (pos 0) []
value_key (values.DebugTypesRef n) = key_by 17 n.0 (pos 0) []
value_key (values.DebugStrRefSup n) = key_by 18 n.0 (pos 0) []
value_key (values.String s) = key_by 19 0 (pos 0) s
value_key (values.StringRef i) = key_by 34 i.0 (pos 0) []
value_key (values.LineStringRef i) = key_by 35 i.0 (pos 0) []
value_key values.LineProgramRef = key_by 36 0 (pos 0) []
value_key (values.FileIndex file) = file_key file
value_key (values.RangeListRef i) = key_by 40 i.0 (pos 0) []
value_key values.RangeListsBase = key_by 41 0 (pos 0) []
value_key values.LocationListsBase = key_by 42 0 (pos 0) []
value_key (values.LocationListRef i) = key_by 43 i.0 (pos 0) []
value_key (values.Encoding n) = key_by 20 n.0 (pos 0) []
value_key (values.DecimalSign n) = key_by 21 n.0 (pos 0) []
value_key (values.Endianity n) = key_by 22 n.0 (pos 0) []
value_key (values.Accessibility n) = key_by 23 n.0 (pos 0) []
value_key (values.Visibility n) = key_by 24 n.0 (pos 0) []
value_key (values.Virtuality n) = key_by 25 n.0 (pos 0) []
value_key (values.Language n) = key_by 26 n.0 (pos 0) []
value_key (values.AddressClass n) = key_by 27 n.0 (pos 0) []
value_key (values.IdentifierCase n) = key_by 28 n.0 (pos 0) []
value_key (values.CallingConvention n) = key_by 29 n.0 (pos 0) []
value_key (values.Inline n) = key_by 30 n.0 (pos 0) []
value_key (values.Ordering n) = key_by 31 n.0 (pos 0) []

abbrev pub is_set : ℕ → Bool
is_set zero = false
is_set (suc n) = true

-- a value by its key
abbrev pub value_by : Key → AttributeValue
value_by k =
    if k.kind == 0 then values.Address (addresses.Constant k.number) else
    if k.kind == 1 then values.Address (addresses.Symbol k.number k.signed) else
    if k.kind == 2 then values.Block k.bytes else
    if k.kind == 3 then values.Data1 k.number else
    if k.kind == 4 then values.Data2 k.number else
    if k.kind == 5 then values.Data4 k.number else
    if k.kind == 6 then values.Data8 k.number else
    if k.kind == 7 then values.Data16 k.number else
    if k.kind == 8 then values.Sdata k.signed else
    if k.kind == 9 then values.Udata k.number else
    if k.kind == 10 then values.ImplicitConst k.signed else
    if k.kind == 11 then values.Flag (is_set k.number) else
    if k.kind == 12 then values.FlagPresent else
    if k.kind == 13 then values.UnitRef (record { 0 = k.number }) else
    if k.kind == 14 then values.DebugInfoRefSup (record { 0 = k.number }) else
    if k.kind == 15 then values.DebugMacinfoRef (record { 0 = k.number }) else
    if k.kind == 16 then values.DebugMacroRef (record { 0 = k.number }) else
    if k.kind == 17 then values.DebugTypesRef (record { 0 = k.number }) else
    if k.kind == 18 then values.DebugStrRefSup (record { 0 = k.number }) else
    if k.kind == 19 then values.String k.bytes else
    if k.kind == 20 then values.Encoding (record { 0 = k.number }) else
    if k.kind == 21 then values.DecimalSign (record { 0 = k.number }) else
    if k.kind == 22 then values.Endianity (record { 0 = k.number }) else
    if k.kind == 23 then values.Accessibility (record { 0 = k.number }) else
    if k.kind == 24 then values.Visibility (record { 0 = k.number }) else
    if k.kind == 25 then values.Virtuality (record { 0 = k.number }) else
    if k.kind == 26 then values.Language (record { 0 = k.number }) else
    if k.kind == 27 then values.AddressClass (record { 0 = k.number }) else
    if k.kind == 28 then values.IdentifierCase (record { 0 = k.number }) else
    if k.kind == 29 then values.CallingConvention (record { 0 = k.number }) else
    if k.kind == 30 then values.Inline (record { 0 = k.number }) else
    if k.kind == 31 then values.Ordering (record { 0 = k.number }) else
    if k.kind == 34 then values.StringRef (record { 0 = k.number }) else
    if k.kind == 35 then values.LineStringRef (record { 0 = k.number }) else
    if k.kind == 36 then values.LineProgramRef else
    if k.kind == 37 then values.FileIndex None else
    if k.kind == 38 then values.FileIndex (Some (record { 0 = k.number })) else
    if k.kind == 39 then values.Exprloc (unwrap_or k.expression []) else
    if k.kind == 40 then values.RangeListRef (record { 0 = k.number }) else
    if k.kind == 41 then values.RangeListsBase else
    if k.kind == 42 then values.LocationListsBase else
    if k.kind == 43 then values.LocationListRef (record { 0 = k.number }) else
    if k.kind == 32 then values.DebugInfoRef (refs.Symbol k.number) else
    values.DebugInfoRef (refs.Entry (record { 0 = k.unit }) (record { 0 = k.number }))

pub value_by-key : (v : AttributeValue) → value_by (value_key v) ≡ v
value_by-key (values.Address (addresses.Constant n)) = refl
value_by-key (values.Address (addresses.Symbol s addend)) = refl
value_by-key (values.Block xs) = refl
value_by-key (values.Data1 n) = refl
value_by-key (values.Data2 n) = refl
value_by-key (values.Data4 n) = refl
value_by-key (values.Data8 n) = refl
value_by-key (values.Data16 n) = refl
value_by-key (values.Sdata z) = refl
value_by-key (values.Udata n) = refl
value_by-key (values.ImplicitConst z) = refl
value_by-key (values.Exprloc x) = refl
value_by-key (values.Flag false) = refl
value_by-key (values.Flag true) = refl
value_by-key values.FlagPresent = refl
value_by-key (values.UnitRef i) = refl
value_by-key (values.DebugInfoRef (refs.Symbol s)) = refl
value_by-key (values.DebugInfoRef (refs.Entry u i)) = refl
value_by-key (values.DebugInfoRefSup n) = refl
value_by-key (values.DebugMacinfoRef n) = refl
value_by-key (values.DebugMacroRef n) = refl
value_by-key (values.DebugTypesRef n) = refl
value_by-key (values.DebugStrRefSup n) = refl
value_by-key (values.String s) = refl
value_by-key (values.StringRef i) = refl
value_by-key (values.LineStringRef i) = refl
value_by-key values.LineProgramRef = refl
value_by-key (values.FileIndex None) = refl
value_by-key (values.FileIndex (Some file)) = refl
value_by-key (values.RangeListRef i) = refl
value_by-key values.RangeListsBase = refl
value_by-key values.LocationListsBase = refl
value_by-key (values.LocationListRef i) = refl
value_by-key (values.Encoding n) = refl
value_by-key (values.DecimalSign n) = refl
value_by-key (values.Endianity n) = refl
value_by-key (values.Accessibility n) = refl
value_by-key (values.Visibility n) = refl
value_by-key (values.Virtuality n) = refl
value_by-key (values.Language n) = refl
value_by-key (values.AddressClass n) = refl
value_by-key (values.IdentifierCase n) = refl
value_by-key (values.CallingConvention n) = refl
value_by-key (values.Inline n) = refl
value_by-key (values.Ordering n) = refl

-- whether keys are equal, field by field
abbrev pub key_eq : Key → Key → Bool
key_eq j k =
    (j.kind == k.kind)
    && ((j.number == k.number)
    && ((j.unit == k.unit) && (int_eq j.signed k.signed && (option_eq nodes_eq j.expression k.expression && pointwise nat_eq j.bytes k.bytes))))
