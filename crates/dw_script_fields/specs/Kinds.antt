-- The kinds of an attribute's value.
use Rattle.std.specs.Prelude.{ℕ, List, [], ◌∷◌, Option, bytes_eq, codes}
use Rattle.std.specs.Map.{lookup}
use Rattle.dw_script_fields.specs.declared.kind.ConstantKind.TheVariants as constant
use Rattle.dw_script_fields.specs.declared.kind.Kind.{Kind}
use Rattle.dw_script_fields.specs.declared.kind.Kind.TheVariants as kind
use Rattle.dw_script_fields.specs.declared.kind.NumberKind.TheVariants as number
use Rattle.dw_script_fields.specs.declared.kind.PlaceKind.TheVariants as place

-- each kind with its spelling
abbrev pub kinds : List (List ℕ × Kind)
kinds =
    (codes "string", kind.String)
    ∷ (codes "unit_ref", kind.Number number.UnitRef)
    ∷ (codes "str_ref", kind.Number number.StringRef)
    ∷ (codes "data1", kind.Data1)
    ∷ (codes "udata", kind.Number number.Udata)
    ∷ (codes "data2", kind.Data2)
    ∷ (codes "file_index", kind.FileIndex)
    ∷ (codes "exprloc", kind.Exprloc)
    ∷ (codes "data8", kind.Number number.Data8)
    ∷ (codes "address", kind.Address)
    ∷ (codes "flag_present", kind.FlagPresent)
    ∷ (codes "flag", kind.Flag)
    ∷ (codes "loc_ref", kind.Number number.LocationListRef)
    ∷ (codes "info_ref", kind.DebugInfoRef)
    ∷ (codes "data4", kind.Data4)
    ∷ (codes "encoding", kind.Constant constant.Encoding)
    ∷ (codes "block", kind.Block)
    ∷ (codes "data16", kind.Data16)
    ∷ (codes "sdata", kind.Sdata)
    ∷ (codes "implicit_const", kind.ImplicitConst)
    ∷ (codes "info_ref_sup", kind.Place place.DebugInfoRefSup)
    ∷ (codes "macinfo_ref", kind.Place place.DebugMacinfoRef)
    ∷ (codes "macro_ref", kind.Place place.DebugMacroRef)
    ∷ (codes "types_ref", kind.Number number.DebugTypesRef)
    ∷ (codes "str_ref_sup", kind.Place place.DebugStrRefSup)
    ∷ (codes "line_program_ref", kind.LineProgramRef)
    ∷ (codes "loc_base", kind.LocationListsBase)
    ∷ (codes "range_ref", kind.Number number.RangeListRef)
    ∷ (codes "range_base", kind.RangeListsBase)
    ∷ (codes "line_str_ref", kind.Number number.LineStringRef)
    ∷ (codes "decimal_sign", kind.Constant constant.DecimalSign)
    ∷ (codes "endianity", kind.Constant constant.Endianity)
    ∷ (codes "accessibility", kind.Constant constant.Accessibility)
    ∷ (codes "visibility", kind.Constant constant.Visibility)
    ∷ (codes "virtuality", kind.Constant constant.Virtuality)
    ∷ (codes "language", kind.Language)
    ∷ (codes "address_class", kind.Number number.AddressClass)
    ∷ (codes "identifier_case", kind.Constant constant.IdentifierCase)
    ∷ (codes "calling_convention", kind.Constant constant.CallingConvention)
    ∷ (codes "inline", kind.Constant constant.Inline)
    ∷ (codes "ordering", kind.Constant constant.Ordering)
    ∷ []

-- the kind that a field spells
unfoldable pub kind_of : List ℕ → Option Kind
kind_of field = lookup (bytes_eq field) kinds
