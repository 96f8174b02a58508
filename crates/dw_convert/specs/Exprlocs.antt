-- Expressions that are values (DWARF 5, 7.5.5).
use Rattle.std.specs.Prelude.{◌≡◌, ℕ, ◌==◌, Bool, true, false, ◌&&◌, List, [], ◌∷◌, Option, Result, Ok}
use Rattle.dw_base.specs.declared.address.Address.{Address}
use Rattle.dw_base.specs.declared.address.DebugInfoRef.{DebugInfoRef}
use Rattle.dw_base.specs.declared.constants.TheConstants.{DW_AT_vtable_elem_location, DW_OP_constu}
use Rattle.dw_base.specs.declared.ids.UnitEntryId.{UnitEntryId}
use Rattle.dw_expr.specs.Trees.{Node, plain, Raw}
use Rattle.dw_read.specs.Reading.{Reading}
use Rattle.dw_read_units.specs.declared.unit_ref.UnitRef.{UnitRef}
use Rattle.dw_sources.specs.RawListIters.{encoding_in}
use Rattle.dw_sources.specs.declared.convert_error.ConvertError.{ConvertError}
use Rattle.dw_convert.specs.Expressions.{ExpressionOutcome}
use Rattle.dw_convert.specs.Lookups.{address_of}

abbrev pub begins_with_constu : List ℕ → Bool
begins_with_constu [] = false
begins_with_constu (b ∷ bs) = b == DW_OP_constu.0

-- the index of a virtual function in a table of them, as compilers write it: a constant, and no location
abbrev pub is_index : ℕ → List ℕ → Bool
is_index name bytes = name == DW_AT_vtable_elem_location.0 && begins_with_constu bytes

module _ {R E : Type 0} (reading : R → Reading) (answers : ℕ → Option Address → Type 0) (entries : ℕ → Option UnitEntryId) (infos : ℕ → Option DebugInfoRef) (u : UnitRef R E) (big : Bool) where
  abbrev pub SpelledOr : Bool → List ℕ → Result (List Node) ConvertError → Type 0
  SpelledOr true bytes r = r ≡ Ok (plain (Raw bytes) ∷ [])
  SpelledOr false bytes r = ExpressionOutcome answers (address_of reading u) entries infos big (encoding_in u) bytes r

  -- such an index stays as it is spelled, and another expression becomes one of its operations
  abbrev pub ExprlocOutcome : ℕ → List ℕ → Result (List Node) ConvertError → Type 0
  ExprlocOutcome name bytes r = SpelledOr (is_index name bytes) bytes r
