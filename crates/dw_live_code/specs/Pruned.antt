-- What is left of a file where only what has a live address is wanted (DWARF 5, 2.17).
use Rattle.std.specs.Prelude.{◌≡◌, ◌⊎◌, ℕ, List, [], map, Option, Some, Ok}
use Rattle.std.specs.List.{Contains}
use Rattle.std.specs.List.Sorted.{IsStrictlyIncreasing}
use Rattle.dw_base.specs.declared.address.Address.{Address}
use Rattle.dw_base.specs.declared.address.Address.TheVariants.{Constant}
use Rattle.dw_base.specs.declared.offsets.UnitSectionOffset.{UnitSectionOffset}
use Rattle.dw_read.specs.Reading.{Reading}
use Rattle.dw_read.specs.declared.error.ReadError.{ReadError}
use Rattle.dw_read_units.specs.Passes.{units_reading}
use Rattle.dw_read_units.specs.declared.dwarf.Dwarf.{Dwarf}
use Rattle.dw_read_units.specs.declared.dwarf.Unit.{Unit as UnitFields}
use Rattle.dw_entry_ids.specs.KeptRows.{keep_of}
use Rattle.dw_sources.specs.ConvertErrors.{from_read}
use Rattle.dw_sources.specs.declared.convert_error.ConvertError.{ConvertError}
use Rattle.dw_entry_ranges.specs.Required.{FindsRequired, MissesEntry}
use Rattle.dw_entry_ranges.specs.declared.live.LiveRange.{LiveRange}
use Rattle.dw_filter.specs.FileGraph.{MissesPlaces, MissesRows}
use Rattle.dw_filter.specs.Kept.{IsLeastClosed}
use Rattle.dw_convert_lines.specs.Views.{tables}
use Rattle.dw_dwarf.specs.ConvertedDwarf.{no_strings}
use Rattle.dw_dwarf.specs.ConvertedUnits.{CannotRead, ConvertsKept, RefusesKept}
use Rattle.dw_dwarf.specs.DwarfValue.{DwarfValue}
use Rattle.dw_live_code.specs.Entries.{HasEntry, LeadsTo}
use Rattle.dw_live_code.specs.FileUnits.{AreAllUnits, CountAll, MissesUnitOf}

-- each address stays what it is
abbrev pub constant_answers : ℕ → Option Address → Type 0
constant_answers n answer = answer ≡ Some (Constant n)

module _ {R E : Type 0} (reading : R → Reading) (d : Dwarf R E) where
  -- Of the entries of these units the least set with those that have a live address which has, with an entry, all to which it leads.
  -- They rise.
  pub record AreLive (live : List LiveRange) (units : List (UnitFields R E)) (kept : List UnitSectionOffset) : Type 0 where
    pub required : List UnitSectionOffset
    pub have : FindsRequired reading d live required
    pub least : IsLeastClosed (HasEntry reading units) (LeadsTo reading units d) (Contains required) (Contains kept)
    pub ascend : IsStrictlyIncreasing (map (λ p. p.0) kept)

  -- All units of .debug_info, read to its end, become one each, in order: with its root and exactly the entries that are live, each
  -- under the image of its own parent, and with the strings that these name. Addresses stay what they are, what an entry names is a
  -- root or one of these, and there is no line program of no unit.
  pub record IsPruned (ranges : List LiveRange) (built : DwarfValue) : Type 0 where
    pub units : List (UnitFields R E)
    pub kept : List UnitSectionOffset
    pub live : AreLive ranges units kept
    pub become : ConvertsKept (keep_of (Some kept)) reading constant_answers d units [] no_strings built.units (tables built.strings built.line_strings)
    pub whole : units_reading reading d ≡ Ok become.read.units
    pub programs : built.line_programs ≡ []

  -- an entry behind a root has ranges that can't be told, for this reason
  pub record MissesRanges (e : ConvertError) : Type 0 where
    pub reason : ReadError
    pub misses : MissesEntry reading d reason
    pub is : e ≡ from_read reason

  -- a row of its units can't be read, or the location list of one of their entries, for this reason
  pub record MissesPlacesOf (e : ConvertError) : Type 0 where
    pub units : List (UnitFields R E)
    pub are : AreAllUnits reading d units
    pub counts : List ℕ
    pub all : CountAll units counts
    pub why : MissesRows reading units e ⊎ MissesPlaces reading d units counts e

  -- what is live becomes nothing, for this reason
  pub record RefusesLive (ranges : List LiveRange) (e : ConvertError) : Type 0 where
    pub units : List (UnitFields R E)
    pub are : AreAllUnits reading d units
    pub kept : List UnitSectionOffset
    pub live : AreLive ranges units kept
    pub refuses : RefusesKept (keep_of (Some kept)) reading constant_answers d units [] no_strings e

  -- units and rows can't be read, or the ranges of an entry, or a location list of one; or what is live becomes nothing
  abbrev pub CannotPrune : List LiveRange → ConvertError → Type 0
  CannotPrune live e = CannotRead reading d e ⊎ (MissesRanges e ⊎ (MissesUnitOf reading d e ⊎ (MissesPlacesOf e ⊎ RefusesLive live e)))
