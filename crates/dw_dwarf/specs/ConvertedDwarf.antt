-- What a file that was read becomes.
use Rattle.std.specs.Prelude.{◌≡◌, ℕ, [], Option}
use Rattle.dw_base.specs.declared.address.Address.{Address}
use Rattle.dw_read.specs.Reading.{Reading}
use Rattle.dw_read_units.specs.declared.dwarf.Dwarf.{Dwarf}
use Rattle.dw_sources.specs.declared.convert_error.ConvertError.{ConvertError}
use Rattle.dw_convert_lines.specs.EntryNames.{Tables}
use Rattle.dw_convert_lines.specs.Views.{tables}
use Rattle.dw_dwarf.specs.ConvertedUnits.{ConvertsUnits, RefusesUnits}
use Rattle.dw_dwarf.specs.DwarfValue.{DwarfValue}

abbrev pub no_strings : Tables
no_strings = tables [] []

module _ {R E : Type 0} (reading : R → Reading) (answers : ℕ → Option Address → Type 0) (d : Dwarf R E) where
  -- It becomes its units in order, and the strings that these name, and no line program of no unit.
  pub record IsConverted (built : DwarfValue) : Type 0 where
    pub units : ConvertsUnits reading answers d [] no_strings built.units (tables built.strings built.line_strings)
    pub programs : built.line_programs ≡ []

  -- it becomes nothing, for this reason
  abbrev pub CannotConvert : ConvertError → Type 0
  CannotConvert e = RefusesUnits reading answers d [] no_strings e
