-- The line program of a unit, as its conversion begins.
use Rattle.std.specs.Prelude.{◌≡◌, ◌⊎◌, Option, Some, None, Result, Ok, Err}
use Rattle.std.specs.Option.{unwrap_or}
use Rattle.dw_base.specs.declared.common.Encoding.{Encoding}
use Rattle.dw_base.specs.declared.common.LineEncoding.{LineEncoding}
use Rattle.dw_base.specs.declared.ids.FileId.{FileId}
use Rattle.dw_base.specs.declared.offsets.DebugLineOffset.{DebugLineOffset}
use Rattle.dw_read.specs.Reading.{Reading}
use Rattle.dw_read.specs.declared.error.ReadError.{ReadError}
use Rattle.dw_read_lines.specs.LineHeaderViews.{lines_of, IsInOrder}
use Rattle.dw_read_lines.specs.declared.program.IncompleteLineProgram.{IncompleteLineProgram}
use Rattle.dw_read_units.specs.declared.unit_ref.UnitRef.{UnitRef}
use Rattle.dw_sources.specs.ConvertErrors.{from_read}
use Rattle.dw_sources.specs.declared.convert_error.ConvertError.{ConvertError}
use Rattle.dw_convert_lines.specs.EntryImages.{Converting}
use Rattle.dw_convert_lines.specs.EntryNames.{Tables}
use Rattle.dw_convert_lines.specs.ReadPrograms.{ProgramOutcome}
use Rattle.dw_convert_lines.specs.Views.{texts_of}
use Rattle.dw_dwarf.specs.ConvertedPrograms.{header_at}

-- the unit that has the line program: that of the skeleton, where there is one
abbrev pub unit_of_lines : {R E : Type 0} → Option (UnitRef R E) → UnitRef R E → UnitRef R E
unit_of_lines skeleton u = unwrap_or skeleton u

-- a unit has no line program, and no string is added
abbrev pub HasNoLines : {R E : Type 0} → UnitRef R E → Tables → Tables → Type 0
HasNoLines u old new = (u.unit.now.line_program ≡ None) × (new ≡ old)

module _ {R E : Type 0} (reading : R → Reading) (u : UnitRef R E) (encoding : Option Encoding) (line_encoding : Option LineEncoding) where
  -- a program is the one at a place, and its header becomes this in an encoding and with parameters
  pub record ProgramBegins (program : IncompleteLineProgram R E) (offset : DebugLineOffset) (old : Tables) (r : Result (Converting FileId) ConvertError) : Type 0 where
    pub stands : header_at reading u offset ≡ Ok (lines_of reading program.header)
    pub order : IsInOrder reading (reading u.dwarf.now.debug_line).is_big program.header
    pub becomes : ProgramOutcome reading (texts_of reading u.dwarf.now) program encoding line_encoding old r

  -- its unit has one, which is this, and it begins so
  pub record BeginsLines (program : IncompleteLineProgram R E) (old : Tables) (x : Converting FileId) : Type 0 where
    pub offset : DebugLineOffset
    pub has : u.unit.now.line_program ≡ Some offset
    pub begins : ProgramBegins program offset old (Ok x)

  -- its unit has one, whose header can't be read or becomes nothing
  pub record RefusesLines (old : Tables) (e : ConvertError) : Type 0 where
    pub offset : DebugLineOffset
    pub has : u.unit.now.line_program ≡ Some offset
    pub why : ((y : ReadError) × (header_at reading u offset ≡ Err y) × (e ≡ from_read y)) ⊎ ((p : IncompleteLineProgram R E) × ProgramBegins p offset old (Err e))
