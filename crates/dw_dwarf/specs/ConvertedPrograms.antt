-- What the line program of a unit becomes.
use Rattle.std.specs.Prelude.{◌≡◌, ◌⊎◌, ℕ, List, [], Option, Some, None, Result, Ok, Err}
use Rattle.dw_base.specs.declared.address.Address.{Address}
use Rattle.dw_base.specs.declared.ids.FileId.{FileId}
use Rattle.dw_base.specs.declared.offsets.DebugLineOffset.{DebugLineOffset}
use Rattle.dw_line.specs.LinePrograms.{LineProgramValue, no_line_program}
use Rattle.dw_read.specs.Reading.{Reading, left}
use Rattle.dw_read.specs.declared.error.ReadError.{ReadError}
use Rattle.dw_read_lines.specs.LineHeaders.{ReadLines, lines_at_place}
use Rattle.dw_read_lines.specs.LineHeaderViews.{lines_of, IsInOrder}
use Rattle.dw_read_lines.specs.declared.program.IncompleteLineProgram.{IncompleteLineProgram}
use Rattle.dw_read_units.specs.declared.unit_ref.UnitRef.{UnitRef}
use Rattle.dw_sources.specs.ConvertErrors.{from_read}
use Rattle.dw_sources.specs.declared.convert_error.ConvertError.{ConvertError}
use Rattle.dw_convert_lines.specs.EntryImages.{Converting}
use Rattle.dw_convert_lines.specs.EntryNames.{Tables}
use Rattle.dw_convert_lines.specs.ReadPrograms.{LinesOutcome}
use Rattle.dw_convert_lines.specs.Views.{texts_of}

-- the header that stands at a place, or the reason why none does
abbrev pub header_at : {R E : Type 0} → (R → Reading) → UnitRef R E → DebugLineOffset → Result ReadLines ReadError
header_at reading u offset = lines_at_place (reading u.dwarf.now.debug_line).is_big u.unit.now.header.fields.encoding.address_size offset.0 (left (reading u.dwarf.now.debug_line))

module _ {R E : Type 0} (reading : R → Reading) (answers : ℕ → Option Address → Type 0) (u : UnitRef R E) where
  -- the program at a place, as it is converted in its own encoding and with its own parameters
  pub record ProgramBecomes (offset : DebugLineOffset) (old : Tables) (r : Result (Converting FileId) ConvertError) : Type 0 where
    pub program : IncompleteLineProgram R E
    pub stands : header_at reading u offset ≡ Ok (lines_of reading program.header)
    pub order : IsInOrder reading (reading u.dwarf.now.debug_line).is_big program.header
    pub becomes : LinesOutcome reading answers program (texts_of reading u.dwarf.now) None None old r

  -- a unit without a line program has none, and no files
  abbrev pub ProgramConverts : Option DebugLineOffset → Tables → Converting FileId → Type 0
  ProgramConverts None old x = x ≡ record { program = no_line_program; ids = []; tables = old }
  ProgramConverts (Some offset) old x = ProgramBecomes offset old (Ok x)

  abbrev pub ConvertsProgram : Tables → LineProgramValue → List FileId → Tables → Type 0
  ConvertsProgram old program files new = ProgramConverts u.unit.now.line_program old (record { program = program; ids = files; tables = new })

  -- no header can be read at the program's place, or the program becomes nothing
  abbrev pub ProgramRefuses : Option DebugLineOffset → Tables → ConvertError → Type 0
  ProgramRefuses None old e = ⊥
  ProgramRefuses (Some offset) old e = ((y : ReadError) × (header_at reading u offset ≡ Err y) × (e ≡ from_read y)) ⊎ ProgramBecomes offset old (Err e)

  abbrev pub RefusesProgram : Tables → ConvertError → Type 0
  RefusesProgram old e = ProgramRefuses u.unit.now.line_program old e
