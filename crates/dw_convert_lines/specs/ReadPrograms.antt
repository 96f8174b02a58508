-- What a line program that was read becomes.
use Rattle.std.specs.Prelude.{◌≡◌, ℕ, List, Option, unwrap_or, Result, Ok, Err}
use Rattle.dw_base.specs.declared.address.Address.{Address}
use Rattle.dw_base.specs.declared.common.Encoding.{Encoding}
use Rattle.dw_base.specs.declared.common.LineEncoding.{LineEncoding}
use Rattle.dw_base.specs.declared.ids.FileId.{FileId}
use Rattle.dw_base.specs.LineMachine.{LineHeader}
use Rattle.dw_line.specs.LinePrograms.{LineProgramValue}
use Rattle.dw_read.specs.Reading.{Reading, left}
use Rattle.dw_read_lines.specs.LineHeaderViews.{machine_of}
use Rattle.dw_read_lines.specs.declared.header.LineProgramHeader.{LineProgramHeader}
use Rattle.dw_read_lines.specs.declared.program.IncompleteLineProgram.{IncompleteLineProgram}
use Rattle.dw_sources.specs.declared.convert_error.ConvertError.{ConvertError}
use Rattle.dw_convert_lines.specs.EntryImages.{Converting}
use Rattle.dw_convert_lines.specs.EntryNames.{Texts, Tables}
use Rattle.dw_convert_lines.specs.HeaderImages.{EncodingOutcome, HeaderOutcome}
use Rattle.dw_convert_lines.specs.Results.{Then}
use Rattle.dw_convert_lines.specs.RowOutcomes.{AddsSequences, RefusesSequences, Changes, Refuses}

module _ {R E : Type 0} (reading : R → Reading) (texts : Texts) (p : IncompleteLineProgram R E) (encoding : Option Encoding) (parameters : Option LineEncoding) where
  -- the program that it is before its sequences; what isn't given is what was read
  abbrev pub ProgramOutcome : Tables → Result (Converting FileId) ConvertError → Type 0
  ProgramOutcome t =
      Then (EncodingOutcome p.header.parameters.line_encoding p.header.parameters.opcode_base parameters) (λ (e : LineEncoding).
      HeaderOutcome texts p.header.encoding.encoding (reading p.header.tables).is_big (reading p.header.parameters.operand_counts).is_big (left (reading p.header.tables)) (unwrap_or encoding p.header.encoding.encoding) e t)

-- The caller is known by its answers for addresses.
module _ {R E : Type 0} (reading : R → Reading) (answers : ℕ → Option Address → Type 0) (h : LineProgramHeader R E) where
  -- what the machine is told
  abbrev pub machine : LineHeader
  machine = machine_of reading (reading h.program).is_big h.parameters

  -- the program with the sequences that the machine shows for the instructions, where files have these ids
  abbrev pub RowsOutcome : List FileId → LineProgramValue → Result LineProgramValue ConvertError → Type 0
  RowsOutcome ids old (Ok new) = Changes (AddsSequences machine h.encoding.encoding.version ids answers (left (reading h.program))) old new
  RowsOutcome ids old (Err e) = Refuses (λ q. RefusesSequences machine h.encoding.encoding.version ids answers (left (reading h.program)) q e) old

  -- the same, with its ids and its tables as they were
  abbrev pub FinishOutcome : Converting FileId → Result (Converting FileId) ConvertError → Type 0
  FinishOutcome c (Ok x) = RowsOutcome c.ids c.program (Ok x.program) × (x.ids ≡ c.ids) × (x.tables ≡ c.tables)
  FinishOutcome c (Err e) = RowsOutcome c.ids c.program (Err e)

module _ {R E : Type 0} (reading : R → Reading) (answers : ℕ → Option Address → Type 0) (p : IncompleteLineProgram R E) where
  -- the whole program: its header, and then its sequences
  abbrev pub LinesOutcome : Texts → Option Encoding → Option LineEncoding → Tables → Result (Converting FileId) ConvertError → Type 0
  LinesOutcome texts encoding parameters t = Then (ProgramOutcome reading texts p encoding parameters t) (FinishOutcome reading answers p.header)
