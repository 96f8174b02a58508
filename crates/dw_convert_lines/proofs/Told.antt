-- What a program becomes, by the parts of it that a conversion looks at.
use Rattle.std.proofs.Common.{◌≡◌, subst, ℕ, Option, Result}
use Rattle.std.specs.Prelude.{unwrap_or}
use Rattle.dw_base.specs.declared.common.Encoding.{Encoding}
use Rattle.dw_base.specs.declared.common.LineEncoding.{LineEncoding}
use Rattle.dw_base.specs.declared.ids.FileId.{FileId}
use Rattle.dw_read.specs.Reading.{Reading, left}
use Rattle.dw_read_lines.specs.declared.header.LineProgramHeader.{LineProgramHeader}
use Rattle.dw_read_lines.specs.declared.program.IncompleteLineProgram.{IncompleteLineProgram}
use Rattle.dw_sources.specs.declared.convert_error.ConvertError.{ConvertError}
use Rattle.dw_convert_lines.specs.EntryImages.{Converting}
use Rattle.dw_convert_lines.specs.EntryNames.{Texts, Tables}
use Rattle.dw_convert_lines.specs.HeaderImages.{EncodingOutcome, HeaderOutcome}
use Rattle.dw_convert_lines.specs.ReadPrograms.{ProgramOutcome}
use Rattle.dw_convert_lines.specs.Results.{Then}

module _ (R E : Type 0) (reading : R → Reading) (texts : Texts) (encoding : Option Encoding) (given : Option LineEncoding) (t : Tables) (r : Result (Converting FileId) ConvertError) where
  abbrev pub Outcome : LineProgramHeader R E → LineEncoding → ℕ → Encoding → Type 0
  Outcome h read opcodes target =
      Then (EncodingOutcome read opcodes given) (λ (e : LineEncoding). HeaderOutcome texts h.encoding.encoding (reading h.tables).is_big (reading h.parameters.operand_counts).is_big (left (reading h.tables)) target e t) r

  pub told : (p : IncompleteLineProgram R E) (h : LineProgramHeader R E) (read : LineEncoding) (opcodes : ℕ) (target : Encoding)
      → h ≡ p.header → read ≡ h.parameters.line_encoding → opcodes ≡ h.parameters.opcode_base → target ≡ unwrap_or encoding h.encoding.encoding → Outcome h read opcodes target
      → ProgramOutcome reading texts p encoding given t r
  told p h read opcodes target a b c d o =
      let x : Outcome h h.parameters.line_encoding opcodes target = subst (λ (y : LineEncoding). Outcome h y opcodes target) b o in
      let z : Outcome h h.parameters.line_encoding h.parameters.opcode_base target = subst (λ (n : ℕ). Outcome h h.parameters.line_encoding n target) c x in
      let w : Outcome h h.parameters.line_encoding h.parameters.opcode_base (unwrap_or encoding h.encoding.encoding) = subst (λ (y : Encoding). Outcome h h.parameters.line_encoding h.parameters.opcode_base y) d z in
      subst (λ (k : LineProgramHeader R E). Outcome k k.parameters.line_encoding k.parameters.opcode_base (unwrap_or encoding k.encoding.encoding)) a w
