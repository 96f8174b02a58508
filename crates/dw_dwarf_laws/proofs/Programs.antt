-- What a line program becomes is one thing, but for what is left of its last sequence.
use Rattle.std.proofs.Common.{◌≡◌, ◌∙◌, sym, ap, subst, ℕ, List, Bool, true, false, Option, Some, None, Result, Ok}
use Rattle.std.specs.Option.{option_map}
use Rattle.dw_base.specs.declared.address.Address.{Address}
use Rattle.dw_base.specs.declared.common.Encoding.{Encoding}
use Rattle.dw_base.specs.declared.common.LineEncoding.{LineEncoding}
use Rattle.dw_base.specs.declared.ids.FileId.{FileId}
use Rattle.dw_line.specs.LinePrograms.{LineProgramValue, is_in_sequence}
use Rattle.dw_line.specs.LineRows.{first_line_row}
use Rattle.dw_line.specs.ProgramTexts.{ProgramValue}
use Rattle.dw_base.specs.LineMachine.{LineHeader}
use Rattle.dw_read.specs.Reading.{Reading, left}
use Rattle.dw_read_lines.specs.LineHeaders.{ReadLines}
use Rattle.dw_read_lines.specs.LineHeaderViews.{lines_of}
use Rattle.dw_read_lines.specs.declared.program.IncompleteLineProgram.{IncompleteLineProgram}
use Rattle.dw_sources.specs.declared.convert_error.ConvertError.{ConvertError}
use Rattle.dw_convert_lines.specs.EntryImages.{Converting}
use Rattle.dw_convert_lines.specs.EntryNames.{Texts, Tables}
use Rattle.dw_convert_lines.specs.HeaderImages.{EncodingOutcome, HeaderOutcome}
use Rattle.dw_convert_lines.specs.ReadPrograms.{ProgramOutcome, FinishOutcome, LinesOutcome}
use Rattle.dw_convert_lines.specs.Results.{Then}
use Rattle.dw_convert_lines.specs.RowOutcomes.{AddsSequences, Changes}
use Rattle.dw_dwarf_laws.proofs.ConvertedExpressions.{AnswersOnce}
use Rattle.dw_dwarf_laws.proofs.Headers.{IsClosed, header_once, header_closed}
use Rattle.dw_dwarf_laws.proofs.Results.{same_some, then_once, then_alike, then_holds}
use Rattle.dw_dwarf_laws.proofs.Sequences.{added_once}

-- A line program without what no writer looks at where no sequence is open: the address of that sequence, and the next row.
abbrev pub settled_program : ProgramValue → ProgramValue
settled_program p = record p { in_sequence = false; address = None }

abbrev pub settled_lines : LineProgramValue → LineProgramValue
settled_lines v = record { program = option_map settled_program v.program; row = first_line_row true }

-- Two programs with no open sequence that are the same else, with the same files and tables
pub record AreAlikeLines (x y : Converting FileId) : Type 0 where
  pub closed : IsClosed x.program
  pub closed_too : IsClosed y.program
  pub program : settled_lines x.program ≡ settled_lines y.program
  pub ids : x.ids ≡ y.ids
  pub tables : x.tables ≡ y.tables

module _ (texts : Texts) where
  -- a header, by what is looked at when it is converted
  abbrev HeaderFrom : LineEncoding → ℕ → Encoding → Bool → Bool → List ℕ → Tables → Result (Converting FileId) ConvertError → Type 0
  HeaderFrom parameters opcode_base encoding big order bytes t =
      Then (EncodingOutcome parameters opcode_base None) (λ (e : LineEncoding). HeaderOutcome texts encoding big order bytes encoding e t)

  header_from_once : (parameters : LineEncoding) (opcode_base : ℕ) (encoding : Encoding) (big order : Bool) (bytes : List ℕ) (t : Tables) (x y : Converting FileId) → HeaderFrom parameters opcode_base encoding big order bytes t (Ok x) → HeaderFrom parameters opcode_base encoding big order bytes t (Ok y) → x ≡ y
  header_from_once parameters opcode_base encoding big order bytes t x y h k =
      then_once (λ (e : LineEncoding). HeaderOutcome texts encoding big order bytes encoding e t) (λ (e : LineEncoding). HeaderOutcome texts encoding big order bytes encoding e t) (λ e. header_once texts encoding big order bytes encoding e t)
      (EncodingOutcome parameters opcode_base None) (EncodingOutcome parameters opcode_base None) (λ a b f g. f.2 ∙ sym g.2) x y h k

  header_from_closed : (parameters : LineEncoding) (opcode_base : ℕ) (encoding : Encoding) (big order : Bool) (bytes : List ℕ) (t : Tables) (x : Converting FileId) → HeaderFrom parameters opcode_base encoding big order bytes t (Ok x) → IsClosed x.program
  header_from_closed parameters opcode_base encoding big order bytes t x h =
      then_holds (λ (z : Converting FileId). IsClosed z.program) (λ (e : LineEncoding). HeaderOutcome texts encoding big order bytes encoding e t) (EncodingOutcome parameters opcode_base None) (λ e x f g. header_closed texts encoding big order bytes encoding e t x g) x h

-- the sequences behind it
abbrev FinishFrom : (ℕ → Option Address → Type 0) → LineHeader → ℕ → List ℕ → Converting FileId → Converting FileId → Type 0
FinishFrom answers machine version bytes c x = Changes (AddsSequences machine version c.ids answers bytes) c.program x.program × (x.ids ≡ c.ids) × (x.tables ≡ c.tables)

was_closed : (o : Option ProgramValue) (p : ProgramValue) → is_in_sequence o ≡ false → o ≡ Some p → p.in_sequence ≡ false
was_closed o p h e = ap is_in_sequence (sym e) ∙ h

module _ (answers : ℕ → Option Address → Type 0) (functional : AnswersOnce answers) (machine : LineHeader) (version : ℕ) (bytes : List ℕ) (c : Converting FileId) (closed : IsClosed c.program) where
  changed_closed : (new : LineProgramValue) → Changes (AddsSequences machine version c.ids answers bytes) c.program new → IsClosed new
  changed_closed new h = ap is_in_sequence h.is ∙ ap (λ (p : ProgramValue). p.in_sequence) h.does.is ∙ was_closed c.program.program h.before closed h.was

  changed_once : (x y : LineProgramValue) → Changes (AddsSequences machine version c.ids answers bytes) c.program x → Changes (AddsSequences machine version c.ids answers bytes) c.program y → settled_lines x ≡ settled_lines y
  changed_once x y h k =
      let before : k.before ≡ h.before = same_some c.program.program k.before h.before k.was h.was in
      let s = added_once machine version c.ids answers functional bytes h.before h.after k.after h.does (subst (λ b. AddsSequences machine version c.ids answers bytes b k.after) before k.does) in
      let p : option_map settled_program x.program ≡ option_map settled_program y.program = ap (option_map settled_program) h.is ∙ ap (λ (z : ProgramValue). Some (settled_program z)) s ∙ sym (ap (option_map settled_program) k.is) in
      λ i. record { program = p i; row = first_line_row true }

  finish_once : (x y : Converting FileId) → FinishFrom answers machine version bytes c x → FinishFrom answers machine version bytes c y → AreAlikeLines x y
  finish_once x y h k = record {
    closed = changed_closed x.program h.0;
    closed_too = changed_closed y.program k.0;
    program = changed_once x.program y.program h.0 k.0;
    ids = h.1 ∙ sym k.1;
    tables = h.2 ∙ sym k.2;
  }

-- two programs that were read, which stand for the same bytes
pub record StandAlike {R E : Type 0} (reading : R → Reading) (p q : IncompleteLineProgram R E) : Type 0 where
  pub lines : lines_of reading p.header ≡ lines_of reading q.header
  pub tables : (reading p.header.tables).is_big ≡ (reading q.header.tables).is_big
  pub counts : (reading p.header.parameters.operand_counts).is_big ≡ (reading q.header.parameters.operand_counts).is_big

-- the parameters in a program's parts
abbrev parameters_in : ReadLines → LineEncoding
parameters_in l = record {
  minimum_instruction_length = l.machine.minimum_length;
  maximum_operations_per_instruction = l.operations;
  default_is_stmt = l.machine.default_statement;
  line_base = l.machine.line_base;
  line_range = l.machine.line_range;
}

abbrev LinesFrom : Texts → Tables → ReadLines → Bool → Bool → Result (Converting FileId) ConvertError → Type 0
LinesFrom texts t l big order = HeaderFrom texts (parameters_in l) l.machine.opcode_base l.encoding big order l.tables t

module _ {R E : Type 0} (reading : R → Reading) (answers : ℕ → Option Address → Type 0) (functional : AnswersOnce answers) (texts : Texts) (t : Tables) where
  pub lines_once : (p q : IncompleteLineProgram R E) → StandAlike reading p q → (x y : Converting FileId) → LinesOutcome reading answers p texts None None t (Ok x) → LinesOutcome reading answers q texts None None t (Ok y) → AreAlikeLines x y
  lines_once p q alike x y h k =
      then_alike (λ a b. (a ≡ b) × IsClosed a.program) (FinishOutcome reading answers p.header) (FinishOutcome reading answers q.header) AreAlikeLines
      (λ c d s x y f g. finish_once answers functional (lines_of reading p.header).machine p.header.encoding.encoding.version (left (reading p.header.program)) c s.1 x y f
      (subst (λ (l : ReadLines). FinishFrom answers l.machine l.encoding.version l.instructions c y) (sym alike.lines) (subst (λ d. FinishFrom answers (lines_of reading q.header).machine q.header.encoding.encoding.version (left (reading q.header.program)) d y) (sym s.0) g)))
      (ProgramOutcome reading texts p None None t) (ProgramOutcome reading texts q None None t) first x y h k
    where
      first : (a b : Converting FileId) → ProgramOutcome reading texts p None None t (Ok a) → ProgramOutcome reading texts q None None t (Ok b) → (a ≡ b) × IsClosed a.program
      first a b f g =
          let l = lines_of reading p.header in
          let big = (reading p.header.tables).is_big in
          let order = (reading p.header.parameters.operand_counts).is_big in
          let moved : LinesFrom texts t l big order (Ok b) =
          subst (λ o. LinesFrom texts t l big o (Ok b)) (sym alike.counts)
          (subst (λ o. LinesFrom texts t l o (reading q.header.parameters.operand_counts).is_big (Ok b)) (sym alike.tables)
          (subst (λ m. LinesFrom texts t m (reading q.header.tables).is_big (reading q.header.parameters.operand_counts).is_big (Ok b)) (sym alike.lines) g)) in
          (header_from_once texts (parameters_in l) l.machine.opcode_base l.encoding big order l.tables t a b f moved, header_from_closed texts (parameters_in l) l.machine.opcode_base l.encoding big order l.tables t a f)
