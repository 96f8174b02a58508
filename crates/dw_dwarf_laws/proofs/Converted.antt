-- What a unit becomes is one thing, but for what is left of its line program's last sequence.
use Rattle.std.proofs.Common.{◌≡◌, ◌∙◌, sym, ap, subst, ℕ, List, [], ◌∷◌, map, Bool, Option, Some, None, Ok}
use Rattle.dw_base.specs.Entries.{Row}
use Rattle.dw_base.specs.declared.address.Address.{Address}
use Rattle.dw_base.specs.declared.address.DebugInfoRef.{DebugInfoRef}
use Rattle.dw_base.specs.declared.common.Encoding.{Encoding}
use Rattle.dw_base.specs.declared.ids.FileId.{FileId}
use Rattle.dw_base.specs.declared.ids.UnitEntryId.{UnitEntryId}
use Rattle.dw_base.specs.declared.offsets.DebugLineOffset.{DebugLineOffset}
use Rattle.dw_line.specs.LinePrograms.{is_in_sequence}
use Rattle.dw_read.specs.Reading.{Reading, left}
use Rattle.dw_read_lines.specs.LineHeaders.{lines_at_place}
use Rattle.dw_read_lines.specs.LineHeaderViews.{lines_of}
use Rattle.dw_read_units.specs.Passes.{rows_reading}
use Rattle.dw_read_units.specs.declared.unit_ref.UnitRef.{UnitRef}
use Rattle.dw_sources.specs.RawListIters.{encoding_in}
use Rattle.dw_tree.specs.UnitValue.{UnitValue}
use Rattle.dw_convert.specs.Tables.{Tables as UnitTables}
use Rattle.dw_convert_lines.specs.EntryImages.{Converting}
use Rattle.dw_convert_lines.specs.EntryNames.{Texts, Tables}
use Rattle.dw_convert_lines.specs.ReadPrograms.{LinesOutcome}
use Rattle.dw_convert_lines.specs.Views.{texts_of}
use Rattle.dw_dwarf.specs.ConvertedEntries.{Values, built_entries, EntriesConvert, seen_in}
use Rattle.dw_dwarf.specs.ConvertedPrograms.{header_at, ProgramBecomes, ProgramConverts}
use Rattle.dw_dwarf.specs.ConvertedUnit.{ConvertsUnit, with_program}
use Rattle.dw_dwarf.specs.ConvertSteps.{tables_in, ConvertsEntries}
use Rattle.dw_entry_ids.specs.KeptRows.{kept_rows}
use Rattle.dw_entry_ids.specs.Plans.{Plan, plans_of}
use Rattle.dw_dwarf_laws.proofs.Attributes.{Both, attributes_once}
use Rattle.dw_dwarf_laws.proofs.ConvertedExpressions.{AnswersOnce}
use Rattle.dw_dwarf_laws.proofs.Headers.{IsClosed}
use Rattle.dw_dwarf_laws.proofs.Programs.{AreAlikeLines, settled_lines, lines_once}
use Rattle.dw_dwarf_laws.proofs.Results.{same_ok}
use Rattle.dw_dwarf_laws.proofs.ConvertedUnits.{AreUnitsAlike, lead_alike}

-- a unit with its line program as writers look at it
abbrev pub settled_unit : UnitValue → UnitValue
settled_unit w = record w { line_program = settled_lines w.line_program }

abbrev pub IsClosedUnit : UnitValue → Type 0
IsClosedUnit w = IsClosed w.line_program

module _ {R E : Type 0} (reading : R → Reading) (answers : ℕ → Option Address → Type 0) (functional : AnswersOnce answers) (u v : UnitRef R E) (alike : AreUnitsAlike reading u v) where
  program_at_once : (offset : DebugLineOffset) (old : Tables) (x y : Converting FileId) → ProgramBecomes reading answers u offset old (Ok x) → ProgramBecomes reading answers v offset old (Ok y) → AreAlikeLines x y
  program_at_once offset old x y h k =
      let s = alike.sections in
      let there : header_at reading u offset ≡ header_at reading v offset = λ i. lines_at_place (s.debug_line i).is_big (alike.encoding i).address_size offset.0 (left (s.debug_line i)) in
      let lines : lines_of reading h.program.header ≡ lines_of reading k.program.header = same_ok (header_at reading u offset) (lines_of reading h.program.header) (lines_of reading k.program.header) h.stands (there ∙ k.stands) in
      let order : (reading u.dwarf.now.debug_line).is_big ≡ (reading v.dwarf.now.debug_line).is_big = ap (λ (r : Reading). r.is_big) s.debug_line in
      let texts : texts_of reading v.dwarf.now ≡ texts_of reading u.dwarf.now = λ i. record { strings = left (sym s.debug_str i); line_strings = left (sym s.debug_line_str i) } in
      lines_once reading answers functional (texts_of reading u.dwarf.now) old h.program k.program (record { lines = lines; tables = h.order.tables ∙ order ∙ sym k.order.tables; counts = h.order.counts ∙ order ∙ sym k.order.counts }) x y
      h.becomes (subst (λ (t : Texts). LinesOutcome reading answers k.program t None None old (Ok y)) texts k.becomes)

  program_by_once : (o : Option DebugLineOffset) (old : Tables) (x y : Converting FileId) → ProgramConverts reading answers u o old x → ProgramConverts reading answers v o old y → AreAlikeLines x y
  program_by_once None old x y h k =
      let s : x ≡ y = h ∙ sym k in
      record { closed = ap (λ (z : Converting FileId). is_in_sequence z.program.program) h; closed_too = ap (λ (z : Converting FileId). is_in_sequence z.program.program) k; program = ap (λ (z : Converting FileId). settled_lines z.program) s; ids = ap (λ (z : Converting FileId). z.ids) s; tables = ap (λ (z : Converting FileId). z.tables) s }
  program_by_once (Some offset) old x y h k = program_at_once offset old x y h k

  pub program_once : (old : Tables) (x y : Converting FileId) → ProgramConverts reading answers u u.unit.now.line_program old x → ProgramConverts reading answers v v.unit.now.line_program old y → AreAlikeLines x y
  program_once old x y h k = program_by_once u.unit.now.line_program old x y h (subst (λ o. ProgramConverts reading answers v o old y) (sym alike.program) k)

  module _ (entries : ℕ → Option UnitEntryId) (infos : ℕ → Option DebugInfoRef) (files : List FileId) where
    entries_once : (big : Bool) (e : Encoding) (plans : List Plan) (old : UnitTables) (xs ys : List Values) (m n : UnitTables) → EntriesConvert reading answers entries infos u files big e plans old xs m → EntriesConvert reading answers entries infos v files big e plans old ys n → ◌≡◌ {A = Both (List Values)} (xs, m) (ys, n)
    entries_once big e [] old [] [] m n h k = λ i. ([], (h ∙ sym k) i)
    entries_once big e [] old [] (y ∷ ys) m n h k = absurd k
    entries_once big e [] old (x ∷ xs) ys m n h k = absurd h
    entries_once big e (p ∷ plans) old [] ys m n h k = absurd h
    entries_once big e (p ∷ plans) old (x ∷ xs) [] m n h k = absurd k
    entries_once big e (p ∷ plans) old (x ∷ xs) (y ∷ ys) m n h k =
        let s = attributes_once reading answers functional entries infos u v (lead_alike reading u v alike) files (map (seen_in big e) p.entry.attributes) old x y h.0 k.0 h.1 k.1 in
        let more = entries_once big e plans k.0 xs ys m n (subst (λ t. EntriesConvert reading answers entries infos u files big e plans t xs m) (ap (λ (z : Both Values). z.1) s) h.2) k.2 in
        λ i. ((s i).0 ∷ (more i).0, (more i).1)

    -- what the entries of a unit become, with the tables behind them
    tree_once : (keep : ℕ → Bool) (old : UnitTables) (before other after after_too : UnitValue) (m n : UnitTables) → settled_unit before ≡ settled_unit other → ConvertsEntries keep reading answers entries infos u files None before old after m → ConvertsEntries keep reading answers entries infos v files None other old after_too n
        → (settled_unit after ≡ settled_unit after_too) × (m ≡ n)
    tree_once keep old before other after after_too m n same h k =
        let rows : k.rows ≡ h.rows = same_ok (rows_reading reading u.unit.now.header u.unit.now.abbreviations) k.rows h.rows (alike.rows ∙ k.are) h.are in
        let plans : ℕ → List Row → List Plan = λ from rs. plans_of (kept_rows keep from rs) in
        let from = u.unit.now.header.offset.0 in
        let big = (reading u.unit.now.header.body).is_big in
        let e = encoding_in u in
        let moved : EntriesConvert reading answers entries infos v files big e (plans from h.rows) old k.values n =
        subst (λ (b : Bool). EntriesConvert reading answers entries infos v files b e (plans from h.rows) old k.values n) (sym alike.order)
        (subst (λ (c : Encoding). EntriesConvert reading answers entries infos v files (reading v.unit.now.header.body).is_big c (plans from h.rows) old k.values n) (sym alike.encoding)
        (subst (λ (m : ℕ). EntriesConvert reading answers entries infos v files (reading v.unit.now.header.body).is_big (encoding_in v) (plans m h.rows) old k.values n) (sym alike.offset)
        (subst (λ (rs : List Row). EntriesConvert reading answers entries infos v files (reading v.unit.now.header.body).is_big (encoding_in v) (plans v.unit.now.header.offset.0 rs) old k.values n) rows k.images))) in
        let s = entries_once big e (plans from h.rows) old h.values k.values m n h.images moved in
        let built : (m : ℕ) (rs : List Row) (z : Both (List Values)) (w : UnitValue) → UnitValue = λ (m : ℕ) (rs : List Row) (z : Both (List Values)) (w : UnitValue). record w { entries = built_entries (plans m rs) (plans m rs) z.0; ranges = z.1.ranges; locations = z.1.locations } in
        let first : settled_unit after ≡ built from h.rows (h.values, m) (settled_unit before) = ap settled_unit h.is in
        let last : settled_unit after_too ≡ built v.unit.now.header.offset.0 k.rows (k.values, n) (settled_unit other) = ap settled_unit k.is in
        let between : built from h.rows (h.values, m) (settled_unit before) ≡ built v.unit.now.header.offset.0 k.rows (k.values, n) (settled_unit other) = λ i. built (alike.offset i) (sym rows i) (s i) (same i) in
        (first ∙ between ∙ sym last, ap (λ (z : Both (List Values)). z.1) s)

    tree_closed : (keep : ℕ → Bool) (old : UnitTables) (before after : UnitValue) (m : UnitTables) → IsClosedUnit before → ConvertsEntries keep reading answers entries infos u files None before old after m → IsClosedUnit after
    tree_closed keep old before after m closed h = ap (λ (w : UnitValue). is_in_sequence w.line_program.program) h.is ∙ closed

-- two units that were built, with the strings behind them
pub record AreBuiltAlike (after after_too : UnitValue) (new new_too : Tables) : Type 0 where
  pub closed : IsClosedUnit after
  pub closed_too : IsClosedUnit after_too
  pub unit : settled_unit after ≡ settled_unit after_too
  pub tables : new ≡ new_too

module _ {R E : Type 0} (keep : ℕ → Bool) (reading : R → Reading) (answers : ℕ → Option Address → Type 0) (functional : AnswersOnce answers) (entries : ℕ → Option UnitEntryId) (infos : ℕ → Option DebugInfoRef) (u v : UnitRef R E) (alike : AreUnitsAlike reading u v) where
  pub unit_once : (before after after_too : UnitValue) (old new new_too : Tables) → ConvertsUnit None keep reading answers entries infos u before old after new → ConvertsUnit None keep reading answers entries infos v before old after_too new_too → AreBuiltAlike after after_too new new_too
  unit_once before after after_too old new new_too h k =
      let p = program_once reading answers functional u v alike old (record { program = h.program; ids = h.files; tables = h.between }) (record { program = k.program; ids = k.files; tables = k.between }) h.program_is k.program_is in
      let moved : ConvertsEntries keep reading answers entries infos v h.files None (with_program k.program before) (tables_in h.between.strings h.between.line_strings before) after_too (tables_in new_too.strings new_too.line_strings after_too) =
      subst (λ (fs : List FileId). ConvertsEntries keep reading answers entries infos v fs None (with_program k.program before) (tables_in h.between.strings h.between.line_strings before) after_too (tables_in new_too.strings new_too.line_strings after_too)) (sym p.ids)
      (subst (λ (t : Tables). ConvertsEntries keep reading answers entries infos v k.files None (with_program k.program before) (tables_in t.strings t.line_strings before) after_too (tables_in new_too.strings new_too.line_strings after_too)) (sym p.tables) k.tree) in
      let same : settled_unit (with_program h.program before) ≡ settled_unit (with_program k.program before) = λ i. record before { line_program = p.program i } in
      let t = tree_once reading answers functional u v alike entries infos h.files keep (tables_in h.between.strings h.between.line_strings before) (with_program h.program before) (with_program k.program before) after after_too
      (tables_in new.strings new.line_strings after) (tables_in new_too.strings new_too.line_strings after_too) same h.tree moved in
      record {
        closed = tree_closed reading answers functional u v alike entries infos h.files keep _ (with_program h.program before) after _ p.closed h.tree;
        closed_too = ap (λ (w : UnitValue). is_in_sequence w.line_program.program) k.tree.is ∙ p.closed_too;
        unit = t.0;
        tables = λ i. record { strings = (t.1 i).strings; line_strings = (t.1 i).line_strings };
      }
