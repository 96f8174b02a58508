-- A line program without a fault for a plain writer, whose strings have places that fit where their sections start, has a text there.
use Rattle.std.specs.Prelude.{◌≡◌, ℕ, ◌+◌, Bool, true, false, not, ◌&&◌, ◌||◌, nat_le, List, [], ◌∷◌, drop, length, Option, Some, None, is_some, refl, IsTrue}
use Rattle.std.specs.List.{list_all, list_any}
use Rattle.std.proofs.Common.{sym, ◌∙◌, ap, subst}
use Rattle.std.proofs.lemmas.Bool.{and_parts, or_parts, eq-eqb}
use Rattle.dw_base.specs.Numbers.{num, is_width, fits, word_of, escape_of}
use Rattle.dw_base.specs.declared.address.Address.{Address}
use Rattle.dw_base.specs.declared.address.Address.TheVariants.{Constant, Symbol}
use Rattle.dw_base.specs.declared.common.Encoding.{Encoding}
use Rattle.dw_base.specs.declared.error.Error.{Error}
use Rattle.dw_base.specs.declared.error.Error.TheVariants as errors
use Rattle.dw_base.specs.declared.section_id.SectionId.{SectionId}
use Rattle.dw_base.specs.declared.section_id.SectionId.TheVariants.{DebugStr, DebugLineStr}
use Rattle.dw_writer.specs.Layout.{Layout, start_of}
use Rattle.dw_writer.specs.SectionTexts.{address_text, offset_text}
use Rattle.dw_writer.specs.Texts.{followed}
use Rattle.dw_strings.specs.Strings.{closed, string_place}
use Rattle.dw_line.specs.Accepted.{encoding_fails, forms_fail}
use Rattle.dw_line.specs.Files.{source_of, source_text, file_text, file_numbers, old_columns, columns_of, first_source}
use Rattle.dw_line.specs.Headers.{version_bytes, parameters_bytes, directory_formats, directory_form, file_formats, file_form, header_text, header_length, header_fails, tables_text, length_fails}
use Rattle.dw_line.specs.LinePrograms.{LineProgramValue, optional_text, optional_fails, line_program_text, line_program_fails}
use Rattle.dw_line.specs.Names.{name_text}
use Rattle.dw_line.specs.Parts.{texts, NoCause}
use Rattle.dw_line.specs.ProgramTexts.{ProgramValue, open_sequence, open_text, open_fails, sequences_text, sequences_fail, program_length, contents_fail}
use Rattle.dw_line.specs.Programs.{SequenceValue, ended, ended_text, ended_fails}
use Rattle.dw_line.specs.RawRows.{RawRow, row_before}
use Rattle.dw_line.specs.RowTexts.{sequence_rows_text}
use Rattle.dw_line.specs.SequenceTexts.{BuiltSequence, set_address_prefix, set_address_model, sequence_model, address_fails, rows_fail, sequence_fails}
use Rattle.dw_line.specs.declared.file.FileEntry.{FileEntry}
use Rattle.dw_line.specs.declared.line_string.LineString.{LineString}
use Rattle.dw_line.specs.declared.line_string.LineString.TheVariants.{String, StringRef, LineStringRef}
use Rattle.dw_dwarf_laws.specs.LineStrings.{name_fits, source_fits, file_fits, tables_fit, program_fits, line_program_fits}
use Rattle.dw_dwarf_laws.specs.Starts.{StartsAt}
use Rattle.dw_dwarf_laws.proofs.There.{IsThere, itself_there, followed_there, number_there, not_false, word_wide}

module _ (starts : SectionId → ℕ) (strings line_strings : List (List ℕ)) (big : Bool) (l : Layout) (at : StartsAt starts l) where
  -- Names

  module _ (w : ℕ) (wide : IsTrue (is_width w)) where
    offset_there : (n : ℕ) (section : SectionId) → start_of l section ≡ starts section → IsTrue (fits w (n + starts section)) → IsThere (offset_text w section n big l)
    unfolding offset_text
    offset_there n section start fit = number_there big w (n + start_of l section) wide (subst (λ k. IsTrue (fits w (n + k))) (sym start) fit)

    name_there : (s : LineString) → IsTrue (name_fits starts strings line_strings w s) → IsThere (name_text w strings line_strings s big l)
    name_there (String s) fit = itself_there (closed s)
    name_there (StringRef i) fit = offset_there (string_place strings i.0) DebugStr at.strings fit
    name_there (LineStringRef i) fit = offset_there (string_place line_strings i.0) DebugLineStr at.line_strings fit

    names_there : (ss : List LineString) → IsTrue (list_all (name_fits starts strings line_strings w) ss) → IsThere (texts (name_text w strings line_strings) ss big l)
    names_there [] fit = itself_there []
    names_there (s ∷ ss) fit =
        let parts = and_parts (name_fits starts strings line_strings w s) (list_all (name_fits starts strings line_strings w) ss) fit in
        followed_there (name_text w strings line_strings s big l) (texts (name_text w strings line_strings) ss big l) (name_there s parts.0) (names_there ss parts.1)

    source_there : (b : Bool) (s : LineString) → IsTrue (source_fits starts strings line_strings w b s) → IsThere (source_text w strings line_strings b s big l)
    source_there true s fit = name_there s fit
    source_there false s fit = itself_there []

    file_there : (numbers : List ℕ) (b : Bool) (f : FileEntry) → IsTrue (file_fits starts strings line_strings w b f) →
        IsThere (followed (name_text w strings line_strings f.name big l) (followed (Some numbers) (source_text w strings line_strings b (source_of f) big l)))
    file_there numbers b f fit =
        let parts = and_parts (name_fits starts strings line_strings w f.name) (source_fits starts strings line_strings w b (source_of f)) fit in
        followed_there _ _ (name_there f.name parts.0) (followed_there (Some numbers) _ (itself_there numbers) (source_there b (source_of f) parts.1))

    old_files_there : (fs : List FileEntry) → IsTrue (list_all (file_fits starts strings line_strings w false) fs) → IsThere (texts (file_text w strings line_strings old_columns) fs big l)
    old_files_there [] fit = itself_there []
    old_files_there (f ∷ fs) fit =
        let parts = and_parts (file_fits starts strings line_strings w false f) (list_all (file_fits starts strings line_strings w false) fs) fit in
        followed_there (file_text w strings line_strings old_columns f big l) _ (file_there (file_numbers old_columns f) false f parts.0) (old_files_there fs parts.1)

    new_files_there : (all fs : List FileEntry) → IsTrue (list_all (file_fits starts strings line_strings w (is_some (first_source all))) fs) → IsThere (texts (file_text w strings line_strings (columns_of all)) fs big l)
    new_files_there all [] fit = itself_there []
    new_files_there all (f ∷ fs) fit =
        let b = is_some (first_source all) in
        let parts = and_parts (file_fits starts strings line_strings w b f) (list_all (file_fits starts strings line_strings w b) fs) fit in
        followed_there (file_text w strings line_strings (columns_of all) f big l) _ (file_there (file_numbers (columns_of all) f) b f parts.0) (new_files_there all fs parts.1)

    tables_there : (old : Bool) (directories : List LineString) (files : List FileEntry) → IsTrue (tables_fit starts strings line_strings w old directories files) → IsThere (tables_text w strings line_strings old directories files big l)
    tables_there true directories files fit =
        let parts = and_parts (list_all (name_fits starts strings line_strings w) (drop 1 directories)) (list_all (file_fits starts strings line_strings w false) files) fit in
        followed_there _ _ (names_there (drop 1 directories) parts.0)
        (followed_there (Some (0 ∷ [])) _ (itself_there (0 ∷ [])) (followed_there _ (Some (0 ∷ [])) (old_files_there files parts.1) (itself_there (0 ∷ []))))
    tables_there false directories files fit =
        let b = is_some (first_source files) in
        let parts = and_parts (list_all (name_fits starts strings line_strings w) directories) (list_all (file_fits starts strings line_strings w b) files) fit in
        followed_there (Some _) _ (itself_there (directory_formats (directory_form directories) (length directories)))
        (followed_there _ _ (names_there directories parts.0)
        (followed_there (Some _) _ (itself_there (file_formats (columns_of files) (file_form files) (length files))) (new_files_there files files parts.1)))

  -- Sequences, whose addresses are numbers

  begin_there : (w : ℕ) (a : Option Address) → IsTrue (is_width w) → NoCause (address_fails true w a) → IsThere (set_address_model w a big l)
  unfolding address_text
  begin_there w None wide sound = itself_there []
  begin_there w (Some (Constant n)) wide sound = followed_there (Some (set_address_prefix w)) _ (itself_there (set_address_prefix w)) (number_there big w n wide (not_false (fits w n) (sound errors.ValueTooLarge)))
  begin_there w (Some (Symbol s addend)) wide sound = absurd (let k : true ≡ false = sound errors.InvalidAddress in cc)

  built_there : (w m : ℕ) (first : RawRow) (s : BuiltSequence) → IsTrue (is_width w) → NoCause (sequence_fails true w first s) → IsThere (sequence_model w m first s big l)
  built_there w m first s wide sound =
      followed_there _ (Some _) (begin_there w s.address wide (λ e. (or_parts (address_fails true w s.address e) (rows_fail first s.rows e) (sound e)).0)) (itself_there (sequence_rows_text m first s.rows s.end))

  module _ (p : ProgramValue) (wide : IsTrue (is_width p.encoding.address_size)) where
    abbrev first : RawRow
    first = row_before p.line_encoding.default_is_stmt

    abbrev least : ℕ
    least = p.line_encoding.minimum_instruction_length

    ended_there : (ss : List SequenceValue) → NoCause (λ e. list_any (λ s. ended_fails true p.encoding p.line_encoding s e) ss) → IsThere (texts (ended_text p.encoding p.line_encoding) ss big l)
    ended_there [] sound = itself_there []
    ended_there (s ∷ ss) sound =
        let parts = λ (e : Error). or_parts (ended_fails true p.encoding p.line_encoding s e) (list_any (λ x. ended_fails true p.encoding p.line_encoding x e) ss) (sound e) in
        followed_there (ended_text p.encoding p.line_encoding s big l) _ (built_there p.encoding.address_size least first (ended p.encoding.version s) wide (λ e. (parts e).0)) (ended_there ss (λ e. (parts e).1))

    open_there : (b : Bool) → NoCause (open_fails true p b) → IsThere (open_text p b big l)
    open_there true sound = built_there p.encoding.address_size least first (open_sequence p) wide sound
    open_there false sound = itself_there []

    sequences_there : NoCause (sequences_fail true p) → IsThere (sequences_text p big l)
    sequences_there sound =
        let parts = λ (e : Error). or_parts (list_any (λ s. ended_fails true p.encoding p.line_encoding s e) p.sequences) (open_fails true p p.in_sequence e) (sound e) in
        followed_there _ _ (ended_there p.sequences (λ e. (parts e).0)) (open_there p.in_sequence (λ e. (parts e).1))

  -- Programs

  header_there : (p : ProgramValue) → IsTrue (tables_fit starts strings line_strings (word_of p.encoding.format) (nat_le p.encoding.version 4) p.directories p.files) →
      IsThere (header_text strings line_strings p.encoding p.line_encoding p.directories p.files big l)
  header_there p fit =
      followed_there (Some _) _ (itself_there (version_bytes big p.encoding))
      (followed_there (Some _) _ (itself_there (num big (word_of p.encoding.format) (header_length p.encoding p.line_encoding p.directories p.files)))
      (followed_there (Some _) _ (itself_there (parameters_bytes p.encoding.version p.line_encoding))
      (tables_there (word_of p.encoding.format) (word_wide p.encoding.format) (nat_le p.encoding.version 4) p.directories p.files fit)))

  width_of : (own unit : Encoding) → NoCause (encoding_fails own unit) → IsTrue (is_width own.address_size)
  width_of own unit sound =
      let w = own.address_size in
      not_false (is_width w) (sym (ap (λ b. b && not (is_width w)) (eq-eqb w w refl)) ∙ sound (errors.UnsupportedWordSize w))

  optional_there : (unit : Encoding) (o : Option ProgramValue) → NoCause (optional_fails strings line_strings true unit o) → IsTrue (program_fits starts strings line_strings o) → IsThere (optional_text strings line_strings o big l)
  optional_there unit None sound fit = absurd (let k : true ≡ false = sound errors.IncompatibleLineProgramEncoding in cc)
  optional_there unit (Some p) sound fit =
      let accepted = λ (e : Error). encoding_fails p.encoding unit e || forms_fail p.encoding.version p.directories p.files e in
      let contents = λ (e : Error). contents_fail strings line_strings true p e in
      let long = λ (e : Error). length_fails p.encoding.format (program_length p) e in
      let parts = λ (e : Error). or_parts (accepted e) (contents e || long e) (sound e) in
      let wide = width_of p.encoding unit (λ e. (or_parts (encoding_fails p.encoding unit e) (forms_fail p.encoding.version p.directories p.files e) (parts e).0).0) in
      let inner = λ (e : Error). (or_parts (contents e) (long e) (parts e).1).0 in
      let rest = λ (e : Error). (or_parts (header_fails strings line_strings true p.encoding p.line_encoding p.directories p.files e) (sequences_fail true p e) (inner e)).1 in
      followed_there (Some _) _ (itself_there (escape_of p.encoding.format))
      (followed_there (Some _) _ (itself_there (num big (word_of p.encoding.format) (program_length p)))
      (followed_there _ _ (header_there p fit) (sequences_there p wide rest)))

  pub program_there : (unit : Encoding) (v : LineProgramValue) → NoCause (line_program_fails strings line_strings true unit v) → IsTrue (line_program_fits starts strings line_strings v) → IsThere (line_program_text strings line_strings v big l)
  program_there unit v sound fit = optional_there unit v.program sound fit
