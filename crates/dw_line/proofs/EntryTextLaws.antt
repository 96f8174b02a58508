-- What is written for a name or a file is read as it was built.
use Rattle.std.proofs.Common.{◌≡◌, ◌∙◌, sym, ap, ℕ, ◌+◌, ◌^◌, ◌<◌, Bool, true, false, List, [], ◌∷◌, ◌++◌, length, Option, Some, None, refl, append_assoc, unwrap_or, is_some}
use Rattle.dw_base.specs.Numbers.{number_at, word_of}
use Rattle.dw_base.specs.Leb128.{uleb}
use Rattle.dw_base.specs.Forms.{text_at}
use Rattle.dw_base.specs.declared.common.Encoding.{Encoding}
use Rattle.dw_base.specs.declared.constants.TheConstants.{DW_LNCT_path, DW_LNCT_directory_index, DW_LNCT_timestamp, DW_LNCT_size, DW_LNCT_MD5, DW_LNCT_LLVM_source, DW_FORM_udata, DW_FORM_data16}
use Rattle.dw_base.specs.declared.section_id.SectionId.TheVariants.{DebugStr, DebugLineStr}
use Rattle.dw_base.proofs.NumberLaws.{bind_is, bytes_at_is, number-fits-again}
use Rattle.dw_base.proofs.Leb128Laws.{uleb-again}
use Rattle.dw_writer.specs.Texts.{followed, zeros}
use Rattle.dw_writer.specs.Meaning.{Layout, start_of}
use Rattle.dw_writer.specs.SectionTexts.{offset_text}
use Rattle.dw_strings.specs.Strings.{closed, string_place}
use Rattle.dw_strings.proofs.StringLaws.{text-again}
use Rattle.dw_line.specs.Files.{columns_of, file_numbers, first_source, has_timestamp, has_size, source_of, source_text, file_text}
use Rattle.dw_base.specs.LineTables.{ReadEntry, Inline, InStrings, InLineStrings, untold, taken, name_at, part_at, entry_at}
use Rattle.dw_line.specs.BuiltTables.{told, name_read, file_read}
use Rattle.dw_line.specs.Names.{IsName, form_of, name_text}
use Rattle.dw_line.specs.RowTexts.{where_needed}
use Rattle.dw_line.specs.declared.line_string.LineString.{LineString}
use Rattle.dw_line.specs.declared.line_string.LineString.TheVariants.{String, StringRef, LineStringRef}
use Rattle.dw_line.specs.declared.file.FileEntry.{FileEntry}
use Rattle.dw_line.specs.declared.file.Columns.{Columns}
use Rattle.dw_line.proofs.SequenceLaws.{followed_parts, num_parts}

-- a part that is there
abbrev pub given_part : Bool → ℕ × ℕ → List (ℕ × ℕ)
given_part true part = part ∷ []
given_part false part = []

abbrev pub source_part : Option ℕ → List (ℕ × ℕ)
source_part None = []
source_part (Some form) = (DW_LNCT_LLVM_source.0, form) ∷ []

-- a file that can be read: its names, their forms, and numbers in their ranges; what no file has isn't told of it
pub record IsReadable (files : List FileEntry) (form : ℕ) (f : FileEntry) : Type 0 where
  pub name : IsName f.name
  pub has : form_of f.name ≡ form
  pub source : IsName (source_of f)
  pub source_has : (k : ℕ) → first_source files ≡ Some k → form_of (source_of f) ≡ k
  pub directory : f.directory.0 < 2 ^ 64
  pub timestamp : f.info.timestamp < 2 ^ 64
  pub no_timestamp : has_timestamp files ≡ false → f.info.timestamp ≡ 0
  pub size : f.info.size < 2 ^ 64
  pub no_size : has_size files ≡ false → f.info.size ≡ 0
  pub md5 : length (unwrap_or f.info.md5 (zeros 16)) ≡ 16

abbrev pub file_parts : Columns → ℕ → List (ℕ × ℕ)
file_parts c form =
    (DW_LNCT_path.0, form) ∷ (DW_LNCT_directory_index.0, DW_FORM_udata.0)
    ∷ (given_part c.timestamp (DW_LNCT_timestamp.0, DW_FORM_udata.0)
    ++ (given_part c.size (DW_LNCT_size.0, DW_FORM_udata.0)
    ++ (given_part c.md5 (DW_LNCT_MD5.0, DW_FORM_data16.0) ++ source_part c.source)))

module _ (big : Bool) (strings line_strings : List (List ℕ)) (l : Layout) where
  pub name-again : (w : ℕ) (n : LineString) (xs rest : List ℕ) → IsName n → name_text w strings line_strings n big l ≡ Some xs → name_at big w (form_of n) (xs ++ rest) ≡ Some (name_read strings line_strings l n, rest)
  unfolding offset_text
  name-again w (String s) xs rest is e =
      let same : closed s ≡ xs = cc in
      ap (λ ys. taken Inline (text_at (ys ++ rest))) (sym same)
      ∙ bind_is _ (s, rest) (λ x. Some (Inline x.0, x.1)) (ap text_at (append_assoc s (0 ∷ []) rest) ∙ text-again s rest is)
  name-again w (StringRef i) xs rest is e =
      let p = num_parts big w (string_place strings i.0 + start_of l DebugStr) xs e in
      ap (λ ys. taken InStrings (number_at big w (ys ++ rest))) p.1
      ∙ bind_is _ (string_place strings i.0 + start_of l DebugStr, rest) (λ x. Some (InStrings x.0, x.1)) (number-fits-again big w _ rest p.0)
  name-again w (LineStringRef i) xs rest is e =
      let p = num_parts big w (string_place line_strings i.0 + start_of l DebugLineStr) xs e in
      ap (λ ys. taken InLineStrings (number_at big w (ys ++ rest))) p.1
      ∙ bind_is _ (string_place line_strings i.0 + start_of l DebugLineStr, rest) (λ x. Some (InLineStrings x.0, x.1)) (number-fits-again big w _ rest p.0)

  module _ (e : Encoding) (parts : List (ℕ × ℕ)) (x : ReadEntry) (rest : List ℕ) where
    pub path_step : (form : ℕ) (n : LineString) (xs : List ℕ) → IsName n → form_of n ≡ form → name_text (word_of e.format) strings line_strings n big l ≡ Some xs →
        entry_at big e ((DW_LNCT_path.0, form) ∷ parts) x (xs ++ rest) ≡ entry_at big e parts (record x { name = Some (name_read strings line_strings l n) }) rest
    unfolding entry_at part_at
    path_step form n xs is has t =
        bind_is _ (record x { name = Some (name_read strings line_strings l n) }, rest) (λ y. entry_at big e parts y.0 y.1)
        (bind_is _ (name_read strings line_strings l n, rest) (λ y. Some (record x { name = Some y.0 }, y.1))
        (ap (λ f. name_at big (word_of e.format) f (xs ++ rest)) (sym has) ∙ name-again (word_of e.format) n xs rest is t))

    pub directory_step : (n : ℕ) → n < 2 ^ 64 → entry_at big e ((DW_LNCT_directory_index.0, DW_FORM_udata.0) ∷ parts) x (uleb n ++ rest) ≡ entry_at big e parts (record x { directory = n }) rest
    unfolding entry_at part_at
    directory_step n small =
        bind_is _ (record x { directory = n }, rest) (λ y. entry_at big e parts y.0 y.1)
        (bind_is _ (n, rest) (λ y. Some (record x { directory = y.0 }, y.1)) (uleb-again n rest small))

    pub timestamp_step : (b : Bool) (n : ℕ) → n < 2 ^ 64 → (b ≡ false → n ≡ x.timestamp) →
        entry_at big e (given_part b (DW_LNCT_timestamp.0, DW_FORM_udata.0) ++ parts) x (where_needed b (uleb n) ++ rest) ≡ entry_at big e parts (record x { timestamp = n }) rest
    unfolding entry_at part_at
    timestamp_step true n small same =
        bind_is _ (record x { timestamp = n }, rest) (λ y. entry_at big e parts y.0 y.1)
        (bind_is _ (n, rest) (λ y. Some (record x { timestamp = y.0 }, y.1)) (uleb-again n rest small))
    timestamp_step false n small same = ap (λ k. entry_at big e parts (record x { timestamp = k }) rest) (sym (same refl))

    pub size_step : (b : Bool) (n : ℕ) → n < 2 ^ 64 → (b ≡ false → n ≡ x.size) →
        entry_at big e (given_part b (DW_LNCT_size.0, DW_FORM_udata.0) ++ parts) x (where_needed b (uleb n) ++ rest) ≡ entry_at big e parts (record x { size = n }) rest
    unfolding entry_at part_at
    size_step true n small same =
        bind_is _ (record x { size = n }, rest) (λ y. entry_at big e parts y.0 y.1)
        (bind_is _ (n, rest) (λ y. Some (record x { size = y.0 }, y.1)) (uleb-again n rest small))
    size_step false n small same = ap (λ k. entry_at big e parts (record x { size = k }) rest) (sym (same refl))

    pub checksum_step : (b : Bool) (d : List ℕ) → length d ≡ 16 → x.md5 ≡ None →
        entry_at big e (given_part b (DW_LNCT_MD5.0, DW_FORM_data16.0) ++ parts) x (where_needed b d ++ rest) ≡ entry_at big e parts (record x { md5 = told b d }) rest
    unfolding entry_at part_at
    checksum_step true d long none =
        bind_is _ (record x { md5 = Some d }, rest) (λ y. entry_at big e parts y.0 y.1)
        (bind_is _ (d, rest) (λ y. Some (record x { md5 = Some y.0 }, y.1)) (bytes_at_is 16 d rest long))
    checksum_step false d long none = ap (λ k. entry_at big e parts (record x { md5 = k }) rest) none

  pub source_step : (e : Encoding) (x : ReadEntry) (rest : List ℕ) (o : Option ℕ) (s : LineString) (xs : List ℕ) → IsName s → ((k : ℕ) → o ≡ Some k → form_of s ≡ k) → x.source ≡ None →
      source_text (word_of e.format) strings line_strings (is_some o) s big l ≡ Some xs →
      entry_at big e (source_part o) x (xs ++ rest) ≡ Some (record x { source = told (is_some o) (name_read strings line_strings l s) }, rest)
  unfolding entry_at part_at
  source_step e x rest None s xs is has none t =
      let same : [] ≡ xs = cc in
      ap (λ ys. Some (x, ys ++ rest)) (sym same) ∙ ap (λ k. Some (record x { source = k }, rest)) none
  source_step e x rest (Some form) s xs is has none t =
      bind_is _ (record x { source = Some (name_read strings line_strings l s) }, rest) (λ y. Some (y.0, y.1))
      (bind_is _ (name_read strings line_strings l s, rest) (λ y. Some (record x { source = Some y.0 }, y.1))
      (ap (λ f. name_at big (word_of e.format) f (xs ++ rest)) (sym (has form refl)) ∙ name-again (word_of e.format) s xs rest is t))

  -- a file of version 5
  pub file-again : (e : Encoding) (files : List FileEntry) (form : ℕ) (f : FileEntry) (bytes rest : List ℕ) → IsReadable files form f → file_text (word_of e.format) strings line_strings (columns_of files) f big l ≡ Some bytes →
      entry_at big e (file_parts (columns_of files) form) untold (bytes ++ rest) ≡ Some (file_read strings line_strings l files f, rest)
  file-again e files form f bytes rest is t =
      let w : ℕ = word_of e.format in
      let c = columns_of files in
      let d : List ℕ = unwrap_or f.info.md5 (zeros 16) in
      let source = source_text w strings line_strings (is_some c.source) (source_of f) big l in
      let a = followed_parts (name_text w strings line_strings f.name big l) (followed (Some (file_numbers c f)) source) bytes t in
      let b = followed_parts (Some (file_numbers c f)) source a.1 a.3 in
      let numbers : file_numbers c f ≡ b.0 = cc in
      let last : List ℕ = b.1 ++ rest in
      let checksum : List ℕ = where_needed c.md5 d ++ last in
      let size : List ℕ = where_needed c.size (uleb f.info.size) ++ checksum in
      let timestamp : List ℕ = where_needed c.timestamp (uleb f.info.timestamp) ++ size in
      let parts3 : List (ℕ × ℕ) = given_part c.md5 (DW_LNCT_MD5.0, DW_FORM_data16.0) ++ source_part c.source in
      let parts2 : List (ℕ × ℕ) = given_part c.size (DW_LNCT_size.0, DW_FORM_udata.0) ++ parts3 in
      let parts1 : List (ℕ × ℕ) = given_part c.timestamp (DW_LNCT_timestamp.0, DW_FORM_udata.0) ++ parts2 in
      let x1 : ReadEntry = record untold { name = Some (name_read strings line_strings l f.name) } in
      let x2 : ReadEntry = record x1 { directory = f.directory.0 } in
      let x3 : ReadEntry = record x2 { timestamp = f.info.timestamp } in
      let x4 : ReadEntry = record x3 { size = f.info.size } in
      let x5 : ReadEntry = record x4 { md5 = told c.md5 d } in
      let grouped : (a.0 ++ (file_numbers c f ++ b.1)) ++ rest ≡ a.0 ++ (uleb f.directory.0 ++ timestamp) = simp append_assoc in
      ap (λ ys. entry_at big e (file_parts c form) untold (ys ++ rest)) (a.4 ∙ ap (λ ys. a.0 ++ ys) (b.4 ∙ ap (λ ys. ys ++ b.1) (sym numbers)))
      ∙ ap (entry_at big e (file_parts c form) untold) grouped
      ∙ path_step e ((DW_LNCT_directory_index.0, DW_FORM_udata.0) ∷ parts1) untold (uleb f.directory.0 ++ timestamp) form f.name a.0 is.name is.has a.2
      ∙ directory_step e parts1 x1 timestamp f.directory.0 is.directory
      ∙ timestamp_step e parts2 x2 size c.timestamp f.info.timestamp is.timestamp is.no_timestamp
      ∙ size_step e parts3 x3 checksum c.size f.info.size is.size is.no_size
      ∙ checksum_step e (source_part c.source) x4 last c.md5 d is.md5 refl
      ∙ source_step e x5 rest c.source (source_of f) b.1 is.source is.source_has refl b.3
