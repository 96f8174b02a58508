-- The tables of a header are read as the directories and files that were built.
use Rattle.std.proofs.Common.{◌≡◌, ◌≢◌, ◌∙◌, sym, ap, ap₂, subst, ℕ, ◌^◌, ◌<◌, ◌≤◌, Bool, true, false, true≢false, not, ◌==◌, ◌&&◌, ◌||◌, nat_le, List, [], ◌∷◌, ◌++◌, length, map, drop, Option, Some, None, refl, arith, IsTrue, is_some, unwrap_or, if◌then◌else◌, append_assoc, append-nil}
use Rattle.std.specs.List.{All, list_all, list_any, flat_map}
use Rattle.std.proofs.lemmas.Bool.{and_parts}
use Rattle.std.proofs.lemmas.Option.{none-some}
use Rattle.std.proofs.lemmas.Bool.Decides.{nat_tests}
use Rattle.std.proofs.lemmas.List.Elements.{All-nil, All-cons, All-head, All-tail}
use Rattle.dw_base.specs.Numbers.{word_of}
use Rattle.dw_base.specs.Leb128.{uleb}
use Rattle.dw_base.specs.Spellable.{IsText}
use Rattle.dw_base.specs.declared.common.Encoding.{Encoding}
use Rattle.dw_base.specs.declared.constants.TheConstants.{DW_LNCT_path, DW_FORM_string}
use Rattle.dw_base.proofs.NumberLaws.{bind_is}
use Rattle.dw_base.proofs.Leb128Laws.{uleb-again}
use Rattle.dw_writer.specs.Texts.{followed, zeros}
use Rattle.dw_writer.specs.Meaning.{Layout}
use Rattle.dw_strings.specs.Strings.{closed}
use Rattle.dw_line.specs.Accepted.{is_new_file, has_form, sources_agree, forms_agree}
use Rattle.dw_line.specs.Files.{old_columns, columns_of, first_source, has_timestamp, has_size, has_md5, source_of, file_text}
use Rattle.dw_line.specs.Headers.{directory_formats, file_formats, directory_form, file_form, new_tables_text, tables_text}
use Rattle.dw_base.specs.LineTables.{ReadEntry, Inline, untold, named, entry_at, new_entries_at, old_directory_at, old_file_at, old_tables_at, new_tables_at, tables_at}
use Rattle.dw_line.specs.BuiltTables.{told, name_read, directory_read, file_read, tables_read}
use Rattle.dw_line.specs.Names.{IsName, IsFull, form_of, name_text}
use Rattle.dw_line.specs.Parts.{texts}
use Rattle.dw_line.specs.ProgramTexts.{IsFile}
use Rattle.dw_line.specs.declared.line_string.LineString.{LineString}
use Rattle.dw_line.specs.declared.line_string.LineString.TheVariants.{String, StringRef, LineStringRef}
use Rattle.dw_line.specs.declared.file.FileEntry.{FileEntry}
use Rattle.dw_line.proofs.EntryTextLaws.{file_parts, IsReadable, path_step, file-again}
use Rattle.dw_line.proofs.LineRowsSteps.{eq_of, le_of}
use Rattle.dw_line.proofs.SequenceLaws.{followed_parts}
use Rattle.dw_line.proofs.TableLaws.{IsPart, part_bytes, directory_part_spelled, file_parts_spelled, file_parts_fit, described, many-again, IsOldEntry, old-again}

-- a name that stands in place and isn't empty, as every name does up to version 4
record IsPlainName (n : LineString) (xs : List ℕ) : Type 0 where
  bytes : List ℕ
  is : n ≡ String bytes
  spelled : xs ≡ closed bytes
  text : IsText bytes
  full : length bytes == 0 ≡ false

not_empty : (s : List ℕ) → String s ≢ String [] → length s == 0 ≡ false
not_empty [] h = absurd (h refl)
not_empty (b ∷ bs) h = grind (arith, nat_tests)

-- what is asked of a directory's name up to version 4
record IsPlain (n : LineString) : Type 0 where
  name : IsName n
  form : form_of n ≡ DW_FORM_string.0
  full : n ≢ String []

-- a file up to version 4
record IsOldFile (files : List FileEntry) (f : FileEntry) : Type 0 where
  plain : IsPlain f.name
  no_md5 : has_md5 files ≡ false
  no_source : first_source files ≡ None
  directory : f.directory.0 < 2 ^ 64
  timestamp : f.info.timestamp < 2 ^ 64
  size : f.info.size < 2 ^ 64

-- a directory of version 5
record HasForm (form : ℕ) (d : LineString) : Type 0 where
  name : IsName d
  has : form_of d ≡ form

module _ (big : Bool) (e : Encoding) (strings line_strings : List (List ℕ)) (l : Layout) where
  plain_name : (n : LineString) (xs : List ℕ) → IsName n → form_of n ≡ DW_FORM_string.0 → n ≢ String [] → name_text (word_of e.format) strings line_strings n big l ≡ Some xs → IsPlainName n xs
  plain_name (String s) xs is has full t =
      let same : closed s ≡ xs = cc in
      record { bytes = s; is = refl; spelled = sym same; text = is; full = not_empty s full }
  plain_name (StringRef i) xs is has full t = absurd (omega (arith, has))
  plain_name (LineStringRef i) xs is has full t = absurd (omega (arith, has))

  old_directory : (d : LineString) (bytes : List ℕ) → IsPlain d → name_text (word_of e.format) strings line_strings d big l ≡ Some bytes → IsOldEntry old_directory_at (directory_read strings line_strings l d) bytes
  old_directory d bytes is t =
      let p = plain_name d bytes is.name is.form is.full t in
      record {
        name = p.bytes;
        after = [];
        is = p.spelled ∙ sym (append-nil (closed p.bytes));
        text = p.text;
        full = p.full;
        again = λ rest. ap (λ n. Some (directory_read strings line_strings l n, rest)) (sym p.is);
      }

  old_file_is : (files : List FileEntry) (f : FileEntry) (s : List ℕ) → f.name ≡ String s → has_md5 files ≡ false → first_source files ≡ None →
      record (named (Inline s)) { directory = f.directory.0; timestamp = f.info.timestamp; size = f.info.size } ≡ file_read strings line_strings l files f
  old_file_is files f s name no_md5 no_source =
      let base : ReadEntry = record untold { directory = f.directory.0; timestamp = f.info.timestamp; size = f.info.size } in
      ap (λ n. record base { name = Some (name_read strings line_strings l n) }) (sym name)
      ∙ ap (λ b. record base { name = Some (name_read strings line_strings l f.name); md5 = told b (unwrap_or f.info.md5 (zeros 16)) }) (sym no_md5)
      ∙ ap (λ o. record base { name = Some (name_read strings line_strings l f.name); md5 = told (has_md5 files) (unwrap_or f.info.md5 (zeros 16)); source = told (is_some o) (name_read strings line_strings l (source_of f)) }) (sym no_source)

  old_file : (files : List FileEntry) (f : FileEntry) (bytes : List ℕ) → IsOldFile files f → file_text (word_of e.format) strings line_strings old_columns f big l ≡ Some bytes → IsOldEntry old_file_at (file_read strings line_strings l files f) bytes
  old_file files f bytes is t =
      let w : ℕ = word_of e.format in
      let numbers : List ℕ = uleb f.directory.0 ++ (uleb f.info.timestamp ++ (uleb f.info.size ++ [])) in
      let a = followed_parts (name_text w strings line_strings f.name big l) (followed (Some numbers) (Some [])) bytes t in
      let b = followed_parts (Some numbers) (Some []) a.1 a.3 in
      let one_is : numbers ≡ b.0 = cc in
      let none_is : [] ≡ b.1 = cc in
      let rest_is : numbers ++ [] ≡ a.1 = ap₂ (λ x y. x ++ y) one_is none_is ∙ sym b.4 in
      let p = plain_name f.name a.0 is.plain.name is.plain.form is.plain.full a.2 in
      let after : List ℕ = uleb f.directory.0 ++ (uleb f.info.timestamp ++ uleb f.info.size) in
      let grouped : numbers ++ [] ≡ after = simp (append_assoc, append-nil) in
      record {
        name = p.bytes;
        after = after;
        is = a.4 ∙ ap₂ (λ x y. x ++ y) p.spelled (sym rest_is ∙ grouped);
        text = p.text;
        full = p.full;
        again = λ rest.
            let one : List ℕ = uleb f.info.size ++ rest in
            let two : List ℕ = uleb f.info.timestamp ++ one in
            let spread : after ++ rest ≡ uleb f.directory.0 ++ two = simp append_assoc in
            ap (old_file_at p.bytes) spread
            ∙ bind_is _ (f.directory.0, two) _ (uleb-again f.directory.0 two is.directory)
            ∙ bind_is _ (f.info.timestamp, one) _ (uleb-again f.info.timestamp one is.timestamp)
            ∙ bind_is _ (f.info.size, rest) _ (uleb-again f.info.size rest is.size)
            ∙ ap (λ x. Some (x, rest)) (old_file_is files f p.bytes p.is is.no_md5 is.no_source);
      }

  old-tables-again : (directories : List LineString) (files : List FileEntry) (bytes : List ℕ) → All IsPlain directories → All (IsOldFile files) files →
      followed (texts (name_text (word_of e.format) strings line_strings) directories big l)
      (followed (Some (0 ∷ [])) (followed (texts (file_text (word_of e.format) strings line_strings old_columns) files big l) (Some (0 ∷ [])))) ≡ Some bytes →
      old_tables_at bytes ≡ Some (record { directories = map (directory_read strings line_strings l) directories; files = map (file_read strings line_strings l files) files }, [])
  old-tables-again directories files bytes plain old t =
      let w : ℕ = word_of e.format in
      let names = texts (name_text w strings line_strings) directories big l in
      let entries = texts (file_text w strings line_strings old_columns) files big l in
      let a = followed_parts names (followed (Some (0 ∷ [])) (followed entries (Some (0 ∷ [])))) bytes t in
      let b = followed_parts (Some (0 ∷ [])) (followed entries (Some (0 ∷ []))) a.1 a.3 in
      let c = followed_parts entries (Some (0 ∷ [])) b.1 b.3 in
      let zero_one : 0 ∷ [] ≡ b.0 = cc in
      let zero_two : 0 ∷ [] ≡ c.1 = cc in
      let last : List ℕ = c.0 ++ 0 ∷ [] in
      let whole : bytes ≡ a.0 ++ 0 ∷ last = a.4 ∙ ap (λ ys. a.0 ++ ys) (b.4 ∙ ap₂ (λ x y. x ++ y) (sym zero_one) (c.4 ∙ ap (λ y. c.0 ++ y) (sym zero_two))) in
      ap old_tables_at whole
      ∙ bind_is _ (map (directory_read strings line_strings l) directories, last) _
      (old-again IsPlain (name_text w strings line_strings) (directory_read strings line_strings l) old_directory_at big l old_directory directories a.0 last plain a.2)
      ∙ bind_is _ (map (file_read strings line_strings l files) files, []) _
      (old-again (IsOldFile files) (file_text w strings line_strings old_columns) (file_read strings line_strings l files) old_file_at big l (old_file files) files c.0 [] old c.2)

  new_directory : (form : ℕ) (d : LineString) (bytes rest : List ℕ) → HasForm form d → name_text (word_of e.format) strings line_strings d big l ≡ Some bytes →
      entry_at big e ((DW_LNCT_path.0, form) ∷ []) untold (bytes ++ rest) ≡ Some (directory_read strings line_strings l d, rest)
  unfolding entry_at
  new_directory form d bytes rest is t = path_step big strings line_strings l e [] untold rest form d bytes is.name is.has t

  new-tables-again : (directories : List LineString) (files : List FileEntry) (bytes : List ℕ) →
      All (HasForm (directory_form directories)) directories → All (IsReadable files (file_form files)) files → length directories < 2 ^ 64 → length files < 2 ^ 64 →
      directory_form directories < 2 ^ 64 → file_form files < 2 ^ 64 → ((k : ℕ) → first_source files ≡ Some k → k < 2 ^ 64) →
      new_tables_text (word_of e.format) strings line_strings directories files big l ≡ Some bytes →
      new_tables_at big e bytes ≡ Some (record { directories = map (directory_read strings line_strings l) directories; files = map (file_read strings line_strings l files) files }, [])
  new-tables-again directories files bytes have readable few_directories few_files small_directory small_file small_source t =
      let w : ℕ = word_of e.format in
      let columns = columns_of files in
      let before_directories : List ℕ = directory_formats (directory_form directories) (length directories) in
      let before_files : List ℕ = file_formats columns (file_form files) (length files) in
      let names = texts (name_text w strings line_strings) directories big l in
      let entries = texts (file_text w strings line_strings columns) files big l in
      let a = followed_parts (Some before_directories) (followed names (followed (Some before_files) entries)) bytes t in
      let b = followed_parts names (followed (Some before_files) entries) a.1 a.3 in
      let c = followed_parts (Some before_files) entries b.1 b.3 in
      let one : before_directories ≡ a.0 = cc in
      let two : before_files ≡ c.0 = cc in
      let ps : List (ℕ × ℕ) = (DW_LNCT_path.0, directory_form directories) ∷ [] in
      let qs : List (ℕ × ℕ) = file_parts columns (file_form files) in
      let last : List ℕ = before_files ++ c.1 in
      let whole : bytes ≡ before_directories ++ (b.0 ++ last) = a.4 ∙ ap₂ (λ x y. x ++ y) (sym one) (b.4 ∙ ap (λ y. b.0 ++ y) (c.4 ∙ ap (λ x. x ++ c.1) (sym two))) in
      let grouped : before_directories ++ (b.0 ++ last) ≡ length ps ∷ (flat_map part_bytes ps ++ (uleb (length directories) ++ (b.0 ++ last))) =
      ap (λ x. x ++ (b.0 ++ last)) (directory_part_spelled (directory_form directories) (length directories))
      ∙ ap (λ y. length ps ∷ y) (append_assoc (flat_map part_bytes ps) (uleb (length directories)) (b.0 ++ last)) in
      let end : c.1 ++ [] ≡ c.1 = append-nil c.1 in
      let second : last ≡ length qs ∷ (flat_map part_bytes qs ++ (uleb (length files) ++ (c.1 ++ []))) =
      ap (λ x. x ++ c.1) (file_parts_spelled columns (file_form files) (length files))
      ∙ ap (λ y. length qs ∷ y) (append_assoc (flat_map part_bytes qs) (uleb (length files)) c.1)
      ∙ ap (λ y. length qs ∷ (flat_map part_bytes qs ++ (uleb (length files) ++ y))) (sym end) in
      ap (new_tables_at big e) (whole ∙ grouped)
      ∙ bind_is _ (map (directory_read strings line_strings l) directories, last) _
      (described big e ps (length directories) (b.0 ++ last) last (map (directory_read strings line_strings l) directories) (All-cons IsPart _ [] (omega arith, small_directory) (All-nil IsPart)) few_directories
      (many-again (HasForm (directory_form directories)) (name_text w strings line_strings) (directory_read strings line_strings l) (entry_at big e ps untold) big l (new_directory (directory_form directories)) directories b.0 last have b.2))
      ∙ bind_is _ (map (file_read strings line_strings l files) files, []) _
      (ap (new_entries_at big e) second
      ∙ described big e qs (length files) (c.1 ++ []) [] (map (file_read strings line_strings l files) files) (file_parts_fit columns (file_form files) small_file small_source) few_files
      (many-again (IsReadable files (file_form files)) (file_text w strings line_strings columns) (file_read strings line_strings l files) (entry_at big e qs untold) big l
      (λ f xs rest is told_as. file-again big strings line_strings l e files (file_form files) f xs rest is told_as) files c.1 [] readable c.3))

-- what holds of a program's directories and files once their forms were looked at
pub record HaveTables (version : ℕ) (directories : List LineString) (files : List FileEntry) : Type 0 where
  pub names : All IsName directories
  pub listed : version ≤ 4 → All IsFull (drop 1 directories)
  pub told : All (IsFile version) files
  pub agree : IsTrue (forms_agree (nat_le version 4) directories files)
  pub old : nat_le version 4 ≡ true → list_any is_new_file files ≡ false
  pub few_directories : length directories < 2 ^ 64
  pub few_files : length files < 2 ^ 64

plain_directories : (ds : List LineString) → All IsName ds → All IsFull ds → IsTrue (list_all (has_form DW_FORM_string.0) ds) → All IsPlain ds
plain_directories [] names full agree = All-nil IsPlain
plain_directories (d ∷ ds) names full agree =
    let p = and_parts (has_form DW_FORM_string.0 d) (list_all (has_form DW_FORM_string.0) ds) agree in
    All-cons IsPlain d ds (record { name = All-head IsName d ds names; form = eq_of _ _ p.0; full = All-head IsFull d ds full })
    (plain_directories ds (All-tail IsName d ds names) (All-tail IsFull d ds full) p.1)

names_after : (ds : List LineString) → All IsName ds → All IsName (drop 1 ds)
names_after [] all = All-nil IsName
names_after (d ∷ ds) all = All-tail IsName d ds all

new_directories : (form : ℕ) (ds : List LineString) → All IsName ds → IsTrue (list_all (has_form form) ds) → All (HasForm form) ds
new_directories form [] names agree = All-nil (HasForm form)
new_directories form (d ∷ ds) names agree =
    let p = and_parts (has_form form d) (list_all (has_form form) ds) agree in
    All-cons (HasForm form) d ds (record { name = All-head IsName d ds names; has = eq_of _ _ p.0 }) (new_directories form ds (All-tail IsName d ds names) p.1)

-- up to version 4 no file has a checksum or a text
pub new_files : (fs : List FileEntry) (b : Bool) → b ≡ true → (b && list_any is_new_file fs) ≡ false → list_any is_new_file fs ≡ false
new_files fs true is h = h
new_files fs false is h = absurd (true≢false (sym is))

either_false : (a b : Bool) → (a || b) ≡ false → (a ≡ false) × (b ≡ false)
either_false true b e = absurd (true≢false e)
either_false false b e = (refl, e)

no_checksum : (fs : List FileEntry) → list_any is_new_file fs ≡ false → has_md5 fs ≡ false
no_checksum [] e = refl
no_checksum (f ∷ fs) e =
    let p = either_false (is_new_file f) (list_any is_new_file fs) e in
    let q = either_false (is_some f.info.md5) (is_some f.info.source) p.0 in
    ap (λ b. b || has_md5 fs) q.0 ∙ no_checksum fs p.1

none_of : {X : Type 0} (o : Option X) → is_some o ≡ false → o ≡ None
none_of None e = refl
none_of (Some x) e = absurd (true≢false e)

no_text : (fs : List FileEntry) → list_any is_new_file fs ≡ false → first_source fs ≡ None
no_text [] e = refl
no_text (f ∷ fs) e =
    let p = either_false (is_new_file f) (list_any is_new_file fs) e in
    let q = either_false (is_some f.info.md5) (is_some f.info.source) p.0 in
    ap (λ o. elim o [ None ↦ first_source fs | Some s ↦ Some (form_of s) ]) (none_of f.info.source q.1) ∙ no_text fs p.1

old_files : (version : ℕ) (files fs : List FileEntry) → version ≤ 4 → has_md5 files ≡ false → first_source files ≡ None → All (IsFile version) fs → IsTrue (list_all (λ f. has_form DW_FORM_string.0 f.name) fs) → All (IsOldFile files) fs
old_files version files [] old no_md5 no_source kept agree = All-nil (IsOldFile files)
old_files version files (f ∷ fs) old no_md5 no_source kept agree =
    let p = and_parts (has_form DW_FORM_string.0 f.name) (list_all (λ f. has_form DW_FORM_string.0 f.name) fs) agree in
    let is = All-head (IsFile version) f fs kept in
    All-cons (IsOldFile files) f fs (
    record {
      plain = record { name = is.name; form = eq_of _ _ p.0; full = is.full old };
      no_md5 = no_md5;
      no_source = no_source;
      directory = is.directory;
      timestamp = is.timestamp;
      size = is.size;
    }
    ) (old_files version files fs old no_md5 no_source (All-tail (IsFile version) f fs kept) p.1)

zero_of : (n : ℕ) → not (n == 0) ≡ false → n ≡ 0
zero_of n h = grind (arith, nat_tests)

readable_files : (version form : ℕ) (files fs : List FileEntry) → All (IsFile version) fs → IsTrue (list_all (λ f. has_form form f.name) fs) →
    ((k : ℕ) → first_source files ≡ Some k → IsTrue (list_all (λ f. has_form k (source_of f)) fs)) →
    (has_timestamp files ≡ false → has_timestamp fs ≡ false) → (has_size files ≡ false → has_size fs ≡ false) → All (IsReadable files form) fs
readable_files version form files [] kept agree sources times sizes = All-nil (IsReadable files form)
readable_files version form files (f ∷ fs) kept agree sources times sizes =
    let p = and_parts (has_form form f.name) (list_all (λ f. has_form form f.name) fs) agree in
    let is = All-head (IsFile version) f fs kept in
    let source_parts = λ (k : ℕ) (e : first_source files ≡ Some k). and_parts (has_form k (source_of f)) (list_all (λ f. has_form k (source_of f)) fs) (sources k e) in
    let time_parts = λ (e : has_timestamp files ≡ false). either_false (not (f.info.timestamp == 0)) (has_timestamp fs) (times e) in
    let size_parts = λ (e : has_size files ≡ false). either_false (not (f.info.size == 0)) (has_size fs) (sizes e) in
    All-cons (IsReadable files form) f fs (
    record {
      name = is.name;
      has = eq_of _ _ p.0;
      source = is.source;
      source_has = λ k e. eq_of _ _ (source_parts k e).0;
      directory = is.directory;
      timestamp = is.timestamp;
      no_timestamp = λ e. zero_of f.info.timestamp (time_parts e).0;
      size = is.size;
      no_size = λ e. zero_of f.info.size (size_parts e).0;
      md5 = is.md5;
    }
    ) (readable_files version form files fs (All-tail (IsFile version) f fs kept) p.1 (λ k e. (source_parts k e).1) (λ e. (time_parts e).1) (λ e. (size_parts e).1))

form_small : (n : LineString) → form_of n < 2 ^ 64
form_small (String s) = omega arith
form_small (StringRef i) = omega arith
form_small (LineStringRef i) = omega arith

directory_form_small : (ds : List LineString) → directory_form ds < 2 ^ 64
directory_form_small [] = omega arith
directory_form_small (d ∷ ds) = form_small d

file_form_small : (fs : List FileEntry) → file_form fs < 2 ^ 64
file_form_small [] = omega arith
file_form_small (f ∷ fs) = form_small f.name

source_form_small : (fs : List FileEntry) (k : ℕ) → first_source fs ≡ Some k → k < 2 ^ 64
source_form_small [] k e = absurd (none-some _ e)
source_form_small (f ∷ fs) k e = by f.info.source (source_form_small fs k) e
  where
    by : (o : Option LineString) → (first_source fs ≡ Some k → k < 2 ^ 64) → (elim o [ None ↦ first_source fs | Some s ↦ Some (form_of s) ]) ≡ Some k → k < 2 ^ 64
    by None rest h = rest h
    by (Some s) rest h =
        let same : form_of s ≡ k = cc in
        subst (λ j. j < 2 ^ 64) same (form_small s)

-- a reader finds what was built
pub tables-again : (big : Bool) (e : Encoding) (strings line_strings : List (List ℕ)) (l : Layout) (directories : List LineString) (files : List FileEntry) (bytes : List ℕ) → HaveTables e.version directories files →
    tables_text (word_of e.format) strings line_strings (nat_le e.version 4) directories files big l ≡ Some bytes →
    tables_at big e bytes ≡ Some (tables_read strings line_strings l e.version directories files, [])
unfolding tables_at
tables-again big e strings line_strings l directories files bytes have t = by (nat_le e.version 4) refl have.agree t
  where
    by : (b : Bool) → nat_le e.version 4 ≡ b → IsTrue (forms_agree b directories files) → tables_text (word_of e.format) strings line_strings b directories files big l ≡ Some bytes →
        (if b then old_tables_at bytes else new_tables_at big e bytes)
        ≡ Some (record { directories = map (directory_read strings line_strings l) (if b then drop 1 directories else directories); files = map (file_read strings line_strings l files) files }, [])
    by true version agree t =
        let old : e.version ≤ 4 = le_of e.version 4 version in
        let p = and_parts (list_all (has_form DW_FORM_string.0) (drop 1 directories)) (list_all (λ f. has_form DW_FORM_string.0 f.name) files) agree in
        let none = have.old version in
        old-tables-again big e strings line_strings l (drop 1 directories) files bytes
        (plain_directories (drop 1 directories) (names_after directories have.names) (have.listed old) p.0)
        (old_files e.version files files old (no_checksum files none) (no_text files none) have.told p.1) t
    by false version agree t =
        let a = list_all (has_form (directory_form directories)) directories in
        let b = list_all (λ f. has_form (file_form files) f.name) files in
        let p = and_parts (a && b) (sources_agree files) agree in
        let q = and_parts a b p.0 in
        let sources = λ (k : ℕ) (e : first_source files ≡ Some k). subst (λ o. IsTrue (elim o [ None ↦ true | Some form ↦ list_all (λ f. has_form form (source_of f)) files ])) e p.1 in
        new-tables-again big e strings line_strings l directories files bytes (new_directories (directory_form directories) directories have.names q.0)
        (readable_files e.version (file_form files) files files have.told q.1 sources (λ e. e) (λ e. e)) have.few_directories have.few_files
        (directory_form_small directories) (file_form_small files) (source_form_small files) t
