-- A program that was begun has no sequence yet, and each file that has a number is in it.
use Rattle.std.proofs.Common.{◌≡◌, ◌∙◌, sym, ap, subst, inl, inr, ⊎_elim, ◌⊎◌, ℕ, zero, suc, ◌+◌, ◌<◌, ◌≤◌, ◌==◌, nat_le, Bool, true, false, List, [], ◌∷◌, ◌++◌, length, Option, Some, None, Result, Ok, Err, refl, arith, cond, length-append}
use Rattle.std.proofs.lemmas.List.Sums.{prefix_len-le-length}
use Rattle.std.specs.Prelude.{◌&&◌, not, if◌then◌else◌, slice_get, unwrap_or}
use Rattle.std.specs.Option.{option_map}
use Rattle.std.specs.List.{list_any, position_or_len}
use Rattle.std.specs.Set.{swap_key}
use Rattle.std.proofs.lemmas.Bool.Decides.{nat_tests}
use Rattle.dw_base.specs.declared.common.Encoding.{Encoding}
use Rattle.dw_base.specs.declared.common.LineEncoding.{LineEncoding}
use Rattle.dw_base.specs.declared.ids.DirectoryId.{DirectoryId}
use Rattle.dw_base.specs.declared.ids.FileId.{FileId}
use Rattle.dw_line.specs.FileEqual.{file_eq}
use Rattle.dw_line.specs.LinePrograms.{LineProgramValue, changed, files_of, file_count_of}
use Rattle.dw_line.specs.Names.{no_info}
use Rattle.dw_line.specs.ProgramTexts.{ProgramValue, with_directory, entry_of, file_index, with_file}
use Rattle.dw_line.specs.declared.file.FileEntry.{FileEntry}
use Rattle.dw_line.specs.declared.line_string.FileInfo.{FileInfo}
use Rattle.dw_line.specs.declared.line_string.LineString.{LineString}
use Rattle.dw_line.specs.declared.row.LineRow.{LineRow}
use Rattle.dw_read.specs.Reading.{Reading, left}
use Rattle.dw_read_lines.specs.LineEntries.{Entry}
use Rattle.dw_read_lines.specs.declared.program.IncompleteLineProgram.{IncompleteLineProgram}
use Rattle.dw_sources.specs.declared.convert_error.ConvertError.{ConvertError}
use Rattle.dw_sources.specs.declared.convert_error.ConvertError.TheVariants.{InvalidFileIndex}
use Rattle.dw_convert_lines.specs.EntryImages.{Converting, directory_image, file_image, number_image, directory_among, info_image, file_added}
use Rattle.dw_convert_lines.specs.EntryNames.{Texts, Tables, listed_image}
use Rattle.dw_convert_lines.specs.HeaderImages.{first_ids, HeaderOutcome}
use Rattle.dw_convert_lines.specs.ReadPrograms.{ProgramOutcome}
use Rattle.dw_convert_lines.specs.Results.{◌=>◌, After, Then}
use Rattle.dw_convert_lines.specs.RowImages.{found_file, file_among, AreFiles}
use Rattle.dw_convert_lines.specs.RowOutcomes.{has_any, is_fresh, IsFresh, IsBegun}
use Rattle.dw_convert_lines.specs.Walks.{images}
use Rattle.dw_convert_lines.proofs.Indices.{found}

-- the value before a step that gave a value
parts : {A B : Type 0} (r : Result A ConvertError) (f : A → Result B ConvertError) (t : B) → (r => f) ≡ Ok t → (v : A) × (r ≡ Ok v) × (f v ≡ Ok t)
parts (Ok v) f t e = (v, refl, e)
parts (Err x) f t e = absurd (cc)

then_ok : {A B : Type 0} (first : Result A ConvertError → Type 0) (rest : A → Result B ConvertError → Type 0) (x : B) → Then first rest (Ok x) → (v : A) × first (Ok v) × rest v (Ok x)
then_ok {A} {B} first rest x t = by t.0 t.1 t.2 where
  by : (r : Result A ConvertError) → first r → After r rest (Ok x) → (v : A) × first (Ok v) × rest v (Ok x)
  by (Ok v) h k = (v, h, k)
  by (Err e) h k = absurd (cc)

abbrev value : {A : Type 0} → A → Result A ConvertError
value x = Ok x

same_value : {A : Type 0} (x y : A) → value x ≡ value y → x ≡ y
same_value x y h = cc

-- what every entry keeps, all of them keep
kept_by_all : {A S : Type 0} (image : A → S → Result S ConvertError) (P : S → Type 0) → ((x : A) (s t : S) → image x s ≡ Ok t → P s → P t) → (xs : List A) (s t : S) → images image xs s ≡ Ok t → P s → P t
kept_by_all image P k [] s t e p = let q : s ≡ t = cc in subst P q p
kept_by_all image P k (x ∷ xs) s t e p =
    let a = parts (image x s) (λ v. images image xs v) t e in
    kept_by_all image P k xs a.0 t a.2 (k x s a.0 a.1 p)

-- a change that leaves the sequences
fresh_still : (f : ProgramValue → ProgramValue) (v : LineProgramValue) → ((p : ProgramValue) → ((f p).in_sequence ≡ p.in_sequence) × ((f p).rows ≡ p.rows)) → IsFresh v → IsFresh (changed f v)
fresh_still f v k h = record {
  program = f h.program;
  is = ap (option_map f) h.is;
  closed = (k h.program).0 ∙ h.closed;
  rows = (k h.program).1 ∙ h.rows;
}

-- the last of several ids, or one before it
last_or : (ids : List FileId) (n : ℕ) (id f : FileId) → slice_get (ids ++ id ∷ []) n ≡ Some f → (slice_get ids n ≡ Some f) ⊎ (f ≡ id)
last_or [] zero id f e = inr (cc)
last_or [] (suc n) id f e = absurd (cc)
last_or (x ∷ xs) zero id f e = inl e
last_or (x ∷ xs) (suc n) id f e = last_or xs n id f e

there : (b : Bool) (o : Option FileId) (f : FileId) → (if b then Err InvalidFileIndex else found_file o) ≡ Ok f → (b ≡ false) × (o ≡ Some f)
there true o f e = absurd (cc)
there false None f e = absurd (cc)
there false (Some g) f e = (refl, cc)

among : (b : Bool) (o : Option FileId) (f : FileId) → b ≡ false → o ≡ Some f → (if b then Err InvalidFileIndex else found_file o) ≡ Ok f
among b o f h k = rw (h, k) refl

files_more : (version : ℕ) (ids : List FileId) (few many : ℕ) (id : FileId) → AreFiles version ids few → few ≤ many → id.0 < many → AreFiles version (ids ++ id ∷ []) many
files_more version ids few many id a le here = λ n f e.
    let t : Bool = nat_le version 4 && (n == 0) in
    let p = there t (slice_get (ids ++ id ∷ []) n) f e in
    ⊎_elim
    (λ (k : slice_get ids n ≡ Some f). let l : f.0 < few = a n f (among t (slice_get ids n) f p.0 k) in let r : f.0 < many = omega arith in r)
    (λ (k : f ≡ id). subst (λ (g : FileId). g.0 < many) (sym k) here)
    (last_or ids n id f p.1)

first_none : (version count : ℕ) → AreFiles version (first_ids (nat_le 5 version)) count
first_none version count = λ n f e. by (nat_le 5 version) refl n f e where
  by : (b : Bool) → nat_le 5 version ≡ b → (n : ℕ) (f : FileId) → file_among version (first_ids b) n ≡ Ok f → f.0 < count
  by true h n f e = let p = there (nat_le version 4 && (n == 0)) None f e in absurd (cc)
  by false h zero f e =
      let old : nat_le version 4 ≡ true = grind (arith, nat_tests) in
      let p = there (nat_le version 4 && true) (Some (record { 0 = 0 })) f e in
      let q : (nat_le version 4 && true) ≡ true = ap (λ (b : Bool). b && true) old in
      absurd (cc)
  by false h (suc n) f e = let p = there (nat_le version 4 && (suc n == 0)) None f e in absurd (cc)

length_swapped : (p : FileEntry → Bool) (xs : List FileEntry) (x : FileEntry) → length (swap_key p xs x) ≡ length xs
length_swapped p [] x = refl
length_swapped p (y ∷ ys) x = by (p y) (length_swapped p ys x) where
  by : (b : Bool) → length (swap_key p ys x) ≡ length ys → length (cond b (x ∷ ys) (y ∷ swap_key p ys x)) ≡ suc (length ys)
  by true e = refl
  by false e = ap suc e

kept_or_more : (p : FileEntry → Bool) (xs : List FileEntry) (x : FileEntry) (b : Bool) → list_any p xs ≡ b
    → (length xs ≤ length (if b then swap_key p xs x else xs ++ x ∷ [])) × (position_or_len p xs < length (if b then swap_key p xs x else xs ++ x ∷ []))
kept_or_more p xs x true h = let e = length_swapped p xs x in let l : position_or_len p xs < length xs = found p xs h in (omega arith, omega arith)
kept_or_more p xs x false h =
    let e : length (xs ++ x ∷ []) ≡ length xs + 1 = length-append xs (x ∷ []) in
    let l : position_or_len p xs ≤ length xs = prefix_len-le-length (λ y. not (p y)) xs in
    (omega arith, omega arith)

record Begins (version : ℕ) (s : Converting FileId) : Type 0 where
  fresh : IsFresh s.program
  files : AreFiles version s.ids (file_count_of s.program.program)

no_row : (xs : List LineRow) → has_any xs ≡ false → xs ≡ []
no_row [] h = refl
no_row (x ∷ xs) h = absurd (cc)

both : (a b : Bool) → (not a && not b) ≡ true → (a ≡ false) × (b ≡ false)
both false false h = (refl, refl)
both false true h = absurd (cc)
both true b h = absurd (cc)

fresh_by : (v : LineProgramValue) (o : Option ProgramValue) → v.program ≡ o → is_fresh o ≡ true → IsFresh v
fresh_by v None e h = absurd (cc)
fresh_by v (Some p) e h =
    let k = both p.in_sequence (has_any p.rows) h in
    record { program = p; is = e; closed = k.0; rows = no_row p.rows k.1 }

pub fresh_from : (v : LineProgramValue) → is_fresh v.program ≡ true → IsFresh v
fresh_from v h = fresh_by v v.program refl h

fresh_test : (v : LineProgramValue) → IsFresh v → is_fresh v.program ≡ true
fresh_test v f = ap is_fresh f.is ∙ ap (λ (b : Bool). not b && not (has_any f.program.rows)) f.closed ∙ ap (λ (xs : List LineRow). not (has_any xs)) f.rows

is_begun : (version : ℕ) (s : Converting FileId) → Begins version s → IsBegun version s.program s.ids
is_begun version s b = record { fresh = fresh_test s.program b.fresh; files = b.files }

begun_with : (version : ℕ) (texts : Texts) (big : Bool) (s : Converting FileId) (name : LineString) (directory : DirectoryId) (info : FileInfo × Tables) → Begins version s → Begins version (file_added texts big s name directory info)
begun_with version texts big s name directory info b =
    let p : ProgramValue = b.fresh.program in
    let e : FileEntry = entry_of name directory info.0 in
    let k = kept_or_more (file_eq e) p.files e (list_any (file_eq e) p.files) refl in
    let new : LineProgramValue = changed (with_file name directory (Some info.0)) s.program in
    let count : file_count_of s.program.program ≡ length p.files = ap file_count_of b.fresh.is in
    let more : file_count_of new.program ≡ length (with_file name directory (Some info.0) p).files = ap (λ (o : Option ProgramValue). file_count_of (option_map (with_file name directory (Some info.0)) o)) b.fresh.is in
    let index : file_index (files_of s.program.program) (entry_of name directory no_info) ≡ file_index p.files (entry_of name directory no_info) = ap (λ (o : Option ProgramValue). file_index (files_of o) (entry_of name directory no_info)) b.fresh.is in
    let few : file_count_of s.program.program ≤ file_count_of new.program = omega (arith, k.0) in
    let here : file_index (files_of s.program.program) (entry_of name directory no_info) < file_count_of new.program = omega (arith, k.1) in
    record {
      fresh = fresh_still (with_file name directory (Some info.0)) s.program (λ q. (refl, refl)) b.fresh;
      files = files_more version s.ids (file_count_of s.program.program) (file_count_of new.program) (record { 0 = file_index (files_of s.program.program) (entry_of name directory no_info) }) b.files few here;
    }

begun_by_file : (version : ℕ) (texts : Texts) (big refs : Bool) (directories : List DirectoryId) (x : Entry) (s t : Converting FileId) → file_image texts big refs directories x s ≡ Ok t → Begins version s → Begins version t
begun_by_file version texts big refs directories x s t e b =
    let a = parts (listed_image refs texts s.tables x.path) _ t e in
    let c = parts (number_image x.directory) _ t a.2 in
    let d = parts (directory_among directories c.0) _ t c.2 in
    let f = parts (info_image texts big refs a.0.1 x) _ t d.2 in
    let q : file_added texts big s a.0.0 d.0 f.0 ≡ t = cc in
    subst (Begins version) q (begun_with version texts big s a.0.0 d.0 f.0 b)

fresh_by_directory : (refs : Bool) (texts : Texts) (x : Entry) (s t : Converting DirectoryId) → directory_image refs texts x s ≡ Ok t → IsFresh s.program → IsFresh t.program
fresh_by_directory refs texts x s t e f =
    let a = parts (listed_image refs texts s.tables x.path) _ t e in
    let q = ap program_in a.2 in
    subst IsFresh (some_same q) (fresh_still (with_directory a.0.0) s.program (λ p. (refl, refl)) f) where
      program_in : Result (Converting DirectoryId) ConvertError → Option LineProgramValue
      program_in (Ok c) = Some c.program
      program_in (Err e) = None

      some_same : {u v : LineProgramValue} → Some u ≡ Some v → u ≡ v
      some_same {u} {v} h = cc

header_begun : (texts : Texts) (read : Encoding) (big order : Bool) (bytes : List ℕ) (e : Encoding) (parameters : LineEncoding) (t : Tables) (x : Converting FileId) → HeaderOutcome texts read big order bytes e parameters t (Ok x) → Begins read.version x
header_begun texts read big order bytes e parameters t x o =
    let a = then_ok _ _ x o in
    let w = then_ok _ _ x a.2 in
    let d = then_ok _ _ x w.2 in
    let l = then_ok _ _ x d.2 in
    let f = then_ok _ _ x l.2 in
    let fresh : IsFresh d.0.0.program = kept_by_all (directory_image (nat_le 5 e.version) texts) (λ (s : Converting DirectoryId). IsFresh s.program) (fresh_by_directory (nat_le 5 e.version) texts) d.1.walked.entries _ d.0.0 d.1.walked.become (record { program = _; is = refl; closed = refl; rows = refl }) in
    let all : Begins read.version f.0.0 = kept_by_all (file_image texts order (nat_le 5 e.version) d.0.0.ids) (Begins read.version) (begun_by_file read.version texts order (nat_le 5 e.version) d.0.0.ids) f.1.walked.entries _ f.0.0 f.1.walked.become (record { fresh = fresh; files = first_none read.version (file_count_of d.0.0.program.program) }) in
    let q : f.0.0 ≡ x = sym (same_value x f.0.0 f.2) in
    subst (Begins read.version) q all

module _ (R E : Type 0) (reading : R → Reading) (texts : Texts) (p : IncompleteLineProgram R E) (encoding : Option Encoding) (given : Option LineEncoding) (t : Tables) where
  pub program_begun : (x : Converting FileId) → ProgramOutcome reading texts p encoding given t (Ok x) → IsBegun p.header.encoding.encoding.version x.program x.ids
  program_begun x o =
      let e = then_ok _ _ x o in
      is_begun p.header.encoding.encoding.version x (header_begun texts p.header.encoding.encoding (reading p.header.tables).is_big (reading p.header.parameters.operand_counts).is_big (left (reading p.header.tables)) (unwrap_or encoding p.header.encoding.encoding) e.0 t x e.2)
