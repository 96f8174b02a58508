-- What the header of a line program becomes is one thing.
use Rattle.std.proofs.Common.{◌≡◌, ◌∙◌, sym, ap, subst, ℕ, ◌-◌, List, [], Bool, true, false, Option, Some, None, Result, Ok, Err, refl}
use Rattle.std.specs.Prelude.{nat_le}
use Rattle.std.specs.Option.{option_map}
use Rattle.dw_base.specs.declared.common.Encoding.{Encoding}
use Rattle.dw_base.specs.declared.common.LineEncoding.{LineEncoding}
use Rattle.dw_base.specs.declared.ids.DirectoryId.{DirectoryId}
use Rattle.dw_base.specs.declared.ids.FileId.{FileId}
use Rattle.dw_line.specs.LinePrograms.{LineProgramValue, is_in_sequence}
use Rattle.dw_line.specs.ProgramTexts.{ProgramValue, with_directory, with_file}
use Rattle.dw_line.specs.declared.line_string.FileInfo.{FileInfo}
use Rattle.dw_line.specs.declared.line_string.LineString.{LineString}
use Rattle.dw_line.specs.declared.line_string.LineString.TheVariants.{String}
use Rattle.dw_read.specs.declared.error.ReadError.{ReadError}
use Rattle.dw_read_lines.specs.LineEntries.{Entry, Layout, Directories, Files, Described, next_read}
use Rattle.dw_sources.specs.declared.convert_error.ConvertError.{ConvertError}
use Rattle.dw_convert_lines.specs.EntryImages.{Converting, directory_image, directory_added, directory_among, file_image, file_added, info_image, number_image}
use Rattle.dw_convert_lines.specs.EntryNames.{Texts, Tables, listed_image}
use Rattle.dw_convert_lines.specs.HeaderImages.{EntryList, BeginOutcome, Working, first_image, working_image, first_directories, first_files, FilesOutcome, DirectoriesOutcome, HeaderOutcome}
use Rattle.dw_convert_lines.specs.Results.{◌=>◌, of_read, Then}
use Rattle.dw_convert_lines.specs.Walks.{WalkOutcome}
use Rattle.dw_dwarf_laws.proofs.Results.{same_ok, no_error, then_once, then_alike, then_holds, made_once}
use Rattle.dw_dwarf_laws.proofs.Walks.{AreNear, near_same, near_next, step_parts, walk_once, walk_keeps}

-- two lists that are read the same
pub record AreAlike (l m : EntryList) : Type 0 where
  pub layout : l.layout ≡ m.layout
  pub bytes : l.bytes ≡ m.bytes
  pub near : AreNear l.layout l.count m.count

abbrev described : List (ℕ × ℕ) → ℕ → List ℕ → Result ((List (ℕ × ℕ) × ℕ) × List ℕ) ReadError
described parts count rest = Ok ((parts, count), rest)

same_described : (p q : List (ℕ × ℕ)) (m n : ℕ) (r s : List ℕ) → described p m r ≡ described q n s → ◌≡◌ {A = (List (ℕ × ℕ) × ℕ) × List ℕ} ((p, m), r) ((q, n), s)
same_described p q m n r s e = cc

begin_once : (b : Bool) (old : Layout) → ((m n : ℕ) → AreNear old m n) → (big : Bool) (e : Encoding) (bytes : List ℕ) (l m : EntryList) → BeginOutcome b old big e bytes (Ok l) → BeginOutcome b old big e bytes (Ok m) → AreAlike l m
begin_once false old free big e bytes l m h k = record { layout = h.0 ∙ sym k.0; bytes = h.1 ∙ sym k.1; near = subst (λ x. AreNear x l.count m.count) (sym h.0) (free l.count m.count) }
begin_once true old free big e bytes l m h k =
    let d = same_described h.0 k.0 l.count m.count l.bytes m.bytes (sym h.2 ∙ k.2) in
    record {
      layout = h.1 ∙ ap (λ (z : (List (ℕ × ℕ) × ℕ) × List ℕ). Described e z.0.0) d ∙ sym k.1;
      bytes = ap (λ (z : (List (ℕ × ℕ) × ℕ) × List ℕ). z.1) d;
      near = subst (λ x. AreNear x l.count m.count) (sym h.1) (ap (λ (z : (List (ℕ × ℕ) × ℕ) × List ℕ). z.0.1) d);
    }

-- what is left of a list behind its working directory
pub record AreWorkingAlike (layout : Layout) (w v : Working) : Type 0 where
  pub name : w.name ≡ v.name
  pub tables : w.tables ≡ v.tables
  pub bytes : w.bytes ≡ v.bytes
  pub near : AreNear layout w.count v.count

module _ (layout : Layout) (m n : ℕ) (near : AreNear layout m n) where
  made_alike : (a b : ℕ) → AreNear layout a b → (name : LineString) (tables : Tables) (bytes : List ℕ) (w v : Working)
      → ◌≡◌ {A = Result Working ConvertError} (Ok w) (Ok (record { name = name; tables = tables; count = a; bytes = bytes })) → ◌≡◌ {A = Result Working ConvertError} (Ok v) (Ok (record { name = name; tables = tables; count = b; bytes = bytes })) → AreWorkingAlike layout w v
  made_alike a b close name tables bytes w v h k =
      let p : w ≡ record { name = name; tables = tables; count = a; bytes = bytes } = same_ok {X = ConvertError} (Ok w) w (record { name = name; tables = tables; count = a; bytes = bytes }) refl h in
      let q : v ≡ record { name = name; tables = tables; count = b; bytes = bytes } = same_ok {X = ConvertError} (Ok v) v (record { name = name; tables = tables; count = b; bytes = bytes }) refl k in
      record {
        name = ap (λ (z : Working). z.name) p ∙ sym (ap (λ (z : Working). z.name) q);
        tables = ap (λ (z : Working). z.tables) p ∙ sym (ap (λ (z : Working). z.tables) q);
        bytes = ap (λ (z : Working). z.bytes) p ∙ sym (ap (λ (z : Working). z.bytes) q);
        near = subst (λ c. AreNear layout c v.count) (sym (ap (λ (z : Working). z.count) p)) (subst (λ c. AreNear layout a c) (sym (ap (λ (z : Working). z.count) q)) close);
      }

  module _ (refs : Bool) (texts : Texts) (t : Tables) where
    abbrev worked : ℕ → Result (Option Entry × List ℕ) ReadError → Result Working ConvertError
    worked count r = of_read r => λ x. first_image refs texts t x.0 => λ s. Ok (record { name = s.0; tables = s.1; count = count - 1; bytes = x.1 })

    named_alike : (r : Result (LineString × Tables) ConvertError) (bytes : List ℕ) (w v : Working)
        → Ok w ≡ (r => λ s. Ok (record { name = s.0; tables = s.1; count = m - 1; bytes = bytes })) → Ok v ≡ (r => λ s. Ok (record { name = s.0; tables = s.1; count = n - 1; bytes = bytes })) → AreWorkingAlike layout w v
    named_alike (Ok s) bytes w v h k = made_alike (m - 1) (n - 1) (near_next layout m n near) s.0 s.1 bytes w v h k
    named_alike (Err u) bytes w v h k = absurd (no_error w u h)

    worked_alike : (r : Result (Option Entry × List ℕ) ReadError) (w v : Working) → Ok w ≡ worked m r → Ok v ≡ worked n r → AreWorkingAlike layout w v
    worked_alike (Ok x) w v h k = named_alike (first_image refs texts t x.0) x.1 w v h k
    worked_alike (Err u) w v h k = absurd (no_error w _ h)

    working_once : (b big : Bool) (bytes : List ℕ) (w v : Working) → Ok w ≡ working_image b refs texts (next_read big layout) m bytes t → Ok v ≡ working_image b refs texts (next_read big layout) n bytes t → AreWorkingAlike layout w v
    working_once false big bytes w v h k = made_alike m n near (String []) t bytes w v h k
    working_once true big bytes w v h k = worked_alike (next_read big layout m bytes) w v h (k ∙ ap (worked n) (sym (near_same big layout m n near bytes)))

module _ (texts : Texts) (read : Encoding) (big order : Bool) (bytes : List ℕ) (e : Encoding) (parameters : LineEncoding) where
  abbrev walk_files : Converting DirectoryId × List ℕ → EntryList → Result (Converting FileId × List ℕ) ConvertError → Type 0
  walk_files d f = WalkOutcome (next_read big f.layout) (file_image texts order (nat_le 5 e.version) d.0.ids) f.count f.bytes (first_files (nat_le 5 read.version) d.0)

  files_walked : (d : Converting DirectoryId × List ℕ) (f g : EntryList) → AreAlike f g → (x y : Converting FileId × List ℕ) → walk_files d f (Ok x) → walk_files d g (Ok y) → x ≡ y
  files_walked d f g a x y h k =
      let moved : walk_files d (record { layout = f.layout; count = g.count; bytes = f.bytes }) (Ok y) = subst (λ z. walk_files d z (Ok y)) (λ i. record { layout = sym a.layout i; count = g.count; bytes = sym a.bytes i }) k in
      walk_once (next_read big f.layout) (AreNear f.layout) (near_same big f.layout) (near_next f.layout) (file_image texts order (nat_le 5 e.version) d.0.ids) f.count g.count a.near f.bytes (first_files (nat_le 5 read.version) d.0) x y h moved

  files_once : (d : Converting DirectoryId × List ℕ) (x y : Converting FileId) → FilesOutcome texts read big order bytes e parameters d (Ok x) → FilesOutcome texts read big order bytes e parameters d (Ok y) → x ≡ y
  files_once d x y h k =
      then_alike AreAlike _ _ (λ a b. a ≡ b) (λ f g a x y p q. made_once (λ (z : Converting FileId × List ℕ). z.0) (walk_files d f) (walk_files d g) (files_walked d f g a) x y p q)
      (BeginOutcome (nat_le 5 read.version) Files big read d.1) (BeginOutcome (nat_le 5 read.version) Files big read d.1) (begin_once (nat_le 5 read.version) Files (λ m n. tt) big read d.1) x y h k

  abbrev walk_directories : Layout → Working → Result (Converting DirectoryId × List ℕ) ConvertError → Type 0
  walk_directories layout w = WalkOutcome (next_read big layout) (directory_image (nat_le 5 e.version) texts) w.count w.bytes (first_directories e parameters w)

  directories_walked : (layout : Layout) (w v : Working) → AreWorkingAlike layout w v → (x y : Converting DirectoryId × List ℕ) → walk_directories layout w (Ok x) → walk_directories layout v (Ok y) → x ≡ y
  directories_walked layout w v a x y h k =
      let moved : walk_directories layout (record { name = w.name; tables = w.tables; count = v.count; bytes = w.bytes }) (Ok y) =
      subst (λ z. walk_directories layout z (Ok y)) (λ i. record { name = sym a.name i; tables = sym a.tables i; count = v.count; bytes = sym a.bytes i }) k in
      walk_once (next_read big layout) (AreNear layout) (near_same big layout) (near_next layout) (directory_image (nat_le 5 e.version) texts) w.count v.count a.near w.bytes (first_directories e parameters w) x y h moved

  directories_once : (l m : EntryList) → l.layout ≡ m.layout → (w v : Working) → AreWorkingAlike l.layout w v → (x y : Converting FileId) → DirectoriesOutcome texts read big order bytes e parameters l w (Ok x) → DirectoriesOutcome texts read big order bytes e parameters m v (Ok y) → x ≡ y
  directories_once l m s w v a x y h k =
      then_once (FilesOutcome texts read big order bytes e parameters) (FilesOutcome texts read big order bytes e parameters) files_once (walk_directories l.layout w) (walk_directories m.layout v)
      (λ p q f g. directories_walked l.layout w v a p q f (subst (λ z. walk_directories z v (Ok q)) (sym s) g)) x y h k

  abbrev worked_at : Tables → EntryList → Result Working ConvertError → Type 0
  worked_at t l r = r ≡ working_image (nat_le 5 read.version) (nat_le 5 e.version) texts (next_read big l.layout) l.count l.bytes t

  abbrev tables_behind : Tables → EntryList → Result (Converting FileId) ConvertError → Type 0
  tables_behind t l = Then (worked_at t l) (λ (w : Working). DirectoriesOutcome texts read big order bytes e parameters l w)

  tables_once : (t : Tables) (l m : EntryList) → AreAlike l m → (x y : Converting FileId) → tables_behind t l (Ok x) → tables_behind t m (Ok y) → x ≡ y
  tables_once t l m a x y p q =
      then_alike (AreWorkingAlike l.layout) (λ w. DirectoriesOutcome texts read big order bytes e parameters l w) (λ w. DirectoriesOutcome texts read big order bytes e parameters m w) (λ a b. a ≡ b) (directories_once l m a.layout) (worked_at t l) (worked_at t m)
      (λ w v f g. working_once l.layout l.count m.count a.near (nat_le 5 e.version) texts t (nat_le 5 read.version) big l.bytes w v f (subst (λ z. worked_at t z (Ok v)) (λ i. record { layout = sym a.layout i; count = m.count; bytes = sym a.bytes i }) g)) x y p q

  -- what the tables of a header become
  pub header_once : (t : Tables) (x y : Converting FileId) → HeaderOutcome texts read big order bytes e parameters t (Ok x) → HeaderOutcome texts read big order bytes e parameters t (Ok y) → x ≡ y
  header_once t x y h k =
      then_alike AreAlike (tables_behind t) (tables_behind t) (λ a b. a ≡ b) (tables_once t) (BeginOutcome (nat_le 5 read.version) Directories big read bytes) (BeginOutcome (nat_le 5 read.version) Directories big read bytes)
      (begin_once (nat_le 5 read.version) Directories (λ m n. tt) big read bytes) x y h k

-- No sequence of it is open.

abbrev pub IsClosed : LineProgramValue → Type 0
IsClosed v = is_in_sequence v.program ≡ false

directory_closed : (o : Option ProgramValue) (d : LineString) → is_in_sequence o ≡ false → is_in_sequence (option_map (with_directory d) o) ≡ false
directory_closed None d h = h
directory_closed (Some p) d h = h

file_closed : (o : Option ProgramValue) (f : ProgramValue → ProgramValue) → ((p : ProgramValue) → (f p).in_sequence ≡ p.in_sequence) → is_in_sequence o ≡ false → is_in_sequence (option_map f o) ≡ false
file_closed None f keeps h = h
file_closed (Some p) f keeps h = keeps p ∙ h

is_made : {A : Type 0} (a x : A) → ◌≡◌ {A = Result A ConvertError} (Ok a) (Ok x) → a ≡ x
is_made {A} a x e = same_ok {X = ConvertError} (Ok a) a x refl e

image_closed : (refs : Bool) (texts : Texts) (a : Entry) (s t : Converting DirectoryId) → IsClosed s.program → directory_image refs texts a s ≡ Ok t → IsClosed t.program
image_closed refs texts a s t h e =
    let p = step_parts (listed_image refs texts s.tables a.path) (λ name. Ok (directory_added refs texts s name)) t e in
    subst (λ (z : Converting DirectoryId). IsClosed z.program) (is_made (directory_added refs texts s p.0) t p.2) (directory_closed s.program.program p.0.0 h)

made_closed : (texts : Texts) (order : Bool) (s : Converting FileId) (name : LineString) (directory : DirectoryId) (info : FileInfo × Tables) (t : Converting FileId) → IsClosed s.program → ◌≡◌ {A = Result (Converting FileId) ConvertError} (Ok (file_added texts order s name directory info)) (Ok t) → IsClosed t.program
made_closed texts order s name directory info t h e = subst (λ (z : Converting FileId). IsClosed z.program) (is_made (file_added texts order s name directory info) t e) (file_closed s.program.program (with_file name directory (Some info.0)) (λ z. refl) h)

added_closed : (texts : Texts) (order refs : Bool) (ids : List DirectoryId) (a : Entry) (s t : Converting FileId) → IsClosed s.program → file_image texts order refs ids a s ≡ Ok t → IsClosed t.program
added_closed texts order refs ids a s t h e =
    let p = step_parts (listed_image refs texts s.tables a.path) (λ name. number_image a.directory => λ n. directory_among ids n => λ directory. info_image texts order refs name.1 a => λ info. Ok (file_added texts order s name.0 directory info)) t e in
    let q = step_parts (number_image a.directory) (λ n. directory_among ids n => λ directory. info_image texts order refs p.0.1 a => λ info. Ok (file_added texts order s p.0.0 directory info)) t p.2 in
    let r = step_parts (directory_among ids q.0) (λ directory. info_image texts order refs p.0.1 a => λ info. Ok (file_added texts order s p.0.0 directory info)) t q.2 in
    let u = step_parts (info_image texts order refs p.0.1 a) (λ info. Ok (file_added texts order s p.0.0 r.0 info)) t r.2 in
    made_closed texts order s p.0.0 r.0 u.0 t h u.2

module _ (texts : Texts) (read : Encoding) (big order : Bool) (bytes : List ℕ) (e : Encoding) (parameters : LineEncoding) where
  files_closed : (d : Converting DirectoryId × List ℕ) (x : Converting FileId) → IsClosed d.0.program → FilesOutcome texts read big order bytes e parameters d (Ok x) → IsClosed x.program
  files_closed d x closed h =
      then_holds (λ (z : Converting FileId). IsClosed z.program) _
      (BeginOutcome (nat_le 5 read.version) Files big read d.1)
      (λ f x g p. then_holds (λ (z : Converting FileId). IsClosed z.program) _ (WalkOutcome (next_read big f.layout) (file_image texts order (nat_le 5 e.version) d.0.ids) f.count f.bytes (first_files (nat_le 5 read.version) d.0))
      (λ w x k q. subst (λ (z : Converting FileId). IsClosed z.program) (sym (is_made x w.0 q)) (walk_keeps (next_read big f.layout) (file_image texts order (nat_le 5 e.version) d.0.ids) (λ (z : Converting FileId). IsClosed z.program) (added_closed texts order (nat_le 5 e.version) d.0.ids) f.count f.bytes (first_files (nat_le 5 read.version) d.0) w closed k)) x p) x h

  directories_closed : (l : EntryList) (w : Working) (x : Converting FileId) → DirectoriesOutcome texts read big order bytes e parameters l w (Ok x) → IsClosed x.program
  directories_closed l w x h =
      then_holds (λ (z : Converting FileId). IsClosed z.program) (FilesOutcome texts read big order bytes e parameters) (WalkOutcome (next_read big l.layout) (directory_image (nat_le 5 e.version) texts) w.count w.bytes (first_directories e parameters w))
      (λ d x f g. files_closed d x (walk_keeps (next_read big l.layout) (directory_image (nat_le 5 e.version) texts) (λ (z : Converting DirectoryId). IsClosed z.program) (image_closed (nat_le 5 e.version) texts) w.count w.bytes (first_directories e parameters w) d refl f) g) x h

  pub header_closed : (t : Tables) (x : Converting FileId) → HeaderOutcome texts read big order bytes e parameters t (Ok x) → IsClosed x.program
  header_closed t x h =
      then_holds (λ (z : Converting FileId). IsClosed z.program) _ (BeginOutcome (nat_le 5 read.version) Directories big read bytes)
      (λ l x f p. then_holds (λ (z : Converting FileId). IsClosed z.program) (λ w. DirectoriesOutcome texts read big order bytes e parameters l w) (λ r. r ≡ working_image (nat_le 5 read.version) (nat_le 5 e.version) texts (next_read big l.layout) l.count l.bytes t) (λ w x g q. directories_closed l w x q) x p) x h
