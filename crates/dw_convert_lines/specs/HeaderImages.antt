-- What the header of a line program becomes: a program with its directories and files (DWARF 5, 6.2.4).
use Rattle.std.specs.Prelude.{◌≡◌, ◌⊎◌, ℕ, ◌-◌, ◌<◌, nat_le, Bool, true, false, List, [], ◌∷◌, Option, Some, None, unwrap_or, Result, Ok, Err, pos, ◌≤ℤ◌, ◌<ℤ◌, ◌+ℤ◌}
use Rattle.dw_base.specs.declared.common.Encoding.{Encoding}
use Rattle.dw_base.specs.declared.common.LineEncoding.{LineEncoding}
use Rattle.dw_base.specs.declared.ids.DirectoryId.{DirectoryId}
use Rattle.dw_base.specs.declared.ids.FileId.{FileId}
use Rattle.dw_line.specs.LinePrograms.{LineProgramValue}
use Rattle.dw_line.specs.LineRows.{first_line_row}
use Rattle.dw_line.specs.declared.line_string.LineString.{LineString}
use Rattle.dw_line.specs.declared.line_string.LineString.TheVariants.{String}
use Rattle.dw_read.specs.Reading.{Read}
use Rattle.dw_read.specs.declared.error.ReadError.{ReadError}
use Rattle.dw_read_lines.specs.LineEntries.{Entry, Layout, Directories, Files, Described, description_read, next_read}
use Rattle.dw_sources.specs.ConvertErrors.{from_read}
use Rattle.dw_sources.specs.declared.convert_error.ConvertError.{ConvertError}
use Rattle.dw_sources.specs.declared.convert_error.ConvertError.TheVariants.{InvalidDirectoryIndex, UnsupportedLineProgram}
use Rattle.dw_convert_lines.specs.EntryImages.{Converting, directory_image, file_image}
use Rattle.dw_convert_lines.specs.EntryNames.{Texts, Tables, name_image}
use Rattle.dw_convert_lines.specs.FormatLists.{IsConvertible}
use Rattle.dw_convert_lines.specs.Results.{◌=>◌, of_read, Then}
use Rattle.dw_convert_lines.specs.Walks.{WalkOutcome}

-- the parameters that a program can be written with
pub record IsWritable (e : LineEncoding) : Type 0 where
  pub operations : e.maximum_operations_per_instruction ≡ 1
  pub positive : 0 < e.minimum_instruction_length
  pub base : e.line_base ≤ℤ pos 0
  pub range : pos 0 <ℤ (e.line_base +ℤ pos e.line_range)

-- parameters and an opcode base that instructions can be read by: one operation an instruction, and no zero
pub record IsReadable (e : LineEncoding) (opcode_base : ℕ) : Type 0 where
  pub operations : e.maximum_operations_per_instruction ≡ 1
  pub positive : 0 < e.minimum_instruction_length
  pub range : 0 < e.line_range
  pub opcodes : 0 < opcode_base

-- the parameters that are given, or else those that were read, which have to be writable then
abbrev pub EncodingOutcome : LineEncoding → ℕ → Option LineEncoding → Result LineEncoding ConvertError → Type 0
EncodingOutcome read opcode_base given (Ok e) = IsReadable read opcode_base × IsWritable e × (e ≡ unwrap_or given read)
EncodingOutcome read opcode_base given (Err e) = (e ≡ UnsupportedLineProgram) × (IsReadable read opcode_base → IsWritable (unwrap_or given read) → ⊥)

-- a list of directories or of files: how its entries are laid out, how many there are, and where they begin
pub record EntryList : Type 0 where
  pub layout : Layout
  -- from version 5 on; below, an empty name closes the list
  pub count : ℕ
  pub bytes : List ℕ

-- entries whose description can't be read, for this reason
pub record MissesDescription (big : Bool) (bytes : List ℕ) (x : ConvertError) : Type 0 where
  pub error : ReadError
  pub reason : description_read big bytes ≡ Err error
  pub is : x ≡ from_read error

-- entries that are described so that they can't be converted, whatever they are
pub record RefusesDescription (big : Bool) (bytes : List ℕ) (x : ConvertError) : Type 0 where
  pub parts : List (ℕ × ℕ)
  pub count : ℕ
  pub rest : List ℕ
  pub described : description_read big bytes ≡ Ok ((parts, count), rest)
  pub inconvertible : IsConvertible parts count → ⊥
  pub is : x ≡ UnsupportedLineProgram

abbrev pub FaultyDescription : Bool → List ℕ → ConvertError → Type 0
FaultyDescription big bytes x = MissesDescription big bytes x ⊎ RefusesDescription big bytes x

-- the list that begins there: from version 5 on behind its description, by which its entries can be converted
abbrev pub BeginOutcome : Bool → Layout → Bool → Encoding → List ℕ → Result EntryList ConvertError → Type 0
BeginOutcome false old big e bytes (Ok l) = (l.layout ≡ old) × (l.bytes ≡ bytes)
BeginOutcome false old big e bytes (Err x) = ⊥
BeginOutcome true old big e bytes (Ok l) =
    (parts : List (ℕ × ℕ)) × (l.layout ≡ Described e parts) × (description_read big bytes ≡ Ok ((parts, l.count), l.bytes)) × IsConvertible parts l.count
BeginOutcome true old big e bytes (Err x) = FaultyDescription big bytes x

-- the working directory, and what is left of the list behind it
pub record Working : Type 0 where
  pub name : LineString
  pub tables : Tables
  pub count : ℕ
  pub bytes : List ℕ

-- the first of the directories, which has to be there
abbrev pub first_image : Bool → Texts → Tables → Option Entry → Result (LineString × Tables) ConvertError
first_image refs texts t None = Err InvalidDirectoryIndex
first_image refs texts t (Some x) = name_image refs texts t x.path

-- up to version 4 it is that of the unit, and an empty string here
abbrev pub working_image : Bool → Bool → Texts → (ℕ → Read (Option Entry)) → ℕ → List ℕ → Tables → Result Working ConvertError
working_image false refs texts reads n bytes t = Ok (record { name = String []; tables = t; count = n; bytes = bytes })
working_image true refs texts reads n bytes t =
    of_read (reads n bytes) => λ x. first_image refs texts t x.0 => λ s. Ok (record { name = s.0; tables = s.1; count = n - 1; bytes = x.1 })

-- a program of a working directory alone
abbrev pub new_program : Encoding → LineEncoding → LineString → LineProgramValue
new_program e parameters working = record {
  program = Some (record {
    encoding = e;
    line_encoding = parameters;
    directories = working ∷ [];
    files = [];
    sequences = [];
    in_sequence = false;
    address = None;
    rows = [];
  });
  row = first_line_row parameters.default_is_stmt;
}

-- the working directory has the number 0
abbrev pub first_directories : Encoding → LineEncoding → Working → Converting DirectoryId
first_directories e parameters w = record { program = new_program e parameters w.name; ids = record { 0 = 0 } ∷ []; tables = w.tables }

-- Up to version 4 files are counted from 1, so that 0 names none.
abbrev pub first_ids : Bool → List FileId
first_ids true = []
first_ids false = record { 0 = 0 } ∷ []

abbrev pub first_files : Bool → Converting DirectoryId → Converting FileId
first_files new s = record { program = s.program; ids = first_ids new; tables = s.tables }

-- The files behind directories, which begin there, in a header of an encoding that was read and in a byte order. Checksums have the
-- order `order`, and the target has references to strings where `refs` is true.
abbrev pub FilesBehind : Texts → Encoding → Bool → Bool → Bool → Converting DirectoryId × List ℕ → Result (Converting FileId) ConvertError → Type 0
FilesBehind texts read big order refs d =
    Then (BeginOutcome (nat_le 5 read.version) Files big read d.1) (λ (f : EntryList).
    Then (WalkOutcome (next_read big f.layout) (file_image texts order refs d.0.ids) f.count f.bytes (first_files (nat_le 5 read.version) d.0)) (λ (x : Converting FileId × List ℕ) r.
    r ≡ Ok x.0))

-- The tables of a header in bytes, of an encoding that was read and in a byte order, become those of a target. Checksums have the
-- order `order`.
module _ (texts : Texts) (read : Encoding) (big order : Bool) (bytes : List ℕ) (e : Encoding) (parameters : LineEncoding) where
  abbrev pub FilesOutcome : Converting DirectoryId × List ℕ → Result (Converting FileId) ConvertError → Type 0
  FilesOutcome d = FilesBehind texts read big order (nat_le 5 e.version) d

  -- the directories of a list behind the working directory, and then the files
  abbrev pub DirectoriesOutcome : EntryList → Working → Result (Converting FileId) ConvertError → Type 0
  DirectoriesOutcome l w =
      Then (WalkOutcome (next_read big l.layout) (directory_image (nat_le 5 e.version) texts) w.count w.bytes (first_directories e parameters w)) FilesOutcome

  abbrev pub HeaderOutcome : Tables → Result (Converting FileId) ConvertError → Type 0
  HeaderOutcome t =
      Then (BeginOutcome (nat_le 5 read.version) Directories big read bytes) (λ (l : EntryList).
      Then (λ (r : Result Working ConvertError). r ≡ working_image (nat_le 5 read.version) (nat_le 5 e.version) texts (next_read big l.layout) l.count l.bytes t) (λ (w : Working).
      DirectoriesOutcome l w))
