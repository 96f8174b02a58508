-- What is written for a line program, and why it is refused (DWARF 5, 6.2).
use Rattle.std.specs.Prelude.{◌≡◌, ℕ, ◌+◌, ◌^◌, ◌<◌, ◌≤◌, All, drop, unwrap_or, Bool, true, false, ◌||◌, List, [], ◌∷◌, ◌++◌, map, length, Option, Some, None, pos, ◌≤ℤ◌, IsTrue}
use Rattle.std.specs.List.{list_all, list_any, position_or_len}
use Rattle.indexmap.specs.IndexSet.{insert_key, replace_key}
use Rattle.dw_base.specs.Numbers.{num, word_of, escape_of}
use Rattle.dw_base.specs.declared.address.Address.{Address}
use Rattle.dw_base.specs.declared.common.Encoding.{Encoding}
use Rattle.dw_base.specs.declared.common.LineEncoding.{LineEncoding}
use Rattle.dw_base.specs.declared.error.Error.{Error}
use Rattle.dw_base.specs.declared.ids.DirectoryId.{DirectoryId}
use Rattle.dw_writer.specs.Texts.{followed, zeros}
use Rattle.dw_writer.specs.Meaning.{Layout, Model}
use Rattle.dw_line.specs.Accepted.{encoding_fails, forms_fail}
use Rattle.dw_line.specs.FileEqual.{file_eq}
use Rattle.dw_line.specs.Files.{source_of}
use Rattle.dw_line.specs.Headers.{header_size, header_text, header_fails, length_fails}
use Rattle.dw_line.specs.LineRows.{built_sequence, are_in_order}
use Rattle.dw_line.specs.LineStrings.{line_string_eq}
use Rattle.dw_line.specs.Names.{IsName, IsFull, no_info}
use Rattle.dw_line.specs.Parts.{sizes, texts}
use Rattle.dw_line.specs.Programs.{SequenceValue, is_in_order, ended, built_size, built_model, built_fails, ended_size, ended_text, ended_fails}
use Rattle.dw_line.specs.SequenceTexts.{BuiltSequence}
use Rattle.dw_line.specs.declared.line_string.LineString.{LineString}
use Rattle.dw_line.specs.declared.line_string.FileInfo.{FileInfo}
use Rattle.dw_line.specs.declared.file.FileEntry.{FileEntry}
use Rattle.dw_line.specs.declared.row.LineRow.{LineRow}

pub record ProgramValue : Type 0 where
  pub encoding : Encoding
  pub line_encoding : LineEncoding
  -- the first one is the working directory
  pub directories : List LineString
  pub files : List FileEntry
  pub sequences : List SequenceValue
  -- a sequence was begun and not ended: its address and its rows
  pub in_sequence : Bool
  pub address : Option Address
  pub rows : List LineRow

abbrev pub minimum_length : ProgramValue → ℕ
minimum_length p = p.line_encoding.minimum_instruction_length

-- the parameters that a program can have
pub record IsLineEncoding (e : LineEncoding) : Type 0 where
  pub operations : e.maximum_operations_per_instruction ≡ 1
  pub positive : 0 < e.minimum_instruction_length
  pub base : e.line_base ≤ℤ pos 0

-- the name and the text of a file can be written, and its numbers lie in their types; a checksum has sixteen bytes
pub record IsFile (version : ℕ) (f : FileEntry) : Type 0 where
  pub name : IsName f.name
  pub full : version ≤ 4 → IsFull f.name
  pub source : IsName (source_of f)
  pub directory : f.directory.0 < 2 ^ 64
  pub timestamp : f.info.timestamp < 2 ^ 64
  pub size : f.info.size < 2 ^ 64
  pub md5 : length (unwrap_or f.info.md5 (zeros 16)) ≡ 16

-- what every program keeps; up to version 4 an empty name would close a list
pub record IsProgram (version : ℕ) (line_encoding : LineEncoding) (directories : List LineString) (files : List FileEntry) (sequences : List SequenceValue) (rows : List LineRow) : Type 0 where
  pub encoding : IsLineEncoding line_encoding
  pub rooted : 0 < length directories
  pub names : All IsName directories
  pub listed : version ≤ 4 → All IsFull (drop 1 directories)
  pub told : All (IsFile version) files
  pub ordered : IsTrue (list_all (is_in_order line_encoding.minimum_instruction_length) sequences)
  pub unended : IsTrue (are_in_order line_encoding.minimum_instruction_length 0 rows)

-- a directory among those before it
abbrev pub directory_index : List LineString → LineString → ℕ
directory_index directories d = position_or_len (line_string_eq d) directories

abbrev pub with_directory : LineString → ProgramValue → ProgramValue
with_directory d p = record p { directories = insert_key line_string_eq p.directories d }

abbrev pub entry_of : LineString → DirectoryId → FileInfo → FileEntry
entry_of name directory info = record { name = name; directory = directory; info = info }

-- a file among those before it: what is known of it doesn't count
abbrev pub file_index : List FileEntry → FileEntry → ℕ
file_index files f = position_or_len (file_eq f) files

-- a file that is there gets what is told of it
abbrev pub files_with : LineString → DirectoryId → Option FileInfo → List FileEntry → List FileEntry
files_with name directory None files = insert_key file_eq files (entry_of name directory no_info)
files_with name directory (Some info) files = replace_key file_eq files (entry_of name directory info)

abbrev pub with_file : LineString → DirectoryId → Option FileInfo → ProgramValue → ProgramValue
with_file name directory info p = record p { files = files_with name directory info p.files }

abbrev pub with_begin : Option Address → ProgramValue → ProgramValue
with_begin address p = record p { in_sequence = true; address = address; rows = [] }

abbrev pub with_row : LineRow → ProgramValue → ProgramValue
with_row r p = record p { rows = p.rows ++ r ∷ [] }

abbrev pub with_end : ℕ → ProgramValue → ProgramValue
with_end end p = record p { sequences = p.sequences ++ record { address = p.address; rows = p.rows; end = end } ∷ []; in_sequence = false; rows = [] }

-- the sequence that isn't ended
abbrev pub open_sequence : ProgramValue → BuiltSequence
open_sequence p = built_sequence p.encoding.version p.address p.rows None

-- all sequences
abbrev pub open_sequences : Bool → BuiltSequence → List BuiltSequence
open_sequences true s = s ∷ []
open_sequences false s = []

abbrev pub program_sequences : ProgramValue → List BuiltSequence
program_sequences p = map (ended p.encoding.version) p.sequences ++ open_sequences p.in_sequence (open_sequence p)

abbrev pub open_size : ProgramValue → Bool → ℕ
open_size p true = built_size p.encoding p.line_encoding (open_sequence p)
open_size p false = 0

abbrev pub open_text : ProgramValue → Bool → Model
open_text p true big l = built_model p.encoding p.line_encoding (open_sequence p) big l
open_text p false big l = Some []

abbrev pub open_fails : Bool → ProgramValue → Bool → Error → Bool
open_fails plain p true e = built_fails p.encoding p.line_encoding plain (open_sequence p) e
open_fails plain p false e = false

abbrev pub sequences_size : ProgramValue → ℕ
sequences_size p = sizes (ended_size p.encoding p.line_encoding) p.sequences + open_size p p.in_sequence

abbrev pub sequences_text : ProgramValue → Model
sequences_text p big l = followed (texts (ended_text p.encoding p.line_encoding) p.sequences big l) (open_text p p.in_sequence big l)

abbrev pub sequences_fail : Bool → ProgramValue → Error → Bool
sequences_fail plain p e = list_any (λ s. ended_fails plain p.encoding p.line_encoding s e) p.sequences || open_fails plain p p.in_sequence e

-- what the program's length counts
abbrev pub program_length : ProgramValue → ℕ
program_length p = header_size p.encoding p.line_encoding p.directories p.files + sequences_size p

abbrev pub program_size : ProgramValue → ℕ
program_size p = length (escape_of p.encoding.format) + (word_of p.encoding.format + program_length p)

module _ (strings line_strings : List (List ℕ)) where
  abbrev pub contents_text : ProgramValue → Model
  contents_text p big l = followed (header_text strings line_strings p.encoding p.line_encoding p.directories p.files big l) (sequences_text p big l)

  -- the text of a program: its length, its header and its sequences
  abbrev pub program_text : ProgramValue → Model
  program_text p big l =
      followed (Some (escape_of p.encoding.format))
      (followed (Some (num big (word_of p.encoding.format) (program_length p))) (contents_text p big l))

  abbrev pub contents_fail : Bool → ProgramValue → Error → Bool
  contents_fail plain p e = header_fails strings line_strings plain p.encoding p.line_encoding p.directories p.files e || sequences_fail plain p e

  -- why a program is refused for a unit of an encoding
  abbrev pub program_fails : Bool → Encoding → ProgramValue → Error → Bool
  program_fails plain unit p e =
      (encoding_fails p.encoding unit e || forms_fail p.encoding.version p.directories p.files e)
      || (contents_fail plain p e || length_fails p.encoding.format (program_length p) e)

  -- the header's text is as long as its parts say
  abbrev pub HeaderIsWide : Bool → ProgramValue → Type 0
  HeaderIsWide big p =
      (l : Layout) (xs : List ℕ) → header_text strings line_strings p.encoding p.line_encoding p.directories p.files big l ≡ Some xs →
      length xs ≡ header_size p.encoding p.line_encoding p.directories p.files
