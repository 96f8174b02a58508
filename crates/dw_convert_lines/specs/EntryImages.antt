-- What directories and files become (DWARF 5, 6.2.4; DWARF 4, 6.2.4).
use Rattle.std.specs.Prelude.{ℕ, Bool, true, false, List, [], ◌∷◌, ◌++◌, Option, Some, None, Result, Ok, Err, slice_get, if◌then◌else◌}
use Rattle.std.specs.Int.{w128, to_le_bytes, to_be_bytes}
use Rattle.dw_base.specs.declared.ids.DirectoryId.{DirectoryId}
use Rattle.dw_base.specs.declared.ids.FileId.{FileId}
use Rattle.dw_line.specs.LinePrograms.{LineProgramValue, changed, directories_of, files_of}
use Rattle.dw_line.specs.Names.{no_info}
use Rattle.dw_line.specs.ProgramTexts.{directory_index, with_directory, entry_of, file_index, with_file}
use Rattle.dw_line.specs.declared.line_string.FileInfo.{FileInfo}
use Rattle.dw_line.specs.declared.line_string.LineString.{LineString}
use Rattle.dw_read.specs.Values.{Value}
use Rattle.dw_read.specs.declared.value.AttributeValue.TheVariants as read
use Rattle.dw_read_lines.specs.LineEntries.{Entry}
use Rattle.dw_sources.specs.declared.convert_error.ConvertError.{ConvertError}
use Rattle.dw_sources.specs.declared.convert_error.ConvertError.TheVariants.{InvalidDirectoryIndex, UnsupportedLineProgram}
use Rattle.dw_convert_lines.specs.EntryNames.{Texts, Tables, name_image, listed_image}
use Rattle.dw_convert_lines.specs.Results.{◌=>◌}

-- the number that is told, or 0
abbrev pub number_image : Option Value → Result ℕ ConvertError
number_image None = Ok 0
number_image (Some (read.Udata n)) = Ok n
number_image (Some (read.Data1 n)) = Ok n
number_image (Some (read.Data2 n)) = Ok n
number_image (Some (read.Data4 n)) = Ok n
number_image (Some (read.Data8 n)) = Ok n
number_image v = Err UnsupportedLineProgram

-- the bytes of a number of sixteen bytes, as they stand in the section
abbrev pub checksum_bytes : Bool → ℕ → List ℕ
checksum_bytes big n = if big then to_be_bytes w128 n else to_le_bytes w128 n

abbrev pub checksum_image : Bool → Option Value → Result (Option (List ℕ)) ConvertError
checksum_image big None = Ok None
checksum_image big (Some (read.Data16 n)) = Ok (Some (checksum_bytes big n))
checksum_image big v = Err UnsupportedLineProgram

-- what directories or files become so far: the program that has them, their ids by the numbers that were read, and the tables
pub record Converting (Id : Type 0) : Type 0 where
  pub program : LineProgramValue
  pub ids : List Id
  pub tables : Tables

-- The target has references to strings from version 5 on, and there alone files have checksums and texts.
module _ (refs : Bool) (texts : Texts) where
  -- the text of a file, where there is one
  abbrev pub source_image : Tables → Option Value → Result (Option LineString × Tables) ConvertError
  source_image t None = Ok (None, t)
  source_image t (Some v) = name_image refs texts t (Some v) => λ s. Ok (Some s.0, s.1)

  abbrev pub directory_added : Converting DirectoryId → LineString × Tables → Converting DirectoryId
  directory_added s name = record {
    program = changed (with_directory name.0) s.program;
    ids = s.ids ++ record { 0 = directory_index (directories_of s.program.program) name.0 } ∷ [];
    tables = name.1;
  }

  -- a directory more
  abbrev pub directory_image : Entry → Converting DirectoryId → Result (Converting DirectoryId) ConvertError
  directory_image x s = listed_image refs texts s.tables x.path => λ name. Ok (directory_added s name)

-- the directory of a number, which has to be in the list
abbrev pub found_directory : Option DirectoryId → Result DirectoryId ConvertError
found_directory None = Err InvalidDirectoryIndex
found_directory (Some d) = Ok d

abbrev pub directory_among : List DirectoryId → ℕ → Result DirectoryId ConvertError
directory_among ids n = found_directory (slice_get ids n)

module _ (texts : Texts) (big : Bool) where
  -- what is known of a file besides its name
  abbrev pub info_image : Bool → Tables → Entry → Result (FileInfo × Tables) ConvertError
  info_image false t x =
      number_image x.timestamp => λ timestamp. number_image x.size => λ size.
      Ok (record { timestamp = timestamp; size = size; md5 = None; source = None }, t)
  info_image true t x =
      number_image x.timestamp => λ timestamp. number_image x.size => λ size. checksum_image big x.md5 => λ md5.
      source_image true texts t x.source => λ source.
      Ok (record { timestamp = timestamp; size = size; md5 = md5; source = source.0 }, source.1)

  abbrev pub file_added : Converting FileId → LineString → DirectoryId → FileInfo × Tables → Converting FileId
  file_added s name directory info = record {
    program = changed (with_file name directory (Some info.0)) s.program;
    ids = s.ids ++ record { 0 = file_index (files_of s.program.program) (entry_of name directory no_info) } ∷ [];
    tables = info.1;
  }

  -- a file more, where directories have these ids
  abbrev pub file_image : Bool → List DirectoryId → Entry → Converting FileId → Result (Converting FileId) ConvertError
  file_image refs directories x s =
      listed_image refs texts s.tables x.path => λ name. number_image x.directory => λ n. directory_among directories n => λ directory.
      info_image refs name.1 x => λ info. Ok (file_added s name.0 directory info)
