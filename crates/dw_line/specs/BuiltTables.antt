-- The directories and files that were built, as a reader finds them: strings by their places in the layout's sections (DWARF 5,
-- 6.2.4 and 6.2.4.1).
use Rattle.std.specs.Prelude.{ℕ, ◌+◌, nat_le, Bool, true, false, List, map, drop, Option, Some, None, is_some, unwrap_or, if◌then◌else◌}
use Rattle.dw_base.specs.declared.section_id.SectionId.TheVariants.{DebugStr, DebugLineStr}
use Rattle.dw_writer.specs.Texts.{zeros}
use Rattle.dw_writer.specs.Meaning.{Layout, start_of}
use Rattle.dw_strings.specs.Strings.{string_place}
use Rattle.dw_base.specs.LineTables.{ReadName, Inline, InStrings, InLineStrings, ReadEntry, LineTables, named}
use Rattle.dw_line.specs.Files.{has_md5, first_source, source_of}
use Rattle.dw_line.specs.declared.line_string.LineString.{LineString}
use Rattle.dw_line.specs.declared.line_string.LineString.TheVariants.{String, StringRef, LineStringRef}
use Rattle.dw_line.specs.declared.file.FileEntry.{FileEntry}

-- a part of every entry or of none
abbrev pub told : {X : Type 0} → Bool → X → Option X
told true x = Some x
told false x = None

module _ (strings line_strings : List (List ℕ)) (l : Layout) where
  abbrev pub name_read : LineString → ReadName
  name_read (String s) = Inline s
  name_read (StringRef i) = InStrings (string_place strings i.0 + start_of l DebugStr)
  name_read (LineStringRef i) = InLineStrings (string_place line_strings i.0 + start_of l DebugLineStr)

  abbrev pub directory_read : LineString → ReadEntry
  directory_read d = named (name_read d)

  -- where some file has a checksum, one that is missing is zeros; where some file has a text, one that is missing is empty
  abbrev pub file_read : List FileEntry → FileEntry → ReadEntry
  file_read files f = record {
    name = Some (name_read f.name);
    directory = f.directory.0;
    timestamp = f.info.timestamp;
    size = f.info.size;
    md5 = told (has_md5 files) (unwrap_or f.info.md5 (zeros 16));
    source = told (is_some (first_source files)) (name_read (source_of f));
  }

  -- up to version 4 the working directory is that of the unit, and stands in no list
  abbrev pub listed : ℕ → List LineString → List LineString
  listed version directories = if nat_le version 4 then drop 1 directories else directories

  abbrev pub tables_read : ℕ → List LineString → List FileEntry → LineTables
  tables_read version directories files = record {
    directories = map directory_read (listed version directories);
    files = map (file_read files) files;
  }
