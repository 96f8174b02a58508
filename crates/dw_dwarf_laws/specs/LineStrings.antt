-- The places of strings that line programs name, where the sections of strings start later than at 0 (DWARF 5, 6.2.4).
use Rattle.std.specs.Prelude.{ℕ, ◌+◌, Bool, true, false, ◌&&◌, nat_le, List, drop, Option, Some, None, is_some}
use Rattle.std.specs.List.{list_all}
use Rattle.dw_base.specs.Numbers.{fits, word_of}
use Rattle.dw_base.specs.declared.section_id.SectionId.{SectionId}
use Rattle.dw_base.specs.declared.section_id.SectionId.TheVariants.{DebugStr, DebugLineStr}
use Rattle.dw_strings.specs.Strings.{string_place}
use Rattle.dw_line.specs.Files.{first_source, source_of}
use Rattle.dw_line.specs.LinePrograms.{LineProgramValue}
use Rattle.dw_line.specs.ProgramTexts.{ProgramValue}
use Rattle.dw_line.specs.declared.file.FileEntry.{FileEntry}
use Rattle.dw_line.specs.declared.line_string.LineString.{LineString}
use Rattle.dw_line.specs.declared.line_string.LineString.TheVariants.{String, StringRef, LineStringRef}

-- a string's place, counted from where its section begins, has room in so many bytes where the strings start later in it
abbrev pub place_fits : ℕ → ℕ → List (List ℕ) → ℕ → Bool
place_fits start w strings i = fits w (string_place strings i + start)

-- where sections start, with the strings of .debug_str and of .debug_line_str
module _ (starts : SectionId → ℕ) (strings line_strings : List (List ℕ)) where
  -- words of w bytes
  module _ (w : ℕ) where
    abbrev pub name_fits : LineString → Bool
    name_fits (String s) = true
    name_fits (StringRef i) = place_fits (starts DebugStr) w strings i.0
    name_fits (LineStringRef i) = place_fits (starts DebugLineStr) w line_strings i.0

    -- the text of a file, where files have texts
    abbrev pub source_fits : Bool → LineString → Bool
    source_fits true s = name_fits s
    source_fits false s = true

    abbrev pub file_fits : Bool → FileEntry → Bool
    file_fits has_source f = name_fits f.name && source_fits has_source (source_of f)

    abbrev pub entries_fit : List LineString → Bool → List FileEntry → Bool
    entries_fit directories has_source files = list_all name_fits directories && list_all (file_fits has_source) files

    -- up to version 4 the first directory isn't written, nor any text; in version 5 files have texts where one has
    abbrev pub tables_fit : Bool → List LineString → List FileEntry → Bool
    tables_fit true directories files = entries_fit (drop 1 directories) false files
    tables_fit false directories files = entries_fit directories (is_some (first_source files)) files

  -- the strings that a program names
  abbrev pub program_fits : Option ProgramValue → Bool
  program_fits None = true
  program_fits (Some p) = tables_fit (word_of p.encoding.format) (nat_le p.encoding.version 4) p.directories p.files

  abbrev pub line_program_fits : LineProgramValue → Bool
  line_program_fits v = program_fits v.program
