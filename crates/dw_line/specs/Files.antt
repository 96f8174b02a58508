-- Files in a line program's header (DWARF 5, 6.2.4 and 6.2.4.1).
use Rattle.std.specs.Prelude.{ℕ, ◌+◌, Bool, true, false, not, ◌||◌, ◌==◌, List, [], ◌∷◌, ◌++◌, length, Option, Some, None, unwrap_or, is_some}
use Rattle.std.specs.List.{list_any}
use Rattle.dw_base.specs.Leb128.{uleb}
use Rattle.dw_base.specs.declared.error.Error.{Error}
use Rattle.dw_writer.specs.Texts.{followed, zeros}
use Rattle.dw_writer.specs.Meaning.{Model}
use Rattle.dw_line.specs.Names.{form_of, name_size, name_text, name_fails}
use Rattle.dw_line.specs.RowTexts.{where_needed}
use Rattle.dw_line.specs.declared.line_string.LineString.{LineString}
use Rattle.dw_line.specs.declared.line_string.LineString.TheVariants.{String}
use Rattle.dw_line.specs.declared.file.FileEntry.{FileEntry}
use Rattle.dw_line.specs.declared.file.Columns.{Columns}

-- which columns files have up to version 4, besides the name and the directory: the time and the size
abbrev pub old_columns : Columns
old_columns = record { timestamp = true; size = true; md5 = false; source = None }

-- the form of the first text of a file
abbrev pub first_source : List FileEntry → Option ℕ
first_source [] = None
first_source (f ∷ fs) = elim f.info.source [ None ↦ first_source fs | Some s ↦ Some (form_of s) ]

-- in version 5 those that some file has
abbrev pub has_timestamp : List FileEntry → Bool
has_timestamp files = list_any (λ f. not (f.info.timestamp == 0)) files

abbrev pub has_size : List FileEntry → Bool
has_size files = list_any (λ f. not (f.info.size == 0)) files

abbrev pub has_md5 : List FileEntry → Bool
has_md5 files = list_any (λ f. is_some f.info.md5) files

abbrev pub columns_of : List FileEntry → Columns
columns_of files = record { timestamp = has_timestamp files; size = has_size files; md5 = has_md5 files; source = first_source files }

-- the bytes of a file between its name and its text; a checksum that is missing is zeros
abbrev pub file_numbers : Columns → FileEntry → List ℕ
file_numbers columns f =
    uleb f.directory.0
    ++ (where_needed columns.timestamp (uleb f.info.timestamp)
    ++ (where_needed columns.size (uleb f.info.size)
    ++ where_needed columns.md5 (unwrap_or f.info.md5 (zeros 16))))

-- a text that is missing is an empty string
abbrev pub source_of : FileEntry → LineString
source_of f = unwrap_or f.info.source (String [])

-- words of w bytes
module _ (w : ℕ) where
  abbrev pub source_size : Bool → LineString → ℕ
  source_size true s = name_size w s
  source_size false s = 0

  abbrev pub file_size : Columns → FileEntry → ℕ
  file_size columns f = name_size w f.name + (length (file_numbers columns f) + source_size (is_some columns.source) (source_of f))

  module _ (strings line_strings : List (List ℕ)) where
    abbrev pub source_text : Bool → LineString → Model
    source_text true s big l = name_text w strings line_strings s big l
    source_text false s big l = Some []

    abbrev pub file_text : Columns → FileEntry → Model
    file_text columns f big l =
        followed (name_text w strings line_strings f.name big l)
        (followed (Some (file_numbers columns f)) (source_text (is_some columns.source) (source_of f) big l))

    abbrev pub source_fails : Bool → Bool → LineString → Error → Bool
    source_fails plain true s e = name_fails w strings line_strings plain s e
    source_fails plain false s e = false

    -- why a file is refused
    abbrev pub file_fails : Bool → Columns → FileEntry → Error → Bool
    file_fails plain columns f e = name_fails w strings line_strings plain f.name e || source_fails plain (is_some columns.source) (source_of f) e
