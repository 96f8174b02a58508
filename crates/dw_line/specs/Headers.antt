-- The header of a line program (DWARF 5, 6.2.4).
use Rattle.std.specs.Prelude.{ℕ, ◌+◌, Bool, true, false, not, ◌||◌, nat_le, List, [], ◌∷◌, ◌++◌, length, drop, Option, Some, None, is_some, if◌then◌else◌}
use Rattle.std.specs.List.{list_any}
use Rattle.dw_base.specs.Numbers.{num, word_of, length_fits}
use Rattle.dw_base.specs.Leb128.{uleb}
use Rattle.dw_base.specs.declared.common.Encoding.{Encoding}
use Rattle.dw_base.specs.declared.common.Format.{Format}
use Rattle.dw_base.specs.declared.common.LineEncoding.{LineEncoding}
use Rattle.dw_base.specs.declared.constants.TheConstants.{DW_LNCT_path, DW_LNCT_directory_index, DW_LNCT_timestamp, DW_LNCT_size, DW_LNCT_MD5, DW_LNCT_LLVM_source, DW_FORM_string, DW_FORM_udata, DW_FORM_data16}
use Rattle.dw_base.specs.declared.error.Error.{Error}
use Rattle.dw_base.specs.declared.error.Error.TheVariants.{InitialLengthOverflow}
use Rattle.dw_writer.specs.SignedNumbers.{twos_complement}
use Rattle.dw_writer.specs.Texts.{followed}
use Rattle.dw_writer.specs.Meaning.{Model}
use Rattle.dw_line.specs.Names.{form_of, name_size, name_text, name_fails}
use Rattle.dw_line.specs.Files.{old_columns, columns_of, file_size, file_text, file_fails}
use Rattle.dw_line.specs.LineRows.{standard_operand_counts}
use Rattle.dw_line.specs.Parts.{sizes, texts}
use Rattle.dw_line.specs.RowTexts.{where_needed}
use Rattle.dw_line.specs.declared.line_string.LineString.{LineString}
use Rattle.dw_line.specs.declared.file.FileEntry.{FileEntry}
use Rattle.dw_line.specs.declared.file.Columns.{Columns}

-- the version, and in version 5 the bytes of an address and of a segment's number, of which there is none
abbrev pub version_bytes : Bool → Encoding → List ℕ
version_bytes big e = num big 2 e.version ++ where_needed (nat_le 5 e.version) (e.address_size ∷ 0 ∷ [])

abbrev pub version_size : ℕ → ℕ
version_size version = if nat_le 5 version then 4 else 2

abbrev pub flag_byte : Bool → ℕ
flag_byte true = 1
flag_byte false = 0

-- the parameters of the machine; the operations of an instruction are told from version 4 on
abbrev pub parameters_bytes : ℕ → LineEncoding → List ℕ
parameters_bytes version e =
    (e.minimum_instruction_length ∷ [])
    ++ (where_needed (nat_le 4 version) (e.maximum_operations_per_instruction ∷ [])
    ++ flag_byte e.default_is_stmt ∷ twos_complement 1 e.line_base ∷ e.line_range ∷ 13 ∷ standard_operand_counts)

-- a part of an entry of version 5, with its form
abbrev pub content_bytes : ℕ → ℕ → List ℕ
content_bytes content form = uleb content ++ uleb form

-- directories are names
abbrev pub directory_formats : ℕ → ℕ → List ℕ
directory_formats form count = 1 ∷ [] ++ (content_bytes DW_LNCT_path.0 form ++ uleb count)

abbrev pub source_content : Option ℕ → List ℕ
source_content None = []
source_content (Some form) = content_bytes DW_LNCT_LLVM_source.0 form

-- how many parts files have
abbrev pub part_count : Columns → ℕ
part_count c = 2 + flag_byte c.timestamp + flag_byte c.size + flag_byte c.md5 + flag_byte (is_some c.source)

-- files are a name, a directory as udata, and what some file has: times and sizes as udata, checksums as data16, texts
abbrev pub file_formats : Columns → ℕ → ℕ → List ℕ
file_formats c form count =
    part_count c ∷ []
    ++ (content_bytes DW_LNCT_path.0 form
    ++ (content_bytes DW_LNCT_directory_index.0 DW_FORM_udata.0
    ++ (where_needed c.timestamp (content_bytes DW_LNCT_timestamp.0 DW_FORM_udata.0)
    ++ (where_needed c.size (content_bytes DW_LNCT_size.0 DW_FORM_udata.0)
    ++ (where_needed c.md5 (content_bytes DW_LNCT_MD5.0 DW_FORM_data16.0)
    ++ (source_content c.source
    ++ uleb count))))))

-- the form of directories, that of the first one, and that of files' names; with no file they are strings
abbrev pub directory_form : List LineString → ℕ
directory_form [] = DW_FORM_string.0
directory_form (d ∷ ds) = form_of d

abbrev pub file_form : List FileEntry → ℕ
file_form [] = DW_FORM_string.0
file_form (f ∷ fs) = form_of f.name

-- words of w bytes
module _ (w : ℕ) where
  -- up to version 4: all directories but the first, a zero, the files, a zero
  abbrev pub old_tables_size : List LineString → List FileEntry → ℕ
  old_tables_size directories files = sizes (name_size w) (drop 1 directories) + (1 + (sizes (file_size w old_columns) files + 1))

  -- in version 5: what directories are, their number, and they themselves; and so for files
  abbrev pub new_tables_size : List LineString → List FileEntry → ℕ
  new_tables_size directories files =
      length (directory_formats (directory_form directories) (length directories)) + (sizes (name_size w) directories
      + (length (file_formats (columns_of files) (file_form files) (length files)) + sizes (file_size w (columns_of files)) files))

  abbrev pub tables_size : Bool → List LineString → List FileEntry → ℕ
  tables_size true directories files = old_tables_size directories files
  tables_size false directories files = new_tables_size directories files

  module _ (strings line_strings : List (List ℕ)) where
    abbrev pub old_tables_text : List LineString → List FileEntry → Model
    old_tables_text directories files big l =
        followed (texts (name_text w strings line_strings) (drop 1 directories) big l)
        (followed (Some (0 ∷ []))
        (followed (texts (file_text w strings line_strings old_columns) files big l) (Some (0 ∷ []))))

    abbrev pub new_tables_text : List LineString → List FileEntry → Model
    new_tables_text directories files big l =
        followed (Some (directory_formats (directory_form directories) (length directories)))
        (followed (texts (name_text w strings line_strings) directories big l)
        (followed (Some (file_formats (columns_of files) (file_form files) (length files)))
        (texts (file_text w strings line_strings (columns_of files)) files big l)))

    abbrev pub tables_text : Bool → List LineString → List FileEntry → Model
    tables_text true directories files big l = old_tables_text directories files big l
    tables_text false directories files big l = new_tables_text directories files big l

    -- why some directory or file is refused
    abbrev pub entries_fail : Bool → List LineString → Columns → List FileEntry → Error → Bool
    entries_fail plain directories columns files e =
        list_any (λ d. name_fails w strings line_strings plain d e) directories
        || list_any (λ f. file_fails w strings line_strings plain columns f e) files

    abbrev pub tables_fail : Bool → Bool → List LineString → List FileEntry → Error → Bool
    tables_fail plain true directories files e = entries_fail plain (drop 1 directories) old_columns files e
    tables_fail plain false directories files e = entries_fail plain directories (columns_of files) files e

-- what the header's own length counts
abbrev pub header_length : Encoding → LineEncoding → List LineString → List FileEntry → ℕ
header_length e le directories files =
    length (parameters_bytes e.version le) + tables_size (word_of e.format) (nat_le e.version 4) directories files

-- what stands before the instructions, without the program's length
abbrev pub header_size : Encoding → LineEncoding → List LineString → List FileEntry → ℕ
header_size e le directories files = version_size e.version + (word_of e.format + header_length e le directories files)

-- a length is too long for its format
abbrev pub length_fails : Format → ℕ → Error → Bool
length_fails format n InitialLengthOverflow = not (length_fits format n)
length_fails format n e = false

module _ (strings line_strings : List (List ℕ)) where
  abbrev pub header_text : Encoding → LineEncoding → List LineString → List FileEntry → Model
  header_text e le directories files big l =
      followed (Some (version_bytes big e))
      (followed (Some (num big (word_of e.format) (header_length e le directories files)))
      (followed (Some (parameters_bytes e.version le))
      (tables_text (word_of e.format) strings line_strings (nat_le e.version 4) directories files big l)))

  abbrev pub header_fails : Bool → Encoding → LineEncoding → List LineString → List FileEntry → Error → Bool
  header_fails plain e le directories files error =
      length_fails e.format (header_length e le directories files) error
      || tables_fail (word_of e.format) strings line_strings plain (nat_le e.version 4) directories files error
