-- Which programs can be written for a unit: their encodings, and the forms of their names.
use Rattle.std.specs.Prelude.{ℕ, ◌==◌, nat_le, Bool, true, false, not, ◌&&◌, ◌||◌, List, drop, Some, None, is_some}
use Rattle.std.specs.Bool.{beq}
use Rattle.std.specs.List.{list_all, list_any}
use Rattle.dw_base.specs.Numbers.{is_width, word_of}
use Rattle.dw_base.specs.declared.common.Encoding.{Encoding}
use Rattle.dw_base.specs.declared.constants.TheConstants.{DW_FORM_string}
use Rattle.dw_base.specs.declared.error.Error.{Error}
use Rattle.dw_base.specs.declared.error.Error.TheVariants.{IncompatibleLineProgramEncoding, UnsupportedVersion, UnsupportedWordSize, NeedVersion, LineStringFormMismatch}
use Rattle.dw_base.specs.LineReader.{is_line_version}
use Rattle.dw_line.specs.Names.{form_of}
use Rattle.dw_line.specs.Files.{first_source, source_of}
use Rattle.dw_line.specs.Headers.{directory_form, file_form}
use Rattle.dw_line.specs.declared.line_string.LineString.{LineString}
use Rattle.dw_line.specs.declared.file.FileEntry.{FileEntry}

-- a program and its unit have one format and one width of addresses, and both or neither is of version 5
abbrev pub encodings_agree : Encoding → Encoding → Bool
encodings_agree a b = (word_of a.format == word_of b.format) && (a.address_size == b.address_size) && beq (a.version == 5) (b.version == 5)

-- why a program of an encoding is refused for a unit of another
abbrev pub encoding_fails : Encoding → Encoding → Error → Bool
encoding_fails own unit IncompatibleLineProgramEncoding = not (encodings_agree own unit)
encoding_fails own unit (UnsupportedVersion v) = (v == own.version) && not (is_line_version own.version)
encoding_fails own unit (UnsupportedWordSize n) = (n == own.address_size) && not (is_width own.address_size)
encoding_fails own unit e = false

-- checksums and texts came with version 5
abbrev pub is_new_file : FileEntry → Bool
is_new_file f = is_some f.info.md5 || is_some f.info.source

abbrev pub has_form : ℕ → LineString → Bool
has_form form s = form_of s == form

-- texts are all written in the form of the first one
abbrev pub sources_agree : List FileEntry → Bool
sources_agree files = elim (first_source files) [ None ↦ true | Some form ↦ list_all (λ f. has_form form (source_of f)) files ]

-- up to version 4 the names are strings; in version 5 those of directories have one form, those of files too, and texts too
abbrev pub forms_agree : Bool → List LineString → List FileEntry → Bool
forms_agree true directories files = list_all (has_form DW_FORM_string.0) (drop 1 directories) && list_all (λ f. has_form DW_FORM_string.0 f.name) files
forms_agree false directories files =
    list_all (has_form (directory_form directories)) directories && list_all (λ f. has_form (file_form files) f.name) files && sources_agree files

-- why the names of a program are refused
abbrev pub forms_fail : ℕ → List LineString → List FileEntry → Error → Bool
forms_fail version directories files (NeedVersion v) = (v == 5) && (nat_le version 4 && list_any is_new_file files)
forms_fail version directories files LineStringFormMismatch = not (forms_agree (nat_le version 4) directories files)
forms_fail version directories files e = false
