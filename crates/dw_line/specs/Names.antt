-- The names of directories and files, and the texts of files, in a line program's header (DWARF 5, 6.2.4 and 6.2.4.1).
use Rattle.std.specs.Prelude.{◌≢◌, ⊤, [], ℕ, Bool, false, not, nat_lt, List, length, Some, None}
use Rattle.dw_base.specs.Spellable.{IsText}
use Rattle.dw_base.specs.declared.constants.TheConstants.{DW_FORM_string, DW_FORM_strp, DW_FORM_line_strp}
use Rattle.dw_base.specs.declared.section_id.SectionId.TheVariants.{DebugStr, DebugLineStr}
use Rattle.dw_base.specs.declared.error.Error.{Error}
use Rattle.dw_base.specs.declared.error.Error.TheVariants.{InvalidReference, ValueTooLarge}
use Rattle.dw_writer.specs.Meaning.{Model}
use Rattle.dw_writer.specs.Causes.{offset_fits}
use Rattle.dw_writer.specs.SectionTexts.{offset_text}
use Rattle.dw_strings.specs.Strings.{closed, string_place}
use Rattle.dw_line.specs.declared.line_string.LineString.{LineString}
use Rattle.dw_line.specs.declared.line_string.LineString.TheVariants.{String, StringRef, LineStringRef}
use Rattle.dw_line.specs.declared.line_string.FileInfo.{FileInfo}

-- a name can be written: it has no zero byte
abbrev pub IsName : LineString → Type 0
IsName (String s) = IsText s
IsName (StringRef i) = ⊤
IsName (LineStringRef i) = ⊤

-- it isn't the empty name, which closes a list up to version 4
abbrev pub IsFull : LineString → Type 0
IsFull s = s ≢ String []

-- string, strp and line_strp (DWARF 5, 7.5.6)
abbrev pub form_of : LineString → ℕ
form_of (String s) = DW_FORM_string.0
form_of (StringRef i) = DW_FORM_strp.0
form_of (LineStringRef i) = DW_FORM_line_strp.0

-- nothing is known of a file
abbrev pub no_info : FileInfo
no_info = record { timestamp = 0; size = 0; md5 = None; source = None }

-- words of w bytes, with the strings of .debug_str and of .debug_line_str
module _ (w : ℕ) where
  abbrev pub name_size : LineString → ℕ
  name_size (String s) = length (closed s)
  name_size (StringRef i) = w
  name_size (LineStringRef i) = w

  module _ (strings line_strings : List (List ℕ)) where
    abbrev pub name_text : LineString → Model
    name_text (String s) big l = Some (closed s)
    name_text (StringRef i) big l = offset_text w DebugStr (string_place strings i.0) big l
    name_text (LineStringRef i) big l = offset_text w DebugLineStr (string_place line_strings i.0) big l

    -- why a name is refused
    abbrev pub name_fails : Bool → LineString → Error → Bool
    name_fails plain (String s) e = false
    name_fails plain (StringRef i) InvalidReference = not (nat_lt i.0 (length strings))
    name_fails plain (StringRef i) ValueTooLarge = not (offset_fits plain w (string_place strings i.0))
    name_fails plain (StringRef i) e = false
    name_fails plain (LineStringRef i) InvalidReference = not (nat_lt i.0 (length line_strings))
    name_fails plain (LineStringRef i) ValueTooLarge = not (offset_fits plain w (string_place line_strings i.0))
    name_fails plain (LineStringRef i) e = false
