-- What the names of directories and files become, and the texts of files (DWARF 5, 6.2.4.1).
use Rattle.std.specs.Prelude.{ℕ, ◌==◌, Bool, true, false, List, [], Option, Some, Result, Ok, Err}
use Rattle.std.specs.List.{before_first}
use Rattle.dw_line.specs.declared.line_string.LineString.{LineString}
use Rattle.dw_line.specs.declared.line_string.LineString.TheVariants as built
use Rattle.dw_read.specs.Reasons.{◌=>>◌, bytes_read, text_read}
use Rattle.dw_read.specs.Values.{Value}
use Rattle.dw_read.specs.declared.error.ReadError.{ReadError}
use Rattle.dw_read.specs.declared.value.AttributeValue.TheVariants as read
use Rattle.dw_sources.specs.declared.convert_error.ConvertError.{ConvertError}
use Rattle.dw_sources.specs.declared.convert_error.ConvertError.TheVariants.{UnsupportedLineProgram}
use Rattle.dw_strings.specs.Strings.{string_index, with_string}
use Rattle.dw_convert_lines.specs.Results.{◌=>◌, of_read}

-- the sections that names lead to
pub record Texts : Type 0 where
  pub strings : List ℕ
  pub line_strings : List ℕ

-- the strings of the tables that names go into
pub record Tables : Type 0 where
  pub strings : List (List ℕ)
  pub line_strings : List (List ℕ)

-- the text at an offset of a section
unfoldable pub text_in : List ℕ → ℕ → Result (List ℕ) ReadError
text_in section offset = bytes_read offset section =>> λ passed. text_read passed.1 =>> λ text. Ok text.0

-- a string ends at its first zero (DWARF 5, 7.5.5)
abbrev pub ended : List ℕ → List ℕ
ended bytes = before_first (λ b. b == 0) bytes

-- what a text of .debug_str becomes: from version 5 on a string of the table, below a string in the program itself
abbrev pub string_image : Bool → Tables → List ℕ → LineString × Tables
string_image true t text = (built.StringRef (record { 0 = string_index t.strings text }), record t { strings = with_string t.strings text })
string_image false t text = (built.String text, t)

-- and what a text of .debug_line_str becomes
abbrev pub line_string_image : Bool → Tables → List ℕ → LineString × Tables
line_string_image true t text = (built.LineStringRef (record { 0 = string_index t.line_strings text }), record t { line_strings = with_string t.line_strings text })
line_string_image false t text = (built.String text, t)

-- what a name becomes, where the target has references to strings, with the tables that have it
abbrev pub name_image : Bool → Texts → Tables → Option Value → Result (LineString × Tables) ConvertError
name_image refs texts t (Some (read.String bytes)) = Ok (built.String (ended bytes), t)
name_image refs texts t (Some (read.DebugStrRef p)) = of_read (text_in texts.strings p.0) => λ text. Ok (string_image refs t text)
name_image refs texts t (Some (read.DebugLineStrRef p)) = of_read (text_in texts.line_strings p.0) => λ text. Ok (line_string_image refs t text)
name_image refs texts t v = Err UnsupportedLineProgram

-- the same, but that an empty string would close the list below version 5
abbrev pub filled : Bool → LineString × Tables → Result (LineString × Tables) ConvertError
filled false (built.String [], t) = Err UnsupportedLineProgram
filled refs x = Ok x

abbrev pub listed_image : Bool → Texts → Tables → Option Value → Result (LineString × Tables) ConvertError
listed_image refs texts t v = name_image refs texts t v => filled refs
