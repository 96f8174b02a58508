-- The strings and the names that lines give.
use Rattle.std.specs.Prelude.{ℕ, Bool, false, nat_le, List, [], Ok, Err, if◌then◌else◌}
use Rattle.dw_entries.specs.Content.{has_zero}
use Rattle.dw_line.specs.declared.line_string.LineString.{LineString}
use Rattle.dw_line.specs.declared.line_string.LineString.TheVariants as stored
use Rattle.dw_ends.specs.Fields.{Outcome, ◌>>=◌}
use Rattle.dw_script.specs.declared.line_change.LineText.{LineText}
use Rattle.dw_script.specs.declared.line_change.LineText.TheVariants as text
use Rattle.dw_ends.specs.declared.reason.Reason.TheVariants.{ZeroByte, EmptyName}

-- a text without a zero byte
abbrev pub text_of : List ℕ → Outcome (List ℕ)
text_of bytes = if has_zero bytes then Err ZeroByte else Ok bytes

-- the name of a directory or a file: its own bytes, or a string of a table
abbrev pub name_of : LineText → Outcome LineString
name_of (text.String bytes) = text_of bytes >>= λ name. Ok (stored.String name)
name_of (text.StringRef i) = Ok (stored.StringRef (record { 0 = i }))
name_of (text.LineStringRef i) = Ok (stored.LineStringRef (record { 0 = i }))

-- an empty name, which up to version 4 closes its list
abbrev pub closes_list : ℕ → LineString → Bool
closes_list version (stored.String []) = nat_le version 4
closes_list version name = false

-- the name of a directory or a file that stands in a list
abbrev pub listed_name : ℕ → LineText → Outcome LineString
listed_name version name = name_of name >>= λ name. if closes_list version name then Err EmptyName else Ok name
