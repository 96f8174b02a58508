-- What a script builds: each line does what it says to what the lines before it built.
use Rattle.std.specs.Prelude.{◌≡◌, ℕ, ◌+◌, List, [], ◌∷◌, ◌++◌, Option, Some, None, Result, Ok, Err, ok_or, true, false, if◌then◌else◌, slice_get, slice_set, All}
use Rattle.dw_ends.specs.Fields.{Outcome, ◌>>=◌}
use Rattle.dw_script.specs.Lines.{parsed_line}
use Rattle.dw_ends.specs.Pieces.{newline, pieces}
use Rattle.dw_script.specs.declared.command.Command.{Command}
use Rattle.dw_script.specs.declared.command.Command.TheVariants.{Order, Unit as AddUnit, String as AddString, LineString as AddLineString, Change as ChangeUnit, Line as ChangeLines, RangeList as AddRanges, LocationList as AddLocations}
use Rattle.dw_ends.specs.declared.reason.Reason.TheVariants.{OrderNotFirst, NoSuchUnit}
use Rattle.dw_strings.specs.Strings.{with_string}
use Rattle.dw_line.specs.LinePrograms.{no_line_program}
use Rattle.dw_tree.specs.UnitValue.{UnitValue, new_unit}
use Rattle.dw_script_units.specs.Changes.{after_change}
use Rattle.dw_script_units.specs.LineChanges.{CountsBytes, after_line_change}
use Rattle.dw_script_units.specs.LocationLists.{after_location_list}
use Rattle.dw_script_units.specs.Names.{text_of}
use Rattle.dw_script_units.specs.RangeLists.{after_range_list}
use Rattle.dw_build.specs.ScriptValue.{ScriptValue, empty_script}
use Rattle.dw_build.specs.declared.script.Refusal.{Refusal}
use Rattle.dw_build.specs.declared.script.ScriptError.{ScriptError}
use Rattle.dw_build.specs.declared.script.ScriptError.TheVariants as whole

-- the units with one of them changed
abbrev pub with_unit_changed : ℕ → (UnitValue → Outcome UnitValue) → List UnitValue → Outcome (List UnitValue)
with_unit_changed i change us = do
  u ← ok_or (slice_get us i) NoSuchUnit
  v ← change u
  Ok (slice_set us i v)

-- a script with other units
abbrev pub with_units : ScriptValue → List UnitValue → ScriptValue
with_units s us = record s { dwarf = record s.dwarf { units = us }; has_begun = true }

-- a script with one more string, if none equals it
abbrev pub after_string : ScriptValue → List ℕ → ScriptValue
after_string s text = record s { dwarf = record s.dwarf { strings = with_string s.dwarf.strings text }; has_begun = true }

abbrev pub after_line_string : ScriptValue → List ℕ → ScriptValue
after_line_string s text = record s { dwarf = record s.dwarf { line_strings = with_string s.dwarf.line_strings text }; has_begun = true }

-- after a command
abbrev pub after_command : ScriptValue → Command → Outcome ScriptValue
after_command s (Order o) = if s.has_begun then Err OrderNotFirst else Ok (record s { endian = o; has_begun = true })
after_command s (AddUnit e) = Ok (with_units s (s.dwarf.units ++ new_unit e no_line_program ∷ []))
after_command s (AddString bytes) = text_of bytes >>= λ text. Ok (after_string s text)
after_command s (AddLineString bytes) = text_of bytes >>= λ text. Ok (after_line_string s text)
after_command s (ChangeUnit unit c) = with_unit_changed unit (after_change c) s.dwarf.units >>= λ us. Ok (with_units s us)
after_command s (ChangeLines unit c) = with_unit_changed unit (after_line_change c) s.dwarf.units >>= λ us. Ok (with_units s us)
after_command s (AddRanges unit ranges) = with_unit_changed unit (after_range_list ranges) s.dwarf.units >>= λ us. Ok (with_units s us)
after_command s (AddLocations unit locations) = with_unit_changed unit (after_location_list locations) s.dwarf.units >>= λ us. Ok (with_units s us)

-- after a line that may ask for nothing
abbrev pub after_asked : ScriptValue → Option Command → Outcome ScriptValue
after_asked s None = Ok s
after_asked s (Some c) = after_command s c

abbrev pub after_line : ScriptValue → List ℕ → Outcome ScriptValue
after_line s line = parsed_line line >>= after_asked s

-- after lines, of which the first has number n, by what each of them does; the first that is refused decides
abbrev pub after_each : {S : Type 0} → (S → List ℕ → Outcome S) → ℕ → S → List (List ℕ) → Result S Refusal
after_each step n s [] = Ok s
after_each step n s (line ∷ lines) = elim (step s line) [ Ok t ↦ after_each step (n + 1) t lines | Err reason ↦ Err (record { line = n; reason = reason }) ]

abbrev pub after_lines : ℕ → ScriptValue → List (List ℕ) → Result ScriptValue Refusal
after_lines n s lines = after_each after_line n s lines

-- what the bytes of a script build, or the first line that is refused
unfoldable pub script : List ℕ → Result ScriptValue Refusal
script bytes = after_lines 1 empty_script (pieces newline bytes)

-- a unit that is still built: it was neither written nor freed, and its line program is one that lines build
abbrev pub IsOpen : UnitValue → Type 0
IsOpen u = (u.is_written ≡ false) × (u.is_freed ≡ false) × CountsBytes u.line_program

abbrev pub AreOpen : List UnitValue → Type 0
AreOpen us = All IsOpen us

-- the same of a line with this number
abbrev pub RefusedAt : {T : Type 0} → ℕ → Outcome T → ScriptError → Type 0
RefusedAt n outcome (whole.Refused r) = (outcome ≡ Err r.reason) × (r.line ≡ n)
RefusedAt n outcome whole.NoMemory = Unit {0}

-- the same of all lines
abbrev pub RefusedWhole : {T : Type 0} → Result T Refusal → ScriptError → Type 0
RefusedWhole built (whole.Refused r) = built ≡ Err r
RefusedWhole built whole.NoMemory = Unit {0}
