-- The units that a script builds.
use Rattle.std.proofs.Common.{◌≡◌, ◌∙◌, ap, subst, ℕ, zero, suc, ◌+◌, List, [], ◌∷◌, ◌++◌, length, refl, arith, true, false, Bool, All, slice_get, slice_set}
use Rattle.std.specs.Option.{option_map}
use Rattle.std.specs.Prelude.{Result, Ok, Err, Option, Some, None, is_none, ok_or, not, nat_lt, ◌==◌, if◌then◌else◌}
use Rattle.std.proofs.lemmas.List.Elements.{All-set, All-append}
use Rattle.std.proofs.lemmas.Option.{slice_get_within, get_or_from_slice_get}
use Rattle.dw_base.specs.declared.common.Encoding.{Encoding}
use Rattle.dw_script.specs.Lines.{parsed_line}
use Rattle.dw_ends.specs.Pieces.{newline, pieces}
use Rattle.dw_ends.specs.Fields.{Outcome, ◌>>=◌}
use Rattle.dw_script.specs.declared.command.Command.{Command}
use Rattle.dw_script.specs.declared.command.Command.TheVariants.{Order, Unit as AddUnit, String as AddString, LineString as AddLineString, Change as ChangeUnit, Line as ChangeLines, RangeList as AddRanges, LocationList as AddLocations}
use Rattle.dw_script.specs.declared.change.Change.{Change}
use Rattle.dw_script.specs.declared.change.Change.TheVariants as change
use Rattle.dw_script.specs.declared.line_change.LineChange.{LineChange}
use Rattle.dw_script.specs.declared.line_change.LineChange.TheVariants as change_lines
use Rattle.dw_script_fields.specs.declared.location.ScriptLocation.{ScriptLocation}
use Rattle.dw_script_fields.specs.declared.range.ScriptRange.{ScriptRange}
use Rattle.dw_ends.specs.declared.reason.Reason.{Reason}
use Rattle.dw_ends.specs.declared.reason.Reason.TheVariants.{OrderNotFirst, NoSuchUnit, NoSuchEntry, NotReserved, BadTag, BadName, ZeroByte, NoLineProgram, NoSuchDirectory, InSequence, NotInSequence, NoSuchFile, AddressBack}
use Rattle.dw_entries.specs.Content.{has_zero}
use Rattle.dw_line.specs.LinePrograms.{LineProgramValue, no_line_program, encoding_of, line_encoding_of, is_in_sequence, directories_of, file_count_of, last_offset_of}
use Rattle.dw_line.specs.ProgramTexts.{ProgramValue, with_directory, with_file, with_begin, with_row, with_end}
use Rattle.dw_tree.specs.UnitValue.{UnitValue, new_unit, is_reserved}
use Rattle.dw_build.specs.Script.{with_units, with_unit_changed, after_string, after_line_string, after_command, after_asked, after_line, after_lines, script, IsOpen, AreOpen}
use Rattle.dw_script_units.specs.Changes.{after_change}
use Rattle.dw_script_units.specs.LineChanges.{CountsBytes, with_next_row, after_program_change, after_line_change}
use Rattle.dw_script_units.specs.LocationLists.{after_location_list}
use Rattle.dw_script_units.specs.Names.{name_of, listed_name}
use Rattle.dw_script_units.specs.RangeLists.{after_range_list}
use Rattle.dw_build.specs.ScriptValue.{ScriptValue, empty_script}
use Rattle.dw_build.specs.declared.script.Refusal.{Refusal}

-- what holds of the value of a script, if it has one
abbrev pub IfBuilds : {E : Type 0} → Result ScriptValue E → Type 0
IfBuilds (Ok s) = AreOpen s.dwarf.units
IfBuilds (Err e) = Unit {0}

-- the unit at an index is still built
pub open_at : (us : List UnitValue) (i : ℕ) (u : UnitValue) → All IsOpen us → slice_get us i ≡ Some u → IsOpen u
open_at us i u all at = subst IsOpen (get_or_from_slice_get us i u u at) (all i u (slice_get_within us i u at))

pub none_open : AreOpen []
none_open k d within = absurd (omega arith)

one_open : (u : UnitValue) → IsOpen u → All IsOpen (u ∷ [])
one_open u h zero d within = h
one_open u h (suc k) d within = absurd (omega arith)

order_open : (b : Bool) (s t : ScriptValue) → AreOpen t.dwarf.units → IfBuilds (if b then Err OrderNotFirst else Ok t)
order_open true s t h = tt
order_open false s t h = h

unit_open : (s : ScriptValue) (e : Encoding) → AreOpen s.dwarf.units → IfBuilds {E = Reason} (Ok (with_units s (s.dwarf.units ++ new_unit e no_line_program ∷ [])))
unit_open s e h = All-append IsOpen s.dwarf.units (new_unit e no_line_program ∷ []) h (one_open (new_unit e no_line_program) (refl, refl, refl))

strings_open : (after : List ℕ → ScriptValue) → ((text : List ℕ) → AreOpen (after text).dwarf.units) → (bytes : List ℕ) (b : Bool) →
    IfBuilds {E = Reason} ((let r : Outcome (List ℕ) = if b then Err ZeroByte else Ok bytes in r) >>= λ text. Ok (after text))
strings_open after h bytes true = tt
strings_open after h bytes false = h bytes

-- a change of a unit doesn't end it
abbrev LeavesOpen : (UnitValue → Outcome UnitValue) → Type 0
LeavesOpen change = (u v : UnitValue) → change u ≡ Ok v → IsOpen u → IsOpen v

changed_open : (change : UnitValue → Outcome UnitValue) (s : ScriptValue) (us : List UnitValue) (i : ℕ) → LeavesOpen change → AreOpen us → IfBuilds (with_unit_changed i change us >>= λ vs. Ok (with_units s vs))
changed_open change s us i leaves h = found (slice_get us i) refl
  where
    done : (u : UnitValue) (r : Outcome UnitValue) → slice_get us i ≡ Some u → change u ≡ r → IfBuilds ((r >>= λ v. Ok (slice_set us i v)) >>= λ vs. Ok (with_units s vs))
    done u (Ok v) at e = All-set IsOpen us i v (leaves u v e (open_at us i u h at)) h
    done u (Err reason) at e = tt

    found : (o : Option UnitValue) → slice_get us i ≡ o → IfBuilds ((ok_or o NoSuchUnit >>= λ u. (change u >>= λ v. Ok (slice_set us i v))) >>= λ vs. Ok (with_units s vs))
    found (Some u) at = done u (change u) at refl
    found None at = tt

-- What holds of a value that conditions allow.
module _ {A : Type 0} (P : A → Type 0) where
  allowed : (x y : A) → ◌≡◌ {A = Outcome A} (Ok x) (Ok y) → P x → P y
  allowed x y e h = let same : x ≡ y = cc in subst P same h

  condition : (b : Bool) (reason : Reason) (r : Outcome A) (y : A) → (if b then Err reason else r) ≡ Ok y → (r ≡ Ok y → P y) → P y
  condition true reason r y e more = let clash : ◌≡◌ {A = Outcome A} (Err reason) (Ok y) = e in absurd cc
  condition false reason r y e more = more e

  bound : {B : Type 0} (r : Outcome B) (next : B → Outcome A) (y : A) → (r >>= next) ≡ Ok y → ((x : B) → next x ≡ Ok y → P y) → P y
  bound (Ok x) next y e more = more x e
  bound (Err reason) next y e more = let clash : ◌≡◌ {A = Outcome A} (Err reason) (Ok y) = e in absurd cc

change_leaves : (c : Change) → LeavesOpen (after_change c)
change_leaves (change.Add parent tag) u v e h =
    condition IsOpen (not (nat_lt parent u.reserved)) NoSuchEntry _ v e (λ e. condition IsOpen (tag.0 == 0) BadTag _ v e (λ e. allowed IsOpen _ v e h))
change_leaves change.Reserve u v e h = allowed IsOpen _ v e h
change_leaves (change.AddReserved entry parent tag) u v e h =
    condition IsOpen (not (nat_lt parent u.reserved)) NoSuchEntry _ v e
    (λ e. condition IsOpen (not (is_reserved u entry)) NotReserved _ v e (λ e. condition IsOpen (tag.0 == 0) BadTag _ v e (λ e. allowed IsOpen _ v e h)))
change_leaves (change.Sibling entry sibling) u v e h =
    condition IsOpen (not (nat_lt entry (length u.entries))) NoSuchEntry _ v e (λ e. allowed IsOpen _ v e h)
change_leaves (change.Set entry name x) u v e h =
    condition IsOpen (not (nat_lt entry (length u.entries))) NoSuchEntry _ v e (λ e. condition IsOpen (not (nat_lt 1 name.0)) BadName _ v e (λ e. allowed IsOpen _ v e h))
change_leaves (change.Delete entry name) u v e h =
    condition IsOpen (not (nat_lt entry (length u.entries))) NoSuchEntry _ v e (λ e. allowed IsOpen _ v e h)
change_leaves (change.DeleteChild parent entry) u v e h =
    condition IsOpen (not (nat_lt parent (length u.entries))) NoSuchEntry _ v e (λ e. allowed IsOpen _ v e h)

-- a change of other parts of a program leaves it counting bytes
counts_bytes : (f : ProgramValue → ProgramValue) → ((p : ProgramValue) → (f p).line_encoding ≡ p.line_encoding) → (o : Option ProgramValue) → (line_encoding_of o).minimum_instruction_length ≡ 1 →
    (line_encoding_of (option_map f o)).minimum_instruction_length ≡ 1
counts_bytes f same None h = h
counts_bytes f same (Some p) h = ap (λ e. e.minimum_instruction_length) (same p) ∙ h

program_change_leaves : (c : LineChange) (e : Encoding) (v p : LineProgramValue) → after_program_change c e v ≡ Ok p → CountsBytes v → CountsBytes p
program_change_leaves (change_lines.New text) e v p is h = bound CountsBytes (name_of text) _ p is (λ name is. allowed CountsBytes _ p is refl)
program_change_leaves (change_lines.AddDirectory text) e v p is h =
    condition CountsBytes (is_none v.program) NoLineProgram _ p is
    (λ is. bound CountsBytes (listed_name (encoding_of v.program).version text) _ p is
    (λ name is. allowed CountsBytes _ p is (counts_bytes (with_directory name) (λ q. refl) v.program h)))
program_change_leaves (change_lines.AddFile text directory) e v p is h =
    condition CountsBytes (is_none v.program) NoLineProgram _ p is
    (λ is. bound CountsBytes (listed_name (encoding_of v.program).version text) _ p is
    (λ name is. condition CountsBytes (not (nat_lt directory (length (directories_of v.program)))) NoSuchDirectory _ p is
    (λ is. allowed CountsBytes _ p is (counts_bytes (with_file name (record { 0 = directory }) None) (λ q. refl) v.program h))))
program_change_leaves (change_lines.BeginSequence address) e v p is h =
    condition CountsBytes (is_none v.program) NoLineProgram _ p is
    (λ is. condition CountsBytes (is_in_sequence v.program) InSequence _ p is
    (λ is. allowed CountsBytes _ p is (counts_bytes (with_begin address) (λ q. refl) v.program h)))
program_change_leaves (change_lines.AddRow offset file line column) e v p is h =
    condition CountsBytes (is_none v.program) NoLineProgram _ p is
    (λ is. condition CountsBytes (not (is_in_sequence v.program)) NotInSequence _ p is
    (λ is. condition CountsBytes (not (nat_lt file (file_count_of v.program))) NoSuchFile _ p is
    (λ is. condition CountsBytes (nat_lt offset (last_offset_of v.program)) AddressBack _ p is
    (λ is. allowed CountsBytes _ p is (counts_bytes (with_row (with_next_row offset file line column v).row) (λ q. refl) v.program h)))))
program_change_leaves (change_lines.EndSequence offset) e v p is h =
    condition CountsBytes (is_none v.program) NoLineProgram _ p is
    (λ is. condition CountsBytes (not (is_in_sequence v.program)) NotInSequence _ p is
    (λ is. condition CountsBytes (nat_lt offset (last_offset_of v.program)) AddressBack _ p is
    (λ is. allowed CountsBytes _ p is (counts_bytes (with_end offset) (λ q. refl) v.program h))))

line_change_leaves : (c : LineChange) → LeavesOpen (after_line_change c)
line_change_leaves c u v e h = by_program (after_program_change c u.encoding u.line_program) refl e
  where
    by_program : (r : Outcome LineProgramValue) → after_program_change c u.encoding u.line_program ≡ r → (r >>= λ p. Ok (record u { line_program = p })) ≡ Ok v → IsOpen v
    by_program (Ok p) is e = allowed IsOpen (record u { line_program = p }) v e (h.0, h.1, program_change_leaves c u.encoding u.line_program p is h.2)
    by_program (Err reason) is e = let clash : ◌≡◌ {A = Outcome UnitValue} (Err reason) (Ok v) = e in absurd cc

range_list_leaves : (ranges : List ScriptRange) → LeavesOpen (after_range_list ranges)
range_list_leaves ranges u v e h = allowed IsOpen _ v e h

location_list_leaves : (locations : List ScriptLocation) → LeavesOpen (after_location_list locations)
location_list_leaves locations u v e h = allowed IsOpen _ v e h

pub command_open : (s : ScriptValue) (c : Command) → AreOpen s.dwarf.units → IfBuilds (after_command s c)
command_open s (Order o) h = order_open s.has_begun s (record s { endian = o; has_begun = true }) h
command_open s (AddUnit e) h = unit_open s e h
command_open s (AddString bytes) h = strings_open (after_string s) (λ text. h) bytes (has_zero bytes)
command_open s (AddLineString bytes) h = strings_open (after_line_string s) (λ text. h) bytes (has_zero bytes)
command_open s (ChangeUnit unit c) h = changed_open (after_change c) s s.dwarf.units unit (change_leaves c) h
command_open s (ChangeLines unit c) h = changed_open (after_line_change c) s s.dwarf.units unit (line_change_leaves c) h
command_open s (AddRanges unit ranges) h = changed_open (after_range_list ranges) s s.dwarf.units unit (range_list_leaves ranges) h
command_open s (AddLocations unit locations) h = changed_open (after_location_list locations) s s.dwarf.units unit (location_list_leaves locations) h

asked_open : (s : ScriptValue) (r : Outcome (Option Command)) → AreOpen s.dwarf.units → IfBuilds (r >>= after_asked s)
asked_open s (Ok None) h = h
asked_open s (Ok (Some c)) h = command_open s c h
asked_open s (Err reason) h = tt

built_open : {E : Type 0} (r : Result ScriptValue E) (s : ScriptValue) → r ≡ Ok s → IfBuilds r → AreOpen s.dwarf.units
built_open {E = E} (Ok t) s e h = let P : Result ScriptValue E → Type 0 = λ q. IfBuilds q in subst P e h
built_open (Err r) s e h = cc

-- a line leaves units open
pub line_open : (s t : ScriptValue) (line : List ℕ) → after_line s line ≡ Ok t → AreOpen s.dwarf.units → AreOpen t.dwarf.units
line_open s t line e h = built_open (after_line s line) t e (asked_open s (parsed_line line) h)

outcome_open : (n : ℕ) (lines : List (List ℕ)) (r : Outcome ScriptValue) → ((t : ScriptValue) → AreOpen t.dwarf.units → IfBuilds (after_lines (n + 1) t lines)) → IfBuilds r →
    IfBuilds (elim r as (λ _. Result ScriptValue Refusal) [ Ok t ↦ after_lines (n + 1) t lines | Err reason ↦ Err (record { line = n; reason = reason }) ])
outcome_open n lines (Ok t) more h = more t h
outcome_open n lines (Err reason) more h = tt

lines_open : (lines : List (List ℕ)) (n : ℕ) (s : ScriptValue) → AreOpen s.dwarf.units → IfBuilds (after_lines n s lines)
lines_open [] n s h = h
lines_open (line ∷ lines) n s h = outcome_open n lines (after_line s line) (λ t k. lines_open lines (n + 1) t k) (asked_open s (parsed_line line) h)

pub script_open : (bytes : List ℕ) (s : ScriptValue) → script bytes ≡ Ok s → AreOpen s.dwarf.units
unfolding script
script_open bytes s e = built_open (script bytes) s e (lines_open (pieces newline bytes) 1 empty_script none_open)
