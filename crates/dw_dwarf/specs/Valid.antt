-- A Dwarf that can be written.
use Rattle.std.specs.Prelude.{◌≡◌, ◌⊎◌, ℕ, Bool, false, List, All, IsTrue}
use Rattle.std.specs.List.{list_any}
use Rattle.dw_base.specs.declared.error.Error.{Error}
use Rattle.dw_writer.specs.Contents.{Meaning}
use Rattle.dw_writer.specs.Sections.{SomeHasRisen}
use Rattle.dw_writer.specs.declared.sections.Sections.{Sections}
use Rattle.dw_line.specs.LinePrograms.{LineProgramValue, encoding_of, line_program_fails}
use Rattle.dw_line.specs.Parts.{NoCause}
use Rattle.dw_tree.specs.Built.{Numbered, Starts, numbered, at_begin}
use Rattle.dw_tree.specs.Causes.{Because, UnitsFail}
use Rattle.dw_tree.specs.Pending.{Kept, AreInRow, info_of, starts_of}
use Rattle.dw_tree.specs.Elsewhere.{End, Ends, Elsewhere, ends_of}
use Rattle.dw_tree.specs.ReferenceFaults.{references_fail}
use Rattle.dw_tree.specs.UnitValue.{UnitValue}
use Rattle.dw_tree.specs.Valid.{AreWritable, ReferencesLead}
use Rattle.dw_dwarf.specs.DwarfValue.{DwarfValue}

-- it wasn't written before, and not skipped
abbrev pub IsUnwritten : UnitValue → Type 0
IsUnwritten u = u.is_written ≡ false

abbrev pub AreUnwritten : DwarfValue → Type 0
AreUnwritten d = All IsUnwritten d.units

-- what its units find elsewhere, where their own parts of other sections are to begin there
abbrev pub found_from : Ends → DwarfValue → Elsewhere
found_from ends d = record { line_strings = d.line_strings; strings = d.strings; ends = ends }

-- what they find where these sections end
abbrev pub found_in : {W : Type 0} → (W → Meaning) → Sections W → DwarfValue → Elsewhere
found_in meaning s d = found_from (ends_of meaning s) d

-- where a section is empty
abbrev pub empty_end : Bool → End
empty_end is_plain = record { size = 0; is_plain = is_plain }

-- where all of them are
abbrev pub empty_ends : Bool → Ends
empty_ends is_plain = record {
  lines = empty_end is_plain;
  ranges = empty_end is_plain;
  range_lists = empty_end is_plain;
  locations = empty_end is_plain;
  location_lists = empty_end is_plain;
}

-- its units as they are written and as references name them, where their own parts of other sections are to begin there
abbrev pub settled_units : Ends → DwarfValue → List Numbered
settled_units ends d = numbered (found_from ends d) d.units

-- one of these line programs has this fault, each as that of a unit of its own encoding
abbrev pub programs_fail : List (List ℕ) → List (List ℕ) → Bool → List LineProgramValue → Error → Bool
programs_fail line_strings strings is_plain programs err = list_any (λ p. line_program_fails strings line_strings is_plain (encoding_of p.program) p err) programs

-- so has one of no unit
abbrev pub extra_fails : Bool → DwarfValue → Error → Bool
extra_fails is_plain d err = programs_fail d.line_strings d.strings is_plain d.line_programs err

-- A Dwarf can be written into writers that are plain or not, where its sections begin: every unit has a version and an address
-- size, values, places and a length that have a spelling, every line program in use, every range list and every location
-- list has one, and every reference across units leads to an entry of one of them, whose place has room.
pub record IsValidAt (is_plain : Bool) (at : Starts) (ends : Ends) (d : DwarfValue) : Type 0 where
  pub units : AreWritable is_plain (found_from ends d) at.abbrevs d.units
  pub references : ReferencesLead is_plain ends at (settled_units ends d)
  pub extra : NoCause (extra_fails ends.lines.is_plain d)

-- the same where the sections are its own
abbrev pub IsValid : Bool → DwarfValue → Type 0
IsValid is_plain d = IsValidAt is_plain at_begin (empty_ends is_plain) d

-- A reference across units leads to no entry, or its place has no room.
pub record SomeReferenceFails (is_plain : Bool) (ends : Ends) (at : Starts) (us : List Numbered) (err : Error) : Type 0 where
  pub kept : List Kept
  pub in_row : AreInRow at us kept
  pub fails : IsTrue (references_fail (info_of us kept) is_plain ends us kept err)

-- A unit has a fault where its table and its own parts of other sections are to stand, a reference across units has one, or a line program of
-- no unit.
abbrev pub DwarfFails : Bool → Starts → Ends → DwarfValue → Error → Type 0
DwarfFails is_plain at ends d err =
    UnitsFail is_plain (found_from ends d) at.abbrevs d.units err
    ⊎ (SomeReferenceFails is_plain ends at (settled_units ends d) err ⊎ IsTrue (extra_fails ends.lines.is_plain d err))

-- why it is refused
abbrev pub DwarfRefused : {W : Type 0} → (W → Meaning) → Sections W → Sections W → DwarfValue → Error → Type 0
DwarfRefused meaning old new d err =
    Because (SomeHasRisen meaning old new) (DwarfFails (meaning old.debug_info.0).is_plain (starts_of meaning old) (ends_of meaning old) d) err
