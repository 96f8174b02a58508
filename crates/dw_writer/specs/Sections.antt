-- The sections of a file: each by its id, and what is said of all of them.
use Rattle.std.specs.Prelude.{◌≡◌, ℕ, ◌+◌, Option, Some, None, []}
use Rattle.std.specs.Borrow.{LendsIf, MutBor, Fml, RattleType}
use Rattle.dw_base.specs.declared.section_id.SectionId.{SectionId}
use Rattle.dw_base.specs.declared.section_id.SectionId.TheVariants.{DebugAbbrev, DebugStr, DebugLineStr, DebugLine, DebugRanges, DebugRngLists, DebugLoc, DebugLocLists, DebugInfo, DebugFrame, EhFrame, DebugAddr, DebugStrOffsets, DebugMacinfo, DebugMacro, DebugAranges}
use Rattle.dw_writer.specs.Meaning.{Meaning}
use Rattle.dw_writer.specs.Causes.{HasRisen}
use Rattle.dw_writer.specs.declared.sections.Sections.{Sections}
use Rattle.dw_writer.specs.contracts.sections.Sections.{the_row}

-- the writer of the section of this id, if it is written
abbrev pub section_of : {W : Type 0} → Sections W → SectionId → Option W
section_of s DebugAbbrev = Some s.debug_abbrev.0
section_of s DebugStr = Some s.debug_str.0
section_of s DebugLineStr = Some s.debug_line_str.0
section_of s DebugLine = Some s.debug_line.0
section_of s DebugRanges = Some s.debug_ranges.0
section_of s DebugRngLists = Some s.debug_rnglists.0
section_of s DebugLoc = Some s.debug_loc.0
section_of s DebugLocLists = Some s.debug_loclists.0
section_of s DebugInfo = Some s.debug_info.0
section_of s DebugFrame = Some s.debug_frame.0
section_of s EhFrame = Some s.eh_frame.0
section_of s DebugAddr = None
section_of s DebugStrOffsets = None
section_of s DebugMacinfo = None
section_of s DebugMacro = None
section_of s DebugAranges = None

-- the sections with w as the writer of this one
abbrev pub with_section : {W : Type 0} → Sections W → SectionId → W → Sections W
with_section s DebugAbbrev w = record s { debug_abbrev = record { 0 = w } }
with_section s DebugStr w = record s { debug_str = record { 0 = w } }
with_section s DebugLineStr w = record s { debug_line_str = record { 0 = w } }
with_section s DebugLine w = record s { debug_line = record { 0 = w } }
with_section s DebugRanges w = record s { debug_ranges = record { 0 = w } }
with_section s DebugRngLists w = record s { debug_rnglists = record { 0 = w } }
with_section s DebugLoc w = record s { debug_loc = record { 0 = w } }
with_section s DebugLocLists w = record s { debug_loclists = record { 0 = w } }
with_section s DebugInfo w = record s { debug_info = record { 0 = w } }
with_section s DebugFrame w = record s { debug_frame = record { 0 = w } }
with_section s EhFrame w = record s { eh_frame = record { 0 = w } }
with_section s DebugAddr w = s
with_section s DebugStrOffsets w = s
with_section s DebugMacinfo w = s
with_section s DebugMacro w = s
with_section s DebugAranges w = s

-- the section of this id ends as the last value behind the loan, and all else stays
abbrev pub LendsSection : (W : RattleType) → MutBor (Sections W.Denot) → SectionId → Option (MutBor W.Denot) → Fml
LendsSection W s id r = LendsIf (the_row W) W s r (with_section s.now id) s.now

-- P holds of the writer of each section
pub record EachWriter {W : Type 0} (P : W → Type 0) (s : Sections W) : Type 0 where
  pub debug_abbrev : P s.debug_abbrev.0
  pub debug_str : P s.debug_str.0
  pub debug_line_str : P s.debug_line_str.0
  pub debug_line : P s.debug_line.0
  pub debug_ranges : P s.debug_ranges.0
  pub debug_rnglists : P s.debug_rnglists.0
  pub debug_loc : P s.debug_loc.0
  pub debug_loclists : P s.debug_loclists.0
  pub debug_info : P s.debug_info.0
  pub debug_frame : P s.debug_frame.0
  pub eh_frame : P s.eh_frame.0

-- every writer means m
abbrev pub AllMean : {W : Type 0} → (W → Meaning) → Sections W → Meaning → Type 0
AllMean meaning s m = EachWriter (λ w. meaning w ≡ m) s

-- no reference is left to be fixed up
pub record NoFixups {W : Type 0} (s : Sections W) : Type 0 where
  pub info : s.debug_info_fixups ≡ []
  pub loc : s.debug_loc_fixups ≡ []
  pub loclists : s.debug_loclists_fixups ≡ []

-- the faults of all writers
abbrev pub fault_sum : {W : Type 0} → (W → Meaning) → Sections W → ℕ
fault_sum meaning s =
    (meaning s.debug_abbrev.0).faults + (meaning s.debug_str.0).faults + (meaning s.debug_line_str.0).faults
    + (meaning s.debug_line.0).faults + (meaning s.debug_ranges.0).faults + (meaning s.debug_rnglists.0).faults
    + (meaning s.debug_loc.0).faults + (meaning s.debug_loclists.0).faults + (meaning s.debug_info.0).faults
    + (meaning s.debug_frame.0).faults + (meaning s.eh_frame.0).faults

-- the writer of some section failed and counted that
pub record SomeHasRisen {W : Type 0} (meaning : W → Meaning) (old new : Sections W) : Type 0 where
  pub id : SectionId
  pub before : W
  pub after : W
  pub was : section_of old id ≡ Some before
  pub is : section_of new id ≡ Some after
  pub risen : HasRisen (meaning before) (meaning after)
