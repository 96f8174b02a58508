-- References that are filled in, in .debug_info and in the sections of location lists.
use Rattle.std.specs.Prelude.{◌≡◌, ◌+◌, ◌≤◌, Bool, ◌||◌, List, IsTrue}
use Rattle.dw_base.specs.Numbers.{is_width}
use Rattle.dw_base.specs.declared.section_id.SectionId.TheVariants.{DebugInfo}
use Rattle.dw_writer.specs.Meaning.{Meaning, Layout, IsSameWriter, IsTidy, resolved, start_of}
use Rattle.dw_writer.specs.Drafts.{Info, started, filled, AreBetween, AreClear, HaveWidths}
use Rattle.dw_writer.specs.declared.fixup.DebugInfoFixup.{DebugInfoFixup}
use Rattle.dw_writer.specs.declared.sections.Sections.{Sections}
use Rattle.dw_base.specs.declared.error.Error.{Error}
use Rattle.dw_tree.specs.UnitFaults.{holes_fail}

-- Each reference gets the place of its entry. Where they stand one behind another, and no record meets them, that is so in
-- every layout.
pub record Fills (old new : Meaning) (info : Info) (hs : List DebugInfoFixup) : Type 0 where
  pub same : IsSameWriter old new
  pub size : new.size ≡ old.size
  pub resolves : IsTidy old → AreClear old hs → AreBetween 0 old.size hs → IsTidy new × ((l : Layout) → resolved l new ≡ filled old.is_big (started (start_of l DebugInfo) info) hs (resolved l old))

-- a reference lies in a section, and has the width of a number
pub record IsFillable (m : Meaning) (h : DebugInfoFixup) : Type 0 where
  pub inside : h.offset + h.size ≤ m.size
  pub width : IsTrue (is_width h.size)

-- references lie in a section one behind another, and have the widths of numbers
pub record AreFillable (m : Meaning) (hs : List DebugInfoFixup) : Type 0 where
  pub between : AreBetween 0 m.size hs
  pub widths : HaveWidths hs

-- In each of the three sections every reference gets the place of its entry.
pub record FillsAll {W : Type 0} (meaning : W → Meaning) (old new : Sections W) (info : Info) : Type 0 where
  pub units : Fills (meaning old.debug_info.0) (meaning new.debug_info.0) info old.debug_info_fixups
  pub locations : Fills (meaning old.debug_loc.0) (meaning new.debug_loc.0) info old.debug_loc_fixups
  pub location_lists : Fills (meaning old.debug_loclists.0) (meaning new.debug_loclists.0) info old.debug_loclists_fixups

-- the references of all three can be filled in
pub record AreAllFillable {W : Type 0} (meaning : W → Meaning) (s : Sections W) : Type 0 where
  pub units : AreFillable (meaning s.debug_info.0) s.debug_info_fixups
  pub locations : AreFillable (meaning s.debug_loc.0) s.debug_loc_fixups
  pub location_lists : AreFillable (meaning s.debug_loclists.0) s.debug_loclists_fixups

-- one of them leads nowhere, or to a place that has no room
abbrev pub open_fail : {W : Type 0} → (W → Meaning) → Sections W → Info → Error → Bool
open_fail meaning s info err =
    holes_fail info (meaning s.debug_info.0).is_plain s.debug_info_fixups err
    || (holes_fail info (meaning s.debug_loc.0).is_plain s.debug_loc_fixups err
    || holes_fail info (meaning s.debug_loclists.0).is_plain s.debug_loclists_fixups err)
