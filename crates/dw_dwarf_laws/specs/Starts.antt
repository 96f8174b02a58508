-- Where sections start.
use Rattle.std.specs.Prelude.{◌≡◌, ℕ}
use Rattle.dw_base.specs.declared.section_id.SectionId.{SectionId}
use Rattle.dw_base.specs.declared.section_id.SectionId.TheVariants.{DebugAbbrev, DebugStr, DebugLineStr, DebugLine, DebugRanges, DebugRngLists, DebugLoc, DebugLocLists, DebugInfo}
use Rattle.dw_writer.specs.Layout.{Layout, start_of}

-- a layout in which the sections that places are counted in start there
pub record StartsAt (starts : SectionId → ℕ) (l : Layout) : Type 0 where
  pub abbrevs : start_of l DebugAbbrev ≡ starts DebugAbbrev
  pub strings : start_of l DebugStr ≡ starts DebugStr
  pub line_strings : start_of l DebugLineStr ≡ starts DebugLineStr
  pub lines : start_of l DebugLine ≡ starts DebugLine
  pub ranges : start_of l DebugRanges ≡ starts DebugRanges
  pub range_lists : start_of l DebugRngLists ≡ starts DebugRngLists
  pub locations : start_of l DebugLoc ≡ starts DebugLoc
  pub location_lists : start_of l DebugLocLists ≡ starts DebugLocLists
  pub info : start_of l DebugInfo ≡ starts DebugInfo
