-- Where sections start and what symbols are, once they are linked.
use Rattle.std.specs.Prelude.{ℕ, zero, suc, Bool, true, false, List, Option, Some, slice_index, slice_get}
use Rattle.std.specs.List.{list_all}
use Rattle.dw_base.specs.declared.section_id.SectionId.{SectionId}
use Rattle.dw_base.specs.declared.section_id.SectionId.TheVariants.{DebugAbbrev, DebugStr, DebugLineStr, DebugLine, DebugRanges, DebugRngLists, DebugLoc, DebugLocLists, DebugInfo, DebugFrame, EhFrame, DebugAddr, DebugStrOffsets, DebugMacinfo, DebugMacro, DebugAranges}
use Rattle.dw_writer.specs.declared.relocate.RelocationTarget.{RelocationTarget}
use Rattle.dw_writer.specs.declared.relocate.RelocationTarget.TheVariants.{Symbol, Section}

-- the number of a section, by which its start is found
abbrev pub section_number : SectionId → ℕ
section_number DebugAbbrev = 0
section_number DebugStr = 1
section_number DebugLineStr = 2
section_number DebugLine = 3
section_number DebugRanges = 4
section_number DebugRngLists = 5
section_number DebugLoc = 6
section_number DebugLocLists = 7
section_number DebugInfo = 8
section_number DebugFrame = 9
section_number EhFrame = 10
section_number DebugAddr = 11
section_number DebugStrOffsets = 12
section_number DebugMacinfo = 13
section_number DebugMacro = 14
section_number DebugAranges = 15

-- Where what the writers have written starts in the sections, by their numbers, where the writer's own part starts in
-- its section, and the values of symbols. Only pointers that count from their own place look at the second.
pub record Layout : Type 0 where
  pub starts : List ℕ
  pub own_start : ℕ
  pub symbols : List ℕ

-- where a section starts; one that isn't listed starts at 0
abbrev pub start_of : Layout → SectionId → ℕ
start_of l s = slice_index l.starts (section_number s)

abbrev pub is_zero : ℕ → Bool
is_zero zero = true
is_zero (suc n) = false

-- every section starts at 0
abbrev pub is_at_zero : Layout → Bool
is_at_zero l = list_all is_zero l.starts

-- what a target adds to the number in its place; a symbol that isn't listed has no value
abbrev pub target_value : Layout → RelocationTarget → Option ℕ
target_value l (Symbol n) = slice_get l.symbols n
target_value l (Section s) = Some (start_of l s)

-- a target is a symbol
abbrev pub is_symbol : RelocationTarget → Bool
is_symbol (Symbol n) = true
is_symbol (Section s) = false
