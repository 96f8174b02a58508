-- The usual names of sections.
use Rattle.std.specs.Prelude.{ℕ, List, codes}
use Rattle.dw_base.specs.declared.section_id.SectionId.{SectionId}
use Rattle.dw_base.specs.declared.section_id.SectionId.TheVariants.{DebugAbbrev, DebugStr, DebugLineStr, DebugLine, DebugRanges, DebugRngLists, DebugLoc, DebugLocLists, DebugInfo, DebugFrame, EhFrame, DebugAddr, DebugStrOffsets, DebugMacinfo, DebugMacro, DebugAranges}

abbrev pub section_name : SectionId → List ℕ
section_name DebugAbbrev = codes ".debug_abbrev"
section_name DebugStr = codes ".debug_str"
section_name DebugLineStr = codes ".debug_line_str"
section_name DebugLine = codes ".debug_line"
section_name DebugRanges = codes ".debug_ranges"
section_name DebugRngLists = codes ".debug_rnglists"
section_name DebugLoc = codes ".debug_loc"
section_name DebugLocLists = codes ".debug_loclists"
section_name DebugInfo = codes ".debug_info"
section_name DebugFrame = codes ".debug_frame"
section_name EhFrame = codes ".eh_frame"
section_name DebugAddr = codes ".debug_addr"
section_name DebugStrOffsets = codes ".debug_str_offsets"
section_name DebugMacinfo = codes ".debug_macinfo"
section_name DebugMacro = codes ".debug_macro"
section_name DebugAranges = codes ".debug_aranges"
