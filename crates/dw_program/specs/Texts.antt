-- The texts that are printed.
use Rattle.std.specs.Prelude.{ℕ, Bool, List, [], ◌∷◌, ◌++◌, length, map, codes, decimal, sum, sum_by}
use Rattle.dw_base.specs.SectionName.{section_name}
use Rattle.dw_base.specs.declared.section_id.SectionId.TheVariants.{DebugAbbrev, DebugStr, DebugLineStr, DebugLine, DebugRanges, DebugRngLists, DebugLoc, DebugLocLists, DebugInfo, DebugFrame, EhFrame}
use Rattle.dw_base.specs.ErrorName.{error_name}
use Rattle.dw_base.specs.declared.error.Error.{Error}
use Rattle.dw_dwarf.specs.Written.{SectionTexts}
use Rattle.dw_dwarf.specs.DwarfValue.{DwarfValue}
use Rattle.dw_ends.specs.Listing.{listing, read_as}
use Rattle.dw_ends.specs.Sections.{ListingValue}
use Rattle.dw_ends.specs.Reasons.{reason_text}
use Rattle.dw_sources.specs.ConvertErrors.{convert_error_name}
use Rattle.dw_sources.specs.declared.convert_error.ConvertError.{ConvertError}
use Rattle.dw_link.specs.ErrorName.{link_error_name}
use Rattle.dw_link.specs.declared.error.LinkError.{LinkError}
use Rattle.dw_build.specs.declared.script.Refusal.{Refusal}

-- the commands
abbrev pub usage_text : List ℕ
usage_text = codes "usage: build | convert | link | make N\n"

-- the input is longer than a script may be
abbrev pub too_long_text : List ℕ
too_long_text = codes "too long\n"

-- a line of the script or of the listing is refused
abbrev pub refusal_text : Refusal → List ℕ
refusal_text r = codes "line " ++ decimal r.line ++ codes ": " ++ reason_text r.reason ++ codes "\n"

-- writing, converting or linking is refused for a cause of this name
abbrev pub refused_for : List ℕ → List ℕ
refused_for name = codes "refused: " ++ name ++ codes "\n"

-- writing is refused
abbrev pub refused_text : Error → List ℕ
refused_text e = codes "refused: " ++ error_name e ++ codes "\n"

-- converting is refused
abbrev pub convert_refused_text : ConvertError → List ℕ
convert_refused_text e = codes "refused: " ++ convert_error_name e ++ codes "\n"

-- linking is refused
abbrev pub link_refused_text : LinkError → List ℕ
link_refused_text e = codes "refused: " ++ link_error_name e ++ codes "\n"

-- each under its name, in the order in which they are listed
abbrev pub named : SectionTexts → List (List ℕ × List ℕ)
named s =
    (section_name DebugAbbrev, s.debug_abbrev) ∷ (section_name DebugStr, s.debug_str) ∷ (section_name DebugLineStr, s.debug_line_str)
    ∷ (section_name DebugLine, s.debug_line) ∷ (section_name DebugRanges, s.debug_ranges) ∷ (section_name DebugRngLists, s.debug_rnglists)
    ∷ (section_name DebugLoc, s.debug_loc) ∷ (section_name DebugLocLists, s.debug_loclists) ∷ (section_name DebugInfo, s.debug_info)
    ∷ (section_name DebugFrame, s.debug_frame) ∷ (section_name EhFrame, s.eh_frame) ∷ []

-- the listing of sections in a byte order
abbrev pub sections_text : Bool → SectionTexts → List ℕ
sections_text big s = listing big (named s)

-- what that listing says when it is read
abbrev pub texts_read : Bool → SectionTexts → ListingValue
texts_read big s = read_as big (map (λ n. n.1) (named s))

-- how many units and entries there are, how long .debug_info and .debug_abbrev are, and the sum of the bytes of the former
abbrev pub counts_text : ℕ → ℕ → List ℕ → List ℕ → List ℕ
counts_text units entries info abbrevs =
    codes "units " ++ decimal units ++ codes " entries " ++ decimal entries ++ codes " info " ++ decimal (length info)
    ++ codes " abbrev " ++ decimal (length abbrevs) ++ codes " sum " ++ decimal (sum info) ++ codes "\n"

-- what `make` tells of what it wrote
abbrev pub summary_text : DwarfValue → SectionTexts → List ℕ
summary_text d s = counts_text (length d.units) (sum_by (λ u. length u.entries) d.units) s.debug_info s.debug_abbrev
