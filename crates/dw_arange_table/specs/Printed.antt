-- The texts that are printed.
use Rattle.std.specs.Prelude.{◌≡◌, ℕ, List, ◌++◌, codes, decimal}
use Rattle.std.specs.List.{flat_map}
use Rattle.dw_base.specs.SectionName.{section_name}
use Rattle.dw_base.specs.declared.section_id.SectionId.TheVariants.{DebugAranges}
use Rattle.dw_ends.specs.Listing.{AreBytes, section_line}
use Rattle.dw_ends.specs.Reasons.{reason_text}
use Rattle.dw_ends.specs.declared.reason.Reason.{Reason}

-- the commands
abbrev pub usage_text : List ℕ
usage_text = codes "usage: table | find ADDR\n"

-- the input is longer than a listing may be
abbrev pub too_long_text : List ℕ
too_long_text = codes "too long\n"

-- a line of the listing is refused
abbrev pub line_text : ℕ → Reason → List ℕ
line_text line reason = codes "line " ++ decimal line ++ codes ": " ++ reason_text reason ++ codes "\n"

-- the table is refused for a cause of this name
abbrev pub refused_text : List ℕ → List ℕ
refused_text name = codes "refused: " ++ name ++ codes "\n"

-- the line of the section, whose bytes are numbers below 256
pub record IsSectionLine (bytes text : List ℕ) : Type 0 where
  pub is : text ≡ section_line (section_name DebugAranges) bytes
  pub are : AreBytes bytes

-- the line of a unit's place
abbrev pub place_line : ℕ → List ℕ
place_line place = decimal place ++ codes "\n"

-- the places of units, one a line
abbrev pub places_text : List ℕ → List ℕ
places_text places = flat_map place_line places
