-- What a Dwarf leaves in the sections of a set, and where that comes to stand once sets are linked.
use Rattle.std.specs.Prelude.{◌≡◌, ℕ, ◌+◌, Bool, true, false, List, [], ◌∷◌, length, take, map, Option, Some, None}
use Rattle.dw_base.specs.Numbers.{◌>>=◌}
use Rattle.dw_base.specs.declared.section_id.SectionId.{SectionId}
use Rattle.dw_base.specs.declared.section_id.SectionId.TheVariants.{DebugAbbrev, DebugStr, DebugLineStr, DebugLine, DebugRanges, DebugRngLists, DebugLoc, DebugLocLists, DebugInfo, DebugFrame, EhFrame}
use Rattle.dw_writer.specs.Drafts.{Draft, filled_text}
use Rattle.dw_writer.specs.Layout.{Layout}
use Rattle.dw_writer.specs.Meaning.{Meaning, Model, spelled_text}
use Rattle.dw_writer.specs.Resolved.{resolved}
use Rattle.dw_writer.specs.Texts.{Text, followed}
use Rattle.dw_writer.specs.Visits.{written_ids}
use Rattle.dw_strings.specs.Strings.{string_bytes}
use Rattle.dw_line.specs.LinePrograms.{line_program_size}
use Rattle.dw_line.specs.Parts.{sizes}
use Rattle.dw_tree.specs.Built.{File, at_begin}
use Rattle.dw_tree.specs.Elsewhere.{line_size, range_size}
use Rattle.dw_tree.specs.Pending.{Kept, AreInRow, info_of, units_draft, tables_of, locations_draft}
use Rattle.dw_dwarf.specs.DwarfValue.{DwarfValue}
use Rattle.dw_dwarf.specs.Left.{units_of}
use Rattle.dw_dwarf.specs.Written.{dwarf_lines, dwarf_ranges}
use Rattle.dw_link.specs.Sets.{Parts}

-- so many bytes, and their text in a layout
pub record Part : Type 0 where
  pub size : ℕ
  pub text : Model

-- bytes that hang on no layout
abbrev pub fixed : List ℕ → Part
fixed xs = record { size = length xs; text = λ big l. Some xs }

-- a Dwarf, and where its units stand, one behind another from the begin of their sections
pub record Placed : Type 0 where
  pub dwarf : DwarfValue
  pub kept : List Kept

-- the text of a draft of its units, in which each reference has the place of its entry
abbrev pub filled_part : Placed → Draft → Part
filled_part p d = record { size = d.size; text = filled_text (info_of (units_of p.dwarf) p.kept) d }

-- what it leaves in a section, if that is one that is joined
abbrev pub part_of : Placed → SectionId → Option Part
part_of p DebugAbbrev = Some (fixed (tables_of (units_of p.dwarf)))
part_of p DebugStr = Some (fixed (string_bytes p.dwarf.strings))
part_of p DebugLineStr = Some (fixed (string_bytes p.dwarf.line_strings))
part_of p DebugLine = Some (record { size = sizes line_size p.dwarf.units + sizes line_program_size p.dwarf.line_programs; text = dwarf_lines p.dwarf })
part_of p DebugRanges = Some (record { size = sizes (range_size false) p.dwarf.units; text = dwarf_ranges false p.dwarf })
part_of p DebugRngLists = Some (record { size = sizes (range_size true) p.dwarf.units; text = dwarf_ranges true p.dwarf })
part_of p DebugLoc = Some (filled_part p (locations_draft (units_of p.dwarf) false))
part_of p DebugLocLists = Some (filled_part p (locations_draft (units_of p.dwarf) true))
part_of p DebugInfo = Some (filled_part p (units_draft (units_of p.dwarf) p.kept))
part_of p DebugFrame = Some (fixed [])
part_of p EhFrame = Some (fixed [])
part_of p s = None

-- Where parts come to stand

abbrev pub size_in : Option Part → ℕ
size_in None = 0
size_in (Some q) = q.size

-- how long a section of these sets is
abbrev pub section_size : List Placed → SectionId → ℕ
section_size [] s = 0
section_size (p ∷ ps) s = size_in (part_of p s) + section_size ps s

-- where the parts of set n start, that of this section among them, and what symbols are
abbrev pub set_layout : List Placed → List ℕ → ℕ → SectionId → Layout
set_layout ps symbols n s = record { starts = map (section_size (take n ps)) written_ids; own_start = section_size (take n ps) s; symbols = symbols }

-- the text of a part, if there is one
abbrev pub text_in : Option Part → Model
text_in part big l = part >>= λ q. q.text big l

-- a section of these sets, of which the first is set n
abbrev pub section_from : List Placed → List ℕ → Bool → SectionId → ℕ → List Placed → Text
section_from all symbols big s n [] = Some []
section_from all symbols big s n (p ∷ ps) = followed (text_in (part_of p s) big (set_layout all symbols n s)) (section_from all symbols big s (n + 1) ps)

-- a section of all sets, each set's part in its own layout
unfoldable pub section_text : List Placed → List ℕ → Bool → SectionId → Text
section_text ps symbols big s = section_from ps symbols big s 0 ps

-- their units, each set's where its parts stand
abbrev pub files_behind : List Placed → List ℕ → ℕ → List Placed → List File
files_behind all symbols n [] = []
files_behind all symbols n (p ∷ ps) = record { units = units_of p.dwarf; layout = set_layout all symbols n DebugInfo } ∷ files_behind all symbols (n + 1) ps

-- each Dwarf with the places of its units
abbrev pub ArePlaced : List DwarfValue → List Placed → Type 0
ArePlaced [] [] = Unit {0}
ArePlaced [] (p ∷ ps) = ⊥
ArePlaced (d ∷ ds) [] = ⊥
ArePlaced (d ∷ ds) (p ∷ ps) = (p.dwarf ≡ d) × AreInRow at_begin (units_of d) p.kept × ArePlaced ds ps

-- What writers hold

-- a writer holds a part: so many bytes, which are its text wherever sections start
pub record HoldsPart (m : Meaning) (big : Bool) (q : Part) : Type 0 where
  pub order : m.is_big ≡ big
  pub long : length (spelled_text m.bytes) ≡ q.size
  pub resolves : (l : Layout) → resolved l m ≡ q.text big l

abbrev pub IsHeld : Option Meaning → Bool → Option Part → Type 0
IsHeld None big None = Unit {0}
IsHeld None big (Some q) = ⊥
IsHeld (Some m) big None = ⊥
IsHeld (Some m) big (Some q) = HoldsPart m big q

-- a set of sections holds what a Dwarf leaves, and nothing else
pub record IsSet (big : Bool) (set : Parts) (d : DwarfValue) : Type 0 where
  pub kept : List Kept
  pub in_row : AreInRow at_begin (units_of d) kept
  pub parts : (s : SectionId) → IsHeld (set s) big (part_of (record { dwarf = d; kept = kept }) s)

abbrev pub AreSets : Bool → List Parts → List DwarfValue → Type 0
AreSets big [] [] = Unit {0}
AreSets big [] (d ∷ ds) = ⊥
AreSets big (set ∷ sets) [] = ⊥
AreSets big (set ∷ sets) (d ∷ ds) = IsSet big set d × AreSets big sets ds
