-- What the command `link` answers of sets.
use Rattle.std.specs.Prelude.{◌≡◌, ℕ, false, List, All, take, Option, Some, None, Ok, slice_get}
use Rattle.dw_base.specs.Order.{is_big_of}
use Rattle.dw_base.specs.declared.error.Error.{Error}
use Rattle.dw_base.specs.declared.section_id.SectionId.{SectionId}
use Rattle.dw_base.specs.declared.section_id.SectionId.TheVariants.{DebugAbbrev, DebugStr, DebugLineStr, DebugLine, DebugRanges, DebugRngLists, DebugLoc, DebugLocLists, DebugInfo, DebugFrame, EhFrame}
use Rattle.dw_tree.specs.Built.{Built}
use Rattle.dw_dwarf.specs.DwarfValue.{DwarfValue}
use Rattle.dw_dwarf.specs.Valid.{IsValid}
use Rattle.dw_dwarf.specs.Written.{SectionTexts}
use Rattle.dw_ends.specs.Sections.{sections_of}
use Rattle.dw_link.specs.Lists.{FindRanges, FindLocations}
use Rattle.dw_link.specs.Outcome.{IsFirstFault}
use Rattle.dw_link.specs.Sets.{Parts}
use Rattle.dw_link.specs.declared.error.LinkError.{LinkError}
use Rattle.dw_build.specs.SetsValue.{SetsValue}
use Rattle.dw_dwarf_laws.specs.Dwarfs.{numbered_dwarf}
use Rattle.dw_dwarf_laws.specs.Joined.{IsValidBehind}
use Rattle.dw_program.specs.Faults.{HasFault}
use Rattle.dw_program.specs.SetParts.{Placed, ArePlaced, AreSets, files_behind, section_size, section_text, set_layout}
use Rattle.dw_program.specs.Texts.{refused_text, link_refused_text, sections_text, texts_read}

-- each can be written by writers that record relocations, which take symbols
abbrev pub IsValidSet : DwarfValue → Type 0
IsValidSet d = IsValid false d

abbrev pub AreValidSets : List DwarfValue → Type 0
AreValidSets ds = All IsValidSet ds

-- the bytes of a section, if it is one that is listed
abbrev pub text_at : SectionTexts → SectionId → Option (List ℕ)
text_at t DebugAbbrev = Some t.debug_abbrev
text_at t DebugStr = Some t.debug_str
text_at t DebugLineStr = Some t.debug_line_str
text_at t DebugLine = Some t.debug_line
text_at t DebugRanges = Some t.debug_ranges
text_at t DebugRngLists = Some t.debug_rnglists
text_at t DebugLoc = Some t.debug_loc
text_at t DebugLocLists = Some t.debug_loclists
text_at t DebugInfo = Some t.debug_info
text_at t DebugFrame = Some t.debug_frame
text_at t EhFrame = Some t.eh_frame
text_at t s = None

-- The listing of joined sections: .debug_info and .debug_abbrev are read, to their last byte, as exactly the units of all sets
-- in order, each reference leading to an entry of its own set; and each section is what the sets leave in it, one behind
-- another, in which each number counts from where its set's parts start, and symbols are values. Where an attribute of a unit leads
-- to in a section of lists, the list is found that was built. It comes, with status 0, only for sets that are all valid. Read as a
-- listing, it gives the same sections in the same byte order.
pub record ListsSets (s : SetsValue) (text : List ℕ) : Type 0 where
  pub texts : SectionTexts
  pub placed : List Placed
  pub are : ArePlaced s.dwarfs placed
  pub valid : AreValidSets s.dwarfs
  pub built : Built (files_behind placed s.symbols 0 placed) (is_big_of s.endian) texts.debug_info texts.debug_abbrev
  pub ranges : FindRanges (set_layout placed s.symbols) (is_big_of s.endian) texts.debug_ranges texts.debug_rnglists s.dwarfs
  pub locations : FindLocations (set_layout placed s.symbols) (is_big_of s.endian) texts.debug_loc texts.debug_loclists s.dwarfs
  pub joined : (id : SectionId) (bytes : List ℕ) → text_at texts id ≡ Some bytes → section_text placed s.symbols (is_big_of s.endian) id ≡ Some bytes
  pub listed : text ≡ sections_text (is_big_of s.endian) texts
  pub read_back : sections_of text ≡ Ok (texts_read (is_big_of s.endian) texts)

-- a set can't be written, those before it can, and the error says why
pub record IsFirstSetFault (ds : List DwarfValue) (error : Error) : Type 0 where
  pub number : ℕ
  pub dwarf : DwarfValue
  pub at : slice_get ds number ≡ Some dwarf
  pub before : AreValidSets (take number ds)
  pub cause : HasFault false dwarf error

-- the text says why one can't be written
pub record IsSetRefusal (s : SetsValue) (text : List ℕ) : Type 0 where
  pub error : Error
  pub first : IsFirstSetFault s.dwarfs error
  pub says : text ≡ refused_text error

-- all sets are valid, and a relocation of what they leave, the first with a fault, has this one, which the text names
pub record IsLinkRefusal (s : SetsValue) (text : List ℕ) : Type 0 where
  pub valid : AreValidSets s.dwarfs
  pub sets : List Parts
  pub left : AreSets (is_big_of s.endian) sets s.dwarfs
  pub error : LinkError
  pub first : IsFirstFault sets s.symbols error
  pub says : text ≡ link_refused_text error

-- Each Dwarf, with the constants that its symbols come to, is valid where its set's parts come to stand in the joined sections.
abbrev pub AreValidJoined : SetsValue → Type 0
AreValidJoined s =
    (placed : List Placed) → ArePlaced s.dwarfs placed →
    (n : ℕ) (p : Placed) → slice_get placed n ≡ Some p → IsValidBehind (section_size (take n placed)) (numbered_dwarf s.symbols p.dwarf)
