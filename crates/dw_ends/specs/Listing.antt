-- The text of a listing of sections, and what it says when it is read back.
use Rattle.std.specs.Prelude.{◌≡◌, ℕ, ◌^◌, ◌<◌, Bool, true, false, List, [], ◌∷◌, ◌++◌, length, get_or, map, replicate, codes, decimal}
use Rattle.std.specs.List.{flat_map}
use Rattle.std.specs.Option.{unwrap_or}
use Rattle.hex.specs.Hex.{encode_lower}
use Rattle.dw_base.specs.SectionName.{section_name}
use Rattle.dw_base.specs.declared.endianity.RunTimeEndian.{RunTimeEndian}
use Rattle.dw_base.specs.declared.endianity.RunTimeEndian.TheVariants.{Little, Big}
use Rattle.dw_base.specs.declared.section_id.SectionId.{SectionId}
use Rattle.dw_base.specs.declared.section_id.SectionId.TheVariants.{DebugAbbrev, DebugStr, DebugLineStr, DebugLine, DebugRanges, DebugRngLists, DebugLoc, DebugLocLists, DebugInfo, DebugFrame, EhFrame}
use Rattle.dw_writer.specs.Contents.{Meaning}
use Rattle.dw_writer.specs.Sections.{EachWriter}
use Rattle.dw_writer.specs.declared.sections.Sections.{Sections}
use Rattle.dw_ends.specs.Sections.{ListingValue}

-- the first line, which says the order of the bytes in a number: true is big
abbrev pub order_line : Bool → List ℕ
order_line true = codes "order big\n"
order_line false = codes "order little\n"

-- a space and the bytes in hex, or nothing where there are none
abbrev pub hex_word : List ℕ → List ℕ
hex_word [] = []
hex_word (b ∷ bytes) = codes " " ++ encode_lower (b ∷ bytes)

-- a section's line: its name, its length and its bytes
abbrev pub section_line : List ℕ → List ℕ → List ℕ
section_line name bytes = name ++ codes " " ++ decimal (length bytes) ++ hex_word bytes ++ codes "\n"

-- the whole text: the order's line, and then a line for each named section
abbrev pub listing : Bool → List (List ℕ × List ℕ) → List ℕ
listing big sections = order_line big ++ flat_map (λ s. section_line s.0 s.1) sections

-- the bytes that a writer tells
abbrev pub told : {W : Type 0} → (W → Meaning) → W → List ℕ
told meaning w = unwrap_or (meaning w).bytes []

-- each section's name with its bytes, in the order in which they are listed
abbrev pub named : {W : Type 0} → (W → Meaning) → Sections W → List (List ℕ × List ℕ)
named meaning s =
    (section_name DebugAbbrev, told meaning s.debug_abbrev.0) ∷ (section_name DebugStr, told meaning s.debug_str.0)
    ∷ (section_name DebugLineStr, told meaning s.debug_line_str.0) ∷ (section_name DebugLine, told meaning s.debug_line.0)
    ∷ (section_name DebugRanges, told meaning s.debug_ranges.0) ∷ (section_name DebugRngLists, told meaning s.debug_rnglists.0)
    ∷ (section_name DebugLoc, told meaning s.debug_loc.0) ∷ (section_name DebugLocLists, told meaning s.debug_loclists.0)
    ∷ (section_name DebugInfo, told meaning s.debug_info.0) ∷ (section_name DebugFrame, told meaning s.debug_frame.0)
    ∷ (section_name EhFrame, told meaning s.eh_frame.0) ∷ []

-- the listing of sections, in the byte order of .debug_info
abbrev pub listing_of : {W : Type 0} → (W → Meaning) → Sections W → List ℕ
listing_of meaning s = listing (meaning s.debug_info.0).is_big (named meaning s)

-- there are fewer than 2^64, and each is a byte
abbrev pub AreBytes : List ℕ → Type 0
AreBytes bytes = (length bytes < 2 ^ 64) × ((i : ℕ) → get_or bytes i 0 < 256)

-- the text is the listing of the sections, each of which tells bytes
pub record Lists {W : Type 0} (meaning : W → Meaning) (s : Sections W) (text : List ℕ) : Type 0 where
  pub is : text ≡ listing_of meaning s
  pub are : EachWriter (λ w. AreBytes (told meaning w)) s

-- the byte order: true is big
abbrev pub order_named : Bool → RunTimeEndian
order_named true = Big
order_named false = Little

-- what a listing says when it is read: the byte order, a line of each of the eleven sections with its bytes, and no line of the
-- two that are only read
abbrev pub read_as : Bool → List (List ℕ) → ListingValue
read_as big sections = record {
  endian = order_named big;
  is_begun = true;
  is_taken = replicate 11 true ++ replicate 2 false;
  sections = sections ++ replicate 2 [];
}

-- the same of the listing of these sections
abbrev pub read_of : {W : Type 0} → (W → Meaning) → Sections W → ListingValue
read_of meaning s = read_as (meaning s.debug_info.0).is_big (map (λ n. n.1) (named meaning s))

-- a text grew by the line of a section with these bytes
pub record AddsLine (id : SectionId) (bytes old new : List ℕ) : Type 0 where
  pub added : new ≡ old ++ section_line (section_name id) bytes
  pub are : AreBytes bytes
