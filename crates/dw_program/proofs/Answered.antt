-- What the program's answers rest on.
use Rattle.std.proofs.Common.{◌≡◌, ◌∙◌, subst, ℕ, ◌∷◌, [], List, Ok, map, true}
use Rattle.std.specs.Option.{unwrap_or}
use Rattle.dw_base.specs.Order.{is_big_of}
use Rattle.dw_base.specs.declared.endianity.RunTimeEndian.{RunTimeEndian}
use Rattle.dw_base.specs.SectionName.{section_name}
use Rattle.dw_base.specs.declared.section_id.SectionId.TheVariants.{DebugAbbrev, DebugStr, DebugLineStr, DebugLine, DebugRanges, DebugRngLists, DebugLoc, DebugLocLists, DebugInfo, DebugFrame, EhFrame}
use Rattle.dw_writer.specs.Contents.{Meaning}
use Rattle.dw_writer.specs.declared.sections.Sections.{Sections}
use Rattle.dw_dwarf.specs.DwarfValue.{DwarfValue}
use Rattle.dw_dwarf.specs.Valid.{IsValid}
use Rattle.dw_dwarf.specs.Written.{SectionTexts, AreTextsOf, TellTexts, HoldsDwarf, orders_of, one_order}
use Rattle.dw_ends.specs.Listing.{Lists, listing, named as named_bytes, read_as, read_of}
use Rattle.dw_ends.specs.Sections.{sections_of}
use Rattle.dw_program.specs.Texts.{named}
use Rattle.dw_program.specs.Listed.{ListsDwarf}

-- what writers tell is listed
pub told_named : {W : Type 0} (meaning : W → Meaning) (s : Sections W) (t : SectionTexts) → TellTexts meaning s t → named_bytes meaning s ≡ named t
told_named meaning s t told = λ k.
    (section_name DebugAbbrev, unwrap_or (told.debug_abbrev k) []) ∷ (section_name DebugStr, unwrap_or (told.debug_str k) [])
    ∷ (section_name DebugLineStr, unwrap_or (told.debug_line_str k) []) ∷ (section_name DebugLine, unwrap_or (told.debug_line k) [])
    ∷ (section_name DebugRanges, unwrap_or (told.debug_ranges k) []) ∷ (section_name DebugRngLists, unwrap_or (told.debug_rnglists k) [])
    ∷ (section_name DebugLoc, unwrap_or (told.debug_loc k) []) ∷ (section_name DebugLocLists, unwrap_or (told.debug_loclists k) [])
    ∷ (section_name DebugInfo, unwrap_or (told.debug_info k) []) ∷ (section_name DebugFrame, unwrap_or (told.debug_frame k) []) ∷ (section_name EhFrame, unwrap_or (told.eh_frame k) []) ∷ []

module _ {W : Type 0} where
  -- the listing of sections that hold a valid Dwarf lists it
  pub dwarf_listed : (meaning : W → Meaning) (endian : RunTimeEndian) (d : DwarfValue) (sections : Sections W) (text : List ℕ) → IsValid true d → orders_of meaning sections ≡ one_order (is_big_of endian) →
      HoldsDwarf meaning sections d → Lists meaning sections text → sections_of text ≡ Ok (read_of meaning sections) → ListsDwarf endian d text
  dwarf_listed meaning endian d sections text valid orders held listed back = record {
    texts = held.texts;
    valid = valid;
    are = subst (λ o. AreTextsOf o d held.texts) orders held.are;
    listed = listed.is ∙ (λ k. listing (orders k).info (told_named meaning sections held.texts held.told k));
    read_back = back ∙ (λ k. Ok (read_as (orders k).info (map (λ n. n.1) (told_named meaning sections held.texts held.told k))));
  }
