-- Sets that were written, once they are joined or refused.
use Rattle.std.specs.Prelude.{◌≡◌, ℕ, ◌+◌, ◌||◌, Bool, true, false, not, cond, nat_lt, List, [], ◌∷◌, length, map, Option, Some, None, Ok, refl}
use Rattle.std.specs.List.{list_any, position_or_len}
use Rattle.std.proofs.Common.{sym, ◌∙◌, ap, ap₂, subst, arith}
use Rattle.std.proofs.lemmas.Bool.Decides.{nat_tests}
use Rattle.dw_base.specs.Order.{is_big_of}
use Rattle.dw_base.specs.declared.section_id.SectionId.{SectionId}
use Rattle.dw_base.specs.declared.section_id.SectionId.TheVariants.{DebugAbbrev, DebugStr, DebugLineStr, DebugLine, DebugRanges, DebugRngLists, DebugLoc, DebugLocLists, DebugInfo, DebugFrame, EhFrame, DebugAddr, DebugStrOffsets, DebugMacinfo, DebugMacro, DebugAranges}
use Rattle.dw_writer.specs.Meaning.{Meaning}
use Rattle.dw_writer.specs.Sections.{section_of}
use Rattle.dw_writer.specs.Visits.{written_ids}
use Rattle.dw_writer.specs.declared.sections.Sections.{Sections}
use Rattle.dw_tree.specs.Built.{Built}
use Rattle.dw_dwarf.specs.Written.{SectionTexts, TellTexts}
use Rattle.dw_ends.specs.Listing.{Lists, listing, read_as, read_of}
use Rattle.dw_ends.specs.Sections.{sections_of}
use Rattle.dw_link.specs.Linked.{LinksDwarfs}
use Rattle.dw_link.specs.Lists.{FindRanges, FindLocations}
use Rattle.dw_link.specs.Outcome.{AllInOrder, JoinsParts, LinkRefused, IsFirstFault, is_other, differs, is_mixed, first_mixed}
use Rattle.dw_link.specs.Sets.{Parts, sets_of}
use Rattle.dw_link.specs.declared.error.LinkError.{LinkError}
use Rattle.dw_link.specs.declared.error.LinkError.TheVariants.{NoMemory, MixedByteOrder, PointerEncoding, RecordOutOfPlace, UnknownSymbol, UnknownSection, ValueTooLarge}
use Rattle.dw_build.specs.SetsValue.{SetsValue}
use Rattle.dw_program.specs.Linked.{AreValidSets, ListsSets, IsLinkRefusal, text_at}
use Rattle.dw_program.specs.SetParts.{Part, Placed, part_of, section_text, IsHeld, AreSets}
use Rattle.dw_program.specs.Texts.{link_refused_text}
use Rattle.dw_program.proofs.Answered.{told_named}
use Rattle.dw_program.proofs.SetLaws.{HoldSets, placed_sets, layouts_same, joined_same, files_are}

module _ {W X : Type 0} (from : W → Meaning) (to : X → Meaning) (tells : (x : X) → (bytes : List ℕ) × ((to x).bytes ≡ Some bytes)) where
  -- what joined sections hold
  texts_of : Sections X → SectionTexts
  texts_of joined = record {
    debug_abbrev = (tells joined.debug_abbrev.0).0;
    debug_str = (tells joined.debug_str.0).0;
    debug_line_str = (tells joined.debug_line_str.0).0;
    debug_line = (tells joined.debug_line.0).0;
    debug_ranges = (tells joined.debug_ranges.0).0;
    debug_rnglists = (tells joined.debug_rnglists.0).0;
    debug_loc = (tells joined.debug_loc.0).0;
    debug_loclists = (tells joined.debug_loclists.0).0;
    debug_info = (tells joined.debug_info.0).0;
    debug_frame = (tells joined.debug_frame.0).0;
    eh_frame = (tells joined.eh_frame.0).0;
  }

  all_told : (joined : Sections X) → TellTexts to joined (texts_of joined)
  unfolding texts_of
  all_told joined = record {
    debug_abbrev = (tells joined.debug_abbrev.0).1;
    debug_str = (tells joined.debug_str.0).1;
    debug_line_str = (tells joined.debug_line_str.0).1;
    debug_line = (tells joined.debug_line.0).1;
    debug_ranges = (tells joined.debug_ranges.0).1;
    debug_rnglists = (tells joined.debug_rnglists.0).1;
    debug_loc = (tells joined.debug_loc.0).1;
    debug_loclists = (tells joined.debug_loclists.0).1;
    debug_info = (tells joined.debug_info.0).1;
    debug_frame = (tells joined.debug_frame.0).1;
    eh_frame = (tells joined.eh_frame.0).1;
  }

  module _ (s : SetsValue) (sets : List (Sections W)) (joined : Sections X) (placed : List Placed) (hold : HoldSets (is_big_of s.endian) (sets_of from sets) placed) (parts : JoinsParts to (sets_of from sets) s.symbols joined) where
    here : (id : SectionId) (x : X) → section_of joined id ≡ Some x → (bytes : List ℕ) → Some (tells x).0 ≡ Some bytes → section_text placed s.symbols (is_big_of s.endian) id ≡ Some bytes
    here id x is bytes e = sym (joined_same (is_big_of s.endian) (sets_of from sets) placed hold s.symbols id) ∙ sym (parts id x is) ∙ (tells x).1 ∙ e

    sections_are : (id : SectionId) (bytes : List ℕ) → text_at (texts_of joined) id ≡ Some bytes → section_text placed s.symbols (is_big_of s.endian) id ≡ Some bytes
    unfolding texts_of
    sections_are DebugAbbrev bytes e = here DebugAbbrev joined.debug_abbrev.0 refl bytes e
    sections_are DebugStr bytes e = here DebugStr joined.debug_str.0 refl bytes e
    sections_are DebugLineStr bytes e = here DebugLineStr joined.debug_line_str.0 refl bytes e
    sections_are DebugLine bytes e = here DebugLine joined.debug_line.0 refl bytes e
    sections_are DebugRanges bytes e = here DebugRanges joined.debug_ranges.0 refl bytes e
    sections_are DebugRngLists bytes e = here DebugRngLists joined.debug_rnglists.0 refl bytes e
    sections_are DebugLoc bytes e = here DebugLoc joined.debug_loc.0 refl bytes e
    sections_are DebugLocLists bytes e = here DebugLocLists joined.debug_loclists.0 refl bytes e
    sections_are DebugInfo bytes e = here DebugInfo joined.debug_info.0 refl bytes e
    sections_are DebugFrame bytes e = here DebugFrame joined.debug_frame.0 refl bytes e
    sections_are EhFrame bytes e = here EhFrame joined.eh_frame.0 refl bytes e
    sections_are DebugAddr bytes e = cc
    sections_are DebugStrOffsets bytes e = cc
    sections_are DebugMacinfo bytes e = cc
    sections_are DebugMacro bytes e = cc
    sections_are DebugAranges bytes e = cc

  pub sets_listed : (s : SetsValue) (sets : List (Sections W)) (joined : Sections X) (text : List ℕ) → AreValidSets s.dwarfs → AreSets (is_big_of s.endian) (sets_of from sets) s.dwarfs →
      LinksDwarfs from to (is_big_of s.endian) sets s.symbols s.dwarfs joined → JoinsParts to (sets_of from sets) s.symbols joined → AllInOrder to (is_big_of s.endian) joined → Lists to joined text → sections_of text ≡ Ok (read_of to joined) → ListsSets s text
  unfolding texts_of
  sets_listed s sets joined text valid left links parts order listed back =
      let big = is_big_of s.endian in
      let p = placed_sets big (sets_of from sets) s.dwarfs left in
      let texts = texts_of joined in
      let told = all_told joined in
      let own : (to joined.debug_info.0).is_big ≡ big = order DebugInfo joined.debug_info.0 refl in
      let layouts = layouts_same big (sets_of from sets) p.placed p.hold s.symbols in
      let files = files_are big (sets_of from sets) p.placed p.hold s.symbols s.dwarfs p.are in
      record {
        texts = texts;
        placed = p.placed;
        are = p.are;
        valid = valid;
        built = subst (λ fs. Built fs big texts.debug_info texts.debug_abbrev) files (links.built texts.debug_info texts.debug_abbrev told.debug_info told.debug_abbrev);
        ranges = subst (λ l. FindRanges l big texts.debug_ranges texts.debug_rnglists s.dwarfs) layouts (links.found_ranges texts.debug_ranges texts.debug_rnglists told.debug_ranges told.debug_rnglists);
        locations = subst (λ l. FindLocations l big texts.debug_loc texts.debug_loclists s.dwarfs) layouts (links.found_locations texts.debug_loc texts.debug_loclists told.debug_loc told.debug_loclists);
        joined = sections_are s sets joined p.placed p.hold parts;
        listed = listed.is ∙ (λ k. listing (own k) (told_named to joined texts told k));
        read_back = back ∙ (λ k. Ok (read_as (own k) (map (λ n. n.1) (told_named to joined texts told k))));
      }

-- The sets are in the byte order

not_other : (a b : Bool) → a ≡ b → is_other a b ≡ false
not_other true b e = ap not (sym e)
not_other false b e = sym e

agrees : (o : Option Meaning) (big : Bool) (q : Option Part) → IsHeld o big q → differs big o ≡ false
agrees None big q h = refl
agrees (Some m) big None h = absurd h
agrees (Some m) big (Some q) h = not_other m.is_big big h.order

none_differs : (big : Bool) (set : Parts) (p : Placed) → ((s : SectionId) → IsHeld (set s) big (part_of p s)) → (ids : List SectionId) → list_any (λ s. differs big (set s)) ids ≡ false
none_differs big set p h [] = refl
none_differs big set p h (id ∷ ids) = ap₂ (λ a b. a || b) (agrees (set id) big (part_of p id) (h id)) (none_differs big set p h ids)

all_pass : (big : Bool) (sets : List Parts) (ps : List Placed) → HoldSets big sets ps → position_or_len (is_mixed big) sets ≡ length sets
all_pass big [] [] h = refl
all_pass big [] (p ∷ ps) h = absurd h
all_pass big (set ∷ sets) [] h = absurd h
all_pass big (set ∷ sets) (p ∷ ps) h =
    let rest = position_or_len (is_mixed big) sets in
    let first : position_or_len (is_mixed big) (set ∷ sets) ≡ 1 + rest = ap (λ b. cond (not b) (1 + rest) 0) (none_differs big set p h.0 written_ids) in
    omega (arith, first, all_pass big sets ps h.1)

not_below : (n : ℕ) → nat_lt n n ≡ false
not_below n = grind (arith, nat_tests)

none_mixed : (big : Bool) (sets : List Parts) (ps : List Placed) → HoldSets big sets ps → first_mixed big sets ≡ None
none_mixed big sets ps h =
    let p = position_or_len (is_mixed big) sets in
    ap (λ n. cond (nat_lt p n) (Some p) None) (sym (all_pass big sets ps h)) ∙ ap (λ b. cond b (Some p) None) (not_below p)

-- so only a relocation is refused
refused_first : (big : Bool) (sets : List Parts) (symbols : List ℕ) (e : LinkError) → first_mixed big sets ≡ None → (e ≡ NoMemory → ⊥) → LinkRefused big sets symbols e → IsFirstFault sets symbols e
refused_first big sets symbols NoMemory none other h = absurd (other refl)
refused_first big sets symbols (MixedByteOrder n) none other h = let clash : ◌≡◌ {A = Option ℕ} None (Some n) = sym none ∙ h in cc
refused_first big sets symbols (PointerEncoding n s k) none other h = h.1
refused_first big sets symbols (RecordOutOfPlace n s k) none other h = h.1
refused_first big sets symbols (UnknownSymbol n s k) none other h = h.1
refused_first big sets symbols (UnknownSection n s k) none other h = h.1
refused_first big sets symbols (ValueTooLarge n s k) none other h = h.1

pub link_refused : (s : SetsValue) (sets : List Parts) (e : LinkError) (text : List ℕ) → AreValidSets s.dwarfs → AreSets (is_big_of s.endian) sets s.dwarfs → LinkRefused (is_big_of s.endian) sets s.symbols e → (e ≡ NoMemory → ⊥) → text ≡ link_refused_text e →
    IsLinkRefusal s text
link_refused s sets e text valid left refused other says =
    let big = is_big_of s.endian in
    let p = placed_sets big sets s.dwarfs left in
    record {
      valid = valid;
      sets = sets;
      left = left;
      error = e;
      first = refused_first big sets s.symbols e (none_mixed big sets p.placed p.hold) other refused;
      says = says;
    }
