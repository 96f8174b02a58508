-- Sets in which tables were written are joined to the text of the numbered tables.
use Rattle.std.specs.Prelude.{◌≡◌, ℕ, ◌+◌, Bool, true, List, [], ◌∷◌, ◌++◌, length, Some, refl, IsFalse}
use Rattle.std.specs.List.{list_any}
use Rattle.std.specs.Option.{option_map}
use Rattle.std.proofs.Common.{sym, ◌∙◌, ap, ap₂, subst, arith, length-append, append_assoc}
use Rattle.dw_base.specs.Numbers.{◌>>=◌}
use Rattle.dw_base.specs.declared.section_id.SectionId.{SectionId}
use Rattle.dw_base.specs.declared.section_id.SectionId.TheVariants.{DebugAbbrev, DebugStr, DebugLineStr, DebugLine, DebugRanges, DebugRngLists, DebugLoc, DebugLocLists, DebugInfo, DebugFrame, EhFrame, DebugAddr, DebugStrOffsets, DebugMacinfo, DebugMacro, DebugAranges}
use Rattle.dw_writer.specs.Layout.{Layout}
use Rattle.dw_writer.specs.Texts.{followed}
use Rattle.dw_writer.specs.Meaning.{Meaning, IsTidy, AllInside}
use Rattle.dw_writer.specs.Resolved.{resolved}
use Rattle.dw_writer.specs.Sections.{section_of}
use Rattle.dw_writer.specs.declared.sections.Sections.{Sections}
use Rattle.dw_writer.proofs.Laws.{followed-somes}
use Rattle.dw_frame.specs.declared.kind.FrameKind.{FrameKind}
use Rattle.dw_frame.specs.declared.kind.FrameKind.TheVariants.{Debug, Eh}
use Rattle.dw_frame.specs.declared.table.FrameTable.{FrameTable}
use Rattle.dw_frame_instructions.specs.Causes.{IsNone}
use Rattle.dw_frame.specs.Parts.{Placed, in_turn}
use Rattle.dw_frame_instructions.specs.Pieces.{both, IsWritten}
use Rattle.dw_frame.specs.Reading.{at_zero}
use Rattle.dw_frame.specs.Tables.{frames_at}
use Rattle.dw_frame_instructions.proofs.Steps.{nothing-followed}
use Rattle.dw_frame.proofs.TextParts.{split}
use Rattle.dw_link.specs.Sets.{Parts, parts_of, sets_of, bytes_of, concatenated, layout_in, linked_part, linked_from, linked_parts}
use Rattle.dw_link.specs.Outcome.{JoinsParts}
use Rattle.dw_link.proofs.PartLengths.{part_length, concatenated-more, behind}
use Rattle.dw_link_frames.specs.Placed.{section_id, numbered_part, tables_part, frames_fixed, AreFree}
use Rattle.dw_link_frames.specs.Written.{new_recorder, is_same, AreWritten}
use Rattle.dw_link_frames.specs.Outcome.{HasText, OthersAreEmpty}
use Rattle.dw_link_frames.proofs.Entering.{first_false, second_false, IsBegun}
use Rattle.dw_link_frames.proofs.Tabling.{turn_none, table_moves}

-- New sections

pub new_tidy : (big : Bool) → IsTidy (new_recorder big)
unfolding AllInside
new_tidy big = record { sized = λ b is. let none : [] ≡ b = cc in sym (ap length none); inside = tt }

new_resolved : (big : Bool) (l : Layout) → resolved l (new_recorder big) ≡ Some []
unfolding resolved
new_resolved big l = refl

-- what was written there resolves to the table's text
pub written_text : (big : Bool) (l : Layout) (kind : FrameKind) (t : FrameTable) (m : Meaning) → IsWritten (new_recorder big) m (frames_at kind t 0).piece → resolved l m ≡ (frames_at kind t 0).piece.text big l
written_text big l kind t m w =
    w.resolves (new_tidy big) l ∙ ap (λ x. followed x ((frames_at kind t 0).piece.text big l)) (new_resolved big l) ∙ nothing-followed ((frames_at kind t 0).piece.text big l)

-- The section of the tables

pub record There {W : Type 0} (set : Sections W) (s : SectionId) : Type 0 where
  pub writer : W
  pub is : section_of set s ≡ Some writer

pub kind_there : {W : Type 0} (set : Sections W) (kind : FrameKind) → There set (section_id kind)
kind_there set Debug = record { writer = set.debug_frame.0; is = refl }
kind_there set Eh = record { writer = set.eh_frame.0; is = refl }

begun_at : (all : List Parts) (symbols : List ℕ) (n : ℕ) (kind : FrameKind) → IsBegun (layout_in all symbols n (section_id kind)) kind
begun_at all symbols n Debug = refl
begun_at all symbols n Eh = tt

turn_text : (p q : Placed) (at : ℕ) (big : Bool) (xs ys : List ℕ) → (p at).piece.text big at_zero ≡ Some xs → (q (at + (p at).piece.size)).piece.text big at_zero ≡ Some ys → (in_turn p q at).piece.text big at_zero ≡ Some (xs ++ ys)
unfolding in_turn both
turn_text p q at big xs ys h k = ap₂ followed h k ∙ followed-somes xs ys

module _ {W : Type 0} (meaning : W → Meaning) (big : Bool) (kind : FrameKind) (symbols : List ℕ) (all : List Parts) where
  texts_from : (before : List Parts) (n at : ℕ) (ts : List FrameTable) (sets : List (Sections W)) (xs : List ℕ) → all ≡ before ++ sets_of meaning sets → n ≡ length before → length (concatenated (section_id kind) before) ≡ at →
      AreWritten meaning big kind ts sets → AreFree ts → IsNone ((tables_part kind symbols ts at).fails true) → linked_from all symbols (section_id kind) n (sets_of meaning sets) ≡ Some xs →
      (tables_part kind symbols ts at).piece.text big at_zero ≡ Some xs
  texts_from before n at [] [] xs is count here written free none told = told
  texts_from before n at [] (s ∷ sets) xs is count here written free none told = absurd written
  texts_from before n at (t ∷ ts) [] xs is count here written free none told = absurd written
  texts_from before n at (t ∷ ts) (set ∷ sets) xs is count here written free none told =
      let s = section_id kind in
      let l = layout_in all symbols n s in
      let own = parts_of meaning set in
      let rest = sets_of meaning sets in
      let there = kind_there set kind in
      let m = meaning there.writer in
      let w = written.0.part there.writer there.is in
      let p = split (linked_part all symbols s n own) (linked_from all symbols s (n + 1) rest) xs told in
      let own_is : own s ≡ Some m = ap (option_map meaning) there.is in
      let resolves : resolved l m ≡ Some p.xs = sym (ap (λ o. o >>= resolved l) own_is) ∙ p.first in
      let text : (frames_at kind t 0).piece.text big l ≡ Some p.xs = sym (written_text big l kind t m w) ∙ resolves in
      let started : l.own_start + 0 ≡ at = omega (arith, behind all before (own ∷ rest) n s is count, here) in
      let tables = turn_none true (numbered_part kind symbols t) (tables_part kind symbols ts) at none in
      let here_none = subst (λ k. IsNone ((numbered_part kind symbols t k).fails true)) (sym started) tables.0 in
      let free_here = first_false (frames_fixed t.cies.keys t.fdes.items) (list_any (λ (t : FrameTable). frames_fixed t.cies.keys t.fdes.items) ts) free in
      let free_rest = second_false (frames_fixed t.cies.keys t.fdes.items) (list_any (λ (t : FrameTable). frames_fixed t.cies.keys t.fdes.items) ts) free in
      let h = table_moves big l kind (begun_at all symbols n kind) t.cies.keys t.fdes.items free_here here_none p.xs text in
      let first : (numbered_part kind symbols t at).piece.text big at_zero ≡ Some p.xs = sym (ap (λ k. (numbered_part kind symbols t k).piece.text big at_zero) started) ∙ h.text in
      let size : (numbered_part kind symbols t at).piece.size ≡ (frames_at kind t 0).piece.size = sym (ap (λ k. (numbered_part kind symbols t k).piece.size) started) ∙ h.size in
      let long : length (bytes_of (own s)) ≡ length p.xs = ap (λ o. length (bytes_of o)) own_is ∙ part_length l m p.xs (w.tidy (new_tidy big)) resolves in
      let wide : length p.xs ≡ (frames_at kind t 0).piece.size = w.wide big l p.xs text in
      let next : length (concatenated s (before ++ own ∷ [])) ≡ at + (numbered_part kind symbols t at).piece.size = omega (arith, concatenated-more s before own, here, long, wide, size) in
      let more = texts_from (before ++ own ∷ []) (n + 1) (at + (numbered_part kind symbols t at).piece.size) ts sets p.ys
      (is ∙ sym (append_assoc before (own ∷ []) rest)) (omega (arith, count, length-append before (own ∷ []))) next written.1 free_rest tables.1 p.second in
      turn_text (numbered_part kind symbols t) (tables_part kind symbols ts) at big p.xs p.ys first more ∙ ap Some (sym p.whole)

-- Other sections

section_there : {W X : Type 0} (a : Sections W) (b : Sections X) (s : SectionId) (x : X) → section_of b s ≡ Some x → There a s
section_there a b DebugAbbrev x is = record { writer = a.debug_abbrev.0; is = refl }
section_there a b DebugStr x is = record { writer = a.debug_str.0; is = refl }
section_there a b DebugLineStr x is = record { writer = a.debug_line_str.0; is = refl }
section_there a b DebugLine x is = record { writer = a.debug_line.0; is = refl }
section_there a b DebugRanges x is = record { writer = a.debug_ranges.0; is = refl }
section_there a b DebugRngLists x is = record { writer = a.debug_rnglists.0; is = refl }
section_there a b DebugLoc x is = record { writer = a.debug_loc.0; is = refl }
section_there a b DebugLocLists x is = record { writer = a.debug_loclists.0; is = refl }
section_there a b DebugInfo x is = record { writer = a.debug_info.0; is = refl }
section_there a b DebugFrame x is = record { writer = a.debug_frame.0; is = refl }
section_there a b EhFrame x is = record { writer = a.eh_frame.0; is = refl }
section_there a b DebugAddr x is = cc
section_there a b DebugStrOffsets x is = cc
section_there a b DebugMacinfo x is = cc
section_there a b DebugMacro x is = cc
section_there a b DebugAranges x is = cc

module _ {W X : Type 0} (meaning : W → Meaning) (big : Bool) (kind : FrameKind) (symbols : List ℕ) (all : List Parts) (joined : Sections X) (s : SectionId) (x : X) (is : section_of joined s ≡ Some x) (other : IsFalse (is_same s (section_id kind))) where
  empty_from : (n : ℕ) (ts : List FrameTable) (sets : List (Sections W)) → AreWritten meaning big kind ts sets → linked_from all symbols s n (sets_of meaning sets) ≡ Some []
  empty_from n [] [] written = refl
  empty_from n [] (set ∷ sets) written = absurd written
  empty_from n (t ∷ ts) [] written = absurd written
  empty_from n (t ∷ ts) (set ∷ sets) written =
      let l = layout_in all symbols n s in
      let there = section_there set joined s x is in
      let m = written.0.others s there.writer other there.is in
      let part : parts_of meaning set s ≡ Some (new_recorder big) = ap (option_map meaning) there.is ∙ ap Some m in
      let text : linked_part all symbols s n (parts_of meaning set) ≡ Some [] = ap (λ o. o >>= resolved l) part ∙ new_resolved big l in
      ap₂ followed text (empty_from (n + 1) ts sets written.1) ∙ followed-somes [] []

-- All sections

pub joined_text : {W X : Type 0} (from : W → Meaning) (to : X → Meaning) (big : Bool) (kind : FrameKind) (symbols : List ℕ) (ts : List FrameTable) (sets : List (Sections W)) (joined : Sections X) →
    ((x : X) → (bytes : List ℕ) × ((to x).bytes ≡ Some bytes)) → AreWritten from big kind ts sets → JoinsParts to (sets_of from sets) symbols joined → HasText to big kind ts symbols joined
unfolding linked_parts
joined_text from to big kind symbols ts sets joined tells written joins free valid x is =
    let all = sets_of from sets in
    let told = tells x in
    told.1 ∙ sym (texts_from from big kind symbols all [] 0 0 ts sets told.0 refl refl refl written free valid (sym (joins (section_id kind) x is) ∙ told.1))

pub others_empty : {W X : Type 0} (from : W → Meaning) (to : X → Meaning) (big : Bool) (kind : FrameKind) (symbols : List ℕ) (ts : List FrameTable) (sets : List (Sections W)) (joined : Sections X) →
    AreWritten from big kind ts sets → JoinsParts to (sets_of from sets) symbols joined → OthersAreEmpty to kind joined
unfolding linked_parts
others_empty from to big kind symbols ts sets joined written joins s x other is =
    joins s x is ∙ empty_from from big kind symbols (sets_of from sets) joined s x is other 0 ts sets written
