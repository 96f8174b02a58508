-- Tables whose texts are there, wherever other sections start, are joined.
use Rattle.std.specs.Prelude.{◌≡◌, ℕ, suc, zero, ◌+◌, Bool, true, false, List, [], ◌∷◌, ◌++◌, length, Option, Some, None, refl, slice_get}
use Rattle.std.specs.Option.{option_map}
use Rattle.std.proofs.Common.{sym, ◌∙◌, ap, subst, arith, length-append, append_assoc}
use Rattle.std.proofs.lemmas.Option.{none-some}
use Rattle.dw_base.specs.Numbers.{◌>>=◌}
use Rattle.dw_base.specs.declared.section_id.SectionId.{SectionId}
use Rattle.dw_writer.specs.Layout.{Layout, start_of}
use Rattle.dw_writer.specs.Meaning.{Meaning}
use Rattle.dw_writer.specs.Resolved.{resolved}
use Rattle.dw_writer.specs.Sections.{section_of}
use Rattle.dw_writer.specs.declared.sections.Sections.{Sections}
use Rattle.dw_frame.specs.declared.kind.FrameKind.{FrameKind}
use Rattle.dw_frame.specs.declared.kind.FrameKind.TheVariants.{Debug, Eh}
use Rattle.dw_frame.specs.declared.table.FrameTable.{FrameTable}
use Rattle.dw_frame.specs.Tables.{frames_at}
use Rattle.dw_link.specs.declared.fault.Fault.{Fault}
use Rattle.dw_link.specs.Outcome.{part_fault, fault_at, IsFaultless}
use Rattle.dw_link.specs.Sets.{Parts, parts_of, sets_of, bytes_of, concatenated, start_in, layout_in}
use Rattle.dw_link_frames.specs.Placed.{section_id, StartsAt, AreThere}
use Rattle.dw_link_frames.specs.Written.{new_recorder, is_same, IsWrittenSet, AreWritten}
use Rattle.dw_link.proofs.JoinedSections.{AllJoined, far, part_joined, part_faultless}
use Rattle.dw_link.proofs.PartLengths.{part_length, concatenated-more, behind}
use Rattle.dw_link_frames.proofs.Joining.{new_tidy, written_text, kind_there}
use Rattle.dw_link_frames.proofs.Steps.{same_section}

begins : (all : List Parts) (symbols : List ℕ) (n : ℕ) (kind : FrameKind) → start_of (layout_in all symbols n (section_id kind)) (section_id kind) ≡ (layout_in all symbols n (section_id kind)).own_start
begins all symbols n Debug = refl
begins all symbols n Eh = refl

far_start : (at : ℕ) (symbols : List ℕ) (k : ℕ) (kind : FrameKind) → start_of (far (λ q. at) at symbols k) (section_id kind) ≡ at
far_start at symbols k Debug = refl
far_start at symbols k Eh = refl

no_fault : (l : Layout) (big : Bool) (k : ℕ) → part_fault l (new_recorder big) k ≡ None
no_fault l big zero = refl
no_fault l big (suc k) = refl

module _ {W : Type 0} (meaning : W → Meaning) (big : Bool) (kind : FrameKind) (symbols : List ℕ) (all : List Parts) where
  -- a set's part of the section
  record Stands (before : List Parts) (at : ℕ) (t : FrameTable) (set : Sections W) : Type 0 where
    writer : W
    is : section_of set (section_id kind) ≡ Some writer
    text : List ℕ
    there : resolved (layout_in all symbols (length before) (section_id kind)) (meaning writer) ≡ Some text
    joined : AllJoined (meaning writer).records
    next : length (concatenated (section_id kind) (before ++ parts_of meaning set ∷ [])) ≡ at + (frames_at kind t 0).piece.size

  stands : (before rest : List Parts) (at : ℕ) (t : FrameTable) (set : Sections W) → all ≡ before ++ parts_of meaning set ∷ rest → length (concatenated (section_id kind) before) ≡ at → IsWrittenSet meaning big kind t set →
      ((l : Layout) → StartsAt (section_id kind) at symbols l → (xs : List ℕ) × ((frames_at kind t 0).piece.text big l ≡ Some xs)) → Stands before at t set
  stands before rest at t set is here written h =
      let s = section_id kind in
      let n = length before in
      let l = layout_in all symbols n s in
      let own = parts_of meaning set in
      let found = kind_there set kind in
      let m = meaning found.writer in
      let w = written.part found.writer found.is in
      let started : l.own_start ≡ at = behind all before (own ∷ rest) n s is refl ∙ here in
      let text = h l (record { own = started; begun = begins all symbols n kind ∙ started; values = refl }) in
      let resolves : resolved l m ≡ Some text.0 = written_text big l kind t m w ∙ text.1 in
      let own_is : own s ≡ Some m = ap (option_map meaning) found.is in
      let long : length (bytes_of (own s)) ≡ length text.0 = ap (λ o. length (bytes_of o)) own_is ∙ part_length l m text.0 (w.tidy (new_tidy big)) resolves in
      let wide : length text.0 ≡ (frames_at kind t 0).piece.size = w.wide big l text.0 text.1 in
      let moved : (k : ℕ) → (xs : List ℕ) × (resolved (far (λ q. at) at symbols k) m ≡ Some xs) = λ k.
      let far_text = h (far (λ q. at) at symbols k) (record { own = refl; begun = far_start at symbols k kind; values = refl }) in
      (far_text.0, written_text big (far (λ q. at) at symbols k) kind t m w ∙ far_text.1)
      in
      record { writer = found.writer; is = found.is; text = text.0; there = resolves; joined = part_joined (λ q. at) at symbols m moved; next = omega (arith, concatenated-more s before own, here, long, wide) }

  fault_here : (before : List Parts) (at : ℕ) (t : FrameTable) (set : Sections W) (s : SectionId) (k : ℕ) (f : Fault) → IsWrittenSet meaning big kind t set → Stands before at t set →
      (parts_of meaning set s >>= λ m. part_fault (layout_in all symbols (length before) s) m k) ≡ Some f → ⊥
  fault_here before at t set s k f written p e = by_same (is_same s (section_id kind)) refl
    where
      by_same : (b : Bool) → is_same s (section_id kind) ≡ b → ⊥
      by_same true same =
          let here : s ≡ section_id kind = same_section s (section_id kind) same in
          let e2 = subst (λ q. (parts_of meaning set q >>= λ m. part_fault (layout_in all symbols (length before) q) m k) ≡ Some f) here e in
          let own_is : parts_of meaning set (section_id kind) ≡ Some (meaning p.writer) = ap (option_map meaning) p.is in
          part_faultless (layout_in all symbols (length before) (section_id kind)) (start_in all (length before)) (meaning p.writer) k f p.text refl p.there p.joined (sym (ap (λ o. o >>= λ m. part_fault (layout_in all symbols (length before) (section_id kind)) m k) own_is) ∙ e2)
      by_same false other = by_writer (section_of set s) refl
        where
          by_writer : (o : Option W) → section_of set s ≡ o → ⊥
          by_writer None is = none-some f (sym (ap (λ o. option_map meaning o >>= λ m. part_fault (layout_in all symbols (length before) s) m k) is) ∙ e)
          by_writer (Some w) is =
              let m = written.others s w other is in
              let found = sym (ap (λ o. option_map meaning o >>= λ m. part_fault (layout_in all symbols (length before) s) m k) is) ∙ e in
              none-some f (sym (no_fault (layout_in all symbols (length before) s) big k) ∙ sym (ap (λ x. part_fault (layout_in all symbols (length before) s) x k) m) ∙ found)

  fault_from : (before : List Parts) (at : ℕ) (ts : List FrameTable) (sets : List (Sections W)) (j : ℕ) (s : SectionId) (k : ℕ) (f : Fault) → all ≡ before ++ sets_of meaning sets → length (concatenated (section_id kind) before) ≡ at →
      AreWritten meaning big kind ts sets → AreThere kind big symbols ts at →
      (slice_get (sets_of meaning sets) j >>= λ set. set s >>= λ m. part_fault (layout_in all symbols (length before + j) s) m k) ≡ Some f → ⊥
  fault_from before at [] [] zero s k f is here written there e = cc
  fault_from before at [] [] (suc j) s k f is here written there e = cc
  fault_from before at [] (set ∷ sets) j s k f is here written there e = absurd written
  fault_from before at (t ∷ ts) [] j s k f is here written there e = absurd written
  fault_from before at (t ∷ ts) (set ∷ sets) zero s k f is here written there e =
      let p = stands before (sets_of meaning sets) at t set is here written.0 there.0 in
      let first : length before + 0 ≡ length before = omega arith in
      fault_here before at t set s k f written.0 p (subst (λ n. (parts_of meaning set s >>= λ m. part_fault (layout_in all symbols n s) m k) ≡ Some f) first e)
  fault_from before at (t ∷ ts) (set ∷ sets) (suc j) s k f is here written there e =
      let own = parts_of meaning set in
      let p = stands before (sets_of meaning sets) at t set is here written.0 there.0 in
      let count : length before + suc j ≡ length (before ++ own ∷ []) + j = omega (arith, length-append before (own ∷ [])) in
      fault_from (before ++ own ∷ []) (at + (frames_at kind t 0).piece.size) ts sets j s k f (is ∙ sym (append_assoc before (own ∷ []) (sets_of meaning sets))) p.next written.1 there.1
      (subst (λ n. (slice_get (sets_of meaning sets) j >>= λ set. set s >>= λ m. part_fault (layout_in all symbols n s) m k) ≡ Some f) count e)

pub there_linked : {W : Type 0} (meaning : W → Meaning) (big : Bool) (kind : FrameKind) (symbols : List ℕ) (ts : List FrameTable) (sets : List (Sections W)) → AreWritten meaning big kind ts sets → AreThere kind big symbols ts 0 →
    IsFaultless (sets_of meaning sets) symbols
unfolding fault_at
there_linked meaning big kind symbols ts sets written there n s k = by_fault (fault_at (sets_of meaning sets) symbols n s k) refl
  where
    by_fault : (o : Option Fault) → fault_at (sets_of meaning sets) symbols n s k ≡ o → fault_at (sets_of meaning sets) symbols n s k ≡ None
    by_fault None is = is
    by_fault (Some f) is =
        let all = sets_of meaning sets in
        let first : n ≡ 0 + n = omega arith in
        let stands = subst (λ j. (slice_get all n >>= λ set. set s >>= λ m. part_fault (layout_in all symbols j s) m k) ≡ Some f) first is in
        absurd (fault_from meaning big kind symbols all [] 0 ts sets n s k f refl refl written there stands)
