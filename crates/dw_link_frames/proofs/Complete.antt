-- Tables that no writer has a cause to refuse, one behind another, are there wherever other sections start.
use Rattle.std.specs.Prelude.{◌≡◌, ℕ, zero, suc, ◌+◌, ◌≤◌, Bool, true, nat_lt, List, [], ◌∷◌, length, Option, Some, None, refl, IsTrue, IsFalse, slice_get}
use Rattle.std.specs.List.{list_any}
use Rattle.std.proofs.Common.{sym, ◌∙◌, ap, subst, arith}
use Rattle.std.proofs.lemmas.Bool.{and_parts}
use Rattle.std.proofs.lemmas.Bool.Decides.{nat_tests}
use Rattle.std.proofs.lemmas.Option.{slice_get-map}
use Rattle.dw_base.specs.declared.ids.CieId.{CieId}
use Rattle.dw_writer.specs.Layout.{Layout, start_of}
use Rattle.dw_frame.specs.declared.cie.CommonInformationEntry.{CommonInformationEntry}
use Rattle.dw_frame.specs.declared.fde.FrameDescriptionEntry.{FrameDescriptionEntry}
use Rattle.dw_frame.specs.declared.kind.FrameKind.{FrameKind}
use Rattle.dw_frame.specs.declared.kind.FrameKind.TheVariants.{Debug, Eh}
use Rattle.dw_frame.specs.declared.table.FrameTable.{FrameTable}
use Rattle.dw_frame_instructions.specs.Causes.{IsNone}
use Rattle.dw_frame.specs.Owners.{have_cies}
use Rattle.dw_frame.specs.Parts.{Placed}
use Rattle.dw_frame.specs.Places.{AreBefore}
use Rattle.dw_frame.specs.Tables.{Places, no_places, with_place, place_at, new_cie, fde_of, frame, frames_from, frames_part, frames_at}
use Rattle.dw_frame.proofs.TableSteps.{place_before, before_more, none_before}
use Rattle.dw_frame.proofs.TextParts.{turn_size}
use Rattle.dw_link_frames.specs.Numbered.{numbered_cie, numbered_fde, numbered_cies, numbered_fdes}
use Rattle.dw_link_frames.specs.Placed.{section_id, numbered_part, tables_part, personality_fixed, entry_fixed, frames_fixed, AreFree, StartsAt, AreThere}
use Rattle.dw_link_frames.specs.Written.{AreTaken}
use Rattle.dw_link_frames.proofs.Entering.{first_false, second_false, IsBegun}
use Rattle.dw_link.proofs.JoinedSections.{far}
use Rattle.dw_link_frames.proofs.Sound.{There, Known, turn_known, turn_known_there}
use Rattle.dw_link_frames.proofs.Tabling.{turn_none, other_of, moved, to_number, AreMoved, place_moved, with_moved, new_moves, frame_moves, table_moves}
use Rattle.dw_link_frames.proofs.Turning.{Moves}
use Rattle.dw_link_frames.proofs.Whole.{cie_known, fde_known}

-- each FDE has its CIE
abbrev HaveCies : List CommonInformationEntry → List (CieId × FrameDescriptionEntry) → Type 0
HaveCies cies [] = Unit {0}
HaveCies cies (x ∷ xs) = (slice_get cies x.0.0 ≡ None → ⊥) × HaveCies cies xs

got_below : (cies : List CommonInformationEntry) (i : ℕ) → IsTrue (nat_lt i (length cies)) → slice_get cies i ≡ None → ⊥
got_below [] i h e = grind (arith, nat_tests)
got_below (c ∷ cies) zero h e = cc
got_below (c ∷ cies) (suc i) h e = got_below cies i (grind (arith, nat_tests)) e

cies_had : (cies : List CommonInformationEntry) (fdes : List (CieId × FrameDescriptionEntry)) → IsTrue (have_cies (length cies) fdes) → HaveCies cies fdes
cies_had cies [] h = tt
cies_had cies (x ∷ xs) h =
    let p = and_parts (nat_lt x.0.0 (length cies)) (have_cies (length cies) xs) h in
    (got_below cies x.0.0 p.0, cies_had cies xs p.1)

module _ (big : Bool) (l : Layout) (kind : FrameKind) (begun : IsBegun l kind) where
  new_known : (place : Option ℕ) (o : Option CommonInformationEntry) (f : FrameDescriptionEntry) (at : ℕ) → IsFalse (entry_fixed o f) → (o ≡ None → ⊥) → Known big l (new_cie kind place o) (new_cie kind (moved big l kind begun place) (to_number big l kind begun o)) at
  new_known None None f at h there = absurd (there refl)
  new_known None (Some c) f at h there = cie_known big l kind c at (first_false (personality_fixed c.personality) _ h)
  new_known (Some p) None f at h there = λ none other. ([], refl)
  new_known (Some p) (Some c) f at h there = λ none other. ([], refl)

  own_known : (cie : ℕ) (o : Option CommonInformationEntry) (f : FrameDescriptionEntry) (at : ℕ) → cie ≤ at → IsFalse (entry_fixed o f) → (o ≡ None → ⊥) →
      Known big l (fde_of kind cie o f) (fde_of kind (l.own_start + cie) (to_number big l kind begun o) (numbered_fde l.symbols f)) at
  own_known cie None f at before h there = absurd (there refl)
  own_known cie (Some c) f at before h there =
      λ none other. fde_known big l kind cie c f at begun (other_of kind (l.own_start + cie) (numbered_cie l.symbols c) (numbered_fde l.symbols f) (l.own_start + at) other) before h none other

  frame_known : (cies : List CommonInformationEntry) (places now : Places) (x : CieId × FrameDescriptionEntry) (at : ℕ) → AreMoved big l kind begun places now → AreBefore places at → IsFalse (entry_fixed (slice_get cies x.0.0) x.1) → (slice_get cies x.0.0 ≡ None → ⊥) →
      Known big l (frame kind cies places x) (frame kind (numbered_cies l.symbols cies) now (x.0, numbered_fde l.symbols x.1)) at
  frame_known cies places now x at same before free there =
      let i = x.0.0 in
      let cie = place_at (places i) at in
      let o = slice_get cies i in
      let p = slice_get (numbered_cies l.symbols cies) i in
      let g = numbered_fde l.symbols x.1 in
      let own : Placed = new_cie kind (places i) o in
      let it : Placed = fde_of kind cie o x.1 in
      let got : p ≡ to_number big l kind begun o = slice_get-map (numbered_cie l.symbols) cies i in
      let stands : place_at (now i) (l.own_start + at) ≡ l.own_start + cie = ap (λ q. place_at q (l.own_start + at)) (same i) ∙ place_moved big l kind begun (places i) at in
      let n = at + (own at).piece.size in
      let moves : Moves big l own (new_cie kind (now i) p) at = subst (λ q. Moves big l own (new_cie kind q p) at) (sym (same i)) (subst (λ d. Moves big l own (new_cie kind (moved big l kind begun (places i)) d) at) (sym got) (new_moves big l kind begun (places i) o x.1 at free)) in
      let first : Known big l own (new_cie kind (now i) p) at = subst (λ q. Known big l own (new_cie kind q p) at) (sym (same i)) (subst (λ d. Known big l own (new_cie kind (moved big l kind begun (places i)) d) at) (sym got) (new_known (places i) o x.1 at free there)) in
      let behind : cie ≤ n = place_before (places i) at n (before i) (omega arith) in
      let second : Known big l it (fde_of kind (place_at (now i) (l.own_start + at)) p g) n = subst (λ q. Known big l it (fde_of kind q p g) n) (sym stands) (subst (λ d. Known big l it (fde_of kind (l.own_start + cie) d g) n) (sym got) (own_known cie o x.1 n behind free there)) in
      turn_known big l own (new_cie kind (now i) p) it (fde_of kind (place_at (now i) (l.own_start + at)) p g) at moves first second

  frames_known : (cies : List CommonInformationEntry) (fdes : List (CieId × FrameDescriptionEntry)) (places now : Places) (at : ℕ) → AreMoved big l kind begun places now → AreBefore places at → IsFalse (frames_fixed cies fdes) → HaveCies cies fdes →
      Known big l (frames_from kind cies places fdes) (frames_from kind (numbered_cies l.symbols cies) now (numbered_fdes l.symbols fdes)) at
  frames_known cies [] places now at same before free there = λ none other. ([], refl)
  frames_known cies (x ∷ xs) places now at same before free there =
      let i = x.0.0 in
      let place = place_at (places i) at in
      let more = numbered_cies l.symbols cies in
      let y : CieId × FrameDescriptionEntry = (x.0, numbered_fde l.symbols x.1) in
      let one : Placed = frame kind cies places x in
      let new : Placed = frame kind more now y in
      let places2 = with_place i place places in
      let now2 = with_place i (place_at (now i) (l.own_start + at)) now in
      let n = at + (one at).piece.size in
      let stands : place_at (now i) (l.own_start + at) ≡ l.own_start + place = ap (λ p. place_at p (l.own_start + at)) (same i) ∙ place_moved big l kind begun (places i) at in
      let here = first_false (entry_fixed (slice_get cies i) x.1) (frames_fixed cies xs) free in
      let rest = second_false (entry_fixed (slice_get cies i) x.1) (frames_fixed cies xs) free in
      let size = turn_size (new_cie kind (places i) (slice_get cies i)) (fde_of kind place (slice_get cies i) x.1) at in
      let behind : place ≤ n = place_before (places i) at n (before i) (omega arith) in
      let same2 : AreMoved big l kind begun places2 now2 = subst (λ p. AreMoved big l kind begun places2 (with_place i p now)) (sym stands) (with_moved big l kind begun i place places now same) in
      turn_known_there big l one new (frames_from kind cies places2 xs) (frames_from kind more now2 (numbered_fdes l.symbols xs)) at
      (λ none. frame_moves big l kind begun cies places now x at same before here none) (frame_known cies places now x at same before here there.0)
      (frames_known cies xs places2 now2 n same2 (before_more places i place at n before behind (omega arith)) rest there.1)

  pub table_known : (cies : List CommonInformationEntry) (fdes : List (CieId × FrameDescriptionEntry)) → IsFalse (frames_fixed cies fdes) → HaveCies cies fdes →
      Known big l (frames_part kind cies fdes) (frames_part kind (numbered_cies l.symbols cies) (numbered_fdes l.symbols fdes)) 0
  table_known cies fdes free there = frames_known cies fdes no_places no_places 0 (λ i. refl) (none_before 0) free there

begun_by : (kind : FrameKind) (start : ℕ) (l : Layout) → l.own_start ≡ start → start_of l (section_id kind) ≡ start → IsBegun l kind
begun_by Debug start l own begun = begun ∙ sym own
begun_by Eh start l own begun = tt

far_start : (at : ℕ) (symbols : List ℕ) (kind : FrameKind) → start_of (far (λ q. at) at symbols 0) (section_id kind) ≡ at
far_start at symbols Debug = refl
far_start at symbols Eh = refl

-- such tables are there
pub valid_there : (big : Bool) (kind : FrameKind) (symbols : List ℕ) (ts : List FrameTable) (at : ℕ) → AreTaken kind ts → AreFree ts → IsNone ((tables_part kind symbols ts at).fails true) → AreThere kind big symbols ts at
valid_there big kind symbols [] at taken free none = tt
valid_there big kind symbols (t ∷ ts) at taken free none =
    let here = first_false (frames_fixed t.cies.keys t.fdes.items) (list_any (λ (t : FrameTable). frames_fixed t.cies.keys t.fdes.items) ts) free in
    let rest = second_false (frames_fixed t.cies.keys t.fdes.items) (list_any (λ (t : FrameTable). frames_fixed t.cies.keys t.fdes.items) ts) free in
    let parts = turn_none true (numbered_part kind symbols t) (tables_part kind symbols ts) at none in
    let had = cies_had t.cies.keys t.fdes.items t.complete in
    let there : (l : Layout) → StartsAt (section_id kind) at symbols l → There big l (frames_at kind t 0).piece = λ l s.
    let started : at ≡ l.own_start + 0 = omega (arith, s.own) in
    let none_here = subst (λ ss. IsNone ((numbered_part kind ss t (l.own_start + 0)).fails true)) (sym s.values) (subst (λ n. IsNone ((numbered_part kind symbols t n).fails true)) started parts.0) in
    table_known big l kind (begun_by kind at l s.own s.begun) t.cies.keys t.fdes.items here had taken.0 none_here
    in
    let l0 = far (λ q. at) at symbols 0 in
    let text = there l0 (record { own = refl; begun = far_start at symbols kind; values = refl }) in
    let start0 : at ≡ l0.own_start + 0 = omega arith in
    let none0 = subst (λ n. IsNone ((numbered_part kind symbols t n).fails true)) start0 parts.0 in
    let size0 = (table_moves big l0 kind (begun_by kind at l0 refl (far_start at symbols kind)) t.cies.keys t.fdes.items here none0 text.0 text.1).size in
    let size : (numbered_part kind symbols t at).piece.size ≡ (frames_at kind t 0).piece.size = ap (λ n. (numbered_part kind symbols t n).piece.size) start0 ∙ size0 in
    (there, valid_there big kind symbols ts (at + (frames_at kind t 0).piece.size) taken.1 rest (subst (λ n. IsNone ((tables_part kind symbols ts (at + n)).fails true)) size parts.1))
