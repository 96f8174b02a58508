-- Sections of call frames that are written are read back.
use Rattle.std.specs.Prelude.{◌≡◌, ℕ, ◌+◌, ◌^◌, ◌<◌, ◌≤◌, Bool, List, [], ◌∷◌, ◌++◌, length, Option, Some, None, slice_get}
use Rattle.std.proofs.Common.{sym, ◌∙◌, ap, subst, arith, append_assoc, length-append}
use Rattle.dw_base.specs.declared.ids.CieId.{CieId}
use Rattle.dw_frame.specs.declared.cie.CommonInformationEntry.{CommonInformationEntry}
use Rattle.dw_frame.specs.declared.fde.FrameDescriptionEntry.{FrameDescriptionEntry}
use Rattle.dw_frame.specs.declared.kind.FrameKind.{FrameKind}
use Rattle.dw_frame.specs.Fdes.{fde_part}
use Rattle.dw_frame.specs.Parts.{Placed}
use Rattle.dw_frame.specs.Places.{AreBefore}
use Rattle.dw_frame.specs.ReadCies.{place_of, IsRangedCie}
use Rattle.dw_frame.specs.Reading.{AreTold}
use Rattle.dw_frame.specs.Tables.{Places, no_places, with_place, place_at, new_cie, fde_of, frame, frames_from}
use Rattle.dw_frame.proofs.TableReading.{some_cie}
use Rattle.dw_frame.proofs.TableSteps.{place_before, before_more, none_before}
use Rattle.dw_frame.proofs.TextParts.{IsText, turned, turn_size}
use Rattle.dw_read_frames.specs.Entries.{Entry, Cie, Fde}
use Rattle.dw_read_back.specs.Heads.{is_eh}
use Rattle.dw_read_back.specs.Entries.{KnowsSize, ReadsFdeBack}
use Rattle.dw_read_back.specs.Sections.{IsNewCieBack, ReadsFrameBack, ReadsFramesBack, AreKnown, SectionReadsBack, ReadsEntries, SectionIsWalked}
use Rattle.dw_read_back.proofs.CieReading.{cie_back}
use Rattle.dw_read_back.proofs.FdeReading.{fde_back}

-- a CIE that has no place yet
new_back : (kind : FrameKind) (big : Bool) (size : ℕ) (c : CommonInformationEntry) (place : Option ℕ) (at : ℕ) (xs : List ℕ) → KnowsSize size c → IsRangedCie c → c.return_address_register.0 < 2 ^ 16 →
    IsText big (new_cie kind place (Some c) at) xs → IsNewCieBack kind big size c place at xs
new_back kind big size c None at xs knows ranged short e = cie_back kind c big size at xs knows ranged short e
new_back kind big size c (Some p) at xs knows ranged short e = let f : [] ≡ xs = cc in sym f

module _ (kind : FrameKind) (big : Bool) (target : ℕ) (cies : List CommonInformationEntry) (known : AreKnown target cies) where
  frames_back : (fdes : List (CieId × FrameDescriptionEntry)) (places : Places) (at : ℕ) (zs : List ℕ) → AreBefore places at → AreTold kind cies places fdes at →
      IsText big (frames_from kind cies places fdes at) zs → ReadsFramesBack kind big target cies places fdes at zs
  frames_back [] places at zs before told e = let f : [] ≡ zs = cc in sym f
  frames_back (x ∷ xs) places at zs before told e =
      let i = x.0.0 in
      let place = place_at (places i) at in
      let own : Placed = new_cie kind (places i) (slice_get cies i) in
      let it : Placed = fde_of kind place (slice_get cies i) x.1 in
      let places2 = with_place i place places in
      let size = (frame kind cies places x at).piece.size in
      let at1 = at + (own at).piece.size in
      let s = turned (frame kind cies places x) (frames_from kind cies places2 xs) at big zs e in
      let t = turned own it at big s.xs s.first in
      let long1 : length t.xs ≡ (own at).piece.size = told.0.cie big t.xs t.first in
      let long2 : length t.ys ≡ (it at1).piece.size = told.0.fde big t.ys t.second in
      let found = some_cie kind big cies place at1 (slice_get cies i) x.1 t.ys t.second in
      let c = found.0 in
      let here : place ≤ at1 = place_before (places i) at at1 (before i) (omega arith) in
      let text1 : IsText big (new_cie kind (places i) (Some c) at) t.xs = subst (λ o. IsText big (new_cie kind (places i) o at) t.xs) found.1 t.first in
      let text2 : IsText big (fde_part kind place c x.1 at1) t.ys = subst (λ o. IsText big (fde_of kind place o x.1 at1) t.ys) found.1 t.second in
      let fde : ReadsFdeBack kind big c x.1 place at1 t.ys = fde_back kind c x.1 big place at1 t.ys here told.0.ranged text2 in
      let whole : zs ≡ t.xs ++ (t.ys ++ s.ys) = s.whole ∙ ap (λ ys. ys ++ s.ys) t.whole ∙ append_assoc t.xs t.ys s.ys in
      let knows = known i c found.1 in
      let first : ReadsFrameBack kind big target cies places x at zs s.ys = record {
        cie = c;
        built = found.1;
        common = t.xs;
        own = t.ys;
        whole = whole;
        new = new_back kind big target c (places i) at t.xs knows.0 (told.0.own c found.1) knows.1 text1;
        fde = subst (λ n. ReadsFdeBack kind big c x.1 place (at + n) t.ys) (sym long1) fde;
      } in
      let grown : size ≡ (own at).piece.size + (it at1).piece.size = turn_size own it at in
      let behind : place_of at zs s.ys ≡ at + size = omega (arith, ap length whole, length-append t.xs (t.ys ++ s.ys), length-append t.ys s.ys, long1, long2, grown) in
      let before2 : AreBefore places2 (at + size) = before_more places i place at (at + size) before (omega (arith, here, grown)) (omega arith) in
      (s.ys, first, subst (λ n. ReadsFramesBack kind big target cies places2 xs n s.ys) (sym behind) (frames_back xs places2 (at + size) s.ys before2 told.1 s.second))

pub section_back : (kind : FrameKind) (cies : List CommonInformationEntry) (fdes : List (CieId × FrameDescriptionEntry)) → SectionReadsBack kind cies fdes
section_back kind cies fdes big size bytes told known text = frames_back kind big size cies known fdes no_places 0 bytes (none_before 0) told text

module _ (kind : FrameKind) (big : Bool) (size : ℕ) (cies : List CommonInformationEntry) where
  abbrev Walked : ℕ → List ℕ → Type 0
  Walked at bytes = (entries : List Entry) × ReadsEntries (is_eh kind) big size at entries bytes

  -- an FDE, and a CIE before it where that has no place yet
  walk_own : (c : CommonInformationEntry) (f : FrameDescriptionEntry) (cie at : ℕ) (own rest : List ℕ) → ReadsFdeBack kind big c f cie at own → Walked (at + length own) rest → Walked at (own ++ rest)
  walk_own c f cie at own rest b more =
      let there : place_of at (own ++ rest) rest ≡ at + length own = omega (arith, length-append own rest) in
      (Fde c.encoding.format cie b.body ∷ more.0, (rest, b.entry size rest, subst (λ n. ReadsEntries (is_eh kind) big size n more.0 rest) (sym there) more.1))

  walk_new : (c : CommonInformationEntry) (place : Option ℕ) (at : ℕ) (common rest : List ℕ) → IsNewCieBack kind big size c place at common → Walked (at + length common) rest → Walked at (common ++ rest)
  walk_new c None at common rest b more =
      let there : place_of at (common ++ rest) rest ≡ at + length common = omega (arith, length-append common rest) in
      (Cie b.fields b.instructions ∷ more.0, (rest, b.read rest, subst (λ n. ReadsEntries (is_eh kind) big size n more.0 rest) (sym there) more.1))
  walk_new c (Some p) at common rest none more =
      let here : Walked (at + 0) rest = subst (λ ys. Walked (at + length ys) rest) none more in
      subst (λ ys. Walked at (ys ++ rest)) (sym none) (subst (λ n. Walked n rest) (omega arith) here)

  walk : (fdes : List (CieId × FrameDescriptionEntry)) (places : Places) (at : ℕ) (bytes : List ℕ) → ReadsFramesBack kind big size cies places fdes at bytes → Walked at bytes
  walk [] places at bytes h = ([], h)
  walk (x ∷ xs) places at bytes h =
      let rest = h.0 in
      let f = h.1 in
      let more = walk xs (with_place x.0.0 (place_at (places x.0.0) at) places) (place_of at bytes rest) rest h.2 in
      let there : place_of at bytes rest ≡ at + length f.common + length f.own = omega (arith, ap length f.whole, length-append f.common (f.own ++ rest), length-append f.own rest) in
      let own = walk_own f.cie x.1 (place_at (places x.0.0) at) (at + length f.common) f.own rest f.fde (subst (λ n. Walked n rest) there more) in
      subst (Walked at) (sym f.whole) (walk_new f.cie (places x.0.0) at f.common (f.own ++ rest) f.new own)

pub section_walked : (kind : FrameKind) (cies : List CommonInformationEntry) (fdes : List (CieId × FrameDescriptionEntry)) → SectionIsWalked kind cies fdes
section_walked kind cies fdes big size bytes told known text = walk kind big size cies fdes no_places 0 bytes (section_back kind cies fdes big size bytes told known text)
