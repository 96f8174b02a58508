-- Tables of FDEs are read to the last byte, one entry right behind another.
use Rattle.std.specs.Prelude.{◌≡◌, ℕ, ◌+◌, ◌≤◌, Bool, true, List, [], ◌∷◌, ◌++◌, length, Option, Some, None, slice_get, Result, Ok, Err, OnOk}
use Rattle.std.proofs.Common.{sym, ◌∙◌, ap, subst, arith, append_assoc, append-nil, length-append}
use Rattle.dw_base.specs.declared.error.Error.{Error}
use Rattle.dw_base.specs.declared.ids.CieId.{CieId}
use Rattle.dw_writer.specs.Meaning.{Meaning}
use Rattle.dw_frame.specs.declared.cie.CommonInformationEntry.{CommonInformationEntry}
use Rattle.dw_frame.specs.declared.fde.FrameDescriptionEntry.{FrameDescriptionEntry}
use Rattle.dw_frame.specs.declared.kind.FrameKind.{FrameKind}
use Rattle.dw_frame.specs.Parts.{Placed, Puts}
use Rattle.dw_frame.specs.Places.{AreBefore}
use Rattle.dw_frame.specs.Fdes.{fde_part}
use Rattle.dw_frame.specs.Tables.{Places, no_places, with_place, place_at, new_cie, fde_of, frame, frames_from, frames_part}
use Rattle.dw_frame.specs.ReadCies.{place_of, IsRangedCie, ReadsCie}
use Rattle.dw_frame.specs.Reading.{ShowsFde, AreTold}
use Rattle.dw_frame.specs.ReadTables.{IsNewCie, ReadsFrame, ReadsFrames, HoldsAlone}
use Rattle.dw_frame.proofs.TextParts.{IsText, turned, turn_size}
use Rattle.dw_frame.proofs.TableSteps.{place_before, before_more, none_before}
use Rattle.dw_frame.proofs.FdeReading.{fde_again}
use Rattle.dw_frame.proofs.CieReading.{cie_again}
use Rattle.dw_frame.proofs.IdLaws.{cie_is_entry, fde_is_entry}
use Rattle.dw_frame.proofs.TableReading.{some_cie, plain_text}

-- a CIE that has no place yet
new_again : (kind : FrameKind) (big : Bool) (c : CommonInformationEntry) (place : Option ℕ) (at : ℕ) (xs : List ℕ) → IsRangedCie c → IsText big (new_cie kind place (Some c) at) xs → length xs ≡ (new_cie kind place (Some c) at).piece.size →
    IsNewCie kind big c place at xs
new_again kind big c None at xs ranged e long = (cie_is_entry kind c at big xs e long, subst (ReadsCie kind big c at) (append-nil xs) (cie_again kind c at big xs [] ranged e))
new_again kind big c (Some p) at xs ranged e long = let f : [] ≡ xs = cc in sym f

module _ (kind : FrameKind) (big : Bool) (cies : List CommonInformationEntry) where
  pub frames_whole : (fdes : List (CieId × FrameDescriptionEntry)) (places : Places) (at : ℕ) (zs : List ℕ) → AreBefore places at → AreTold kind cies places fdes at →
      IsText big (frames_from kind cies places fdes at) zs → ReadsFrames kind big cies places fdes at zs
  frames_whole [] places at zs before told e = let f : [] ≡ zs = cc in sym f
  frames_whole (x ∷ xs) places at zs before told e =
      let i = x.0.0 in
      let place = place_at (places i) at in
      let own : Placed = new_cie kind (places i) (slice_get cies i) in
      let it : Placed = fde_of kind place (slice_get cies i) x.1 in
      let places2 = with_place i place places in
      let size = (frame kind cies places x at).piece.size in
      let at1 = at + (own at).piece.size in
      let s = turned (frame kind cies places x) (frames_from kind cies places2 xs) at big zs e in
      let t = turned own it at big s.xs s.first in
      let long1 : length t.xs ≡ (own at).piece.size = told.0.cie big t.xs t.first in
      let long2 : length t.ys ≡ (it at1).piece.size = told.0.fde big t.ys t.second in
      let found = some_cie kind big cies place at1 (slice_get cies i) x.1 t.ys t.second in
      let c = found.0 in
      let here : place ≤ at1 = place_before (places i) at at1 (before i) (omega arith) in
      let text1 : IsText big (new_cie kind (places i) (Some c) at) t.xs = subst (λ o. IsText big (new_cie kind (places i) o at) t.xs) found.1 t.first in
      let size1 : length t.xs ≡ (new_cie kind (places i) (Some c) at).piece.size = long1 ∙ ap (λ o. (new_cie kind (places i) o at).piece.size) found.1 in
      let text2 : IsText big (fde_part kind place c x.1 at1) t.ys = subst (λ o. IsText big (fde_of kind place o x.1 at1) t.ys) found.1 t.second in
      let size2 : length t.ys ≡ (fde_part kind place c x.1 at1).piece.size = long2 ∙ ap (λ o. (fde_of kind place o x.1 at1).piece.size) found.1 in
      let fde : ShowsFde kind big c x.1 place at1 t.ys = subst (ShowsFde kind big c x.1 place at1) (append-nil t.ys) (fde_again kind place at1 c x.1 big t.ys [] here told.0.ranged text2) in
      let whole : zs ≡ t.xs ++ (t.ys ++ s.ys) = s.whole ∙ ap (λ ys. ys ++ s.ys) t.whole ∙ append_assoc t.xs t.ys s.ys in
      let first : ReadsFrame kind big cies places x at zs s.ys = record {
        cie = c;
        built = found.1;
        common = t.xs;
        own = t.ys;
        whole = whole;
        new = new_again kind big c (places i) at t.xs (told.0.own c found.1) text1 size1;
        is = fde_is_entry kind place at1 c x.1 big t.ys here text2 size2;
        fde = subst (λ n. ShowsFde kind big c x.1 place (at + n) t.ys) (sym long1) fde;
      } in
      let grown : size ≡ (own at).piece.size + (it at1).piece.size = turn_size own it at in
      let behind : place_of at zs s.ys ≡ at + size = omega (arith, ap length whole, length-append t.xs (t.ys ++ s.ys), length-append t.ys s.ys, long1, long2, grown) in
      let before2 : AreBefore places2 (at + size) = before_more places i place at (at + size) before (omega (arith, here, grown)) (omega arith) in
      (s.ys, first, subst (λ n. ReadsFrames kind big cies places2 xs n s.ys) (sym behind) (frames_whole xs places2 (at + size) s.ys before2 told.1 s.second))

-- a table that was written to a section of its own is the whole section
pub table_whole : (r : Result (Unit {0}) Error) (a b : Meaning) (kind : FrameKind) (cies : List CommonInformationEntry) (fdes : List (CieId × FrameDescriptionEntry)) → (b.is_plain ≡ true → b.records ≡ []) →
    Puts r a b (frames_part kind cies fdes) → OnOk r (AreTold kind cies no_places fdes a.size) → OnOk r (HoldsAlone a b (λ bytes. ReadsFrames kind a.is_big cies no_places fdes 0 bytes))
table_whole (Ok x) a b kind cies fdes plain h told = λ empty bytes is.
    let text = plain_text bytes h.0 empty (plain (h.0.same.kind ∙ empty.plain)) is in
    let told0 = subst (AreTold kind cies no_places fdes) empty.size told in
    let text0 : IsText a.is_big (frames_part kind cies fdes 0) bytes = subst (λ n. IsText a.is_big (frames_part kind cies fdes n) bytes) empty.size text in
    frames_whole kind a.is_big cies fdes no_places 0 bytes (none_before 0) told0 text0
table_whole (Err e) a b kind cies fdes plain h told = tt
