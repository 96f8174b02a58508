-- Tables of FDEs are read again: each FDE leads to its CIE.
use Rattle.std.specs.Prelude.{◌≡◌, ℕ, zero, suc, ◌+◌, ◌<◌, ◌≤◌, ◌==◌, Bool, true, false, All, List, [], ◌∷◌, ◌++◌, length, get_or, Option, Some, None, slice_get, Result, Ok, Err, OnOk, refl, if◌then◌else◌}
use Rattle.std.proofs.Common.{sym, ◌∙◌, ap, subst, arith, append_assoc, append-nil, length-append}
use Rattle.std.proofs.lemmas.Bool.{eqb-true}
use Rattle.dw_base.specs.declared.error.Error.{Error}
use Rattle.dw_base.specs.declared.ids.CieId.{CieId}
use Rattle.dw_writer.specs.New.{IsEmptyPlainWriter}
use Rattle.dw_writer.specs.Resolved.{resolved}
use Rattle.dw_writer.specs.Texts.{Text, followed}
use Rattle.dw_writer.specs.Meaning.{Meaning, Model, AllInside, IsTidy, IsSameWriter, Appends}
use Rattle.dw_writer.proofs.Steps.{shown, resolved-same}
use Rattle.dw_frame.specs.declared.cie.CommonInformationEntry.{CommonInformationEntry}
use Rattle.dw_frame.specs.declared.fde.FrameDescriptionEntry.{FrameDescriptionEntry}
use Rattle.dw_frame.specs.declared.kind.FrameKind.{FrameKind}
use Rattle.dw_frame.specs.Parts.{Placed, Puts}
use Rattle.dw_frame.specs.Cies.{cie_part}
use Rattle.dw_frame.specs.Fdes.{fde_part}
use Rattle.dw_frame.specs.Tables.{Places, no_places, with_place, place_at, new_cie, fde_of, frame, frames_from, frames_part}
use Rattle.dw_frame.specs.Reading.{at_zero, ShowsCie, ShowsFrame, ShowsFrames, AreTold}
use Rattle.dw_frame_instructions.proofs.Steps.{nothing-followed}
use Rattle.dw_frame.proofs.TextParts.{IsText, turned, turn_size}
use Rattle.dw_frame.specs.ReadCies.{IsRangedCie}
use Rattle.dw_frame.proofs.FdeReading.{fde_again}
use Rattle.dw_frame.proofs.CieReading.{cie_again}

all_at : {A : Type 0} (P : A → Type 0) (x : A) (xs : List A) → P x → All P xs → (k : ℕ) (d : A) → k < length (x ∷ xs) → P (get_or (x ∷ xs) k d)
all_at P x xs p ps zero d h = p
all_at P x xs p ps (suc k) d h = ps k d (omega (arith, h))

module _ (kind : FrameKind) (big : Bool) (cies : List CommonInformationEntry) where
  -- each CIE that has a place stands there, before what follows
  abbrev AreShown : Places → List ℕ → Type 0
  AreShown places bytes = (i p : ℕ) (c : CommonInformationEntry) → places i ≡ Some p → slice_get cies i ≡ Some c → (p ≤ length bytes) × ShowsCie kind big c p bytes

  more_shown : {c : CommonInformationEntry} {p : ℕ} (bytes more : List ℕ) → ShowsCie kind big c p bytes → ShowsCie kind big c p (bytes ++ more)
  more_shown bytes more s = record {
    before = s.before;
    text = s.text;
    behind = s.behind ++ more;
    whole = ap (λ ys. ys ++ more) s.whole ∙ append_assoc s.before (s.text ++ s.behind) more ∙ ap (λ ys. s.before ++ ys) (append_assoc s.text s.behind more);
    place = s.place;
    is = s.is;
    read = s.read;
  }

  none_shown : (bytes : List ℕ) → AreShown no_places bytes
  none_shown bytes i p c e f = cc

  -- the CIE of an FDE stands before it, with its own bytes or long before
  shown_here : (places : Places) (i : ℕ) (before xs : List ℕ) (c : CommonInformationEntry) → IsRangedCie c → AreShown places before → slice_get cies i ≡ Some c →
      IsText big (new_cie kind (places i) (slice_get cies i) (length before)) xs →
      (place_at (places i) (length before) ≤ length (before ++ xs)) × ShowsCie kind big c (place_at (places i) (length before)) (before ++ xs)
  shown_here places i before xs c ranged all got e = by_place (places i) refl
    where
      by_place : (o : Option ℕ) → places i ≡ o → (place_at o (length before) ≤ length (before ++ xs)) × ShowsCie kind big c (place_at o (length before)) (before ++ xs)
      by_place None is =
          let text : IsText big (cie_part kind c (length before)) xs = subst (λ g. IsText big (new_cie kind None g (length before)) xs) got (subst (λ o. IsText big (new_cie kind o (slice_get cies i) (length before)) xs) is e) in (
            omega (arith, length-append before xs),
            record { before = before; text = xs; behind = []; whole = ap (λ ys. before ++ ys) (sym (append-nil xs)); place = refl; is = text; read = λ rest. cie_again kind c (length before) big xs rest ranged text },
          )
      by_place (Some p) is = let s = all i p c is got in (omega (arith, s.0, length-append before xs), more_shown before xs s.1)

  shown_by : (b : Bool) (places : Places) (i j at p : ℕ) (bytes : List ℕ) (c : CommonInformationEntry) → (j == i) ≡ b → AreShown places bytes →
      ((d : CommonInformationEntry) → slice_get cies i ≡ Some d → (at ≤ length bytes) × ShowsCie kind big d at bytes) →
      (if b then Some at else places j) ≡ Some p → slice_get cies j ≡ Some c → (p ≤ length bytes) × ShowsCie kind big c p bytes
  shown_by true places i j at p bytes c same all here e f =
      let is : at ≡ p = cc in
      let own : j ≡ i = eqb-true j i same in
      subst (λ q. (q ≤ length bytes) × ShowsCie kind big c q bytes) is (here c (subst (λ k. slice_get cies k ≡ Some c) own f))
  shown_by false places i j at p bytes c same all here e f = all j p c e f

  shown_with : (places : Places) (i at : ℕ) (bytes : List ℕ) → AreShown places bytes →
      ((d : CommonInformationEntry) → slice_get cies i ≡ Some d → (at ≤ length bytes) × ShowsCie kind big d at bytes) → AreShown (with_place i at places) bytes
  shown_with places i at bytes all here j p c e f = shown_by (j == i) places i j at p bytes c refl all here e f

  shown_more : (places : Places) (bytes more : List ℕ) → AreShown places bytes → AreShown places (bytes ++ more)
  shown_more places bytes more all i p c e f = let s = all i p c e f in (omega (arith, s.0, length-append bytes more), more_shown bytes more s.1)

  -- there is a CIE wherever an FDE has a text
  pub some_cie : (p at : ℕ) (o : Option CommonInformationEntry) (f : FrameDescriptionEntry) (ys : List ℕ) → IsText big (fde_of kind p o f at) ys → (c : CommonInformationEntry) × (o ≡ Some c)
  some_cie p at None f ys e = cc
  some_cie p at (Some c) f ys e = (c, refl)

  frames_again : (fdes : List (CieId × FrameDescriptionEntry)) (places : Places) (before zs rest : List ℕ) → AreShown places before → AreTold kind cies places fdes (length before) →
      IsText big (frames_from kind cies places fdes (length before)) zs → ShowsFrames kind big cies fdes (before ++ (zs ++ rest))
  frames_again [] places before zs rest all told e = λ k d h. absurd (omega (arith, h))
  frames_again (x ∷ xs) places before zs rest all told e =
      let at = length before in
      let i = x.0.0 in
      let place = place_at (places i) at in
      let own : Placed = new_cie kind (places i) (slice_get cies i) in
      let it : Placed = fde_of kind place (slice_get cies i) x.1 in
      let places2 = with_place i place places in
      let s = turned (frame kind cies places x) (frames_from kind cies places2 xs) at big zs e in
      let t = turned own it at big s.xs s.first in
      let at1 = at + (own at).piece.size in
      let long1 : length t.xs ≡ (own at).piece.size = told.0.cie big t.xs t.first in
      let long2 : length t.ys ≡ (it at1).piece.size = told.0.fde big t.ys t.second in
      let behind1 : length (before ++ t.xs) ≡ at1 = omega (arith, length-append before t.xs, long1) in
      let found = some_cie place at1 (slice_get cies i) x.1 t.ys t.second in
      let c = found.0 in
      let here = shown_here places i before t.xs c (told.0.own c found.1) all found.1 t.first in
      let here_by : (d : CommonInformationEntry) → slice_get cies i ≡ Some d → (place ≤ length (before ++ t.xs)) × ShowsCie kind big d place (before ++ t.xs) = λ d g. shown_here places i before t.xs d (told.0.own d g) all g t.first in
      let rest1 = s.ys ++ rest in
      let after = (before ++ t.xs) ++ t.ys in
      let whole : before ++ (zs ++ rest) ≡ (before ++ t.xs) ++ (t.ys ++ rest1) =
      ap (λ ys. before ++ (ys ++ rest)) (s.whole ∙ ap (λ ys. ys ++ s.ys) t.whole)
      ∙ ap (λ ys. before ++ ys) (append_assoc (t.xs ++ t.ys) s.ys rest ∙ append_assoc t.xs t.ys rest1) ∙ sym (append_assoc before t.xs (t.ys ++ rest1)) in
      let text : IsText big (fde_part kind place c x.1 (length (before ++ t.xs))) t.ys =
      subst (λ n. IsText big (fde_part kind place c x.1 n) t.ys) (sym behind1) (subst (λ o. IsText big (fde_of kind place o x.1 at1) t.ys) found.1 t.second) in
      let fde = fde_again kind place (length (before ++ t.xs)) c x.1 big t.ys rest1 here.0 told.0.ranged text in
      let first : ShowsFrame kind big cies (before ++ (zs ++ rest)) x = record {
        cie = c;
        built = found.1;
        cie_at = place;
        stands = subst (ShowsCie kind big c place) (sym whole) (more_shown (before ++ t.xs) (t.ys ++ rest1) here.1);
        before = before ++ t.xs;
        rest = t.ys ++ rest1;
        whole = whole;
        fde = fde;
      } in
      let size : (frame kind cies places x at).piece.size ≡ (own at).piece.size + (it at1).piece.size = turn_size own it at in
      let behind2 : length after ≡ at + (frame kind cies places x at).piece.size = omega (arith, length-append (before ++ t.xs) t.ys, behind1, long2, size) in
      let all2 : AreShown places2 after = shown_more places2 (before ++ t.xs) t.ys (shown_with places i place (before ++ t.xs) (shown_more places before t.xs all) here_by) in
      let more : ShowsFrames kind big cies xs (after ++ (s.ys ++ rest)) =
      frames_again xs places2 after s.ys rest all2 (subst (AreTold kind cies places2 xs) (sym behind2) told.1)
      (subst (λ n. IsText big (frames_from kind cies places2 xs n) s.ys) (sym behind2) s.second) in
      let same : before ++ (zs ++ rest) ≡ after ++ (s.ys ++ rest) = whole ∙ sym (append_assoc (before ++ t.xs) t.ys rest1) in
      all_at (ShowsFrame kind big cies (before ++ (zs ++ rest))) x xs first (subst (ShowsFrames kind big cies xs) (sym same) more)

-- Sections of plain writers

nothing_tidy : (m : Meaning) (big : Bool) → IsEmptyPlainWriter m big → IsTidy m
unfolding AllInside
nothing_tidy m big e = record {
  sized = λ b is. let none : [] ≡ b = cc in sym (ap length none) ∙ sym e.size;
  inside = subst (λ rs. AllInside m.size rs) (sym e.records) tt;
}

shown_plain : (plain big : Bool) (t : Text) → plain ≡ true → shown plain big at_zero [] t ≡ t
unfolding shown
shown_plain true big t e = refl
shown_plain false big t e = cc

-- what a plain writer holds that held nothing is what was added
pub plain_text : {a b : Meaning} {n : ℕ} {t : Model} (bytes : List ℕ) → Appends a b n t → IsEmptyPlainWriter a a.is_big → b.records ≡ [] → b.bytes ≡ Some bytes → t a.is_big at_zero ≡ Some bytes
plain_text {a} {b} {n} {t} bytes p e none is =
    let itself : IsSameWriter a a = record { order = refl; kind = refl; faults = omega arith } in
    let before : resolved at_zero a ≡ Some [] = resolved-same at_zero a a [] (Some []) itself e.records e.bytes ∙ shown_plain a.is_plain a.is_big (Some []) e.plain in
    let after : resolved at_zero b ≡ Some bytes = resolved-same at_zero a b [] (Some bytes) p.same none is ∙ shown_plain a.is_plain a.is_big (Some bytes) e.plain in
    sym (sym after ∙ p.resolves (nothing_tidy a a.is_big e) at_zero ∙ ap (λ x. followed x (t a.is_big at_zero)) before ∙ nothing-followed (t a.is_big at_zero))

-- a table that was written to a section of its own is read again
pub table_read : (r : Result (Unit {0}) Error) (a b : Meaning) (kind : FrameKind) (cies : List CommonInformationEntry) (fdes : List (CieId × FrameDescriptionEntry)) → (b.is_plain ≡ true → b.records ≡ []) →
    Puts r a b (frames_part kind cies fdes) → OnOk r (AreTold kind cies no_places fdes a.size) →
    OnOk r (IsEmptyPlainWriter a a.is_big → (bytes : List ℕ) → b.bytes ≡ Some bytes → ShowsFrames kind a.is_big cies fdes bytes)
table_read (Ok x) a b kind cies fdes plain h told = λ empty bytes is.
    let text = plain_text bytes h.0 empty (plain (h.0.same.kind ∙ empty.plain)) is in
    let told0 = subst (AreTold kind cies no_places fdes) empty.size told in
    let text0 : IsText a.is_big (frames_part kind cies fdes 0) bytes = subst (λ n. IsText a.is_big (frames_part kind cies fdes n) bytes) empty.size text in
    subst (ShowsFrames kind a.is_big cies fdes) (append-nil bytes) (frames_again kind a.is_big cies fdes no_places [] bytes [] (none_shown kind a.is_big cies []) told0 text0)
table_read (Err e) a b kind cies fdes plain h told = tt
