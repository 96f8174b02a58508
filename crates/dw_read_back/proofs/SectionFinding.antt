-- A reader of a section that is written finds the CIE of each FDE.
use Rattle.std.specs.Prelude.{◌≡◌, ℕ, zero, suc, ◌+◌, ◌<◌, ◌==◌, Bool, true, false, All, List, [], ◌∷◌, ◌++◌, length, get_or, Option, Some, None, Ok, slice_get, refl, if◌then◌else◌}
use Rattle.std.proofs.Common.{sym, ◌∙◌, ap, subst, arith, append_assoc, append-nil, length-append}
use Rattle.std.proofs.lemmas.Bool.{eqb-true}
use Rattle.dw_base.specs.declared.ids.CieId.{CieId}
use Rattle.dw_read.proofs.Laws.{IsReadOf, read_is}
use Rattle.dw_frame.specs.declared.cie.CommonInformationEntry.{CommonInformationEntry}
use Rattle.dw_frame.specs.declared.fde.FrameDescriptionEntry.{FrameDescriptionEntry}
use Rattle.dw_frame.specs.declared.kind.FrameKind.{FrameKind}
use Rattle.dw_frame.specs.ReadCies.{place_of}
use Rattle.dw_frame.specs.Tables.{Places, no_places, with_place, place_at}
use Rattle.dw_read_frames.specs.Entries.{Entry, Cie, entry_read, entry_at, cie_at_read}
use Rattle.dw_read_frames.specs.declared.cie.CieFields.{CieFields}
use Rattle.dw_read_back.specs.Heads.{is_eh}
use Rattle.dw_read_back.specs.Entries.{ReadsCieBack, ReadsFdeBack}
use Rattle.dw_read_back.specs.Sections.{IsNewCieBack, ReadsFramesBack, FindsFrame, SectionFindsAll}
use Rattle.dw_read_back.proofs.OperandReading.{bytes_back}
use Rattle.dw_read_back.proofs.SectionReading.{section_back}

all_at : {A : Type 0} (P : A → Type 0) (x : A) (xs : List A) → P x → All P xs → (k : ℕ) (d : A) → k < length (x ∷ xs) → P (get_or (x ∷ xs) k d)
all_at P x xs p ps zero d h = p
all_at P x xs p ps (suc k) d h = ps k d (omega (arith, h))

entry_law : (eh big : Bool) (size at : ℕ) → IsReadOf (Option Entry) (entry_at eh big size at) (entry_read eh big size at)
unfolding entry_at
entry_law eh big size at bytes = refl

cie_found : (eh big : Bool) (size at : ℕ) (before text behind : List ℕ) (fields : CieFields) (instructions : List ℕ) → length before ≡ at →
    entry_read eh big size (0 + at) (text ++ behind) ≡ Ok (Some (Cie fields instructions), behind) → cie_at_read eh big size 0 at (before ++ (text ++ behind)) ≡ Ok (fields, instructions)
unfolding cie_at_read
cie_found eh big size at before text behind fields instructions place h = rw (bytes_back at before (text ++ behind) place, h) refl

-- a CIE stands at a place
record StandsCie (kind : FrameKind) (big : Bool) (size : ℕ) (c : CommonInformationEntry) (at : ℕ) (bytes : List ℕ) : Type 0 where
  pub before : List ℕ
  pub text : List ℕ
  pub behind : List ℕ
  pub whole : bytes ≡ before ++ (text ++ behind)
  pub place : length before ≡ at
  pub reads : ReadsCieBack kind big c size at text

module _ (kind : FrameKind) (big : Bool) (size : ℕ) (cies : List CommonInformationEntry) where
  abbrev Stands : CommonInformationEntry → ℕ → List ℕ → Type 0
  Stands c at bytes = StandsCie kind big size c at bytes

  more_stands : (c : CommonInformationEntry) (at : ℕ) (bytes more : List ℕ) → Stands c at bytes → Stands c at (bytes ++ more)
  more_stands c at bytes more s = record {
    before = s.before;
    text = s.text;
    behind = s.behind ++ more;
    whole = ap (λ ys. ys ++ more) s.whole ∙ append_assoc s.before (s.text ++ s.behind) more ∙ ap (λ ys. s.before ++ ys) (append_assoc s.text s.behind more);
    place = s.place;
    reads = s.reads;
  }

  -- each CIE that has a place stands there
  abbrev AreStanding : Places → List ℕ → Type 0
  AreStanding places bytes = (i p : ℕ) (c : CommonInformationEntry) → places i ≡ Some p → slice_get cies i ≡ Some c → Stands c p bytes

  stands_by : (b : Bool) (places : Places) (i j at p : ℕ) (bytes : List ℕ) (c : CommonInformationEntry) → (j == i) ≡ b → AreStanding places bytes →
      ((d : CommonInformationEntry) → slice_get cies i ≡ Some d → Stands d at bytes) → (if b then Some at else places j) ≡ Some p → slice_get cies j ≡ Some c → Stands c p bytes
  stands_by true places i j at p bytes c same all here e f =
      let is : at ≡ p = cc in
      let own : j ≡ i = eqb-true j i same in
      subst (λ q. Stands c q bytes) is (here c (subst (λ k. slice_get cies k ≡ Some c) own f))
  stands_by false places i j at p bytes c same all here e f = all j p c e f

  stands_with : (places : Places) (i at : ℕ) (bytes : List ℕ) → AreStanding places bytes → ((d : CommonInformationEntry) → slice_get cies i ≡ Some d → Stands d at bytes) → AreStanding (with_place i at places) bytes
  stands_with places i at bytes all here j p c e f = stands_by (j == i) places i j at p bytes c refl all here e f

  -- the CIE of an FDE, right before it or long before
  stands_here : (o : Option ℕ) (c : CommonInformationEntry) (before common : List ℕ) → ((p : ℕ) → o ≡ Some p → Stands c p before) → IsNewCieBack kind big size c o (length before) common →
      Stands c (place_at o (length before)) (before ++ common)
  stands_here None c before common all new = record { before = before; text = common; behind = []; whole = ap (λ ys. before ++ ys) (sym (append-nil common)); place = refl; reads = new }
  stands_here (Some p) c before common all new = more_stands c p before common (all p refl)

  found_in : (c : CommonInformationEntry) (at : ℕ) (bytes : List ℕ) (s : Stands c at bytes) → cie_at_read (is_eh kind) big size 0 at bytes ≡ Ok (s.reads.fields, s.reads.instructions)
  found_in c at bytes s =
      let eh = is_eh kind in
      let read : entry_read eh big size at (s.text ++ s.behind) ≡ Ok (Some (Cie s.reads.fields s.reads.instructions), s.behind) =
      read_is (Option Entry) (entry_at eh big size at) (entry_read eh big size at) (s.text ++ s.behind) (Some (Cie s.reads.fields s.reads.instructions), s.behind) (entry_law eh big size at) (s.reads.read s.behind) in
      let here : entry_read eh big size (0 + at) (s.text ++ s.behind) ≡ Ok (Some (Cie s.reads.fields s.reads.instructions), s.behind) = ap (λ n. entry_read eh big size n (s.text ++ s.behind)) (omega arith) ∙ read in
      ap (cie_at_read eh big size 0 at) s.whole ∙ cie_found eh big size at s.before s.text s.behind s.reads.fields s.reads.instructions s.place here

  finds : (fdes : List (CieId × FrameDescriptionEntry)) (places : Places) (before zs : List ℕ) → AreStanding places before → ReadsFramesBack kind big size cies places fdes (length before) zs →
      All (FindsFrame kind big size cies (before ++ zs)) fdes
  finds [] places before zs all h = λ k d below. absurd (omega (arith, below))
  finds (x ∷ xs) places before zs all h =
      let i = x.0.0 in
      let at = length before in
      let rest = h.0 in
      let f = h.1 in
      let place = place_at (places i) at in
      let places2 = with_place i place places in
      let after = (before ++ f.common) ++ f.own in
      let here : Stands f.cie place (before ++ f.common) = stands_here (places i) f.cie before f.common (λ p e. all i p f.cie e f.built) f.new in
      let here_by : (d : CommonInformationEntry) → slice_get cies i ≡ Some d → Stands d place (before ++ f.common) = λ d g. (
      let same : f.cie ≡ d = (let k : Some f.cie ≡ Some d = sym f.built ∙ g in cc) in
      subst (λ c. Stands c place (before ++ f.common)) same here
      ) in
      let all1 : AreStanding places (before ++ f.common) = λ j p c e g. more_stands c p before f.common (all j p c e g) in
      let with : AreStanding places2 (before ++ f.common) = stands_with places i place (before ++ f.common) all1 here_by in
      let all2 : AreStanding places2 after = λ j p c e g. more_stands c p (before ++ f.common) f.own (with j p c e g) in
      let whole : before ++ zs ≡ (before ++ f.common) ++ (f.own ++ rest) = ap (λ ys. before ++ ys) f.whole ∙ sym (append_assoc before f.common (f.own ++ rest)) in
      let same : before ++ zs ≡ after ++ rest = whole ∙ sym (append_assoc (before ++ f.common) f.own rest) in
      let behind : place_of at zs rest ≡ length after =
      omega (arith, ap length f.whole, length-append f.common (f.own ++ rest), length-append f.own rest, length-append (before ++ f.common) f.own, length-append before f.common) in
      let more : All (FindsFrame kind big size cies (after ++ rest)) xs = finds xs places2 after rest all2 (subst (λ n. ReadsFramesBack kind big size cies places2 xs n rest) behind h.2) in
      let stands : Stands f.cie place (before ++ zs) = subst (Stands f.cie place) (sym whole) (more_stands f.cie place (before ++ f.common) (f.own ++ rest) here) in
      let first : FindsFrame kind big size cies (before ++ zs) x = record {
        cie = f.cie;
        built = f.built;
        cie_at = place;
        fields = stands.reads.fields;
        instructions = stands.reads.instructions;
        found = found_in f.cie place (before ++ zs) stands;
        are = stands.reads.are;
        before = before ++ f.common;
        own = f.own;
        rest = rest;
        whole = whole;
        fde = subst (λ n. ReadsFdeBack kind big f.cie x.1 place n f.own) (sym (length-append before f.common)) f.fde;
      } in
      all_at (FindsFrame kind big size cies (before ++ zs)) x xs first (subst (λ ys. All (FindsFrame kind big size cies ys) xs) (sym same) more)

pub section_finds : (kind : FrameKind) (cies : List CommonInformationEntry) (fdes : List (CieId × FrameDescriptionEntry)) → SectionFindsAll kind cies fdes
section_finds kind cies fdes big size bytes told known text = finds kind big size cies fdes no_places [] bytes (λ i p c e f. cc) (section_back kind cies fdes big size bytes told known text)
