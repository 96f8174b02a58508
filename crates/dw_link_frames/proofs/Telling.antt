-- What a write tells of a table holds of the numbered table, so the section is read as it.
use Rattle.std.specs.Prelude.{◌≡◌, ℕ, ◌+◌, ◌^◌, ◌<◌, Bool, true, false, nat_lt, List, [], ◌∷◌, length, Option, Some, None, IfSome, refl, ℤ, pos, negsuc, ◌+ℤ◌, slice_get}
use Rattle.std.specs.Option.{option_map}
use Rattle.std.proofs.Common.{sym, ◌∙◌, ap, subst, arith}
use Rattle.std.proofs.lemmas.Bool.Decides.{nat_tests}
use Rattle.std.proofs.lemmas.Option.{slice_get-map, same_Some}
use Rattle.dw_base.specs.Numbers.{when}
use Rattle.dw_base.specs.declared.address.Address.{Address}
use Rattle.dw_base.specs.declared.address.Address.TheVariants.{Constant, Symbol}
use Rattle.dw_base.specs.declared.constants.DwEhPe.{DwEhPe}
use Rattle.dw_base.specs.declared.ids.CieId.{CieId}
use Rattle.dw_writer.specs.Pointers.{address_of}
use Rattle.dw_frame.specs.declared.cie.CommonInformationEntry.{CommonInformationEntry}
use Rattle.dw_frame.specs.declared.fde.FrameDescriptionEntry.{FrameDescriptionEntry}
use Rattle.dw_frame.specs.declared.kind.FrameKind.{FrameKind}
use Rattle.dw_frame.specs.declared.table.FrameTable.{FrameTable}
use Rattle.dw_frame.specs.ReadCies.{IsShort, IsRangedCie}
use Rattle.dw_frame.specs.Reading.{at_zero, IsRanged, AreTold, IsWide}
use Rattle.dw_frame.specs.Tables.{Places, no_places, with_place, place_at, new_cie, fde_of, frame, frames_from}
use Rattle.dw_frame.proofs.TableSteps.{none_before}
use Rattle.dw_frame.proofs.TableWhole.{frames_whole}
use Rattle.dw_frame.proofs.FdeLaws.{turn_wide}
use Rattle.dw_frame.proofs.TextParts.{turned}
use Rattle.dw_frame.specs.Parts.{Placed}
use Rattle.dw_link_frames.specs.Numbered.{known_or, value_at, numbered, numbered_cie, numbered_fde, numbered_cies, numbered_fdes}
use Rattle.dw_link_frames.specs.Placed.{numbered_part, tables_part, ReadsTables}
use Rattle.dw_link_frames.specs.Written.{AreAllTold}
use Rattle.dw_link.proofs.Faultless.{opened}
use Rattle.dw_link_frames.proofs.Widths.{cie_wide, fde_wide}

-- Addresses have 64 bits

when_short : (b : Bool) (m n : ℕ) → nat_lt m (2 ^ 64) ≡ b → ◌≡◌ {A = Option ℕ} (when b (Some m)) (Some n) → n < 2 ^ 64
when_short true m n h e =
    let same : m ≡ n = cc in
    let small : m < 2 ^ 64 = grind (arith, nat_tests) in
    subst (λ (k : ℕ). k < 2 ^ 64) same small
when_short false m n h e = cc

address_short : (z : ℤ) (n : ℕ) → address_of z ≡ Some n → n < 2 ^ 64
address_short (pos m) n e = when_short (nat_lt m (2 ^ 64)) m n refl e
address_short (negsuc m) n e = cc

module _ (symbols : List ℕ) where
  known_short : (o : Option ℕ) (s : ℕ) (addend : ℤ) → ((n : ℕ) → o ≡ Some n → n < 2 ^ 64) → IsShort (known_or o (Symbol s addend))
  known_short None s addend h = tt
  known_short (Some n) s addend h = h n refl

  numbered_short : (a : Address) → IsShort a → IsShort (numbered symbols a)
  numbered_short (Constant n) h = h
  numbered_short (Symbol s addend) h =
      known_short (value_at symbols (Symbol s addend)) s addend
      (λ n e. let o = opened (slice_get symbols s) (λ v. address_of (addend +ℤ pos v)) n e in address_short (addend +ℤ pos o.value) n o.leads)

  each_short : {A B : Type 0} (P : A → Type 0) (Q : B → Type 0) (f : A → B) (o : Option A) → ((x : A) → P x → Q (f x)) → IfSome o P → IfSome (option_map f o) Q
  each_short P Q f None h k = tt
  each_short P Q f (Some x) h k = h x k

  fde_ranged : (f : FrameDescriptionEntry) → IsRanged f → IsRanged (numbered_fde symbols f)
  fde_ranged f h = record {
    address = numbered_short f.address h.address;
    length = h.length;
    lsda = each_short IsShort IsShort (numbered symbols) f.lsda numbered_short h.lsda;
  }

  cie_ranged : (c : CommonInformationEntry) → IsRangedCie c → IsRangedCie (numbered_cie symbols c)
  cie_ranged c h = record {
    code_factor = h.code_factor;
    data_factor = h.data_factor;
    register = h.register;
    personality = each_short (λ (p : DwEhPe × Address). IsShort p.1) (λ (p : DwEhPe × Address). IsShort p.1) (λ p. (p.0, numbered symbols p.1)) c.personality (λ p k. numbered_short p.1 k) h.personality;
  }

  own_ranged : (o : Option CommonInformationEntry) → ((d : CommonInformationEntry) → o ≡ Some d → IsRangedCie d) → (c : CommonInformationEntry) → option_map (numbered_cie symbols) o ≡ Some c → IsRangedCie c
  own_ranged None h c e = cc
  own_ranged (Some d) h c e = subst IsRangedCie (same_Some (numbered_cie symbols d) c e) (cie_ranged d (h d refl))

-- Sizes are right

new_wide : (kind : FrameKind) (place : Option ℕ) (o : Option CommonInformationEntry) (at : ℕ) → IsWide (new_cie kind place o at)
new_wide kind None None at big xs e = cc
new_wide kind None (Some c) at big xs e = cie_wide kind c at big xs e
new_wide kind (Some p) o at big xs e = let f : [] ≡ xs = cc in sym (ap length f)

own_wide : (kind : FrameKind) (cie : ℕ) (o : Option CommonInformationEntry) (f : FrameDescriptionEntry) (at : ℕ) → IsWide (fde_of kind cie o f at)
own_wide kind cie None f at big xs e = cc
own_wide kind cie (Some c) f at big xs e = fde_wide kind cie c f at big xs e

frames_wide : (kind : FrameKind) (cies : List CommonInformationEntry) (fdes : List (CieId × FrameDescriptionEntry)) (places : Places) (at : ℕ) → IsWide (frames_from kind cies places fdes at)
frames_wide kind cies [] places at = λ big xs e. let f : [] ≡ xs = cc in sym (ap length f)
frames_wide kind cies (x ∷ xs) places at =
    let i = x.0.0 in
    let place = place_at (places i) at in
    let own : Placed = new_cie kind (places i) (slice_get cies i) in
    let it : Placed = fde_of kind place (slice_get cies i) x.1 in
    let one : Placed = frame kind cies places x in
    turn_wide one (frames_from kind cies (with_place i place places) xs) at
    (turn_wide own it at (new_wide kind (places i) (slice_get cies i) at) (own_wide kind place (slice_get cies i) x.1 (at + (own at).piece.size)))
    (frames_wide kind cies xs (with_place i place places) (at + (one at).piece.size))

module _ (kind : FrameKind) (symbols : List ℕ) where
  -- what is told of a table at a place is told of the numbered table at any
  told_numbered : (cies : List CommonInformationEntry) (fdes : List (CieId × FrameDescriptionEntry)) (places there : Places) (at now : ℕ) → AreTold kind cies places fdes at →
      AreTold kind (numbered_cies symbols cies) there (numbered_fdes symbols fdes) now
  told_numbered cies [] places there at now told = tt
  told_numbered cies (x ∷ xs) places there at now told =
      let i = x.0.0 in
      let more = numbered_cies symbols cies in
      let y : CieId × FrameDescriptionEntry = (x.0, numbered_fde symbols x.1) in (
        record {
          cie = new_wide kind (there i) (slice_get more i) now;
          fde = own_wide kind (place_at (there i) now) (slice_get more i) y.1 (now + (new_cie kind (there i) (slice_get more i) now).piece.size);
          ranged = fde_ranged symbols x.1 told.0.ranged;
          own = λ c e. own_ranged symbols (slice_get cies i) told.0.own c (sym (slice_get-map (numbered_cie symbols) cies i) ∙ e);
        },
        told_numbered cies xs (with_place i (place_at (places i) at) places) (with_place i (place_at (there i) now) there) (at + (frame kind cies places x at).piece.size) (now + (frame kind more there y now).piece.size) told.1,
      )

  -- the text of numbered tables is read as them
  pub tables_read : (big : Bool) (ts : List FrameTable) (at : ℕ) (xs : List ℕ) → AreAllTold kind ts → (tables_part kind symbols ts at).piece.text big at_zero ≡ Some xs → ReadsTables kind big symbols ts at xs
  tables_read big [] at xs told e = let f : [] ≡ xs = cc in sym f
  tables_read big (t ∷ ts) at xs told e =
      let cies = numbered_cies symbols t.cies.keys in
      let fdes = numbered_fdes symbols t.fdes.items in
      let one = numbered_part kind symbols t in
      let p = turned one (tables_part kind symbols ts) at big xs e in
      let own = told_numbered t.cies.keys t.fdes.items no_places no_places 0 at told.0 in
      let long : length p.xs ≡ (one at).piece.size = frames_wide kind cies fdes no_places at big p.xs p.first in
      let here = frames_whole kind big cies fdes no_places at p.xs (none_before at) own p.first in
      let rest = subst (λ n. ReadsTables kind big symbols ts (at + n) p.ys) (sym long) (tables_read big ts (at + (one at).piece.size) p.ys told.1 p.second) in
      (p.xs, p.ys, p.whole, here, rest)
