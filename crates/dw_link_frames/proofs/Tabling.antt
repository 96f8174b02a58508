-- Tables of call frames, once symbols have values and the places of sections are known.
use Rattle.std.specs.Prelude.{◌≡◌, ℕ, ◌+◌, ◌≤◌, ◌==◌, Bool, true, false, List, [], ◌∷◌, Option, Some, None, refl, IsFalse, slice_get, if◌then◌else◌}
use Rattle.std.specs.Option.{option_map}
use Rattle.std.proofs.Common.{sym, ◌∙◌, ap, subst, arith}
use Rattle.std.proofs.lemmas.Option.{slice_get-map}
use Rattle.dw_base.specs.Numbers.{word_of, length_size}
use Rattle.dw_base.specs.declared.common.Format.{Format}
use Rattle.dw_base.specs.declared.error.Error.{Error}
use Rattle.dw_base.specs.declared.error.Error.TheVariants as errors
use Rattle.dw_base.specs.declared.ids.CieId.{CieId}
use Rattle.dw_writer.specs.Layout.{Layout}
use Rattle.dw_frame.specs.declared.cie.CommonInformationEntry.{CommonInformationEntry}
use Rattle.dw_frame.specs.declared.fde.FrameDescriptionEntry.{FrameDescriptionEntry}
use Rattle.dw_frame.specs.declared.kind.FrameKind.{FrameKind}
use Rattle.dw_frame.specs.declared.kind.FrameKind.TheVariants.{Debug, Eh}
use Rattle.dw_frame_instructions.specs.Pieces.{missing}
use Rattle.dw_frame_instructions.specs.Causes.{IsNone, either}
use Rattle.dw_frame.specs.Parts.{Part, Placed, free, caused, refused_if, in_turn}
use Rattle.dw_frame.specs.PointerParts.{frame_offset}
use Rattle.dw_frame.specs.Cies.{cie_number}
use Rattle.dw_frame.specs.Entries.{with_length, length_fails, entry, padded}
use Rattle.dw_frame.specs.Fdes.{too_large, disagree, mismatch, fde_contents, fde_part}
use Rattle.dw_frame.specs.Places.{AreBefore}
use Rattle.dw_frame.specs.Tables.{Places, no_places, with_place, place_at, new_cie, fde_of, frame, frames_from, frames_part}
use Rattle.dw_frame.proofs.TableSteps.{place_before, before_more, none_before}
use Rattle.dw_frame.proofs.TextParts.{turn_size}
use Rattle.dw_link_frames.specs.Numbered.{numbered_cie, numbered_fde, numbered_cies, numbered_fdes}
use Rattle.dw_link_frames.specs.Placed.{personality_fixed, entry_fixed, frames_fixed}
use Rattle.dw_link_frames.proofs.Turning.{Moves, bytes_turn, missing_turn, turn_moves_there}
use Rattle.dw_link_frames.proofs.Entering.{first_false, second_false, IsBegun, IsOther, cie_moves, fde_moves}

-- What has no cause has none in its parts

pub neither_left : (f g : Error → Bool) → IsNone (either f g) → IsNone f
neither_left f g h e = first_false (f e) (g e) (h e)

pub neither_right : (f g : Error → Bool) → IsNone (either f g) → IsNone g
neither_right f g h e = second_false (f e) (g e) (h e)

pub turn_none : (plain : Bool) (p q : Placed) (at : ℕ) → IsNone ((in_turn p q at).fails plain) → IsNone ((p at).fails plain) × IsNone ((q (at + (p at).piece.size)).fails plain)
unfolding in_turn
turn_none plain p q at h =
    let f = (p at).fails plain in
    let g = (q (at + (p at).piece.size)).fails plain in
    (neither_left f g h, neither_right f g h)

pub length_none : (plain : Bool) (format : Format) (p : Part) → IsNone ((with_length format p).fails plain) → IsNone (p.fails plain)
unfolding with_length
length_none plain format p h = neither_left (p.fails plain) (length_fails format p.piece.size) h

other_by : (b plain : Bool) (w cie at : ℕ) → IsNone (((if b then caused missing too_large else frame_offset w cie) at).fails plain) → b ≡ false
other_by true plain w cie at h = let k : IsFalse true = h errors.ValueTooLarge in absurd (let e : true ≡ false = k in cc)
other_by false plain w cie at h = refl

-- an FDE that a writer has no cause to refuse doesn't lead to a place that is the id of CIEs
pub other_of : (kind : FrameKind) (cie : ℕ) (c : CommonInformationEntry) (f : FrameDescriptionEntry) (at : ℕ) → IsNone ((fde_part kind cie c f at).fails true) → IsOther kind c.encoding.format cie
other_of Eh cie c f at h = tt
other_of Debug cie c f at h =
    let format = c.encoding.format in
    let body = fde_contents Debug cie c f in
    let first = refused_if (disagree c.lsda_encoding f.lsda) mismatch in
    let there = at + (first at).piece.size in
    let k = turn_none true first (entry c.encoding body) at h in
    let n = there + length_size format in
    let inner : Placed = λ m. in_turn body (padded c.encoding (body m).piece.size) m in
    let m = length_none true format (inner n) k.1 in
    let whole = turn_none true body (padded c.encoding (body n).piece.size) n m in
    let field = turn_none true _ _ n whole.0 in
    other_by (cie == cie_number Debug format) true (word_of format) cie n field.0

module _ (big : Bool) (l : Layout) (kind : FrameKind) (begun : IsBegun l kind) where
  abbrev pub moved : Option ℕ → Option ℕ
  moved o = option_map (λ p. l.own_start + p) o

  abbrev pub to_number : Option CommonInformationEntry → Option CommonInformationEntry
  to_number o = option_map (numbered_cie l.symbols) o

  -- the same CIEs have places, counted from the section's begin
  abbrev pub AreMoved : Places → Places → Type 0
  AreMoved places there = (i : ℕ) → there i ≡ moved (places i)

  pub place_moved : (o : Option ℕ) (at : ℕ) → place_at (moved o) (l.own_start + at) ≡ l.own_start + place_at o at
  place_moved None at = refl
  place_moved (Some p) at = refl

  moved_by : (b : Bool) (i j at : ℕ) (places there : Places) → AreMoved places there → (if b then Some (l.own_start + at) else there j) ≡ moved (if b then Some at else places j)
  moved_by true i j at places there h = refl
  moved_by false i j at places there h = h j

  pub with_moved : (i at : ℕ) (places there : Places) → AreMoved places there → AreMoved (with_place i at places) (with_place i (l.own_start + at) there)
  with_moved i at places there h j = moved_by (j == i) i j at places there h

  pub new_moves : (place : Option ℕ) (o : Option CommonInformationEntry) (f : FrameDescriptionEntry) (at : ℕ) → IsFalse (entry_fixed o f) → Moves big l (new_cie kind place o) (new_cie kind (moved place) (to_number o)) at
  new_moves None None f at h = missing_turn big l missing
  new_moves None (Some c) f at h = cie_moves big l kind c at (first_false (personality_fixed c.personality) _ h)
  new_moves (Some p) None f at h = bytes_turn big l []
  new_moves (Some p) (Some c) f at h = bytes_turn big l []

  pub own_moves : (cie : ℕ) (o : Option CommonInformationEntry) (f : FrameDescriptionEntry) (at : ℕ) → cie ≤ at → IsFalse (entry_fixed o f) →
      IsNone ((fde_of kind (l.own_start + cie) (to_number o) (numbered_fde l.symbols f) (l.own_start + at)).fails true) → Moves big l (fde_of kind cie o f) (fde_of kind (l.own_start + cie) (to_number o) (numbered_fde l.symbols f)) at
  own_moves cie None f at before h none = missing_turn big l missing
  own_moves cie (Some c) f at before h none =
      fde_moves big l kind cie c f at begun (other_of kind (l.own_start + cie) (numbered_cie l.symbols c) (numbered_fde l.symbols f) (l.own_start + at) none) before h

  -- an FDE and its CIE, with a text
  pub frame_moves : (cies : List CommonInformationEntry) (places there : Places) (x : CieId × FrameDescriptionEntry) (at : ℕ) → AreMoved places there → AreBefore places at → IsFalse (entry_fixed (slice_get cies x.0.0) x.1) →
      IsNone ((frame kind (numbered_cies l.symbols cies) there (x.0, numbered_fde l.symbols x.1) (l.own_start + at)).fails true) →
      Moves big l (frame kind cies places x) (frame kind (numbered_cies l.symbols cies) there (x.0, numbered_fde l.symbols x.1)) at
  frame_moves cies places there x at same before free none =
      let i = x.0.0 in
      let cie = place_at (places i) at in
      let o = slice_get cies i in
      let g = numbered_fde l.symbols x.1 in
      let own : Placed = new_cie kind (places i) o in
      let it : Placed = fde_of kind cie o x.1 in
      let new : Placed = new_cie kind (there i) (slice_get (numbered_cies l.symbols cies) i) in
      let now : Placed = fde_of kind (place_at (there i) (l.own_start + at)) (slice_get (numbered_cies l.symbols cies) i) g in
      let got : slice_get (numbered_cies l.symbols cies) i ≡ to_number o = slice_get-map (numbered_cie l.symbols) cies i in
      let stands : place_at (there i) (l.own_start + at) ≡ l.own_start + cie = ap (λ p. place_at p (l.own_start + at)) (same i) ∙ place_moved (places i) at in
      let n = at + (own at).piece.size in
      let first : Moves big l own new at = subst (λ p. Moves big l own (new_cie kind p (slice_get (numbered_cies l.symbols cies) i)) at) (sym (same i)) (subst (λ d. Moves big l own (new_cie kind (moved (places i)) d) at) (sym got) (new_moves (places i) o x.1 at free)) in
      let none2 = (turn_none true new now (l.own_start + at) none).1 in
      let behind : cie ≤ n = place_before (places i) at n (before i) (omega arith) in
      turn_moves_there big l own new it now at first
      (λ next.
      let none3 : IsNone ((fde_of kind (place_at (there i) (l.own_start + at)) (slice_get (numbered_cies l.symbols cies) i) g (l.own_start + n)).fails true) = subst (λ k. IsNone ((now k).fails true)) (sym next) none2 in
      let none4 = subst (λ d. IsNone ((fde_of kind (place_at (there i) (l.own_start + at)) d g (l.own_start + n)).fails true)) got none3 in
      let none5 = subst (λ p. IsNone ((fde_of kind p (to_number o) g (l.own_start + n)).fails true)) stands none4 in
      let second = own_moves cie o x.1 n behind free none5 in
      subst (λ p. Moves big l it (fde_of kind p (slice_get (numbered_cies l.symbols cies) i) g) n) (sym stands) (subst (λ d. Moves big l it (fde_of kind (l.own_start + cie) d g) n) (sym got) second))

  pub frames_move : (cies : List CommonInformationEntry) (fdes : List (CieId × FrameDescriptionEntry)) (places there : Places) (at : ℕ) → AreMoved places there → AreBefore places at → IsFalse (frames_fixed cies fdes) →
      IsNone ((frames_from kind (numbered_cies l.symbols cies) there (numbered_fdes l.symbols fdes) (l.own_start + at)).fails true) →
      Moves big l (frames_from kind cies places fdes) (frames_from kind (numbered_cies l.symbols cies) there (numbered_fdes l.symbols fdes)) at
  frames_move cies [] places there at same before free none = bytes_turn big l []
  frames_move cies (x ∷ xs) places there at same before free none =
      let i = x.0.0 in
      let place = place_at (places i) at in
      let more = numbered_cies l.symbols cies in
      let y : CieId × FrameDescriptionEntry = (x.0, numbered_fde l.symbols x.1) in
      let one : Placed = frame kind cies places x in
      let new : Placed = frame kind more there y in
      let places2 = with_place i place places in
      let there2 = with_place i (place_at (there i) (l.own_start + at)) there in
      let n = at + (one at).piece.size in
      let stands : place_at (there i) (l.own_start + at) ≡ l.own_start + place = ap (λ p. place_at p (l.own_start + at)) (same i) ∙ place_moved (places i) at in
      let here = first_false (entry_fixed (slice_get cies i) x.1) (frames_fixed cies xs) free in
      let rest = second_false (entry_fixed (slice_get cies i) x.1) (frames_fixed cies xs) free in
      let none2 = turn_none true new (frames_from kind more there2 (numbered_fdes l.symbols xs)) (l.own_start + at) none in
      let size = turn_size (new_cie kind (places i) (slice_get cies i)) (fde_of kind place (slice_get cies i) x.1) at in
      let m = at + (new_cie kind (places i) (slice_get cies i) at).piece.size in
      let behind : place ≤ n = place_before (places i) at n (before i) (omega arith) in
      let same2 : AreMoved places2 there2 = subst (λ p. AreMoved places2 (with_place i p there)) (sym stands) (with_moved i place places there same) in
      turn_moves_there big l one new (frames_from kind cies places2 xs) (frames_from kind more there2 (numbered_fdes l.symbols xs)) at (frame_moves cies places there x at same before here none2.0)
      (λ next. frames_move cies xs places2 there2 n same2 (before_more places i place at n before behind (omega arith)) rest (subst (λ k. IsNone ((frames_from kind more there2 (numbered_fdes l.symbols xs) k).fails true)) (sym next) none2.1))

  -- a table's text from its begin on becomes that of the numbered table, where its part comes to stand
  pub table_moves : (cies : List CommonInformationEntry) (fdes : List (CieId × FrameDescriptionEntry)) → IsFalse (frames_fixed cies fdes) →
      IsNone ((frames_part kind (numbered_cies l.symbols cies) (numbered_fdes l.symbols fdes) (l.own_start + 0)).fails true) →
      Moves big l (frames_part kind cies fdes) (frames_part kind (numbered_cies l.symbols cies) (numbered_fdes l.symbols fdes)) 0
  table_moves cies fdes free none = frames_move cies fdes no_places no_places 0 (λ i. refl) (none_before 0) free none
