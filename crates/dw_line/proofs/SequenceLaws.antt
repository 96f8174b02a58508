-- The line machine shows the built rows of a text in any layout in which it is told.
use Rattle.std.proofs.Common.{◌≡◌, ◌∙◌, sym, ap, ap₂, subst, ℕ, suc, ◌<◌, ◌⊎◌, inl, inr, Bool, true, false, ◌&&◌, List, [], ◌∷◌, ◌++◌, Option, Some, None, refl, IsTrue, IsSome, ℤ, pos, negsuc, ◌+ℤ◌, slice_get, if◌then◌else◌, append_assoc, append-nil}
use Rattle.std.specs.List.{flat_map}
use Rattle.std.proofs.lemmas.List.Concat.{flat_map-append}
use Rattle.std.proofs.lemmas.Option.{none-some}
use Rattle.dw_base.specs.Numbers.{◌>>=◌, num, is_width, fits}
use Rattle.dw_base.specs.Leb128.{uleb}
use Rattle.dw_base.specs.declared.address.Address.{Address}
use Rattle.dw_base.specs.declared.address.Address.TheVariants.{Constant, Symbol}
use Rattle.dw_base.proofs.NumberLaws.{bind_is, length-num}
use Rattle.dw_writer.specs.Texts.{Text, followed, num_text, int_text}
use Rattle.dw_writer.specs.Meaning.{Layout}
use Rattle.dw_writer.specs.SectionTexts.{address_text}
use Rattle.dw_base.specs.declared.constants.TheConstants.{DW_LNE_set_address}
use Rattle.dw_base.specs.LineMachine.{LineHeader, SetAddress}
use Rattle.dw_base.specs.Instructions.{instruction_bytes, IsWrittenHeader, rows_of}
use Rattle.dw_line.specs.RawRows.{RawRow, Sequence, first_row, rows_instructions, sequence_instructions, sequences_bytes, shown_sequence, AreRowsAfter, IsAddress, IsSequence, AreSequences}
use Rattle.dw_line.specs.Parts.{texts}
use Rattle.dw_line.specs.RowTexts.{sequence_rows_text}
use Rattle.dw_line.specs.SequenceTexts.{BuiltSequence, set_address_prefix, set_address_model, sequence_model, natural, address_value, placed, built_rows, AreBuilt}
use Rattle.dw_line.proofs.RowTextLaws.{rows_text-is}
use Rattle.dw_line.proofs.ProgramLaws.{rows-again}

-- texts that are told have told parts
pub followed_parts : (t u : Text) (xs : List ℕ) → followed t u ≡ Some xs → (a : List ℕ) × (b : List ℕ) × (t ≡ Some a) × (u ≡ Some b) × (xs ≡ a ++ b)
unfolding followed
followed_parts None u xs e = absurd (none-some _ e)
followed_parts (Some a) None xs e = absurd (none-some _ e)
followed_parts (Some a) (Some b) xs e = (a, b, refl, refl, cc)

fits_if : (a b : Bool) (bytes xs : List ℕ) → (if a && b then Some bytes else None) ≡ Some xs → (b ≡ true) × (xs ≡ bytes)
fits_if true true bytes xs e = (refl, cc)
fits_if true false bytes xs e = absurd (none-some _ e)
fits_if false b bytes xs e = absurd (none-some _ e)

pub num_parts : (big : Bool) (w n : ℕ) (xs : List ℕ) → num_text big w n ≡ Some xs → IsTrue (fits w n) × (xs ≡ num big w n)
unfolding num_text
num_parts big w n xs e = fits_if (is_width w) (fits w n) (num big w n) xs e

int_parts : (big : Bool) (w : ℕ) (z : ℤ) (xs : List ℕ) → int_text big w z ≡ Some xs → (n : ℕ) × (natural z ≡ Some n) × IsTrue (fits w n) × (xs ≡ num big w n)
unfolding int_text
int_parts big w (pos n) xs e = let p = num_parts big w n xs e in (n, refl, p.0, p.1)
int_parts big w (negsuc n) xs e = absurd (none-some _ e)

symbol_parts : (big : Bool) (w : ℕ) (addend : ℤ) (v : Option ℕ) (xs : List ℕ) → ◌≡◌ {A = Text} (elim v [ None ↦ None | Some k ↦ int_text big w (addend +ℤ pos k) ]) (Some xs) →
    (n : ℕ) × ((v >>= λ k. natural (addend +ℤ pos k)) ≡ Some n) × IsTrue (fits w n) × (xs ≡ num big w n)
symbol_parts big w addend None xs e = absurd (none-some _ e)
symbol_parts big w addend (Some k) xs e = int_parts big w (addend +ℤ pos k) xs e

address_parts : (big : Bool) (w : ℕ) (a : Address) (l : Layout) (xs : List ℕ) → address_text w a big l ≡ Some xs → (n : ℕ) × (address_value l a ≡ Some n) × IsTrue (fits w n) × (xs ≡ num big w n)
unfolding address_text
address_parts big w (Constant n) l xs e = let p = num_parts big w n xs e in (n, refl, p.0, p.1)
address_parts big w (Symbol s addend) l xs e = symbol_parts big w addend (slice_get l.symbols s) xs e

set_address_bytes : (h : LineHeader) (w n : ℕ) → set_address_prefix w ++ num h.is_big w n ≡ flat_map (instruction_bytes h) (SetAddress w n ∷ [])
set_address_bytes h w n =
    ap (λ bs. 0 ∷ bs)
    (append_assoc (uleb (suc w)) (DW_LNE_set_address.0 ∷ []) (num h.is_big w n)
    ∙ ap (λ k. uleb (suc k) ++ DW_LNE_set_address.0 ∷ num h.is_big w n) (sym (length-num h.is_big w n)))
    ∙ sym (append-nil (instruction_bytes h (SetAddress w n)))

-- the text of a sequence that the machine starts with
abbrev text_of : LineHeader → ℕ → Layout → BuiltSequence → Text
text_of h w l s = sequence_model w h.minimum_length (first_row h) s h.is_big l

record IsPlaced (h : LineHeader) (w : ℕ) (l : Layout) (s : BuiltSequence) (xs : List ℕ) : Type 0 where
  at : Sequence
  is : placed l s ≡ Some at
  address : IsAddress w at.address
  rows : at.rows ≡ s.rows
  end : at.end ≡ s.end
  bytes : xs ≡ flat_map (instruction_bytes h) (sequence_instructions h w at)

placed_by : (h : LineHeader) (w : ℕ) (l : Layout) (address : Option Address) (rows : List RawRow) (end : Option ℕ) (xs : List ℕ) → w < 256 →
    text_of h w l (record { address = address; rows = rows; end = end }) ≡ Some xs → IsPlaced h w l (record { address = address; rows = rows; end = end }) xs
unfolding followed
placed_by h w l None rows end xs narrow e = record {
  at = record { address = None; rows = rows; end = end };
  is = refl;
  address = tt;
  rows = refl;
  end = refl;
  bytes = let same : sequence_rows_text h.minimum_length (first_row h) rows end ≡ xs = cc in sym same ∙ rows_text-is h (first_row h) rows end;
}
placed_by h w l (Some a) rows end xs narrow e =
    let p = followed_parts (set_address_model w (Some a) h.is_big l) (Some (sequence_rows_text h.minimum_length (first_row h) rows end)) xs e in
    let q = followed_parts (Some (set_address_prefix w)) (address_text w a h.is_big l) p.0 p.2 in
    let v = address_parts h.is_big w a l q.1 q.3 in
    let front : q.0 ≡ set_address_prefix w = cc in
    let text : p.1 ≡ sequence_rows_text h.minimum_length (first_row h) rows end = cc in
    let back : p.1 ≡ flat_map (instruction_bytes h) (rows_instructions h (first_row h) rows end) = text ∙ rows_text-is h (first_row h) rows end in
    record {
      at = record { address = Some v.0; rows = rows; end = end };
      is = ap (λ x. (x >>= λ n. Some (Some n)) >>= λ b. Some (record { address = b; rows = rows; end = end })) v.1;
      address = (narrow, v.2);
      rows = refl;
      end = refl;
      bytes = p.4 ∙ ap₂ (λ x y. x ++ y) (q.4 ∙ ap₂ (λ x y. x ++ y) front v.3 ∙ set_address_bytes h w v.0) back
          ∙ sym (flat_map-append (instruction_bytes h) (SetAddress w v.0 ∷ []) (rows_instructions h (first_row h) rows end));
    }

record ArePlaced (h : LineHeader) (w : ℕ) (l : Layout) (ss : List BuiltSequence) (xs : List ℕ) : Type 0 where
  at : List Sequence
  shown : built_rows l ss ≡ Some (flat_map shown_sequence at)
  none : ss ≡ [] → at ≡ []
  are : AreSequences h w at
  bytes : xs ≡ sequences_bytes h w at

are_placed : (h : LineHeader) (w : ℕ) (l : Layout) (ss : List BuiltSequence) (xs : List ℕ) → w < 256 → AreBuilt h ss →
    texts (sequence_model w h.minimum_length (first_row h)) ss h.is_big l ≡ Some xs → ArePlaced h w l ss xs
unfolding built_rows sequences_bytes
are_placed h w l [] xs narrow are e = record { at = []; shown = refl; none = λ _. refl; are = tt; bytes = cc }
are_placed h w l (s ∷ ss) xs narrow are e =
    let p = followed_parts (text_of h w l s) (texts (sequence_model w h.minimum_length (first_row h)) ss h.is_big l) xs e in
    let one : IsPlaced h w l s p.0 = placed_by h w l s.address s.rows s.end p.0 narrow p.2 in
    let more : ArePlaced h w l ss p.1 = are_placed h w l ss p.1 narrow are.2 p.3 in
    let sequence : IsSequence h w one.at = record { address = one.address; rows = subst (AreRowsAfter h (first_row h) one.at.rows) (sym one.end) (subst (λ rs. AreRowsAfter h (first_row h) rs s.end) (sym one.rows) are.0) } in
    let last : (more.at ≡ []) ⊎ IsSome one.at.end = elim are.1 [ inl e ↦ inl (more.none e) | inr e ↦ inr (subst IsSome (sym one.end) e) ] in
    record {
      at = one.at ∷ more.at;
      shown = bind_is _ one.at (λ q. built_rows l ss >>= λ rest. Some (shown_sequence q ++ rest)) one.is ∙ bind_is _ _ (λ rest. Some (shown_sequence one.at ++ rest)) more.shown;
      none = λ e. cc;
      are = (sequence, last, more.are);
      bytes = p.4 ∙ ap₂ (λ x y. x ++ y) one.bytes more.bytes ∙ sym (flat_map-append (instruction_bytes h) (sequence_instructions h w one.at) (flat_map (sequence_instructions h w) more.at));
    }

-- the machine shows the rows that were built
pub text-rows : (h : LineHeader) (w : ℕ) (l : Layout) (ss : List BuiltSequence) (xs : List ℕ) → IsWrittenHeader h → w < 256 → AreBuilt h ss →
    texts (sequence_model w h.minimum_length (first_row h)) ss h.is_big l ≡ Some xs → rows_of h xs ≡ built_rows l ss
text-rows h w l ss xs header narrow are e =
    let p = are_placed h w l ss xs narrow are e in
    ap (rows_of h) p.bytes ∙ rows-again h w p.at header p.are ∙ sym p.shown
