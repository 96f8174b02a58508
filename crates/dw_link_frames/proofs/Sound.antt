-- What no writer has a cause to refuse is there: numbers, pointers and addresses, once symbols have values.
use Rattle.std.specs.Prelude.{◌≡◌, ℕ, ◌+◌, ◌==◌, ◌&&◌, Bool, true, false, not, List, ◌++◌, Option, Some, None, refl, ℤ, pos, negsuc, nat_lt, ◌^◌, ◌+ℤ◌, IsFalse, slice_get, if◌then◌else◌}
use Rattle.std.proofs.Common.{sym, ◌∙◌, ap, subst, arith}
use Rattle.std.proofs.lemmas.Bool.{eq-eqb}
use Rattle.dw_base.specs.Leb128.{uleb, sleb}
use Rattle.dw_base.specs.Numbers.{◌>>=◌, when, num, is_width, fits}
use Rattle.dw_base.specs.Pointers.{format_of, application_of, from_zero, from_place, pointer_width, is_signed, signed_of, distance}
use Rattle.dw_base.specs.declared.address.Address.{Address}
use Rattle.dw_base.specs.declared.address.Address.TheVariants.{Constant, Symbol}
use Rattle.dw_base.specs.declared.constants.DwEhPe.{DwEhPe}
use Rattle.dw_base.specs.declared.error.Error.{Error}
use Rattle.dw_base.specs.declared.error.Error.TheVariants as errors
use Rattle.dw_writer.specs.Layout.{Layout}
use Rattle.dw_writer.specs.Texts.{Text, followed, num_text, int_text}
use Rattle.dw_writer.specs.SectionTexts.{address_text, eh_pointer_text}
use Rattle.dw_writer.specs.SignedNumbers.{signed_fits, signed_num}
use Rattle.dw_writer.specs.Pointers.{signed_text, address_of, formatted, pointer_text, layout_by, laid_out, data_text, counted as counted_from, constant_pointer}
use Rattle.dw_writer.specs.declared.pointer.PointerLayout.{PointerLayout}
use Rattle.dw_writer.specs.declared.pointer.PointerLayout.TheVariants.{Uleb128, Sleb128, Unsigned, Signed}
use Rattle.dw_expr.specs.Causes.{address_fails, width_fails}
use Rattle.dw_frame_instructions.specs.Causes.{IsNone}
use Rattle.dw_frame.specs.Parts.{Placed, number_fails, in_turn}
use Rattle.dw_frame.specs.PointerParts.{signed_fails, encoding_fails, laid_fails, data_fails, counted_fails, record_fails, pointer_fails, pointer, address}
use Rattle.dw_frame_instructions.specs.Pieces.{Piece, both}
use Rattle.dw_link_frames.specs.Numbered.{known_or, value_at, numbered}
use Rattle.dw_link_frames.proofs.Pointing.{laid_by}
use Rattle.dw_link_frames.proofs.Tabling.{turn_none}
use Rattle.dw_link.proofs.Faultless.{opened}
use Rattle.dw_link_frames.proofs.Turning.{Moves}

-- Texts that are there

abbrev pub IsThere : Text → Type 0
IsThere t = (xs : List ℕ) × (t ≡ Some xs)

pub followed_there : (t u : Text) → IsThere t → IsThere u → IsThere (followed t u)
unfolding followed
followed_there t u a b = (a.0 ++ b.0, ap (λ x. followed x u) a.1 ∙ ap (followed (Some a.0)) b.1)

pub if_there : (b : Bool) (t u : Text) → b ≡ true → IsThere t → IsThere (if b then t else u)
if_there true t u h there = there
if_there false t u h there = cc

pub true_from : (b : Bool) → IsFalse (not b) → b ≡ true
true_from true h = refl
true_from false h = absurd (let k : true ≡ false = h in cc)

pub not_both : (a b : Bool) → a ≡ true → IsFalse (a && not b) → b ≡ true
not_both true b e h = true_from b h
not_both false b e h = cc

-- a width that no cause names is one
pub width_known : (w : ℕ) → IsNone (width_fails w) → is_width w ≡ true
width_known w h = not_both (w == w) (is_width w) (eq-eqb w w refl) (h (errors.UnsupportedWordSize w))

pub number_there : (big : Bool) (w n : ℕ) → IsNone (number_fails w n) → IsThere (num_text big w n)
unfolding num_text
number_there big w n h =
    let width = not_both (w == w) (is_width w) (eq-eqb w w refl) (h (errors.UnsupportedWordSize w)) in
    let fit = not_both (is_width w) (fits w n) width (h errors.ValueTooLarge) in
    if_there (is_width w && fits w n) (Some (num big w n)) None (ap (λ b. b && fits w n) width ∙ fit) (num big w n, refl)

signed_there : (big : Bool) (w : ℕ) (z : ℤ) → IsNone (signed_fails w z) → IsThere (signed_text big w z)
unfolding signed_text
signed_there big w z h =
    let width = not_both (w == w) (is_width w) (eq-eqb w w refl) (h (errors.UnsupportedWordSize w)) in
    let fit = not_both (is_width w) (signed_fits w z) width (h errors.ValueTooLarge) in
    if_there (is_width w && signed_fits w z) (Some (signed_num big w z)) None (ap (λ b. b && signed_fits w z) width ∙ fit) (signed_num big w z, refl)

no_encoding : (n : ℕ) → IsNone (encoding_fails n) → ⊥
no_encoding n h = let k : IsFalse (n == n) = h (errors.UnsupportedPointerEncoding (record { 0 = n })) in let e : true ≡ false = sym (eq-eqb n n refl) ∙ k in cc

laid_there : (big : Bool) (layout : Option PointerLayout) (format n : ℕ) → IsNone (laid_fails layout format n) → IsThere (layout >>= λ f. laid_out big f n)
laid_there big None format n h = absurd (no_encoding format h)
laid_there big (Some Uleb128) format n h = (uleb n, refl)
laid_there big (Some Sleb128) format n h = (sleb (signed_of n), refl)
laid_there big (Some (Unsigned w)) format n h = number_there big w n h
laid_there big (Some (Signed w)) format n h = signed_there big w (signed_of n) h

pub data_there : (big : Bool) (size format n : ℕ) → IsNone (data_fails size format n) → IsThere (data_text big size format n)
unfolding data_text
data_there big size format n h = laid_there big (layout_by size format) format n h

counted_there : (big : Bool) (o : Option ℕ) (size encoding : ℕ) → IsNone (counted_fails o size encoding) → IsThere (o >>= data_text big size (format_of encoding))
counted_there big None size encoding h = absurd (no_encoding encoding h)
counted_there big (Some n) size encoding h = data_there big size (format_of encoding) n h

-- Pointers

width_there : (o : Option ℕ) (encoding : ℕ) → IsNone (record_fails o encoding) → (w : ℕ) × (o ≡ Some w)
width_there None encoding h = absurd (no_encoding encoding h)
width_there (Some w) encoding h = (w, refl)

-- what is laid out by a format with a width is what a linker puts
laid_or : (b big : Bool) (w n : ℕ) → laid_out big (if b then Signed w else Unsigned w) n ≡ (if b then signed_text big w (signed_of n) else num_text big w n)
laid_or true big w n = refl
laid_or false big w n = refl

width_by : (b : Bool) (rest : Option ℕ) (size w : ℕ) → ◌≡◌ {A = Option ℕ} (if b then Some size else rest) (Some w) → ◌≡◌ {A = Option ℕ} (if b then Some w else rest) (Some w)
width_by true rest size w h = refl
width_by false rest size w h = h

same_width : (size format w : ℕ) → pointer_width size format ≡ Some w → pointer_width w format ≡ Some w
same_width size format w h = width_by (format == 0) _ size w h

when_there : (b : Bool) (t : Text) (xs : List ℕ) → b ≡ true → t ≡ Some xs → when b t ≡ Some xs
when_there true t xs h e = e
when_there false t xs h e = cc

formatted_there : (big : Bool) (size format w n : ℕ) (xs : List ℕ) → pointer_width size format ≡ Some w → data_text big size format n ≡ Some xs → formatted big w format n ≡ Some xs
unfolding formatted data_text
formatted_there big size format w n xs h e =
    let put : Text = if is_signed format then signed_text big w (signed_of n) else num_text big w n in
    let text : put ≡ Some xs = sym (laid_or (is_signed format) big w n) ∙ sym (ap (λ o. o >>= λ f. laid_out big f n) (laid_by size format w h)) ∙ e in
    ap (λ o. o >>= λ k. when (k == w) put) (same_width size format w h) ∙ when_there (w == w) put xs (eq-eqb w w refl) text

counts_there : (b c : Bool) (f g : ℕ → Text) (n m : ℕ) (xs : List ℕ) → ((k : ℕ) → g k ≡ Some xs → f k ≡ Some xs) →
    ◌≡◌ {A = Text} ((if b then Some n else (if c then Some m else None)) >>= g) (Some xs) → ◌≡◌ {A = Text} (if b then f n else (if c then f m else None)) (Some xs)
counts_there true c f g n m xs h e = h n e
counts_there false true f g n m xs h e = h m e
counts_there false false f g n m xs h e = cc

put_there : (big : Bool) (size w encoding place n : ℕ) (xs : List ℕ) → pointer_width size (format_of encoding) ≡ Some w → constant_pointer big size encoding place n ≡ Some xs → pointer_text big w encoding place n ≡ Some xs
unfolding pointer_text constant_pointer
put_there big size w encoding place n xs h e =
    let format = format_of encoding in
    counts_there (application_of encoding == from_zero) (application_of encoding == from_place) (formatted big w format) (data_text big size format) n (distance place n) xs (λ k. formatted_there big size format w k xs h) e

-- Addresses

address_number : (w : ℕ) (plain : Bool) (n : ℕ) → IsNone (address_fails w plain (Constant n)) → IsNone (number_fails w n)
address_number w plain n h (errors.UnsupportedWordSize k) = h (errors.UnsupportedWordSize k)
address_number w plain n h errors.ValueTooLarge = h errors.ValueTooLarge
address_number w plain n h e = refl

when_same : (b : Bool) (m n : ℕ) → ◌≡◌ {A = Option ℕ} (when b (Some m)) (Some n) → m ≡ n
when_same true m n e = cc
when_same false m n e = cc

int_there : (big : Bool) (w : ℕ) (z : ℤ) (n : ℕ) (xs : List ℕ) → address_of z ≡ Some n → num_text big w n ≡ Some xs → int_text big w z ≡ Some xs
unfolding int_text
int_there big w (pos m) n xs h e = ap (num_text big w) (when_same (nat_lt m (2 ^ 64)) m n h) ∙ e
int_there big w (negsuc m) n xs h e = cc

module _ (big : Bool) (l : Layout) where
  abbrev pub There : Piece → Type 0
  There p = IsThere (p.text big l)

  -- a part for which neither a recording writer, nor a plain one of the numbered part where it comes to stand, has a cause
  abbrev pub Known : Placed → Placed → ℕ → Type 0
  Known p q at = IsNone ((p at).fails false) → IsNone ((q (l.own_start + at)).fails true) → There (p at).piece

  pub both_there : (p q : Piece) → There p → There q → There (both p q)
  unfolding both
  both_there p q a b = followed_there (p.text big l) (q.text big l) a b

  -- two parts; where the second comes to stand hangs on the size of the first
  pub turn_known_there : (p q r s : Placed) (at : ℕ) → (IsNone ((q (l.own_start + at)).fails true) → Moves big l p q at) → Known p q at → Known r s (at + (p at).piece.size) → Known (in_turn p r) (in_turn q s) at
  unfolding in_turn both
  turn_known_there p q r s at moves first second h k =
      let own = turn_none false p r at h in
      let now = turn_none true q s (l.own_start + at) k in
      let a = first own.0 now.0 in
      let size = (moves now.0 a.0 a.1).size in
      let next : l.own_start + at + (q (l.own_start + at)).piece.size ≡ l.own_start + (at + (p at).piece.size) = omega (arith, size) in
      let b = second own.1 (subst (λ n. IsNone ((s n).fails true)) next now.1) in
      followed_there ((p at).piece.text big l) ((r (at + (p at).piece.size)).piece.text big l) a b

  pub turn_known : (p q r s : Placed) (at : ℕ) → Moves big l p q at → Known p q at → Known r s (at + (p at).piece.size) → Known (in_turn p r) (in_turn q s) at
  turn_known p q r s at moves first second = turn_known_there p q r s at (λ none. moves) first second

  -- a symbol with a value
  known_symbol : (o : Option ℕ) (s : ℕ) (addend : ℤ) (f : Address → Error → Bool) → (f (Symbol s addend) errors.InvalidAddress ≡ true) → IsNone (f (known_or o (Symbol s addend))) → (n : ℕ) × (o ≡ Some n)
  known_symbol None s addend f is h = let k : true ≡ false = sym is ∙ h errors.InvalidAddress in cc
  known_symbol (Some n) s addend f is h = (n, refl)

  pub pointer_known : (size : ℕ) (encoding : DwEhPe) (a : Address) (at : ℕ) → Known (pointer size encoding.0 a) (pointer size encoding.0 (numbered l.symbols a)) at
  unfolding eh_pointer_text constant_pointer
  pointer_known size encoding (Constant n) at h k = counted_there big (counted_from encoding.0 at n) size encoding.0 h
  pointer_known size encoding (Symbol s addend) at h k =
      let place = l.own_start + at in
      let fails : Address → Error → Bool = λ a. pointer_fails true size encoding.0 place a in
      let known = known_symbol (value_at l.symbols (Symbol s addend)) s addend fails refl k in
      let n = known.0 in
      let width = width_there (pointer_width size (format_of encoding.0)) encoding.0 h in
      let none : IsNone (fails (Constant n)) = subst (λ o. IsNone (fails (known_or o (Symbol s addend)))) known.1 k in
      let text = counted_there big (counted_from encoding.0 place n) size encoding.0 none in
      let put : ℕ → ℕ → Text = λ w m. pointer_text big w encoding.0 place m in
      let got = opened (slice_get l.symbols s) (λ v. address_of (addend +ℤ pos v)) n known.1 in (
        text.0,
        ap (λ o. o >>= λ w. slice_get l.symbols s >>= λ v. address_of (addend +ℤ pos v) >>= put w) width.1
            ∙ ap (λ o. o >>= λ v. address_of (addend +ℤ pos v) >>= put width.0) got.is
            ∙ ap (λ o. o >>= put width.0) got.leads
            ∙ put_there big size width.0 encoding.0 place n text.0 width.1 text.1,
      )

  pub address_known : (w : ℕ) (a : Address) (at : ℕ) → Known (address w a) (address w (numbered l.symbols a)) at
  unfolding address_text
  address_known w (Constant n) at h k = number_there big w n (address_number w false n h)
  address_known w (Symbol s addend) at h k =
      let known = known_symbol (value_at l.symbols (Symbol s addend)) s addend (address_fails w true) refl k in
      let n = known.0 in
      let none : IsNone (address_fails w true (Constant n)) = subst (λ o. IsNone (address_fails w true (known_or o (Symbol s addend)))) known.1 k in
      let text = number_there big w n (address_number w true n none) in
      let got = opened (slice_get l.symbols s) (λ v. address_of (addend +ℤ pos v)) n known.1 in
      let sum : Option ℕ → Text = λ o. elim o [ None ↦ None | Some v ↦ int_text big w (addend +ℤ pos v) ] in
      (text.0, ap sum got.is ∙ int_there big w (addend +ℤ pos got.value) n text.0 got.leads text.1)
