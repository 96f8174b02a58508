-- What is looked up in sections.
use Rattle.std.proofs.Common.{◌≡◌, ◌∙◌, sym, ap, subst, ℕ, zero, suc, ◌+◌, ◌<◌, ◌^◌, List, [], ◌∷◌, Option, Some, None, Result, Ok, Err, refl, arith, nat_lt, ⊎_elim}
use Rattle.std.proofs.lemmas.Bool.{lt-ltb, le-ltb}
use Rattle.std.proofs.lemmas.List.Elements.{All-nil, All-cons}
use Rattle.dw_base.specs.Numbers.{◌>>=◌, number_at}
use Rattle.dw_base.specs.Forms.{text_at}
use Rattle.dw_base.specs.Spellable.{IsText}
use Rattle.dw_read.specs.Reading.{Reading}
use Rattle.dw_read.specs.Reasons.{◌=>>◌, if_so, number_read, text_read}
use Rattle.dw_read.specs.declared.error.ReadError.{ReadError}
use Rattle.dw_read.specs.declared.error.ReadError.TheVariants.{OffsetOutOfBounds}
use Rattle.dw_read.proofs.Laws.{number_law, text_law}
use Rattle.dw_read_units.specs.Lookups.{bytes_from, indexed, StandsAt, IsMissing, FindsList, MissesList, LeadsPast}
use Rattle.dw_convert.specs.Sources.{text_from, text_behind, list_behind}
use Rattle.dw_convert.proofs.Addresses.{of_ok}

module _ (section : Reading) where
  pub found_text : (offset : ℕ) (xs : List ℕ) → StandsAt (List ℕ) text_at offset section xs → text_from section offset ≡ Ok xs
  unfolding text_from
  found_text offset xs h =
      let e : text_read (bytes_from offset section) ≡ Ok (xs, h.rest) = of_ok _ _ (text_law (bytes_from offset section) ∙ h.is) in
      ap (λ r. r =>> λ y. Ok y.0) e

  pub missing_text : (offset : ℕ) (e : ReadError) → IsMissing (List ℕ) text_at text_read offset section e → text_from section offset ≡ Err e
  unfolding text_from
  missing_text offset e h = ap (λ r. r =>> λ y. Ok y.0) h.reason

  number_there : (w offset x : ℕ) → (h : StandsAt ℕ (number_at section.is_big w) offset section x) → number_read section.is_big w (bytes_from offset section) ≡ Ok (x, h.rest)
  number_there w offset x h = of_ok _ _ (number_law section.is_big w (bytes_from offset section) ∙ h.is)

  module _ (texts : Reading) where
    pub led_to_text : (base w i p : ℕ) (r : Result (List ℕ) ReadError) → StandsAt ℕ (number_at section.is_big w) (indexed base i w) section p → text_from texts p ≡ r → text_behind section texts base w i ≡ r
    unfolding text_behind
    led_to_text base w i p r h e = ap (λ y. y =>> λ x. text_from texts x.0) (number_there w (indexed base i w) p h) ∙ e

    pub leads_to_no_text : (base w i : ℕ) (e : ReadError) → IsMissing ℕ (number_at section.is_big w) (number_read section.is_big w) (indexed base i w) section e → text_behind section texts base w i ≡ Err e
    unfolding text_behind
    leads_to_no_text base w i e h = ap (λ y. y =>> λ x. text_from texts x.0) h.reason

  pub found_list : (w base i place : ℕ) → place < 2 ^ 64 → FindsList w base i section place → list_behind section base w i ≡ Ok place
  unfolding list_behind
  found_list w base i place small h =
      let within : base + h.offset < 2 ^ 64 = subst (λ (n : ℕ). n < 2 ^ 64) h.is small in
      ap (λ y. y =>> λ x. if_so (nat_lt (base + x.0) (2 ^ 64)) (OffsetOutOfBounds x.0) (Ok (base + x.0))) (number_there w (indexed base i w) h.offset h.stands)
      ∙ ap (λ b. if_so b (OffsetOutOfBounds h.offset) (Ok (base + h.offset))) (lt-ltb (base + h.offset) (2 ^ 64) within)
      ∙ ap Ok (sym h.is)

  pub missing_list : (w base i : ℕ) (e : ReadError) → MissesList w base i section e → list_behind section base w i ≡ Err e
  unfolding list_behind
  missing_list w base i e h = ⊎_elim
      (λ (m : IsMissing ℕ (number_at section.is_big w) (number_read section.is_big w) (indexed base i w) section e). ap (λ y. y =>> λ x. if_so (nat_lt (base + x.0) (2 ^ 64)) (OffsetOutOfBounds x.0) (Ok (base + x.0))) m.reason)
      (λ (l : LeadsPast w base i section e).
      ap (λ y. y =>> λ x. if_so (nat_lt (base + x.0) (2 ^ 64)) (OffsetOutOfBounds x.0) (Ok (base + x.0))) (number_there w (indexed base i w) l.offset l.stands)
      ∙ ap (λ b. if_so b (OffsetOutOfBounds l.offset) (Ok (base + l.offset))) (le-ltb (base + l.offset) (2 ^ 64) l.past)
      ∙ ap Err (sym l.is))
      h

front : (x y : List ℕ × List ℕ) → Some x ≡ Some y → x.0 ≡ y.0
front x y h = let e : x ≡ y = cc in ap (λ (p : List ℕ × List ℕ). p.0) e

abbrev grown : ℕ → List ℕ × List ℕ → Option (List ℕ × List ℕ)
grown b x = Some (suc b ∷ x.0, x.1)

-- a text that was read has no zero
behind : (b : ℕ) (r : Option (List ℕ × List ℕ)) (y : List ℕ × List ℕ) → ((x : List ℕ × List ℕ) → r ≡ Some x → IsText x.0) → (r >>= grown b) ≡ Some y → IsText y.0
behind b None y f h = absurd (cc)
behind b (Some x) y f h =
    let z : List ℕ × List ℕ = (suc b ∷ x.0, x.1) in
    let is : suc b ∷ x.0 ≡ y.0 = front z y h in
    subst IsText is (All-cons (λ (c : ℕ). 0 < c) (suc b) x.0 (omega arith) (f x refl))

text_of : (bytes : List ℕ) (y : List ℕ × List ℕ) → text_at bytes ≡ Some y → IsText y.0
unfolding text_at
text_of [] y h = absurd (cc)
text_of (zero ∷ bs) y h = let z : List ℕ × List ℕ = ([], bs) in let is : [] ≡ y.0 = front z y h in subst IsText is (All-nil (λ (c : ℕ). 0 < c))
text_of (suc b ∷ bs) y h = behind b (text_at bs) y (text_of bs) h

pub read_text : (section : Reading) (offset : ℕ) (xs : List ℕ) → StandsAt (List ℕ) text_at offset section xs → IsText xs
read_text section offset xs h = text_of (bytes_from offset section) (xs, h.rest) h.is
