-- Pointers and addresses, once symbols have values.
use Rattle.std.specs.Prelude.{◌≡◌, ℕ, ◌+◌, ◌^◌, ◌==◌, ◌&&◌, Bool, true, false, nat_lt, List, length, Option, Some, None, refl, ℤ, pos, negsuc, ◌+ℤ◌, IsTrue, IsFalse, slice_get, if◌then◌else◌, unwrap_or}
use Rattle.std.proofs.Common.{sym, ◌∙◌, ap, subst, arith, eqb-true}
use Rattle.std.proofs.lemmas.Bool.Decides.{nat_tests}
use Rattle.std.proofs.lemmas.Option.{none-some}
use Rattle.std.proofs.lemmas.Bool.{and_parts}
use Rattle.dw_base.specs.Numbers.{◌>>=◌, when, num, is_width, fits}
use Rattle.dw_base.specs.Pointers.{format_of, application_of, from_zero, from_place, pointer_width, is_signed, signed_of, distance}
use Rattle.dw_base.specs.declared.address.Address.{Address}
use Rattle.dw_base.specs.declared.address.Address.TheVariants.{Constant, Symbol}
use Rattle.dw_base.specs.declared.constants.DwEhPe.{DwEhPe}
use Rattle.dw_writer.specs.Layout.{Layout}
use Rattle.dw_writer.specs.Texts.{Text, num_text, int_text}
use Rattle.dw_writer.specs.SectionTexts.{address_text, eh_pointer_text, eh_pointer_size}
use Rattle.dw_writer.specs.Pointers.{signed_text, address_of, formatted, pointer_text, layout_by, laid_out, laid_size, data_text, counted as counted_from, constant_pointer}
use Rattle.dw_writer.specs.declared.pointer.PointerLayout.{PointerLayout}
use Rattle.dw_writer.specs.declared.pointer.PointerLayout.TheVariants.{Uleb128, Sleb128, Unsigned, Signed}
use Rattle.dw_writer.proofs.Laws.{length-pointer_text}
use Rattle.dw_writer.proofs.PointerSteps.{data_by, length-constant_pointer}
use Rattle.dw_frame.specs.PointerParts.{pointer, address}
use Rattle.dw_frame.proofs.TextParts.{some_if}
use Rattle.dw_link_frames.specs.Numbered.{known_or, value_at, numbered}
use Rattle.dw_link_frames.specs.Placed.{is_fixed}
use Rattle.dw_link.proofs.Faultless.{opened}
use Rattle.dw_link_frames.proofs.Turning.{Holds, Moves}

-- A pointer in as many bytes as its format has

not_this : (b : Bool) (size format k n : ℕ) → (format == n) ≡ b → pointer_width size n ≡ None → pointer_width size format ≡ Some k → b ≡ false
not_this false size format k n is none h = refl
not_this true size format k n is none h =
    let same : format ≡ n = eqb-true format n is in
    absurd (none-some k (sym none ∙ ap (pointer_width size) (sym same) ∙ h))

-- is laid out by it
pub laid_by : (size format w : ℕ) → pointer_width size format ≡ Some w → layout_by size format ≡ Some (if is_signed format then Signed w else Unsigned w)
laid_by size format w h =
    let p = not_this (format == 1) size format w 1 refl refl h in
    let q = not_this (format == 9) size format w 9 refl refl h in
    let rest : Option PointerLayout = pointer_width size format >>= λ k. Some (if is_signed format then Signed k else Unsigned k) in
    ap (λ b. if b then Some Uleb128 else (if format == 9 then Some Sleb128 else rest)) p
    ∙ ap (λ b. if b then Some Sleb128 else rest) q
    ∙ ap (λ o. o >>= λ k. Some (if is_signed format then Signed k else Unsigned k)) h

when_is : (b : Bool) (t : Text) (xs : List ℕ) → when b t ≡ Some xs → t ≡ Some xs
when_is true t xs e = e
when_is false t xs e = cc

signed_or : (b big : Bool) (w n : ℕ) → laid_out big (if b then Signed w else Unsigned w) n ≡ (if b then signed_text big w (signed_of n) else num_text big w n)
signed_or true big w n = refl
signed_or false big w n = refl

formatted_is : (big : Bool) (size format w n : ℕ) (xs : List ℕ) → pointer_width size format ≡ Some w → formatted big w format n ≡ Some xs → data_text big size format n ≡ Some xs
unfolding formatted
formatted_is big size format w n xs h e =
    let put : Text = if is_signed format then signed_text big w (signed_of n) else num_text big w n in
    let o = opened (pointer_width w format) (λ k. when (k == w) put) xs e in
    data_by big size format n (if is_signed format then Signed w else Unsigned w) (laid_by size format w h)
    ∙ signed_or (is_signed format) big w n ∙ when_is (o.value == w) put xs o.leads

counts_so : (b c : Bool) (f g : ℕ → Text) (n m : ℕ) (xs : List ℕ) → ((k : ℕ) → f k ≡ Some xs → g k ≡ Some xs) →
    ◌≡◌ {A = Text} (if b then f n else (if c then f m else None)) (Some xs) → ◌≡◌ {A = Text} ((if b then Some n else (if c then Some m else None)) >>= g) (Some xs)
counts_so true c f g n m xs h e = h n e
counts_so false true f g n m xs h e = h m e
counts_so false false f g n m xs h e = cc

-- what a linker puts is what a writer puts that knows the address
pointer_is : (big : Bool) (size w encoding place n : ℕ) (xs : List ℕ) → pointer_width size (format_of encoding) ≡ Some w → pointer_text big w encoding place n ≡ Some xs → constant_pointer big size encoding place n ≡ Some xs
unfolding pointer_text constant_pointer
pointer_is big size w encoding place n xs h e =
    let format = format_of encoding in
    counts_so (application_of encoding == from_zero) (application_of encoding == from_place) (formatted big w format) (data_text big size format) n (distance place n) xs (λ k. formatted_is big size format w k xs h) e

-- Pointers

-- one that counts from zero is the same everywhere
counted_anywhere : (encoding p q n : ℕ) → (application_of encoding == from_place) ≡ false → counted_from encoding p n ≡ counted_from encoding q n
counted_anywhere encoding p q n h =
    ap (λ b. if application_of encoding == from_zero then Some n else (if b then Some (distance p n) else None)) h
    ∙ ap (λ b. if application_of encoding == from_zero then Some n else (if b then Some (distance q n) else None)) (sym h)

module _ (big : Bool) (l : Layout) where
  fixed_pointer : (size encoding n at place : ℕ) → (application_of encoding == from_place) ≡ false → Moves big l (pointer size encoding (Constant n)) (pointer size encoding (Constant n)) at
  unfolding eh_pointer_text eh_pointer_size constant_pointer
  fixed_pointer size encoding n at place h xs e =
      let same = counted_anywhere encoding (l.own_start + at) at n h in
      record {
        size = ap (λ o. unwrap_or (o >>= λ k. layout_by size (format_of encoding) >>= λ layout. Some (laid_size layout k)) 0) same;
        text = ap (λ o. o >>= data_text big size (format_of encoding)) same ∙ e;
      }

  -- the parts of a symbol's pointer
  symbol_pointer : (size encoding at s : ℕ) (addend : ℤ) → Moves big l (pointer size encoding (Symbol s addend)) (pointer size encoding (numbered l.symbols (Symbol s addend))) at
  unfolding eh_pointer_text eh_pointer_size
  symbol_pointer size encoding at s addend xs e =
      let place = l.own_start + at in
      let put : ℕ → ℕ → Text = λ w n. pointer_text big w encoding place n in
      let a = opened (pointer_width size (format_of encoding)) (λ w. slice_get l.symbols s >>= λ v. address_of (addend +ℤ pos v) >>= put w) xs e in
      let b = opened (slice_get l.symbols s) (λ v. address_of (addend +ℤ pos v) >>= put a.value) xs a.leads in
      let c = opened (address_of (addend +ℤ pos b.value)) (put a.value) xs b.leads in
      let known : value_at l.symbols (Symbol s addend) ≡ Some c.value = ap (λ o. o >>= λ v. address_of (addend +ℤ pos v)) b.is ∙ c.is in
      let number : numbered l.symbols (Symbol s addend) ≡ Constant c.value = ap (λ o. known_or o (Symbol s addend)) known in
      let text = pointer_is big size a.value encoding place c.value xs a.is c.leads in
      let long : length xs ≡ a.value = length-pointer_text big a.value encoding place c.value xs c.leads in
      let size_is : eh_pointer_size size encoding place (Constant c.value) ≡ unwrap_or (pointer_width size (format_of encoding)) 0 =
      sym (length-constant_pointer big size encoding place c.value xs text) ∙ long ∙ ap (λ o. unwrap_or o 0) (sym a.is) in
      subst (λ x. Holds big l (pointer size encoding x place).piece (unwrap_or (pointer_width size (format_of encoding)) 0) xs) (sym number) (record { size = size_is; text = text })

  pub pointer_moves : (size : ℕ) (encoding : DwEhPe) (a : Address) (at : ℕ) → IsFalse (is_fixed encoding a) → Moves big l (pointer size encoding.0 a) (pointer size encoding.0 (numbered l.symbols a)) at
  pointer_moves size encoding (Constant n) at h = fixed_pointer size encoding.0 n at at h
  pointer_moves size encoding (Symbol s addend) at h = symbol_pointer size encoding.0 at s addend

  -- Addresses

  short : (w n : ℕ) → IsTrue (is_width w) → IsTrue (fits w n) → IsTrue (nat_lt n (2 ^ 64))
  short w n h k = grind (arith, nat_tests)

  int_is : (w : ℕ) (z : ℤ) (xs : List ℕ) → int_text big w z ≡ Some xs → (n : ℕ) × (address_of z ≡ Some n) × (num_text big w n ≡ Some xs)
  unfolding int_text num_text
  int_is w (pos n) xs e =
      let p = some_if (is_width w && fits w n) (num big w n) xs e in
      let q = and_parts (is_width w) (fits w n) p.0 in
      (n, ap (λ b. when b (Some n)) (short w n q.0 q.1), e)
  int_is w (negsuc n) xs e = cc

  symbol_by : (w s : ℕ) (addend : ℤ) (o : Option ℕ) (xs : List ℕ) → slice_get l.symbols s ≡ o → elim o [ None ↦ None | Some v ↦ int_text big w (addend +ℤ pos v) ] ≡ Some xs →
      (n : ℕ) × (value_at l.symbols (Symbol s addend) ≡ Some n) × (num_text big w n ≡ Some xs)
  symbol_by w s addend None xs is e = cc
  symbol_by w s addend (Some v) xs is e =
      let a = int_is w (addend +ℤ pos v) xs e in (a.0, ap (λ o. o >>= λ k. address_of (addend +ℤ pos k)) is ∙ a.1, a.2)

  pub address_moves : (w : ℕ) (a : Address) (at : ℕ) → Moves big l (address w a) (address w (numbered l.symbols a)) at
  unfolding address_text
  address_moves w (Constant n) at xs e = record { size = refl; text = e }
  address_moves w (Symbol s addend) at xs e =
      let a = symbol_by w s addend (slice_get l.symbols s) xs refl e in
      let number : numbered l.symbols (Symbol s addend) ≡ Constant a.0 = ap (λ o. known_or o (Symbol s addend)) a.1 in
      subst (λ x. Holds big l (address w x (l.own_start + at)).piece w xs) (sym number) (record { size = refl; text = a.2 })
