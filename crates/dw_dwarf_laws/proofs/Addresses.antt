-- An address has the text of the number that it comes to.
use Rattle.std.specs.Prelude.{◌≡◌, ◌⊎◌, ℕ, ◌^◌, ◌+ℤ◌, nat_lt, Bool, true, false, List, Option, Some, None, ℤ, pos, negsuc, slice_get, refl}
use Rattle.std.proofs.Common.{sym, ◌∙◌, ap, inl, inr}
use Rattle.dw_base.specs.Numbers.{◌>>=◌, when}
use Rattle.dw_base.specs.declared.address.Address.{Address}
use Rattle.dw_base.specs.declared.address.Address.TheVariants.{Constant, Symbol}
use Rattle.dw_writer.specs.Layout.{Layout}
use Rattle.dw_writer.specs.Texts.{Text, int_text}
use Rattle.dw_writer.specs.SectionTexts.{address_text}
use Rattle.dw_writer.specs.Pointers.{address_of}
use Rattle.dw_dwarf_laws.specs.Addresses.{known_or, value_at, numbered_address}

-- a symbol that has a value, and what it comes to with an addend
pub record IsValued (symbols : List ℕ) (s : ℕ) (addend : ℤ) : Type 0 where
  pub value : ℕ
  pub number : ℕ
  pub at : slice_get symbols s ≡ Some value
  pub sum : addend +ℤ pos value ≡ pos number
  pub is : numbered_address symbols (Symbol s addend) ≡ Constant number

-- a number of 64 bits
fitting_number : (z : ℤ) (n : ℕ) → address_of z ≡ Some n → z ≡ pos n
fitting_number (pos m) n h = by (nat_lt m (2 ^ 64)) h
  where
    by : (b : Bool) → when b (Some m) ≡ Some n → pos m ≡ pos n
    by true k = let same : m ≡ n = cc in ap pos same
    by false k = absurd cc
fitting_number (negsuc m) n h = absurd cc

module _ (symbols : List ℕ) (s : ℕ) (addend : ℤ) where
  cases_by : (o : Option ℕ) (r : Option ℕ) → slice_get symbols s ≡ o → (o >>= λ v. address_of (addend +ℤ pos v)) ≡ r → (known_or r (Symbol s addend) ≡ Symbol s addend) ⊎ ((v n : ℕ) × (r ≡ Some n) × (o ≡ Some v) × (addend +ℤ pos v ≡ pos n))
  cases_by o None at is = inl refl
  cases_by None (Some n) at is = absurd cc
  cases_by (Some v) (Some n) at is = inr (v, n, refl, refl, fitting_number (addend +ℤ pos v) n is)

  -- a symbol's address stays, or it has a number
  pub symbol_cases : (numbered_address symbols (Symbol s addend) ≡ Symbol s addend) ⊎ IsValued symbols s addend
  symbol_cases = by (cases_by (slice_get symbols s) (value_at symbols (Symbol s addend)) refl refl)
    where
      by : (known_or (value_at symbols (Symbol s addend)) (Symbol s addend) ≡ Symbol s addend) ⊎ ((v n : ℕ) × (value_at symbols (Symbol s addend) ≡ Some n) × (slice_get symbols s ≡ Some v) × (addend +ℤ pos v ≡ pos n)) →
          (numbered_address symbols (Symbol s addend) ≡ Symbol s addend) ⊎ IsValued symbols s addend
      by (inl h) = inl h
      by (inr h) = inr (record { value = h.0; number = h.1; at = h.3; sum = h.4; is = ap (λ o. known_or o (Symbol s addend)) h.2 })

-- the text of an address is that of its number
pub address_same : (w : ℕ) (a : Address) (big : Bool) (l : Layout) → address_text w a big l ≡ address_text w (numbered_address l.symbols a) big l
unfolding address_text int_text
address_same w (Constant n) big l = refl
address_same w (Symbol s addend) big l = by (symbol_cases l.symbols s addend)
  where
    by : (numbered_address l.symbols (Symbol s addend) ≡ Symbol s addend) ⊎ IsValued l.symbols s addend → address_text w (Symbol s addend) big l ≡ address_text w (numbered_address l.symbols (Symbol s addend)) big l
    by (inl h) = ap (λ a. address_text w a big l) (sym h)
    by (inr h) =
        let known : Option ℕ → Text = λ o. elim o [ None ↦ None | Some v ↦ int_text big w (addend +ℤ pos v) ] in
        ap known h.at ∙ ap (int_text big w) h.sum ∙ ap (λ a. address_text w a big l) (sym h.is)
