-- Why items are refused.
use Rattle.std.specs.Prelude.{List, length, drop, get_or, ◌<◌, ◌≤◌, ◌+◌, ◌*◌, ◌^◌, ◌≡◌, ℕ, Bool, true, false, not, ◌&&◌, ◌==◌, Option, refl, IsTrue, IsFalse}
use Rattle.std.proofs.Common.{sym, ◌∙◌, ap, subst, arith}
use Rattle.std.proofs.Math.Nat.{one-le-pow}
use Rattle.std.proofs.lemmas.Bool.{eq-eqb, lt-ltb, le-leb, leb-true, and_parts, or_left, or_right}
use Rattle.dw_base.specs.Numbers.{is_width, fits, word_of, length_fits}
use Rattle.dw_base.specs.declared.common.Encoding.{Encoding}
use Rattle.dw_base.specs.declared.common.Format.{Format}
use Rattle.dw_base.specs.declared.error.Error.{Error}
use Rattle.dw_base.specs.declared.error.Error.TheVariants as errors
use Rattle.dw_base.specs.declared.address.Address.{Address}
use Rattle.dw_base.proofs.NumberLaws.{pow_of_bytes}
use Rattle.dw_base.specs.declared.address.Address.TheVariants.{Constant, Symbol}
use Rattle.dw_writer.specs.Contents.{Meaning}
use Rattle.dw_writer.specs.Meaning.{IsSameWriter}
use Rattle.dw_writer.specs.Causes.{BytesRefused, PatchRefused, NumberRefused, AddressRefused, LengthRefused, address_fits}
use Rattle.std.proofs.lemmas.List.Folds.{list_any_at}
use Rattle.dw_lists.specs.declared.range.Range.{Range}
use Rattle.dw_lists.specs.declared.range.Range.TheVariants as built
use Rattle.dw_lists.specs.Items.{marker}
use Rattle.dw_lists.specs.Texts.{plus}
use Rattle.dw_lists.specs.Parts.{Part}
use Rattle.dw_lists.specs.Causes.{Refused, Is, IsNone, width_fails, number_fails, address_fails, end_fails, numbers_fail, form_fails, old_fails, old_list_fails, new_part_fails, new_list_fails, length_fails, words_fail, size_fails}
use Rattle.dw_writer.proofs.FaultLaws.{HasRisen-from}
use Rattle.dw_lists.proofs.Causes.{neither_cause, old_here, old_closed}

both_hold : (a b : Bool) → IsTrue a → IsFalse b → IsTrue (a && not b)
both_hold true false h k = refl
both_hold false b h k = absurd (let e : IsTrue false = h in cc)
both_hold true true h k = absurd (let e : IsFalse true = k in cc)

pub bytes_refused : (old new : Meaning) (p : Error → Type 0) (e : Error) → BytesRefused old new e → Refused old new p e
bytes_refused old new p errors.NoMemory h = tt
bytes_refused old new p errors.WriteFault h = h
bytes_refused old new p e h = absurd h

number_refused : (old new : Meaning) (w n : ℕ) (e : Error) → NumberRefused w (fits w n) (BytesRefused old new) e → Refused old new (Is (number_fails w n)) e
number_refused old new w n errors.NoMemory h = tt
number_refused old new w n errors.WriteFault h = h.2
number_refused old new w n (errors.UnsupportedWordSize k) h = both_hold (k == w) (is_width w) (eq-eqb k w h.0) h.1
number_refused old new w n errors.ValueTooLarge h = both_hold (is_width w) (fits w n) h.0 h.1
number_refused old new w n e h = absurd h.2

width_refused : (old new : Meaning) (w : ℕ) (e : Error) → NumberRefused w true (BytesRefused old new) e → Refused old new (Is (width_fails w)) e
width_refused old new w errors.NoMemory h = tt
width_refused old new w errors.WriteFault h = h.2
width_refused old new w (errors.UnsupportedWordSize k) h = both_hold (k == w) (is_width w) (eq-eqb k w h.0) h.1
width_refused old new w errors.ValueTooLarge h = absurd (let e : IsFalse true = h.1 in cc)
width_refused old new w e h = absurd h.2

pub address_refused : (old new : Meaning) (plain : Bool) (w : ℕ) (a : Address) (e : Error) → AddressRefused plain w a (BytesRefused old new) e → Refused old new (Is (address_fails plain w a)) e
address_refused old new plain w (Constant n) e h = number_refused old new w n e h
address_refused old new true w (Symbol s a) errors.InvalidAddress h = refl
address_refused old new true w (Symbol s a) errors.NoMemory h = absurd h
address_refused old new true w (Symbol s a) errors.WriteFault h = absurd h
address_refused old new true w (Symbol s a) e h = absurd h
address_refused old new false w (Symbol s a) e h = width_refused old new w e h

-- a cause as one of others
pub weaker : (old new : Meaning) (p q : Error → Type 0) → ((e : Error) → p e → q e) → (e : Error) → Refused old new p e → Refused old new q e
weaker old new p q f errors.NoMemory h = tt
weaker old new p q f errors.WriteFault h = h
weaker old new p q f e h = f e h

-- why calls are refused after others that wrote
pub refused_after : (a b c : Meaning) (p q : Error → Type 0) → IsSameWriter a b → ((e : Error) → p e → q e) → (e : Error) → Refused b c p e → Refused a c q e
refused_after a b c p q same f errors.NoMemory h = tt
refused_after a b c p q same f errors.WriteFault h = HasRisen-from a b c same.faults h
refused_after a b c p q same f e h = f e h

-- an address behind other bytes
pub address_after : (a b c : Meaning) (w : ℕ) (x : Address) (q : Error → Type 0) → IsSameWriter a b → ((e : Error) → Is (address_fails a.is_plain w x) e → q e) → (e : Error) → AddressRefused b.is_plain w x (BytesRefused b c) e → Refused a c q e
address_after a b c w x q same f e h =
    refused_after a b c (Is (address_fails b.is_plain w x)) q same (λ err k. f err (subst (λ plain. Is (address_fails plain w x) err) same.kind k)) e (address_refused b c b.is_plain w x e h)

-- a list with an item that has a fault
pub item_refused : (a b c : Meaning) (v : Encoding) (known : Option (ℕ → Option ℕ)) (xs : List Part) (i : ℕ) (d : Part) → i < length xs → IsSameWriter a b → (e : Error) →
    Refused b c (Is (new_part_fails v known b.is_plain (get_or xs i d))) e → Refused a c (Is (new_list_fails v known a.is_plain xs)) e
item_refused a b c v known xs i d below same e h =
    refused_after a b c (Is (new_part_fails v known b.is_plain (get_or xs i d))) (Is (new_list_fails v known a.is_plain xs)) same
    (λ err k. list_any_at (λ r. new_part_fails v known a.is_plain r err) xs i d below (subst (λ plain. Is (new_part_fails v known plain (get_or xs i d)) err) same.kind k)) e h

pub close_refused : (a b c : Meaning) (p : Error → Type 0) → IsSameWriter a b → (e : Error) → BytesRefused b c e → Refused a c p e
close_refused a b c p same e h = refused_after a b c p p same (λ err k. k) e (bytes_refused b c p e h)

-- Sound causes

and_false : (a b : Bool) → IsTrue b → IsFalse (a && not b)
and_false true true h = refl
and_false false true h = refl
and_false a false h = absurd (let e : IsTrue false = h in cc)

-- a width has no fault
pub width_none : (w : ℕ) → IsTrue (is_width w) → IsNone (width_fails w)
width_none w h (errors.UnsupportedWordSize n) = and_false (n == w) (is_width w) h
width_none w h e = refl

-- a number that fits a width has none
pub number_none : (w n : ℕ) → IsTrue (is_width w) → IsTrue (fits w n) → IsNone (number_fails w n)
number_none w n h k (errors.UnsupportedWordSize m) = and_false (m == w) (is_width w) h
number_none w n h k errors.ValueTooLarge = and_false (is_width w) (fits w n) k
number_none w n h k e = refl

-- an address that can be written has none
pub address_none : (plain : Bool) (w : ℕ) (a : Address) → IsTrue (address_fits plain w a) → IsNone (address_fails plain w a)
address_none plain w (Constant n) h e = let p = and_parts (is_width w) (fits w n) h in number_none w n p.0 p.1 e
address_none true w (Symbol s a) h e = absurd (let k : IsTrue false = h in cc)
address_none false w (Symbol s a) h e = width_none w h e

zero_fits : (w : ℕ) → IsTrue (fits w 0)
zero_fits w = lt-ltb 0 (2 ^ (8 * w)) (omega (arith, one-le-pow (8 * w) 2 (omega arith)))

zero_cause : (w : ℕ) (e : Error) → Is (number_fails w 0) e → Is (width_fails w) e
zero_cause w (errors.UnsupportedWordSize n) h = h
zero_cause w errors.ValueTooLarge h = absurd (let k : true ≡ false = sym h ∙ and_false (is_width w) (fits w 0) (zero_fits w) in cc)
zero_cause w e h = h

-- Addresses of items

-- a number behind other bytes
number_after : (a b c : Meaning) (w n : ℕ) (q : Error → Type 0) → IsSameWriter a b → ((e : Error) → Is (number_fails w n) e → q e) → (e : Error) → NumberRefused w (fits w n) (BytesRefused b c) e → Refused a c q e
number_after a b c w n q same f e h = refused_after a b c (Is (number_fails w n)) q same f e (number_refused b c w n e h)

module _ (plain : Bool) (old new : Meaning) (w : ℕ) (x : Address) where
  base_width : (e : Error) → Is (width_fails w) e → Is (numbers_fail plain w (built.BaseAddress x)) e
  base_width e h = or_left (width_fails w e) (address_fails plain w x e) h

  pub base_unsized : (e : Error) → (e ≡ errors.UnsupportedWordSize w) × IsFalse (is_width w) → Refused old new (Is (numbers_fail plain w (built.BaseAddress x))) e
  base_unsized e h =
      subst (Refused old new (Is (numbers_fail plain w (built.BaseAddress x)))) (sym h.0)
      (base_width (errors.UnsupportedWordSize w) (both_hold (w == w) (is_width w) (eq-eqb w w refl) h.1))

  marker_fits : fits w (marker w) ≡ true
  marker_fits = lt-ltb (marker w) (2 ^ (8 * w)) (omega (arith, pow_of_bytes w, one-le-pow w 256 (omega arith)))

  -- the marker fits each width
  pub base_marker : (n : ℕ) → n ≡ marker w → (e : Error) → NumberRefused w (fits w n) (BytesRefused old new) e → Refused old new (Is (numbers_fail plain w (built.BaseAddress x))) e
  base_marker n is e h =
      weaker old new (Is (width_fails w)) (Is (numbers_fail plain w (built.BaseAddress x))) base_width e
      (width_refused old new w e (subst (λ b. NumberRefused w b (BytesRefused old new) e) (ap (fits w) is ∙ marker_fits) h))

module _ (a b : Meaning) (same : IsSameWriter a b) (w : ℕ) where
  pub base_refused : (c : Meaning) (x : Address) (e : Error) → AddressRefused b.is_plain w x (BytesRefused b c) e → Refused a c (Is (numbers_fail a.is_plain w (built.BaseAddress x))) e
  base_refused c x = address_after a b c w x (Is (numbers_fail a.is_plain w (built.BaseAddress x))) same (λ e h. or_right (width_fails w e) (address_fails a.is_plain w x e) h)

  pub base_none : (x : Address) → IsTrue (is_width w) → IsTrue (address_fits b.is_plain w x) → IsNone (numbers_fail a.is_plain w (built.BaseAddress x))
  base_none x width fit =
      neither_cause (width_fails w) (address_fails a.is_plain w x) (width_none w width)
      (subst (λ plain. IsNone (address_fails plain w x)) same.kind (address_none b.is_plain w x fit))

  pub end_refused : (c : Meaning) (x y : Address) (e : Error) → AddressRefused b.is_plain w y (BytesRefused b c) e → Refused a c (Is (numbers_fail a.is_plain w (built.StartEnd x y))) e
  end_refused c x y = address_after a b c w y (Is (numbers_fail a.is_plain w (built.StartEnd x y))) same (λ e h. or_right (address_fails a.is_plain w x e) (address_fails a.is_plain w y e) h)

  pub ends_none : (x y : Address) → IsTrue (address_fits a.is_plain w x) → IsTrue (address_fits b.is_plain w y) → IsNone (numbers_fail a.is_plain w (built.StartEnd x y))
  ends_none x y p q =
      neither_cause (address_fails a.is_plain w x) (address_fails a.is_plain w y) (address_none a.is_plain w x p)
      (subst (λ plain. IsNone (address_fails plain w y)) same.kind (address_none b.is_plain w y q))

  pub offset_refused : (c : Meaning) (plain : Bool) (m n : ℕ) (e : Error) → NumberRefused w (fits w n) (BytesRefused b c) e → Refused a c (Is (numbers_fail plain w (built.OffsetPair m n))) e
  offset_refused c plain m n = number_after a b c w n (Is (numbers_fail plain w (built.OffsetPair m n))) same (λ e h. or_right (number_fails w m e) (number_fails w n e) h)

pub offset_first : (old new : Meaning) (plain : Bool) (w m n : ℕ) (e : Error) → NumberRefused w (fits w m) (BytesRefused old new) e → Refused old new (Is (numbers_fail plain w (built.OffsetPair m n))) e
offset_first old new plain w m n e h =
    weaker old new (Is (number_fails w m)) (Is (numbers_fail plain w (built.OffsetPair m n))) (λ err k. or_left (number_fails w m err) (number_fails w n err) k) e (number_refused old new w m e h)

pub offsets_none : (plain : Bool) (w m n : ℕ) → IsTrue (is_width w) × IsTrue (fits w m) → IsTrue (is_width w) × IsTrue (fits w n) → IsNone (numbers_fail plain w (built.OffsetPair m n))
offsets_none plain w m n p q = neither_cause (number_fails w m) (number_fails w n) (number_none w m p.0 p.1) (number_none w n q.0 q.1)

pub end_first : (old new : Meaning) (w : ℕ) (x y : Address) (e : Error) → AddressRefused old.is_plain w x (BytesRefused old new) e → Refused old new (Is (numbers_fail old.is_plain w (built.StartEnd x y))) e
end_first old new w x y e h =
    weaker old new (Is (address_fails old.is_plain w x)) (Is (numbers_fail old.is_plain w (built.StartEnd x y)))
    (λ err k. or_left (address_fails old.is_plain w x err) (address_fails old.is_plain w y err) k) e (address_refused old new old.is_plain w x e h)

-- an end that lies further on

module _ (w : ℕ) (x y : Address) (k : ℕ) where
  no_rise : IsFalse (end_fails x k errors.WriteFault)
  no_rise = by x
    where
      by : (a : Address) → IsFalse (end_fails a k errors.WriteFault)
      by (Constant n) = refl
      by (Symbol s z) = refl

  pub further_refused : (old new : Meaning) (plain : Bool) (e : Error) → Is (end_fails x k) e → Refused old new (Is (numbers_fail plain w (built.StartLength x k))) e
  further_refused old new plain errors.NoMemory h = tt
  further_refused old new plain errors.WriteFault h = absurd (let same : true ≡ false = sym h ∙ no_rise in cc)
  further_refused old new plain e h = or_left (end_fails x k e) _ h

  module _ (is : y ≡ plus x k) where
    pub further_none : (plain : Bool) → IsNone (end_fails x k) → IsNone (numbers_fail plain w (built.StartEnd x y)) → IsNone (numbers_fail plain w (built.StartLength x k))
    further_none plain none ends =
        neither_cause (end_fails x k) (numbers_fail plain w (built.StartEnd x (plus x k))) none (subst (λ z. IsNone (numbers_fail plain w (built.StartEnd x z))) is ends)

    pub ends_further : (old new : Meaning) (plain : Bool) (e : Error) → Refused old new (Is (numbers_fail plain w (built.StartEnd x y))) e → Refused old new (Is (numbers_fail plain w (built.StartLength x k))) e
    ends_further old new plain =
        weaker old new (Is (numbers_fail plain w (built.StartEnd x y))) (Is (numbers_fail plain w (built.StartLength x k)))
        (λ e h. or_right (end_fails x k e) _ (subst (λ z. Is (numbers_fail plain w (built.StartEnd x z)) e) is h))

-- two zeros
pub zero_first : (old new : Meaning) (w : ℕ) (e : Error) → NumberRefused w (fits w 0) (BytesRefused old new) e → Refused old new (Is (width_fails w)) e
zero_first old new w e h = weaker old new (Is (number_fails w 0)) (Is (width_fails w)) (zero_cause w) e (number_refused old new w 0 e h)

pub zero_second : (a b c : Meaning) (w : ℕ) → IsSameWriter a b → (e : Error) → NumberRefused w (fits w 0) (BytesRefused b c) e → Refused a c (Is (width_fails w)) e
zero_second a b c w same = number_after a b c w 0 (Is (width_fails w)) same (zero_cause w)

-- Items up to version 4

no_fault : (base : Bool) (w : ℕ) (r : Range) → form_fails base w r errors.WriteFault ≡ false
no_fault base w (built.BaseAddress a) = refl
no_fault base w (built.OffsetPair m n) = refl
no_fault base w (built.StartEnd a b) = refl
no_fault base w (built.StartLength a k) = refl

pub form_refused : (old new : Meaning) (base : Bool) (w : ℕ) (r : Range) (q : Error → Type 0) → ((e : Error) → Is (form_fails base w r) e → q e) → (e : Error) → Is (form_fails base w r) e → Refused old new q e
form_refused old new base w r q f errors.NoMemory h = tt
form_refused old new base w r q f errors.WriteFault h = absurd (let k : true ≡ false = sym h ∙ no_fault base w r in cc)
form_refused old new base w r q f e h = f e h

-- what is refused behind the first items of a list, where its faults are those of the others
module _ (a b c : Meaning) (v : Encoding) (known : Option (ℕ → Option ℕ)) (has_base base : Bool) (xs : List Part) (i : ℕ) (same : IsSameWriter a b)
    (none : (e : Error) → old_list_fails v known a.is_plain has_base xs e ≡ old_list_fails v known a.is_plain base (drop i xs) e) where
  pub old_part_refused : (d : Part) → i < length xs → (e : Error) → Refused b c (Is (old_fails v known b.is_plain base (get_or xs i d))) e → Refused a c (Is (old_list_fails v known a.is_plain has_base xs)) e
  old_part_refused d below e h =
      refused_after a b c (Is (old_fails v known b.is_plain base (get_or xs i d))) (Is (old_list_fails v known a.is_plain has_base xs)) same
      (λ err k. none err ∙ old_here v known base a.is_plain xs i d below err (subst (λ plain. Is (old_fails v known plain base (get_or xs i d)) err) same.kind k)) e h

  pub old_close_refused : length xs ≤ i → (e : Error) → Refused b c (Is (width_fails v.address_size)) e → Refused a c (Is (old_list_fails v known a.is_plain has_base xs)) e
  old_close_refused done =
      refused_after a b c (Is (width_fails v.address_size)) (Is (old_list_fails v known a.is_plain has_base xs)) same
      (λ err k. none err ∙ old_closed v known base a.is_plain xs i done err ∙ k)

  pub old_none : length xs ≤ i → IsNone (width_fails v.address_size) → IsNone (old_list_fails v known a.is_plain has_base xs)
  old_none done width e = none e ∙ old_closed v known base a.is_plain xs i done e ∙ width e

-- Lengths

pub length_refused : (old new : Meaning) (format : Format) (n p k : ℕ) → p + k ≤ old.size → (e : Error) → LengthRefused format n (PatchRefused old new p k) e → Refused old new (Is (length_fails format n)) e
length_refused old new format n p k within errors.NoMemory h = tt
length_refused old new format n p k within errors.WriteFault h = h.1
length_refused old new format n p k within errors.InitialLengthOverflow h = ap not h
length_refused old new format n p k within errors.OffsetOutOfBounds h = absurd (omega (arith, h.1, within))
length_refused old new format n p k within errors.LengthOutOfBounds h = absurd (omega (arith, h.1, within))
length_refused old new format n p k within e h = absurd h.1

pub length_none : (format : Format) (n : ℕ) → IsTrue (length_fits format n) → IsNone (length_fails format n)
length_none format n h errors.InitialLengthOverflow = ap not h
length_none format n h e = refl

-- an offset entry that doesn't fit a word, among others
pub word_refused : (a b c : Meaning) (format : Format) (ns : List ℕ) (i : ℕ) → i < length ns → IsSameWriter a b → (e : Error) → NumberRefused (word_of format) (fits (word_of format) (get_or ns i 0)) (BytesRefused b c) e →
    Refused a c (Is (words_fail format ns)) e
word_refused a b c format ns i below same e h =
    refused_after a b c (Is (number_fails (word_of format) (get_or ns i 0))) (Is (words_fail format ns)) same
    (λ err k. list_any_at (λ n. number_fails (word_of format) n err) ns i 0 below k) e
    (number_refused b c (word_of format) (get_or ns i 0) e h)

-- Sizes

-- a sum that passes 64 bits, as a part of a larger one
pub passes : (m n : ℕ) (e : Error) → (e ≡ errors.ValueTooLarge) × (2 ^ 64 ≤ m) → m ≤ n → Is (size_fails n) e
passes m n e h within = subst (Is (size_fails n)) (sym h.0) (le-leb (2 ^ 64) n (omega (arith, h.1, within)))

-- and a cause of such a sum
pub larger : (m n : ℕ) → m ≤ n → (e : Error) → Is (size_fails m) e → Is (size_fails n) e
larger m n within errors.ValueTooLarge h = le-leb (2 ^ 64) n (omega (arith, leb-true (2 ^ 64) m h, within))
larger m n within e h = h

pub too_large : (old new : Meaning) (m n : ℕ) {q : Error → Type 0} (e : Error) → (e ≡ errors.ValueTooLarge) × (2 ^ 64 ≤ m) → m ≤ n → ((e : Error) → Is (size_fails n) e → q e) → Refused old new q e
too_large old new m n {q} e h within f = subst (Refused old new q) (sym h.0) (f errors.ValueTooLarge (le-leb (2 ^ 64) n (omega (arith, h.1, within))))
