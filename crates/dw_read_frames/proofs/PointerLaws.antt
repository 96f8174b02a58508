-- Pointers, from what the calls in them answered.
use Rattle.std.proofs.Common.{◌≡◌, ◌∙◌, sym, ap, ℕ, ◌+◌, ◌*◌, ◌/◌, ◌%◌, ◌^◌, List, Some, None, Ok, Err, Bool, ℤ, refl, arith}
use Rattle.std.specs.Prelude.{bit_and}
use Rattle.std.proofs.lemmas.Nat.{and_mask, and_block}
use Rattle.std.proofs.lemmas.Bool.{ne_eqb}
use Rattle.dw_base.specs.Leb128.{sleb_at}
use Rattle.dw_base.specs.Numbers.{number_at}
use Rattle.dw_base.specs.Pointers.{format_of, application_of, from_zero, from_place}
use Rattle.dw_base.specs.declared.constants.DwEhPe.{DwEhPe}
use Rattle.dw_read.specs.Reading.{Reading, Reads, Read, left}
use Rattle.dw_read.specs.Reasons.{number_read, sleb_read}
use Rattle.dw_read.specs.Took.{Took}
use Rattle.dw_read.specs.declared.error.ReadError.{ReadError}
use Rattle.dw_read.specs.declared.error.ReadError.TheVariants.{UnknownPointerEncoding}
use Rattle.dw_read.proofs.Laws.{number_law, sleb_law}
use Rattle.dw_read.proofs.Chain.{took, took_of, went}
use Rattle.dw_read_frames.specs.Pointers.{extended, in_bits, extended_read, signed_read, format_row, data_read, led_to, pointer_read}

format-and : (n : ℕ) → bit_and n 0x0f ≡ format_of n
format-and n = and_mask n 4

application-and : (n : ℕ) → bit_and n 0x70 ≡ application_of n
application-and n =
    let cut : n / 16 * 2 ^ 4 + n % 16 ≡ n = grind arith in
    ap (λ k. bit_and k 0x70) (sym cut)
    ∙ and_block 4 (n / 16) 7 (n % 16) 0 (grind arith) (grind arith)
    ∙ ap (λ k. k * 16 + bit_and (n % 16) 0) (and_mask (n / 16) 3)
    ∙ ap (λ k. n / 16 % 8 * 16 + k) (and_mask (n % 16) 0)
    ∙ grind arith

module _ (big : Bool) (size : ℕ) (encoding : DwEhPe) (f : ℕ) (is : f ≡ bit_and encoding.0 0x0f) where
  format_is : format_of encoding.0 ≡ f
  format_is = sym (is ∙ format-and encoding.0)

  pub unknown_format : (bs : List ℕ) → format_row big size f ≡ None → data_read big size encoding bs ≡ Err (UnknownPointerEncoding encoding)
  unfolding data_read
  unknown_format bs h = rw (format_is, h) refl

  module _ (p : Read ℕ) (row : format_row big size f ≡ Some p) where
    data_is : (bs : List ℕ) → data_read big size encoding bs ≡ p bs
    unfolding data_read
    data_is bs = rw (format_is, row) refl

    pub data_err : (bs : List ℕ) (e : ReadError) → p bs ≡ Err e → data_read big size encoding bs ≡ Err e
    data_err bs e h = data_is bs ∙ h

    pub data_ok : (old new : Reading) (x : ℕ) → Took ℕ p old new x → Took ℕ (data_read big size encoding) old new x
    data_ok old new x h = took ℕ (data_read big size encoding) old new x (went ℕ p old new x h) (data_is (left old) ∙ h.value)

pub row_at : (big : Bool) (size f k : ℕ) (p : Read ℕ) → format_row big size k ≡ Some p → f ≡ k → format_row big size f ≡ Some p
row_at big size f k p h e = ap (format_row big size) e ∙ h

-- signed numbers
pub extended_took : (w n x : ℕ) (old new : Reading) → x ≡ extended w n → Reads ℕ (number_at old.is_big w) old new n → Took ℕ (extended_read old.is_big w) old new x
extended_took w n x old new e h =
    let t = took_of ℕ (number_at old.is_big w) (number_read old.is_big w) old new n (number_law old.is_big w) h in
    took ℕ (extended_read old.is_big w) old new x (went ℕ (number_read old.is_big w) old new n t) (rw t.value (ap (λ (y : ℕ). Ok (y, left new)) (sym e)))

pub extended_not : (big : Bool) (w : ℕ) (bs : List ℕ) (e : ReadError) → number_read big w bs ≡ Err e → extended_read big w bs ≡ Err e
extended_not big w bs e h = rw h refl

pub signed_took : (z : ℤ) (x : ℕ) (old new : Reading) → x ≡ in_bits z → Reads ℤ sleb_at old new z → Took ℕ signed_read old new x
signed_took z x old new e h =
    let t = took_of ℤ sleb_at sleb_read old new z sleb_law h in
    took ℕ signed_read old new x (went ℤ sleb_read old new z t) (rw t.value (ap (λ (y : ℕ). Ok (y, left new)) (sym e)))

pub signed_not : (bs : List ℕ) (e : ReadError) → sleb_read bs ≡ Err e → signed_read bs ≡ Err e
signed_not bs e h = rw h refl

-- what a number leads to
module _ (size : ℕ) (encoding : DwEhPe) where
  pub pointer_no_data : (big : Bool) (place : ℕ) (bs : List ℕ) (e : ReadError) → data_read big size encoding bs ≡ Err e → pointer_read big size encoding place bs ≡ Err e
  unfolding pointer_read
  pointer_no_data big place bs e h = rw h refl

  module _ (n a : ℕ) (is : a ≡ bit_and encoding.0 0x70) (old new : Reading) (known : Took ℕ (data_read old.is_big size encoding) old new n) where
    application_is : application_of encoding.0 ≡ a
    application_is = sym (is ∙ application-and encoding.0)

    pub pointer_took : (x : ℕ) → led_to a old.place n ≡ Some x → Took ℕ (pointer_read old.is_big size encoding old.place) old new x
    unfolding pointer_read
    pointer_took x h = took ℕ (pointer_read old.is_big size encoding old.place) old new x (went ℕ (data_read old.is_big size encoding) old new n known) (rw (known.value, application_is, h) refl)

    pub pointer_lost : led_to a old.place n ≡ None → pointer_read old.is_big size encoding old.place (left old) ≡ Err (UnknownPointerEncoding encoding)
    unfolding pointer_read
    pointer_lost h = rw (known.value, application_is, h) refl

pub led_from_zero : (a place n : ℕ) → a ≡ from_zero → led_to a place n ≡ Some n
led_from_zero a place n h = rw h refl

pub led_from_place : (a place n x : ℕ) → a ≡ from_place → x ≡ (n + place) % 2 ^ 64 → led_to a place n ≡ Some x
led_from_place a place n x h e = rw h (ap (λ (y : ℕ). Some y) (sym e))

pub led_to_none : (a place n : ℕ) → (a ≡ from_zero → ⊥) → (a ≡ from_place → ⊥) → led_to a place n ≡ None
led_to_none a place n h k = rw (ne_eqb a from_zero h, ne_eqb a from_place k) refl
