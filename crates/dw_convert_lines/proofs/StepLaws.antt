-- What instructions make of the registers, by the parameters of a header.
use Rattle.std.proofs.Common.{◌≡◌, ◌∙◌, sym, ap, ℕ, zero, suc, ◌+◌, ◌-◌, ◌*◌, ◌/◌, ◌%◌, ◌^◌, ◌<◌, ◌≤◌, Bool, true, false, List, [], ◌∷◌, length, drop, get_or, Some, None, refl, arith, add-one, ℤ, pos, negsuc, ◌+ℤ◌}
use Rattle.std.specs.Prelude.{nat_lt, ◌&&◌}
use Rattle.std.proofs.lemmas.Bool.Decides.{nat_tests}
use Rattle.std.proofs.Math.Seq.{drop-cons}
use Rattle.dw_base.specs.Numbers.{◌>>=◌, when, high_first, low_first}
use Rattle.dw_base.specs.declared.common.LineEncoding.{LineEncoding}
use Rattle.dw_base.specs.LineMachine.{LineHeader, Registers, ConstAddPc, Special, put_line, changed}
use Rattle.dw_convert_lines.specs.ReadRows.{stepped}
use Rattle.dw_convert_lines.specs.RegisterSteps.{in_64_bits, IsTold}
use Rattle.dw_convert_lines.specs.RegisterViews.{narrowed, line_narrowed}

below : (a b : ℕ) → a < b → nat_lt a b ≡ true
below a b h = grind (arith, nat_tests)

not_below : (a b : ℕ) → b ≤ a → nat_lt a b ≡ false
not_below a b h = grind (arith, nat_tests)

is_below : (a b : ℕ) → nat_lt a b ≡ true → a < b
is_below a b h = grind (arith, nat_tests)

-- numbers of 64 bits, and others
pub narrow : (n : ℕ) → n < 2 ^ 64 → Some n ≡ in_64_bits n
narrow n h = sym (ap (λ (b : Bool). when b (Some n)) (below n (2 ^ 64) h))

pub wide : (n : ℕ) → 2 ^ 64 ≤ n → None ≡ in_64_bits n
wide n h = sym (ap (λ (b : Bool). when b (Some n)) (not_below n (2 ^ 64) h))

-- numbers of bytes grow with each byte
pub high_least : (n : ℕ) (bytes : List ℕ) → n ≤ high_first n bytes
high_least n [] = omega arith
high_least n (b ∷ bs) = omega (arith, high_least (n * 256 + b) bs)

pub high_next : (n i : ℕ) (bytes : List ℕ) → i < length bytes → high_first n (drop i bytes) ≡ high_first (n * 256 + get_or bytes i 0) (drop (i + 1) bytes)
high_next n i bytes h = let e : drop i bytes ≡ get_or bytes i 0 ∷ drop (suc i) bytes = drop-cons bytes i 0 h in rw (add-one, e) refl

pub low_next : (i : ℕ) (bytes : List ℕ) → i < length bytes → low_first (drop i bytes) ≡ get_or bytes i 0 + 256 * low_first (drop (i + 1) bytes)
low_next i bytes h = let e : drop i bytes ≡ get_or bytes i 0 ∷ drop (suc i) bytes = drop-cons bytes i 0 h in rw (add-one, e) refl

pub low_least : (i : ℕ) (bytes : List ℕ) → low_first (drop i bytes) ≤ low_first bytes
low_least zero bytes = omega arith
low_least (suc i) [] = omega arith
low_least (suc i) (b ∷ bs) = omega (arith, low_least i bs)

-- registers with a wide address stay wide
wide_none : (a : Bool) (r : Registers) → a ≡ false → when (a && nat_lt r.line (2 ^ 64)) (Some r) ≡ None
wide_none true r h = absurd (cc)
wide_none false r h = refl

wide_by : (m : Registers) (z : ℤ) → nat_lt m.address (2 ^ 64) ≡ false → (put_line m z >>= narrowed) ≡ None
wide_by m (pos n) h = wide_none (nat_lt m.address (2 ^ 64)) (record m { line = n }) h
wide_by m (negsuc n) h = refl

not_both : (a b : Bool) (r : Registers) → b ≡ true → when (a && b) (Some r) ≡ None → a ≡ false
not_both true true r h k = absurd (cc)
not_both true false r h k = absurd (cc)
not_both false b r h k = refl

is_address : (a b : Bool) (m x : Registers) → Some x ≡ when (a && b) (Some m) → x ≡ m
is_address true true m x h = cc
is_address true false m x h = absurd (cc)
is_address false b m x h = absurd (cc)

module _ (e : LineEncoding) (h : LineHeader) (t : IsTold e h) (r : Registers) where
  pub none_added : e.line_range ≡ 0 → None ≡ stepped h ConstAddPc r
  unfolding changed
  none_added z = let q : nat_lt 0 h.line_range ≡ false = not_below 0 h.line_range (omega (arith, t.line_range)) in rw q refl

  pub const_added : (opcodes operations : ℕ) → 0 < e.line_range → h.opcode_base ≡ opcodes → operations ≡ (255 - opcodes) / e.line_range → narrowed (record r { address = r.address + e.minimum_instruction_length * operations }) ≡ stepped h ConstAddPc r
  unfolding changed
  const_added opcodes operations z b o =
      let q : nat_lt 0 h.line_range ≡ true = below 0 h.line_range (omega (arith, t.line_range)) in
      rw (q, t.minimum_length, t.line_range, b, o) refl

  pub none_special : (n : ℕ) → e.line_range ≡ 0 → None ≡ stepped h (Special n) r
  unfolding changed
  none_special n z = let q : nat_lt 0 h.line_range ≡ false = not_below 0 h.line_range (omega (arith, t.line_range)) in rw q refl

  -- both the address and the line
  special_is : (n operations : ℕ) (lines : ℤ) → 0 < e.line_range → operations ≡ n / e.line_range → lines ≡ e.line_base +ℤ pos (n % e.line_range)
      → line_narrowed lines (record r { address = r.address + e.minimum_instruction_length * operations }) ≡ stepped h (Special n) r
  unfolding changed
  special_is n operations lines z o l =
      let q : nat_lt 0 h.line_range ≡ true = below 0 h.line_range (omega (arith, t.line_range)) in
      rw (q, t.minimum_length, t.line_range, t.line_base, o, l) refl

  pub special_wide : (n operations : ℕ) → 0 < e.line_range → operations ≡ n / e.line_range → r.line < 2 ^ 64
      → narrowed (record r { address = r.address + e.minimum_instruction_length * operations }) ≡ None → None ≡ stepped h (Special n) r
  special_wide n operations z o l w =
      let m : Registers = record r { address = r.address + e.minimum_instruction_length * operations } in
      let a : nat_lt m.address (2 ^ 64) ≡ false = not_both (nat_lt m.address (2 ^ 64)) (nat_lt m.line (2 ^ 64)) m (below r.line (2 ^ 64) l) w in
      sym (wide_by m (pos m.line +ℤ (e.line_base +ℤ pos (n % e.line_range))) a) ∙ special_is n operations (e.line_base +ℤ pos (n % e.line_range)) z o refl

  pub special_moved : (n operations : ℕ) (lines : ℤ) (m : Registers) → 0 < e.line_range → operations ≡ n / e.line_range → lines ≡ e.line_base +ℤ pos (n % e.line_range)
      → Some m ≡ narrowed (record r { address = r.address + e.minimum_instruction_length * operations }) → line_narrowed lines m ≡ stepped h (Special n) r
  special_moved n operations lines m z o l i =
      let k : Registers = record r { address = r.address + e.minimum_instruction_length * operations } in
      ap (line_narrowed lines) (is_address (nat_lt k.address (2 ^ 64)) (nat_lt k.line (2 ^ 64)) k m i) ∙ special_is n operations lines z o l
