-- Pointers that are written are read again.
use Rattle.std.specs.Prelude.{◌≡◌, ℕ, suc, zero, ◌+◌, ◌-◌, ◌*◌, ◌/◌, ◌%◌, ◌^◌, ◌<◌, ◌==◌, ◌&&◌, Bool, true, false, nat_lt, List, ◌++◌, Option, Some, None, ℤ, pos, negsuc, refl, IsTrue, if◌then◌else◌}
use Rattle.std.proofs.Common.{sym, ◌∙◌, ap, subst, arith}
use Rattle.std.proofs.Math.Nat.{add-mod-mod, mod-add-div, add-mul-mod_self_left, mod-eq_of_lt, mod-lt, pow-succ'}
use Rattle.std.proofs.lemmas.Bool.{and_parts, le-ltb, ltb-true}
use Rattle.std.proofs.lemmas.Bool.Decides.{nat_tests}
use Rattle.dw_base.specs.Numbers.{◌>>=◌, num, number_at, is_width, fits}
use Rattle.dw_base.specs.Leb128.{uleb, sleb, uleb_at, sleb_at, fits_i64}
use Rattle.dw_base.specs.Pointers.{format_of, application_of, from_zero, from_place, signed_of, distance}
use Rattle.dw_base.proofs.NumberLaws.{number-again, number-fits-again, pow_of_bytes}
use Rattle.dw_base.proofs.Leb128Laws.{uleb-again, sleb-again}
use Rattle.dw_writer.specs.Texts.{Text, num_text}
use Rattle.dw_writer.specs.SignedNumbers.{signed_fits, twos_complement, signed_num}
use Rattle.dw_writer.specs.Pointers.{layout_by, laid_out, data_text, constant_pointer, signed_text}
use Rattle.dw_writer.specs.declared.pointer.PointerLayout.{PointerLayout}
use Rattle.dw_writer.specs.declared.pointer.PointerLayout.TheVariants.{Uleb128, Sleb128, Unsigned, Signed}
use Rattle.dw_frame.specs.ReadPointers.{extended, in_bits, laid_at, data_at, with_rest, pointer_at}

signed_bits : (n : ℕ) → n < 2 ^ 64 → in_bits (signed_of n) ≡ n
signed_bits n h = by_test (nat_lt n (2 ^ 63)) h
  where
    by_test : (b : Bool) → n < 2 ^ 64 → in_bits (if b then pos n else negsuc (2 ^ 64 - suc n)) ≡ n
    by_test true h = refl
    by_test false h = omega (arith, h)

signed_64 : (n : ℕ) → n < 2 ^ 64 → IsTrue (fits_i64 (signed_of n))
signed_64 n h = grind (arith, nat_tests)

some_if : (b : Bool) (ys xs : List ℕ) → ◌≡◌ {A = Text} (if b then Some ys else None) (Some xs) → IsTrue b × (ys ≡ xs)
some_if true ys xs e = (refl, cc)
some_if false ys xs e = cc

wide : (w : ℕ) → IsTrue (is_width w) → 2 ^ (8 * w) ≡ 2 * 2 ^ (8 * w - 1)
wide zero h = absurd (let k : IsTrue false = h in cc)
wide (suc w) h =
    let more : 8 * suc w ≡ suc (8 * suc w - 1) = omega arith in
    ap (λ k. 2 ^ k) more ∙ pow-succ' 2 (8 * suc w - 1)

low_again : (w n p : ℕ) → 2 ^ (8 * w - 1) ≡ p → IsTrue (nat_lt n p) → extended w n ≡ n
low_again w n p e h = ap (λ b. if b then n else n + 2 ^ 64 - 2 ^ (8 * w)) (subst (λ q. IsTrue (nat_lt n q)) (sym e) h)

high_again : (w k p : ℕ) → 2 ^ (8 * w - 1) ≡ p → 2 ^ (8 * w) ≡ 2 * p → IsTrue (nat_lt k p) → extended w (2 ^ (8 * w) - suc k) ≡ 2 ^ 64 - suc k
high_again w k p e f h =
    let below : k < p = ltb-true k p h in
    let m = 2 ^ (8 * w) - suc k in
    let high : nat_lt m (2 ^ (8 * w - 1)) ≡ false = le-ltb m (2 ^ (8 * w - 1)) (omega (arith, below, e, f)) in
    ap (λ b. if b then m else m + 2 ^ 64 - 2 ^ (8 * w)) high ∙ omega (arith, below, e, f)

signed_again : (w : ℕ) (z : ℤ) → IsTrue (is_width w) → IsTrue (signed_fits w z) → extended w (twos_complement w z) ≡ in_bits z
signed_again w (pos n) h f = low_again w n (2 ^ (8 * w - 1)) refl f
signed_again w (negsuc k) h f = high_again w k (2 ^ (8 * w - 1)) refl (wide w h) f

complement_fits : (w : ℕ) (z : ℤ) → IsTrue (is_width w) → IsTrue (signed_fits w z) → twos_complement w z < 2 ^ (8 * w)
complement_fits w (pos n) h f = let below = ltb-true n (2 ^ (8 * w - 1)) f in omega (arith, below, wide w h)
complement_fits w (negsuc k) h f = let below = ltb-true k (2 ^ (8 * w - 1)) f in omega (arith, below, wide w h)

laid-again : (big : Bool) (layout : PointerLayout) (n : ℕ) (xs rest : List ℕ) → n < 2 ^ 64 → laid_out big layout n ≡ Some xs → laid_at big layout (xs ++ rest) ≡ Some (n, rest)
unfolding num_text signed_text signed_num
laid-again big Uleb128 n xs rest h e = let k : uleb n ≡ xs = cc in ap (λ ys. uleb_at (ys ++ rest)) (sym k) ∙ uleb-again n rest h
laid-again big Sleb128 n xs rest h e =
    let k : sleb (signed_of n) ≡ xs = cc in
    ap (λ o. o >>= λ x. Some (in_bits x.0, x.1)) (ap (λ ys. sleb_at (ys ++ rest)) (sym k) ∙ sleb-again (signed_of n) rest (signed_64 n h))
    ∙ ap (λ m. Some (m, rest)) (signed_bits n h)
laid-again big (Unsigned w) n xs rest h e =
    let p = some_if (is_width w && fits w n) (num big w n) xs e in
    ap (λ ys. number_at big w (ys ++ rest)) (sym p.1) ∙ number-fits-again big w n rest (and_parts (is_width w) (fits w n) p.0).1
laid-again big (Signed w) n xs rest h e =
    let z = signed_of n in
    let p = some_if (is_width w && signed_fits w z) (num big w (twos_complement w z)) xs e in
    let q = and_parts (is_width w) (signed_fits w z) p.0 in
    let small : twos_complement w z < 256 ^ w = subst (λ m. twos_complement w z < m) (pow_of_bytes w) (complement_fits w z q.0 q.1) in
    ap (λ o. o >>= λ x. Some (extended w x.0, x.1)) (ap (λ ys. number_at big w (ys ++ rest)) (sym p.1) ∙ number-again big w (twos_complement w z) rest small)
    ∙ ap (λ m. Some (m, rest)) (signed_again w z q.0 q.1 ∙ signed_bits n h)

bound_again : (big : Bool) (layout : Option PointerLayout) (n : ℕ) (xs rest : List ℕ) → n < 2 ^ 64 → (layout >>= λ f. laid_out big f n) ≡ Some xs →
    (layout >>= λ f. laid_at big f (xs ++ rest)) ≡ Some (n, rest)
bound_again big None n xs rest h e = cc
bound_again big (Some f) n xs rest h e = laid-again big f n xs rest h e

pub data-again : (big : Bool) (size format n : ℕ) (xs rest : List ℕ) → n < 2 ^ 64 → data_text big size format n ≡ Some xs → data_at big size format (xs ++ rest) ≡ Some (n, rest)
unfolding data_text data_at
data-again big size format n xs rest h e = bound_again big (layout_by size format) n xs rest h e

distance_small : (place n : ℕ) → distance place n < 2 ^ 64
distance_small place n = mod-lt (n + (2 ^ 64 - place % 2 ^ 64)) (omega arith)

-- a place and the distance from it come to the address
there_again : (place n : ℕ) → n < 2 ^ 64 → (place + distance place n) % 2 ^ 64 ≡ n
there_again place n h =
    let m = 2 ^ 64 in
    let past : place % m < m = mod-lt place (omega arith) in
    let split : place % m + m * (place / m) ≡ place = mod-add-div place m in
    let whole : place + (n + (m - place % m)) ≡ n + m * (1 + place / m) = omega (arith, past, split) in
    add-mod-mod place (n + (m - place % m)) m ∙ ap (λ k. k % m) whole ∙ add-mul-mod_self_left n m (1 + place / m) ∙ mod-eq_of_lt h

led_again : (zero_test place_test : Bool) (big : Bool) (size encoding place n : ℕ) (xs rest : List ℕ) → n < 2 ^ 64 →
    ((if zero_test then Some n else (if place_test then Some (distance place n) else None)) >>= data_text big size (format_of encoding)) ≡ Some xs →
    (data_at big size (format_of encoding) (xs ++ rest) >>= λ x. with_rest x.1 (if zero_test then Some x.0 else (if place_test then Some ((place + x.0) % 2 ^ 64) else None))) ≡ Some (n, rest)
led_again true place_test big size encoding place n xs rest h e =
    ap (λ o. o >>= λ x. Some (x.0, x.1)) (data-again big size (format_of encoding) n xs rest h e)
led_again false true big size encoding place n xs rest h e =
    ap (λ o. o >>= λ x. Some ((place + x.0) % 2 ^ 64, x.1)) (data-again big size (format_of encoding) (distance place n) xs rest (distance_small place n) e)
    ∙ ap (λ k. Some (k, rest)) (there_again place n h)
led_again false false big size encoding place n xs rest h e = cc

pub pointer-again : (big : Bool) (size encoding place n : ℕ) (xs rest : List ℕ) → n < 2 ^ 64 → constant_pointer big size encoding place n ≡ Some xs → pointer_at big size encoding place (xs ++ rest) ≡ Some (n, rest)
unfolding constant_pointer pointer_at
pointer-again big size encoding place n xs rest h e = led_again (application_of encoding == from_zero) (application_of encoding == from_place) big size encoding place n xs rest h e
