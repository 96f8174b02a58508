-- LEB128 numbers at the front of bytes, read from the last group back; and the bytes before a zero.
use Rattle.std.proofs.Common.{◌≡◌, ◌∙◌, sym, ℕ, zero, suc, ◌+◌, ◌-◌, ◌*◌, ◌^◌, ◌<◌, ◌≤◌, List, [], ◌∷◌, length, take, drop, get_or, Some, None, Bool, true, false, Ok, Err, pos, negsuc, refl, arith, add-one, subst, nat_lt, nat_le, if◌then◌else◌, ap, ℤ}
use Rattle.std.proofs.Math.Seq.{drop-cons}
use Rattle.std.proofs.lemmas.Bool.{lt-ltb, le-ltb, leb-true, leb-false}
use mir.Val.{to_z, of_z}
use mir.Syntax.{w64}
use Rattle.std.proofs.lemmas.Int.{to_z-of_z}
use Rattle.dw_base.specs.Leb128.{groups_at, signed_seven, above_seven, signed_groups_at, fits_i64}
use Rattle.dw_base.specs.Numbers.{◌>>=◌}
use Rattle.dw_base.proofs.NumberLaws.{bind_parts}
use Rattle.dw_base.specs.Forms.{text_at}
use Rattle.dw_read.specs.Reasons.{uleb_read, sleb_read, digit, signed}
use Rattle.dw_read.specs.declared.error.ReadError.TheVariants.{UnexpectedEof, BadLeb128}

pub groups_none : (bs : List ℕ) → ((k : ℕ) → k < length bs → 128 ≤ get_or bs k 0) → groups_at bs ≡ None
unfolding groups_at
groups_none [] h = refl
groups_none (b ∷ bs) h = rw (le-ltb b 128 (h 0 (omega arith)), groups_none bs (λ k l. h (suc k) (omega arith))) refl

pub signed_groups_none : (bs : List ℕ) → ((k : ℕ) → k < length bs → 128 ≤ get_or bs k 0) → signed_groups_at bs ≡ None
unfolding signed_groups_at
signed_groups_none [] h = refl
signed_groups_none (b ∷ bs) h = rw (le-ltb b 128 (h 0 (omega arith)), signed_groups_none bs (λ k l. h (suc k) (omega arith))) refl

pub groups_last : (i : ℕ) (bs : List ℕ) → i < length bs → get_or bs i 0 < 128 → groups_at (drop i bs) ≡ Some (get_or bs i 0, drop (i + 1) bs)
unfolding groups_at
groups_last i bs h l = rw (add-one, drop-cons bs i 0, lt-ltb (get_or bs i 0) 128 l) refl

pub groups_step : (i m n : ℕ) (bs rest : List ℕ) → m ≡ i + 1 → i < length bs → 128 ≤ get_or bs i 0 → groups_at (drop m bs) ≡ Some (n, rest) → groups_at (drop i bs) ≡ Some (get_or bs i 0 - 128 + 128 * n, rest)
unfolding groups_at
groups_step i m n bs rest q h l e = let f : groups_at (drop (suc i) bs) ≡ Some (n, rest) = subst (λ k. groups_at (drop k bs) ≡ Some (n, rest)) (q ∙ add-one i) e in rw (drop-cons bs i 0, le-ltb (get_or bs i 0) 128 l, f) refl

-- what passes 64 bits does so with more groups before it
pub groups_big : (i n : ℕ) (bs rest : List ℕ) → i ≤ length bs → ((k : ℕ) → k < i → 128 ≤ get_or bs k 0) → groups_at (drop i bs) ≡ Some (n, rest) → 2 ^ 64 ≤ n
    → (x : ℕ × List ℕ) × (groups_at bs ≡ Some x) × (2 ^ 64 ≤ x.0)
groups_big zero n bs rest h l e b = ((n, rest), e, b)
groups_big (suc i) n bs rest h l e b =
    groups_big i (get_or bs i 0 - 128 + 128 * n) bs rest (omega arith) (λ k q. l k (omega arith))
    (groups_step i (suc i) n bs rest (sym (add-one i)) (omega arith) (l i (omega arith)) e) (omega arith)

pub uleb_is : (n : ℕ) (bs rest : List ℕ) → groups_at bs ≡ Some (n, rest) → n < 2 ^ 64 → uleb_read bs ≡ Ok (n, rest)
unfolding uleb_read
uleb_is n bs rest e h = rw (e, lt-ltb n (2 ^ 64) h) refl

pub uleb_end : (bs : List ℕ) → groups_at bs ≡ None → uleb_read bs ≡ Err UnexpectedEof
unfolding uleb_read
uleb_end bs e = rw e refl

uleb_bad : (bs : List ℕ) (x : ℕ × List ℕ) → groups_at bs ≡ Some x → 2 ^ 64 ≤ x.0 → uleb_read bs ≡ Err BadLeb128
unfolding uleb_read
uleb_bad bs x e h = rw (e, le-ltb x.0 (2 ^ 64) h) refl

pub uleb_big : (i n : ℕ) (bs rest : List ℕ) → i ≤ length bs → ((k : ℕ) → k < i → 128 ≤ get_or bs k 0) → groups_at (drop i bs) ≡ Some (n, rest) → 2 ^ 64 ≤ n → uleb_read bs ≡ Err BadLeb128
uleb_big i n bs rest h l e b = let g = groups_big i n bs rest h l e b in uleb_bad bs g.0 g.1 g.2

-- the last group of a signed number
seven_of : (b : ℕ) (is_negative : Bool) → is_negative ≡ nat_le 64 b → signed_seven b ≡ signed is_negative (digit is_negative b)
seven_of b true h = rw (le-ltb b 64 (leb-true 64 b (sym h))) refl
seven_of b false h = rw (lt-ltb b 64 (leb-false 64 b (sym h))) refl

pub digit_small : (is_negative : Bool) (seven : ℕ) → seven < 128 → digit is_negative seven < 128
digit_small true seven h = omega arith
digit_small false seven h = h

above_signed : (is_negative : Bool) (low n : ℕ) → above_seven low (signed is_negative n) ≡ signed is_negative (128 * n + digit is_negative low)
above_signed true low n = refl
above_signed false low n = refl

pub signed_last : (i : ℕ) (bs : List ℕ) (is_negative : Bool) → i < length bs → get_or bs i 0 < 128 → is_negative ≡ nat_le 64 (get_or bs i 0)
    → signed_groups_at (drop i bs) ≡ Some (signed is_negative (digit is_negative (get_or bs i 0)), drop (i + 1) bs)
unfolding signed_groups_at
signed_last i bs is_negative h l q = rw (add-one, drop-cons bs i 0, lt-ltb (get_or bs i 0) 128 l, seven_of (get_or bs i 0) is_negative q) refl

pub signed_step : (i m n : ℕ) (is_negative : Bool) (bs rest : List ℕ) → m ≡ i + 1 → i < length bs → 128 ≤ get_or bs i 0 → signed_groups_at (drop m bs) ≡ Some (signed is_negative n, rest)
    → signed_groups_at (drop i bs) ≡ Some (signed is_negative (128 * n + digit is_negative (get_or bs i 0 - 128)), rest)
unfolding signed_groups_at
signed_step i m n is_negative bs rest q h l e =
    let f : signed_groups_at (drop (suc i) bs) ≡ Some (signed is_negative n, rest) = subst (λ k. signed_groups_at (drop k bs) ≡ Some (signed is_negative n, rest)) (q ∙ add-one i) e in
    rw (drop-cons bs i 0, le-ltb (get_or bs i 0) 128 l, f, above_signed is_negative (get_or bs i 0 - 128) n) refl

signed_big : (i n : ℕ) (is_negative : Bool) (bs rest : List ℕ) → i ≤ length bs → ((k : ℕ) → k < i → 128 ≤ get_or bs k 0) → signed_groups_at (drop i bs) ≡ Some (signed is_negative n, rest) → 2 ^ 63 ≤ n
    → (m : ℕ) × (signed_groups_at bs ≡ Some (signed is_negative m, rest)) × (2 ^ 63 ≤ m)
signed_big zero n is_negative bs rest h l e b = (n, e, b)
signed_big (suc i) n is_negative bs rest h l e b =
    signed_big i (128 * n + digit is_negative (get_or bs i 0 - 128)) is_negative bs rest (omega arith) (λ k q. l k (omega arith))
    (signed_step i (suc i) n is_negative bs rest (sym (add-one i)) (omega arith) (l i (omega arith)) e) (omega arith)

pub fits_signed : (is_negative : Bool) (n : ℕ) → fits_i64 (signed is_negative n) ≡ nat_lt n (2 ^ 63)
fits_signed true n = refl
fits_signed false n = refl

-- the bits of such a number are read as it again
pub signed_stays : (is_negative : Bool) (n : ℕ) → n < 2 ^ 63 → to_z w64 (of_z w64 (signed is_negative n)) ≡ signed is_negative n
signed_stays true n h = to_z-of_z w64 (negsuc n) (omega arith)
signed_stays false n h = to_z-of_z w64 (pos n) (omega arith)

pub sleb_is : (is_negative : Bool) (n : ℕ) (bs rest : List ℕ) → signed_groups_at bs ≡ Some (signed is_negative n, rest) → n < 2 ^ 63 → sleb_read bs ≡ Ok (signed is_negative n, rest)
unfolding sleb_read
sleb_is is_negative n bs rest e h = rw (e, fits_signed is_negative n, lt-ltb n (2 ^ 63) h) refl

pub sleb_end : (bs : List ℕ) → signed_groups_at bs ≡ None → sleb_read bs ≡ Err UnexpectedEof
unfolding sleb_read
sleb_end bs e = rw e refl

sleb_bad : (is_negative : Bool) (n : ℕ) (bs rest : List ℕ) → signed_groups_at bs ≡ Some (signed is_negative n, rest) → 2 ^ 63 ≤ n → sleb_read bs ≡ Err BadLeb128
unfolding sleb_read
sleb_bad is_negative n bs rest e h = rw (e, fits_signed is_negative n, le-ltb n (2 ^ 63) h) refl

pub sleb_big : (i n : ℕ) (is_negative : Bool) (bs rest : List ℕ) → i ≤ length bs → ((k : ℕ) → k < i → 128 ≤ get_or bs k 0) → signed_groups_at (drop i bs) ≡ Some (signed is_negative n, rest) → 2 ^ 63 ≤ n → sleb_read bs ≡ Err BadLeb128
sleb_big i n is_negative bs rest h l e b = let g = signed_big i n is_negative bs rest h l e b in sleb_bad is_negative g.0 bs rest g.1 g.2

-- the bytes before the first zero
pub text_none : (bs : List ℕ) → ((k : ℕ) → k < length bs → 0 < get_or bs k 0) → text_at bs ≡ None
unfolding text_at
text_none [] h = refl
text_none (zero ∷ bs) h = absurd (let z : 0 < 0 = h 0 (omega arith) in omega arith)
text_none (suc b ∷ bs) h = rw (text_none bs (λ k l. h (suc k) (omega arith))) refl

pub text_found : (n : ℕ) (bs : List ℕ) → n < length bs → get_or bs n 0 ≡ 0 → ((k : ℕ) → k < n → 0 < get_or bs k 0) → text_at bs ≡ Some (take n bs, drop (suc n) bs)
unfolding text_at
text_found n [] l z h = absurd (omega arith)
text_found zero (zero ∷ bs) l z h = refl
text_found zero (suc b ∷ bs) l z h = absurd (omega arith)
text_found (suc n) (zero ∷ bs) l z h = absurd (let q : 0 < 0 = h 0 (omega arith) in omega arith)
text_found (suc n) (suc b ∷ bs) l z h = rw (text_found n bs (omega arith) z (λ k q. h (suc k) (omega arith))) refl

-- a number takes a byte at least
first_shorter : (t : Bool) (b : ℕ) (bs : List ℕ) (x : ℕ × List ℕ) → ((y : ℕ × List ℕ) → groups_at bs ≡ Some y → length y.1 < length bs)
    → (if t then Some (b, bs) else (groups_at bs >>= λ y. Some (b - 128 + 128 * y.0, y.1))) ≡ Some x → length x.1 < suc (length bs)
first_shorter true b bs x h e = let r : (b, bs) ≡ x = cc in
    let q : bs ≡ x.1 = ap (λ (y : ℕ × List ℕ). y.1) r in omega (arith, ap length q)
first_shorter false b bs x h e =
    let p = bind_parts (groups_at bs) (λ (y : ℕ × List ℕ). Some (b - 128 + 128 * y.0, y.1)) x e in
    let f : Some (b - 128 + 128 * p.0.0, p.0.1) ≡ Some x = p.2 in
    let r : (b - 128 + 128 * p.0.0, p.0.1) ≡ x = cc f in
    let q : p.0.1 ≡ x.1 = ap (λ (y : ℕ × List ℕ). y.1) r in
    omega (arith, ap length q, h p.0 p.1)

pub groups_shorter : (bs : List ℕ) (x : ℕ × List ℕ) → groups_at bs ≡ Some x → length x.1 < length bs
unfolding groups_at
groups_shorter [] x e = cc
groups_shorter (b ∷ bs) x e = first_shorter (nat_lt b 128) b bs x (groups_shorter bs) e

signed_first_shorter : (t : Bool) (b : ℕ) (bs : List ℕ) (x : ℤ × List ℕ) → ((y : ℤ × List ℕ) → signed_groups_at bs ≡ Some y → length y.1 < length bs)
    → (if t then Some (signed_seven b, bs) else (signed_groups_at bs >>= λ y. Some (above_seven (b - 128) y.0, y.1))) ≡ Some x → length x.1 < suc (length bs)
signed_first_shorter true b bs x h e = let r : (signed_seven b, bs) ≡ x = cc in
    let q : bs ≡ x.1 = ap (λ (y : ℤ × List ℕ). y.1) r in omega (arith, ap length q)
signed_first_shorter false b bs x h e =
    let p = bind_parts (signed_groups_at bs) (λ (y : ℤ × List ℕ). Some (above_seven (b - 128) y.0, y.1)) x e in
    let f : Some (above_seven (b - 128) p.0.0, p.0.1) ≡ Some x = p.2 in
    let r : (above_seven (b - 128) p.0.0, p.0.1) ≡ x = cc f in
    let q : p.0.1 ≡ x.1 = ap (λ (y : ℤ × List ℕ). y.1) r in
    omega (arith, ap length q, h p.0 p.1)

pub signed_groups_shorter : (bs : List ℕ) (x : ℤ × List ℕ) → signed_groups_at bs ≡ Some x → length x.1 < length bs
unfolding signed_groups_at
signed_groups_shorter [] x e = cc
signed_groups_shorter (b ∷ bs) x e = signed_first_shorter (nat_lt b 128) b bs x (signed_groups_shorter bs) e
