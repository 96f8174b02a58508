-- A LEB128 number that is spelled is read again, whatever follows it, and no other bytes that are read as it are fewer.
use Rattle.std.proofs.Common.{◌≡◌, ◌∙◌, sym, ap, subst, ℕ, zero, suc, ◌+◌, ◌-◌, ◌*◌, ◌/◌, ◌%◌, ◌^◌, ◌<◌, ◌≤◌, Bool, true, false, List, [], ◌∷◌, ◌++◌, length, Some, ℤ, pos, negsuc, refl, arith, IsTrue, All, nat_lt, if◌then◌else◌, pow-suc, ⊎_elim}
use Rattle.std.proofs.Math.Nat.{one-le-pow}
use Rattle.std.proofs.lemmas.Nat.{div_below}
use Rattle.std.proofs.lemmas.Bool.{lt-ltb, le-ltb, ltb-true, ltb-false, cases_lt, cond_both}
use Rattle.std.proofs.lemmas.List.Elements.{All-head, All-tail}
use Rattle.std.proofs.lemmas.Option.{none-some, some_pair_parts}
use Rattle.dw_base.specs.Numbers.{◌>>=◌, when}
use Rattle.dw_base.specs.Leb128.{groups_at, uleb_at, uleb16_at, signed_seven, above_seven, signed_groups_at, fits_i64, sleb_at, uleb_groups, uleb, low_seven, without_seven, fits_seven, sleb_groups, sleb}
use Rattle.dw_base.proofs.NumberLaws.{bind_is, bind_parts, when_same}

groups_last : (b : ℕ) (bs : List ℕ) → nat_lt b 128 ≡ true → groups_at (b ∷ bs) ≡ Some (b, bs)
unfolding groups_at
groups_last b bs e = rw (e, groups_at) refl

groups_more : (b : ℕ) (bs : List ℕ) → nat_lt b 128 ≡ false → groups_at (b ∷ bs) ≡ (groups_at bs >>= λ x. Some (b - 128 + 128 * x.0, x.1))
unfolding groups_at
groups_more b bs e = rw (e, groups_at) refl

uleb_last : (k n : ℕ) → nat_lt n 128 ≡ true → uleb_groups (suc k) n ≡ n ∷ []
unfolding uleb_groups
uleb_last k n e = rw (e, uleb_groups) refl

uleb_more : (k n : ℕ) → nat_lt n 128 ≡ false → uleb_groups (suc k) n ≡ (128 + n % 128) ∷ uleb_groups k (n / 128)
unfolding uleb_groups
uleb_more k n e = rw (e, uleb_groups) refl

groups-again : (k n : ℕ) (rest : List ℕ) → n < 128 ^ suc k → groups_at (uleb_groups k n ++ rest) ≡ Some (n, rest)
unfolding uleb_groups
groups-again zero n rest h = groups_last n rest (lt-ltb _ _ (omega arith))
groups-again (suc k) n rest h =
    ⊎_elim
    (λ lt. ap (λ bs. groups_at (bs ++ rest)) (uleb_last k n (lt-ltb _ _ lt)) ∙ groups_last n rest (lt-ltb _ _ lt))
    (λ le.
    let small : n / 128 < 128 ^ suc k = div_below n 128 (128 ^ suc k) (omega arith) (subst (λ x. n < x) (pow-suc 128 (suc k)) h) in
    let again : groups_at (uleb_groups k (n / 128) ++ rest) ≡ Some (n / 128, rest) = groups-again k (n / 128) rest small in
    let value : 128 + n % 128 - 128 + 128 * (n / 128) ≡ n = omega arith in
    ap (λ bs. groups_at (bs ++ rest)) (uleb_more k n (le-ltb _ _ le))
    ∙ groups_more (128 + n % 128) (uleb_groups k (n / 128) ++ rest) (le-ltb _ _ (omega arith))
    ∙ bind_is _ (n / 128, rest) (λ x. Some (128 + n % 128 - 128 + 128 * x.0, x.1)) again
    ∙ ap (λ x. Some (x, rest)) value)
    (cases_lt n 128)

pub uleb-again : (n : ℕ) (rest : List ℕ) → n < 2 ^ 64 → uleb_at (uleb n ++ rest) ≡ Some (n, rest)
unfolding uleb_at uleb
uleb-again n rest h =
    bind_is _ (n, rest) (λ x. when (nat_lt x.0 (2 ^ 64)) (Some x)) (groups-again 9 n rest (omega arith))
    ∙ ap (λ b. when b (Some (n, rest))) (lt-ltb _ _ h)

-- a number of 16 bits
pub uleb16-again : (n : ℕ) (rest : List ℕ) → n < 2 ^ 16 → uleb16_at (uleb n ++ rest) ≡ Some (n, rest)
unfolding uleb16_at
uleb16-again n rest h =
    bind_is _ (n, rest) (λ x. when (nat_lt x.0 (2 ^ 16)) (Some x)) (uleb-again n rest (omega (arith, h)))
    ∙ ap (λ b. when b (Some (n, rest))) (lt-ltb _ _ h)

uleb_groups_long : (k n : ℕ) → (0 < length (uleb_groups k n)) × (length (uleb_groups k n) ≤ suc k)
unfolding uleb_groups
uleb_groups_long zero n = (omega arith, omega arith)
uleb_groups_long (suc k) n =
    ⊎_elim
    (λ lt. subst (λ (bs : List ℕ). (0 < length bs) × (length bs ≤ suc (suc k))) (sym (uleb_last k n (lt-ltb _ _ lt))) (omega arith, omega arith))
    (λ le.
    let more = uleb_groups_long k (n / 128) in
    subst (λ (bs : List ℕ). (0 < length bs) × (length bs ≤ suc (suc k))) (sym (uleb_more k n (le-ltb _ _ le))) (omega arith, omega (arith, more.1)))
    (cases_lt n 128)

pub uleb_long : (n : ℕ) → 0 < length (uleb n)
unfolding uleb
uleb_long n = (uleb_groups_long 9 n).0

pub uleb_short : (n : ℕ) → length (uleb n) ≤ 10
unfolding uleb
uleb_short n = (uleb_groups_long 9 n).1

-- so many groups hold so many numbers
groups_below : (bytes : List ℕ) (n : ℕ) → All (λ b. b < 256) bytes → groups_at bytes ≡ Some (n, []) → n < 128 ^ length bytes
unfolding groups_at
groups_below [] n each read = absurd (none-some _ read)
groups_below (b ∷ bs) n each read =
    ⊎_elim
    (λ lt.
    let same = some_pair_parts b n bs [] (sym (groups_last b bs (lt-ltb _ _ lt)) ∙ read) in
    subst (λ (xs : List ℕ). n < 128 ^ suc (length xs)) (sym same.1) (omega (arith, same.0)))
    (λ le.
    let more = bind_parts (groups_at bs) (λ x. Some (b - 128 + 128 * x.0, x.1)) (n, []) (sym (groups_more b bs (le-ltb _ _ le)) ∙ read) in
    let same = some_pair_parts (b - 128 + 128 * more.0.0) n more.0.1 [] more.2 in
    let below : more.0.0 < 128 ^ length bs = groups_below bs more.0.0 (All-tail (λ b. b < 256) b bs each) (more.1 ∙ ap (λ rest. Some (more.0.0, rest)) same.1) in
    omega (arith, same.0, below, All-head (λ b. b < 256) b bs each, pow-suc 128 (length bs)))
    (cases_lt b 128)

-- a number is spelled in no more groups than hold it
uleb_groups_within : (k n m : ℕ) → n < 128 ^ suc m → length (uleb_groups k n) ≤ suc m
unfolding uleb_groups
uleb_groups_within zero n m h = omega arith
uleb_groups_within (suc k) n zero h =
    subst (λ (bs : List ℕ). length bs ≤ 1) (sym (uleb_last k n (lt-ltb _ _ (omega arith)))) (omega arith)
uleb_groups_within (suc k) n (suc m) h =
    ⊎_elim
    (λ lt. subst (λ (bs : List ℕ). length bs ≤ suc (suc m)) (sym (uleb_last k n (lt-ltb _ _ lt))) (omega arith))
    (λ le.
    let small : n / 128 < 128 ^ suc m = div_below n 128 (128 ^ suc m) (omega arith) (subst (λ x. n < x) (pow-suc 128 (suc m)) h) in
    subst (λ (bs : List ℕ). length bs ≤ suc (suc m)) (sym (uleb_more k n (le-ltb _ _ le))) (omega (arith, uleb_groups_within k (n / 128) m small)))
    (cases_lt n 128)

uleb_at-groups : (bytes rest : List ℕ) (n : ℕ) → uleb_at bytes ≡ Some (n, rest) → groups_at bytes ≡ Some (n, rest)
unfolding uleb_at
uleb_at-groups bytes rest n read =
    let groups = bind_parts (groups_at bytes) (λ x. when (nat_lt x.0 (2 ^ 64)) (Some x)) (n, rest) read in
    groups.1 ∙ when_same (nat_lt groups.0.0 (2 ^ 64)) (Some groups.0) (n, rest) groups.2

-- no bytes that are read to their end as a number are fewer than those that spell it
pub uleb-shortest : (n : ℕ) (bytes : List ℕ) → All (λ b. b < 256) bytes → uleb_at bytes ≡ Some (n, []) → length (uleb n) ≤ length bytes
unfolding uleb groups_at
uleb-shortest n [] each read = absurd (none-some _ (uleb_at-groups [] [] n read))
uleb-shortest n (b ∷ bs) each read =
    uleb_groups_within 9 n (length bs) (groups_below (b ∷ bs) n each (uleb_at-groups (b ∷ bs) [] n read))

signed_last : (b : ℕ) (bs : List ℕ) → nat_lt b 128 ≡ true → signed_groups_at (b ∷ bs) ≡ Some (signed_seven b, bs)
unfolding signed_groups_at
signed_last b bs e = rw (e, signed_groups_at) refl

signed_more : (b : ℕ) (bs : List ℕ) → nat_lt b 128 ≡ false → signed_groups_at (b ∷ bs) ≡ (signed_groups_at bs >>= λ x. Some (above_seven (b - 128) x.0, x.1))
unfolding signed_groups_at
signed_more b bs e = rw (e, signed_groups_at) refl

sleb_last : (k : ℕ) (z : ℤ) → fits_seven z ≡ true → sleb_groups (suc k) z ≡ low_seven z ∷ []
unfolding sleb_groups
sleb_last k z e = rw (e, sleb_groups) refl

sleb_more : (k : ℕ) (z : ℤ) → fits_seven z ≡ false → sleb_groups (suc k) z ≡ (128 + low_seven z) ∷ sleb_groups k (without_seven z)
unfolding sleb_groups
sleb_more k z e = rw (e, sleb_groups) refl

-- how far a number is from the sign's side of nought
abbrev size_of : ℤ → ℕ
size_of (pos n) = n
size_of (negsuc n) = n

low_seven_lt : (z : ℤ) → low_seven z < 128
low_seven_lt (pos n) = omega arith
low_seven_lt (negsuc n) = omega arith

signed_seven-low_seven : (z : ℤ) → size_of z < 64 → signed_seven (low_seven z) ≡ z
signed_seven-low_seven (pos n) h =
    let e : n % 128 ≡ n = omega arith in
    ap signed_seven e ∙ ap (λ (b : Bool). if b then pos n else negsuc (127 - n)) (lt-ltb n 64 h)
signed_seven-low_seven (negsuc n) h =
    let e : 127 - n % 128 ≡ 127 - n = omega arith in
    ap signed_seven e
    ∙ ap (λ (b : Bool). if b then pos (127 - n) else negsuc (127 - (127 - n))) (le-ltb (127 - n) 64 (omega arith))
    ∙ ap negsuc (omega arith)

above_seven-low_seven : (z : ℤ) → above_seven (128 + low_seven z - 128) (without_seven z) ≡ z
above_seven-low_seven (pos n) = ap pos (omega arith)
above_seven-low_seven (negsuc n) = ap negsuc (omega arith)

-- the last group of a number that seven bits hold
seven-again : (z : ℤ) (rest : List ℕ) → size_of z < 64 → signed_groups_at (low_seven z ∷ rest) ≡ Some (z, rest)
seven-again z rest h =
    signed_last (low_seven z) rest (lt-ltb _ _ (low_seven_lt z)) ∙ ap (λ x. Some (x, rest)) (signed_seven-low_seven z h)

fits_seven_is : (z : ℤ) → fits_seven z ≡ nat_lt (size_of z) 64
fits_seven_is (pos n) = refl
fits_seven_is (negsuc n) = refl

without_seven_below : (z : ℤ) (m : ℕ) → size_of z < m * 128 → size_of (without_seven z) < m
without_seven_below (pos n) m h = div_below n 128 m (omega arith) h
without_seven_below (negsuc n) m h = div_below n 128 m (omega arith) h

signed-again : (k : ℕ) (z : ℤ) (rest : List ℕ) → size_of z < 64 * 128 ^ k → signed_groups_at (sleb_groups k z ++ rest) ≡ Some (z, rest)
unfolding sleb_groups
signed-again zero z rest h = seven-again z rest (omega arith)
signed-again (suc k) z rest h =
    ⊎_elim
    (λ lt. ap (λ bs. signed_groups_at (bs ++ rest)) (sleb_last k z (fits_seven_is z ∙ lt-ltb _ _ lt)) ∙ seven-again z rest lt)
    (λ le.
    let small : size_of (without_seven z) < 64 * 128 ^ k = without_seven_below z (64 * 128 ^ k) (omega (arith, pow-suc 128 k)) in
    ap (λ bs. signed_groups_at (bs ++ rest)) (sleb_more k z (fits_seven_is z ∙ le-ltb _ _ le))
    ∙ signed_more (128 + low_seven z) (sleb_groups k (without_seven z) ++ rest) (le-ltb _ _ (omega arith))
    ∙ bind_is _ (without_seven z, rest) (λ x. Some (above_seven (128 + low_seven z - 128) x.0, x.1)) (signed-again k (without_seven z) rest small)
    ∙ ap (λ x. Some (x, rest)) (above_seven-low_seven z))
    (cases_lt (size_of z) 64)

size_of_lt : (z : ℤ) → IsTrue (fits_i64 z) → size_of z < 2 ^ 63
size_of_lt (pos n) h = ltb-true _ _ h
size_of_lt (negsuc n) h = ltb-true _ _ h

pub sleb-again : (z : ℤ) (rest : List ℕ) → IsTrue (fits_i64 z) → sleb_at (sleb z ++ rest) ≡ Some (z, rest)
unfolding sleb_at sleb
sleb-again z rest h =
    let small = size_of_lt z h in
    bind_is _ (z, rest) (λ x. when (fits_i64 x.0) (Some x)) (signed-again 9 z rest (omega (arith, small)))
    ∙ ap (λ b. when b (Some (z, rest))) h

sleb_groups_long : (k : ℕ) (z : ℤ) → (0 < length (sleb_groups k z)) × (length (sleb_groups k z) ≤ suc k)
unfolding sleb_groups
sleb_groups_long zero z = (omega arith, omega arith)
sleb_groups_long (suc k) z =
    ⊎_elim
    (λ lt. subst (λ (bs : List ℕ). (0 < length bs) × (length bs ≤ suc (suc k))) (sym (sleb_last k z (fits_seven_is z ∙ lt-ltb _ _ lt))) (omega arith, omega arith))
    (λ le.
    let more = sleb_groups_long k (without_seven z) in
    subst (λ (bs : List ℕ). (0 < length bs) × (length bs ≤ suc (suc k))) (sym (sleb_more k z (fits_seven_is z ∙ le-ltb _ _ le))) (omega arith, omega (arith, more.1)))
    (cases_lt (size_of z) 64)

pub sleb_long : (z : ℤ) → 0 < length (sleb z)
unfolding sleb
sleb_long z = (sleb_groups_long 9 z).0

pub sleb_short : (z : ℤ) → length (sleb z) ≤ 10
unfolding sleb
sleb_short z = (sleb_groups_long 9 z).1

signed_seven_small : (b : ℕ) → b < 128 → size_of (signed_seven b) < 64
signed_seven_small b h =
    cond_both (nat_lt b 64) (pos b) (negsuc (127 - b)) (λ z. size_of z < 64) (λ t. ltb-true _ _ t) (λ f. omega (arith, ltb-false b 64 f))

above_seven_small : (low m : ℕ) (z : ℤ) → low < 128 → size_of z < m → size_of (above_seven low z) < m * 128
above_seven_small low m (pos n) h small = omega arith
above_seven_small low m (negsuc n) h small = omega arith

-- what is read where the first group is the last one, and where more follow
signed_first : (b : ℕ) (bs : List ℕ) (z : ℤ) → b < 128 → signed_groups_at (b ∷ bs) ≡ Some (z, []) → size_of z < 64
signed_first b bs z lt read =
    let same = some_pair_parts (signed_seven b) z bs [] (sym (signed_last b bs (lt-ltb _ _ lt)) ∙ read) in
    subst (λ x. size_of x < 64) same.0 (signed_seven_small b lt)

signed_rest : (b : ℕ) (bs : List ℕ) (z : ℤ) → 128 ≤ b → signed_groups_at (b ∷ bs) ≡ Some (z, []) → (x : ℤ) × (signed_groups_at bs ≡ Some (x, [])) × (above_seven (b - 128) x ≡ z)
signed_rest b bs z le read =
    let more = bind_parts (signed_groups_at bs) (λ x. Some (above_seven (b - 128) x.0, x.1)) (z, []) (sym (signed_more b bs (le-ltb _ _ le)) ∙ read) in
    let same = some_pair_parts (above_seven (b - 128) more.0.0) z more.0.1 [] more.2 in
    (more.0.0, more.1 ∙ ap (λ rest. Some (more.0.0, rest)) same.1, same.0)

-- so many groups hold so many numbers on either side
signed_groups_below : (b : ℕ) (bs : List ℕ) (z : ℤ) → All (λ b. b < 256) (b ∷ bs) → signed_groups_at (b ∷ bs) ≡ Some (z, []) → size_of z < 64 * 128 ^ length bs
unfolding signed_groups_at
signed_groups_below b [] z each read =
    ⊎_elim
    (λ lt. signed_first b [] z lt read)
    (λ le. absurd (none-some _ (signed_rest b [] z le read).1))
    (cases_lt b 128)
signed_groups_below b (c ∷ cs) z each read =
    ⊎_elim
    (λ lt. omega (arith, signed_first b (c ∷ cs) z lt read, one-le-pow (length (c ∷ cs)) 128 (omega arith)))
    (λ le.
    let more = signed_rest b (c ∷ cs) z le read in
    let low : b - 128 < 128 = omega (arith, All-head (λ b. b < 256) b (c ∷ cs) each) in
    let below : size_of more.0 < 64 * 128 ^ length cs = signed_groups_below c cs more.0 (All-tail (λ b. b < 256) b (c ∷ cs) each) more.1 in
    let above : size_of z < 64 * 128 ^ length cs * 128 = subst (λ x. size_of x < 64 * 128 ^ length cs * 128) more.2 (above_seven_small (b - 128) (64 * 128 ^ length cs) more.0 low below) in
    omega (arith, above, pow-suc 128 (length cs)))
    (cases_lt b 128)

-- a number is spelled in no more groups than hold it on its side
sleb_groups_within : (k : ℕ) (z : ℤ) (m : ℕ) → size_of z < 64 * 128 ^ m → length (sleb_groups k z) ≤ suc m
unfolding sleb_groups
sleb_groups_within zero z m h = omega arith
sleb_groups_within (suc k) z zero h =
    subst (λ (bs : List ℕ). length bs ≤ 1) (sym (sleb_last k z (fits_seven_is z ∙ lt-ltb _ _ (omega arith)))) (omega arith)
sleb_groups_within (suc k) z (suc m) h =
    ⊎_elim
    (λ lt. subst (λ (bs : List ℕ). length bs ≤ suc (suc m)) (sym (sleb_last k z (fits_seven_is z ∙ lt-ltb _ _ lt))) (omega arith))
    (λ le.
    let small : size_of (without_seven z) < 64 * 128 ^ m = without_seven_below z (64 * 128 ^ m) (omega (arith, pow-suc 128 m)) in
    subst (λ (bs : List ℕ). length bs ≤ suc (suc m)) (sym (sleb_more k z (fits_seven_is z ∙ le-ltb _ _ le))) (omega (arith, sleb_groups_within k (without_seven z) m small)))
    (cases_lt (size_of z) 64)

sleb_at-groups : (bytes rest : List ℕ) (z : ℤ) → sleb_at bytes ≡ Some (z, rest) → signed_groups_at bytes ≡ Some (z, rest)
unfolding sleb_at
sleb_at-groups bytes rest z read =
    let groups = bind_parts (signed_groups_at bytes) (λ x. when (fits_i64 x.0) (Some x)) (z, rest) read in
    groups.1 ∙ when_same (fits_i64 groups.0.0) (Some groups.0) (z, rest) groups.2

-- no bytes that are read to their end as a number are fewer than those that spell it
pub sleb-shortest : (z : ℤ) (bytes : List ℕ) → All (λ b. b < 256) bytes → sleb_at bytes ≡ Some (z, []) → length (sleb z) ≤ length bytes
unfolding sleb signed_groups_at
sleb-shortest z [] each read = absurd (none-some _ (sleb_at-groups [] [] z read))
sleb-shortest z (b ∷ bs) each read =
    sleb_groups_within 9 z (length bs) (signed_groups_below b bs z each (sleb_at-groups (b ∷ bs) [] z read))
