-- How many groups a LEB128 number has.
use Rattle.std.proofs.Common.{◌≡◌, ◌∙◌, sym, ap, ℕ, zero, suc, ◌+◌, ◌-◌, ◌/◌, ◌%◌, ◌^◌, ◌<◌, ◌≤◌, [], ◌∷◌, length, true, false, arith, refl}
use Rattle.std.specs.Prelude.{nat_lt, ℤ, pos, negsuc, if◌then◌else◌}
use Rattle.std.proofs.lemmas.Bool.Decides.{nat_tests}
use Rattle.std.proofs.Math.Nat.{pow-suc}
use Rattle.std.proofs.Math.IntN.{nat_abs}
use lib.Signed.{lt_z}
use borrow.Author.Tests.{ltb-true}
use Rattle.dw_base.specs.Leb128.{uleb_groups, uleb, sleb_groups, sleb, low_seven, without_seven}

-- so many groups were counted, and the rest is spelled in at most room and one more
pub record CountsGroups (value size rest : ℕ) : Type 0 where
  pub room : ℕ
  pub left : size + room ≡ 10
  pub total : size + length (uleb_groups room rest) ≡ 1 + length (uleb value)
  pub enough : rest < 128 ^ suc room

pub CountsGroups-none : (v : ℕ) → v < 2 ^ 64 → CountsGroups v 1 v
unfolding uleb
CountsGroups-none v h = record { room = 9; left = refl; total = refl; enough = omega arith }

uleb_groups-more : (k n : ℕ) → 128 ≤ n → uleb_groups (suc k) n ≡ (128 + n % 128) ∷ uleb_groups k (n / 128)
unfolding uleb_groups
uleb_groups-more k n h = grind (arith, nat_tests)

uleb_groups-last : (k n : ℕ) → n < 128 → length (uleb_groups k n) ≡ 1
unfolding uleb_groups
uleb_groups-last zero n h = refl
uleb_groups-last (suc k) n h = let e : nat_lt n 128 ≡ true = grind (arith, nat_tests) in ap (λ b. length (if b then n ∷ [] else (128 + n % 128) ∷ uleb_groups k (n / 128))) e

more : (v size rest room : ℕ) → 128 ≤ rest → size + room ≡ 10 → size + length (uleb_groups room rest) ≡ 1 + length (uleb v) → rest < 128 ^ suc room → CountsGroups v (size + 1) (rest / 128)
more v size rest zero h left total enough = absurd (omega (arith, pow-suc 128 0))
more v size rest (suc k) h left total enough = record {
  room = k;
  left = omega arith;
  total = omega (arith, ap length (uleb_groups-more k rest h));
  enough = omega (arith, pow-suc 128 (suc k));
}

pub CountsGroups-more : (v size rest : ℕ) → CountsGroups v size rest → 128 ≤ rest → CountsGroups v (size + 1) (rest / 128)
CountsGroups-more v size rest c h = more v size rest c.room h c.left c.total c.enough

pub CountsGroups-last : (v size rest : ℕ) → CountsGroups v size rest → rest < 128 → size ≡ length (uleb v)
CountsGroups-last v size rest c h = omega (arith, c.total, uleb_groups-last c.room rest h)

-- the same of a signed number, of which the rest is told without its sign
abbrev pub size_of_signed : ℤ → ℕ
size_of_signed (pos n) = n
size_of_signed (negsuc n) = n

pub record CountsSignedGroups (value : ℤ) (size rest : ℕ) : Type 0 where
  pub room : ℕ
  pub left : size + room ≡ 10
  pub number : ℤ
  pub rest_is : size_of_signed number ≡ rest
  pub total : size + length (sleb_groups room number) ≡ 1 + length (sleb value)
  pub enough : rest < 128 ^ room

pub CountsSignedGroups-none : (z : ℤ) (rest : ℕ) → size_of_signed z ≡ rest → rest < 2 ^ 63 → CountsSignedGroups z 1 rest
unfolding sleb
CountsSignedGroups-none z rest e h = record { room = 9; left = refl; number = z; rest_is = e; total = refl; enough = omega arith }

sleb_groups-more : (k : ℕ) (z : ℤ) → 64 ≤ size_of_signed z → sleb_groups (suc k) z ≡ (128 + low_seven z) ∷ sleb_groups k (without_seven z)
unfolding sleb_groups
sleb_groups-more k (pos n) h = grind (arith, nat_tests)
sleb_groups-more k (negsuc n) h = grind (arith, nat_tests)

sleb_groups-last : (k : ℕ) (z : ℤ) → size_of_signed z < 64 → length (sleb_groups k z) ≡ 1
unfolding sleb_groups
sleb_groups-last zero z h = refl
sleb_groups-last (suc k) (pos n) h = let e : nat_lt n 64 ≡ true = grind (arith, nat_tests) in ap (λ b. length (if b then low_seven (pos n) ∷ [] else (128 + low_seven (pos n)) ∷ sleb_groups k (without_seven (pos n)))) e
sleb_groups-last (suc k) (negsuc n) h = let e : nat_lt n 64 ≡ true = grind (arith, nat_tests) in ap (λ b. length (if b then low_seven (negsuc n) ∷ [] else (128 + low_seven (negsuc n)) ∷ sleb_groups k (without_seven (negsuc n)))) e

without_seven-size : (z : ℤ) → size_of_signed (without_seven z) ≡ size_of_signed z / 128
without_seven-size (pos n) = refl
without_seven-size (negsuc n) = refl

more_signed : (v : ℤ) (size rest room : ℕ) (z : ℤ) → size_of_signed z ≡ rest → 64 ≤ rest → size + room ≡ 10 → size + length (sleb_groups room z) ≡ 1 + length (sleb v) → rest < 128 ^ room → CountsSignedGroups v (size + 1) (rest / 128)
more_signed v size rest zero z e h left total enough = absurd (omega arith)
more_signed v size rest (suc k) z e h left total enough = record {
  room = k;
  left = omega arith;
  number = without_seven z;
  rest_is = without_seven-size z ∙ ap (λ n. n / 128) e;
  total = omega (arith, ap length (sleb_groups-more k z (omega arith)));
  enough = omega (arith, pow-suc 128 k);
}

pub CountsSignedGroups-more : (v : ℤ) (size rest : ℕ) → CountsSignedGroups v size rest → 64 ≤ rest → CountsSignedGroups v (size + 1) (rest / 128)
CountsSignedGroups-more v size rest c h = more_signed v size rest c.room c.number c.rest_is h c.left c.total c.enough

pub CountsSignedGroups-last : (v : ℤ) (size rest : ℕ) → CountsSignedGroups v size rest → rest < 64 → size ≡ length (sleb v)
CountsSignedGroups-last v size rest c h = let small : size_of_signed c.number < 64 = omega (arith, c.rest_is) in omega (arith, c.total, sleb_groups-last c.room c.number small)

-- a negative number has as many groups as the number that has its bits turned
length-sleb_groups : (k n : ℕ) → length (sleb_groups k (negsuc n)) ≡ length (sleb_groups k (pos n))
unfolding sleb_groups
length-sleb_groups zero n = refl
length-sleb_groups (suc k) n =
    elim (nat_lt n 64) as (λ b. length (if b then low_seven (negsuc n) ∷ [] else (128 + low_seven (negsuc n)) ∷ sleb_groups k (negsuc (n / 128))) ≡ length (if b then low_seven (pos n) ∷ [] else (128 + low_seven (pos n)) ∷ sleb_groups k (pos (n / 128)))) [
      | true ↦ refl
      | false ↦ ap suc (length-sleb_groups k (n / 128))
    ]

pub length-sleb : (n : ℕ) → length (sleb (negsuc n)) ≡ length (sleb (pos n))
unfolding sleb
length-sleb n = length-sleb_groups 9 n

-- the groups of a signed number from its size: one less than the size where it is negative
pub length-sleb_negative : (z w : ℤ) (m r : ℕ) → w ≡ z → lt_z w (pos 0) ≡ true → m ≡ nat_abs w → r ≡ length (sleb (pos (m - 1))) → r ≡ length (sleb z)
length-sleb_negative (pos n) w m r e lt a b = absurd (omega (arith, ltb-true n 0 (rw e at lt)))
length-sleb_negative (negsuc n) w m r e lt a b =
    let same : m - 1 ≡ n = omega (arith, rw e at a) in
    b ∙ ap (λ k. length (sleb (pos k))) same ∙ sym (length-sleb n)

pub length-sleb_positive : (z w : ℤ) (m r : ℕ) → w ≡ z → lt_z w (pos 0) ≡ false → m ≡ nat_abs w → r ≡ length (sleb (pos m)) → r ≡ length (sleb z)
length-sleb_positive (pos n) w m r e lt a b = b ∙ ap (λ k. length (sleb (pos k))) (rw e at a)
length-sleb_positive (negsuc n) w m r e lt a b = let bad : lt_z (negsuc n) (pos 0) ≡ false = rw e at lt in cc
