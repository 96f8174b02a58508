-- The ranges that begin before an end, less those that end before a begin, are those that meet what lies between.
use Rattle.std.proofs.Common.{◌≡◌, ◌∙◌, sym, ap, ap₂, ℕ, zero, suc, ◌+◌, ◌<◌, ◌≤◌, List, [], ◌∷◌, length, map, Bool, true, false, cond, refl, arith, nat_lt, nat_le, max}
use Rattle.std.specs.Prelude.{◌&&◌, ◌||◌, filter}
use Rattle.std.specs.List.{count_by, list_any}
use Rattle.std.specs.List.Sorted.{IsPartitionPoint, IsPermutation}
use Rattle.std.proofs.lemmas.Bool.{lt-ltb, le-ltb, ltb-true, leb-true, leb-false}
use Rattle.std.proofs.lemmas.List.Sums.{sum_by-cons}
use Rattle.std.proofs.lemmas.List.Sorted.{sum_by-IsPermutation}
use Rattle.dw_entry_ranges.specs.Live.{has_address, meets_one, meets, IsMadeOf}
use Rattle.dw_entry_ranges.specs.declared.live.LiveRange.{LiveRange}
use Rattle.dw_entry_ranges.specs.declared.live.LiveRanges.{LiveRanges}
use Rattle.dw_entry_ranges.specs.declared.range.AddressRange.{AddressRange}

abbrev flag : Bool → ℕ
flag b = cond b 1 0

count-cons : {X : Type 0} (p : X → Bool) (x : X) (xs : List X) → count_by p (x ∷ xs) ≡ flag (p x) + count_by p xs
count-cons p x xs = sum_by-cons (λ y. flag (p y)) x xs

count_permuted : {X : Type 0} (p : X → Bool) (xs ys : List X) → IsPermutation xs ys → count_by p ys ≡ count_by p xs
count_permuted p xs ys h = sum_by-IsPermutation (λ y. flag (p y)) xs ys h

-- where a test begins to fail, so many pass
point_counts : {X : Type 0} (p : X → Bool) (xs : List X) (i : ℕ) → i ≤ length xs → IsPartitionPoint (λ y. p y ≡ true) (λ y. p y ≡ false) xs i → count_by p xs ≡ i
point_counts p [] i l h = let z : i ≡ 0 = omega arith in sym z
point_counts p (x ∷ xs) zero l h =
    let rest : count_by p xs ≡ 0 = point_counts p xs zero (omega arith) (λ k d a b. absurd (omega (arith, b)), λ k d a b. h.1 (suc k) d (omega arith) (omega (arith, b))) in
    count-cons p x xs ∙ ap₂ ◌+◌ (ap flag (h.1 0 x (omega arith) (omega arith))) rest
point_counts p (x ∷ xs) (suc i) l h =
    let rest : count_by p xs ≡ i = point_counts p xs i (omega arith) (λ k d a b. h.0 (suc k) d (omega arith) (omega (arith, b)), λ k d a b. h.1 (suc k) d (omega (arith, a)) (omega (arith, b))) in
    let one : 1 + i ≡ suc i = omega arith in
    count-cons p x xs ∙ ap₂ ◌+◌ (ap flag (h.0 0 x (omega arith) (omega arith))) rest ∙ one

-- one that passes is among those that are counted
any_counted : {X : Type 0} (p : X → Bool) (xs : List X) → list_any p xs ≡ nat_lt 0 (count_by p xs)
any_counted p [] = refl
any_counted p (x ∷ xs) = by (p x) (any_counted p xs) ∙ ap (nat_lt 0) (sym (count-cons p x xs))
  where
    by : (b : Bool) → list_any p xs ≡ nat_lt 0 (count_by p xs) → (b || list_any p xs) ≡ nat_lt 0 (flag b + count_by p xs)
    by true h = sym (lt-ltb 0 (1 + count_by p xs) (omega arith))
    by false h = let z : count_by p xs ≡ 0 + count_by p xs = omega arith in h ∙ ap (nat_lt 0) z

below_sum : (n m k : ℕ) → n + k ≡ m → nat_lt n m ≡ nat_lt 0 k
below_sum n m zero h = le-ltb n m (omega (arith, h)) ∙ sym (le-ltb 0 0 (omega arith))
below_sum n m (suc k) h = lt-ltb n m (omega (arith, h)) ∙ sym (lt-ltb 0 (suc k) (omega arith))

module _ (r : AddressRange) (some : r.begin < r.end) where
  -- where all tests but two are known
  met : (l : LiveRange) → has_address l ≡ true → meets_one r l ≡ (nat_lt l.begin r.end && nat_lt r.begin l.end)
  met l h = ap (λ b. (b && has_address l) && nat_lt l.begin r.end && nat_lt r.begin l.end) (lt-ltb r.begin r.end some) ∙ ap (λ b. b && nat_lt l.begin r.end && nat_lt r.begin l.end) h

  unmet : (l : LiveRange) → has_address l ≡ false → meets_one r l ≡ false
  unmet l h = ap (λ b. (b && has_address l) && nat_lt l.begin r.end && nat_lt r.begin l.end) (lt-ltb r.begin r.end some) ∙ ap (λ b. b && nat_lt l.begin r.end && nat_lt r.begin l.end) h

  and_true : (b : Bool) → (b && true) ≡ b
  and_true true = refl
  and_true false = refl

  and_false : (b : Bool) → (b && false) ≡ false
  and_false true = refl
  and_false false = refl

  -- a live range that begins before the end has ended, or meets the range
  one : (l : LiveRange) → has_address l ≡ true → flag (nat_le l.end r.begin) + flag (meets_one r l) ≡ flag (nat_lt l.begin r.end)
  one l h = by (nat_le l.end r.begin) refl
    where
      more : l.begin < l.end
      more = ltb-true l.begin l.end h

      by : (b : Bool) → nat_le l.end r.begin ≡ b → flag b + flag (meets_one r l) ≡ flag (nat_lt l.begin r.end)
      by true e =
          let ended : l.end ≤ r.begin = leb-true l.end r.begin e in
          let none : meets_one r l ≡ false = met l h ∙ ap (λ b. nat_lt l.begin r.end && b) (le-ltb r.begin l.end ended) ∙ and_false (nat_lt l.begin r.end) in
          ap (λ b. 1 + flag b) none ∙ ap flag (sym (lt-ltb l.begin r.end (omega (arith, more, some, ended))))
      by false e =
          let going : r.begin < l.end = leb-false l.end r.begin e in
          let is : meets_one r l ≡ nat_lt l.begin r.end = met l h ∙ ap (λ b. nat_lt l.begin r.end && b) (lt-ltb r.begin l.end going) ∙ and_true (nat_lt l.begin r.end) in
          let z : 0 + flag (nat_lt l.begin r.end) ≡ flag (nat_lt l.begin r.end) = omega arith in
          ap (λ b. 0 + flag b) is ∙ z

  -- so are all of them
  counted : (live : List LiveRange) → count_by (λ n. nat_le n r.begin) (map (λ l. l.end) (filter has_address live)) + count_by (meets_one r) live ≡ count_by (λ n. nat_lt n r.end) (map (λ l. l.begin) (filter has_address live))
  counted [] = refl
  counted (l ∷ ls) = ap (λ n. count_by (λ n. nat_le n r.begin) (map (λ l. l.end) (filter has_address (l ∷ ls))) + n) (count-cons (meets_one r) l ls) ∙ by (has_address l) refl (counted ls)
    where
      ended : List LiveRange → ℕ
      ended xs = count_by (λ n. nat_le n r.begin) (map (λ x. x.end) xs)

      begun : List LiveRange → ℕ
      begun xs = count_by (λ n. nat_lt n r.end) (map (λ x. x.begin) xs)

      by : (b : Bool) → has_address l ≡ b → count_by (λ n. nat_le n r.begin) (map (λ x. x.end) (filter has_address ls)) + count_by (meets_one r) ls ≡ count_by (λ n. nat_lt n r.end) (map (λ x. x.begin) (filter has_address ls))
          → count_by (λ n. nat_le n r.begin) (map (λ x. x.end) (cond b (l ∷ filter has_address ls) (filter has_address ls))) + (flag (meets_one r l) + count_by (meets_one r) ls) ≡ count_by (λ n. nat_lt n r.end) (map (λ x. x.begin) (cond b (l ∷ filter has_address ls) (filter has_address ls)))
      by true q h =
          let xs = filter has_address ls in
          let a : count_by (λ n. nat_le n r.begin) (map (λ x. x.end) (l ∷ xs)) ≡ flag (nat_le l.end r.begin) + count_by (λ n. nat_le n r.begin) (map (λ x. x.end) xs) = count-cons (λ n. nat_le n r.begin) l.end (map (λ x. x.end) xs) in
          let b : count_by (λ n. nat_lt n r.end) (map (λ x. x.begin) (l ∷ xs)) ≡ flag (nat_lt l.begin r.end) + count_by (λ n. nat_lt n r.end) (map (λ x. x.begin) xs) = count-cons (λ n. nat_lt n r.end) l.begin (map (λ x. x.begin) xs) in
          let c : flag (nat_le l.end r.begin) + flag (meets_one r l) ≡ flag (nat_lt l.begin r.end) = one l q in
          omega (arith, a, b, c, h)
      by false q h = let z : flag (meets_one r l) ≡ 0 = ap flag (unmet l q) in omega (arith, z, h)

  pub meets_between : (ranges : LiveRanges) (live : List LiveRange) (i j : ℕ) → IsMadeOf ranges live → i ≤ length ranges.begins.items → IsPartitionPoint (λ y. nat_lt y r.end ≡ true) (λ y. nat_lt y r.end ≡ false) ranges.begins.items i
      → j ≤ length ranges.ends.items → IsPartitionPoint (λ y. nat_le y r.begin ≡ true) (λ y. nat_le y r.begin ≡ false) ranges.ends.items j → nat_lt j i ≡ meets live r
  meets_between ranges live i j made few begun less ended =
      let b : i ≡ count_by (λ n. nat_lt n r.end) (map (λ l. l.begin) (filter has_address live)) = sym (point_counts (λ n. nat_lt n r.end) ranges.begins.items i few begun) ∙ count_permuted (λ n. nat_lt n r.end) _ _ made.begins in
      let e : j ≡ count_by (λ n. nat_le n r.begin) (map (λ l. l.end) (filter has_address live)) = sym (point_counts (λ n. nat_le n r.begin) ranges.ends.items j less ended) ∙ count_permuted (λ n. nat_le n r.begin) _ _ made.ends in
      let c = counted live in
      let all : j + count_by (meets_one r) live ≡ i = ap (λ n. n + count_by (meets_one r) live) e ∙ c ∙ sym b in
      below_sum j i (count_by (meets_one r) live) all ∙ sym (any_counted (meets_one r) live)

-- a range without an address meets nothing
pub meets_nothing : (live : List LiveRange) (r : AddressRange) → nat_lt r.begin r.end ≡ false → meets live r ≡ false
meets_nothing [] r h = refl
meets_nothing (l ∷ ls) r h = ap₂ ◌||◌ (ap (λ b. b && has_address l && nat_lt l.begin r.end && nat_lt r.begin l.end) h) (meets_nothing ls r h)

-- A range meets a live one exactly where an address is in both.
abbrev Shares : AddressRange → LiveRange → Type 0
Shares r l = (a : ℕ) × (r.begin ≤ a) × (a < r.end) × (l.begin ≤ a) × (a < l.end)

both_true : (a b : Bool) → (a && b) ≡ true → (a ≡ true) × (b ≡ true)
both_true true true h = (refl, refl)
both_true true false h = absurd cc
both_true false b h = absurd cc

shares_met : (r : AddressRange) (l : LiveRange) → meets_one r l ≡ true → Shares r l
shares_met r l h =
    let p = both_true ((nat_lt r.begin r.end && has_address l) && nat_lt l.begin r.end) (nat_lt r.begin l.end) h in
    let q = both_true (nat_lt r.begin r.end && has_address l) (nat_lt l.begin r.end) p.0 in
    let s = both_true (nat_lt r.begin r.end) (has_address l) q.0 in
    let some : r.begin < r.end = ltb-true r.begin r.end s.0 in
    let live : l.begin < l.end = ltb-true l.begin l.end s.1 in
    let begun : l.begin < r.end = ltb-true l.begin r.end q.1 in
    let going : r.begin < l.end = ltb-true r.begin l.end p.1 in
    (max r.begin l.begin, omega arith, omega arith, omega arith, omega arith)

met_shared : (r : AddressRange) (l : LiveRange) → Shares r l → meets_one r l ≡ true
met_shared r l (a, from, to, begun, going) =
    let some : nat_lt r.begin r.end ≡ true = lt-ltb r.begin r.end (omega arith) in
    let live : has_address l ≡ true = lt-ltb l.begin l.end (omega arith) in
    let before : nat_lt l.begin r.end ≡ true = lt-ltb l.begin r.end (omega arith) in
    let behind : nat_lt r.begin l.end ≡ true = lt-ltb r.begin l.end (omega arith) in
    rw (some, live, before, behind) refl
