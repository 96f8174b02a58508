-- The bytes that are left once some were passed.
use Rattle.std.proofs.Common.{◌≡◌, ◌∙◌, sym, ap, subst, ℕ, ◌+◌, ◌-◌, ◌≤◌, List, length, take, drop, Some, Bool, refl, arith, length-drop, take-take, drop-drop, ap₂}
use Rattle.std.proofs.lemmas.List.{drop-take, length-take-le}
use Rattle.std.proofs.lemmas.Bool.{le-leb}
use Rattle.dw_base.specs.Numbers.{bytes_at, number_at, value_of}
use Rattle.dw_read.specs.Reading.{Reading, IsReading, Passes, Reads, left, part}

pub length-left : (r : Reading) → IsReading r → length (left r) ≡ r.end - r.place
length-left r h = length-take-le (r.end - r.place) (drop r.place r.section) (let l : length (drop r.place r.section) ≡ length r.section - r.place = length-drop r.place r.section in let e : r.end ≤ length r.section = h.end in omega arith)

pub left_part : (n : ℕ) (r : Reading) → r.place + n ≤ r.end → left (part n r) ≡ take n (left r)
left_part n r h =
    let e : r.place + n - r.place ≡ n = omega arith in
    rw e (sym (take-take n (r.end - r.place) (drop r.place r.section) (omega arith)))

pub left_passed : (n : ℕ) (old new : Reading) → Passes n old new → left new ≡ drop n (left old)
left_passed n old new h =
    let m : ℕ = old.end - (old.place + n) in
    let w : old.place + n ≤ old.end = h.within in
    let e : old.end - old.place ≡ n + m = omega arith in
    subst (λ (r : Reading). left r ≡ drop n (left old)) (sym h.is)
    (sym (ap (λ (k : ℕ). drop n (take k (drop old.place old.section))) e ∙ drop-take n m (drop old.place old.section) ∙ ap (take m) (drop-drop n old.place old.section)))

pub passes_none : (r : Reading) → IsReading r → Passes 0 r r
passes_none r h = record { within = (let p : r.place ≤ r.end = h.place in omega arith); is = ap (λ (n : ℕ). record r { place = n }) (let e : r.place ≡ r.place + 0 = omega arith in e) }

pub passes_then : (n m : ℕ) (a b c : Reading) → Passes n a b → Passes m b c → Passes (n + m) a c
passes_then n m a b c h k =
    let q : b ≡ record a { place = a.place + n } = h.is in
    let w : b.place + m ≤ b.end = k.within in
    let v : (a.place + n) + m ≤ a.end = subst (λ (r : Reading). r.place + m ≤ r.end) q w in
    record {
      within = omega arith;
      is = k.is ∙ ap (λ (r : Reading). record r { place = r.place + m }) q ∙ ap (λ (p : ℕ). record a { place = p }) (let e : a.place + n + m ≡ a.place + (n + m) = omega arith in e);
    }

pub same_order : (n : ℕ) (old new : Reading) → Passes n old new → new.is_big ≡ old.is_big
same_order n old new h = ap (λ (r : Reading). r.is_big) h.is

number_of_front : (big : Bool) (n : ℕ) (bytes : List ℕ) → n ≤ length bytes → number_at big n bytes ≡ Some (value_of big (take n bytes), drop n bytes)
unfolding number_at bytes_at
number_of_front big n bytes h = rw (le-leb n (length bytes) h) refl

pub reads_number : (big : Bool) (n x : ℕ) (old new p : Reading) (s : List ℕ) → IsReading old → Passes n old new → p ≡ part n old → s ≡ left p → x ≡ value_of big s → Reads ℕ (number_at big n) old new x
reads_number big n x old new p s i h e l v =
    let w : old.place + n ≤ old.end = h.within in
    let len : length (left old) ≡ old.end - old.place = length-left old i in
    let a : value_of big (take n (left old)) ≡ x = sym (v ∙ ap (value_of big) (l ∙ (ap left e ∙ left_part n old w))) in
    let b : drop n (left old) ≡ left new = sym (left_passed n old new h) in
    record {
      count = n;
      passes = h;
      value = number_of_front big n (left old) (omega arith) ∙ ap₂ (λ (y : ℕ) (r : List ℕ). Some (y, r)) a b;
    }

pub shorter : (n : ℕ) (old new : Reading) → IsReading old → IsReading new → Passes n old new → length (left new) + n ≡ length (left old)
shorter n old new h k p =
    let a : length (left old) ≡ old.end - old.place = length-left old h in
    let b : length (left new) ≡ new.end - new.place = length-left new k in
    let c : new.end ≡ old.end = ap (λ (r : Reading). r.end) p.is in
    let d : new.place ≡ old.place + n = ap (λ (r : Reading). r.place) p.is in
    let w : old.place + n ≤ old.end = p.within in
    omega arith
