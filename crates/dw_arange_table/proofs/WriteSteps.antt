-- What writes of the parts of sets come to.
use Rattle.std.proofs.Common.{◌≡◌, ◌∙◌, sym, ap, subst, ℕ, zero, suc, ◌+◌, ◌*◌, ◌<◌, ◌≤◌, Bool, List, [], ◌∷◌, ◌++◌, length, take, drop, get_or, refl, arith, IsTrue, length-append, true, false, ◌&&◌}
use Rattle.std.specs.List.{flat_map, list_all}
use Rattle.std.proofs.lemmas.List.{take_more, flat_map_more, at_drop_more, at_drop_all}
use Rattle.std.proofs.Math.Nat.{mul-add}
use Rattle.dw_base.specs.Numbers.{num, word_of, is_width, fits}
use Rattle.dw_base.specs.declared.error.Error.{Error}
use Rattle.dw_base.specs.declared.error.Error.TheVariants as errors
use Rattle.dw_base.proofs.NumberLaws.{length-num}
use Rattle.dw_writer.specs.Texts.{zeros}
use Rattle.dw_writer.specs.Meaning.{Meaning, IsSameWriter, Adds}
use Rattle.dw_writer.specs.Causes.{BytesRefused, NumberRefused}
use Rattle.dw_writer.proofs.FaultLaws.{HasRisen-from}
use Rattle.dw_writer.proofs.Steps.{Adds-then}
use Rattle.dw_arange_table.specs.declared.range.RangeDescriptor.{RangeDescriptor}
use Rattle.dw_arange_table.specs.Sets.{RangeSet, range_fits, is_range}
use Rattle.dw_arange_table.specs.Bytes.{padding, range_bytes, rest_bytes, content_bytes}

pub take-zeros : (n m : ℕ) → n ≤ m → take n (zeros m) ≡ zeros n
take-zeros zero m h = refl
take-zeros (suc n) zero h = absurd (omega (arith, h))
take-zeros (suc n) (suc m) h = ap (λ xs. 0 ∷ xs) (take-zeros n m (omega (arith, h)))

-- a number behind bytes
pub number_after : {a b c : Meaning} (xs : List ℕ) (w n : ℕ) → Adds a b xs → Adds b c (num b.is_big w n) → Adds a c (xs ++ num a.is_big w n)
number_after {a} {b} {c} xs w n p q = Adds-then p (subst (λ big. Adds b c (num big w n)) p.same.order q)

-- bytes that are refused behind others
pub refused_later : (a b c : Meaning) → IsSameWriter a b → (e : Error) → BytesRefused b c e → BytesRefused a c e
refused_later a b c same errors.NoMemory h = h
refused_later a b c same errors.WriteFault h = HasRisen-from a b c same.faults h
refused_later a b c same e h = absurd h

-- a number that fits is refused as its bytes are
pub number_refused : (a b : Meaning) (w : ℕ) (fit : Bool) → IsTrue (is_width w) → IsTrue fit → (e : Error) → NumberRefused w fit (BytesRefused a b) e → BytesRefused a b e
number_refused a b w fit width fits (errors.UnsupportedWordSize n) h = absurd (let x : true ≡ false = sym width ∙ h.1 in cc)
number_refused a b w fit width fits errors.ValueTooLarge h = absurd (let x : true ≡ false = sym fits ∙ h.1 in cc)
number_refused a b w fit width fits e h = h.2

and_left : (a b : Bool) → IsTrue (a && b) → IsTrue a
and_left true b h = refl
and_left false b h = h

and_right : (a b : Bool) → IsTrue (a && b) → IsTrue b
and_right true b h = h
and_right false b h = absurd (let e : false ≡ true = h in cc)

-- both numbers of a range fit
pub address_fits : (w : ℕ) (r : RangeDescriptor) → IsTrue (is_range w r) → IsTrue (fits w r.address)
address_fits w r h = and_left (fits w r.address) (fits w r.length) (and_left (range_fits w r) _ h)

pub length_fits : (w : ℕ) (r : RangeDescriptor) → IsTrue (is_range w r) → IsTrue (fits w r.length)
length_fits w r h = and_right (fits w r.address) (fits w r.length) (and_left (range_fits w r) _ h)

-- what holds of all holds of each
pub each_of : {A : Type 0} (p : A → Bool) (xs : List A) (i : ℕ) (x : A) → IsTrue (list_all p xs) → i < length xs → x ≡ get_or xs i x → IsTrue (p x)
each_of p [] i x h below is = absurd (omega arith)
each_of p (y ∷ ys) zero x h below is = grind arith
each_of p (y ∷ ys) (suc i) x h below is = let t : IsTrue (list_all p ys) = grind arith in each_of p ys i x t (omega arith) is

-- the bytes of an element behind those of the elements before it
pub element_after : {A : Type 0} (f : A → List ℕ) (xs : List A) (i : ℕ) (x : A) {a b c : Meaning} → i < length xs → x ≡ get_or xs i x → Adds a b (flat_map f (take i xs)) → Adds b c (f x) → Adds a c (flat_map f (take (i + 1) xs))
element_after f xs i x {a} {b} {c} below is p q =
    let more : flat_map f (take (i + 1) xs) ≡ flat_map f (take i xs) ++ f x =
    ap (flat_map f) (take_more xs i x below) ∙ sym (flat_map_more f [] (take i xs) (get_or xs i x)) ∙ ap (λ y. flat_map f (take i xs) ++ f y) (sym is) in
    subst (λ l. Adds a c l) (sym more) (Adds-then p q)

pub all_push : {A : Type 0} (p : A → Bool) (xs : List A) (x : A) → IsTrue (list_all p xs) → IsTrue (p x) → IsTrue (list_all p (xs ++ x ∷ []))
all_push p [] x h k = grind arith
all_push p (y ∷ ys) x h k = grind (arith, all_push p ys x)

-- one element more
pub all_more : {A : Type 0} (p : A → Bool) (xs : List A) (i : ℕ) (x : A) → i < length xs → x ≡ get_or xs i x → IsTrue (list_all p (take i xs)) → IsTrue (p x) → IsTrue (list_all p (take (i + 1) xs))
all_more p xs i x below is h k =
    let more : take (i + 1) xs ≡ take i xs ++ x ∷ [] = take_more xs i x below ∙ ap (λ y. take i xs ++ y ∷ []) (sym is) in
    subst (λ l. IsTrue (list_all p l)) (sym more) (all_push p (take i xs) x h k)

pub drop_cons : {A : Type 0} (xs : List A) (i : ℕ) (x : A) → i < length xs → x ≡ get_or xs i x → drop i xs ≡ x ∷ drop (i + 1) xs
drop_cons xs i x below is = at_drop_more (λ ys. ys) xs i x below ∙ ap (λ y. y ∷ drop (i + 1) xs) (sym is)

pub drop_all : {A : Type 0} (xs : List A) (i : ℕ) → length xs ≤ i → drop i xs ≡ []
drop_all xs i h = at_drop_all (λ ys. ys) xs i h

-- Sizes

pub length-zeros : (n : ℕ) → length (zeros n) ≡ n
length-zeros zero = refl
length-zeros (suc n) = ap suc (length-zeros n)

pub length-range : (big : Bool) (w : ℕ) (r : RangeDescriptor) → length (range_bytes big w r) ≡ w + w
length-range big w r = omega (arith, length-append (num big w r.address) (num big w r.length), length-num big w r.address, length-num big w r.length)

double : (w n : ℕ) → 2 * w * (n + 1) ≡ 2 * w * n + (w + w)
double w n = mul-add (2 * w) n 1 ∙ omega arith

length-ranges : (big : Bool) (w : ℕ) (rs : List RangeDescriptor) → length (flat_map (range_bytes big w) rs) ≡ 2 * w * length rs
length-ranges big w [] = omega arith
length-ranges big w (r ∷ rs) =
    omega (arith, length-append (range_bytes big w r) (flat_map (range_bytes big w) rs), length-range big w r, length-ranges big w rs, double w (length rs))

-- the bytes of what follows a set's length, in either byte order
pub length-rest : (big : Bool) (s : RangeSet) → length (rest_bytes big s) ≡ 2 + padding s.format s.address_size + 2 * s.address_size * (length s.ranges + 1)
unfolding rest_bytes
length-rest big s =
    let w = s.address_size in
    omega (arith, length-append (zeros (padding s.format w)) (flat_map (range_bytes big w) s.ranges ++ zeros (2 * w)), length-append (flat_map (range_bytes big w) s.ranges) (zeros (2 * w)), length-zeros (padding s.format w), length-zeros (2 * w), length-ranges big w s.ranges, double w (length s.ranges))

pub length-content : (big : Bool) (s : RangeSet) → length (content_bytes big s) ≡ 4 + word_of s.format + padding s.format s.address_size + 2 * s.address_size * (length s.ranges + 1)
unfolding content_bytes
length-content big s =
    omega (arith, length-append (num big 2 2) (num big (word_of s.format) s.unit ++ rest_bytes big s), length-append (num big (word_of s.format) s.unit) (rest_bytes big s), length-num big 2 2, length-num big (word_of s.format) s.unit, length-rest big s)

-- what follows the unit's place
pub rest_written : {a b c d e : Meaning} (s : RangeSet) → Adds a b (s.address_size ∷ 0 ∷ []) → Adds b c (zeros (padding s.format s.address_size)) → Adds c d (flat_map (range_bytes c.is_big s.address_size) s.ranges) → Adds d e (zeros (2 * s.address_size)) →
    Adds a e (rest_bytes a.is_big s)
unfolding rest_bytes
rest_written {a} {b} {c} {d} {e} s p q r t =
    let order : c.is_big ≡ a.is_big = q.same.order ∙ p.same.order in
    Adds-then p (Adds-then q (Adds-then (subst (λ big. Adds c d (flat_map (range_bytes big s.address_size) s.ranges)) order r) t))
