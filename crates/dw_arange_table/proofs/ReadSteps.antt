-- What calls that read sets of address ranges answer, from what the calls in them answered.
use Rattle.std.proofs.Common.{◌≡◌, ◌∙◌, sym, ap, subst, ℕ, zero, suc, ◌+◌, ◌<◌, ◌≤◌, List, [], ◌∷◌, ◌++◌, length, take, drop, Option, Some, None, Bool, true, false, not, Result, Ok, Err, IsTrue, refl, arith, append_assoc, length-drop, nat_le}
use Rattle.std.proofs.lemmas.Bool.{leb-true}
use borrow.Author.Tests.{ne_eqb, eq-eqb}
use Rattle.dw_base.specs.Numbers.{◌>>=◌, when, bytes_at, number_at, value_of, word_of, is_width, initial_length_at, length_size}
use Rattle.dw_base.specs.declared.common.Format.{Format}
use Rattle.dw_base.specs.declared.common.Format.TheVariants.{Dwarf32, Dwarf64}
use Rattle.dw_base.proofs.NumberLaws.{bind_parts, when_same}
use Rattle.dw_read.specs.Reading.{Reading, Reads, left}
use Rattle.dw_read.specs.Reasons.{◌=>>◌, bytes_read, number_read, initial_length_read}
use Rattle.dw_read.specs.declared.error.ReadError.{ReadError}
use Rattle.dw_read.specs.declared.error.ReadError.TheVariants.{UnknownVersion, UnsupportedAddressSize, UnsupportedSegmentSize}
use Rattle.dw_read.proofs.Laws.{read_is, initial_length_law}
use Rattle.dw_arange_table.specs.declared.range.RangeDescriptor.{RangeDescriptor}
use Rattle.dw_arange_table.specs.Sets.{RangeSet, is_end}
use Rattle.dw_arange_table.specs.Bytes.{padding}
use Rattle.dw_arange_table.specs.Reading.{range_of, range_at, ranges_up_to, ranges_in, fields_read, set_read, sets_up_to, sets_read}

-- Ranges

pub no_address : (big : Bool) (w : ℕ) (bs : List ℕ) → number_at big w bs ≡ None → range_at big w bs ≡ None
unfolding range_at
no_address big w bs h = rw h refl

pub no_length : (big : Bool) (w a : ℕ) (bs mid : List ℕ) → number_at big w bs ≡ Some (a, mid) → number_at big w mid ≡ None → range_at big w bs ≡ None
unfolding range_at
no_length big w a bs mid h k = rw (h, k) refl

pub two_zeros : (big : Bool) (w a n : ℕ) (bs mid rest : List ℕ) → number_at big w bs ≡ Some (a, mid) → number_at big w mid ≡ Some (n, rest) → is_end (range_of a n) ≡ true → range_at big w bs ≡ None
unfolding range_at
two_zeros big w a n bs mid rest h k e = rw (h, k, e) refl

pub one_range : (big : Bool) (w a n : ℕ) (bs mid rest : List ℕ) → number_at big w bs ≡ Some (a, mid) → number_at big w mid ≡ Some (n, rest) → is_end (range_of a n) ≡ false → range_at big w bs ≡ Some (range_of a n, rest)
unfolding range_at
one_range big w a n bs mid rest h k e = rw (h, k, e) refl

when_true : {A : Type 0} (b : Bool) (x : Option A) (v : A) → when b x ≡ Some v → b ≡ true
when_true true x v e = refl
when_true false x v e = absurd (cc)

number_shorter : (big : Bool) (w : ℕ) (bs : List ℕ) (x : ℕ × List ℕ) → number_at big w bs ≡ Some x → length x.1 + w ≡ length bs
unfolding number_at bytes_at
number_shorter big w bs x e =
    let p = bind_parts (when (nat_le w (length bs)) (Some (take w bs, drop w bs))) (λ (y : List ℕ × List ℕ). Some (value_of big y.0, y.1)) x e in
    let s : Some (take w bs, drop w bs) ≡ Some p.0 = when_same (nat_le w (length bs)) (Some (take w bs, drop w bs)) p.0 p.1 in
    let within : w ≤ length bs = leb-true w (length bs) (when_true (nat_le w (length bs)) (Some (take w bs, drop w bs)) p.0 p.1) in
    let q : (take w bs, drop w bs) ≡ p.0 = cc s in
    let f : Some (value_of big p.0.0, p.0.1) ≡ Some x = p.2 in
    let r : (value_of big p.0.0, p.0.1) ≡ x = cc f in
    let a : drop w bs ≡ p.0.1 = ap (λ (y : List ℕ × List ℕ). y.1) q in
    let b : p.0.1 ≡ x.1 = ap (λ (y : ℕ × List ℕ). y.1) r in
    omega (arith, length-drop w bs, ap length a, ap length b)

-- a range takes a byte at least
pub range_shorter : (big : Bool) (w : ℕ) (bs : List ℕ) (x : RangeDescriptor × List ℕ) → 0 < w → range_at big w bs ≡ Some x → length x.1 < length bs
unfolding range_at
range_shorter big w bs x positive e =
    let p = bind_parts (number_at big w bs) (λ (y : ℕ × List ℕ). number_at big w y.1 >>= λ size. when (not (is_end (range_of y.0 size.0))) (Some (range_of y.0 size.0, size.1))) x e in
    let q = bind_parts (number_at big w p.0.1) (λ (size : ℕ × List ℕ). when (not (is_end (range_of p.0.0 size.0))) (Some (range_of p.0.0 size.0, size.1))) x p.2 in
    let s : Some (range_of p.0.0 q.0.0, q.0.1) ≡ Some x = when_same _ (Some (range_of p.0.0 q.0.0, q.0.1)) x q.2 in
    let r : (range_of p.0.0 q.0.0, q.0.1) ≡ x = cc s in
    let b : q.0.1 ≡ x.1 = ap (λ (y : RangeDescriptor × List ℕ). y.1) r in
    omega (arith, number_shorter big w bs p.0 p.1, number_shorter big w p.0.1 q.0 q.1, ap length b)

pub width_positive : (w : ℕ) → IsTrue (is_width w) → 0 < w
width_positive zero h = absurd (let e : false ≡ true = h in cc)
width_positive (suc w) h = omega arith

pub ranges_end : (most : ℕ) (big : Bool) (w : ℕ) (bs : List ℕ) → range_at big w bs ≡ None → ranges_up_to most big w bs ≡ []
unfolding ranges_up_to
ranges_end zero big w bs h = refl
ranges_end (suc most) big w bs h = rw h refl

-- the ranges so far, and those of what is left, are all
pub record Ranges (big : Bool) (w : ℕ) (bytes : List ℕ) (front : List RangeDescriptor) (rest : List ℕ) : Type 0 where
  pub most : ℕ
  pub enough : length rest ≤ most
  pub is : front ++ ranges_up_to most big w rest ≡ ranges_in big w bytes

pub ranges_none : (big : Bool) (w : ℕ) (bytes : List ℕ) → Ranges big w bytes [] bytes
ranges_none big w bytes = record { most = length bytes; enough = omega arith; is = refl }

append-nothing : (xs : List RangeDescriptor) → xs ++ [] ≡ xs
append-nothing [] = refl
append-nothing (x ∷ xs) = ap (λ l. x ∷ l) (append-nothing xs)

pub ranges_all : (big : Bool) (w : ℕ) (bytes : List ℕ) (front : List RangeDescriptor) (rest : List ℕ) → Ranges big w bytes front rest → range_at big w rest ≡ None → front ≡ ranges_in big w bytes
ranges_all big w bytes front rest c h = sym (append-nothing front) ∙ sym (ap (λ l. front ++ l) (ranges_end c.most big w rest h)) ∙ c.is

ranges_step : (most : ℕ) (big : Bool) (w : ℕ) (bytes : List ℕ) (front : List RangeDescriptor) (r : RangeDescriptor) (rest more : List ℕ) → length rest ≤ most → front ++ ranges_up_to most big w rest ≡ ranges_in big w bytes → range_at big w rest ≡ Some (r, more) → length more < length rest →
    Ranges big w bytes (front ++ r ∷ []) more
unfolding ranges_up_to
ranges_step zero big w bytes front r rest more h is e s = absurd (omega arith)
ranges_step (suc most) big w bytes front r rest more h is e s = record {
  most = most;
  enough = omega arith;
  is = append_assoc front (r ∷ []) (ranges_up_to most big w more) ∙ (let k = rw e at is in k);
}

pub ranges_more : (big : Bool) (w : ℕ) (bytes : List ℕ) (front next : List RangeDescriptor) (r : RangeDescriptor) (rest more : List ℕ) → Ranges big w bytes front rest → range_at big w rest ≡ Some (r, more) → length more < length rest → next ≡ front ++ r ∷ [] →
    Ranges big w bytes next more
ranges_more big w bytes front next r rest more c e s q =
    subst (λ l. Ranges big w bytes l more) (sym q) (ranges_step c.most big w bytes front r rest more c.enough c.is e s)

-- Fields

pub no_version : (big : Bool) (f : Format) (bs : List ℕ) (e : ReadError) → number_read big 2 bs ≡ Err e → fields_read big f bs ≡ Err e
unfolding fields_read
no_version big f bs e h = rw h refl

pub bad_version : (big : Bool) (f : Format) (v : ℕ) (bs r : List ℕ) → number_read big 2 bs ≡ Ok (v, r) → (v ≡ 2 → ⊥) → fields_read big f bs ≡ Err (UnknownVersion v)
unfolding fields_read
bad_version big f v bs r h z = rw (h, ne_eqb v 2 z) refl

pub no_unit : (big : Bool) (f : Format) (v : ℕ) (bs r : List ℕ) (e : ReadError) → number_read big 2 bs ≡ Ok (v, r) → v ≡ 2 → number_read big (word_of f) r ≡ Err e → fields_read big f bs ≡ Err e
unfolding fields_read
no_unit big f v bs r e h z k = rw (h, eq-eqb v 2 z, k) refl

pub no_size : (big : Bool) (f : Format) (v u : ℕ) (bs r s : List ℕ) (e : ReadError) → number_read big 2 bs ≡ Ok (v, r) → v ≡ 2 → number_read big (word_of f) r ≡ Ok (u, s) → number_read big 1 s ≡ Err e → fields_read big f bs ≡ Err e
unfolding fields_read
no_size big f v u bs r s e h z k l = rw (h, eq-eqb v 2 z, k, l) refl

pub bad_size : (big : Bool) (f : Format) (v u n : ℕ) (bs r s t : List ℕ) → number_read big 2 bs ≡ Ok (v, r) → v ≡ 2 → number_read big (word_of f) r ≡ Ok (u, s) → number_read big 1 s ≡ Ok (n, t) → is_width n ≡ false → fields_read big f bs ≡ Err (UnsupportedAddressSize n)
unfolding fields_read
bad_size big f v u n bs r s t h z k l w = rw (h, eq-eqb v 2 z, k, l, w) refl

pub no_selector : (big : Bool) (f : Format) (v u n : ℕ) (bs r s t : List ℕ) (e : ReadError) → number_read big 2 bs ≡ Ok (v, r) → v ≡ 2 → number_read big (word_of f) r ≡ Ok (u, s) → number_read big 1 s ≡ Ok (n, t) → is_width n ≡ true → number_read big 1 t ≡ Err e → fields_read big f bs ≡ Err e
unfolding fields_read
no_selector big f v u n bs r s t e h z k l w m = rw (h, eq-eqb v 2 z, k, l, w, m) refl

pub bad_selector : (big : Bool) (f : Format) (v u n g : ℕ) (bs r s t x : List ℕ) → number_read big 2 bs ≡ Ok (v, r) → v ≡ 2 → number_read big (word_of f) r ≡ Ok (u, s) → number_read big 1 s ≡ Ok (n, t) → is_width n ≡ true → number_read big 1 t ≡ Ok (g, x) → (g ≡ 0 → ⊥) →
    fields_read big f bs ≡ Err (UnsupportedSegmentSize g)
unfolding fields_read
bad_selector big f v u n g bs r s t x h z k l w m y = rw (h, eq-eqb v 2 z, k, l, w, m, ne_eqb g 0 y) refl

pub no_padding : (big : Bool) (f : Format) (v u n g : ℕ) (bs r s t x : List ℕ) (e : ReadError) → number_read big 2 bs ≡ Ok (v, r) → v ≡ 2 → number_read big (word_of f) r ≡ Ok (u, s) → number_read big 1 s ≡ Ok (n, t) → is_width n ≡ true → number_read big 1 t ≡ Ok (g, x) → g ≡ 0 →
    bytes_read (padding f n) x ≡ Err e → fields_read big f bs ≡ Err e
unfolding fields_read
no_padding big f v u n g bs r s t x e h z k l w m y p = rw (h, eq-eqb v 2 z, k, l, w, m, eq-eqb g 0 y, p) refl

pub whole_fields : (big : Bool) (f : Format) (v u n g : ℕ) (bs r s t x q rest : List ℕ) → number_read big 2 bs ≡ Ok (v, r) → v ≡ 2 → number_read big (word_of f) r ≡ Ok (u, s) → number_read big 1 s ≡ Ok (n, t) → is_width n ≡ true → number_read big 1 t ≡ Ok (g, x) → g ≡ 0 →
    bytes_read (padding f n) x ≡ Ok (q, rest) → fields_read big f bs ≡ Ok ((u, n), rest)
unfolding fields_read
whole_fields big f v u n g bs r s t x q rest h z k l w m y p = rw (h, eq-eqb v 2 z, k, l, w, m, eq-eqb g 0 y, p) refl

-- Sets

pub length_positive : (f : Format) → 0 < length_size f
length_positive Dwarf32 = omega arith
length_positive Dwarf64 = omega arith

pub length_took : (old mid : Reading) (f : Format) (n : ℕ) → Reads (Format × ℕ) (initial_length_at old.is_big) old mid (f, n) → initial_length_read old.is_big (left old) ≡ Ok ((f, n), left mid)
length_took old mid f n h = read_is (Format × ℕ) (initial_length_at old.is_big) (initial_length_read old.is_big) (left old) ((f, n), left mid) (initial_length_law old.is_big) h.value

pub set_no_length : (big : Bool) (bs : List ℕ) (e : ReadError) → initial_length_read big bs ≡ Err e → set_read big bs ≡ Err e
unfolding set_read
set_no_length big bs e h = rw h refl

pub set_cut : (big : Bool) (f : Format) (n : ℕ) (bs mid : List ℕ) (e : ReadError) → initial_length_read big bs ≡ Ok ((f, n), mid) → bytes_read n mid ≡ Err e → set_read big bs ≡ Err e
unfolding set_read
set_cut big f n bs mid e h k = rw (h, k) refl

pub set_no_fields : (big : Bool) (f : Format) (n : ℕ) (bs mid content rest : List ℕ) (e : ReadError) → initial_length_read big bs ≡ Ok ((f, n), mid) → bytes_read n mid ≡ Ok (content, rest) → fields_read big f content ≡ Err e → set_read big bs ≡ Err e
unfolding set_read
set_no_fields big f n bs mid content rest e h k l = rw (h, k, l) refl

pub whole_set : (big : Bool) (f : Format) (n u w : ℕ) (bs mid content rest more : List ℕ) → initial_length_read big bs ≡ Ok ((f, n), mid) → bytes_read n mid ≡ Ok (content, rest) → fields_read big f content ≡ Ok ((u, w), more) →
    set_read big bs ≡ Ok (record { format = f; address_size = w; unit = u; ranges = ranges_in big w more }, rest)
unfolding set_read
whole_set big f n u w bs mid content rest more h k l = rw (h, k, l) refl

-- the sets so far, and those of what is left, are all
pub record SetsSoFar (big : Bool) (bytes : List ℕ) (front : List RangeSet) (rest : List ℕ) : Type 0 where
  pub most : ℕ
  pub enough : length rest ≤ most
  pub is : (sets_up_to most big rest =>> λ others. Ok (front ++ others)) ≡ sets_read big bytes

then_same : {A : Type 0} (r : Result A ReadError) → (r =>> λ x. Ok x) ≡ r
then_same (Ok x) = refl
then_same (Err e) = refl

pub sets_none : (big : Bool) (bytes : List ℕ) → SetsSoFar big bytes [] bytes
sets_none big bytes = record { most = length bytes; enough = omega arith; is = then_same (sets_up_to (length bytes) big bytes) }

sets_end : (most : ℕ) (big : Bool) (rest : List ℕ) → length rest ≡ 0 → sets_up_to most big rest ≡ Ok []
unfolding sets_up_to
sets_end zero big [] h = refl
sets_end (suc most) big [] h = refl
sets_end most big (b ∷ bs) h = absurd (omega arith)

append-none : (xs : List RangeSet) → xs ++ [] ≡ xs
append-none [] = refl
append-none (x ∷ xs) = ap (λ l. x ∷ l) (append-none xs)

pub sets_all : (big : Bool) (bytes : List ℕ) (front : List RangeSet) (rest : List ℕ) → SetsSoFar big bytes front rest → length rest ≡ 0 → sets_read big bytes ≡ Ok front
sets_all big bytes front rest c h = sym c.is ∙ ap (λ r. r =>> λ others. Ok (front ++ others)) (sets_end c.most big rest h) ∙ ap Ok (append-none front)

-- a set that is there, and those behind it
sets_step : (most : ℕ) (big : Bool) (rest : List ℕ) → 0 < length rest → length rest ≤ most → (k : ℕ) × (most ≡ suc k) × (sets_up_to most big rest ≡ (set_read big rest =>> λ s. sets_up_to k big s.1 =>> λ others. Ok (s.0 ∷ others)))
unfolding sets_up_to
sets_step most big [] p h = absurd (omega arith)
sets_step zero big (b ∷ bs) p h = absurd (omega arith)
sets_step (suc k) big (b ∷ bs) p h = (k, refl, refl)

pub sets_err : (big : Bool) (bytes : List ℕ) (front : List RangeSet) (rest : List ℕ) (e : ReadError) → SetsSoFar big bytes front rest → 0 < length rest → set_read big rest ≡ Err e → sets_read big bytes ≡ Err e
sets_err big bytes front rest e c p h =
    let s = sets_step c.most big rest p c.enough in
    sym c.is ∙ ap (λ r. r =>> λ others. Ok (front ++ others)) (s.2 ∙ ap (λ r. r =>> λ x. sets_up_to s.0 big x.1 =>> λ others. Ok (x.0 ∷ others)) h)

regroup : (front : List RangeSet) (s : RangeSet) (r : Result (List RangeSet) ReadError) → (r =>> λ others. Ok ((front ++ s ∷ []) ++ others)) ≡ ((r =>> λ others. Ok (s ∷ others)) =>> λ others. Ok (front ++ others))
regroup front s (Ok x) = ap Ok (append_assoc front (s ∷ []) x)
regroup front s (Err e) = refl

pub sets_more : (big : Bool) (bytes : List ℕ) (front next : List RangeSet) (s : RangeSet) (rest more : List ℕ) → SetsSoFar big bytes front rest → 0 < length rest → set_read big rest ≡ Ok (s, more) → length more < length rest → next ≡ front ++ s ∷ [] → SetsSoFar big bytes next more
sets_more big bytes front next s rest more c p h l q =
    let t = sets_step c.most big rest p c.enough in
    subst (λ x. SetsSoFar big bytes x more) (sym q)
    (record {
      most = t.0;
      enough = omega (arith, c.enough, t.1);
      is = regroup front s (sets_up_to t.0 big more)
          ∙ sym (ap (λ r. r =>> λ others. Ok (front ++ others)) (t.2 ∙ ap (λ r. r =>> λ x. sets_up_to t.0 big x.1 =>> λ others. Ok (x.0 ∷ others)) h))
          ∙ c.is;
    })
