-- The addresses of an item that are spelled are read again, whatever follows them.
use Rattle.std.proofs.Common.{◌≡◌, ◌∙◌, sym, ap, subst, ℕ, zero, suc, ◌^◌, ◌<◌, Bool, true, false, ◌&&◌, List, [], ◌∷◌, ◌++◌, length, Some, None, refl, arith, IsTrue, if◌then◌else◌, append_assoc, length-append, pow-suc}
use Rattle.std.specs.Prelude.{not, ◌==◌}
use Rattle.std.proofs.Math.Nat.{one-le-pow}
use Rattle.std.proofs.lemmas.Bool.{eq-eqb, ne_eqb, and_parts}
use Rattle.std.proofs.lemmas.Option.{none-some}
use Rattle.dw_base.specs.Numbers.{Parser, ◌>>=◌, number_at, num, is_width, fits}
use Rattle.dw_base.specs.Leb128.{uleb_at, uleb}
use Rattle.dw_base.proofs.NumberLaws.{bind_is, number-fits-again}
use Rattle.dw_base.proofs.Leb128Laws.{uleb-again}
use Rattle.dw_writer.specs.Texts.{Text, num_text, followed}
use Rattle.dw_writer.proofs.Laws.{length-num_text}
use Rattle.dw_lists.specs.Kinds.{kinds_of}
use Rattle.dw_lists.specs.Items.{Span, Base, Pair, StartEnd, StartLength, Default, BaseIndex, IndexEnd, IndexLength, marker, old_span, old_span_at, new_span_at, one, two, span_at}
use Rattle.dw_lists.specs.Texts.{old_text, new_text, span_text, close_text}

-- Texts that are there

if_there : (b : Bool) (ys xs : List ℕ) → ◌≡◌ {A = Text} (if b then Some ys else None) (Some xs) → IsTrue b × (ys ≡ xs)
if_there true ys xs e = (refl, cc)
if_there false ys xs e = absurd (none-some _ e)

pub number_there : (big : Bool) (w n : ℕ) (xs : List ℕ) → num_text big w n ≡ Some xs → IsTrue (is_width w) × IsTrue (fits w n) × (num big w n ≡ xs)
unfolding num_text
number_there big w n xs e =
    let p = if_there (is_width w && fits w n) (num big w n) xs e in
    let q = and_parts (is_width w) (fits w n) p.0 in
    (q.0, q.1, p.1)

pub number_read : (big : Bool) (w n : ℕ) (xs rest : List ℕ) → num_text big w n ≡ Some xs → number_at big w (xs ++ rest) ≡ Some (n, rest)
number_read big w n xs rest e =
    let p = number_there big w n xs e in
    subst (λ ys. number_at big w (ys ++ rest) ≡ Some (n, rest)) p.2 (number-fits-again big w n rest p.1)

pub record Two (a b : Text) (zs : List ℕ) : Type 0 where
  pub xs : List ℕ
  pub ys : List ℕ
  pub first : a ≡ Some xs
  pub second : b ≡ Some ys
  pub is : zs ≡ xs ++ ys

pub two_there : (a b : Text) (zs : List ℕ) → followed a b ≡ Some zs → Two a b zs
unfolding followed
two_there None b zs e = absurd (none-some _ e)
two_there (Some xs) None zs e = absurd (none-some _ e)
two_there (Some xs) (Some ys) zs e = record { xs = xs; ys = ys; first = refl; second = refl; is = cc }

-- Addresses up to version 4

-- what is told apart: two zeros are the close, and a marker makes a base
abbrev pub old_told : ℕ → Span → Bool
old_told w (Pair m n) = not (m == n) && not (m == marker w)
old_told w x = true

width_positive : (w : ℕ) → IsTrue (is_width w) → 0 < marker w
width_positive zero h = absurd (let e : IsTrue false = h in cc)
width_positive (suc w) h = omega (arith, pow-suc 256 w, one-le-pow w 256 (omega arith))

base_step : (a0 a1 : Bool) (w a b : ℕ) → a0 ≡ false → a1 ≡ true → (if a0 && (b == 0) then None else Some (if a1 then Base b else Pair a b)) ≡ Some (Base b)
base_step false true w a b e f = refl
base_step true a1 w a b e f = absurd cc
base_step false false w a b e f = absurd cc

two_zeros : (m n : ℕ) → IsTrue (not (m == n)) → ((m == 0) && (n == 0)) ≡ false
two_zeros zero zero h = absurd (let e : IsTrue false = h in cc)
two_zeros zero (suc n) h = ap (λ b. (0 == 0) && b) (ne_eqb (suc n) 0 (λ z. omega (arith, z)))
two_zeros (suc m) n h = ap (λ b. b && (n == 0)) (ne_eqb (suc m) 0 (λ z. omega (arith, z)))

not_true : (b : Bool) → IsTrue (not b) → b ≡ false
not_true false h = refl
not_true true h = absurd (let e : IsTrue false = h in cc)

pair_step : (z a1 : Bool) (a b : ℕ) → z ≡ false → a1 ≡ false → (if z then None else Some (if a1 then Base b else Pair a b)) ≡ Some (Pair a b)
pair_step false false a b e f = refl
pair_step true a1 a b e f = absurd cc
pair_step false true a b e f = absurd cc

same_eqb : (n : ℕ) → (n == n) ≡ true
same_eqb n = eq-eqb n n refl

numbers_read : (big : Bool) (w m n : ℕ) (xs rest : List ℕ) → followed (num_text big w m) (num_text big w n) ≡ Some xs →
    old_span_at big w (xs ++ rest) ≡ Some (old_span w m n, rest)
unfolding old_span_at
numbers_read big w m n xs rest e =
    let p = two_there (num_text big w m) (num_text big w n) xs e in
    ap (old_span_at big w) (ap (λ zs. zs ++ rest) p.is ∙ append_assoc p.xs p.ys rest)
    ∙ bind_is _ (m, p.ys ++ rest) (λ a. number_at big w a.1 >>= λ b. Some (old_span w a.0 b.0, b.1)) (number_read big w m p.xs (p.ys ++ rest) p.first)
    ∙ bind_is _ (n, rest) (λ b. Some (old_span w m b.0, b.1)) (number_read big w n p.ys rest p.second)

old_read : (big : Bool) (w : ℕ) (x : Span) (xs rest : List ℕ) → old_text big w x ≡ Some xs → IsTrue (old_told w x) → old_span_at big w (xs ++ rest) ≡ Some (Some x, rest)
old_read big w (Base n) xs rest e h =
    let p = two_there (num_text big w (marker w)) (num_text big w n) xs e in
    let width = (number_there big w (marker w) p.xs p.first).0 in
    let positive = width_positive w width in
    numbers_read big w (marker w) n xs rest e
    ∙ ap (λ x. Some (x, rest)) (base_step (marker w == 0) (marker w == marker w) w (marker w) n (ne_eqb (marker w) 0 (λ z. omega (arith, positive))) (same_eqb (marker w)))
old_read big w (Pair m n) xs rest e h =
    let p = and_parts (not (m == n)) (not (m == marker w)) h in
    numbers_read big w m n xs rest e
    ∙ ap (λ x. Some (x, rest)) (pair_step ((m == 0) && (n == 0)) (m == marker w) m n (two_zeros m n p.0) (not_true (m == marker w) p.1))
old_read big w (StartEnd m n) xs rest e h = absurd (none-some _ e)
old_read big w (StartLength m n) xs rest e h = absurd (none-some _ e)
old_read big w Default xs rest e h = absurd (none-some _ e)
old_read big w (BaseIndex m) xs rest e h = absurd (none-some _ e)
old_read big w (IndexEnd m n) xs rest e h = absurd (none-some _ e)
old_read big w (IndexLength m n) xs rest e h = absurd (none-some _ e)

-- Addresses of version 5

abbrev pub IsRangedSpan : Span → Type 0
IsRangedSpan (Pair m n) = (m < 2 ^ 64) × (n < 2 ^ 64)
IsRangedSpan (StartLength m k) = k < 2 ^ 64
IsRangedSpan x = Unit {0}

-- what the bytes of an item tell apart from others
abbrev pub IsTold : Bool → ℕ → Span → Type 0
IsTold true w x = IsRangedSpan x
IsTold false w x = IsTrue (old_told w x)

-- a range list has no default location
abbrev pub IsKnown : Bool → Span → Type 0
IsKnown false Default = ⊥
IsKnown loc x = Unit {0}

two_read : (p q : Parser ℕ) (f : ℕ → ℕ → Span) (m n : ℕ) (xs ys rest : List ℕ) → p (xs ++ (ys ++ rest)) ≡ Some (m, ys ++ rest) → q (ys ++ rest) ≡ Some (n, rest) →
    two p q f ((xs ++ ys) ++ rest) ≡ Some (Some (f m n), rest)
two_read p q f m n xs ys rest e h =
    ap (two p q f) (append_assoc xs ys rest)
    ∙ bind_is _ (m, ys ++ rest) (λ a. q a.1 >>= λ b. Some (Some (f a.0 b.0), b.1)) e
    ∙ bind_is _ (n, rest) (λ b. Some (Some (f m b.0), b.1)) h

-- the kinds that both lists have
module _ (big : Bool) (w : ℕ) (bytes : List ℕ) where
  base_kind : (loc : Bool) → new_span_at loc big w ((kinds_of loc).base_address ∷ bytes) ≡ one (number_at big w) Base bytes
  unfolding new_span_at
  base_kind true = refl
  base_kind false = refl

  pair_kind : (loc : Bool) → new_span_at loc big w ((kinds_of loc).offset_pair ∷ bytes) ≡ two uleb_at uleb_at Pair bytes
  unfolding new_span_at
  pair_kind true = refl
  pair_kind false = refl

  ends_kind : (loc : Bool) → new_span_at loc big w ((kinds_of loc).start_end ∷ bytes) ≡ two (number_at big w) (number_at big w) StartEnd bytes
  unfolding new_span_at
  ends_kind true = refl
  ends_kind false = refl

  length_kind : (loc : Bool) → new_span_at loc big w ((kinds_of loc).start_length ∷ bytes) ≡ two (number_at big w) uleb_at StartLength bytes
  unfolding new_span_at
  length_kind true = refl
  length_kind false = refl

  close_kind : (loc : Bool) → new_span_at loc big w ((kinds_of loc).end_of_list ∷ bytes) ≡ Some (None, bytes)
  unfolding new_span_at
  close_kind true = refl
  close_kind false = refl

  default_kind : new_span_at true big w (5 ∷ bytes) ≡ Some (Some Default, bytes)
  unfolding new_span_at
  default_kind = refl

one_byte : (n : ℕ) (xs ys : List ℕ) (is : ◌≡◌ {A = Text} (Some (n ∷ [])) (Some xs)) → xs ++ ys ≡ n ∷ ys
one_byte n xs ys is = let k : ◌≡◌ {A = List ℕ} (n ∷ []) xs = cc in ap (λ zs. zs ++ ys) (sym k)

new_read : (loc big : Bool) (w : ℕ) (x : Span) (xs rest : List ℕ) → new_text (kinds_of loc) big w x ≡ Some xs → IsRangedSpan x → IsKnown loc x → new_span_at loc big w (xs ++ rest) ≡ Some (Some x, rest)
new_read loc big w (Base n) xs rest e h known =
    let p = two_there (Some ((kinds_of loc).base_address ∷ [])) (num_text big w n) xs e in
    ap (λ zs. new_span_at loc big w (zs ++ rest)) (p.is ∙ one_byte (kinds_of loc).base_address p.xs p.ys p.first)
    ∙ base_kind big w (p.ys ++ rest) loc
    ∙ bind_is _ (n, rest) (λ a. Some (Some (Base a.0), a.1)) (number_read big w n p.ys rest p.second)
new_read loc big w (Pair m n) xs rest e h known =
    let k : ◌≡◌ {A = List ℕ} ((kinds_of loc).offset_pair ∷ uleb m ++ uleb n) xs = cc in
    ap (λ zs. new_span_at loc big w (zs ++ rest)) (sym k)
    ∙ pair_kind big w ((uleb m ++ uleb n) ++ rest) loc
    ∙ two_read uleb_at uleb_at Pair m n (uleb m) (uleb n) rest (uleb-again m (uleb n ++ rest) h.0) (uleb-again n rest h.1)
new_read loc big w (StartEnd m n) xs rest e h known =
    let p = two_there (Some ((kinds_of loc).start_end ∷ [])) (followed (num_text big w m) (num_text big w n)) xs e in
    let q = two_there (num_text big w m) (num_text big w n) p.ys p.second in
    ap (λ zs. new_span_at loc big w (zs ++ rest)) (p.is ∙ one_byte (kinds_of loc).start_end p.xs p.ys p.first ∙ ap (λ zs. (kinds_of loc).start_end ∷ zs) q.is)
    ∙ ends_kind big w ((q.xs ++ q.ys) ++ rest) loc
    ∙ two_read (number_at big w) (number_at big w) StartEnd m n q.xs q.ys rest (number_read big w m q.xs (q.ys ++ rest) q.first) (number_read big w n q.ys rest q.second)
new_read loc big w (StartLength m n) xs rest e h known =
    let p = two_there (Some ((kinds_of loc).start_length ∷ [])) (followed (num_text big w m) (Some (uleb n))) xs e in
    let q = two_there (num_text big w m) (Some (uleb n)) p.ys p.second in
    let u : uleb n ≡ q.ys = (let f = q.second in cc) in
    ap (λ zs. new_span_at loc big w (zs ++ rest)) (p.is ∙ one_byte (kinds_of loc).start_length p.xs p.ys p.first ∙ ap (λ zs. (kinds_of loc).start_length ∷ zs) q.is)
    ∙ length_kind big w ((q.xs ++ q.ys) ++ rest) loc
    ∙ two_read (number_at big w) uleb_at StartLength m n q.xs q.ys rest (number_read big w m q.xs (q.ys ++ rest) q.first)
    (subst (λ ys. uleb_at (ys ++ rest) ≡ Some (n, rest)) u (uleb-again n rest h))
new_read true big w Default xs rest e h known =
    let k : ◌≡◌ {A = List ℕ} (5 ∷ []) xs = cc in
    ap (λ zs. new_span_at true big w (zs ++ rest)) (sym k) ∙ default_kind big w rest
new_read false big w Default xs rest e h known = absurd known
new_read loc big w (BaseIndex m) xs rest e h known = absurd (none-some _ e)
new_read loc big w (IndexEnd m n) xs rest e h known = absurd (none-some _ e)
new_read loc big w (IndexLength m n) xs rest e h known = absurd (none-some _ e)

-- Either version

pub span_read : (five loc big : Bool) (w : ℕ) (x : Span) (xs rest : List ℕ) → span_text five (kinds_of loc) big w x ≡ Some xs → IsTold five w x → IsKnown loc x → span_at five loc big w (xs ++ rest) ≡ Some (Some x, rest)
span_read true loc big w x xs rest e h known = new_read loc big w x xs rest e h known
span_read false loc big w x xs rest e h known = old_read big w x xs rest e h

pub close_read : (five loc big : Bool) (w : ℕ) (xs rest : List ℕ) → close_text five (kinds_of loc) big w ≡ Some xs → span_at five loc big w (xs ++ rest) ≡ Some (None, rest)
close_read true loc big w xs rest e =
    ap (new_span_at loc big w) (one_byte (kinds_of loc).end_of_list xs rest e) ∙ close_kind big w rest loc
close_read false loc big w xs rest e = numbers_read big w 0 0 xs rest e

width_long : (big : Bool) (w n : ℕ) (xs : List ℕ) → num_text big w n ≡ Some xs → 0 < length xs
width_long big w n xs e =
    let long = length-num_text big w n xs e in
    let wide = positive w (number_there big w n xs e).0 in
    omega (arith, long, wide)
  where
    positive : (w : ℕ) → IsTrue (is_width w) → 0 < w
    positive zero h = absurd (let e : IsTrue false = h in cc)
    positive (suc w) h = omega arith

two_long : (a b : Text) (xs : List ℕ) → ((ys : List ℕ) → a ≡ Some ys → 0 < length ys) → followed a b ≡ Some xs → 0 < length xs
two_long a b xs h e = let p = two_there a b xs e in omega (arith, h p.xs p.first, ap length p.is, length-append p.xs p.ys)

some_long : (n : ℕ) (ys : List ℕ) → ◌≡◌ {A = Text} (Some (n ∷ [])) (Some ys) → 0 < length ys
some_long n ys e = let k : ◌≡◌ {A = List ℕ} (n ∷ []) ys = cc in omega (arith, ap length k)

pub span_long : (five loc big : Bool) (w : ℕ) (x : Span) (xs : List ℕ) → span_text five (kinds_of loc) big w x ≡ Some xs → 0 < length xs
span_long true loc big w (Base n) xs e = two_long (Some ((kinds_of loc).base_address ∷ [])) (num_text big w n) xs (some_long (kinds_of loc).base_address) e
span_long true loc big w (Pair m n) xs e = let k : ◌≡◌ {A = List ℕ} ((kinds_of loc).offset_pair ∷ uleb m ++ uleb n) xs = cc in omega (arith, ap length k)
span_long true loc big w (StartEnd m n) xs e = two_long (Some ((kinds_of loc).start_end ∷ [])) (followed (num_text big w m) (num_text big w n)) xs (some_long (kinds_of loc).start_end) e
span_long true loc big w (StartLength m n) xs e = two_long (Some ((kinds_of loc).start_length ∷ [])) (followed (num_text big w m) (Some (uleb n))) xs (some_long (kinds_of loc).start_length) e
span_long true loc big w Default xs e = some_long 5 xs e
span_long true loc big w (BaseIndex m) xs e = absurd (none-some _ e)
span_long true loc big w (IndexEnd m n) xs e = absurd (none-some _ e)
span_long true loc big w (IndexLength m n) xs e = absurd (none-some _ e)
span_long false loc big w (Base n) xs e = two_long (num_text big w (marker w)) (num_text big w n) xs (width_long big w (marker w)) e
span_long false loc big w (Pair m n) xs e = two_long (num_text big w m) (num_text big w n) xs (width_long big w m) e
span_long false loc big w (StartEnd m n) xs e = absurd (none-some _ e)
span_long false loc big w (StartLength m n) xs e = absurd (none-some _ e)
span_long false loc big w Default xs e = absurd (none-some _ e)
span_long false loc big w (BaseIndex m) xs e = absurd (none-some _ e)
span_long false loc big w (IndexEnd m n) xs e = absurd (none-some _ e)
span_long false loc big w (IndexLength m n) xs e = absurd (none-some _ e)

pub close_long : (five loc big : Bool) (w : ℕ) (xs : List ℕ) → close_text five (kinds_of loc) big w ≡ Some xs → 0 < length xs
close_long true loc big w xs e = some_long (kinds_of loc).end_of_list xs e
close_long false loc big w xs e = two_long (num_text big w 0) (num_text big w 0) xs (width_long big w 0) e
