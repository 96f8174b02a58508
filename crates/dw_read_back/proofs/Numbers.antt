-- Numbers, bytes and texts that stand in front of others are read again.
use Rattle.std.proofs.Common.{◌≡◌, ◌∙◌, sym, ap, subst, refl, ℕ, suc, ◌-◌, ◌^◌, ◌<◌, Bool, true, false, ◌&&◌, List, [], ◌∷◌, ◌++◌, length, Option, Some, None, Ok, ℤ, pos, negsuc, IsTrue, nat_lt, if◌then◌else◌, arith, append_assoc}
use Rattle.std.proofs.lemmas.Bool.{lt-ltb, le-ltb, ltb-true, ne_eqb}
use Rattle.std.proofs.lemmas.Option.{none-some}
use Rattle.dw_base.specs.Numbers.{◌>>=◌, num, fits, is_width, value_of, number_at}
use Rattle.dw_base.specs.Leb128.{uleb, sleb, fits_i64, groups_at, uleb_at, uleb16_at, sleb_at}
use Rattle.dw_base.proofs.NumberLaws.{number_at_is, number-fits-again, bytes_at-again}
use Rattle.dw_base.proofs.Leb128Laws.{uleb-again, uleb16-again, sleb-again}
use Rattle.dw_writer.specs.Texts.{Text, num_text, followed}
use Rattle.dw_writer.specs.SignedNumbers.{signed_fits, signed_num, twos_complement}
use Rattle.dw_writer.proofs.Parts.{followed-nothing}
use Rattle.dw_read.specs.Reading.{Read}
use Rattle.dw_read.specs.Reasons.{◌=>>◌, if_so, bytes_read, number_read, uleb_read, uleb16_read, sleb_read, address_read}
use Rattle.dw_read.specs.declared.error.ReadError.TheVariants.{BadLeb128, UnsupportedAddressSize}
use Rattle.dw_read.proofs.Laws.{read_is, number_law, uleb_law, uleb16_law, sleb_law, bytes_law}
use Rattle.dw_sources.specs.Operations.{Operation}
use Rattle.dw_sources.specs.Operands.{signed_of, signed_read, uleb32_read, base_of, base_read, block_read, short_block_read}
use Rattle.dw_sources.specs.OperationTable.{one, two}

-- what stands in front is read as a value that is there, whatever follows it
pub record IsAgain (A : Type 0) (p : Read A) (v : Option A) (bytes : List ℕ) : Type 0 where
  pub value : A
  pub is : v ≡ Some value
  pub reads : (rest : List ℕ) → p (bytes ++ rest) ≡ Ok (value, rest)

-- a text, where it is there, is read so
abbrev pub Again : (A : Type 0) → Read A → Option A → Text → Type 0
Again A p v t = (bytes : List ℕ) → t ≡ Some bytes → IsAgain A p v bytes

some_same : {A : Type 0} (x y : A) → Some x ≡ Some y → x ≡ y
some_same x y h = cc

-- these bytes are read as a value
pub again_bytes : (A : Type 0) (p : Read A) (x : A) (xs : List ℕ) → ((rest : List ℕ) → p (xs ++ rest) ≡ Ok (x, rest)) → Again A p (Some x) (Some xs)
again_bytes A p x xs h bytes e = record { value = x; is = refl; reads = λ rest. ap (λ ys. p (ys ++ rest)) (sym (some_same xs bytes e)) ∙ h rest }

-- a text that isn't there
pub again_none : (A : Type 0) (p : Read A) (v : Option A) → Again A p v None
again_none A p v bytes e = absurd (none-some bytes e)

-- Texts one behind another

pub followed_parts : (t u : Text) (bytes : List ℕ) → followed t u ≡ Some bytes → (xs : List ℕ) × (ys : List ℕ) × (t ≡ Some xs) × (u ≡ Some ys) × (xs ++ ys ≡ bytes)
unfolding followed
followed_parts None u bytes h = absurd (none-some bytes h)
followed_parts (Some xs) None bytes h = absurd (none-some bytes h)
followed_parts (Some xs) (Some ys) bytes h = (xs, ys, refl, refl, some_same (xs ++ ys) bytes h)

-- a text in front of nothing
pub again_last : (A : Type 0) (p : Read A) (v : Option A) (t : Text) → Again A p v t → Again A p v (followed t (Some []))
again_last A p v t h = subst (λ u. Again A p v u) (sym (followed-nothing t)) h

-- one operand, and two of them
pub one_again : (A : Type 0) (p : Read A) (f : A → Operation) (v : Option A) (t : Text) → Again A p v t → Again Operation (one p f) (v >>= λ a. Some (f a)) t
one_again A p f v t h bytes e =
    let a = h bytes e in
    record { value = f a.value; is = ap (λ o. o >>= λ x. Some (f x)) a.is; reads = λ rest. ap (λ r. r =>> λ x. Ok (f x.0, x.1)) (a.reads rest) }

pub two_again : (A B : Type 0) (p : Read A) (q : Read B) (f : A → B → Operation) (v : Option A) (w : Option B) (t u : Text) → Again A p v t → Again B q w u →
    Again Operation (two p q f) (v >>= λ a. w >>= λ b. Some (f a b)) (followed t u)
two_again A B p q f v w t u h k bytes e =
    let s = followed_parts t u bytes e in
    let a = h s.0 s.2 in
    let b = k s.1 s.3 in
    record {
      value = f a.value b.value;
      is = ap (λ o. o >>= λ x. w >>= λ y. Some (f x y)) a.is ∙ ap (λ o. o >>= λ y. Some (f a.value y)) b.is;
      reads = λ rest.
          ap (two p q f) (ap (λ xs. xs ++ rest) (sym s.4) ∙ append_assoc s.0 s.1 rest)
          ∙ ap (λ r. r =>> λ x. q x.1 =>> λ y. Ok (f x.0 y.0, y.1)) (a.reads (s.1 ++ rest))
          ∙ ap (λ r. r =>> λ y. Ok (f a.value y.0, y.1)) (b.reads rest);
    }

-- Numbers

pub byte_read : (big : Bool) (n : ℕ) (rest : List ℕ) → number_read big 1 (n ∷ rest) ≡ Ok (n, rest)
byte_read big n rest = read_is ℕ (number_at big 1) (number_read big 1) (n ∷ rest) (n, rest) (number_law big 1) (number_at_is big 1 (n ∷ []) rest refl ∙ ap (λ k. Some (k, rest)) (value big))
  where
    value : (big : Bool) → value_of big (n ∷ []) ≡ n
    value true = omega arith
    value false = omega arith

pub byte_again : (big : Bool) (n : ℕ) → Again ℕ (number_read big 1) (Some n) (Some (n ∷ []))
byte_again big n = again_bytes ℕ (number_read big 1) n (n ∷ []) (byte_read big n)

pub uleb_again : (n : ℕ) → n < 2 ^ 64 → Again ℕ uleb_read (Some n) (Some (uleb n))
uleb_again n h = again_bytes ℕ uleb_read n (uleb n) (λ rest. read_is ℕ uleb_at uleb_read (uleb n ++ rest) (n, rest) uleb_law (uleb-again n rest h))

pub uleb16_again : (n : ℕ) → n < 2 ^ 16 → Again ℕ uleb16_read (Some n) (Some (uleb n))
uleb16_again n h = again_bytes ℕ uleb16_read n (uleb n) (λ rest. read_is ℕ uleb16_at uleb16_read (uleb n ++ rest) (n, rest) uleb16_law (uleb16-again n rest h))

pub uleb32_again : (n : ℕ) → n < 2 ^ 32 → Again ℕ uleb32_read (Some n) (Some (uleb n))
unfolding uleb32_read
uleb32_again n h =
    again_bytes ℕ uleb32_read n (uleb n) (λ rest.
    ap (λ r. r =>> λ x. if_so (nat_lt x.0 (2 ^ 32)) BadLeb128 (Ok x)) (read_is ℕ uleb_at uleb_read (uleb n ++ rest) (n, rest) uleb_law (uleb-again n rest (omega (arith, h))))
    ∙ ap (λ b. if_so b BadLeb128 (Ok (n, rest))) (lt-ltb _ _ h))

pub sleb_again : (z : ℤ) → IsTrue (fits_i64 z) → Again ℤ sleb_read (Some z) (Some (sleb z))
sleb_again z h = again_bytes ℤ sleb_read z (sleb z) (λ rest. read_is ℤ sleb_at sleb_read (sleb z ++ rest) (z, rest) sleb_law (sleb-again z rest h))

-- a number of a width is there where it fits
both : (b c : Bool) (xs ys : List ℕ) → (if b && c then Some xs else None) ≡ Some ys → IsTrue b × IsTrue c × (xs ≡ ys)
both true true xs ys h = (refl, refl, some_same xs ys h)
both true false xs ys h = absurd (none-some ys h)
both false c xs ys h = absurd (none-some ys h)

pub num_parts : (big : Bool) (w n : ℕ) (bytes : List ℕ) → num_text big w n ≡ Some bytes → IsTrue (is_width w) × IsTrue (fits w n) × (num big w n ≡ bytes)
unfolding num_text
num_parts big w n bytes h = both (is_width w) (fits w n) (num big w n) bytes h

number_again_read : (big : Bool) (w n : ℕ) (rest : List ℕ) → IsTrue (fits w n) → number_read big w (num big w n ++ rest) ≡ Ok (n, rest)
number_again_read big w n rest h = read_is ℕ (number_at big w) (number_read big w) (num big w n ++ rest) (n, rest) (number_law big w) (number-fits-again big w n rest h)

pub num_again : (big : Bool) (w n : ℕ) → Again ℕ (number_read big w) (Some n) (num_text big w n)
num_again big w n bytes e =
    let s = num_parts big w n bytes e in
    again_bytes ℕ (number_read big w) n (num big w n) (λ rest. number_again_read big w n rest s.1) bytes (ap Some s.2)

-- a number that may not be there
pub place_again : (big : Bool) (w : ℕ) (o : Option ℕ) → Again ℕ (number_read big w) o (o >>= num_text big w)
place_again big w None = again_none ℕ (number_read big w) None
place_again big w (Some n) = num_again big w n

pub address_again : (big : Bool) (w n : ℕ) → Again ℕ (address_read big w) (Some n) (num_text big w n)
unfolding address_read
address_again big w n bytes e =
    let s = num_parts big w n bytes e in
    again_bytes ℕ (address_read big w) n (num big w n) (λ rest. ap (λ b. if_so b (UnsupportedAddressSize w) (number_read big w (num big w n ++ rest))) s.0 ∙ number_again_read big w n rest s.1) bytes (ap Some s.2)

-- Signed numbers of a width

signed_again_of : (z : ℤ) → IsTrue (signed_fits 2 z) → IsTrue (fits 2 (twos_complement 2 z)) × (signed_of 2 (twos_complement 2 z) ≡ z)
signed_again_of (pos n) h =
    let small : n < 2 ^ 15 = ltb-true _ _ h in
    (lt-ltb n (2 ^ 16) (omega arith), ap (λ (b : Bool). if b then pos n else negsuc (2 ^ 16 - suc n)) h)
signed_again_of (negsuc n) h =
    let small : n < 2 ^ 15 = ltb-true _ _ h in
    let k = 2 ^ 16 - suc n in
    (lt-ltb k (2 ^ 16) (omega arith), ap (λ (b : Bool). if b then pos k else negsuc (2 ^ 16 - suc k)) (le-ltb k (2 ^ 15) (omega arith)) ∙ ap negsuc (omega arith))

pub signed_again : (big : Bool) (z : ℤ) → IsTrue (signed_fits 2 z) → Again ℤ (signed_read big 2) (Some z) (Some (signed_num big 2 z))
unfolding signed_read signed_num
signed_again big z h =
    let s = signed_again_of z h in
    let n = twos_complement 2 z in
    again_bytes ℤ (signed_read big 2) z (signed_num big 2 z) (λ rest. ap (λ r. r =>> λ x. Ok (signed_of 2 x.0, x.1)) (number_again_read big 2 n rest s.0) ∙ ap (λ y. Ok (y, rest)) s.1)

-- Bytes behind their number

bytes_again_read : (xs rest : List ℕ) → bytes_read (length xs) (xs ++ rest) ≡ Ok (xs, rest)
bytes_again_read xs rest = read_is (List ℕ) _ (bytes_read (length xs)) (xs ++ rest) (xs, rest) (bytes_law (length xs)) (bytes_at-again xs rest)

behind_number : (p : Read ℕ) (q : Read (List ℕ)) (t : Text) (xs : List ℕ) → ((bytes : List ℕ) → q bytes ≡ (p bytes =>> λ n. bytes_read n.0 n.1)) → Again ℕ p (Some (length xs)) t → Again (List ℕ) q (Some xs) (followed t (Some xs))
behind_number p q t xs is h bytes e =
    let s = followed_parts t (Some xs) bytes e in
    let a = h s.0 s.2 in
    let n : a.value ≡ length xs = some_same a.value (length xs) (sym a.is) in
    let ys : xs ≡ s.1 = some_same xs s.1 s.3 in
    record {
      value = xs;
      is = refl;
      reads = λ rest.
          ap q (ap (λ zs. zs ++ rest) (sym s.4 ∙ ap (λ zs. s.0 ++ zs) (sym ys)) ∙ append_assoc s.0 xs rest)
          ∙ is (s.0 ++ (xs ++ rest))
          ∙ ap (λ r. r =>> λ k. bytes_read k.0 k.1) (a.reads (xs ++ rest))
          ∙ ap (λ k. bytes_read k (xs ++ rest)) n
          ∙ bytes_again_read xs rest;
    }

pub block_again : (xs : List ℕ) → length xs < 2 ^ 64 → Again (List ℕ) block_read (Some xs) (followed (Some (uleb (length xs))) (Some xs))
unfolding block_read
block_again xs h = behind_number uleb_read block_read (Some (uleb (length xs))) xs (λ bytes. refl) (uleb_again (length xs) h)

-- the same of a text of so many bytes
pub sized_block_again : (t : Text) (size : ℕ) → ((xs : List ℕ) → t ≡ Some xs → length xs ≡ size) → size < 2 ^ 64 → Again (List ℕ) block_read t (followed (Some (uleb size)) t)
unfolding followed
sized_block_again None size wide h = again_none (List ℕ) block_read None
sized_block_again (Some xs) size wide h =
    let same = wide xs refl in
    subst (λ n. Again (List ℕ) block_read (Some xs) (followed (Some (uleb n)) (Some xs))) same (block_again xs (omega (arith, same)))

pub short_block_again : (big : Bool) (xs : List ℕ) → Again (List ℕ) (short_block_read big) (Some xs) (followed (num_text big 1 (length xs)) (Some xs))
unfolding short_block_read
short_block_again big xs = behind_number (number_read big 1) (short_block_read big) (num_text big 1 (length xs)) xs (λ bytes. refl) (num_again big 1 (length xs))

-- Base types

pub generic_again : Again (Option ℕ) base_read (Some None) (Some (0 ∷ []))
unfolding base_read uleb_read groups_at
generic_again = again_bytes (Option ℕ) base_read None (0 ∷ []) (λ rest. refl)

pub base_again : (n : ℕ) → 0 < n → n < 2 ^ 64 → Again (Option ℕ) base_read (Some (Some n)) (Some (uleb n))
unfolding base_read
base_again n h k =
    again_bytes (Option ℕ) base_read (Some n) (uleb n) (λ rest.
    ap (λ r. r =>> λ x. Ok (base_of x.0, x.1)) (read_is ℕ uleb_at uleb_read (uleb n ++ rest) (n, rest) uleb_law (uleb-again n rest k))
    ∙ ap (λ b. Ok ((if b then None else Some n), rest)) (ne_eqb n 0 (λ z. omega (arith, h))))
