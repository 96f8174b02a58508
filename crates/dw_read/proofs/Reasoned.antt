-- What a reading call answers, from what the calls in it answered.
use Rattle.std.proofs.Common.{◌≡◌, ◌∙◌, sym, ap, subst, ℕ, ◌+◌, ◌-◌, ◌<◌, ◌≤◌, List, length, take, drop, Option, Some, None, Bool, true, false, Result, Ok, Err, IfOk, refl, arith, nat_le}
use Rattle.std.proofs.lemmas.Bool.{le-leb, lt-leb, lt-ltb, le-ltb}
use borrow.Author.Tests.{ne_eqb}
use Rattle.dw_base.specs.Numbers.{Parser, ◌>>=◌, when, bytes_at, number_at, value_of, is_width, initial_length_at}
use Rattle.dw_base.specs.Forms.{text_at}
use Rattle.dw_base.specs.declared.common.Format.{Format}
use Rattle.dw_base.specs.declared.common.Format.TheVariants.{Dwarf32, Dwarf64}
use Rattle.dw_read.specs.Reading.{Reading, IsReading, IsPart, Passes, Reads, Read, Refuses, left, part}
use Rattle.dw_read.specs.Reasons.{or_refuse, bytes_read, number_read, text_read, address_at, address_read, initial_length_read}
use Rattle.dw_read.specs.declared.error.ReadError.{ReadError}
use Rattle.dw_read.specs.declared.error.ReadError.TheVariants.{UnexpectedEof, UnknownReservedLength, UnsupportedAddressSize}
use Rattle.dw_read.proofs.Laws.{IsReadOf, refuses, bytes_law, number_law, address_law, initial_length_law, grammar_is, read_is}
use Rattle.dw_read.proofs.Lefts.{length-left, left_passed, left_part, passes_then, same_order}

few_bytes : (n : ℕ) (bytes : List ℕ) → length bytes < n → bytes_at n bytes ≡ None
unfolding bytes_at
few_bytes n bytes h = rw (lt-leb n (length bytes) h) refl

few_read : (n : ℕ) (bytes : List ℕ) → length bytes < n → bytes_read n bytes ≡ Err UnexpectedEof
unfolding bytes_read
few_read n bytes h = rw (few_bytes n bytes h) refl

-- the bytes left are too few
pub refuses_end : (n : ℕ) (old : Reading) → IsReading old → old.end - old.place < n → Refuses (List ℕ) (bytes_at n) (bytes_read n) old UnexpectedEof
refuses_end n old is h = refuses (List ℕ) (bytes_at n) (bytes_read n) old UnexpectedEof (bytes_law n) (few_read n (left old) (let e : length (left old) ≡ old.end - old.place = length-left old is in omega arith))

-- too few bytes are no number
number_of_none : {A B : Type 0} (o : Option A) (f : A → Option B) (e : ReadError) → ((x : A) → (y : B) × (f x ≡ Some y)) → or_refuse UnexpectedEof o ≡ Err e → or_refuse UnexpectedEof (o >>= f) ≡ Err e
number_of_none None f e k h = cc
number_of_none (Some x) f e k h = absurd (cc)

number_refused : (big : Bool) (n : ℕ) (bytes : List ℕ) (e : ReadError) → bytes_read n bytes ≡ Err e → number_read big n bytes ≡ Err e
unfolding number_read number_at bytes_read
number_refused big n bytes e h = number_of_none (bytes_at n bytes) (λ x. Some (value_of big x.0, x.1)) e (λ x. ((value_of big x.0, x.1), refl)) h

pub refuses_number : (big : Bool) (n : ℕ) (old : Reading) (e : ReadError) → Refuses (List ℕ) (bytes_at n) (bytes_read n) old e → Refuses ℕ (number_at big n) (number_read big n) old e
refuses_number big n old e h = refuses ℕ (number_at big n) (number_read big n) old e (number_law big n) (number_refused big n (left old) e h.reason)

-- so many bytes are there
pub enough : (n : ℕ) (old : Reading) (e : ReadError) → n ≤ length (left old) → Refuses (List ℕ) (bytes_at n) (bytes_read n) old e → ⊥
unfolding bytes_at
enough n old e h r = let k : when (nat_le n (length (left old))) (Some (take n (left old), drop n (left old))) ≡ None = r.none in let q = rw (le-leb n (length (left old)) h) at k in cc

pub reads_passed : (A : Type 0) (grammar : Parser A) (read : Read A) (n : ℕ) (old new : Reading) (x : A) → IsReadOf A grammar read → Passes n old new → read (left old) ≡ Ok (x, drop n (left old)) → Reads A grammar old new x
reads_passed A grammar read n old new x law h e = record {
  count = n;
  passes = h;
  value = grammar_is A grammar read (left old) (x, left new) law (e ∙ ap (λ (l : List ℕ). Ok (x, l)) (sym (left_passed n old new h)));
}

-- the same under a condition that holds of the answer
pub if_ok_then : {A E : Type 0} (P Q : A → Type 0) (r : Result A E) → ((x : A) → P x → Q x) → IfOk r P → IfOk r Q
if_ok_then P Q (Ok x) k h = k x h
if_ok_then P Q (Err e) k h = tt

-- addresses
pub address_refused : (big : Bool) (size : ℕ) (old : Reading) → is_width size ≡ false → Refuses ℕ (address_at big size) (address_read big size) old (UnsupportedAddressSize size)
unfolding address_read
address_refused big size old h = refuses ℕ (address_at big size) (address_read big size) old (UnsupportedAddressSize size) (address_law big size) (rw h refl)

pub refuses_address : (big : Bool) (size : ℕ) (old : Reading) (e : ReadError) → is_width size ≡ true → Refuses ℕ (number_at big size) (number_read big size) old e → Refuses ℕ (address_at big size) (address_read big size) old e
unfolding address_read
refuses_address big size old e h r = refuses ℕ (address_at big size) (address_read big size) old e (address_law big size) (rw h r.reason)

pub reads_address : (big : Bool) (size : ℕ) (old new : Reading) (x : ℕ) → is_width size ≡ true → Reads ℕ (number_at big size) old new x → Reads ℕ (address_at big size) old new x
unfolding address_at
reads_address big size old new x h r = record { count = r.count; passes = r.passes; value = rw h r.value }

-- initial lengths
length_refused : (big : Bool) (bytes : List ℕ) (e : ReadError) → number_read big 4 bytes ≡ Err e → initial_length_read big bytes ≡ Err e
unfolding initial_length_read
length_refused big bytes e h = rw h refl

pub refuses_length : (old dup : Reading) (e : ReadError) → dup ≡ old → Refuses ℕ (number_at dup.is_big 4) (number_read dup.is_big 4) dup e → Refuses (Format × ℕ) (initial_length_at old.is_big) (initial_length_read old.is_big) old e
refuses_length old dup e q h =
    let k = subst (λ (r : Reading). Refuses ℕ (number_at r.is_big 4) (number_read r.is_big 4) r e) q h in
    refuses (Format × ℕ) (initial_length_at old.is_big) (initial_length_read old.is_big) old e (initial_length_law old.is_big) (length_refused old.is_big (left old) e k.reason)

length_short : (big : Bool) (bytes rest : List ℕ) (n : ℕ) → number_at big 4 bytes ≡ Some (n, rest) → n < 0xffff_fff0 → initial_length_at big bytes ≡ Some ((Dwarf32, n), rest)
unfolding initial_length_at
length_short big bytes rest n h l = rw (h, lt-ltb n 0xffff_fff0 l) refl

pub reads_short_length : (old dup new : Reading) (n : ℕ) → dup ≡ old → Reads ℕ (number_at dup.is_big 4) dup new n → n < 0xffff_fff0 → Reads (Format × ℕ) (initial_length_at old.is_big) old new (Dwarf32, n)
reads_short_length old dup new n q h l =
    let k = subst (λ (r : Reading). Reads ℕ (number_at r.is_big 4) r new n) q h in
    record { count = k.count; passes = k.passes; value = length_short old.is_big (left old) (left new) n k.value l }

length_reserved : (big : Bool) (bytes rest : List ℕ) (n : ℕ) → number_read big 4 bytes ≡ Ok (n, rest) → 0xffff_fff0 ≤ n → (n ≡ 0xffff_ffff → ⊥) → initial_length_read big bytes ≡ Err UnknownReservedLength
unfolding initial_length_read
length_reserved big bytes rest n h l z = rw (h, le-ltb n 0xffff_fff0 l, ne_eqb n 0xffff_ffff z) refl

pub refuses_reserved : (old dup mid : Reading) (n : ℕ) → dup ≡ old → Reads ℕ (number_at dup.is_big 4) dup mid n → 0xffff_fff0 ≤ n → (n ≡ 0xffff_ffff → ⊥) → Refuses (Format × ℕ) (initial_length_at old.is_big) (initial_length_read old.is_big) old UnknownReservedLength
refuses_reserved old dup mid n q h l z =
    let k = subst (λ (r : Reading). Reads ℕ (number_at r.is_big 4) r mid n) q h in
    refuses (Format × ℕ) (initial_length_at old.is_big) (initial_length_read old.is_big) old UnknownReservedLength (initial_length_law old.is_big)
    (length_reserved old.is_big (left old) (left mid) n (read_is ℕ (number_at old.is_big 4) (number_read old.is_big 4) (left old) (n, left mid) (number_law old.is_big 4) k.value) l z)

length_long_refused : (big : Bool) (bytes rest : List ℕ) (n : ℕ) (e : ReadError) → number_read big 4 bytes ≡ Ok (n, rest) → n ≡ 0xffff_ffff → number_read big 8 rest ≡ Err e → initial_length_read big bytes ≡ Err e
unfolding initial_length_read
length_long_refused big bytes rest n e h l r = rw (h, l, r) refl

pub refuses_long_length : (old dup mid : Reading) (n : ℕ) (e : ReadError) → dup ≡ old → Reads ℕ (number_at dup.is_big 4) dup mid n → n ≡ 0xffff_ffff → Refuses ℕ (number_at mid.is_big 8) (number_read mid.is_big 8) mid e → Refuses (Format × ℕ) (initial_length_at old.is_big) (initial_length_read old.is_big) old e
refuses_long_length old dup mid n e q h l r =
    let k = subst (λ (r : Reading). Reads ℕ (number_at r.is_big 4) r mid n) q h in
    let o : mid.is_big ≡ old.is_big = same_order k.count old mid k.passes in
    refuses (Format × ℕ) (initial_length_at old.is_big) (initial_length_read old.is_big) old e (initial_length_law old.is_big)
    (length_long_refused old.is_big (left old) (left mid) n e (read_is ℕ (number_at old.is_big 4) (number_read old.is_big 4) (left old) (n, left mid) (number_law old.is_big 4) k.value) l (subst (λ (b : Bool). number_read b 8 (left mid) ≡ Err e) o r.reason))

length_long : (big : Bool) (bytes rest more : List ℕ) (n m : ℕ) → number_at big 4 bytes ≡ Some (n, rest) → n ≡ 0xffff_ffff → number_at big 8 rest ≡ Some (m, more) → initial_length_at big bytes ≡ Some ((Dwarf64, m), more)
unfolding initial_length_at
length_long big bytes rest more n m h l r = rw (h, l, r) refl

pub reads_long_length : (old dup mid new : Reading) (n m : ℕ) → dup ≡ old → Reads ℕ (number_at dup.is_big 4) dup mid n → n ≡ 0xffff_ffff → Reads ℕ (number_at mid.is_big 8) mid new m → Reads (Format × ℕ) (initial_length_at old.is_big) old new (Dwarf64, m)
reads_long_length old dup mid new n m q h l r =
    let k = subst (λ (r : Reading). Reads ℕ (number_at r.is_big 4) r mid n) q h in
    let o : mid.is_big ≡ old.is_big = same_order k.count old mid k.passes in
    record {
      count = k.count + r.count;
      passes = passes_then k.count r.count old mid new k.passes r.passes;
      value = length_long old.is_big (left old) (left mid) (left new) n m k.value l (subst (λ (b : Bool). number_at b 8 (left mid) ≡ Some (m, left new)) o r.value);
    }

-- texts
pub refuses_text : (old : Reading) (bytes : List ℕ) → bytes ≡ left old → text_at bytes ≡ None → Refuses (List ℕ) text_at text_read old UnexpectedEof
unfolding text_read
refuses_text old bytes q h = let k : text_at (left old) ≡ None = subst (λ (l : List ℕ). text_at l ≡ None) q h in record { none = k; reason = rw k refl }

pub reads_text : (old dup new text : Reading) (bytes : List ℕ) (n : ℕ) → bytes ≡ left old → dup ≡ old → n < length bytes → text_at bytes ≡ Some (take n bytes, drop (n + 1) bytes) → text ≡ part n dup → IsReading old → Passes (n + 1) old new → Reads (List ℕ) text_at old new (left text)
reads_text old dup new text bytes n b q w h t is p =
    let v : text_at (left old) ≡ Some (take n (left old), drop (n + 1) (left old)) = subst (λ (l : List ℕ). text_at l ≡ Some (take n l, drop (n + 1) l)) b h in
    let in_end : old.place + (n + 1) ≤ old.end = p.within in
    let same : left text ≡ take n (left old) = ap left (t ∙ ap (part n) q) ∙ left_part n old (omega arith) in
    record {
      count = n + 1;
      passes = p;
      value = v ∙ ap (λ (l : List ℕ). Some (l, drop (n + 1) (left old))) (sym same) ∙ ap (λ (l : List ℕ). Some (left text, l)) (sym (left_passed (n + 1) old new p));
    }

pub is_part_of : (n : ℕ) (old dup text : Reading) → dup ≡ old → text ≡ part n dup → IsReading text → IsPart old text
is_part_of n old dup text q t is =
    let s : text ≡ part n old = t ∙ ap (part n) q in
    let e : length (left text) ≡ text.end - text.place = length-left text is in
    let f : text.end ≡ old.place + n = ap (λ (r : Reading). r.end) s in
    let g : text.place ≡ old.place = ap (λ (r : Reading). r.place) s in
    s ∙ ap (λ (m : ℕ). part m old) (omega arith)
