-- What an operand is, from what the calls in it answered.
use Rattle.std.proofs.Common.{◌≡◌, ◌∙◌, sym, ap, subst, ℕ, ◌+◌, ◌<◌, ◌≤◌, ◌^◌, List, Option, Some, None, Ok, Err, Bool, ℤ, refl, arith}
use Rattle.std.proofs.lemmas.Int.{to_z-of_z}
use mir.Val.{SFits, to_z, of_z}
use mir.Syntax.{w8, w16, w32, w64}
use Rattle.std.proofs.lemmas.Bool.{lt-ltb, le-ltb, ne_eqb}
use Rattle.dw_base.specs.Numbers.{number_at, word_of}
use Rattle.dw_base.specs.Leb128.{uleb_at}
use Rattle.dw_base.specs.declared.common.Encoding.{Encoding}
use Rattle.dw_read.specs.Reading.{Reading, IsReading, Passes, Reads, left, part}
use Rattle.dw_read.specs.Reasons.{bytes_read, number_read, uleb_read, uleb16_read, address_at, address_read}
use Rattle.dw_read.specs.Took.{Took}
use Rattle.dw_read.specs.declared.error.ReadError.{ReadError}
use Rattle.dw_read.specs.declared.error.ReadError.TheVariants.{BadLeb128}
use Rattle.dw_read.proofs.Laws.{uleb_law, number_law, address_law}
use Rattle.dw_read.proofs.Chain.{Went, took_of, took, went, went_of, went_then, went_order}
use Rattle.dw_read.proofs.HeaderParts.{bytes_took}
use Rattle.dw_sources.specs.Operands.{signed_of, signed_read, uleb32_read, base_of, base_read, block_read, short_block_read, info_place_read}
use Rattle.dw_sources.specs.OperationViews.{IsWithin}

-- signed numbers
signed_is : (big : Bool) (w n : ℕ) (bs rest : List ℕ) → number_read big w bs ≡ Ok (n, rest) → signed_read big w bs ≡ Ok (signed_of w n, rest)
unfolding signed_read
signed_is big w n bs rest h = rw h refl

pub signed_not : (big : Bool) (w : ℕ) (bs : List ℕ) (e : ReadError) → number_read big w bs ≡ Err e → signed_read big w bs ≡ Err e
unfolding signed_read
signed_not big w bs e h = rw h refl

pub signed_took : (w n : ℕ) (old new : Reading) (z : ℤ) → z ≡ signed_of w n → Reads ℕ (number_at old.is_big w) old new n → Took ℤ (signed_read old.is_big w) old new z
signed_took w n old new z e h =
    let t = took_of ℕ (number_at old.is_big w) (number_read old.is_big w) old new n (number_law old.is_big w) h in
    took ℤ (signed_read old.is_big w) old new z (went ℕ (number_read old.is_big w) old new n t) (signed_is old.is_big w n (left old) (left new) t.value ∙ ap (λ (x : ℤ). Ok (x, left new)) (sym e))

-- numbers of 16 and 32 bits
pub uleb16_is : (n : ℕ) (old new : Reading) → Reads ℕ uleb_at old new n → n < 2 ^ 16 → Took ℕ uleb16_read old new n
unfolding uleb16_read
uleb16_is n old new h l =
    let t = took_of ℕ uleb_at uleb_read old new n uleb_law h in
    took ℕ uleb16_read old new n (went ℕ uleb_read old new n t) (rw (t.value, lt-ltb n (2 ^ 16) l) refl)

pub uleb16_large : (n : ℕ) (old new : Reading) → Reads ℕ uleb_at old new n → 2 ^ 16 ≤ n → uleb16_read (left old) ≡ Err BadLeb128
unfolding uleb16_read
uleb16_large n old new h l = let t = took_of ℕ uleb_at uleb_read old new n uleb_law h in rw (t.value, le-ltb n (2 ^ 16) l) refl

pub uleb16_not : (bs : List ℕ) (e : ReadError) → uleb_read bs ≡ Err e → uleb16_read bs ≡ Err e
unfolding uleb16_read
uleb16_not bs e h = rw h refl

pub uleb32_is : (n : ℕ) (old new : Reading) → Reads ℕ uleb_at old new n → n < 2 ^ 32 → Took ℕ uleb32_read old new n
unfolding uleb32_read
uleb32_is n old new h l =
    let t = took_of ℕ uleb_at uleb_read old new n uleb_law h in
    took ℕ uleb32_read old new n (went ℕ uleb_read old new n t) (rw (t.value, lt-ltb n (2 ^ 32) l) refl)

pub uleb32_large : (n : ℕ) (old new : Reading) → Reads ℕ uleb_at old new n → 2 ^ 32 ≤ n → uleb32_read (left old) ≡ Err BadLeb128
unfolding uleb32_read
uleb32_large n old new h l = let t = took_of ℕ uleb_at uleb_read old new n uleb_law h in rw (t.value, le-ltb n (2 ^ 32) l) refl

pub uleb32_not : (bs : List ℕ) (e : ReadError) → uleb_read bs ≡ Err e → uleb32_read bs ≡ Err e
unfolding uleb32_read
uleb32_not bs e h = rw h refl

-- base types
base_is : (n : ℕ) (b : Option ℕ) (bs rest : List ℕ) → b ≡ base_of n → uleb_read bs ≡ Ok (n, rest) → base_read bs ≡ Ok (b, rest)
unfolding base_read
base_is n b bs rest e h = rw h (ap (λ (x : Option ℕ). Ok (x, rest)) (sym e))

pub base_took : (n : ℕ) (b : Option ℕ) (old new : Reading) → b ≡ base_of n → Reads ℕ uleb_at old new n → Took (Option ℕ) base_read old new b
base_took n b old new e h =
    let t = took_of ℕ uleb_at uleb_read old new n uleb_law h in
    took (Option ℕ) base_read old new b (went ℕ uleb_read old new n t) (base_is n b (left old) (left new) e t.value)

pub base_not : (bs : List ℕ) (e : ReadError) → uleb_read bs ≡ Err e → base_read bs ≡ Err e
unfolding base_read
base_not bs e h = rw h refl

pub base_typed : (n : ℕ) → (n ≡ 0 → ⊥) → Some n ≡ base_of n
base_typed n h = rw (ne_eqb n 0 h) refl

pub base_generic : (n : ℕ) → n ≡ 0 → None ≡ base_of n
base_generic n h = rw h refl

-- bytes behind their number
block_is : (n : ℕ) (bs mid part rest : List ℕ) → uleb_read bs ≡ Ok (n, mid) → bytes_read n mid ≡ Ok (part, rest) → block_read bs ≡ Ok (part, rest)
unfolding block_read
block_is n bs mid part rest h k = rw (h, k) refl

pub block_uncounted : (bs : List ℕ) (e : ReadError) → uleb_read bs ≡ Err e → block_read bs ≡ Err e
unfolding block_read
block_uncounted bs e h = rw h refl

block_short : (n : ℕ) (bs mid : List ℕ) (e : ReadError) → uleb_read bs ≡ Ok (n, mid) → bytes_read n mid ≡ Err e → block_read bs ≡ Err e
unfolding block_read
block_short n bs mid e h k = rw (h, k) refl

pub block_cut : (n : ℕ) (old mid : Reading) (e : ReadError) → Reads ℕ uleb_at old mid n → bytes_read n (left mid) ≡ Err e → block_read (left old) ≡ Err e
block_cut n old mid e h k = block_short n (left old) (left mid) e (took_of ℕ uleb_at uleb_read old mid n uleb_law h).value k

pub block_took : (n : ℕ) (old mid new r : Reading) → Reads ℕ uleb_at old mid n → IsReading mid → r ≡ part n mid → Passes n mid new → Took (List ℕ) block_read old new (left r)
block_took n old mid new r h is q p =
    let t = took_of ℕ uleb_at uleb_read old mid n uleb_law h in
    took (List ℕ) block_read old new (left r) (went_then old mid new (went ℕ uleb_read old mid n t) (went_of n mid new p)) (block_is n (left old) (left mid) (left r) (left new) t.value (bytes_took n mid new r is q p))

short_is : (big : Bool) (n : ℕ) (bs mid part rest : List ℕ) → number_read big 1 bs ≡ Ok (n, mid) → bytes_read n mid ≡ Ok (part, rest) → short_block_read big bs ≡ Ok (part, rest)
unfolding short_block_read
short_is big n bs mid part rest h k = rw (h, k) refl

pub short_uncounted : (big : Bool) (bs : List ℕ) (e : ReadError) → number_read big 1 bs ≡ Err e → short_block_read big bs ≡ Err e
unfolding short_block_read
short_uncounted big bs e h = rw h refl

short_short : (big : Bool) (n : ℕ) (bs mid : List ℕ) (e : ReadError) → number_read big 1 bs ≡ Ok (n, mid) → bytes_read n mid ≡ Err e → short_block_read big bs ≡ Err e
unfolding short_block_read
short_short big n bs mid e h k = rw (h, k) refl

pub short_cut : (n : ℕ) (old mid : Reading) (e : ReadError) → Reads ℕ (number_at old.is_big 1) old mid n → bytes_read n (left mid) ≡ Err e → short_block_read old.is_big (left old) ≡ Err e
short_cut n old mid e h k = short_short old.is_big n (left old) (left mid) e (took_of ℕ (number_at old.is_big 1) (number_read old.is_big 1) old mid n (number_law old.is_big 1) h).value k

pub short_took : (n : ℕ) (old mid new r : Reading) → Reads ℕ (number_at old.is_big 1) old mid n → IsReading mid → r ≡ part n mid → Passes n mid new → Took (List ℕ) (short_block_read old.is_big) old new (left r)
short_took n old mid new r h is q p =
    let t = took_of ℕ (number_at old.is_big 1) (number_read old.is_big 1) old mid n (number_law old.is_big 1) h in
    took (List ℕ) (short_block_read old.is_big) old new (left r) (went_then old mid new (went ℕ (number_read old.is_big 1) old mid n t) (went_of n mid new p)) (short_is old.is_big n (left old) (left mid) (left r) (left new) t.value (bytes_took n mid new r is q p))

-- such bytes lie behind the place
pub within : (k n : ℕ) (old mid new r : Reading) → Passes k old mid → r ≡ part n mid → Passes n mid new → IsWithin old r
within k n old mid new r h q p =
    let m : mid ≡ record old { place = old.place + k } = h.is in
    let d : mid.place ≡ old.place + k = ap (λ (x : Reading). x.place) m in
    let e : mid.end ≡ old.end = ap (λ (x : Reading). x.end) m in
    let f : r.place ≡ mid.place = ap (λ (x : Reading). x.place) q in
    let g : r.end ≡ mid.place + n = ap (λ (x : Reading). x.end) q in
    let w : mid.place + n ≤ mid.end = p.within in
    record {
      section = ap (λ (x : Reading). x.section) q ∙ ap (λ (x : Reading). x.section) m;
      order = ap (λ (x : Reading). x.is_big) q ∙ ap (λ (x : Reading). x.is_big) m;
      begin = omega arith;
      end = omega arith;
    }

-- places in .debug_info
pub info_old : (e : Encoding) (n : ℕ) (old new : Reading) → e.version ≡ 2 → Reads ℕ (address_at old.is_big e.address_size) old new n → Took ℕ (info_place_read old.is_big e) old new n
unfolding info_place_read
info_old e n old new v h =
    let t = took_of ℕ (address_at old.is_big e.address_size) (address_read old.is_big e.address_size) old new n (address_law old.is_big e.address_size) h in
    took ℕ (info_place_read old.is_big e) old new n (went ℕ (address_read old.is_big e.address_size) old new n t) (rw v t.value)

pub info_old_not : (big : Bool) (e : Encoding) (bs : List ℕ) (x : ReadError) → e.version ≡ 2 → address_read big e.address_size bs ≡ Err x → info_place_read big e bs ≡ Err x
unfolding info_place_read
info_old_not big e bs x v h = rw v h

pub info_new : (e : Encoding) (n : ℕ) (old new : Reading) → (e.version ≡ 2 → ⊥) → Reads ℕ (number_at old.is_big (word_of e.format)) old new n → Took ℕ (info_place_read old.is_big e) old new n
unfolding info_place_read
info_new e n old new v h =
    let t = took_of ℕ (number_at old.is_big (word_of e.format)) (number_read old.is_big (word_of e.format)) old new n (number_law old.is_big (word_of e.format)) h in
    took ℕ (info_place_read old.is_big e) old new n (went ℕ (number_read old.is_big (word_of e.format)) old new n t) (rw (ne_eqb e.version 2 v) t.value)

pub info_new_not : (big : Bool) (e : Encoding) (bs : List ℕ) (x : ReadError) → (e.version ≡ 2 → ⊥) → number_read big (word_of e.format) bs ≡ Err x → info_place_read big e bs ≡ Err x
unfolding info_place_read
info_new_not big e bs x v h = rw (ne_eqb e.version 2 v) h

-- the same in the order of the reader that read before
pub short_took_after : (old mid new : Reading) (x : List ℕ) → Went old mid → Took (List ℕ) (short_block_read mid.is_big) mid new x → Took (List ℕ) (short_block_read old.is_big) mid new x
short_took_after old mid new x w h = subst (λ (b : Bool). Took (List ℕ) (short_block_read b) mid new x) (went_order old mid w) h

pub short_not_after : (old mid : Reading) (bs : List ℕ) (e : ReadError) → Went old mid → short_block_read mid.is_big bs ≡ Err e → short_block_read old.is_big bs ≡ Err e
short_not_after old mid bs e w h = subst (λ (b : Bool). short_block_read b bs ≡ Err e) (went_order old mid w) h

pub within_after : (old mid r : Reading) → Went old mid → IsWithin mid r → IsWithin old r
within_after old mid r w h =
    let m : mid ≡ record old { place = old.place + w.count } = w.passes.is in
    let d : mid.place ≡ old.place + w.count = ap (λ (x : Reading). x.place) m in
    let e : mid.end ≡ old.end = ap (λ (x : Reading). x.end) m in
    let f : mid.place ≤ r.place = h.begin in
    let g : r.end ≤ mid.end = h.end in
    record {
      section = h.section ∙ ap (λ (x : Reading). x.section) m;
      order = h.order ∙ ap (λ (x : Reading). x.is_big) m;
      begin = omega arith;
      end = omega arith;
    }

-- narrower signed numbers in 64 bits
pub widened8 : (z : ℤ) → SFits w8 z → to_z w64 (of_z w64 (to_z w8 (of_z w8 z))) ≡ z
widened8 z f = ap (λ (y : ℤ). to_z w64 (of_z w64 y)) (to_z-of_z w8 z f) ∙ to_z-of_z w64 z (record { sfits = omega (arith, f.sfits) })

pub widened16 : (z : ℤ) → SFits w16 z → to_z w64 (of_z w64 (to_z w16 (of_z w16 z))) ≡ z
widened16 z f = ap (λ (y : ℤ). to_z w64 (of_z w64 y)) (to_z-of_z w16 z f) ∙ to_z-of_z w64 z (record { sfits = omega (arith, f.sfits) })

pub widened32 : (z : ℤ) → SFits w32 z → to_z w64 (of_z w64 (to_z w32 (of_z w32 z))) ≡ z
widened32 z f = ap (λ (y : ℤ). to_z w64 (of_z w64 y)) (to_z-of_z w32 z f) ∙ to_z-of_z w64 z (record { sfits = omega (arith, f.sfits) })
