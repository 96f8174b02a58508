-- Bytes behind their number, and parts of what is read.
use Rattle.std.proofs.Common.{◌≡◌, ◌∙◌, ap, ℕ, ◌+◌, ◌≤◌, List, Ok, Err, refl, arith}
use Rattle.dw_base.specs.Leb128.{uleb_at}
use Rattle.dw_read.specs.Reading.{Reading, IsReading, Passes, Reads, left, part}
use Rattle.dw_read.specs.Reasons.{bytes_read, uleb_read}
use Rattle.dw_read.specs.Took.{Took}
use Rattle.dw_read.specs.declared.error.ReadError.{ReadError}
use Rattle.dw_read.proofs.Laws.{uleb_law}
use Rattle.dw_read.proofs.Chain.{Went, took_of, took, went, went_of, went_then}
use Rattle.dw_read.proofs.HeaderParts.{bytes_took}
use Rattle.dw_read_frames.specs.Instructions.{block_read}
use Rattle.dw_read_frames.specs.InstructionViews.{IsWithin}

block_is : (n : ℕ) (bs mid part rest : List ℕ) → uleb_read bs ≡ Ok (n, mid) → bytes_read n mid ≡ Ok (part, rest) → block_read bs ≡ Ok (part, rest)
unfolding block_read
block_is n bs mid part rest h k = rw (h, k) refl

pub block_uncounted : (bs : List ℕ) (e : ReadError) → uleb_read bs ≡ Err e → block_read bs ≡ Err e
unfolding block_read
block_uncounted bs e h = rw h refl

block_short : (n : ℕ) (bs mid : List ℕ) (e : ReadError) → uleb_read bs ≡ Ok (n, mid) → bytes_read n mid ≡ Err e → block_read bs ≡ Err e
unfolding block_read
block_short n bs mid e h k = rw (h, k) refl

pub block_cut : (n : ℕ) (old mid : Reading) (e : ReadError) → Reads ℕ uleb_at old mid n → bytes_read n (left mid) ≡ Err e → block_read (left old) ≡ Err e
block_cut n old mid e h k = block_short n (left old) (left mid) e (took_of ℕ uleb_at uleb_read old mid n uleb_law h).value k

pub block_took : (n : ℕ) (old mid new r : Reading) → Reads ℕ uleb_at old mid n → IsReading mid → r ≡ part n mid → Passes n mid new → Took (List ℕ) block_read old new (left r)
block_took n old mid new r h is q p =
    let t = took_of ℕ uleb_at uleb_read old mid n uleb_law h in
    took (List ℕ) block_read old new (left r) (went_then old mid new (went ℕ uleb_read old mid n t) (went_of n mid new p)) (block_is n (left old) (left mid) (left r) (left new) t.value (bytes_took n mid new r is q p))

-- such bytes lie behind the place
pub within : (k n : ℕ) (old mid new r : Reading) → Passes k old mid → r ≡ part n mid → Passes n mid new → IsWithin old r
within k n old mid new r h q p =
    let m : mid ≡ record old { place = old.place + k } = h.is in
    let d : mid.place ≡ old.place + k = ap (λ (x : Reading). x.place) m in
    let e : mid.end ≡ old.end = ap (λ (x : Reading). x.end) m in
    let f : r.place ≡ mid.place = ap (λ (x : Reading). x.place) q in
    let g : r.end ≡ mid.place + n = ap (λ (x : Reading). x.end) q in
    let w : mid.place + n ≤ mid.end = p.within in
    record {
      section = ap (λ (x : Reading). x.section) q ∙ ap (λ (x : Reading). x.section) m;
      order = ap (λ (x : Reading). x.is_big) q ∙ ap (λ (x : Reading). x.is_big) m;
      begin = omega arith;
      end = omega arith;
    }

pub within_after : (old mid r : Reading) → Went old mid → IsWithin mid r → IsWithin old r
within_after old mid r w h =
    let m : mid ≡ record old { place = old.place + w.count } = w.passes.is in
    let d : mid.place ≡ old.place + w.count = ap (λ (x : Reading). x.place) m in
    let e : mid.end ≡ old.end = ap (λ (x : Reading). x.end) m in
    let f : mid.place ≤ r.place = h.begin in
    let g : r.end ≤ mid.end = h.end in
    record {
      section = h.section ∙ ap (λ (x : Reading). x.section) m;
      order = h.order ∙ ap (λ (x : Reading). x.is_big) m;
      begin = omega arith;
      end = omega arith;
    }
