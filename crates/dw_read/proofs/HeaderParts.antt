-- A unit's header, from the calls that read its parts.
use Rattle.std.proofs.Common.{◌≡◌, ◌∙◌, sym, ap, ap₂, subst, ℕ, ◌+◌, ◌-◌, ◌≤◌, List, length, take, drop, Ok, Err, Bool, refl, arith}
use Rattle.std.proofs.lemmas.Bool.{le-leb}
use Rattle.dw_base.specs.Numbers.{bytes_at, initial_length_at, length_size}
use Rattle.dw_base.specs.Headers.{Header}
use Rattle.dw_base.specs.declared.common.Format.{Format}
use Rattle.dw_read.specs.Reading.{Reading, IsReading, Passes, Reads, left, part}
use Rattle.dw_read.specs.Took.{Took}
use Rattle.dw_read.specs.Reasons.{bytes_read, initial_length_read}
use Rattle.dw_read.specs.Headers.{fields_read, header_read}
use Rattle.dw_read.specs.declared.error.ReadError.{ReadError}
use Rattle.dw_read.proofs.Laws.{read_is, initial_length_law}
use Rattle.dw_read.proofs.Lefts.{length-left, left_part, left_passed, passes_then, same_order, shorter}

enough_bytes : (n : ℕ) (bytes : List ℕ) → n ≤ length bytes → bytes_read n bytes ≡ Ok (take n bytes, drop n bytes)
unfolding bytes_read bytes_at
enough_bytes n bytes h = rw (le-leb n (length bytes) h) refl

-- a part that was split off
pub bytes_took : (n : ℕ) (mid after body : Reading) → IsReading mid → body ≡ part n mid → Passes n mid after → bytes_read n (left mid) ≡ Ok (left body, left after)
bytes_took n mid after body is q h =
    let w : mid.place + n ≤ mid.end = h.within in
    let l : length (left mid) ≡ mid.end - mid.place = length-left mid is in
    enough_bytes n (left mid) (omega arith)
    ∙ ap₂ (λ (x y : List ℕ). Ok (x, y)) (sym (ap left q ∙ left_part n mid w)) (sym (left_passed n mid after h))

pub header_no_length : (big : Bool) (bs : List ℕ) (e : ReadError) → initial_length_read big bs ≡ Err e → header_read big bs ≡ Err e
unfolding header_read
header_no_length big bs e h = rw h refl

header_cut : (big : Bool) (f : Format) (n : ℕ) (bs mid : List ℕ) (e : ReadError) → initial_length_read big bs ≡ Ok ((f, n), mid) → bytes_read n mid ≡ Err e → header_read big bs ≡ Err e
unfolding header_read
header_cut big f n bs mid e h k = rw (h, k) refl

header_no_fields : (big : Bool) (f : Format) (n : ℕ) (bs mid unit rest : List ℕ) (e : ReadError) → initial_length_read big bs ≡ Ok ((f, n), mid) → bytes_read n mid ≡ Ok (unit, rest) → fields_read big f unit ≡ Err e → header_read big bs ≡ Err e
unfolding header_read
header_no_fields big f n bs mid unit rest e h k l = rw (h, k, l) refl

header_is : (big : Bool) (f : Format) (n : ℕ) (h : Header) (bs mid unit rest body : List ℕ) → initial_length_read big bs ≡ Ok ((f, n), mid) → bytes_read n mid ≡ Ok (unit, rest) → fields_read big f unit ≡ Ok (h, body)
    → header_read big bs ≡ Ok (record { header = h; size = length_size f + (length unit - length body); body = body; rest = rest })
unfolding header_read
header_is big f n h bs mid unit rest body a b c = rw (a, b, c) refl

length_took : (old mid : Reading) (f : Format) (n : ℕ) → Reads (Format × ℕ) (initial_length_at old.is_big) old mid (f, n) → initial_length_read old.is_big (left old) ≡ Ok ((f, n), left mid)
length_took old mid f n h = read_is (Format × ℕ) (initial_length_at old.is_big) (initial_length_read old.is_big) (left old) ((f, n), left mid) (initial_length_law old.is_big) h.value

pub refused_cut : (old mid : Reading) (f : Format) (n : ℕ) (e : ReadError) → Reads (Format × ℕ) (initial_length_at old.is_big) old mid (f, n) → bytes_read n (left mid) ≡ Err e → header_read old.is_big (left old) ≡ Err e
refused_cut old mid f n e h k = header_cut old.is_big f n (left old) (left mid) e (length_took old mid f n h) k

pub refused_fields : (old mid after body : Reading) (f : Format) (n : ℕ) (e : ReadError) → Reads (Format × ℕ) (initial_length_at old.is_big) old mid (f, n) → IsReading mid → body ≡ part n mid → Passes n mid after → fields_read body.is_big f (left body) ≡ Err e → header_read old.is_big (left old) ≡ Err e
refused_fields old mid after body f n e h is q p k =
    let o : body.is_big ≡ old.is_big = ap (λ (r : Reading). r.is_big) q ∙ same_order h.count old mid h.passes in
    header_no_fields old.is_big f n (left old) (left mid) (left body) (left after) e (length_took old mid f n h) (bytes_took n mid after body is q p) (subst (λ (b : Bool). fields_read b f (left body) ≡ Err e) o k)

-- all parts of a header
pub record HasHeader (old after last : Reading) (h : Header) : Type 0 where
  pub count : ℕ
  pub passes : Passes count old after
  pub size : ℕ
  pub is : header_read old.is_big (left old) ≡ Ok (record { header = h; size = size; body = left last; rest = left after })
  pub body : last ≡ record old { place = old.place + size; end = after.place }

pub has_header : (old mid after body last : Reading) (f : Format) (n : ℕ) (h : Header) → Passes (length_size f) old mid → Reads (Format × ℕ) (initial_length_at old.is_big) old mid (f, n) → IsReading mid → IsReading body → IsReading last → body ≡ part n mid → Passes n mid after
    → Took Header (fields_read body.is_big f) body last h → HasHeader old after last h
has_header old mid after body last f n h p r is ib il q s t =
    let o : body.is_big ≡ old.is_big = ap (λ (x : Reading). x.is_big) q ∙ same_order r.count old mid r.passes in
    let c : length (left last) + t.count ≡ length (left body) = shorter t.count body last ib il t.passes in
    let m : mid ≡ record old { place = old.place + length_size f } = p.is in
    let b : body ≡ record old { place = old.place + length_size f; end = old.place + length_size f + n } = q ∙ ap (part n) m in
    let e : old.place + length_size f + n ≡ after.place = ap (λ (x : Reading). x.place + n) (sym m) ∙ sym (ap (λ (x : Reading). x.place) s.is) in
    let z : old.place + length_size f + t.count ≡ old.place + (length_size f + (length (left body) - length (left last))) = omega (arith, c) in
    record {
      count = length_size f + n;
      passes = passes_then (length_size f) n old mid after p s;
      size = length_size f + (length (left body) - length (left last));
      is = header_is old.is_big f n h (left old) (left mid) (left body) (left after) (left last) (length_took old mid f n r) (bytes_took n mid after body is q s) (subst (λ (x : Bool). fields_read x f (left body) ≡ Ok (h, left last)) o t.value);
      body = t.passes.is ∙ ap (λ (x : Reading). record x { place = x.place + t.count }) b ∙ ap₂ (λ (x y : ℕ). record old { place = x; end = y }) z e;
    }
