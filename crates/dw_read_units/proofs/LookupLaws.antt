-- Look-ups in sections, from the calls that read there.
use Rattle.std.proofs.Common.{◌≡◌, ◌∙◌, sym, ap, subst, ℕ, ◌-◌, ◌^◌, ◌<◌, ◌≤◌, min, List, [], length, drop, Some, None, Err, arith, ⊎_elim}
use Rattle.std.proofs.lemmas.Bool.{cases_lt}
use Rattle.std.proofs.Math.ListN.{drop_of_length-le}
use Rattle.dw_base.specs.Numbers.{Parser}
use Rattle.dw_read.specs.Reading.{Reading, IsReading, Passes, Reads, Read, Refuses, left}
use Rattle.dw_read.specs.declared.error.ReadError.{ReadError}
use Rattle.dw_read.proofs.Lefts.{left_passed, length-left, same_order}
use Rattle.dw_read_units.specs.Lookups.{bytes_from, IsFrom, StandsAt, IsMissing}

dropped : (n : ℕ) (bytes : List ℕ) → drop (min n (length bytes)) bytes ≡ drop n bytes
dropped n bytes = ⊎_elim
    (λ (l : n < length bytes). ap (λ (k : ℕ). drop k bytes) (let e : min n (length bytes) ≡ n = omega arith in e))
    (λ (g : length bytes ≤ n).
    let e : min n (length bytes) ≡ length bytes = omega arith in
    let a : drop (length bytes) bytes ≡ [] = drop_of_length-le bytes (omega arith) in
    let b : drop n bytes ≡ [] = drop_of_length-le bytes g in
    ap (λ (k : ℕ). drop k bytes) e ∙ a ∙ sym b)
    (cases_lt n (length bytes))

pub from_passed : (offset passed len : ℕ) (section dup r : Reading) → dup ≡ section → len ≡ length (left dup) → passed ≡ min offset len → Passes passed dup r → IsFrom offset section r
from_passed offset passed len section dup r q l p h = record {
  bytes = left_passed passed dup r h ∙ ap (λ (n : ℕ). drop n (left dup)) (p ∙ ap (min offset) l) ∙ dropped offset (left dup) ∙ ap (λ (x : Reading). drop offset (left x)) q;
  order = same_order passed dup r h ∙ ap (λ (x : Reading). x.is_big) q;
}

pub stands : (A : Type 0) (grammar : Parser A) (offset : ℕ) (section from new : Reading) (x : A) → IsFrom offset section from → Reads A grammar from new x → StandsAt A grammar offset section x
stands A grammar offset section from new x f h = record {
  rest = left new;
  is = subst (λ (l : List ℕ). grammar l ≡ Some (x, left new)) f.bytes h.value;
}

pub missing : (A : Type 0) (grammar : Parser A) (read : Read A) (offset : ℕ) (section from : Reading) (e : ReadError) → IsFrom offset section from → Refuses A grammar read from e → IsMissing A grammar read offset section e
missing A grammar read offset section from e f h = record {
  none = subst (λ (l : List ℕ). grammar l ≡ None) f.bytes h.none;
  reason = subst (λ (l : List ℕ). read l ≡ Err e) f.bytes h.reason;
}

near : (n : ℕ) (bytes : List ℕ) → length bytes < 2 ^ 64 → drop (min n (2 ^ 64 - 1)) bytes ≡ drop n bytes
near n bytes h = ⊎_elim
    (λ (l : n < 2 ^ 64 - 1). ap (λ (k : ℕ). drop k bytes) (let e : min n (2 ^ 64 - 1) ≡ n = omega arith in e))
    (λ (g : 2 ^ 64 - 1 ≤ n).
    let e : min n (2 ^ 64 - 1) ≡ 2 ^ 64 - 1 = omega arith in
    let a : drop (2 ^ 64 - 1) bytes ≡ [] = drop_of_length-le bytes {i = 2 ^ 64 - 1} (omega arith) in
    let b : drop n bytes ≡ [] = drop_of_length-le bytes (omega arith) in
    ap (λ (k : ℕ). drop k bytes) e ∙ a ∙ sym b)
    (cases_lt n (2 ^ 64 - 1))

-- a place past every section is read as the last one
pub far : (offset : ℕ) (section : Reading) → IsReading section → bytes_from (min offset (2 ^ 64 - 1)) section ≡ bytes_from offset section
far offset section i =
    let l : length (left section) ≡ section.end - section.place = length-left section i in
    let s : section.end < 2 ^ 64 = i.small in
    near offset (left section) (omega arith)
