-- What was read in the byte order of the reader that read before.
use Rattle.std.proofs.Common.{◌≡◌, ◌∙◌, ap, subst, refl, arith, ◌+◌, ◌<◌, List, take, ℕ, Bool, Ok, Err}
use Rattle.dw_base.specs.Numbers.{initial_length_at}
use Rattle.dw_base.specs.declared.common.Format.{Format}
use Rattle.dw_read.specs.Reading.{Reading, IsReading, Passes, Reads, Read, left, part}
use Rattle.dw_read.specs.Reasons.{bytes_read, initial_length_read}
use Rattle.dw_read.specs.Took.{Took}
use Rattle.dw_read.specs.declared.error.ReadError.{ReadError}
use Rattle.dw_read.proofs.Laws.{read_is, initial_length_law}
use Rattle.dw_read.proofs.Lefts.{same_order, left_part}
use Rattle.dw_read.proofs.HeaderParts.{bytes_took}

pub took_in : (A : Type 0) (read : Bool → Read A) (big : Bool) (mid new : Reading) (x : A) → mid.is_big ≡ big → Took A (read mid.is_big) mid new x → read big (left mid) ≡ Ok (x, left new)
took_in A read big mid new x o t = subst (λ (b : Bool). read b (left mid) ≡ Ok (x, left new)) o t.value

pub err_in : (A : Type 0) (read : Bool → Read A) (big : Bool) (mid : Reading) (e : ReadError) → mid.is_big ≡ big → read mid.is_big (left mid) ≡ Err e → read big (left mid) ≡ Err e
err_in A read big mid e o h = subst (λ (b : Bool). read b (left mid) ≡ Err e) o h

-- bytes whose number was told before
pub so_many : (n m : ℕ) (mid after body : Reading) → n ≡ m → IsReading mid → body ≡ part n mid → Passes n mid after → bytes_read m (left mid) ≡ Ok (left body, left after)
so_many n m mid after body e is q p = subst (λ (k : ℕ). bytes_read k (left mid) ≡ Ok (left body, left after)) e (bytes_took n mid after body is q p)

pub not_so_many : (n m : ℕ) (bs : List ℕ) (e : ReadError) → n ≡ m → bytes_read n bs ≡ Err e → bytes_read m bs ≡ Err e
not_so_many n m bs e q h = subst (λ (k : ℕ). bytes_read k bs ≡ Err e) q h

pub length_took : (old mid : Reading) (f : Format) (n : ℕ) → Reads (Format × ℕ) (initial_length_at old.is_big) old mid (f, n) → initial_length_read old.is_big (left old) ≡ Ok ((f, n), left mid)
length_took old mid f n h = read_is (Format × ℕ) (initial_length_at old.is_big) (initial_length_read old.is_big) (left old) ((f, n), left mid) (initial_length_law old.is_big) h.value

-- bytes that were skipped, of which the reader in hand was a duplicate
pub passed_over : (n : ℕ) (section dup after : Reading) → dup ≡ section → IsReading section → Passes n dup after → (after.is_big ≡ section.is_big) × (bytes_read n (left section) ≡ Ok (take n (left section), left after))
passed_over n section dup after q is p =
    let s : Passes n section after = subst (λ (r : Reading). Passes n r after) q p in
    (same_order n section after s, bytes_took n section after (part n section) is refl s ∙ ap (λ (l : List ℕ). Ok (l, left after)) (left_part n section s.within))

-- a place behind another one, and no less far on after more was read
pub further : (A : Type 0) (read : Read A) (old mid new : Reading) (x : A) → old.place < mid.place → Took A read mid new x → old.place < new.place
further A read old mid new x h t = let d : new.place ≡ mid.place + t.count = ap (λ (y : Reading). y.place) t.passes.is in omega arith
