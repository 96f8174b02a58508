-- What was read in the order of the reader that read before.
use Rattle.std.proofs.Common.{◌≡◌, ap, subst, ℕ, ◌-◌, ◌≤◌, List, length, Option, Some, None, IfSome, Err, Bool, arith}
use Rattle.dw_base.specs.Numbers.{number_at}
use Rattle.dw_read.specs.Reading.{Reading, IsReading, Reads, Read, left}
use Rattle.dw_read.specs.Reasons.{number_read}
use Rattle.dw_read.specs.Took.{Took, option_of}
use Rattle.dw_read.specs.declared.error.ReadError.{ReadError}
use Rattle.dw_read.proofs.Laws.{number_law}
use Rattle.dw_read.proofs.Chain.{Went, took_of, went_order}
use Rattle.dw_read.proofs.Lefts.{length-left}

-- a number of a width that is another one
pub number_by : (w v x : ℕ) (old new : Reading) → w ≡ v → Reads ℕ (number_at old.is_big w) old new x → Took ℕ (number_read old.is_big v) old new x
number_by w v x old new e h = subst (λ (n : ℕ). Took ℕ (number_read old.is_big n) old new x) e (took_of ℕ (number_at old.is_big w) (number_read old.is_big w) old new x (number_law old.is_big w) h)

pub number_not_by : (big : Bool) (w v : ℕ) (bs : List ℕ) (e : ReadError) → w ≡ v → number_read big w bs ≡ Err e → number_read big v bs ≡ Err e
number_not_by big w v bs e q h = subst (λ (n : ℕ). number_read big n bs ≡ Err e) q h

-- a number in the order of the reader that read before
pub number_in : (w x : ℕ) (old mid new : Reading) → Went old mid → Reads ℕ (number_at mid.is_big w) mid new x → Took ℕ (number_read old.is_big w) mid new x
number_in w x old mid new g h =
    subst (λ (b : Bool). Took ℕ (number_read b w) mid new x) (went_order old mid g) (took_of ℕ (number_at mid.is_big w) (number_read mid.is_big w) mid new x (number_law mid.is_big w) h)

pub number_not_in : (w : ℕ) (old mid : Reading) (bs : List ℕ) (e : ReadError) → Went old mid → number_read mid.is_big w bs ≡ Err e → number_read old.is_big w bs ≡ Err e
number_not_in w old mid bs e g h = subst (λ (b : Bool). number_read b w bs ≡ Err e) (went_order old mid g) h

pub number_took : (w x : ℕ) (old new : Reading) → Reads ℕ (number_at old.is_big w) old new x → Took ℕ (number_read old.is_big w) old new x
number_took w x old new h = took_of ℕ (number_at old.is_big w) (number_read old.is_big w) old new x (number_law old.is_big w) h

-- where a reader stands that went on
pub end_kept : (old mid : Reading) → Went old mid → mid.end ≡ old.end
end_kept old mid g = ap (λ (r : Reading). r.end) g.passes.is

pub place_is : (r : Reading) → IsReading r → r.place ≡ r.end - length (left r)
place_is r is = let l : length (left r) ≡ r.end - r.place = length-left r is in let p : r.place ≤ r.end = is.place in omega arith

pub place_stands : (old mid : Reading) → IsReading mid → Went old mid → mid.place ≡ old.end - length (left mid)
place_stands old mid is g = let p : mid.place ≡ mid.end - length (left mid) = place_is mid is in let e : mid.end ≡ old.end = end_kept old mid g in omega arith

-- what was read in the order of another reader
pub took_in : (A : Type 0) (read : Bool → Read A) (old mid new : Reading) (x : A) → Went old mid → Took A (read mid.is_big) mid new x → Took A (read old.is_big) mid new x
took_in A read old mid new x g h = subst (λ (b : Bool). Took A (read b) mid new x) (went_order old mid g) h

pub not_in : (A : Type 0) (read : Bool → Read A) (old mid : Reading) (bs : List ℕ) (e : ReadError) → Went old mid → read mid.is_big bs ≡ Err e → read old.is_big bs ≡ Err e
not_in A read old mid bs e g h = subst (λ (b : Bool). read b bs ≡ Err e) (went_order old mid g) h

-- what an option was found to have
pub took_none : (A B : Type 0) (f : A → B) (read : Read (Option B)) (old new : Reading) (o : Option A) → Took (Option B) read old new (option_of f o) → o ≡ None → Took (Option B) read old new None
took_none A B f read old new o h e = subst (λ (x : Option A). Took (Option B) read old new (option_of f x)) e h

pub took_some : (A B : Type 0) (f : A → B) (read : Read (Option B)) (old new : Reading) (o : Option A) (x : A) → Took (Option B) read old new (option_of f o) → o ≡ Some x → Took (Option B) read old new (Some (f x))
took_some A B f read old new o x h e = subst (λ (y : Option A). Took (Option B) read old new (option_of f y)) e h

pub if_some : (A : Type 0) (p : A → Type 0) (o : Option A) (x : A) → IfSome o p → o ≡ Some x → p x
if_some A p o x h e = subst (λ (y : Option A). IfSome y p) e h
