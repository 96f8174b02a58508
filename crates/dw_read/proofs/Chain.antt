-- Readings inside the crate, one after the other.
use Rattle.std.proofs.Common.{◌≡◌, subst, ℕ, ◌+◌, Some, Ok, Err, Bool, inl, inr}
use Rattle.dw_base.specs.Numbers.{Parser, number_at}
use Rattle.dw_read.specs.Reading.{Reading, IsReading, Passes, Reads, Read, Refuses, left}
use Rattle.dw_read.specs.Took.{Took, RefusesOrFull}
use Rattle.dw_read.specs.Reasons.{number_read}
use Rattle.dw_read.specs.declared.error.ReadError.{ReadError}
use Rattle.dw_read.specs.declared.error.ReadError.TheVariants.{NoMemory}
use Rattle.dw_read.proofs.Laws.{IsReadOf, read_is, grammar_is, number_law}
use Rattle.dw_read.proofs.Lefts.{passes_none, passes_then, same_order}

pub took_of : (A : Type 0) (grammar : Parser A) (read : Read A) (old new : Reading) (x : A) → IsReadOf A grammar read → Reads A grammar old new x → Took A read old new x
took_of A grammar read old new x law h = record { count = h.count; passes = h.passes; value = read_is A grammar read (left old) (x, left new) law h.value }

pub reads_of : (A : Type 0) (grammar : Parser A) (read : Read A) (old new : Reading) (x : A) → IsReadOf A grammar read → Took A read old new x → Reads A grammar old new x
reads_of A grammar read old new x law h = record { count = h.count; passes = h.passes; value = grammar_is A grammar read (left old) (x, left new) law h.value }

-- some bytes were passed
pub record Went (old new : Reading) : Type 0 where
  pub count : ℕ
  pub passes : Passes count old new

pub went_of : (n : ℕ) (old new : Reading) → Passes n old new → Went old new
went_of n old new h = record { count = n; passes = h }

pub went_none : (r : Reading) → IsReading r → Went r r
went_none r h = record { count = 0; passes = passes_none r h }

pub went : (A : Type 0) (read : Read A) (old new : Reading) (x : A) → Took A read old new x → Went old new
went A read old new x h = record { count = h.count; passes = h.passes }

pub went_then : (a b c : Reading) → Went a b → Went b c → Went a c
went_then a b c h k = record { count = h.count + k.count; passes = passes_then h.count k.count a b c h.passes k.passes }

pub took : (A : Type 0) (read : Read A) (old new : Reading) (x : A) → Went old new → read (left old) ≡ Ok (x, left new) → Took A read old new x
took A read old new x h v = record { count = h.count; passes = h.passes; value = v }

pub went_order : (old new : Reading) → Went old new → new.is_big ≡ old.is_big
went_order old new h = same_order h.count old new h.passes

-- a number in the byte order of the reader that read before
pub number_took : (big : Bool) (w x : ℕ) (mid new : Reading) → mid.is_big ≡ big → Reads ℕ (number_at mid.is_big w) mid new x → number_read big w (left mid) ≡ Ok (x, left new)
number_took big w x mid new o h = read_is ℕ (number_at big w) (number_read big w) (left mid) (x, left new) (number_law big w) (subst (λ (b : Bool). number_at b w (left mid) ≡ Some (x, left new)) o h.value)

pub number_not : (big : Bool) (w : ℕ) (mid : Reading) (e : ReadError) → mid.is_big ≡ big → Refuses ℕ (number_at mid.is_big w) (number_read mid.is_big w) mid e → number_read big w (left mid) ≡ Err e
number_not big w mid e o h = subst (λ (b : Bool). number_read b w (left mid) ≡ Err e) o h.reason

pub full : (A : Type 0) (read : Read A) (old : Reading) (e : ReadError) → e ≡ NoMemory → RefusesOrFull A read old e
full A read old e h = inl h

pub reason : (A : Type 0) (read : Read A) (old : Reading) (e : ReadError) → read (left old) ≡ Err e → RefusesOrFull A read old e
reason A read old e h = inr h

-- a refusal of a part is one of the whole
pub refused_of : (A B : Type 0) (p : Read A) (q : Read B) (mid old : Reading) (e : ReadError) → (p (left mid) ≡ Err e → q (left old) ≡ Err e) → RefusesOrFull A p mid e → RefusesOrFull B q old e
refused_of A B p q mid old e f (inl h) = inl h
refused_of A B p q mid old e f (inr h) = inr (f h)
