-- What a table of instructions reads behind a code, from what the calls in it answered.
use Rattle.std.proofs.Common.{◌≡◌, ◌∙◌, ap, ℕ, List, Option, Some, None, Ok, Err, refl, ⊎_elim}
use Rattle.std.proofs.lemmas.Bool.{cases_eq}
use Rattle.dw_read.specs.Reading.{Reading, IsReading, Read, left}
use Rattle.dw_read.specs.Reasons.{◌=>>◌}
use Rattle.dw_read.specs.Took.{Took}
use Rattle.dw_read.specs.declared.error.ReadError.{ReadError}
use Rattle.dw_read.proofs.Chain.{took, went, went_none, went_then}
use Rattle.dw_read_frames.specs.Instructions.{Instruction}
use Rattle.dw_read_frames.specs.Instructions.{none, one, two, tried}

tried_is : (o : Option (Read Instruction)) (p : Read Instruction) (bs rest : List ℕ) (x : Instruction) → o ≡ Some p → p bs ≡ Ok (x, rest) → tried o bs ≡ Ok (Some x, rest)
unfolding tried
tried_is o p bs rest x h k = rw (h, k) refl

tried_not : (o : Option (Read Instruction)) (p : Read Instruction) (bs : List ℕ) (e : ReadError) → o ≡ Some p → p bs ≡ Err e → tried o bs ≡ Err e
unfolding tried
tried_not o p bs e h k = rw (h, k) refl

tried_nothing : (o : Option (Read Instruction)) (bs : List ℕ) → o ≡ None → tried o bs ≡ Ok (None, bs)
unfolding tried
tried_nothing o bs h = rw h refl

-- a table has no row of a code
pub no_row : (o : Option (Read Instruction)) (old : Reading) → IsReading old → o ≡ None → Took (Option Instruction) (tried o) old old None
no_row o old is h = took (Option Instruction) (tried o) old old None (went_none old is) (tried_nothing o (left old) h)

-- the row of a code, and a row that two codes have
pub at_row : (table : ℕ → Option (Read Instruction)) (code k : ℕ) (r : Option (Read Instruction)) → table k ≡ r → code ≡ k → table code ≡ r
at_row table code k r h e = ap table e ∙ h

pub at_either : (table : ℕ → Option (Read Instruction)) (code k l : ℕ) (r : Option (Read Instruction)) → table k ≡ r → table l ≡ r → ((code ≡ k → ⊥) → code ≡ l) → table code ≡ r
at_either table code k l r h i n = ⊎_elim (λ (e : code ≡ k). ap table e ∙ h) (λ (d : code ≡ k → ⊥). ap table (n d) ∙ i) (cases_eq code k)

module _ (o : Option (Read Instruction)) where
  -- a row of one operand
  module _ (A : Type 0) (p : Read A) (f : A → Instruction) (row : o ≡ Some (one p f)) where
    pub one_ok : (old new : Reading) (x : A) → Took A p old new x → Took (Option Instruction) (tried o) old new (Some (f x))
    one_ok old new x h =
        let v : one p f (left old) ≡ Ok (f x, left new) = ap (λ r. r =>> λ a. Ok (f a.0, a.1)) h.value in
        took (Option Instruction) (tried o) old new (Some (f x)) (went A p old new x h) (tried_is o (one p f) (left old) (left new) (f x) row v)

    pub one_err : (bs : List ℕ) (e : ReadError) → p bs ≡ Err e → tried o bs ≡ Err e
    one_err bs e h = tried_not o (one p f) bs e row (ap (λ r. r =>> λ a. Ok (f a.0, a.1)) h)

  -- a row of two operands
  module _ (A B : Type 0) (p : Read A) (q : Read B) (f : A → B → Instruction) (row : o ≡ Some (two p q f)) where
    pub two_ok : (old mid new : Reading) (x : A) (y : B) → Took A p old mid x → Took B q mid new y → Took (Option Instruction) (tried o) old new (Some (f x y))
    two_ok old mid new x y h l =
        let v : two p q f (left old) ≡ Ok (f x y, left new) = ap (λ r. r =>> λ a. q a.1 =>> λ b. Ok (f a.0 b.0, b.1)) h.value ∙ ap (λ r. r =>> λ b. Ok (f x b.0, b.1)) l.value in
        took (Option Instruction) (tried o) old new (Some (f x y)) (went_then old mid new (went A p old mid x h) (went B q mid new y l)) (tried_is o (two p q f) (left old) (left new) (f x y) row v)

    pub two_first : (bs : List ℕ) (e : ReadError) → p bs ≡ Err e → tried o bs ≡ Err e
    two_first bs e h = tried_not o (two p q f) bs e row (ap (λ r. r =>> λ a. q a.1 =>> λ b. Ok (f a.0 b.0, b.1)) h)

    pub two_second : (old mid : Reading) (x : A) (e : ReadError) → Took A p old mid x → q (left mid) ≡ Err e → tried o (left old) ≡ Err e
    two_second old mid x e h l =
        tried_not o (two p q f) (left old) e row
        (ap (λ r. r =>> λ a. q a.1 =>> λ b. Ok (f a.0 b.0, b.1)) h.value ∙ ap (λ r. r =>> λ b. Ok (f x b.0, b.1)) l)

  -- a row of its own kind
  pub row_ok : (p : Read Instruction) (old new : Reading) (x : Instruction) → o ≡ Some p → Took Instruction p old new x → Took (Option Instruction) (tried o) old new (Some x)
  row_ok p old new x h l = took (Option Instruction) (tried o) old new (Some x) (went Instruction p old new x l) (tried_is o p (left old) (left new) x h l.value)

  pub row_err : (p : Read Instruction) (bs : List ℕ) (e : ReadError) → o ≡ Some p → p bs ≡ Err e → tried o bs ≡ Err e
  row_err p bs e h l = tried_not o p bs e h l

  -- a row without operands
  pub none_ok : (i : Instruction) (old : Reading) → IsReading old → o ≡ Some (none i) → Took (Option Instruction) (tried o) old old (Some i)
  none_ok i old is h = took (Option Instruction) (tried o) old old (Some i) (went_none old is) (tried_is o (none i) (left old) (left old) i h refl)
