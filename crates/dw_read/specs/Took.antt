-- What calls inside the crate read.
use Rattle.std.specs.Prelude.{◌≡◌, ◌⊎◌, ℕ, Option, Some, None, Ok, Err}
use Rattle.dw_read.specs.Reading.{Reading, Read, Passes, left}
use Rattle.dw_read.specs.declared.error.ReadError.{ReadError}
use Rattle.dw_read.specs.declared.error.ReadError.TheVariants.{NoMemory}

-- what is read from the bytes left is x, and it is passed
pub record Took (A : Type 0) (read : Read A) (old new : Reading) (x : A) : Type 0 where
  pub count : ℕ
  pub passes : Passes count old new
  pub value : read (left old) ≡ Ok (x, left new)

-- nothing is read, for this reason, or there was no memory
abbrev pub RefusesOrFull : (A : Type 0) → Read A → Reading → ReadError → Type 0
RefusesOrFull A read old e = (e ≡ NoMemory) ⊎ (read (left old) ≡ Err e)

abbrev pub option_of : {A B : Type 0} → (A → B) → Option A → Option B
option_of f None = None
option_of f (Some x) = Some (f x)
