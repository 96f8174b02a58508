-- What converting answers, one step after another.
use Rattle.std.specs.Prelude.{◌≡◌, Result, Ok, Err}
use Rattle.dw_read.specs.declared.error.ReadError.{ReadError}
use Rattle.dw_sources.specs.ConvertErrors.{from_read}
use Rattle.dw_sources.specs.declared.convert_error.ConvertError.{ConvertError}

-- what was read, with the reader's reason among the converter's
abbrev pub of_read : {A : Type 0} → Result A ReadError → Result A ConvertError
of_read (Ok x) = Ok x
of_read (Err e) = Err (from_read e)

-- the next step, where there was a value
infixl 10 ◌=>◌
abbrev pub ◌=>◌ : {A B : Type 0} → Result A ConvertError → (A → Result B ConvertError) → Result B ConvertError
(Ok x) => f = f x
(Err e) => f = Err e

-- what comes after a result: its error ends all
abbrev pub After : {A B : Type 0} → Result A ConvertError → (A → Result B ConvertError → Type 0) → Result B ConvertError → Type 0
After (Ok x) rest r = rest x r
After (Err e) rest r = r ≡ Err e

-- one outcome after another: an outcome tells which results are right
abbrev pub Then : {A B : Type 0} → (Result A ConvertError → Type 0) → (A → Result B ConvertError → Type 0) → Result B ConvertError → Type 0
Then first rest r = (x : _) × first x × After x rest r
