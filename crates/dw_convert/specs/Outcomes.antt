-- What converting may answer: an outcome tells which results are right, Ok ones and errors alike.
use Rattle.std.specs.Prelude.{◌≡◌, ℕ, Option, Some, None, Result, Ok, Err}
use Rattle.dw_base.specs.declared.address.Address.{Address}
use Rattle.dw_read.specs.declared.error.ReadError.{ReadError}
use Rattle.dw_sources.specs.ConvertErrors.{from_read}
use Rattle.dw_sources.specs.declared.convert_error.ConvertError.{ConvertError}
use Rattle.dw_sources.specs.declared.convert_error.ConvertError.TheVariants.{InvalidAddress}

-- what was read, with the reader's reason among the converter's
abbrev pub of_read : {A : Type 0} → Result A ReadError → Result A ConvertError
of_read (Ok x) = Ok x
of_read (Err e) = Err (from_read e)

-- what comes after a result: its error ends all
abbrev pub After : {A B : Type 0} → Result A ConvertError → (A → Result B ConvertError → Type 0) → Result B ConvertError → Type 0
After (Ok x) rest r = rest x r
After (Err e) rest r = r ≡ Err e

-- one conversion after another
abbrev pub Then : {A B : Type 0} → (Result A ConvertError → Type 0) → (A → Result B ConvertError → Type 0) → Result B ConvertError → Type 0
Then first rest r = (x : _) × first x × After x rest r

-- The address that a caller answers for a number, or that it answers none: the caller is known by its answers.
abbrev pub AddressOutcome : (ℕ → Option Address → Type 0) → ℕ → Result Address ConvertError → Type 0
AddressOutcome answers n (Ok a) = answers n (Some a)
AddressOutcome answers n (Err e) = (e ≡ InvalidAddress) × answers n None

-- the same for the number of an index, if there is one
abbrev pub IndexOutcome : (ℕ → Option Address → Type 0) → (ℕ → Result ℕ ConvertError) → ℕ → Result Address ConvertError → Type 0
IndexOutcome answers addresses i = After (addresses i) (AddressOutcome answers)
