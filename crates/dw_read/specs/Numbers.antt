-- What calls that read a number of some bytes answer.
use Rattle.std.specs.Prelude.{ℕ}
use Rattle.dw_base.specs.Numbers.{number_at}
use Rattle.dw_read.specs.Reading.{Reading, Reads, Refuses}
use Rattle.dw_read.specs.Reasons.{number_read, address_at, address_read}
use Rattle.dw_read.specs.declared.error.ReadError.{ReadError}

-- the number of w bytes is read, in the byte order of the section, and passed
abbrev pub ReadsNumber : ℕ → Reading → Reading → ℕ → Type 0
ReadsNumber w old new = Reads ℕ (number_at old.is_big w) old new

-- no number of w bytes is there, for this reason
abbrev pub RefusesNumber : ℕ → Reading → ReadError → Type 0
RefusesNumber w old = Refuses ℕ (number_at old.is_big w) (number_read old.is_big w) old

-- the address of a size is read and passed
abbrev pub ReadsAddress : ℕ → Reading → Reading → ℕ → Type 0
ReadsAddress size old new = Reads ℕ (address_at old.is_big size) old new

-- no address of the size is there, for this reason
abbrev pub RefusesAddress : ℕ → Reading → ReadError → Type 0
RefusesAddress size old = Refuses ℕ (address_at old.is_big size) (address_read old.is_big size) old
