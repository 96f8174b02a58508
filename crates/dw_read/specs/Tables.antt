-- What a look-up in an abbreviation table answers.
use Rattle.std.specs.Prelude.{◌≡◌, ◌⊎◌, ℕ, List, Option, Some, None}
use Rattle.std.specs.Borrow.{Bor}
use Rattle.dw_base.specs.Abbreviations.{Declaration, shape_of_code, table_at}
use Rattle.dw_read.specs.Reading.{Reading, Refuses}
use Rattle.dw_read.specs.Declarations.{table_read}
use Rattle.dw_read.specs.declared.error.ReadError.{ReadError}
use Rattle.dw_read.specs.declared.error.ReadError.TheVariants.{NoMemory}

-- the grammar reads no table, for this reason, or there was no memory
abbrev pub RefusesTable : Reading → ReadError → Type 0
RefusesTable old e = (e ≡ NoMemory) ⊎ Refuses (List Declaration) table_at table_read old e

-- None exactly where the code isn't in the table
abbrev pub Finds : List Declaration → ℕ → Option (Bor Declaration) → Type 0
Finds table code None = shape_of_code table code ≡ None
Finds table code (Some a) = (a.now.code ≡ code) × (shape_of_code table code ≡ Some a.now.shape)
