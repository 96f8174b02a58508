-- The addresses that indices lead to (DWARF 5, 7.27).
use Rattle.std.specs.Prelude.{ℕ, Option, Some, None, Result, Ok, Err}
use Rattle.dw_read.specs.Reading.{Reading}
use Rattle.dw_read.specs.Reasons.{◌=>>◌, address_read}
use Rattle.dw_read.specs.declared.error.ReadError.{ReadError}
use Rattle.dw_read_units.specs.Lookups.{bytes_from, indexed}
use Rattle.dw_read_units.specs.Units.{address_in}
use Rattle.dw_read_units.specs.declared.unit_ref.UnitRef.{UnitRef}
use Rattle.dw_sources.specs.declared.convert_error.ConvertError.{ConvertError}
use Rattle.dw_sources.specs.declared.convert_error.ConvertError.TheVariants.{UnsupportedOperation}
use Rattle.dw_convert.specs.Outcomes.{of_read}

-- the address of an index behind a base in a section
unfoldable pub address_behind : Reading → ℕ → ℕ → ℕ → Result ℕ ReadError
address_behind section base size i = address_read section.is_big size (bytes_from (indexed base i size) section) =>> λ x. Ok x.0

-- the address of an index in a unit's part of .debug_addr
abbrev pub address_of : {R E : Type 0} → (R → Reading) → UnitRef R E → ℕ → Result ℕ ConvertError
address_of reading u i = of_read (address_behind (reading u.dwarf.now.debug_addr) u.unit.now.addr_base (address_in u) i)

-- the same, where there may be no unit
abbrev pub addresses_in : {R E : Type 0} → (R → Reading) → Option (UnitRef R E) → ℕ → Result ℕ ConvertError
addresses_in reading None i = Err UnsupportedOperation
addresses_in reading (Some u) i = address_of reading u i
