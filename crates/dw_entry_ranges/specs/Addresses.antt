-- The addresses that values are or lead to (DWARF 5, 2.12, 7.5.5 and 7.27).
use Rattle.std.specs.Prelude.{ℕ, Option, Some, None, Result, Ok, ℤ, pos, negsuc}
use Rattle.dw_read.specs.Reading.{Reading}
use Rattle.dw_read.specs.Reasons.{◌=>>◌, address_read}
use Rattle.dw_read.specs.Values.{Value}
use Rattle.dw_read.specs.declared.error.ReadError.{ReadError}
use Rattle.dw_read.specs.declared.value.AttributeValue.TheVariants.{Addr, DebugAddrIndex}
use Rattle.dw_read_units.specs.Lookups.{bytes_from, indexed}
use Rattle.dw_read_units.specs.Units.{address_in}
use Rattle.dw_read_units.specs.declared.unit_ref.UnitRef.{UnitRef}

-- what comes of a thing, where there is one
abbrev pub if_any : {A B : Type 0} → Option A → (A → Result (Option B) ReadError) → Result (Option B) ReadError
if_any None f = Ok None
if_any (Some x) f = f x

-- the address of an index in a unit's part of .debug_addr, or the reason why there is none
unfoldable pub indexed_address : {R E : Type 0} → (R → Reading) → UnitRef R E → ℕ → Result ℕ ReadError
indexed_address reading u i =
    address_read (reading u.dwarf.now.debug_addr).is_big (address_in u) (bytes_from (indexed u.unit.now.addr_base i (address_in u)) (reading u.dwarf.now.debug_addr)) =>> λ x. Ok x.0

-- the address that a value is, or that its index leads to; other values are none
abbrev pub address_of : (ℕ → Result ℕ ReadError) → Value → Result (Option ℕ) ReadError
address_of address (Addr a) = Ok (Some a)
address_of address (DebugAddrIndex i) = address i =>> λ a. Ok (Some a)
address_of address v = Ok None

abbrev pub not_negative : ℤ → Option ℕ
not_negative (pos n) = Some n
not_negative (negsuc n) = None
