-- Locations that begin with an address (DWARF 5, 2.5.1.1 and 2.6.1.1.2).
use Rattle.std.specs.Prelude.{ℕ, Bool, List, Option, Some, None, Result, Ok}
use Rattle.dw_base.specs.declared.common.Encoding.{Encoding}
use Rattle.dw_base.specs.declared.constants.TheConstants.{DW_AT_location}
use Rattle.dw_read.specs.Reasons.{◌=>>◌}
use Rattle.dw_read.specs.Values.{Value}
use Rattle.dw_read.specs.declared.error.ReadError.{ReadError}
use Rattle.dw_read.specs.declared.value.AttributeValue.TheVariants.{Exprloc}
use Rattle.dw_read_units.specs.Roots.{last_value}
use Rattle.dw_sources.specs.OperationTable.{operation_at}
use Rattle.dw_sources.specs.Operations.{Operation, Address, AddressIndex}
use Rattle.dw_entry_ranges.specs.Addresses.{if_any}

module _ (address : ℕ → Result ℕ ReadError) where
  -- the address that an operation pushes; other operations push none
  abbrev pub pushed : Operation → Result (Option ℕ) ReadError
  pushed (Address a) = Ok (Some a)
  pushed (AddressIndex i) = address i =>> λ a. Ok (Some a)
  pushed o = Ok None

  module _ (big : Bool) (e : Encoding) where
    -- the same of the first operation of an expression; where none can be read there, none is pushed
    unfoldable pub first_address : List ℕ → Result (Option ℕ) ReadError
    first_address bytes = if_any (operation_at big e bytes) (λ x. pushed x.0)

    abbrev pub address_in_location : Value → Result (Option ℕ) ReadError
    address_in_location (Exprloc x) = first_address x.0
    address_in_location v = Ok None

    -- of the last value under DW_AT_location, where that is an expression
    unfoldable pub location_address : List (ℕ × Value) → Result (Option ℕ) ReadError
    location_address xs = if_any (last_value DW_AT_location.0 DW_AT_location.0 xs) address_in_location
