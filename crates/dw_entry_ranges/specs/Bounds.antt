-- Low and high addresses (DWARF 5, 2.17.1 and 2.17.2).
use Rattle.std.specs.Prelude.{ℕ, List, Option, Some, None, Result, Ok}
use Rattle.dw_base.specs.declared.constants.TheConstants.{DW_AT_low_pc, DW_AT_high_pc}
use Rattle.dw_read.specs.Reasons.{◌=>>◌}
use Rattle.dw_read.specs.Values.{Value, constant_in}
use Rattle.dw_read.specs.declared.error.ReadError.{ReadError}
use Rattle.dw_read_units.specs.Roots.{last_value}
use Rattle.dw_entry_ranges.specs.Addresses.{if_any, address_of}
use Rattle.dw_entry_ranges.specs.Ranges.{from_to, with_length}
use Rattle.dw_entry_ranges.specs.declared.range.CodeAddresses.{CodeAddresses}
use Rattle.dw_entry_ranges.specs.declared.range.CodeAddresses.TheVariants.{Single, Contiguous}

-- an address with a constant that counts from it, or alone
abbrev pub counted : ℕ → Option ℕ → CodeAddresses
counted a None = Single a
counted a (Some n) = Contiguous (with_length a n)

-- with the address of the high value, or else with the constant that the high value is
abbrev pub up_to : ℕ → Option ℕ → Option ℕ → CodeAddresses
up_to a (Some b) n = Contiguous (from_to a b)
up_to a None n = counted a n

module _ (address : ℕ → Result ℕ ReadError) where
  -- of each name the last value counts
  abbrev pub low_of : List (ℕ × Value) → Result (Option ℕ) ReadError
  low_of xs = if_any (last_value DW_AT_low_pc.0 DW_AT_low_pc.0 xs) (address_of address)

  abbrev pub with_high : ℕ → Value → Result CodeAddresses ReadError
  with_high a high = address_of address high =>> λ b. Ok (up_to a b (constant_in high))

  abbrev pub high_or : Option Value → ℕ → Result CodeAddresses ReadError
  high_or None a = Ok (Single a)
  high_or (Some high) a = with_high a high

  -- what an entry has that begins at an address
  abbrev pub bounded : List (ℕ × Value) → ℕ → Result CodeAddresses ReadError
  bounded xs a = high_or (last_value DW_AT_high_pc.0 DW_AT_high_pc.0 xs) a

  -- what an entry has: nothing where no low address is there
  unfoldable pub low_high : List (ℕ × Value) → Result (Option CodeAddresses) ReadError
  low_high xs = low_of xs =>> λ low. if_any low (λ a. bounded xs a =>> λ c. Ok (Some c))
