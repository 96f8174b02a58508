-- Ranges of addresses (DWARF 5, 2.17).
use Rattle.std.specs.Prelude.{ℕ, ◌+◌}
use Rattle.dw_entry_ranges.specs.declared.range.AddressRange.{AddressRange}
use Rattle.dw_entry_ranges.specs.declared.range.CodeAddresses.{CodeAddresses}
use Rattle.dw_entry_ranges.specs.declared.range.CodeAddresses.TheVariants.{Single, Contiguous}

-- from an address to before another
abbrev pub from_to : ℕ → ℕ → AddressRange
from_to m n = record { begin = m; end = n }

-- so many addresses from one on
abbrev pub with_length : ℕ → ℕ → AddressRange
with_length m n = from_to m (m + n)

-- a single address is a range of one
abbrev pub range_of : CodeAddresses → AddressRange
range_of (Single a) = with_length a 1
range_of (Contiguous r) = r
