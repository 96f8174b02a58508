-- The operands of operations, with the reason where one can't be read (DWARF 5, 7.7.1).
use Rattle.std.specs.Prelude.{ℕ, suc, ◌-◌, ◌*◌, ◌^◌, ◌==◌, nat_lt, Bool, List, Option, Some, None, Ok, ℤ, pos, negsuc, if◌then◌else◌}
use Rattle.dw_base.specs.Numbers.{word_of}
use Rattle.dw_base.specs.declared.common.Encoding.{Encoding}
use Rattle.dw_read.specs.Reading.{Read}
use Rattle.dw_read.specs.Reasons.{◌=>>◌, if_so, bytes_read, number_read, uleb_read, address_read}
use Rattle.dw_read.specs.declared.error.ReadError.TheVariants.{BadLeb128}

-- the signed number whose two's complement in w bytes is n
abbrev pub signed_of : ℕ → ℕ → ℤ
signed_of w n = if nat_lt n (2 ^ (8 * w - 1)) then pos n else negsuc (2 ^ (8 * w) - suc n)

-- a signed number of w bytes
unfoldable pub signed_read : Bool → ℕ → Read ℤ
signed_read big w bytes = number_read big w bytes =>> λ x. Ok (signed_of w x.0, x.1)

-- an unsigned number of 32 bits
unfoldable pub uleb32_read : Read ℕ
uleb32_read bytes = uleb_read bytes =>> λ x. if_so (nat_lt x.0 (2 ^ 32)) BadLeb128 (Ok x)

-- a base type, where 0 is the generic type
abbrev pub base_of : ℕ → Option ℕ
base_of n = if n == 0 then None else Some n

unfoldable pub base_read : Read (Option ℕ)
base_read bytes = uleb_read bytes =>> λ x. Ok (base_of x.0, x.1)

-- bytes behind their number in ULEB128, and behind it in one byte
unfoldable pub block_read : Read (List ℕ)
block_read bytes = uleb_read bytes =>> λ n. bytes_read n.0 n.1

unfoldable pub short_block_read : Bool → Read (List ℕ)
short_block_read big bytes = number_read big 1 bytes =>> λ n. bytes_read n.0 n.1

-- a place in .debug_info, which version 2 gives the width of an address (DWARF 2, 7.5.4)
unfoldable pub info_place_read : Bool → Encoding → Read ℕ
info_place_read big e bytes =
    if e.version == 2 then address_read big e.address_size bytes else number_read big (word_of e.format) bytes
