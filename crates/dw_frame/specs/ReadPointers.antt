-- How the pointers of call frame tables are read (Linux Standard Base Core 5.0, 10.5.1).
use Rattle.std.specs.Prelude.{ℕ, suc, ◌+◌, ◌-◌, ◌*◌, ◌%◌, ◌^◌, ◌==◌, Bool, nat_lt, List, Option, Some, None, ℤ, pos, negsuc, if◌then◌else◌}
use Rattle.dw_base.specs.Numbers.{Parser, ◌>>=◌, number_at}
use Rattle.dw_base.specs.Leb128.{uleb_at, sleb_at}
use Rattle.dw_base.specs.Pointers.{format_of, application_of, from_zero, from_place}
use Rattle.dw_writer.specs.Pointers.{layout_by}
use Rattle.dw_writer.specs.declared.pointer.PointerLayout.{PointerLayout}
use Rattle.dw_writer.specs.declared.pointer.PointerLayout.TheVariants.{Uleb128, Sleb128, Unsigned, Signed}

-- a number of w bytes, with its highest bit carried up to 64 bits
abbrev pub extended : ℕ → ℕ → ℕ
extended w n = if nat_lt n (2 ^ (8 * w - 1)) then n else n + 2 ^ 64 - 2 ^ (8 * w)

-- a signed number in 64 bits
abbrev pub in_bits : ℤ → ℕ
in_bits (pos n) = n
in_bits (negsuc n) = 2 ^ 64 - suc n

-- a number of 64 bits by its layout
abbrev pub laid_at : Bool → PointerLayout → Parser ℕ
laid_at big Uleb128 bytes = uleb_at bytes
laid_at big Sleb128 bytes = sleb_at bytes >>= λ x. Some (in_bits x.0, x.1)
laid_at big (Unsigned w) bytes = number_at big w bytes
laid_at big (Signed w) bytes = number_at big w bytes >>= λ x. Some (extended w x.0, x.1)

-- by a format, where an address has so many bytes
unfoldable pub data_at : Bool → ℕ → ℕ → Parser ℕ
data_at big size format bytes = layout_by size format >>= λ layout. laid_at big layout bytes

-- what a number leads to that stands at a place: it counts from zero, or from there
abbrev pub led_to : ℕ → ℕ → ℕ → Option ℕ
led_to encoding place n =
    if application_of encoding == from_zero then Some n
    else (if application_of encoding == from_place then Some ((place + n) % 2 ^ 64) else None)

-- an address, and the bytes behind its pointer
abbrev pub with_rest : List ℕ → Option ℕ → Option (ℕ × List ℕ)
with_rest rest None = None
with_rest rest (Some a) = Some (a, rest)

-- the address that a pointer at a place leads to
unfoldable pub pointer_at : Bool → ℕ → ℕ → ℕ → Parser ℕ
pointer_at big size encoding place bytes = data_at big size (format_of encoding) bytes >>= λ x. with_rest x.1 (led_to encoding place x.0)
