-- Bytes as they are spelled: pairs of digits of base 16.
use Rattle.std.specs.Prelude.{ℕ, List, [], length, ◌==◌, Option, Some, None, bytes_eq, codes, unwrap_or, if◌then◌else◌}
use Rattle.std.specs.Result.{result_ok}
use Rattle.hex.specs.Hex.{decode_of}

-- the bytes that pairs of digits spell, of either case; digits that spell none count as no bytes
abbrev pub bytes_of_digits : List ℕ → List ℕ
bytes_of_digits digits = unwrap_or (result_ok (decode_of digits)) []

-- the bytes that a field spells: one or more pairs of digits, or `-` for no bytes
abbrev pub hex_bytes : List ℕ → Option (List ℕ)
hex_bytes field =
    if bytes_eq field (codes "-") then Some []
    else (if length field == 0 then None else result_ok (decode_of field))
