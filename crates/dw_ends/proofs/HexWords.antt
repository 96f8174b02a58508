-- Bytes that are printed in hex are read back.
use Rattle.std.proofs.Common.{◌≡◌, ℕ, ◌/◌, ◌%◌, slice_index, true, false, bytes_eq, codes, List, ◌∷◌, length, Some, refl, arith, ◌==◌}
use Rattle.std.specs.List.{All}
use Rattle.std.proofs.lemmas.Bool.Decides.{nat_tests}
use Rattle.std.proofs.lemmas.Grind.{common_steps}
use Rattle.hex.specs.Hex.{IsBytes, encode_lower, encode_with, is_hex_digit, lower_digits}
use Rattle.hex.proofs.HexLemmas.{decode_of-encode_lower, decode_of-ok}
use Rattle.dw_ends.specs.Bytes.{hex_bytes}
use Rattle.dw_ends.proofs.Visible.{IsVisible}

digit_visible : (b : ℕ) → is_hex_digit b ≡ true → IsVisible b
digit_visible b e = grind (arith, nat_tests, common_steps, e)

-- the digits of bytes are visible
pub hex_visible : (bytes : List ℕ) → IsBytes bytes → All IsVisible (encode_lower bytes)
hex_visible bytes are k d inside =
    digit_visible _ ((decode_of-ok (encode_lower bytes) bytes (decode_of-encode_lower bytes are)).1 k d inside)

-- two digits or more are no dash
no_dash : (a b : ℕ) (rest : List ℕ) → bytes_eq (a ∷ b ∷ rest) (codes "-") ≡ false
no_dash a b rest = grind (arith, nat_tests, common_steps)

two_or_more : (b : ℕ) (bytes : List ℕ) → bytes_eq (encode_lower (b ∷ bytes)) (codes "-") ≡ false
unfolding encode_with
two_or_more b bytes = no_dash (slice_index lower_digits (b / 16)) (slice_index lower_digits (b % 16)) (encode_with lower_digits bytes)

some_digits : (b : ℕ) (bytes : List ℕ) → (length (encode_lower (b ∷ bytes)) == 0) ≡ false
unfolding encode_with
some_digits b bytes = grind (arith, nat_tests)

-- the hex of one byte or more is read as the bytes
pub hex_read : (b : ℕ) (bytes : List ℕ) → IsBytes (b ∷ bytes) → hex_bytes (encode_lower (b ∷ bytes)) ≡ Some (b ∷ bytes)
hex_read b bytes are = rw (two_or_more b bytes, some_digits b bytes, decode_of-encode_lower (b ∷ bytes) are) refl
