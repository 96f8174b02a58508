-- Which bytes are pairs of digits of base 16, and which fields of a line.
use Rattle.std.proofs.Common.{◌≡◌, ℕ, ◌%◌, ◌/◌, IsOk, unwrap_or, arith, Bool, true, false, List, [], length, Result, Ok, Err, is_ok, refl, sym, ap}
use Rattle.std.specs.List.{list_all}
use Rattle.std.specs.Result.{result_ok}
use Rattle.dw_ends.specs.Bytes.{bytes_of_digits}
use Rattle.std.proofs.lemmas.List.Sums.{AllPass-from_list_all, list_all-from_AllPass}
use Rattle.hex.specs.Hex.{decode_of, decode_pairs, is_hex_digit}
use Rattle.hex.specs.declared.error.FromHexError.{FromHexError}
use Rattle.hex.proofs.HexLemmas.{decode_of-ok, decode_of-digits}

-- no digits are no bytes
pub decode_of-nil : decode_of [] ≡ Ok []
unfolding decode_pairs
decode_of-nil = refl

-- digits decode
decodes : (digits : List ℕ) → length digits % 2 ≡ 0 → list_all is_hex_digit digits ≡ true → true ≡ is_ok (decode_of digits)
decodes digits even all =
    let r = decode_of-digits digits even (AllPass-from_list_all is_hex_digit digits all) in
    sym (ap is_ok r.1)

-- what decodes is digits
refused : (digits : List ℕ) (r : Result (List ℕ) FromHexError) → decode_of digits ≡ r → list_all is_hex_digit digits ≡ false → false ≡ is_ok r
refused digits (Ok bytes) e all =
    let ok = decode_of-ok digits bytes e in
    let yes : list_all is_hex_digit digits ≡ true = list_all-from_AllPass is_hex_digit digits ok.1 in cc
refused digits (Err _) e all = refl

-- an even number of bytes decodes where all are digits
pub is_ok-decode_of : (digits : List ℕ) (all : Bool) → length digits % 2 ≡ 0 → list_all is_hex_digit digits ≡ all → all ≡ is_ok (decode_of digits)
is_ok-decode_of digits true even e = decodes digits even e
is_ok-decode_of digits false even e = refused digits (decode_of digits) refl e

-- bytes that decode are half as many as their digits
half_of_ok : (digits : List ℕ) (r : Result (List ℕ) FromHexError) → decode_of digits ≡ r → IsOk r → length digits / 2 ≡ length (unwrap_or (result_ok r) [])
half_of_ok digits (Ok bytes) e ok = let all = decode_of-ok digits bytes e in omega (arith, all.2)
half_of_ok digits (Err _) e ok = absurd cc

pub half_of_digits : (digits : List ℕ) → IsOk (decode_of digits) → length digits / 2 ≡ length (bytes_of_digits digits)
half_of_digits digits ok = half_of_ok digits (decode_of digits) refl ok
