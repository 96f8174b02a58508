-- Pointers are read by the writer's definition as by the reader's.
use Rattle.std.specs.Prelude.{◌≡◌, ℕ, zero, suc, ◌+◌, ◌-◌, ◌*◌, ◌%◌, ◌^◌, ◌<◌, ◌==◌, IsTrue, nat_lt, Bool, true, false, List, ◌++◌, Option, Some, None, Ok, ℤ, pos, negsuc, refl, if◌then◌else◌}
use Rattle.std.specs.Result.{result_ok}
use Rattle.std.proofs.Common.{sym, ◌∙◌, ap, arith}
use Rattle.std.proofs.Math.Nat.{mod-lt}
use Rattle.dw_base.specs.Numbers.{◌>>=◌, number_at, is_width}
use Rattle.dw_base.specs.Leb128.{sleb_at}
use Rattle.dw_base.specs.Pointers.{format_of, application_of, from_zero, from_place}
use Rattle.dw_base.specs.declared.constants.DwEhPe.{DwEhPe}
use Rattle.dw_writer.specs.Pointers.{layout_by, constant_pointer, data_text}
use Rattle.dw_read.specs.Reasons.{◌=>>◌, or_refuse, if_so, number_read, sleb_read, address_read}
use Rattle.dw_read.specs.declared.error.ReadError.{ReadError}
use Rattle.dw_read.specs.declared.error.ReadError.TheVariants.{UnknownPointerEncoding, UnsupportedAddressSize}
use Rattle.dw_read.proofs.Laws.{then_ok, read_is, number_law, uleb_law, sleb_law}
use Rattle.dw_frame.specs.ReadPointers.{data_at, laid_at, with_rest, pointer_at}
use Rattle.dw_frame.specs.ReadPointers as written
use Rattle.dw_frame.proofs.PointerLaws.{data-again, pointer-again}
use Rattle.dw_read_frames.specs.Pointers.{extended, in_bits, extended_read, signed_read, format_row, data_read, led_to, pointer_read}
use Rattle.dw_read_back.specs.Pointers.{PointersAreOne}

address_same : (big : Bool) (size : ℕ) (bytes : List ℕ) → IsTrue (is_width size) → result_ok (address_read big size bytes) ≡ number_at big size bytes
unfolding address_read
address_same big size bytes width = ap (λ b. result_ok (if_so b (UnsupportedAddressSize size) (number_read big size bytes))) width ∙ number_law big size bytes

bits_same : (z : ℤ) → in_bits z ≡ written.in_bits z
bits_same (pos n) = refl
bits_same (negsuc n) = refl

signed_same : (bytes : List ℕ) → result_ok (signed_read bytes) ≡ (sleb_at bytes >>= λ x. Some (written.in_bits x.0, x.1))
signed_same bytes = then_ok (sleb_read bytes) (sleb_at bytes) _ _ (sleb_law bytes) (λ x. ap (λ n. Some (n, x.1)) (bits_same x.0))

carried : (b : Bool) (n m k : ℕ) → m ≡ k → (if b then n else m) ≡ (if b then n else k)
carried b n m k e = ap (λ x. if b then n else x) e

extended_2 : (n : ℕ) → extended 2 n ≡ written.extended 2 n
extended_2 n = carried (nat_lt n (2 ^ (8 * 2 - 1))) n (n + (2 ^ 64 - 2 ^ (8 * 2))) (n + 2 ^ 64 - 2 ^ (8 * 2)) (omega arith)

extended_4 : (n : ℕ) → extended 4 n ≡ written.extended 4 n
extended_4 n = carried (nat_lt n (2 ^ (8 * 4 - 1))) n (n + (2 ^ 64 - 2 ^ (8 * 4))) (n + 2 ^ 64 - 2 ^ (8 * 4)) (omega arith)

extended_same : (big : Bool) (w : ℕ) → ((n : ℕ) → extended w n ≡ written.extended w n) → (bytes : List ℕ) → result_ok (extended_read big w bytes) ≡ (number_at big w bytes >>= λ x. Some (written.extended w x.0, x.1))
extended_same big w same bytes = then_ok (number_read big w bytes) (number_at big w bytes) _ _ (number_law big w bytes) (λ x. ap (λ n. Some (n, x.1)) (same x.0))

either_way : (b : Bool) (n m : ℕ) → m ≡ n → (if b then n else m) ≡ n
either_way true n m e = refl
either_way false n m e = e

-- eight bytes are 64 bits, whatever their sign
whole_same : (o : Option (ℕ × List ℕ)) → (o >>= λ x. Some (written.extended 8 x.0, x.1)) ≡ o
whole_same None = refl
whole_same (Some x) = ap (λ n. Some (n, x.1)) (either_way (nat_lt x.0 (2 ^ (8 * 8 - 1))) x.0 (x.0 + 2 ^ 64 - 2 ^ (8 * 8)) (omega arith))

format_same : (big : Bool) (size format : ℕ) (bytes : List ℕ) (e : ReadError) → IsTrue (is_width size) → format < 16 →
    result_ok (or_refuse e (format_row big size format) =>> λ p. p bytes) ≡ (layout_by size format >>= λ layout. laid_at big layout bytes)
unfolding format_row
format_same big size zero bytes e width small = address_same big size bytes width
format_same big size (suc zero) bytes e width small = uleb_law bytes
format_same big size (suc (suc zero)) bytes e width small = number_law big 2 bytes
format_same big size (suc (suc (suc zero))) bytes e width small = number_law big 4 bytes
format_same big size (suc (suc (suc (suc zero)))) bytes e width small = number_law big 8 bytes
format_same big size (suc (suc (suc (suc (suc zero))))) bytes e width small = refl
format_same big size (suc (suc (suc (suc (suc (suc zero)))))) bytes e width small = refl
format_same big size (suc (suc (suc (suc (suc (suc (suc zero))))))) bytes e width small = refl
format_same big size (suc (suc (suc (suc (suc (suc (suc (suc zero)))))))) bytes e width small = refl
format_same big size (suc (suc (suc (suc (suc (suc (suc (suc (suc zero))))))))) bytes e width small = signed_same bytes
format_same big size (suc (suc (suc (suc (suc (suc (suc (suc (suc (suc zero)))))))))) bytes e width small = extended_same big 2 (λ n. extended_2 n) bytes
format_same big size (suc (suc (suc (suc (suc (suc (suc (suc (suc (suc (suc zero))))))))))) bytes e width small = extended_same big 4 (λ n. extended_4 n) bytes
format_same big size (suc (suc (suc (suc (suc (suc (suc (suc (suc (suc (suc (suc zero)))))))))))) bytes e width small = number_law big 8 bytes ∙ sym (whole_same (number_at big 8 bytes))
format_same big size (suc (suc (suc (suc (suc (suc (suc (suc (suc (suc (suc (suc (suc zero))))))))))))) bytes e width small = refl
format_same big size (suc (suc (suc (suc (suc (suc (suc (suc (suc (suc (suc (suc (suc (suc zero)))))))))))))) bytes e width small = refl
format_same big size (suc (suc (suc (suc (suc (suc (suc (suc (suc (suc (suc (suc (suc (suc (suc zero))))))))))))))) bytes e width small = refl
format_same big size (suc (suc (suc (suc (suc (suc (suc (suc (suc (suc (suc (suc (suc (suc (suc (suc n)))))))))))))))) bytes e width small = absurd (omega (arith, small))

data_same : (big : Bool) (size : ℕ) (encoding : DwEhPe) (bytes : List ℕ) → IsTrue (is_width size) → result_ok (data_read big size encoding bytes) ≡ data_at big size (format_of encoding.0) bytes
unfolding data_read data_at
data_same big size encoding bytes width = format_same big size (format_of encoding.0) bytes (UnknownPointerEncoding encoding) width (mod-lt encoding.0 (omega arith))

led_by : (a b : Bool) (place n : ℕ) → (if a then Some n else if b then Some ((n + place) % 2 ^ 64) else None) ≡ (if a then Some n else (if b then Some ((place + n) % 2 ^ 64) else None))
led_by a b place n = ap (λ m. if a then Some n else (if b then Some (m % 2 ^ 64) else None)) (omega arith)

rest_same : (e : ReadError) (rest : List ℕ) (o : Option ℕ) → result_ok (or_refuse e o =>> λ a. Ok (a, rest)) ≡ with_rest rest o
rest_same e rest None = refl
rest_same e rest (Some a) = refl

pointer_same : (big : Bool) (size : ℕ) (encoding : DwEhPe) (place : ℕ) (bytes : List ℕ) → IsTrue (is_width size) → result_ok (pointer_read big size encoding place bytes) ≡ pointer_at big size encoding.0 place bytes
unfolding pointer_read pointer_at
pointer_same big size encoding place bytes width =
    then_ok (data_read big size encoding bytes) (data_at big size (format_of encoding.0) bytes) _ _ (data_same big size encoding bytes width)
    (λ x. rest_same (UnknownPointerEncoding encoding) x.1 (led_to (application_of encoding.0) place x.0)
    ∙ ap (with_rest x.1) (led_by (application_of encoding.0 == from_zero) (application_of encoding.0 == from_place) place x.0))

pub pointers_one : (big : Bool) (size : ℕ) (encoding : DwEhPe) → IsTrue (is_width size) → PointersAreOne big size encoding
pointers_one big size encoding width = record {
  number = λ bytes. data_same big size encoding bytes width;
  address = λ place bytes. pointer_same big size encoding place bytes width;
}

-- what is written is read so

pub data_back : (big : Bool) (size : ℕ) (encoding : DwEhPe) (n : ℕ) (xs rest : List ℕ) → IsTrue (is_width size) → n < 2 ^ 64 → data_text big size (format_of encoding.0) n ≡ Some xs → data_read big size encoding (xs ++ rest) ≡ Ok (n, rest)
data_back big size encoding n xs rest width h e =
    read_is ℕ (data_at big size (format_of encoding.0)) (data_read big size encoding) (xs ++ rest) (n, rest) (pointers_one big size encoding width).number (data-again big size (format_of encoding.0) n xs rest h e)

pub pointer_back : (big : Bool) (size : ℕ) (encoding : DwEhPe) (place n : ℕ) (xs rest : List ℕ) → IsTrue (is_width size) → n < 2 ^ 64 → constant_pointer big size encoding.0 place n ≡ Some xs →
    pointer_read big size encoding place (xs ++ rest) ≡ Ok (n, rest)
pointer_back big size encoding place n xs rest width h e =
    read_is ℕ (pointer_at big size encoding.0 place) (pointer_read big size encoding place) (xs ++ rest) (n, rest) ((pointers_one big size encoding width).address place) (pointer-again big size encoding.0 place n xs rest h e)
