-- The fields of a line, each read from the front of those that are left.
use Rattle.std.specs.Prelude.{ℕ, Bool, true, ◌&&◌, List, [], ◌∷◌, Option, Some, None, Result, Ok, Err, ok_or, nat_le, ◌==◌, if◌then◌else◌, bytes_eq, codes}
use Rattle.std.specs.List.{list_all}
use Rattle.dw_base.specs.declared.endianity.RunTimeEndian.{RunTimeEndian}
use Rattle.dw_base.specs.declared.endianity.RunTimeEndian.TheVariants.{Little, Big}
use Rattle.dw_ends.specs.declared.reason.Reason.{Reason}
use Rattle.dw_ends.specs.declared.reason.Reason.TheVariants.{BadByte, UnknownWord, BadNumber, BadHex, WrongFields}
use Rattle.dw_ends.specs.Bytes.{hex_bytes}
use Rattle.dw_ends.specs.Numbers.{number_below}
use Rattle.dw_ends.specs.Pieces.{pieces, space}

-- the fields of a line from some place on
abbrev pub Fields : Type 0
Fields = List (List ℕ)

-- a value, or the reason that there is none
abbrev pub Outcome : Type 0 → Type 0
Outcome T = Result T Reason

-- go on with the value, or keep the first reason
infixl 10 ◌>>=◌
abbrev pub ◌>>=◌ : {A B : Type 0} → Outcome A → (A → Outcome B) → Outcome B
Ok x >>= next = next x
Err reason >>= next = Err reason

-- a value with the fields that are left after it
abbrev pub with_rest : {T : Type 0} → Outcome T → Fields → Outcome (T × Fields)
with_rest (Ok x) rest = Ok (x, rest)
with_rest (Err reason) rest = Err reason

-- an empty line, and one that begins with `#`, which is 35, says nothing
abbrev pub passed_over : List ℕ → Bool
passed_over [] = true
passed_over (first ∷ _) = first == 35

-- each byte is printable ASCII
abbrev pub all_printable : List ℕ → Bool
all_printable line = list_all (λ b. nat_le 32 b && nat_le b 126) line

-- the fields of a line, if it isn't passed over; its bytes are looked at before them
abbrev pub line_fields : List ℕ → Outcome (Option Fields)
line_fields line =
    if passed_over line then Ok None
    else (if all_printable line then Ok (Some (pieces space line)) else Err BadByte)

-- what the fields of a line say, if it has any
abbrev pub said_by : {T : Type 0} → (Fields → Outcome T) → Option Fields → Outcome (Option T)
said_by saying None = Ok None
said_by saying (Some fields) = saying fields >>= λ said. Ok (Some said)

-- the first field, and the fields after it
abbrev pub next_field : Fields → Outcome (List ℕ × Fields)
next_field [] = Err WrongFields
next_field (field ∷ fields) = Ok (field, fields)

-- no field is left over
abbrev pub end_of_fields : Fields → Outcome (Unit {0})
end_of_fields [] = Ok tt
end_of_fields (_ ∷ _) = Err WrongFields

-- a number below the limit, and the fields after it
abbrev pub number_field : ℕ → Fields → Outcome (ℕ × Fields)
number_field limit fields = do
  (field, fields) ← next_field fields
  n ← ok_or (number_below limit field) BadNumber
  Ok (n, fields)

-- a byte order, and the fields after it
abbrev pub byte_order_field : Fields → Outcome (RunTimeEndian × Fields)
byte_order_field fields = do
  (field, fields) ← next_field fields
  order ← (if bytes_eq field (codes "little") then Ok Little else (if bytes_eq field (codes "big") then Ok Big else Err UnknownWord))
  Ok (order, fields)

-- bytes in base 16, and the fields after them
abbrev pub hex_field : Fields → Outcome (List ℕ × Fields)
hex_field fields = do
  (field, fields) ← next_field fields
  bytes ← ok_or (hex_bytes field) BadHex
  Ok (bytes, fields)
