-- The typed fields of a line, each read from the front of those that are left.
use Rattle.std.specs.Prelude.{ℕ, ℤ, ◌^◌, Bool, true, false, Option, Ok, Err, ok_or, ◌==◌, if◌then◌else◌}
use Rattle.dw_base.specs.declared.address.Address.{Address}
use Rattle.dw_base.specs.declared.address.DebugInfoRef.{DebugInfoRef as InfoRef}
use Rattle.dw_base.specs.declared.common.Format.{Format}
use Rattle.dw_base.specs.declared.common.Format.TheVariants.{Dwarf32, Dwarf64}
use Rattle.dw_ends.specs.Fields.{Fields, Outcome, ◌>>=◌, next_field, number_field}
use Rattle.dw_ends.specs.declared.reason.Reason.TheVariants.{BadNumber}
use Rattle.dw_script_fields.specs.Addresses.{address_of, address_or_none, reference_of}
use Rattle.dw_script_fields.specs.Numbers.{index_or_none, signed_number, target_or_none}

-- what is made of a field's value, and the fields after it
abbrev pub made : {A B : Type 0} → (A → B) → Outcome (A × Fields) → Outcome (B × Fields)
made make outcome = do
  (x, fields) ← outcome
  Ok (make x, fields)

-- an index or `none`, and the fields after it
abbrev pub index_or_none_field : Fields → Outcome (Option ℕ × Fields)
index_or_none_field fields = do
  (field, fields) ← next_field fields
  index ← ok_or (index_or_none field) BadNumber
  Ok (index, fields)

-- the index that a branch leads to, or `-`, and the fields after it
abbrev pub target_field : Fields → Outcome (Option ℕ × Fields)
target_field fields = do
  (field, fields) ← next_field fields
  target ← ok_or (target_or_none field) BadNumber
  Ok (target, fields)

-- a number from -2^63 to 2^63 - 1, and the fields after it
abbrev pub signed_field : Fields → Outcome (ℤ × Fields)
signed_field fields = do
  (field, fields) ← next_field fields
  z ← ok_or (signed_number field) BadNumber
  Ok (z, fields)

-- an address, and the fields after it
abbrev pub address_field : Fields → Outcome (Address × Fields)
address_field fields = do
  (field, fields) ← next_field fields
  address ← ok_or (address_of field) BadNumber
  Ok (address, fields)

-- an address or `none`, and the fields after it
abbrev pub address_or_none_field : Fields → Outcome (Option Address × Fields)
address_or_none_field fields = do
  (field, fields) ← next_field fields
  address ← ok_or (address_or_none field) BadNumber
  Ok (address, fields)

-- a reference to an entry of any unit, and the fields after it
abbrev pub reference_field : Fields → Outcome (InfoRef × Fields)
reference_field fields = do
  (field, fields) ← next_field fields
  reference ← ok_or (reference_of field) BadNumber
  Ok (reference, fields)

-- the width of offsets in bits, and the fields after it
abbrev pub format_field : Fields → Outcome (Format × Fields)
format_field fields = do
  (n, fields) ← number_field (2 ^ 8) fields
  format ← (if n == 32 then Ok Dwarf32 else (if n == 64 then Ok Dwarf64 else Err BadNumber))
  Ok (format, fields)

-- yes or no, as 1 or 0, and the fields after it
abbrev pub flag_field : Fields → Outcome (Bool × Fields)
flag_field fields = do
  (n, fields) ← number_field (2 ^ 8) fields
  flag ← (if n == 0 then Ok false else (if n == 1 then Ok true else Err BadNumber))
  Ok (flag, fields)
