-- Tags, names of attributes and codes of operations, as they are spelled: a number, or a name that the standard gives one.
use Rattle.std.specs.Prelude.{ℕ, ◌^◌, List, [], ◌∷◌, Bool, false, ◌&&◌, nat_le, ok_or, bytes_eq, if◌then◌else◌}
use Rattle.std.specs.Map.{lookup}
use Rattle.dw_ends.specs.declared.reason.Reason.TheVariants.{UnknownWord, BadNumber}
use Rattle.dw_ends.specs.Fields.{Outcome}
use Rattle.dw_script_fields.specs.Names.{tag_names, attribute_names, opcode_names}
use Rattle.dw_ends.specs.Numbers.{number_below}

-- the first byte is one of `0` to `9`
abbrev pub begins_with_digit : List ℕ → Bool
begins_with_digit [] = false
begins_with_digit (b ∷ _) = nat_le 48 b && nat_le b 57

-- the number below the limit that a field spells, where it begins with a digit; else the number of its name
abbrev pub code_in : ℕ → List (List ℕ × ℕ) → List ℕ → Outcome ℕ
code_in limit names field =
    if begins_with_digit field then ok_or (number_below limit field) BadNumber
    else ok_or (lookup (bytes_eq field) names) UnknownWord

-- the tag that a field says
unfoldable pub tag_of : List ℕ → Outcome ℕ
tag_of field = code_in (2 ^ 16) tag_names field

-- the name of an attribute that a field says
unfoldable pub attribute_of : List ℕ → Outcome ℕ
attribute_of field = code_in (2 ^ 16) attribute_names field

-- the code of an operation without operands that a field says
unfoldable pub opcode_of : List ℕ → Outcome ℕ
opcode_of field = code_in (2 ^ 8) opcode_names field
