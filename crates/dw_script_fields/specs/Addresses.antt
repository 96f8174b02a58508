-- Addresses, as they are spelled: a number, or `sym:N:A`, the symbol N plus the addend A. References to entries of any unit:
-- `U:E`, the entry E of the unit U, or `sym:N`.
use Rattle.std.specs.Prelude.{ℕ, ◌^◌, List, [], ◌∷◌, drop, Option, Some, None, option_map, option_and_then, nat_eq, bytes_eq, if◌then◌else◌, codes}
use Rattle.std.specs.List.{starts_with}
use Rattle.dw_base.specs.declared.address.Address.{Address}
use Rattle.dw_base.specs.declared.address.Address.TheVariants as address
use Rattle.dw_base.specs.declared.address.DebugInfoRef.{DebugInfoRef as InfoRef}
use Rattle.dw_base.specs.declared.address.DebugInfoRef.TheVariants as reference
use Rattle.dw_ends.specs.Numbers.{number_below}
use Rattle.dw_script_fields.specs.Numbers.{signed_number}
use Rattle.dw_ends.specs.Pieces.{pieces}

-- what stands between the parts of an address
abbrev pub colon : ℕ
colon = 58

-- the address of a symbol plus an addend, each a part of its own
abbrev pub symbol_address : List (List ℕ) → Option Address
symbol_address (symbol ∷ addend ∷ []) =
    option_and_then (λ n. option_map (λ a. address.Symbol n a) (signed_number addend)) (number_below (2 ^ 64) symbol)
symbol_address _ = None

-- the address that a field spells
abbrev pub address_of : List ℕ → Option Address
address_of field =
    if starts_with nat_eq field (codes "sym:") then symbol_address (pieces colon (drop 4 field))
    else option_map address.Constant (number_below (2 ^ 64) field)

-- the address that a field spells, or `none`
abbrev pub address_or_none : List ℕ → Option (Option Address)
address_or_none field =
    if bytes_eq field (codes "none") then Some None else option_map Some (address_of field)

-- the entry of a unit, each a part of its own
abbrev pub entry_reference : List (List ℕ) → Option InfoRef
entry_reference (unit ∷ entry ∷ []) =
    option_and_then (λ u. option_map (λ i. reference.Entry (record { 0 = u }) (record { 0 = i })) (number_below (2 ^ 64) entry)) (number_below (2 ^ 64) unit)
entry_reference _ = None

-- the reference that a field spells
abbrev pub reference_of : List ℕ → Option InfoRef
reference_of field =
    if starts_with nat_eq field (codes "sym:") then option_map reference.Symbol (number_below (2 ^ 64) (drop 4 field))
    else entry_reference (pieces colon field)
