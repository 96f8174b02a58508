-- Addresses by hand, and what a Dwarf is that stands behind nothing.
use Rattle.std.specs.Prelude.{◌≡◌, true, List, [], ◌∷◌, ℕ, pos, negsuc, refl}
use Rattle.dw_base.specs.declared.address.Address.TheVariants.{Constant, Symbol}
use Rattle.dw_dwarf.specs.DwarfValue.{DwarfValue}
use Rattle.dw_dwarf.specs.Valid.{IsValid}
use Rattle.dw_dwarf_laws.specs.Addresses.{numbered_address}
use Rattle.dw_dwarf_laws.specs.Joined.{IsValidBehind}

-- two symbols
abbrev values : List ℕ
values = 0x1000 ∷ 0xffff_ffff_ffff_fff0 ∷ []

-- a value plus an addend, which may be below zero
added : numbered_address values (Symbol 0 (pos 4)) ≡ Constant 0x1004
added = refl

taken : numbered_address values (Symbol 0 (negsuc 0)) ≡ Constant 0xfff
taken = refl

-- a sum below zero, one past 64 bits, and a symbol without a value stay
negative : numbered_address values (Symbol 0 (negsuc 0x1000)) ≡ Symbol 0 (negsuc 0x1000)
negative = refl

large : numbered_address values (Symbol 1 (pos 0x10)) ≡ Symbol 1 (pos 0x10)
large = refl

unknown : numbered_address values (Symbol 2 (pos 0)) ≡ Symbol 2 (pos 0)
unknown = refl

-- a constant is what it was
constant : numbered_address values (Constant 7) ≡ Constant 7
constant = refl

-- where all sections begin at 0, it is one that is valid for plain writers
alone : (d : DwarfValue) → IsValidBehind (λ s. 0) d → IsValid true d
alone d h = h.valid
