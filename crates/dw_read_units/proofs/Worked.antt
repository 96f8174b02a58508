-- Worked rows: a base under two names, 0x73 (DW_AT_addr_base) and 0x2133 (DW_AT_GNU_addr_base).
use Rattle.std.proofs.Common.{◌≡◌, [], ◌∷◌, true, refl}
use Rattle.dw_read.specs.declared.value.AttributeValue.TheVariants.{SecOffset, Flag}
use Rattle.dw_read_units.specs.Roots.{base_of, last_value}

-- what isn't a place hides none under the other name, in either order
older : base_of 0 0x73 0x2133 ((0x2133, SecOffset 8) ∷ (0x73, Flag true) ∷ []) ≡ 8
unfolding last_value
older = refl

newer : base_of 0 0x73 0x2133 ((0x73, SecOffset 8) ∷ (0x2133, Flag true) ∷ []) ≡ 8
unfolding last_value
newer = refl

-- of two places the last counts
last : base_of 0 0x73 0x2133 ((0x73, SecOffset 8) ∷ (0x2133, SecOffset 16) ∷ []) ≡ 16
unfolding last_value
last = refl

-- of one name the last value counts, though it is no place
doubled : base_of 0 0x73 0x2133 ((0x73, SecOffset 8) ∷ (0x73, Flag true) ∷ []) ≡ 0
unfolding last_value
doubled = refl
