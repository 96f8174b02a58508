-- The fields of a unit that its root tells.
use Rattle.std.specs.Prelude.{◌≡◌, ℕ, List, Option, Some, Bool, ◌==◌, unwrap_or}
use Rattle.dw_base.specs.declared.constants.TheConstants.{DW_AT_str_offsets_base, DW_AT_addr_base, DW_AT_GNU_addr_base, DW_AT_loclists_base, DW_AT_rnglists_base, DW_AT_GNU_ranges_base, DW_UT_compile, DW_UT_split_compile}
use Rattle.dw_read.specs.Reading.{Reading}
use Rattle.dw_read.specs.Reasons.{address_at, address_read}
use Rattle.dw_read.specs.Values.{Value}
use Rattle.dw_read.specs.declared.unit_header.UnitHeader.{UnitHeader}
use Rattle.dw_read.specs.declared.value.AttributeValue.TheVariants.{Addr, DebugAddrIndex}
use Rattle.dw_read.specs.declared.error.ReadError.{ReadError}
use Rattle.dw_read_units.specs.Lookups.{StandsAt, IsMissing, indexed}
use Rattle.dw_read_units.specs.Roots.{last_value, base_or, base_of, first_part}
use Rattle.dw_read_units.specs.declared.root.Bases.{Bases}

abbrev pub is_split : {R E : Type 0} → UnitHeader R E → Bool
is_split h = (unwrap_or h.fields.unit_type DW_UT_compile).0 == DW_UT_split_compile.0

-- the places that the root names, or those of the first parts in a split unit, or 0
abbrev pub bases_of : {R E : Type 0} → UnitHeader R E → List (ℕ × Value) → Bases
bases_of h xs = record {
  str_offsets = base_or (first_part (is_split h) h.fields.encoding.format 8 16) (last_value DW_AT_str_offsets_base.0 DW_AT_str_offsets_base.0 xs);
  addr = base_of 0 DW_AT_addr_base.0 DW_AT_GNU_addr_base.0 xs;
  loclists = base_or (first_part (is_split h) h.fields.encoding.format 12 20) (last_value DW_AT_loclists_base.0 DW_AT_loclists_base.0 xs);
  rnglists = base_of (first_part (is_split h) h.fields.encoding.format 12 20) DW_AT_rnglists_base.0 DW_AT_GNU_ranges_base.0 xs;
}

-- the address that a value is or leads to; where it is none, 0
abbrev pub IsLowPc : Reading → ℕ → ℕ → Option Value → ℕ → Type 0
IsLowPc section base size (Some (Addr a)) x = x ≡ a
IsLowPc section base size (Some (DebugAddrIndex i)) x = StandsAt ℕ (address_at section.is_big size) (indexed base i size) section x
IsLowPc section base size v x = x ≡ 0

-- an index leads to no address, for this reason
abbrev pub MissesLowPc : Reading → ℕ → ℕ → Option Value → ReadError → Type 0
MissesLowPc section base size (Some (DebugAddrIndex i)) e = IsMissing ℕ (address_at section.is_big size) (address_read section.is_big size) (indexed base i size) section e
MissesLowPc section base size v e = ⊥
