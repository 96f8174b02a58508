-- What the operands of a unit's values lead to.
use Rattle.std.specs.Prelude.{◌≡◌, ℕ, List, [], ◌∷◌, Option, Some, IsTrue}
use Rattle.dw_base.specs.Numbers.{fits}
use Rattle.dw_base.specs.declared.section_id.SectionId.{SectionId}
use Rattle.dw_writer.specs.Drafts.{Info}
use Rattle.dw_writer.specs.Layout.{Layout}
use Rattle.dw_writer.specs.declared.fixup.DebugInfoFixup.{DebugInfoFixup}

-- Where what tables have under numbers stands in the sections that they are written into, and where a unit's own part of
-- a section begins, if it has one.
pub record Tables : Type 0 where
  pub part : SectionId → ℕ → Option ℕ
  pub own : SectionId → Option ℕ

-- Where the entries of a unit's tree stand, counted from the unit's first byte, and the place past each. Beside them what stands
-- in other sections.
pub record UnitTargets : Type 0 where
  pub place : ℕ → Option ℕ
  pub past : ℕ → ℕ
  pub tables : Tables

-- The same in sections that stand where they start in the end, with the places of all units' entries in .debug_info.
pub record Targets : Type 0 where
  pub place : ℕ → Option ℕ
  pub past : ℕ → ℕ
  pub tables : Tables
  pub info : Info
  pub layout : Layout

-- what the operands of a unit that is written lead to in a layout
abbrev pub targets_in : UnitTargets → Layout → Info → Targets
targets_in u l info = record { place = u.place; past = u.past; tables = u.tables; info = info; layout = l }

-- an entry has a place in .debug_info that fits so many bytes
pub record HasInfoPlace (info : Info) (h : DebugInfoFixup) : Type 0 where
  pub place : ℕ
  pub is : info h.unit.0 h.entry.0 ≡ Some place
  pub fits : IsTrue (fits h.size place)

-- so has each entry that a reference is left open for
abbrev pub HaveInfoPlaces : Info → List DebugInfoFixup → Type 0
HaveInfoPlaces info [] = Unit {0}
HaveInfoPlaces info (h ∷ hs) = HasInfoPlace info h × HaveInfoPlaces info hs
