-- Where branches lead (DWARF 5, 2.5.1.5).
use Rattle.std.specs.Prelude.{◌≡◌, ℕ, List, Some, ℤ, pos, ◌+ℤ◌, slice_get, Result, Ok, Err}
use Rattle.dw_sources.specs.declared.convert_error.ConvertError.{ConvertError}
use Rattle.dw_sources.specs.declared.convert_error.ConvertError.TheVariants.{InvalidBranchTarget}

-- Operations begin at these places, and the last one is the end. A branch is followed by the place `behind`, and its distance
-- leads from there to the place of this index.
pub record LeadsTo (places : List ℕ) (behind : ℕ) (distance : ℤ) (i : ℕ) : Type 0 where
  pub place : ℕ
  pub begin : slice_get places i ≡ Some place
  pub is : pos behind +ℤ distance ≡ pos place

-- the index that it leads to, or that there is none
abbrev pub TargetOutcome : List ℕ → ℕ → ℤ → Result ℕ ConvertError → Type 0
TargetOutcome places behind distance (Ok i) = LeadsTo places behind distance i
TargetOutcome places behind distance (Err e) = (e ≡ InvalidBranchTarget) × ((i : ℕ) → LeadsTo places behind distance i → ⊥)
