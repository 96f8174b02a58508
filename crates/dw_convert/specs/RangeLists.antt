-- What range lists become.
use Rattle.std.specs.Prelude.{◌≡◌, ◌⊎◌, ℕ, ◌==◌, not, Bool, List, Option, Err}
use Rattle.dw_base.specs.declared.address.Address.{Address}
use Rattle.dw_lists.specs.declared.range.Range.{Range}
use Rattle.dw_read.specs.Reading.{Reading, left}
use Rattle.dw_read.specs.Reasons.{bytes_read}
use Rattle.dw_read.specs.declared.error.ReadError.{ReadError}
use Rattle.dw_read_units.specs.Lookups.{bytes_from}
use Rattle.dw_read_units.specs.declared.unit_ref.UnitRef.{UnitRef}
use Rattle.dw_sources.specs.ConvertErrors.{from_read}
use Rattle.dw_sources.specs.RawLists.{range_at, range_read}
use Rattle.dw_sources.specs.RawListIters.{encoding_in, ranges_section}
use Rattle.dw_sources.specs.declared.convert_error.ConvertError.{ConvertError}
use Rattle.dw_convert.specs.Lists.{Converted, Refused}
use Rattle.dw_convert.specs.Lookups.{address_of}
use Rattle.dw_convert.specs.Ranges.{RangeOutcome, is_base, kept}

-- an offset past a section's end
pub record IsPast (offset : ℕ) (section : Reading) (e : ConvertError) : Type 0 where
  pub error : ReadError
  pub reason : bytes_read offset (left section) ≡ Err error
  pub is : e ≡ from_read error

-- a unit's base is in force at a list's begin where it isn't 0
abbrev pub has_base : {R E : Type 0} → UnitRef R E → Bool
has_base u = not (u.unit.now.low_pc == 0)

module _ {R E : Type 0} (reading : R → Reading) (answers : ℕ → Option Address → Type 0) (u : UnitRef R E) (offset : ℕ) where
  -- what the items at the offset become, but for empty ones
  pub record IsRangeList (list : List Range) : Type 0 where
    pub images : List Range
    pub converted : Converted (RangeOutcome answers (address_of reading u)) is_base (range_at (ranges_section reading u).is_big (encoding_in u)) (has_base u) (bytes_from offset (ranges_section reading u)) images
    pub is : list ≡ kept images

  -- no list is at the offset, or one of its items can't be read or becomes nothing
  abbrev pub RefusesRangeList : ConvertError → Type 0
  RefusesRangeList e = IsPast offset (ranges_section reading u) e ⊎
      Refused (RangeOutcome answers (address_of reading u)) is_base (range_at (ranges_section reading u).is_big (encoding_in u)) (range_read (ranges_section reading u).is_big (encoding_in u)) (has_base u) (bytes_from offset (ranges_section reading u)) e
