-- What a listing's bytes say, or where they are refused.
use Rattle.std.specs.Prelude.{◌≡◌, ℕ, List, Result, Ok, Err}
use Rattle.dw_ends.specs.Fields.{Outcome}
use Rattle.dw_ends.specs.Sections.{ListingValue, sections_of}
use Rattle.dw_ends.specs.declared.line_error.LineError.{LineError}
use Rattle.dw_ends.specs.declared.line_error.LineError.TheVariants as line
use Rattle.dw_ends.specs.declared.listing_reader.Listing.{Listing}
use Rattle.dw_ends.specs.declared.reason.Reason.{Reason}
use Rattle.dw_ends.specs.declared.whole_listing.ListingError.{ListingError}
use Rattle.dw_ends.specs.declared.whole_listing.ListingError.TheVariants.{Refused, NoMemory}

-- a listing has the byte order and the sections that its bytes say
pub record IsListed (bytes : List ℕ) (l : Listing) : Type 0 where
  pub value : ListingValue
  pub says : sections_of bytes ≡ Ok value
  pub endian : l.endian ≡ value.endian
  pub sections : l.sections.items ≡ value.sections

-- the refusal of a line with this number
abbrev pub refused_as : ℕ → LineError → ListingError
refused_as number (line.Refused reason) = Refused number reason
refused_as number line.NoMemory = NoMemory

-- the line with this number is refused, or memory ran out
abbrev pub RefusedAt : {T : Type 0} → ℕ → Outcome T → ListingError → Type 0
RefusedAt number outcome (Refused line reason) = (line ≡ number) × (outcome ≡ Err reason)
RefusedAt number outcome NoMemory = Unit {0}

-- the first line that is refused is this one, or memory ran out
abbrev pub RefusedWhole : {T : Type 0} → Result T (ℕ × Reason) → ListingError → Type 0
RefusedWhole outcome (Refused line reason) = outcome ≡ Err (line, reason)
RefusedWhole outcome NoMemory = Unit {0}
