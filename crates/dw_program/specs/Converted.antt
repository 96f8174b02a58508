-- What the command `convert` answers of a listing.
use Rattle.std.specs.Prelude.{◌≡◌, ◌⊎◌, ℕ, List, Option, Some, Result, Ok, Err}
use Rattle.dw_base.specs.Order.{is_big_of}
use Rattle.dw_base.specs.declared.address.Address.{Address}
use Rattle.dw_base.specs.declared.address.Address.TheVariants.{Constant}
use Rattle.dw_base.specs.declared.endianity.RunTimeEndian.{RunTimeEndian}
use Rattle.dw_read_units.specs.declared.dwarf.Dwarf.{Dwarf}
use Rattle.dw_sources.specs.declared.convert_error.ConvertError.{ConvertError}
use Rattle.dw_dwarf.specs.ConvertedDwarf.{IsConverted, CannotConvert}
use Rattle.dw_dwarf.specs.DwarfValue.{DwarfValue}
use Rattle.dw_ends.specs.Sections.{ListingValue, sections_of}
use Rattle.dw_ends.specs.declared.reason.Reason.{Reason}
use Rattle.dw_ends.specs.Readers.{ReadsSections, SectionSlice, slice_reading}
use Rattle.dw_build.specs.declared.script.Refusal.{Refusal}
use Rattle.dw_program.specs.Listed.{ListsDwarf, IsWriteRefusal}
use Rattle.dw_program.specs.Texts.{convert_refused_text}
use Rattle.dw_program.specs.declared.status.Status.{Status}
use Rattle.dw_program.specs.declared.status.Status.TheVariants.{Listed, WriteRefused}

-- each address stays what it is
abbrev pub constant_answers : ℕ → Option Address → Type 0
constant_answers n answer = answer ≡ Some (Constant n)

-- Readers of exactly the sections of a listing convert them to this Dwarf, whether or not the rows of each unit are one tree.
pub record Becomes (v : ListingValue) (d : DwarfValue) : Type 0 where
  pub read : Dwarf SectionSlice RunTimeEndian
  pub reads : ReadsSections slice_reading (is_big_of v.endian) v.sections read
  pub converted : IsConverted slice_reading constant_answers read d

-- or they can't, for this reason
pub record BecomesNone (v : ListingValue) (e : ConvertError) : Type 0 where
  pub read : Dwarf SectionSlice RunTimeEndian
  pub reads : ReadsSections slice_reading (is_big_of v.endian) v.sections read
  pub refused : CannotConvert slice_reading constant_answers read e

-- The listing of what the sections become, in the byte order in which they were read.
pub record ListsConverted (v : ListingValue) (text : List ℕ) : Type 0 where
  pub dwarf : DwarfValue
  pub becomes : Becomes v dwarf
  pub lists : ListsDwarf v.endian dwarf text

-- what they become can't be written, and the text says why
pub record IsConvertedRefusal (v : ListingValue) (text : List ℕ) : Type 0 where
  pub dwarf : DwarfValue
  pub becomes : Becomes v dwarf
  pub refused : IsWriteRefusal dwarf text

-- the text says why they become nothing
pub record IsConvertRefusal (v : ListingValue) (text : List ℕ) : Type 0 where
  pub error : ConvertError
  pub becomes : BecomesNone v error
  pub says : text ≡ convert_refused_text error

-- what is said of the sections that a listing gives
abbrev pub SaysOfListing : ListingValue → Status → List ℕ → Type 0
SaysOfListing v Listed text = ListsConverted v text
SaysOfListing v WriteRefused text = IsConvertedRefusal v text ⊎ IsConvertRefusal v text
SaysOfListing v _ text = ⊥

-- a refusal with its line's number
abbrev pub with_refusal : {T : Type 0} → Result T (ℕ × Reason) → Result T Refusal
with_refusal (Ok x) = Ok x
with_refusal (Err r) = Err (record { line = r.0; reason = r.1 })

-- what the bytes of a listing say, or the first line that is refused
abbrev pub listing_read : List ℕ → Result ListingValue Refusal
listing_read bytes = with_refusal (sections_of bytes)
