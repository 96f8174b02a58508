-- What the commands answer of a listing.
use Rattle.std.specs.Prelude.{◌≡◌, ◌≢◌, ◌⊎◌, ℕ, Bool, true, List, Ok, Err, IsTrue}
use Rattle.dw_base.specs.ErrorName.{error_name}
use Rattle.dw_base.specs.Order.{is_big_of}
use Rattle.dw_base.specs.declared.endianity.RunTimeEndian.{RunTimeEndian}
use Rattle.dw_base.specs.declared.error.Error.{Error}
use Rattle.dw_read_units.specs.declared.dwarf.Dwarf.{Dwarf}
use Rattle.dw_sources.specs.ConvertErrors.{convert_error_name}
use Rattle.dw_sources.specs.declared.convert_error.ConvertError.{ConvertError}
use Rattle.dw_sources.specs.declared.convert_error.ConvertError.TheVariants.{NoMemory}
use Rattle.dw_ends.specs.Sections.{ListingValue, sections_of}
use Rattle.dw_ends.specs.declared.reason.Reason.{Reason}
use Rattle.dw_ends.specs.Readers.{ReadsSections, SectionSlice, slice_reading}
use Rattle.dw_arange_table.specs.Sets.{RangeSet}
use Rattle.dw_arange_table.specs.Bytes.{aranges_bytes}
use Rattle.dw_arange_table.specs.Causes.{IsNone, sets_fail}
use Rattle.dw_arange_table.specs.Reading.{sets_read}
use Rattle.dw_arange_table.specs.Find.{units_at}
use Rattle.dw_arange_table.specs.Covers.{CoversAll, FailsAfter}
use Rattle.dw_arange_table.specs.Printed.{IsSectionLine, line_text, places_text, refused_text}
use Rattle.dw_arange_table.specs.declared.command.Command.{Command}
use Rattle.dw_arange_table.specs.declared.command.Command.TheVariants.{Table, Find}
use Rattle.dw_arange_table.specs.declared.status.Status.{Status}
use Rattle.dw_arange_table.specs.declared.status.Status.TheVariants.{Done, ListingRefused, TableRefused}

-- The line of a section whose bytes are those of the sets, which all can be written, and which are read from it again.
pub record PrintsTable (big : Bool) (sets : List RangeSet) (text : List ℕ) : Type 0 where
  pub fits : IsNone (sets_fail true sets)
  pub printed : IsSectionLine (aranges_bytes big sets) text
  pub again : sets_read big (aranges_bytes big sets) ≡ Ok sets

-- some set can't be written, and the text says why
pub record CannotWrite (sets : List RangeSet) (text : List ℕ) : Type 0 where
  pub error : Error
  pub cause : IsTrue (sets_fail true sets error)
  pub says : text ≡ refused_text (error_name error)

-- what is said of sets that are written
abbrev pub SaysOfTable : Bool → List RangeSet → Status → List ℕ → Type 0
SaysOfTable big sets Done text = PrintsTable big sets text
SaysOfTable big sets TableRefused text = CannotWrite sets text
SaysOfTable big sets _ text = ⊥

-- what a command says of the sets that were made: they are written, or the units that have an address are told
abbrev pub SaysOfMade : Command → Bool → List RangeSet → Status → List ℕ → Type 0
SaysOfMade Table big sets status text = SaysOfTable big sets status text
SaysOfMade (Find a) big sets status text = (status ≡ Done) × (text ≡ places_text (units_at a sets))

-- sections in a byte order, one for each place of a listing
module _ (endian : RunTimeEndian) (sections : List (List ℕ)) where
  -- readers of exactly these sections give these sets of their units
  pub record Makes (sets : List RangeSet) : Type 0 where
    pub read : Dwarf SectionSlice RunTimeEndian
    pub reads : ReadsSections slice_reading (is_big_of endian) sections read
    pub covers : CoversAll slice_reading read sets

  -- or they give none, for this reason
  pub record MakesNone (e : ConvertError) : Type 0 where
    pub read : Dwarf SectionSlice RunTimeEndian
    pub reads : ReadsSections slice_reading (is_big_of endian) sections read
    pub other : e ≢ NoMemory
    pub fails : FailsAfter slice_reading read e

  -- the sets were made, and this is said of them
  pub record SaysMade (command : Command) (status : Status) (text : List ℕ) : Type 0 where
    pub sets : List RangeSet
    pub makes : Makes sets
    pub says : SaysOfMade command (is_big_of endian) sets status text

  -- the text says why none were made
  pub record SaysUnmade (text : List ℕ) : Type 0 where
    pub error : ConvertError
    pub fails : MakesNone error
    pub says : text ≡ refused_text (convert_error_name error)

-- what a command says of sections
abbrev pub SaysOfSections : Command → RunTimeEndian → List (List ℕ) → Status → List ℕ → Type 0
SaysOfSections command endian sections Done text = SaysMade endian sections command Done text
SaysOfSections command endian sections TableRefused text = SaysMade endian sections command TableRefused text ⊎ SaysUnmade endian sections text
SaysOfSections command endian sections _ text = ⊥

-- the bytes are a listing, and this is said of its sections
pub record SaysListed (command : Command) (bytes : List ℕ) (status : Status) (text : List ℕ) : Type 0 where
  pub value : ListingValue
  pub accepted : sections_of bytes ≡ Ok value
  pub says : SaysOfSections command value.endian value.sections status text

-- a line of them is refused, and the text says which and why
pub record SaysRefused (bytes : List ℕ) (text : List ℕ) : Type 0 where
  pub line : ℕ
  pub reason : Reason
  pub refused : sections_of bytes ≡ Err (line, reason)
  pub says : text ≡ line_text line reason

-- what a command says of the bytes that it has read
abbrev pub SaysOfBytes : Command → List ℕ → Status → List ℕ → Type 0
SaysOfBytes command bytes Done text = SaysListed command bytes Done text
SaysOfBytes command bytes TableRefused text = SaysListed command bytes TableRefused text
SaysOfBytes command bytes ListingRefused text = SaysRefused bytes text
SaysOfBytes command bytes _ text = ⊥
