-- What is said of an input, once it was pruned and written.
use Rattle.std.specs.Prelude.{◌≡◌, ◌⊎◌, ℕ, List}
use Rattle.dw_base.specs.Order.{is_big_of}
use Rattle.dw_base.specs.declared.endianity.RunTimeEndian.{RunTimeEndian}
use Rattle.dw_read_units.specs.declared.dwarf.Dwarf.{Dwarf}
use Rattle.dw_sources.specs.declared.convert_error.ConvertError.{ConvertError}
use Rattle.dw_dwarf.specs.DwarfValue.{DwarfValue}
use Rattle.dw_ends.specs.Readers.{ReadsSections, SectionSlice, slice_reading}
use Rattle.dw_program.specs.Answers.{SaysBuilt}
use Rattle.dw_program.specs.Converted.{with_refusal}
use Rattle.dw_program.specs.Listed.{IsWriteRefusal, ListsDwarf}
use Rattle.dw_program.specs.Texts.{convert_refused_text}
use Rattle.dw_program.specs.declared.status.Status.{Status}
use Rattle.dw_program.specs.declared.status.Status.TheVariants.{Listed, WriteRefused}
use Rattle.dw_live_code.specs.LiveLines.{InputValue, input_of}
use Rattle.dw_live_code.specs.Pruned.{CannotPrune, IsPruned}

-- Readers of exactly the sections of the listing prune them to this Dwarf.
pub record Becomes (v : InputValue) (d : DwarfValue) : Type 0 where
  pub read : Dwarf SectionSlice RunTimeEndian
  pub reads : ReadsSections slice_reading (is_big_of v.listing.endian) v.listing.sections read
  pub pruned : IsPruned slice_reading read v.live d

-- or they can't, for this reason
pub record BecomesNone (v : InputValue) (e : ConvertError) : Type 0 where
  pub read : Dwarf SectionSlice RunTimeEndian
  pub reads : ReadsSections slice_reading (is_big_of v.listing.endian) v.listing.sections read
  pub refused : CannotPrune slice_reading read v.live e

-- The listing of what the sections become, in the byte order in which they were read.
pub record ListsPruned (v : InputValue) (text : List ℕ) : Type 0 where
  pub dwarf : DwarfValue
  pub becomes : Becomes v dwarf
  pub lists : ListsDwarf v.listing.endian dwarf text

-- what they become can't be written, and the text says why
pub record IsPrunedRefusal (v : InputValue) (text : List ℕ) : Type 0 where
  pub dwarf : DwarfValue
  pub becomes : Becomes v dwarf
  pub refused : IsWriteRefusal dwarf text

-- the text says why they become nothing
pub record IsPruneRefusal (v : InputValue) (text : List ℕ) : Type 0 where
  pub error : ConvertError
  pub becomes : BecomesNone v error
  pub says : text ≡ convert_refused_text error

-- what is said of what an input says
abbrev pub SaysOfInput : InputValue → Status → List ℕ → Type 0
SaysOfInput v Listed text = ListsPruned v text
SaysOfInput v WriteRefused text = IsPrunedRefusal v text ⊎ IsPruneRefusal v text
SaysOfInput v _ text = ⊥

-- what is said of its bytes
abbrev pub SaysOfBytes : List ℕ → Status → List ℕ → Type 0
SaysOfBytes bytes status text = SaysBuilt (with_refusal (input_of bytes)) SaysOfInput status text
