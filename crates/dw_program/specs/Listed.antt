-- What is said of a Dwarf that was built and is written into new sections.
use Rattle.std.specs.Prelude.{◌≡◌, ℕ, true, List, Ok}
use Rattle.dw_base.specs.Order.{is_big_of}
use Rattle.dw_base.specs.declared.endianity.RunTimeEndian.{RunTimeEndian}
use Rattle.dw_base.specs.declared.error.Error.{Error}
use Rattle.dw_dwarf.specs.DwarfValue.{DwarfValue}
use Rattle.dw_dwarf.specs.Valid.{IsValid}
use Rattle.dw_dwarf.specs.Written.{SectionTexts, AreTextsOf, one_order}
use Rattle.dw_ends.specs.Sections.{sections_of}
use Rattle.dw_program.specs.Faults.{HasFault}
use Rattle.dw_program.specs.Texts.{refused_text, sections_text, texts_read}
use Rattle.dw_program.specs.declared.status.Status.{Status}
use Rattle.dw_program.specs.declared.status.Status.TheVariants.{Listed, WriteRefused}

-- The listing of sections that are read as exactly its units, with their line programs, lists and strings in their sections and
-- nothing in the others. It comes, with status 0, only for valid units, so that each reference in it names an entry of its unit's
-- tree. Read as a listing, it gives the same sections in the same byte order.
pub record ListsDwarf (endian : RunTimeEndian) (d : DwarfValue) (text : List ℕ) : Type 0 where
  pub texts : SectionTexts
  pub valid : IsValid true d
  pub are : AreTextsOf (one_order (is_big_of endian)) d texts
  pub listed : text ≡ sections_text (is_big_of endian) texts
  pub read_back : sections_of text ≡ Ok (texts_read (is_big_of endian) texts)

-- some unit, or a reference across them, can't be written, and the text says why
pub record IsWriteRefusal (d : DwarfValue) (text : List ℕ) : Type 0 where
  pub error : Error
  pub cause : HasFault true d error
  pub says : text ≡ refused_text error

-- what is said where sections of this byte order are written
abbrev pub SaysOfDwarf : RunTimeEndian → DwarfValue → Status → List ℕ → Type 0
SaysOfDwarf endian d Listed text = ListsDwarf endian d text
SaysOfDwarf endian d WriteRefused text = IsWriteRefusal d text
SaysOfDwarf endian d _ text = ⊥
