-- What converting all of a unit answers.
use Rattle.std.specs.Prelude.{◌≡◌, ℕ, Option}
use Rattle.dw_base.specs.declared.address.Address.{Address}
use Rattle.dw_base.specs.declared.endianity.Endianity as Endianity
use Rattle.dw_read.specs.Reading.{Reading}
use Rattle.dw_read.specs.declared.reader.Reader as Reader
use Rattle.dw_sources.specs.declared.convert_error.ConvertError.{ConvertError}
use Rattle.dw_convert_lines.specs.Views.{tables}
use Rattle.dw_entry_ids.specs.KeptRows.{keep_of}
use Rattle.dw_dwarf.specs.ConvertedUnit.{ConvertsUnit, RefusesUnit}
use Rattle.dw_dwarf.specs.Converters.{entries_in, infos_in}
use Rattle.dw_dwarf.specs.declared.convert.convert_unit.ConvertUnit.{ConvertUnit}

module _ {R E : Type 0} {RG : Reader.Ghosts R E} {EG : Endianity.Ghosts E} (reading : R → Reading) (answers : ℕ → Option Address → Type 0) where
  -- The unit that was read becomes the one that is written, with the strings of its file, and the ids of its files by the numbers that
  -- were read are kept.
  pub record ConvertsWhole (old new : ConvertUnit R E RG EG) : Type 0 where
    pub unit : ConvertsUnit old.given.skeleton (keep_of old.given.kept.now) reading answers (entries_in old) (infos_in old) old.given.read old.unit.now (tables old.strings.now old.line_strings.now) new.unit.now (tables new.strings.now new.line_strings.now)
    pub files : new.files.items ≡ unit.files

  -- it becomes nothing, for this reason
  abbrev pub RefusesWhole : ConvertUnit R E RG EG → ConvertError → Type 0
  RefusesWhole old e =
      RefusesUnit old.given.skeleton (keep_of old.given.kept.now) reading answers (entries_in old) (infos_in old) old.given.read
      old.unit.now (tables old.strings.now old.line_strings.now) e
