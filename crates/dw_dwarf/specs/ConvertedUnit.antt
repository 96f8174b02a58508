-- What a unit becomes: its line program, and its entries, which name the program's files.
use Rattle.std.specs.Prelude.{◌≡◌, ◌⊎◌, ℕ, List, Option, Bool}
use Rattle.dw_base.specs.declared.address.Address.{Address}
use Rattle.dw_base.specs.declared.address.DebugInfoRef.{DebugInfoRef}
use Rattle.dw_base.specs.declared.ids.FileId.{FileId}
use Rattle.dw_base.specs.declared.ids.UnitEntryId.{UnitEntryId}
use Rattle.dw_line.specs.LinePrograms.{LineProgramValue}
use Rattle.dw_read.specs.Reading.{Reading}
use Rattle.dw_read_units.specs.declared.unit_ref.UnitRef.{UnitRef}
use Rattle.dw_sources.specs.declared.convert_error.ConvertError.{ConvertError}
use Rattle.dw_tree.specs.UnitValue.{UnitValue}
use Rattle.dw_convert_lines.specs.EntryNames.{Tables}
use Rattle.dw_dwarf.specs.ConvertedPrograms.{ConvertsProgram, RefusesProgram}
use Rattle.dw_dwarf.specs.ConvertSteps.{tables_in, ConvertsEntries, RefusesEntry}
use Rattle.dw_dwarf.specs.Skeletons.{first_of, lines_of}
use Rattle.dw_dwarf.specs.declared.convert.skeleton.Skeleton.{Skeleton}

abbrev pub with_program : LineProgramValue → UnitValue → UnitValue
with_program p u = record u { line_program = p }

-- A unit of its own, or one that was split off, whose skeleton has the line program.
module _ {R E : Type 0} (skeleton : Option (Skeleton R E)) (keep : ℕ → Bool) (reading : R → Reading) (answers : ℕ → Option Address → Type 0) (entries : ℕ → Option UnitEntryId) (infos : ℕ → Option DebugInfoRef) (u : UnitRef R E) where
  pub record ConvertsUnit (before : UnitValue) (old : Tables) (after : UnitValue) (new : Tables) : Type 0 where
    pub program : LineProgramValue
    pub files : List FileId
    pub between : Tables
    pub program_is : ConvertsProgram reading answers (lines_of skeleton u) old program files between
    pub tree : ConvertsEntries keep reading answers entries infos u files (first_of skeleton) (with_program program before) (tables_in between.strings between.line_strings before) after (tables_in new.strings new.line_strings after)

  -- so it does, and these are the ids of its files by the numbers that were read
  pub record ConvertsWithFiles (before : UnitValue) (old : Tables) (after : UnitValue) (new : Tables) (ids : List FileId) : Type 0 where
    pub unit : ConvertsUnit before old after new
    pub files : ids ≡ unit.files

  -- its line program is converted, and an entry isn't
  pub record RefusesEntries (before : UnitValue) (old : Tables) (e : ConvertError) : Type 0 where
    pub program : LineProgramValue
    pub files : List FileId
    pub between : Tables
    pub program_is : ConvertsProgram reading answers (lines_of skeleton u) old program files between
    pub refused : RefusesEntry keep reading answers entries infos u files (tables_in between.strings between.line_strings before) e

  abbrev pub RefusesUnit : UnitValue → Tables → ConvertError → Type 0
  RefusesUnit before old e = RefusesProgram reading answers (lines_of skeleton u) old e ⊎ RefusesEntries before old e
