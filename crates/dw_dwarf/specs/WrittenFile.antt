-- What sections hold once a Dwarf was written behind units of its file that were written before (DWARF 5, 7.5), each as soon as
-- it stood, and maybe given up since.
use Rattle.std.specs.Prelude.{true, List, All, ◌++◌}
use Rattle.dw_writer.specs.Contents.{Meaning}
use Rattle.dw_writer.specs.Meaning.{Model}
use Rattle.dw_writer.specs.Texts.{followed}
use Rattle.dw_writer.specs.declared.sections.Sections.{Sections}
use Rattle.dw_line.specs.LinePrograms.{line_program_text}
use Rattle.dw_line.specs.Parts.{texts}
use Rattle.dw_tree.specs.Elsewhere.{ends_of}
use Rattle.dw_tree.specs.Pending.{Kept, KeepPlaces}
use Rattle.dw_unit.specs.WrittenUnits.{WrittenUnit, written_from, units_in, unwritten_from, written_line, KeepsStrings, PendsFile}
use Rattle.dw_dwarf.specs.DwarfValue.{DwarfValue}
use Rattle.dw_dwarf.specs.Valid.{empty_ends}
use Rattle.dw_dwarf.specs.Written.{AreNewPlain, SectionTexts, Orders, orders_of, AreTextsFor, TellTexts}

-- its units that aren't written yet
abbrev pub left_in : DwarfValue → List WrittenUnit
left_in d = unwritten_from 0 d.line_strings d.strings d.units

-- the line programs of units that are in use, and those of no unit behind them
abbrev pub file_lines : List WrittenUnit → DwarfValue → Model
file_lines ws d big l = followed (texts written_line ws big l) (texts (line_program_text d.strings d.line_strings) d.line_programs big l)

-- These are the texts of units of a file in the order in which they were written.
abbrev pub AreTextsOfFile : Orders → List WrittenUnit → DwarfValue → SectionTexts → Type 0
AreTextsOfFile o ws d t = AreTextsFor o (written_from (empty_ends true) ws) (units_in ws) (file_lines ws d) d t

-- The sections hold exactly these units, in this order, and the strings and further line programs of a Dwarf. Each string that a
-- unit names is one of those.
pub record HoldsFile {W : Type 0} (meaning : W → Meaning) (s : Sections W) (ws : List WrittenUnit) (d : DwarfValue) : Type 0 where
  pub texts : SectionTexts
  pub are : AreTextsOfFile (orders_of meaning s) ws d texts
  pub told : TellTexts meaning s texts
  pub stay : All (KeepsStrings d.line_strings d.strings) ws

-- Whatever units of the file were written before into new sections, the table keeping their places alone, the sections hold
-- these, and behind them those that weren't written yet.
abbrev pub HoldsWhole : {W : Type 0} → (W → Meaning) → Sections W → Sections W → DwarfValue → Type 0
HoldsWhole {W} meaning old new d =
    (before : Sections W) (ws : List WrittenUnit) (kept : List Kept) → AreNewPlain meaning before →
    PendsFile meaning before old d.line_strings d.strings ws kept → KeepPlaces d.units (written_from (ends_of meaning before) ws) kept →
    HoldsFile meaning new (ws ++ left_in d) d
