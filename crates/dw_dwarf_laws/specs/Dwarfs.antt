-- Dwarfs in which symbols have values.
use Rattle.std.specs.Prelude.{ℕ, List, map}
use Rattle.dw_dwarf.specs.DwarfValue.{DwarfValue}
use Rattle.dw_dwarf_laws.specs.Lines.{numbered_line_program}
use Rattle.dw_dwarf_laws.specs.Units.{numbered_unit}

-- Each symbol address of a Dwarf that is written is the constant that it comes to, where symbols have these values. One that comes
-- to none stays, so that no plain writer takes the Dwarf.
abbrev pub numbered_dwarf : List ℕ → DwarfValue → DwarfValue
numbered_dwarf symbols d = record d { units = map (numbered_unit symbols) d.units; line_programs = map (numbered_line_program symbols) d.line_programs }
