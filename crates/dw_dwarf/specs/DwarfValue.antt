-- A Dwarf, as contracts see it.
use Rattle.std.specs.Prelude.{ℕ, List, [], ◌∷◌}
use Rattle.dw_line.specs.LinePrograms.{LineProgramValue}
use Rattle.dw_tree.specs.UnitValue.{UnitValue}
use Rattle.dw_dwarf.specs.declared.dwarf.Dwarf.{Dwarf}

pub record DwarfValue : Type 0 where
  pub units : List UnitValue
  -- line programs of no unit
  pub line_programs : List LineProgramValue
  pub line_strings : List (List ℕ)
  pub strings : List (List ℕ)

abbrev pub dwarf_in : Dwarf → DwarfValue
dwarf_in d = record { units = d.units; line_programs = d.line_programs.items; line_strings = d.line_strings; strings = d.strings }

-- of one unit with its strings
abbrev pub dwarf_of : List (List ℕ) → List (List ℕ) → UnitValue → DwarfValue
dwarf_of line_strings strings u = record { units = u ∷ []; line_programs = []; line_strings = line_strings; strings = strings }
