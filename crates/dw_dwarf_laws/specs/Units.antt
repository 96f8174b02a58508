-- Units in which symbols have values.
use Rattle.std.specs.Prelude.{ℕ, List}
use Rattle.dw_tree.specs.UnitValue.{UnitValue}
use Rattle.dw_dwarf_laws.specs.Entries.{numbered_entries}
use Rattle.dw_dwarf_laws.specs.Lines.{numbered_line_program}
use Rattle.dw_dwarf_laws.specs.Lists.{numbered_ranges, numbered_locations}

-- where symbols have these values
module _ (symbols : List ℕ) where
  abbrev pub numbered_unit : UnitValue → UnitValue
  numbered_unit u = record u {
    line_program = numbered_line_program symbols u.line_program;
    ranges = numbered_ranges symbols u.ranges;
    locations = numbered_locations symbols u.locations;
    entries = numbered_entries symbols u.entries;
  }
