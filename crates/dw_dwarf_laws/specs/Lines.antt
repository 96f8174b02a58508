-- Line programs in which symbols have values: a sequence begins at the number that its address comes to.
use Rattle.std.specs.Prelude.{ℕ, List, map}
use Rattle.std.specs.Option.{option_map}
use Rattle.dw_line.specs.LinePrograms.{LineProgramValue}
use Rattle.dw_line.specs.ProgramTexts.{ProgramValue}
use Rattle.dw_line.specs.Programs.{SequenceValue}
use Rattle.dw_dwarf_laws.specs.Addresses.{numbered_address}

-- where symbols have these values
module _ (symbols : List ℕ) where
  abbrev pub numbered_sequence : SequenceValue → SequenceValue
  numbered_sequence s = record s { address = option_map (numbered_address symbols) s.address }

  -- the sequence that isn't ended has an address, too
  abbrev pub numbered_program : ProgramValue → ProgramValue
  numbered_program p = record p { sequences = map numbered_sequence p.sequences; address = option_map (numbered_address symbols) p.address }

  abbrev pub numbered_line_program : LineProgramValue → LineProgramValue
  numbered_line_program v = record v { program = option_map numbered_program v.program }
