-- The registers of the machine as they are held.
use Rattle.std.specs.Prelude.{ℤ, Option, Some}
use Rattle.dw_base.specs.Numbers.{◌>>=◌, when}
use Rattle.dw_base.specs.LineMachine.{Registers, line_moved}
use Rattle.dw_convert_lines.specs.ReadRows.{is_narrow}
use Rattle.dw_convert_lines.specs.declared.registers.Registers.{Registers as Held}

abbrev pub registers_of : Held → Registers
registers_of r = record {
  address = r.address;
  file = r.file;
  line = r.line;
  column = r.column;
  discriminator = r.discriminator;
  isa = r.isa;
  is_statement = r.is_statement;
  basic_block = r.basic_block;
  prologue_end = r.prologue_end;
  epilogue_begin = r.epilogue_begin;
}

-- registers whose address and line have 64 bits
abbrev pub narrowed : Registers → Option Registers
narrowed r = when (is_narrow r) (Some r)

-- the same on a line further on, or back
abbrev pub line_narrowed : ℤ → Registers → Option Registers
line_narrowed z r = line_moved z r >>= narrowed
