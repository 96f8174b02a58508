-- Headers of line programs that were read, as the grammar has them.
use Rattle.std.specs.Prelude.{◌≡◌, ℕ, Bool}
use Rattle.dw_base.specs.LineMachine.{LineHeader}
use Rattle.dw_read.specs.Reading.{Reading, left}
use Rattle.dw_read_lines.specs.LineHeaders.{ReadLines}
use Rattle.dw_read_lines.specs.declared.parameters.Parameters.{Parameters}
use Rattle.dw_read_lines.specs.declared.header.LineProgramHeader.{LineProgramHeader}

module _ {R E : Type 0} (reading : R → Reading) where
  -- what the machine is told by parameters, in a byte order
  abbrev pub machine_of : Bool → Parameters R E → LineHeader
  machine_of big p = record {
    is_big = big;
    minimum_length = p.line_encoding.minimum_instruction_length;
    default_statement = p.line_encoding.default_is_stmt;
    line_base = p.line_encoding.line_base;
    line_range = p.line_encoding.line_range;
    opcode_base = p.opcode_base;
    operand_counts = left (reading p.operand_counts);
  }

  abbrev pub parameters_of : Bool → Parameters R E → ℕ × LineHeader
  parameters_of big p = (p.line_encoding.maximum_operations_per_instruction, machine_of big p)

  -- its tables, and the numbers of operands, are read in this byte order
  pub record IsInOrder (big : Bool) (h : LineProgramHeader R E) : Type 0 where
    pub tables : (reading h.tables).is_big ≡ big
    pub counts : (reading h.parameters.operand_counts).is_big ≡ big

  abbrev pub lines_of : LineProgramHeader R E → ReadLines
  lines_of h = record {
    encoding = h.encoding.encoding;
    operations = h.parameters.line_encoding.maximum_operations_per_instruction;
    machine = machine_of (reading h.program).is_big h.parameters;
    tables = left (reading h.tables);
    instructions = left (reading h.program);
  }
