-- A line program in its section: what its header tells the machine, its tables of directories and files, and its rows (DWARF 5,
-- 6.2.4 and 6.2.5). Instructions begin where the header's own length says that it ends.
use Rattle.std.specs.Prelude.{ℕ, ◌-◌, Bool, not, ◌&&◌, ◌==◌, nat_le, nat_lt, List, drop, Option, Some, ℤ, pos, negsuc, if◌then◌else◌}
use Rattle.dw_base.specs.Numbers.{Parser, ◌>>=◌, when, bytes_at, number_at, initial_length_at, word_of}
use Rattle.dw_base.specs.declared.common.Encoding.{Encoding}
use Rattle.dw_base.specs.LineMachine.{LineHeader, Shown}
use Rattle.dw_base.specs.LineTables.{LineTables, byte_at, tables_at}
use Rattle.dw_base.specs.Instructions.{rows_of}

abbrev pub is_line_version : ℕ → Bool
is_line_version v = nat_le 2 v && nat_le v 5

-- a byte as a signed number, in two's complement
abbrev pub signed_byte : ℕ → ℤ
signed_byte b = if nat_lt b 128 then pos b else negsuc (255 - b)

-- the operations of an instruction, which are told from version 4 on
abbrev pub operations_at : ℕ → Parser ℕ
operations_at version bytes = if nat_le 4 version then byte_at bytes else Some (1, bytes)

-- the parameters of a machine of one operation an instruction
abbrev pub parameters_at : Bool → ℕ → Parser LineHeader
parameters_at big version bytes =
    byte_at bytes >>= λ minimum. operations_at version minimum.1 >>= λ operations.
    when (operations.0 == 1)
    (byte_at operations.1 >>= λ statement. byte_at statement.1 >>= λ base. byte_at base.1 >>= λ range. byte_at range.1 >>= λ opcodes.
    bytes_at (opcodes.0 - 1) opcodes.1 >>= λ counts. Some (
      record {
        is_big = big;
        minimum_length = minimum.0;
        default_statement = not (statement.0 == 0);
        line_base = signed_byte base.0;
        line_range = range.0;
        opcode_base = opcodes.0;
        operand_counts = counts.0;
      },
      counts.1,
    ))

-- in version 5 the bytes of an address and of a segment's number stand before the header's length
abbrev pub address_size_at : ℕ → Parser ℕ
address_size_at version bytes =
    if nat_le 5 version then (byte_at bytes >>= λ address. byte_at address.1 >>= λ segment. Some (address.0, segment.1))
    else Some (0, bytes)

-- a program in its parts: up to version 4 it doesn't tell how wide addresses are
pub record ReadProgram : Type 0 where
  pub encoding : Encoding
  pub header : LineHeader
  pub tables : List ℕ
  pub instructions : List ℕ

-- the program that begins there
unfoldable pub line_program_at : Bool → List ℕ → Option ReadProgram
line_program_at big bytes =
    initial_length_at big bytes >>= λ start. bytes_at start.0.1 start.1 >>= λ program. number_at big 2 program.0 >>= λ version.
    when (is_line_version version.0)
    (address_size_at version.0 version.1 >>= λ width. number_at big (word_of start.0.0) width.1 >>= λ size.
    bytes_at size.0 size.1 >>= λ header. parameters_at big version.0 header.0 >>= λ h. Some (
    record {
      encoding = record { address_size = width.0; format = start.0.0; version = version.0 };
      header = h.0;
      tables = h.1;
      instructions = header.1;
    }
    ))

-- the rows, and the ends of sequences, of the program at a place of a section
unfoldable pub line_rows_at : Bool → List ℕ → ℕ → Option (List Shown)
line_rows_at big section place = line_program_at big (drop place section) >>= λ p. rows_of p.header p.instructions

-- its directories and files
unfoldable pub line_tables_at : Bool → List ℕ → ℕ → Option LineTables
line_tables_at big section place = line_program_at big (drop place section) >>= λ p. tables_at big p.encoding p.tables >>= λ t. Some t.0
