-- The header of a line program up to its tables, with the reason where there is none (DWARF 5, 6.2.4; DWARF 2 to 4, the same).
use Rattle.std.specs.Prelude.{ℕ, ◌-◌, ◌==◌, nat_le, Bool, not, List, Result, Ok, if◌then◌else◌}
use Rattle.dw_base.specs.Numbers.{is_width, word_of}
use Rattle.dw_base.specs.declared.common.Encoding.{Encoding}
use Rattle.dw_base.specs.declared.common.Format.{Format}
use Rattle.dw_base.specs.LineReader.{is_line_version}
use Rattle.dw_base.specs.LineMachine.{LineHeader}
use Rattle.dw_base.specs.LineReader.{signed_byte}
use Rattle.dw_read.specs.Reading.{Read}
use Rattle.dw_read.specs.Reasons.{◌=>>◌, if_so, bytes_read, number_read, initial_length_read}
use Rattle.dw_read.specs.declared.error.ReadError.{ReadError}
use Rattle.dw_read.specs.declared.error.ReadError.TheVariants.{UnknownVersion, UnsupportedAddressSize, UnsupportedSegmentSize}

-- the operations of the longest instruction, which are told from version 4 on
unfoldable pub operations_read : Bool → ℕ → Read ℕ
operations_read big version bytes = if nat_le 4 version then number_read big 1 bytes else Ok (1, bytes)

-- The parameters: the operations of the longest instruction, and what the machine is told. An opcode base counts from the opcode
-- 1 on, so that a base of 0 has no operand counts, like 1.
unfoldable pub parameters_read : Bool → ℕ → Read (ℕ × LineHeader)
parameters_read big version bytes =
    number_read big 1 bytes =>> λ minimum. operations_read big version minimum.1 =>> λ operations.
    number_read big 1 operations.1 =>> λ statement. number_read big 1 statement.1 =>> λ base.
    number_read big 1 base.1 =>> λ range. number_read big 1 range.1 =>> λ opcodes.
    bytes_read (opcodes.0 - 1) opcodes.1 =>> λ counts. Ok (
      (
        operations.0,
        record {
          is_big = big;
          minimum_length = minimum.0;
          default_statement = not (statement.0 == 0);
          line_base = signed_byte base.0;
          line_range = range.0;
          opcode_base = opcodes.0;
          operand_counts = counts.0;
        },
      ),
      counts.1,
    )

-- In version 5 the bytes of an address and of a segment's number, of which there is none. Below, a program doesn't tell how wide
-- addresses are.
unfoldable pub address_size_read : Bool → ℕ → ℕ → Read ℕ
address_size_read big version size bytes =
    if nat_le 5 version then (number_read big 1 bytes =>> λ address. number_read big 1 address.1 =>> λ segment.
    if_so (is_width address.0) (UnsupportedAddressSize address.0)
    (if_so (segment.0 == 0) (UnsupportedSegmentSize segment.0) (Ok (address.0, segment.1))))
    else Ok (size, bytes)

-- A program in its parts. Its tables lie in the header behind the parameters, and its instructions behind the header, whose own
-- length says where it ends.
pub record ReadLines : Type 0 where
  pub encoding : Encoding
  -- the operations of the longest instruction
  pub operations : ℕ
  pub machine : LineHeader
  pub tables : List ℕ
  pub instructions : List ℕ

-- what follows the length of the program
unfoldable pub body_read : Bool → Format → ℕ → List ℕ → Result ReadLines ReadError
body_read big format size bytes =
    number_read big 2 bytes =>> λ version. if_so (is_line_version version.0) (UnknownVersion version.0)
    (address_size_read big version.0 size version.1 =>> λ width. number_read big (word_of format) width.1 =>> λ length.
    bytes_read length.0 length.1 =>> λ header. parameters_read big version.0 header.0 =>> λ p. Ok (
    record {
      encoding = record { address_size = width.0; format = format; version = version.0 };
      operations = p.0.0;
      machine = p.0.1;
      tables = p.1;
      instructions = header.1;
    }
    ))

-- The program that begins there; up to version 4 its addresses are of the size that is given.
unfoldable pub lines_read : Bool → ℕ → List ℕ → Result ReadLines ReadError
lines_read big size bytes =
    initial_length_read big bytes =>> λ start. bytes_read start.0.1 start.1 =>> λ program. body_read big start.0.0 size program.0

-- the program at a place of a section
unfoldable pub lines_at_place : Bool → ℕ → ℕ → List ℕ → Result ReadLines ReadError
lines_at_place big size place section = bytes_read place section =>> λ passed. lines_read big size passed.1
