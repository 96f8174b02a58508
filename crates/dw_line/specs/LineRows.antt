-- Rows as they are built, with files by their ids.
use Rattle.std.specs.Prelude.{ℕ, ◌+◌, ◌%◌, ◌^◌, ◌<◌, Bool, true, false, ◌&&◌, ◌==◌, nat_le, nat_lt, List, [], ◌∷◌, map, Option, Some, None, if◌then◌else◌}
use Rattle.dw_base.specs.declared.address.Address.{Address}
use Rattle.dw_base.specs.declared.common.LineEncoding.{LineEncoding}
use Rattle.dw_writer.specs.SignedNumbers.{twos_complement}
use Rattle.dw_base.specs.LineMachine.{LineHeader}
use Rattle.dw_base.specs.LineReader.{signed_byte}
use Rattle.dw_line.specs.RawRows.{RawRow}
use Rattle.dw_line.specs.SequenceTexts.{BuiltSequence}
use Rattle.dw_line.specs.declared.row.LineRow.{LineRow}

-- the number of a file: counted from 1 up to version 4, and from 0 in version 5 (DWARF 5, 6.2.4)
abbrev pub raw_file : ℕ → ℕ → ℕ
raw_file version index = if nat_le version 4 then index + 1 else index

abbrev pub raw_row : ℕ → LineRow → RawRow
raw_row version r = record {
  address_offset = r.address_offset;
  file = raw_file version r.file.0;
  line = r.line;
  column = r.column;
  discriminator = r.discriminator;
  isa = r.isa;
  is_statement = r.is_statement;
  basic_block = r.basic_block;
  prologue_end = r.prologue_end;
  epilogue_begin = r.epilogue_begin;
}

-- what a sequence's first row begins as
abbrev pub first_line_row : Bool → LineRow
first_line_row default_statement = record {
  address_offset = 0;
  file = record { 0 = 0 };
  line = 1;
  column = 0;
  discriminator = 0;
  is_statement = default_statement;
  basic_block = false;
  prologue_end = false;
  epilogue_begin = false;
  isa = 0;
}

abbrev pub built_sequence : ℕ → Option Address → List LineRow → Option ℕ → BuiltSequence
built_sequence version address rows end = record { address = address; rows = map (raw_row version) rows; end = end }

-- the numbers of a row lie in their types
pub record IsRanged (r : RawRow) : Type 0 where
  pub address_offset : r.address_offset < 2 ^ 64
  pub file : r.file < 2 ^ 64
  pub column : r.column < 2 ^ 64
  pub discriminator : r.discriminator < 2 ^ 64
  pub isa : r.isa < 2 ^ 64

-- the offsets of rows are multiples of the minimum length and don't fall, and their files have numbers
abbrev pub are_in_order : ℕ → ℕ → List LineRow → Bool
are_in_order m from [] = true
are_in_order m from (r ∷ rs) =
    nat_le from r.address_offset && (r.address_offset % m == 0) && nat_lt r.file.0 0xffff_ffff_ffff_ffff
    && are_in_order m r.address_offset rs

-- the offset of the last row
abbrev pub last_offset : ℕ → List LineRow → ℕ
last_offset from [] = from
last_offset from (r ∷ rs) = last_offset r.address_offset rs

-- the end of a sequence is such an offset, too
abbrev pub is_end_in_order : ℕ → ℕ → Option ℕ → Bool
is_end_in_order m from None = true
is_end_in_order m from (Some end) = nat_le from end && (end % m == 0)

-- how many operands the standard instructions have (DWARF 5, 6.2.5.2)
abbrev pub standard_operand_counts : List ℕ
standard_operand_counts = 0 ∷ 1 ∷ 1 ∷ 1 ∷ 1 ∷ 0 ∷ 0 ∷ 0 ∷ 1 ∷ 0 ∷ 0 ∷ 1 ∷ []

-- what is read of the header that is written
abbrev pub written_header : Bool → LineEncoding → LineHeader
written_header big e = record {
  is_big = big;
  minimum_length = e.minimum_instruction_length;
  default_statement = e.default_is_stmt;
  line_base = signed_byte (twos_complement 1 e.line_base);
  line_range = e.line_range;
  opcode_base = 13;
  operand_counts = standard_operand_counts;
}
