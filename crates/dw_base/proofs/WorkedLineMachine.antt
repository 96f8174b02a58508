-- Bytes that were put down by hand, and what they stand for (DWARF 5, 6.2.4, 6.2.5 and 7.22).
use Rattle.std.proofs.Common.{◌≡◌, ◌+◌, ℕ, true, false, List, [], ◌∷◌, Some, negsuc, refl}
use Rattle.dw_base.specs.Numbers.{bytes_at, number_at}
use Rattle.dw_base.specs.Forms.{text_at, kind_of, direct_at, form_at}
use Rattle.dw_base.specs.declared.common.Format.TheVariants.{Dwarf32, Dwarf64}
use Rattle.dw_base.specs.Leb128.{groups_at, uleb_at, signed_groups_at, sleb_at}
use Rattle.dw_base.specs.LineMachine.{LineHeader, Registers, begin, Row, End, changed, shows, leaves, run}
use Rattle.dw_base.specs.LineTables.{Inline, InLineStrings, named, part_at, entry_at, many_at, new_entries_at, old_entries_at, tables_at}
use Rattle.dw_base.specs.Instructions.{standard_at, extended_of, extended_at, instruction_at, instructions_at, rows_of}

header : LineHeader
header = record {
  is_big = false;
  minimum_length = 1;
  default_statement = true;
  line_base = negsuc 4;
  line_range = 14;
  opcode_base = 13;
  operand_counts = 0 ∷ 1 ∷ 1 ∷ 1 ∷ 1 ∷ 0 ∷ 0 ∷ 0 ∷ 1 ∷ 0 ∷ 0 ∷ 1 ∷ [];
}

-- set_address 0x1000, advance_line 2, copy, special 0x4b, advance_pc 2, end_sequence
program : List ℕ
program =
    0x00 ∷ 0x09 ∷ 0x02 ∷ 0x00 ∷ 0x10 ∷ 0x00 ∷ 0x00 ∷ 0x00 ∷ 0x00 ∷ 0x00 ∷ 0x00
    ∷ 0x03 ∷ 0x02 ∷ 0x01 ∷ 0x4b ∷ 0x02 ∷ 0x02 ∷ 0x00 ∷ 0x01 ∷ 0x01 ∷ []

program_rows : rows_of header program ≡ Some (
    Row (record (begin header) { address = 0x1000; line = 3 })
    ∷ Row (record (begin header) { address = 0x1004; line = 4 })
    ∷ End 0x1006 ∷ [])
unfolding header program rows_of instructions_at instruction_at extended_at extended_of standard_at run changed shows leaves bytes_at number_at groups_at uleb_at signed_groups_at sleb_at
program_rows = refl

-- set_discriminator 3, set_file 2, set_column 129, negate_stmt, set_basic_block, const_add_pc, fixed_advance_pc 258, set_prologue_end,
-- set_epilogue_begin, set_isa 5, an extended instruction that isn't known, copy
other_instructions : List ℕ
other_instructions =
    0x00 ∷ 0x02 ∷ 0x04 ∷ 0x03 ∷ 0x04 ∷ 0x02 ∷ 0x05 ∷ 0x81 ∷ 0x01 ∷ 0x06 ∷ 0x07 ∷ 0x08 ∷ 0x09 ∷ 0x02 ∷ 0x01 ∷ 0x0a
    ∷ 0x0b ∷ 0x0c ∷ 0x05 ∷ 0x00 ∷ 0x03 ∷ 0x80 ∷ 0x07 ∷ 0x07 ∷ 0x01 ∷ []

-- const_add_pc advances by (255 - 13) / 14, which is 17
other_registers : Registers
other_registers = record {
  address = 17 + 258;
  file = 2;
  line = 1;
  column = 129;
  discriminator = 3;
  isa = 5;
  is_statement = false;
  basic_block = true;
  prologue_end = true;
  epilogue_begin = true;
}

other_rows : rows_of header other_instructions ≡ Some (Row other_registers ∷ [])
unfolding header other_instructions other_registers rows_of instructions_at instruction_at extended_at extended_of standard_at run changed shows leaves bytes_at number_at groups_at uleb_at signed_groups_at sleb_at
other_rows = refl

-- In version 5: one directory, 'b'; of files a name as line_strp, a directory as data1, a checksum as data16, and something that
-- isn't known as data2. One file: the name at 5, of directory 1.
new_tables : List ℕ
new_tables =
    0x01 ∷ 0x01 ∷ 0x08 ∷ 0x01 ∷ 0x62 ∷ 0x00
    ∷ 0x04 ∷ 0x01 ∷ 0x1f ∷ 0x02 ∷ 0x0b ∷ 0x05 ∷ 0x1e ∷ 0x80 ∷ 0x40 ∷ 0x05 ∷ 0x01
    ∷ 0x05 ∷ 0x00 ∷ 0x00 ∷ 0x00 ∷ 0x01 ∷ 1 ∷ 2 ∷ 3 ∷ 4 ∷ 5 ∷ 6 ∷ 7 ∷ 8 ∷ 9 ∷ 10 ∷ 11 ∷ 12 ∷ 13 ∷ 14 ∷ 15 ∷ 16 ∷ 0xaa ∷ 0xbb ∷ []

new_tables_read : tables_at false (record { address_size = 8; format = Dwarf32; version = 5 }) new_tables ≡ Some (
  record {
    directories = named (Inline (0x62 ∷ [])) ∷ [];
    files = record (named (InLineStrings 5)) { directory = 1; md5 = Some (1 ∷ 2 ∷ 3 ∷ 4 ∷ 5 ∷ 6 ∷ 7 ∷ 8 ∷ 9 ∷ 10 ∷ 11 ∷ 12 ∷ 13 ∷ 14 ∷ 15 ∷ 16 ∷ []) } ∷ [];
  },
  [],
)
unfolding new_tables tables_at new_entries_at entry_at part_at many_at form_at kind_of direct_at text_at bytes_at number_at groups_at uleb_at
new_tables_read = refl

-- up to version 4: the directories 'a' and 'b', and the file 'c' of directory 1, of time 3 and size 200
old_tables : List ℕ
old_tables = 0x61 ∷ 0x00 ∷ 0x62 ∷ 0x00 ∷ 0x00 ∷ 0x63 ∷ 0x00 ∷ 0x01 ∷ 0x03 ∷ 0xc8 ∷ 0x01 ∷ 0x00 ∷ []

old_tables_read : tables_at true (record { address_size = 0; format = Dwarf64; version = 2 }) old_tables ≡ Some (
  record {
    directories = named (Inline (0x61 ∷ [])) ∷ named (Inline (0x62 ∷ [])) ∷ [];
    files = record (named (Inline (0x63 ∷ []))) { directory = 1; timestamp = 3; size = 200 } ∷ [];
  },
  [],
)
unfolding old_tables tables_at old_entries_at text_at groups_at uleb_at
old_tables_read = refl
