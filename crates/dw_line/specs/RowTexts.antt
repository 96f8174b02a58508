-- The bytes that are written for rows and ends of sequences, and why they are refused (DWARF 5, 6.2.5).
use Rattle.std.specs.Prelude.{ℕ, ◌-◌, ◌/◌, ◌≤◌, Bool, true, false, ◌&&◌, not, ◌==◌, List, [], ◌∷◌, ◌++◌, Option, Some, None, IsFalse}
use Rattle.std.specs.Bool.{beq}
use Rattle.dw_base.specs.Leb128.{uleb, sleb, fits_i64}
use Rattle.dw_base.specs.declared.constants.TheConstants.{DW_LNS_copy, DW_LNS_advance_pc, DW_LNS_advance_line, DW_LNS_set_file, DW_LNS_set_column, DW_LNS_negate_stmt, DW_LNS_set_basic_block, DW_LNS_set_prologue_end, DW_LNS_set_epilogue_begin, DW_LNS_set_isa, DW_LNE_end_sequence, DW_LNE_set_discriminator}
use Rattle.dw_base.specs.declared.error.Error.{Error}
use Rattle.dw_base.specs.declared.error.Error.TheVariants.{ValueTooLarge}
use Rattle.dw_writer.specs.Meaning.{Meaning}
use Rattle.dw_writer.specs.Causes.{BytesRefused}
use Rattle.dw_base.specs.Instructions.{extended_bytes}
use Rattle.dw_line.specs.RawRows.{RawRow, line_change}

abbrev pub where_needed : Bool → List ℕ → List ℕ
where_needed true bytes = bytes
where_needed false bytes = []

abbrev pub row_text : ℕ → RawRow → RawRow → List ℕ
row_text minimum_length old new =
    where_needed (not (new.discriminator == 0)) (0 ∷ extended_bytes DW_LNE_set_discriminator.0 (uleb new.discriminator))
    ++ (where_needed new.basic_block (DW_LNS_set_basic_block.0 ∷ [])
    ++ (where_needed new.prologue_end (DW_LNS_set_prologue_end.0 ∷ [])
    ++ (where_needed new.epilogue_begin (DW_LNS_set_epilogue_begin.0 ∷ [])
    ++ (where_needed (not (beq new.is_statement old.is_statement)) (DW_LNS_negate_stmt.0 ∷ [])
    ++ (where_needed (not (new.file == old.file)) (DW_LNS_set_file.0 ∷ uleb new.file)
    ++ (where_needed (not (new.column == old.column)) (DW_LNS_set_column.0 ∷ uleb new.column)
    ++ (where_needed (not (new.isa == old.isa)) (DW_LNS_set_isa.0 ∷ uleb new.isa)
    ++ (where_needed (not (new.line == old.line)) (DW_LNS_advance_line.0 ∷ sleb (line_change old.line new.line))
    ++ (where_needed (not (new.address_offset == old.address_offset)) (DW_LNS_advance_pc.0 ∷ uleb ((new.address_offset - old.address_offset) / minimum_length))
    ++ DW_LNS_copy.0 ∷ [])))))))))

-- a change of line is refused where it fits no 64 bits
abbrev pub LineRefused : Meaning → Meaning → ℕ → ℕ → Error → Type 0
LineRefused old new from to ValueTooLarge = IsFalse (fits_i64 (line_change from to))
LineRefused old new from to e = BytesRefused old new e

-- the rows after a row
abbrev pub rows_text : ℕ → RawRow → List RawRow → List ℕ
rows_text minimum_length old [] = []
rows_text minimum_length old (r ∷ rs) = row_text minimum_length old r ++ rows_text minimum_length r rs

-- the row before the next one
abbrev pub last_row : RawRow → List RawRow → RawRow
last_row old [] = old
last_row old (r ∷ rs) = last_row r rs

-- no address offset is below the one before it
abbrev pub IsOrdered : RawRow → List RawRow → Type 0
IsOrdered old [] = Unit {0}
IsOrdered old (r ∷ rs) = (old.address_offset ≤ r.address_offset) × IsOrdered r rs

-- every change of line fits 64 bits
abbrev pub lines_fit : RawRow → List RawRow → Bool
lines_fit old [] = true
lines_fit old (r ∷ rs) = fits_i64 (line_change old.line r.line) && lines_fit r rs

-- some change of line fits no 64 bits
abbrev pub RowsRefused : Meaning → Meaning → RawRow → List RawRow → Error → Type 0
RowsRefused old new first rows ValueTooLarge = IsFalse (lines_fit first rows)
RowsRefused old new first rows e = BytesRefused old new e

-- the end of a sequence after a last row of this offset
abbrev pub end_text : ℕ → ℕ → Option ℕ → List ℕ
end_text minimum_length last None = []
end_text minimum_length last (Some end) =
    where_needed (not (end == last)) (DW_LNS_advance_pc.0 ∷ uleb ((end - last) / minimum_length)) ++ 0 ∷ extended_bytes DW_LNE_end_sequence.0 []

-- the rows of a sequence and its end
abbrev pub sequence_rows_text : ℕ → RawRow → List RawRow → Option ℕ → List ℕ
sequence_rows_text minimum_length first rows end = rows_text minimum_length first rows ++ end_text minimum_length (last_row first rows).address_offset end
