-- Line programs as they are built (DWARF 5, 6.2).
use Rattle.std.specs.Prelude.{ℕ, Bool, ◌&&◌, List, Option, Some}
use Rattle.dw_base.specs.declared.address.Address.{Address}
use Rattle.dw_base.specs.declared.common.Encoding.{Encoding}
use Rattle.dw_base.specs.declared.common.LineEncoding.{LineEncoding}
use Rattle.dw_base.specs.declared.error.Error.{Error}
use Rattle.dw_writer.specs.Meaning.{Model}
use Rattle.dw_line.specs.LineRows.{built_sequence, written_header, are_in_order, is_end_in_order, last_offset}
use Rattle.dw_line.specs.RawRows.{row_before, AreRowsAfter}
use Rattle.dw_line.specs.SequenceTexts.{BuiltSequence, sequence_size, sequence_model, sequence_fails}
use Rattle.dw_line.specs.declared.row.LineRow.{LineRow}

-- a sequence that was ended
pub record SequenceValue : Type 0 where
  pub address : Option Address
  pub rows : List LineRow
  -- the address offset past its last instruction
  pub end : ℕ

-- the offsets of a sequence are multiples of the minimum length and don't fall
abbrev pub is_in_order : ℕ → SequenceValue → Bool
is_in_order m s = are_in_order m 0 s.rows && is_end_in_order m (last_offset 0 s.rows) (Some s.end)

abbrev pub ended : ℕ → SequenceValue → BuiltSequence
ended version s = built_sequence version s.address s.rows (Some s.end)

module _ (e : Encoding) (le : LineEncoding) where
  abbrev pub built_size : BuiltSequence → ℕ
  built_size s = sequence_size e.address_size le.minimum_instruction_length (row_before le.default_is_stmt) s

  abbrev pub built_model : BuiltSequence → Model
  built_model s = sequence_model e.address_size le.minimum_instruction_length (row_before le.default_is_stmt) s

  abbrev pub built_fails : Bool → BuiltSequence → Error → Bool
  built_fails plain s error = sequence_fails plain e.address_size (row_before le.default_is_stmt) s error

  abbrev pub ended_size : SequenceValue → ℕ
  ended_size s = built_size (ended e.version s)

  abbrev pub ended_text : SequenceValue → Model
  ended_text s = built_model (ended e.version s)

abbrev pub ended_fails : Bool → Encoding → LineEncoding → SequenceValue → Error → Bool
ended_fails plain e le s error = built_fails e le plain (ended e.version s) error

-- its rows follow each other
abbrev pub IsBuiltAfter : Bool → LineEncoding → BuiltSequence → Type 0
IsBuiltAfter big le s = AreRowsAfter (written_header big le) (row_before le.default_is_stmt) s.rows s.end

pub record IsEndedAfter (big : Bool) (e : Encoding) (le : LineEncoding) (s : SequenceValue) : Type 0 where
  pub rows : IsBuiltAfter big le (ended e.version s)
