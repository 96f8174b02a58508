-- The instructions that are written for rows, and the rows that they stand for (DWARF 5, 6.2.5).
use Rattle.std.specs.Prelude.{◌≡◌, ℕ, ◌+◌, ◌-◌, ◌*◌, ◌/◌, ◌^◌, ◌<◌, Bool, true, false, not, ◌==◌, List, [], ◌∷◌, ◌++◌, Option, Some, None, IsTrue, IsSome, ◌⊎◌, ℤ, pos, ◌-ℤ◌}
use Rattle.std.specs.Bool.{beq}
use Rattle.std.specs.List.{flat_map}
use Rattle.dw_base.specs.Numbers.{fits}
use Rattle.dw_base.specs.Leb128.{fits_i64}
use Rattle.dw_base.specs.LineMachine.{LineHeader, Registers, Instruction, Copy, AdvancePc, AdvanceLine, SetFile, SetColumn, NegateStatement, SetBasicBlock, SetPrologueEnd, SetEpilogueBegin, SetIsa, EndSequence, SetAddress, SetDiscriminator, Shown, Row, End}
use Rattle.dw_base.specs.Instructions.{instruction_bytes}

-- A row as instructions tell it: its address from the sequence's on, and its file by the number that the program has for it.
pub record RawRow : Type 0 where
  pub address_offset : ℕ
  pub file : ℕ
  pub line : ℕ
  pub column : ℕ
  pub discriminator : ℕ
  pub isa : ℕ
  pub is_statement : Bool
  pub basic_block : Bool
  pub prologue_end : Bool
  pub epilogue_begin : Bool

pub record Sequence : Type 0 where
  pub address : Option ℕ
  pub rows : List RawRow
  -- the address offset of its end, where it was ended
  pub end : Option ℕ

-- what the registers hold before a sequence's first row
abbrev pub row_before : Bool → RawRow
row_before default_statement = record {
  address_offset = 0;
  file = 1;
  line = 1;
  column = 0;
  discriminator = 0;
  isa = 0;
  is_statement = default_statement;
  basic_block = false;
  prologue_end = false;
  epilogue_begin = false;
}

abbrev pub first_row : LineHeader → RawRow
first_row h = row_before h.default_statement

-- an instruction, where it is needed
abbrev pub given : Bool → Instruction → List Instruction
given true i = i ∷ []
given false i = []

-- from one line to another
abbrev pub line_change : ℕ → ℕ → ℤ
line_change old new = pos new -ℤ pos old

-- to a greater address offset
abbrev pub advance : LineHeader → ℕ → ℕ → List Instruction
advance h old new = given (not (new == old)) (AdvancePc ((new - old) / h.minimum_length))

-- for a row after another
abbrev pub row_instructions : LineHeader → RawRow → RawRow → List Instruction
row_instructions h old new =
    given (not (new.discriminator == 0)) (SetDiscriminator new.discriminator)
    ++ (given new.basic_block SetBasicBlock
    ++ (given new.prologue_end SetPrologueEnd
    ++ (given new.epilogue_begin SetEpilogueBegin
    ++ (given (not (beq new.is_statement old.is_statement)) NegateStatement
    ++ (given (not (new.file == old.file)) (SetFile new.file)
    ++ (given (not (new.column == old.column)) (SetColumn new.column)
    ++ (given (not (new.isa == old.isa)) (SetIsa new.isa)
    ++ (given (not (new.line == old.line)) (AdvanceLine (line_change old.line new.line))
    ++ (advance h old.address_offset new.address_offset
    ++ Copy ∷ [])))))))))

abbrev pub end_instructions : LineHeader → RawRow → Option ℕ → List Instruction
end_instructions h last None = []
end_instructions h last (Some end) = advance h last.address_offset end ++ EndSequence ∷ []

-- for the rows after a row, and the end
abbrev pub rows_instructions : LineHeader → RawRow → List RawRow → Option ℕ → List Instruction
rows_instructions h old [] end = end_instructions h old end
rows_instructions h old (r ∷ rs) end = row_instructions h old r ++ rows_instructions h r rs end

-- the address, in w bytes, where one is given
abbrev pub address_instructions : ℕ → Option ℕ → List Instruction
address_instructions w None = []
address_instructions w (Some a) = SetAddress w a ∷ []

abbrev pub sequence_instructions : LineHeader → ℕ → Sequence → List Instruction
sequence_instructions h w s = address_instructions w s.address ++ rows_instructions h (first_row h) s.rows s.end

-- the bytes of sequences
unfoldable pub sequences_bytes : LineHeader → ℕ → List Sequence → List ℕ
sequences_bytes h w ss = flat_map (instruction_bytes h) (flat_map (sequence_instructions h w) ss)

-- where a sequence begins
abbrev pub base_of : Option ℕ → ℕ
base_of None = 0
base_of (Some a) = a

-- a row as the machine is to show it
abbrev pub registers_of : ℕ → RawRow → Registers
registers_of base r = record {
  address = base + r.address_offset;
  file = r.file;
  line = r.line;
  column = r.column;
  discriminator = r.discriminator;
  isa = r.isa;
  is_statement = r.is_statement;
  basic_block = r.basic_block;
  prologue_end = r.prologue_end;
  epilogue_begin = r.epilogue_begin;
}

-- rows and their end
abbrev pub shown_rows : ℕ → List RawRow → Option ℕ → List Shown
shown_rows base [] None = []
shown_rows base [] (Some end) = End (base + end) ∷ []
shown_rows base (r ∷ rs) end = Row (registers_of base r) ∷ shown_rows base rs end

abbrev pub shown_sequence : Sequence → List Shown
shown_sequence s = shown_rows (base_of s.address) s.rows s.end

-- a multiple of the minimum length, not below the offset before
pub record IsReached (h : LineHeader) (old new : ℕ) : Type 0 where
  pub count : ℕ
  pub is : new ≡ old + h.minimum_length * count
  pub fits : new < 2 ^ 64

pub record IsRowAfter (h : LineHeader) (old new : RawRow) : Type 0 where
  pub reached : IsReached h old.address_offset new.address_offset
  pub line : IsTrue (fits_i64 (line_change old.line new.line))
  pub file : new.file < 2 ^ 64
  pub column : new.column < 2 ^ 64
  pub discriminator : new.discriminator < 2 ^ 64
  pub isa : new.isa < 2 ^ 64

abbrev pub IsEndAfter : LineHeader → RawRow → Option ℕ → Type 0
IsEndAfter h last None = Unit {0}
IsEndAfter h last (Some end) = IsReached h last.address_offset end

abbrev pub AreRowsAfter : LineHeader → RawRow → List RawRow → Option ℕ → Type 0
AreRowsAfter h old [] end = IsEndAfter h old end
AreRowsAfter h old (r ∷ rs) end = IsRowAfter h old r × AreRowsAfter h r rs end

abbrev pub IsAddress : ℕ → Option ℕ → Type 0
IsAddress w None = Unit {0}
IsAddress w (Some a) = (w < 256) × IsTrue (fits w a)

pub record IsSequence (h : LineHeader) (w : ℕ) (s : Sequence) : Type 0 where
  pub address : IsAddress w s.address
  pub rows : AreRowsAfter h (first_row h) s.rows s.end

-- only the last sequence may be open
abbrev pub AreSequences : LineHeader → ℕ → List Sequence → Type 0
AreSequences h w [] = Unit {0}
AreSequences h w (s ∷ ss) = IsSequence h w s × ((ss ≡ []) ⊎ IsSome s.end) × AreSequences h w ss
