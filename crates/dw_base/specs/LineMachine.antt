-- The line machine (DWARF 5, 6.2.2 and 6.2.5): what instructions do to its registers, and the rows that it shows. It has no
-- operation index, since the targets of programs that it reads have one operation an instruction.
use Rattle.std.specs.Prelude.{ℕ, ◌+◌, ◌-◌, ◌*◌, ◌/◌, ◌%◌, Bool, true, false, not, List, [], ◌∷◌, ◌++◌, Option, Some, None, ℤ, pos, negsuc, ◌+ℤ◌, nat_lt}
use Rattle.dw_base.specs.Numbers.{◌>>=◌, when}

-- what the header of a line program tells the machine
pub record LineHeader : Type 0 where
  pub is_big : Bool
  pub minimum_length : ℕ
  pub default_statement : Bool
  pub line_base : ℤ
  pub line_range : ℕ
  pub opcode_base : ℕ
  -- of the opcodes from 1 on
  pub operand_counts : List ℕ

pub record Registers : Type 0 where
  pub address : ℕ
  pub file : ℕ
  pub line : ℕ
  pub column : ℕ
  pub discriminator : ℕ
  pub isa : ℕ
  pub is_statement : Bool
  pub basic_block : Bool
  pub prologue_end : Bool
  pub epilogue_begin : Bool

pub data Instruction : Type 0 where
  Copy : Instruction
  AdvancePc : ℕ → Instruction
  AdvanceLine : ℤ → Instruction
  SetFile : ℕ → Instruction
  SetColumn : ℕ → Instruction
  NegateStatement : Instruction
  SetBasicBlock : Instruction
  ConstAddPc : Instruction
  FixedAdvancePc : ℕ → Instruction
  SetPrologueEnd : Instruction
  SetEpilogueBegin : Instruction
  SetIsa : ℕ → Instruction
  -- the opcode less the header's base
  Special : ℕ → Instruction
  EndSequence : Instruction
  -- the bytes of an address, and the address
  SetAddress : ℕ → ℕ → Instruction
  SetDiscriminator : ℕ → Instruction
  -- one that isn't known, and does nothing
  Passed : Instruction

-- what the machine shows: a row, or the address at which a sequence ends
pub data Shown : Type 0 where
  Row : Registers → Shown
  End : ℕ → Shown

-- the registers as a sequence begins
abbrev pub begin : LineHeader → Registers
begin h = record {
  address = 0;
  file = 1;
  line = 1;
  column = 0;
  discriminator = 0;
  isa = 0;
  is_statement = h.default_statement;
  basic_block = false;
  prologue_end = false;
  epilogue_begin = false;
}

-- the address, further on by so many instructions
abbrev pub moved : LineHeader → ℕ → Registers → Registers
moved h n r = record r { address = r.address + h.minimum_length * n }

abbrev pub put_line : Registers → ℤ → Option Registers
put_line r (pos n) = Some (record r { line = n })
put_line r (negsuc n) = None

-- the line, further on by a signed number; no line is below 0
abbrev pub line_moved : ℤ → Registers → Option Registers
line_moved z r = put_line r (pos r.line +ℤ z)

-- the discriminator and the marks hold for one row
abbrev pub cleared : Registers → Registers
cleared r = record r { discriminator = 0; basic_block = false; prologue_end = false; epilogue_begin = false }

-- what an instruction makes of the registers, before it shows them
unfoldable pub changed : LineHeader → Instruction → Registers → Option Registers
changed h (AdvancePc n) r = Some (moved h n r)
changed h (AdvanceLine z) r = line_moved z r
changed h (SetFile n) r = Some (record r { file = n })
changed h (SetColumn n) r = Some (record r { column = n })
changed h NegateStatement r = Some (record r { is_statement = not r.is_statement })
changed h SetBasicBlock r = Some (record r { basic_block = true })
changed h ConstAddPc r = when (nat_lt 0 h.line_range) (Some (moved h ((255 - h.opcode_base) / h.line_range) r))
changed h (FixedAdvancePc n) r = Some (record r { address = r.address + n })
changed h SetPrologueEnd r = Some (record r { prologue_end = true })
changed h SetEpilogueBegin r = Some (record r { epilogue_begin = true })
changed h (SetIsa n) r = Some (record r { isa = n })
changed h (Special n) r = when (nat_lt 0 h.line_range) (line_moved (h.line_base +ℤ pos (n % h.line_range)) (moved h (n / h.line_range) r))
changed h (SetAddress w n) r = Some (record r { address = n })
changed h (SetDiscriminator n) r = Some (record r { discriminator = n })
changed h _ r = Some r

-- what it then shows of them
unfoldable pub shows : Instruction → Registers → List Shown
shows Copy r = Row r ∷ []
shows (Special n) r = Row r ∷ []
shows EndSequence r = End r.address ∷ []
shows _ r = []

-- and what it leaves in them
unfoldable pub leaves : LineHeader → Instruction → Registers → Registers
leaves h Copy r = cleared r
leaves h (Special n) r = cleared r
leaves h EndSequence r = begin h
leaves h _ r = r

-- what the machine shows as it runs instructions
unfoldable pub run : LineHeader → List Instruction → Registers → Option (List Shown)
run h [] r = Some []
run h (i ∷ is) r = changed h i r >>= λ s. run h is (leaves h i s) >>= λ more. Some (shows i s ++ more)
