-- The sequences of a line program that is read: what the line machine shows for its instructions up to each end of a sequence
-- (DWARF 5, 6.2.5).
use Rattle.std.specs.Prelude.{◌≡◌, ℕ, ◌^◌, ◌<◌, nat_lt, Bool, true, false, ◌&&◌, ◌||◌, List, [], ◌∷◌, ◌++◌, map, length, Option, Some, None, Ok, if◌then◌else◌}
use Rattle.dw_base.specs.Numbers.{◌>>=◌, when}
use Rattle.dw_base.specs.declared.constants.TheConstants.{DW_LNE_define_file}
use Rattle.dw_base.specs.Instructions.{instruction_at}
use Rattle.dw_base.specs.LineMachine.{LineHeader, Registers, Instruction, Copy, Special, EndSequence, SetAddress, Shown, Row, End, begin, changed, shows, leaves}
use Rattle.dw_read_lines.specs.LineInstructions.{extended_code}

-- the address and the line, which instructions add to, have 64 bits
abbrev pub is_narrow : Registers → Bool
is_narrow r = nat_lt r.address (2 ^ 64) && nat_lt r.line (2 ^ 64)

-- what an instruction makes of the registers, where no sum falls below 0 or passes 64 bits
abbrev pub stepped : LineHeader → Instruction → Registers → Option Registers
stepped h i r = changed h i r >>= λ s. when (is_narrow s) (Some s)

-- what the machine shows for instructions, and the registers behind them
abbrev pub walk : LineHeader → List Instruction → Registers → Option (List Shown × Registers)
walk h [] r = Some ([], r)
walk h (i ∷ is) r = stepped h i r >>= λ s. walk h is (leaves h i s) >>= λ more. Some (shows i s ++ more.0, more.1)

-- whether an instruction shows a row
abbrev pub shows_row : Instruction → Bool
shows_row Copy = true
shows_row (Special n) = true
shows_row i = false

-- whether one of them does
abbrev pub any_row : List Instruction → Bool
any_row [] = false
any_row (i ∷ is) = shows_row i || any_row is

abbrev pub set_by : Instruction → Option ℕ → Option ℕ
set_by (SetAddress w n) before = Some n
set_by i before = before

-- the address that is set last before the first row, or before the end where there is no row
abbrev pub set_before_rows : Option ℕ → List Instruction → Option ℕ
set_before_rows before [] = before
set_before_rows before (i ∷ is) = if shows_row i then before else set_before_rows (set_by i before) is

-- the base behind an instruction, by whether the sequence has rows
abbrev pub base_behind : Bool → Instruction → Option ℕ → Option ℕ
base_behind has_rows EndSequence base = None
base_behind true i base = base
base_behind false i base = set_by i base

-- a sequence that was read
pub record ReadSequence : Type 0 where
  pub base : Option ℕ
  pub rows : List Registers
  -- the address at which it ends
  pub end : ℕ

-- the instructions of a sequence before its end
pub record IsSequence (h : LineHeader) (is : List Instruction) (s : ReadSequence) : Type 0 where
  pub last : Registers
  pub shown : walk h is (begin h) ≡ Some (map Row s.rows, last)
  pub base : s.base ≡ set_before_rows None is
  pub end : s.end ≡ last.address

-- the instructions of sequences, each up to its end, and then those of one that isn't ended
abbrev pub AreSequences : LineHeader → List Instruction → List ReadSequence → List Instruction → Type 0
AreSequences h is [] opened = is ≡ opened
AreSequences h is (s ∷ ss) opened =
    (front : List Instruction) × (rest : List Instruction) × (is ≡ front ++ EndSequence ∷ rest) × IsSequence h front s × AreSequences h rest ss opened

-- an instruction that would add a file to those of the header
abbrev pub DefinesFile : LineHeader → List ℕ → Type 0
DefinesFile h bytes = extended_code h.is_big bytes ≡ Ok (Some DW_LNE_define_file.0)

-- the next instruction, which doesn't define a file
pub record IsNext (h : LineHeader) (bytes : List ℕ) (i : Instruction) (next : List ℕ) : Type 0 where
  pub value : instruction_at h bytes ≡ Some (i, next)
  pub shorter : length next < length bytes
  pub known : DefinesFile h bytes → ⊥

-- instructions that are read one after another, and the bytes behind them
abbrev pub AreRead : LineHeader → List ℕ → List Instruction → List ℕ → Type 0
AreRead h bytes [] rest = rest ≡ bytes
AreRead h bytes (i ∷ is) rest = (next : List ℕ) × IsNext h bytes i next × AreRead h next is rest

-- what the machine shows for a sequence
abbrev pub shown_of : ReadSequence → List Shown
shown_of s = map Row s.rows ++ End s.end ∷ []
