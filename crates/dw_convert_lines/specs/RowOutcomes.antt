-- What the instructions of a line program become: sequences that are added to a program.
use Rattle.std.specs.Prelude.{◌≡◌, ◌⊎◌, ℕ, Bool, true, false, not, ◌&&◌, List, [], ◌∷◌, ◌++◌, map, Option, Some, None, Ok, Err}
use Rattle.std.specs.List.{flat_map}
use Rattle.dw_base.specs.declared.address.Address.{Address}
use Rattle.dw_base.specs.declared.ids.FileId.{FileId}
use Rattle.dw_base.specs.Instructions.{rows_of}
use Rattle.dw_base.specs.LineMachine.{LineHeader, Registers, Instruction, Shown, Row, End, begin, shows, leaves}
use Rattle.dw_line.specs.LinePrograms.{LineProgramValue, file_count_of}
use Rattle.dw_line.specs.LineRows.{last_offset}
use Rattle.dw_line.specs.ProgramTexts.{ProgramValue, minimum_length, with_begin, with_row, with_end}
use Rattle.dw_line.specs.Programs.{SequenceValue}
use Rattle.dw_line.specs.RawRows.{base_of}
use Rattle.dw_line.specs.declared.row.LineRow.{LineRow}
use Rattle.dw_read.specs.declared.error.ReadError.{ReadError}
use Rattle.dw_read_lines.specs.LineInstructions.{instruction_read}
use Rattle.dw_sources.specs.ConvertErrors.{from_read}
use Rattle.dw_sources.specs.declared.convert_error.ConvertError.{ConvertError}
use Rattle.dw_sources.specs.declared.convert_error.ConvertError.TheVariants.{InvalidAddress, UnsupportedLineProgram, IntegerOverflow}
use Rattle.dw_convert_lines.specs.ReadRows.{ReadSequence, stepped, walk, any_row, set_before_rows, base_behind, AreSequences, AreRead, IsNext, DefinesFile, shown_of}
use Rattle.dw_convert_lines.specs.RowImages.{row_image, offset_image, AddressImage, AreFiles, AreRowImages, AreSequenceImages}

-- whether there is one
abbrev pub has_any : {A : Type 0} → List A → Bool
has_any [] = false
has_any (x ∷ xs) = true

-- The caller is known by its answers.
module _ (answers : ℕ → Option Address → Type 0) (base : Option ℕ) where
  -- the sequence that isn't ended is begun, unless it was
  abbrev pub Begins : ProgramValue → ProgramValue → Type 0
  Begins old new = ((old.in_sequence ≡ true) × (new ≡ old)) ⊎ ((old.in_sequence ≡ false) × (address : Option Address) × AddressImage answers base address × (new ≡ with_begin address old))

  -- the caller answers no address for the base
  abbrev pub RefusesBase : Option ℕ → Type 0
  RefusesBase None = ⊥
  RefusesBase (Some n) = answers n None

  -- a sequence can't be begun
  pub record RefusesBegin (p : ProgramValue) (e : ConvertError) : Type 0 where
    pub first : p.in_sequence ≡ false
    pub none : RefusesBase base
    pub is : e ≡ InvalidAddress

  pub record AddsEnd (address : ℕ) (old new : ProgramValue) : Type 0 where
    pub begun : ProgramValue
    pub begins : Begins old begun
    pub end : ℕ
    pub image : offset_image (minimum_length old) (base_of base) (last_offset 0 begun.rows) address ≡ Ok end
    pub is : new ≡ with_end end begun

  pub record RefusesEnd (address : ℕ) (old : ProgramValue) (e : ConvertError) : Type 0 where
    pub begun : ProgramValue
    pub begins : Begins old begun
    pub refused : offset_image (minimum_length old) (base_of base) (last_offset 0 begun.rows) address ≡ Err e

  -- a program of a version, whose files have these ids
  module _ (version : ℕ) (ids : List FileId) where
    pub record AddsRow (r : Registers) (old new : ProgramValue) : Type 0 where
      pub begun : ProgramValue
      pub begins : Begins old begun
      pub row : LineRow
      pub image : row_image version ids (minimum_length old) (base_of base) (last_offset 0 begun.rows) r ≡ Ok row
      pub is : new ≡ with_row row begun

    pub record RefusesRow (r : Registers) (old : ProgramValue) (e : ConvertError) : Type 0 where
      pub begun : ProgramValue
      pub begins : Begins old begun
      pub refused : row_image version ids (minimum_length old) (base_of base) (last_offset 0 begun.rows) r ≡ Err e

    -- what the machine shows is added
    abbrev pub AddsShown : ProgramValue → ProgramValue → List Shown → Type 0
    AddsShown old new [] = new ≡ old
    AddsShown old new (Row r ∷ more) = AddsRow r old new
    AddsShown old new (End a ∷ more) = AddsEnd a old new

    -- it becomes nothing
    abbrev pub RefusesShown : ProgramValue → ConvertError → List Shown → Type 0
    RefusesShown old e [] = ⊥
    RefusesShown old e (Row r ∷ more) = RefusesBegin old e ⊎ RefusesRow r old e
    RefusesShown old e (End a ∷ more) = RefusesBegin old e ⊎ RefusesEnd a old e

-- A program of a version, whose files have these ids, with the instructions of a header.
module _ (h : LineHeader) (version : ℕ) (ids : List FileId) (answers : ℕ → Option Address → Type 0) where
  -- an instruction is followed, and what it shows is added
  pub record Follows (i : Instruction) (r : Registers) (base : Option ℕ) (old : ProgramValue) (left : Registers) (behind : Option ℕ) (new : ProgramValue) : Type 0 where
    pub registers : Registers
    pub step : stepped h i r ≡ Some registers
    pub leaves_them : left ≡ leaves h i registers
    pub base_is : behind ≡ base_behind old.in_sequence i base
    pub adds : AddsShown answers base version ids old new (shows i registers)

  -- a sum of the machine falls below 0 or passes 64 bits
  abbrev pub Overflows : Instruction → Registers → ConvertError → Type 0
  Overflows i r e = (stepped h i r ≡ None) × (e ≡ IntegerOverflow)

  -- what the instruction shows becomes nothing
  pub record RefusesStep (i : Instruction) (r : Registers) (base : Option ℕ) (old : ProgramValue) (e : ConvertError) : Type 0 where
    pub registers : Registers
    pub step : stepped h i r ≡ Some registers
    pub refused : RefusesShown answers base version ids old e (shows i registers)

  abbrev pub RefusesInstruction : Instruction → Registers → Option ℕ → ProgramValue → ConvertError → Type 0
  RefusesInstruction i r base old e = Overflows i r e ⊎ RefusesStep i r base old e

  -- sequences that were read, and those that they have become behind others of a program
  pub record Ended (old new : ProgramValue) (sequences : List ReadSequence) : Type 0 where
    pub images : List SequenceValue
    pub are : AreSequenceImages version ids (minimum_length old) answers sequences images
    pub is : new ≡ record old { sequences = old.sequences ++ images; in_sequence = new.in_sequence; address = new.address; rows = new.rows }

  -- the sequence that isn't ended: its rows, and those that they have become
  pub record Unended (base : Option ℕ) (rows : List Registers) (minimum : ℕ) (new : ProgramValue) : Type 0 where
    pub begun : new.in_sequence ≡ has_any rows
    pub address : new.in_sequence ≡ true → AddressImage answers base new.address
    pub are : AreRowImages version ids minimum (base_of base) 0 rows new.rows

  -- The first instructions were read, and all that the machine shows for them has become a part of the program. Bytes are left,
  -- the registers are those behind the instructions, and the base is that of the sequence that isn't ended.
  pub record Reached (bytes : List ℕ) (old : ProgramValue) (rest : List ℕ) (registers : Registers) (base : Option ℕ) (new : ProgramValue) : Type 0 where
    pub instructions : List Instruction
    pub read : AreRead h bytes instructions rest
    pub sequences : List ReadSequence
    pub opened : List Instruction
    pub are : AreSequences h instructions sequences opened
    pub rows : List Registers
    pub shown : walk h opened (begin h) ≡ Some (map Row rows, registers)
    pub base_is : base ≡ set_before_rows None opened
    pub begun : new.in_sequence ≡ any_row opened
    pub ended : Ended old new sequences
    pub unended : Unended base rows (minimum_length old) new

  -- All instructions were read, and the sequences that the machine shows, all of which are ended, have become those that the
  -- program has behind its own.
  pub record AddsSequences (bytes : List ℕ) (old new : ProgramValue) : Type 0 where
    pub instructions : List Instruction
    pub read : AreRead h bytes instructions []
    pub sequences : List ReadSequence
    pub opened : List Instruction
    pub are : AreSequences h instructions sequences opened
    -- instructions behind the last end show no row
    pub last : Registers
    pub closed : walk h opened (begin h) ≡ Some ([], last)
    pub shown : rows_of h bytes ≡ Some (flat_map shown_of sequences)
    pub images : List SequenceValue
    pub become : AreSequenceImages version ids (minimum_length old) answers sequences images
    pub is : new ≡ record old { sequences = old.sequences ++ images; address = new.address }

  -- an instruction that can't be read, for this reason
  pub record MissesInstruction (rest : List ℕ) (e : ConvertError) : Type 0 where
    pub error : ReadError
    pub reason : instruction_read h rest ≡ Err error
    pub is : e ≡ from_read error

  -- a file can't be added to those of the header, nor is a sequence left without its end
  pub record IsUnsupported (rest : List ℕ) (p : ProgramValue) (e : ConvertError) : Type 0 where
    pub fault : DefinesFile h rest ⊎ ((rest ≡ []) × (p.in_sequence ≡ true))
    pub is : e ≡ UnsupportedLineProgram

  -- an instruction that is read and becomes nothing
  pub record RefusesNext (rest : List ℕ) (r : Registers) (base : Option ℕ) (p : ProgramValue) (e : ConvertError) : Type 0 where
    pub instruction : Instruction
    pub next : List ℕ
    pub read : IsNext h rest instruction next
    pub cause : RefusesInstruction instruction r base p e

  -- behind the first instructions, which became a part of the program
  pub record RefusesSequences (bytes : List ℕ) (old : ProgramValue) (e : ConvertError) : Type 0 where
    pub rest : List ℕ
    pub registers : Registers
    pub base : Option ℕ
    pub new : ProgramValue
    pub reached : Reached bytes old rest registers base new
    pub cause : MissesInstruction rest e ⊎ (IsUnsupported rest new e ⊎ RefusesNext rest registers base new e)

-- a program that there is, in which no sequence is opened
pub record IsFresh (v : LineProgramValue) : Type 0 where
  pub program : ProgramValue
  pub is : v.program ≡ Some program
  pub closed : program.in_sequence ≡ false
  pub rows : program.rows ≡ []

-- whether there is a program in which no sequence is open
abbrev pub is_fresh : Option ProgramValue → Bool
is_fresh None = false
is_fresh (Some p) = not p.in_sequence && not (has_any p.rows)

-- such a program, with the files of all numbers that were read in a program of a version
pub record IsBegun (version : ℕ) (v : LineProgramValue) (ids : List FileId) : Type 0 where
  pub fresh : is_fresh v.program ≡ true
  pub files : AreFiles version ids (file_count_of v.program)

-- a program that there is, before and after
pub record Changes (Does : ProgramValue → ProgramValue → Type 0) (old new : LineProgramValue) : Type 0 where
  pub before : ProgramValue
  pub was : old.program ≡ Some before
  pub after : ProgramValue
  pub is : new.program ≡ Some after
  pub does : Does before after

-- a program that there is
pub record Refuses (Fails : ProgramValue → Type 0) (old : LineProgramValue) : Type 0 where
  pub before : ProgramValue
  pub was : old.program ≡ Some before
  pub fails : Fails before
