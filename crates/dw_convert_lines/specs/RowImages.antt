-- What the rows and sequences of a line program become (DWARF 5, 6.2.2).
use Rattle.std.specs.Prelude.{◌≡◌, ℕ, ◌-◌, ◌%◌, ◌<◌, ◌==◌, nat_le, Bool, ◌&&◌, List, [], ◌∷◌, Option, Some, None, Result, Ok, Err, slice_get, if◌then◌else◌}
use Rattle.dw_base.specs.declared.address.Address.{Address}
use Rattle.dw_base.specs.declared.ids.FileId.{FileId}
use Rattle.dw_base.specs.LineMachine.{Registers}
use Rattle.dw_line.specs.LineRows.{last_offset}
use Rattle.dw_line.specs.Programs.{SequenceValue}
use Rattle.dw_line.specs.RawRows.{base_of}
use Rattle.dw_line.specs.declared.row.LineRow.{LineRow}
use Rattle.dw_sources.specs.declared.convert_error.ConvertError.{ConvertError}
use Rattle.dw_sources.specs.declared.convert_error.ConvertError.TheVariants.{InvalidFileIndex, UnsupportedLineProgram}
use Rattle.dw_convert_lines.specs.ReadRows.{ReadSequence}
use Rattle.dw_convert_lines.specs.Results.{◌=>◌}

-- the file of a number, which has to be in the list
abbrev pub found_file : Option FileId → Result FileId ConvertError
found_file None = Err InvalidFileIndex
found_file (Some f) = Ok f

-- up to version 4 files are counted from 1, and the first of the ids stands for none
abbrev pub file_among : ℕ → List FileId → ℕ → Result FileId ConvertError
file_among version ids n = if nat_le version 4 && (n == 0) then Err InvalidFileIndex else found_file (slice_get ids n)

-- offsets count from the base, don't fall, and are multiples of the target's minimum length
abbrev pub is_offset : ℕ → ℕ → ℕ → ℕ → Bool
is_offset minimum base before address = nat_le base address && nat_le before (address - base) && ((address - base) % minimum == 0)

-- the offset of an address after the one before it
abbrev pub offset_image : ℕ → ℕ → ℕ → ℕ → Result ℕ ConvertError
offset_image minimum base before address = if is_offset minimum base before address then Ok (address - base) else Err UnsupportedLineProgram

-- what the registers become as a row of a file at an offset
abbrev pub row_of : Registers → FileId → ℕ → LineRow
row_of r file offset = record {
  address_offset = offset;
  file = file;
  line = r.line;
  column = r.column;
  discriminator = r.discriminator;
  is_statement = r.is_statement;
  basic_block = r.basic_block;
  prologue_end = r.prologue_end;
  epilogue_begin = r.epilogue_begin;
  isa = r.isa;
}

-- the address that a sequence is begun with: what the caller answers for the one that was read
abbrev pub AddressImage : (ℕ → Option Address → Type 0) → Option ℕ → Option Address → Type 0
AddressImage answers None None = Unit {0}
AddressImage answers (Some n) (Some a) = answers n (Some a)
AddressImage answers None (Some a) = ⊥
AddressImage answers (Some n) None = ⊥

-- every number that has a file has one of so many
abbrev pub AreFiles : ℕ → List FileId → ℕ → Type 0
AreFiles version ids count = (n : ℕ) (f : FileId) → file_among version ids n ≡ Ok f → f.0 < count

-- A program of a version whose files have these ids becomes one of a minimum length.
module _ (version : ℕ) (ids : List FileId) (minimum : ℕ) where
  -- a row after one of an offset
  abbrev pub row_image : ℕ → ℕ → Registers → Result LineRow ConvertError
  row_image base before r = file_among version ids r.file => λ file. offset_image minimum base before r.address => λ offset. Ok (row_of r file offset)

  abbrev pub AreRowImages : ℕ → ℕ → List Registers → List LineRow → Type 0
  AreRowImages base before [] [] = Unit {0}
  AreRowImages base before (r ∷ rs) (x ∷ xs) = (row_image base before r ≡ Ok x) × AreRowImages base x.address_offset rs xs
  AreRowImages base before [] (x ∷ xs) = ⊥
  AreRowImages base before (r ∷ rs) [] = ⊥

  module _ (answers : ℕ → Option Address → Type 0) where
    pub record IsSequenceImage (s : ReadSequence) (x : SequenceValue) : Type 0 where
      pub address : AddressImage answers s.base x.address
      pub rows : AreRowImages (base_of s.base) 0 s.rows x.rows
      pub end : offset_image minimum (base_of s.base) (last_offset 0 x.rows) s.end ≡ Ok x.end

    -- each sequence becomes the one of its place
    abbrev pub AreSequenceImages : List ReadSequence → List SequenceValue → Type 0
    AreSequenceImages [] [] = Unit {0}
    AreSequenceImages (s ∷ ss) (x ∷ xs) = IsSequenceImage s x × AreSequenceImages ss xs
    AreSequenceImages [] (x ∷ xs) = ⊥
    AreSequenceImages (s ∷ ss) [] = ⊥
