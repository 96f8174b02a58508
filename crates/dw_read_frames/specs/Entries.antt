-- The entries of call frame sections, with the reason where one can't be read (DWARF 5, 6.4.1; Linux Standard Base Core 5.0, 10.6.1).
use Rattle.std.specs.Prelude.{ℕ, ◌+◌, ◌-◌, Bool, List, length, Option, Some, None, Result, Ok, Err}
use Rattle.std.specs.Result.{result_ok}
use Rattle.dw_base.specs.Numbers.{Parser}
use Rattle.dw_base.specs.declared.common.Format.{Format}
use Rattle.dw_read.specs.Reading.{Read}
use Rattle.dw_read.specs.Reasons.{◌=>>◌, bytes_read}
use Rattle.dw_read.specs.declared.error.ReadError.{ReadError}
use Rattle.dw_read.specs.declared.error.ReadError.TheVariants.{InvalidCiePointer}
use Rattle.dw_read_frames.specs.Augmentations.{standing}
use Rattle.dw_read_frames.specs.Heads.{Head, head_read}
use Rattle.dw_read_frames.specs.Cies.{fields_read}
use Rattle.dw_read_frames.specs.declared.cie.CieFields.{CieFields}

-- a CIE with the bytes of its instructions, or an FDE: its format, the place of its CIE and the bytes behind that field
pub data Entry : Type 0 where
  Cie : CieFields → List ℕ → Entry
  Fde : Format → ℕ → List ℕ → Entry

-- an entry that begins so and goes on to an end
abbrev pub owned_read : Bool → Bool → ℕ → ℕ → Format → List ℕ → Option ℕ → Read (Option Entry)
owned_read eh big size end format body None bytes = fields_read eh big size format end body =>> λ f. Ok (Some (Cie f.0 f.1), bytes)
owned_read eh big size end format body (Some cie) bytes = Ok (Some (Fde format cie body), bytes)

abbrev pub begun_read : Bool → Bool → ℕ → ℕ → Option Head → Read (Option Entry)
begun_read eh big size end None bytes = Ok (None, bytes)
begun_read eh big size end (Some h) bytes = owned_read eh big size end h.format h.body h.cie bytes

-- the entry at a place, or the zero length that ends `.eh_frame`
unfoldable pub entry_read : Bool → Bool → ℕ → ℕ → Read (Option Entry)
entry_read eh big size at bytes = head_read eh big at bytes =>> λ h. begun_read eh big size (at + (length bytes - length h.1)) h.0 h.1

-- the grammar of entries
unfoldable pub entry_at : Bool → Bool → ℕ → ℕ → Parser (Option Entry)
entry_at eh big size at bytes = result_ok (entry_read eh big size at bytes)

-- an entry that is to be a CIE
abbrev pub cie_or : ReadError → Option Entry → Result (CieFields × List ℕ) ReadError
cie_or e (Some (Cie f instructions)) = Ok (f, instructions)
cie_or e x = Err e

-- the CIE at an offset of a section that begins at a place
unfoldable pub cie_at_read : Bool → Bool → ℕ → ℕ → ℕ → List ℕ → Result (CieFields × List ℕ) ReadError
cie_at_read eh big size at offset bytes = bytes_read offset bytes =>> λ b. entry_read eh big size (at + offset) b.1 =>> λ e. cie_or (InvalidCiePointer offset) e.0

-- the place where the entry at an offset ends, in a section that goes on to an end
unfoldable pub end_at_read : Bool → Bool → ℕ → ℕ → ℕ → ℕ → List ℕ → Result ℕ ReadError
end_at_read eh big size at offset end bytes = bytes_read offset bytes =>> λ b. entry_read eh big size (at + offset) b.1 =>> λ e. Ok (standing end e.1)
