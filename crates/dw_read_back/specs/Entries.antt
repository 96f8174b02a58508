-- Entries of call frame sections that are written, and what they are read as (DWARF 5, 6.4.1; Linux Standard Base Core 5.0, 10.6).
use Rattle.std.specs.Prelude.{◌≡◌, ℕ, ◌+◌, ◌^◌, ◌<◌, ◌≤◌, Bool, true, false, List, ◌++◌, length, Option, Some, None, Ok, if◌then◌else◌}
use Rattle.std.specs.Option.{option_map}
use Rattle.dw_base.specs.declared.address.Address.{Address}
use Rattle.dw_base.specs.declared.address.Address.TheVariants.{Constant}
use Rattle.dw_base.specs.declared.constants.DwEhPe.{DwEhPe}
use Rattle.dw_writer.specs.Texts.{Text, zeros}
use Rattle.dw_frame.specs.declared.cie.CommonInformationEntry.{CommonInformationEntry}
use Rattle.dw_frame.specs.declared.fde.FrameDescriptionEntry.{FrameDescriptionEntry}
use Rattle.dw_frame.specs.declared.kind.FrameKind.{FrameKind}
use Rattle.dw_frame.specs.Cies.{is_augmented, has_encoding, cie_part}
use Rattle.dw_frame.specs.Fdes.{fde_part}
use Rattle.dw_frame_instructions.specs.Programs.{instructions_piece, program_piece}
use Rattle.dw_frame.specs.ReadCies.{IsRangedCie}
use Rattle.dw_frame.specs.Reading.{at_zero, IsRanged}
use Rattle.dw_read_frames.specs.Entries.{Cie, Fde, entry_at}
use Rattle.dw_read_frames.specs.Fdes.{fde_read}
use Rattle.dw_read_frames.specs.declared.augmentation.Augmentation.{Augmentation}
use Rattle.dw_read_frames.specs.declared.cie.CieFields.{CieFields}
use Rattle.dw_read_frames.specs.declared.fde.FdeFields.{FdeFields}
use Rattle.dw_read_back.specs.Heads.{is_eh}

-- the same routine for exceptions, behind the same encoding
abbrev pub IsRoutine : Option (DwEhPe × Address) → Option (DwEhPe × ℕ) → Type 0
IsRoutine None None = Unit {0}
IsRoutine (Some p) (Some q) = (q.0 ≡ p.0) × (p.1 ≡ Constant q.1)
IsRoutine o r = ⊥

-- what the letters of an augmentation say is what a CIE has beyond DWARF's own fields
pub record Says (c : CommonInformationEntry) (a : Augmentation) : Type 0 where
  pub lsda : a.lsda ≡ c.lsda_encoding
  pub personality : IsRoutine c.personality a.personality
  pub addresses : a.fde_address_encoding ≡ (if has_encoding c then Some c.fde_address_encoding else None)
  pub signal : a.is_signal_trampoline ≡ c.signal_trampoline

-- there is an augmentation where the CIE has anything beyond them
abbrev pub IsSaid : CommonInformationEntry → Option Augmentation → Type 0
IsSaid c None = is_augmented c ≡ false
IsSaid c (Some a) = (is_augmented c ≡ true) × Says c a

-- fields that were read are those of a CIE that was built
pub record AreFields (c : CommonInformationEntry) (f : CieFields) : Type 0 where
  pub encoding : f.encoding ≡ c.encoding
  pub augmentation : IsSaid c f.augmentation
  pub code_factor : f.code_alignment_factor ≡ c.code_alignment_factor
  pub data_factor : f.data_alignment_factor ≡ c.data_alignment_factor
  pub register : f.return_address_register ≡ c.return_address_register

-- a program, and zeros behind it
pub record IsPadded (program : Text) (bytes : List ℕ) : Type 0 where
  pub text : List ℕ
  pub padding : ℕ
  pub is : program ≡ Some text
  pub whole : bytes ≡ text ++ zeros padding

-- These bytes at a place are read as the CIE, whatever follows them, where an address has so many bytes on the target.
pub record ReadsCieBack (kind : FrameKind) (big : Bool) (c : CommonInformationEntry) (size at : ℕ) (bytes : List ℕ) : Type 0 where
  pub fields : CieFields
  pub instructions : List ℕ
  pub read : (rest : List ℕ) → entry_at (is_eh kind) big size at (bytes ++ rest) ≡ Some (Some (Cie fields instructions), rest)
  pub are : AreFields c fields
  pub program : IsPadded ((instructions_piece c.encoding c.data_alignment_factor c.instructions.items).text big at_zero) instructions

-- a section tells of the target what version 4 tells of itself: how many bytes an address has
abbrev pub KnowsSize : ℕ → CommonInformationEntry → Type 0
KnowsSize size c = (c.encoding.version ≡ 4 → ⊥) → size ≡ c.encoding.address_size

-- a CIE that is written is read back
abbrev pub CieReadsBack : FrameKind → CommonInformationEntry → Type 0
CieReadsBack kind c =
    (big : Bool) (size at : ℕ) (bytes : List ℕ) → KnowsSize size c → IsRangedCie c → c.return_address_register.0 < 2 ^ 16 →
    (cie_part kind c at).piece.text big at_zero ≡ Some bytes → ReadsCieBack kind big c size at bytes

-- These bytes at a place are read as an FDE that leads to the place of its CIE, whatever follows them. By fields that are those of
-- its CIE they are read as the FDE.
pub record ReadsFdeBack (kind : FrameKind) (big : Bool) (c : CommonInformationEntry) (f : FrameDescriptionEntry) (cie at : ℕ) (bytes : List ℕ) : Type 0 where
  pub body : List ℕ
  pub fields : FdeFields
  pub instructions : List ℕ
  pub entry : (size : ℕ) (rest : List ℕ) → entry_at (is_eh kind) big size at (bytes ++ rest) ≡ Some (Some (Fde c.encoding.format cie body), rest)
  pub read : (d : CieFields) → AreFields c d → fde_read big d (at + length bytes) body ≡ Ok (fields, instructions)
  pub address : f.address ≡ Constant fields.initial_address
  pub length : fields.length ≡ f.length
  pub lsda : f.lsda ≡ option_map Constant fields.lsda
  pub program : IsPadded ((program_piece c.encoding c.code_alignment_factor c.data_alignment_factor 0 f.steps.items).text big at_zero) instructions

-- an FDE that is written, behind its CIE, is read back
abbrev pub FdeReadsBack : FrameKind → CommonInformationEntry → FrameDescriptionEntry → Type 0
FdeReadsBack kind c f =
    (big : Bool) (cie at : ℕ) (bytes : List ℕ) → cie ≤ at → IsRanged f →
    (fde_part kind cie c f at).piece.text big at_zero ≡ Some bytes → ReadsFdeBack kind big c f cie at bytes
