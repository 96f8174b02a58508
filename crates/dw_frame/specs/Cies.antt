-- Common information entries (DWARF 5, 6.4.1; Linux Standard Base Core 5.0, 10.6.1.1).
use Rattle.std.specs.Prelude.{◌≡◌, ℕ, Bool, true, false, not, ◌&&◌, ◌||◌, ◌==◌, List, [], ◌∷◌, Option, Some, None, is_some, if◌then◌else◌}
use Rattle.dw_base.specs.Leb128.{uleb, sleb}
use Rattle.dw_base.specs.declared.address.Address.{Address}
use Rattle.dw_base.specs.declared.common.Format.{Format}
use Rattle.dw_base.specs.declared.common.Format.TheVariants.{Dwarf32, Dwarf64}
use Rattle.dw_base.specs.declared.constants.DwEhPe.{DwEhPe}
use Rattle.dw_base.specs.declared.error.Error.{Error}
use Rattle.dw_base.specs.declared.error.Error.TheVariants as errors
use Rattle.dw_frame.specs.declared.cie.CommonInformationEntry.{CommonInformationEntry}
use Rattle.dw_frame.specs.declared.kind.FrameKind.{FrameKind}
use Rattle.dw_frame.specs.declared.kind.FrameKind.TheVariants.{Debug, Eh}
use Rattle.dw_frame_instructions.specs.Pieces.{Piece, missing, bytes, both}
use Rattle.dw_frame.specs.Parts.{Placed, free, caused, only_if, in_turn, numbered}
use Rattle.dw_frame.specs.PointerParts.{pointer}
use Rattle.dw_frame_instructions.specs.Programs.{instructions_piece, instructions_fail}
use Rattle.dw_frame.specs.Entries.{entry, counted}

-- the same in each field, and in each instruction
pub record IsSameCie (c d : CommonInformationEntry) : Type 0 where
  pub fields : c ≡ record d { instructions = c.instructions }
  pub instructions : c.instructions.items ≡ d.instructions.items

-- what tells a CIE from an FDE: a word of ones, or four zeros
abbrev pub cie_id : FrameKind → Format → List ℕ
cie_id Debug Dwarf32 = 0xff ∷ 0xff ∷ 0xff ∷ 0xff ∷ []
cie_id Debug Dwarf64 = 0xff ∷ 0xff ∷ 0xff ∷ 0xff ∷ 0xff ∷ 0xff ∷ 0xff ∷ 0xff ∷ []
cie_id Eh format = 0 ∷ 0 ∷ 0 ∷ 0 ∷ []

-- the number that a reader finds there
abbrev pub cie_number : FrameKind → Format → ℕ
cie_number Debug Dwarf32 = 0xffff_ffff
cie_number Debug Dwarf64 = 0xffff_ffff_ffff_ffff
cie_number Eh format = 0

-- the versions that a section knows
abbrev pub is_known : FrameKind → ℕ → Bool
is_known Debug v = (v == 1) || ((v == 3) || (v == 4))
is_known Eh v = v == 1

abbrev pub version_fails : FrameKind → ℕ → Error → Bool
version_fails kind v (errors.UnsupportedVersion n) = (n == v) && not (is_known kind v)
version_fails kind v err = false

abbrev pub version_part : FrameKind → ℕ → Placed
version_part kind v = if is_known kind v then free (bytes (v ∷ [])) else caused missing (version_fails kind v)

-- FDEs have their addresses in another encoding than an absolute pointer's
abbrev pub has_encoding : CommonInformationEntry → Bool
has_encoding c = not (c.fde_address_encoding.0 == 0)

-- whether there is anything beyond DWARF's own fields
abbrev pub is_augmented : CommonInformationEntry → Bool
is_augmented c = is_some c.lsda_encoding || (is_some c.personality || (has_encoding c || c.signal_trampoline))

-- a byte, where something holds
abbrev pub byte_if : Bool → ℕ → Piece
byte_if true n = bytes (n ∷ [])
byte_if false n = bytes []

-- "z", and then those of "L", "P", "R" and "S" that hold
abbrev pub letters : CommonInformationEntry → Piece
letters c =
    both (byte_if (is_augmented c) 0x7a) (both (byte_if (is_some c.lsda_encoding) 0x4c) (both (byte_if (is_some c.personality) 0x50)
    (both (byte_if (has_encoding c) 0x52) (both (byte_if c.signal_trampoline 0x53) (bytes (0 ∷ []))))))

-- the bytes of an address and of a segment selector, which there is none of, from version 4 on
abbrev pub sizes : ℕ → ℕ → Piece
sizes v w = if v == 4 then bytes (w ∷ 0 ∷ []) else bytes []

-- the column of the return address, which has one byte in version 1 of `.debug_frame`
abbrev pub has_byte_register : FrameKind → ℕ → Bool
has_byte_register Debug v = v == 1
has_byte_register Eh v = false

abbrev pub register_part : FrameKind → ℕ → ℕ → Placed
register_part kind v r = if has_byte_register kind v then numbered 1 r else free (bytes (uleb r))

-- the encoding of a pointer that there may be
abbrev pub encoding_if : Option DwEhPe → Piece
encoding_if None = bytes []
encoding_if (Some e) = bytes (e.0 ∷ [])

-- the function that handles exceptions, behind the encoding of its pointer
abbrev pub personality_part : ℕ → Option (DwEhPe × Address) → Placed
personality_part w None = free (bytes [])
personality_part w (Some p) = in_turn (free (bytes (p.0.0 ∷ []))) (pointer w p.0.0 p.1)

-- what the letters stand for
abbrev pub cie_data : CommonInformationEntry → Placed
cie_data c =
    in_turn (free (encoding_if c.lsda_encoding)) (in_turn (personality_part c.encoding.address_size c.personality) (free (byte_if (has_encoding c) c.fde_address_encoding.0)))

abbrev pub first_instructions : CommonInformationEntry → Placed
first_instructions c at = record {
  piece = instructions_piece c.encoding c.data_alignment_factor c.instructions.items;
  fails = λ plain. instructions_fail c.encoding c.data_alignment_factor plain c.instructions.items;
}

-- what stands before the factors
abbrev pub cie_head : FrameKind → CommonInformationEntry → Placed
cie_head kind c =
    in_turn (free (bytes (cie_id kind c.encoding.format))) (in_turn (version_part kind c.encoding.version) (in_turn (free (letters c)) (free (sizes c.encoding.version c.encoding.address_size))))

-- the factors, and the column of the return address
abbrev pub cie_measures : FrameKind → CommonInformationEntry → Placed
cie_measures kind c =
    in_turn (free (bytes (uleb c.code_alignment_factor)))
    (in_turn (free (bytes (sleb c.data_alignment_factor))) (register_part kind c.encoding.version c.return_address_register.0))

abbrev pub cie_contents : FrameKind → CommonInformationEntry → Placed
cie_contents kind c =
    in_turn (cie_head kind c) (in_turn (cie_measures kind c) (in_turn (only_if (is_augmented c) (counted (cie_data c))) (first_instructions c)))

-- a CIE in a section
abbrev pub cie_part : FrameKind → CommonInformationEntry → Placed
cie_part kind c = entry c.encoding (cie_contents kind c)
