-- Instructions and advances, worked by hand from the tables of the standard (DWARF 5, 6.4.2 and 7.24).
use Rattle.std.specs.Prelude.{◌≡◌, ℕ, Some, None, refl, pos, negsuc, false, [], ◌∷◌}
use Rattle.dw_base.specs.declared.common.Register.{Register}
use Rattle.dw_frame_instructions.specs.declared.instruction.CallFrameInstruction.TheVariants.{Cfa, CfaOffset, Restore, Offset, ValOffset}
use Rattle.dw_frame_instructions.specs.Factors.{factored}
use Rattle.dw_frame_instructions.specs.Operands.{Nothing, Uleb, Sleb}
use Rattle.dw_frame_instructions.specs.Instructions.{spell, spelled}
use Rattle.dw_frame_instructions.specs.Advances.{delta, delta_piece}
use Rattle.dw_base.specs.Leb128.{uleb, uleb_groups, sleb, sleb_groups}
use Rattle.dw_base.specs.Numbers.{num}
use Rattle.dw_base.specs.declared.address.Address.TheVariants.{Constant}
use Rattle.dw_base.specs.declared.common.Format.TheVariants.{Dwarf32}
use Rattle.dw_writer.specs.SectionTexts.{address_text, offset_text}
use Rattle.dw_writer.specs.Texts.{Text, followed, num_text}
use Rattle.dw_frame.specs.declared.cie.CommonInformationEntry.{CommonInformationEntry}
use Rattle.dw_frame.specs.declared.fde.FrameDescriptionEntry.{FrameDescriptionEntry}
use Rattle.dw_frame.specs.declared.kind.FrameKind.{FrameKind}
use Rattle.dw_frame.specs.declared.kind.FrameKind.TheVariants.{Debug, Eh}
use Rattle.dw_frame_instructions.specs.Pieces.{both}
use Rattle.dw_frame.specs.Parts.{in_turn}
use Rattle.dw_frame.specs.Entries.{with_length}
use Rattle.dw_frame.specs.Reading.{at_zero}
use Rattle.dw_frame.specs.Tables.{frames_part}

abbrev register : ℕ → Register
register n = record { 0 = n }

-- 16 below the register 7, where the factor is -8: 12 07 02
cfa_below : spelled (negsuc 7) (Cfa (register 7) (negsuc 15)) ≡ Some (spell 0x12 (Uleb 7) (Sleb (pos 2)))
cfa_below = refl

-- an offset of the frame that isn't below zero is no multiple of a factor: 0e 03
cfa_offset_above : spelled (negsuc 7) (CfaOffset (pos 3)) ≡ Some (spell 0x0e (Uleb 3) Nothing)
cfa_offset_above = refl

-- the last register with a code of its own, and the next: ff, and 06 40
restore_small : spelled (pos 1) (Restore (register 63)) ≡ Some (spell 0xff Nothing Nothing)
restore_small = refl

restore_large : spelled (pos 1) (Restore (register 64)) ≡ Some (spell 0x06 (Uleb 64) Nothing)
restore_large = refl

-- the register 16 saved 8 below the frame's address: 90 01
offset_small : spelled (negsuc 7) (Offset (register 16) (negsuc 7)) ≡ Some (spell 0x90 (Uleb 1) Nothing)
offset_small = refl

-- 8 above it: 15 10 7f
value_above : spelled (negsuc 7) (ValOffset (register 16) (pos 8)) ≡ Some (spell 0x15 (Uleb 16) (Sleb (negsuc 0)))
value_above = refl

-- what no factor divides
odd : factored (negsuc 7) (pos 12) ≡ None
odd = refl

by_zero : factored (pos 0) (pos 8) ≡ None
by_zero = refl

lowest : factored (negsuc 0) (negsuc 0x7fffffff) ≡ None
lowest = refl

-- 130 bytes by a factor of 2: 02 41; a way back has no advance
advance : delta 2 22 152 ≡ Some 65
advance = refl

back : delta 1 4 3 ≡ None
back = refl

advance_text : (delta_piece 63).size ≡ 1
advance_text = refl

-- One FDE of the CIE of version 1 with the factors 1 and 8 and the column 16, where addresses have 8 bytes

abbrev small_cie : CommonInformationEntry → CommonInformationEntry
small_cie c = record c {
  encoding = record { address_size = 8; format = Dwarf32; version = 1 };
  code_alignment_factor = 1;
  data_alignment_factor = pos 8;
  return_address_register = register 16;
  personality = None;
  lsda_encoding = None;
  fde_address_encoding = record { 0 = 0 };
  signal_trampoline = false;
}

abbrev small_fde : FrameDescriptionEntry → FrameDescriptionEntry
small_fde f = record f { address = Constant 0x1000; length = 0x10; lsda = None }

unfoldable small_text : FrameKind → CommonInformationEntry → FrameDescriptionEntry → Text
small_text kind c f = (frames_part kind (small_cie c ∷ []) ((record { 0 = 0 }, small_fde f) ∷ []) 0).piece.text false at_zero

debug_text : (c : CommonInformationEntry) (f : FrameDescriptionEntry) → c.instructions.items ≡ [] → f.steps.items ≡ [] → small_text Debug c f ≡ Some (
    0x0c ∷ 0 ∷ 0 ∷ 0 ∷ 0xff ∷ 0xff ∷ 0xff ∷ 0xff ∷ 1 ∷ 0 ∷ 1 ∷ 8 ∷ 0x10 ∷ 0 ∷ 0 ∷ 0
    ∷ 0x14 ∷ 0 ∷ 0 ∷ 0 ∷ 0 ∷ 0 ∷ 0 ∷ 0 ∷ 0 ∷ 0x10 ∷ 0 ∷ 0 ∷ 0 ∷ 0 ∷ 0 ∷ 0 ∷ 0x10 ∷ 0 ∷ 0 ∷ 0 ∷ 0 ∷ 0 ∷ 0 ∷ 0 ∷ [])
unfolding small_text in_turn both with_length followed num num_text uleb uleb_groups sleb sleb_groups address_text offset_text
debug_text c f h k = rw (h, k) refl

unwinding_text : (c : CommonInformationEntry) (f : FrameDescriptionEntry) → c.instructions.items ≡ [] → f.steps.items ≡ [] → small_text Eh c f ≡ Some (
    0x0c ∷ 0 ∷ 0 ∷ 0 ∷ 0 ∷ 0 ∷ 0 ∷ 0 ∷ 1 ∷ 0 ∷ 1 ∷ 8 ∷ 0x10 ∷ 0 ∷ 0 ∷ 0
    ∷ 0x14 ∷ 0 ∷ 0 ∷ 0 ∷ 0x14 ∷ 0 ∷ 0 ∷ 0 ∷ 0 ∷ 0x10 ∷ 0 ∷ 0 ∷ 0 ∷ 0 ∷ 0 ∷ 0 ∷ 0x10 ∷ 0 ∷ 0 ∷ 0 ∷ 0 ∷ 0 ∷ 0 ∷ 0 ∷ [])
unfolding small_text in_turn both with_length followed num num_text uleb uleb_groups sleb sleb_groups address_text
unwinding_text c f h k = rw (h, k) refl
