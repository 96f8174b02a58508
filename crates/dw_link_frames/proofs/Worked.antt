-- Worked rows: two tables, each with a CIE of 24 bytes and an FDE whose address is a symbol, where symbol 0 is 0x1000 and
-- symbol 1 is 0x2000.
use Rattle.std.specs.Prelude.{◌≡◌, ℕ, List, [], ◌∷◌, Some, false, refl, pos, negsuc}
use Rattle.dw_base.specs.Numbers.{num}
use Rattle.dw_base.specs.declared.address.Address.TheVariants.{Constant, Symbol}
use Rattle.dw_base.specs.declared.common.Format.TheVariants.{Dwarf32}
use Rattle.dw_writer.specs.SectionTexts.{eh_pointer_text, offset_text}
use Rattle.dw_writer.specs.SignedNumbers.{signed_num}
use Rattle.dw_writer.specs.Pointers.{constant_pointer, data_text, signed_text}
use Rattle.dw_writer.specs.Texts.{num_text}
use Rattle.dw_frame.specs.declared.kind.FrameKind.TheVariants.{Debug, Eh}
use Rattle.dw_frame.specs.Fdes.{cie_pointer}
use Rattle.dw_frame.specs.PointerParts.{pointer}
use Rattle.dw_frame.specs.Reading.{at_zero}
use Rattle.dw_link_frames.specs.Numbered.{numbered}

abbrev symbols : List ℕ
symbols = 0x1000 ∷ 0x2000 ∷ []

-- an addend is added; what has no value, or falls below zero, stays
adds : numbered symbols (Symbol 1 (pos 4)) ≡ Constant 0x2004
adds = refl

subtracts : numbered symbols (Symbol 1 (negsuc 15)) ≡ Constant 0x1ff0
subtracts = refl

unknown : numbered symbols (Symbol 2 (pos 0)) ≡ Symbol 2 (pos 0)
unknown = refl

below_zero : numbered symbols (Symbol 0 (negsuc 0x1000)) ≡ Symbol 0 (negsuc 0x1000)
below_zero = refl

-- `.eh_frame`: the address of the first FDE stands at 32, that of the second at 80
first_address : (pointer 8 0x1b (numbered symbols (Symbol 0 (pos 0))) 32).piece.text false at_zero ≡ Some (0xe0 ∷ 0x0f ∷ 0 ∷ 0 ∷ [])
unfolding eh_pointer_text constant_pointer data_text signed_text signed_num num
first_address = refl

second_address : (pointer 8 0x1b (numbered symbols (Symbol 1 (pos 0))) 80).piece.text false at_zero ≡ Some (0xb0 ∷ 0x1f ∷ 0 ∷ 0 ∷ [])
unfolding eh_pointer_text constant_pointer data_text signed_text signed_num num
second_address = refl

-- the fields of the second FDE in `.eh_frame`, where its CIE stands at 48, and in `.debug_frame`, where it stands at 40
second_distance : (cie_pointer Eh Dwarf32 48 76).piece.text false at_zero ≡ Some (0x1c ∷ 0 ∷ 0 ∷ 0 ∷ [])
unfolding num_text num
second_distance = refl

second_offset : (cie_pointer Debug Dwarf32 40 60).piece.text false at_zero ≡ Some (0x28 ∷ 0 ∷ 0 ∷ 0 ∷ [])
unfolding offset_text num_text num
second_offset = refl
