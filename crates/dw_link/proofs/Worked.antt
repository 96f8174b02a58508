-- Worked rows: sets with literal bytes, and what becomes of them.
use Rattle.std.specs.Prelude.{◌≡◌, ℕ, false, List, [], ◌∷◌, Option, Some, None, ℤ, pos, negsuc, refl}
use Rattle.dw_base.specs.Numbers.{num}
use Rattle.dw_base.specs.declared.constants.DwEhPe.{DwEhPe}
use Rattle.dw_base.specs.declared.section_id.SectionId.TheVariants.{DebugStr, DebugInfo, DebugMacinfo, EhFrame}
use Rattle.dw_writer.specs.Texts.{int_text, num_text, patched}
use Rattle.dw_writer.specs.SignedNumbers.{signed_num}
use Rattle.dw_writer.specs.Pointers.{signed_text, formatted, pointer_text}
use Rattle.dw_writer.specs.Resolved.{number_at_place, sum_text, record_text, put_record}
use Rattle.dw_writer.specs.Meaning.{Meaning}
use Rattle.dw_writer.specs.Layout.{Layout}
use Rattle.dw_writer.specs.declared.relocate.Relocation.{Relocation}
use Rattle.dw_writer.specs.declared.relocate.RelocationTarget.{RelocationTarget}
use Rattle.dw_writer.specs.declared.relocate.RelocationTarget.TheVariants.{Symbol, Section}
use Rattle.dw_link.specs.declared.fault.Fault.TheVariants.{PointerEncoding, RecordOutOfPlace, UnknownSymbol, UnknownSection, ValueTooLarge}
use Rattle.dw_link.specs.Faults.{fault_of}
use Rattle.dw_link.specs.Sets.{Parts, join}

-- what a relocating vector of these bytes holds
abbrev part : List ℕ → List Relocation → Meaning
part bytes records = record { bytes = Some bytes; size = 0; is_big = false; is_plain = false; records = records; faults = 0 }

abbrev relocation : ℕ → ℕ → RelocationTarget → ℤ → Option DwEhPe → Relocation
relocation place w target addend encoding = record { offset = place; size = w; target = target; addend = addend; eh_pe = encoding }

-- a string of two bytes, and in `.debug_info` its place and a symbol's value less two
abbrev strings : Parts
strings DebugStr = Some (part (0x61 ∷ 0 ∷ []) [])
strings DebugInfo = Some (part (0x10 ∷ 0 ∷ 0 ∷ []) (relocation 0 1 (Section DebugStr) (pos 1) None ∷ relocation 1 2 (Symbol 0) (negsuc 1) None ∷ []))
strings _ = None

joined_strings : join false (strings ∷ strings ∷ []) (0x304 ∷ []) DebugInfo ≡ Some (0x11 ∷ 0x02 ∷ 0x03 ∷ 0x13 ∷ 0x02 ∷ 0x03 ∷ [])
unfolding join put_record record_text sum_text int_text num_text num number_at_place patched
joined_strings = refl

-- eight bytes of which the last four are a pointer to a symbol, counted from its own place
abbrev frame : Parts
frame EhFrame = Some (part (0 ∷ 0 ∷ 0 ∷ 0 ∷ 0 ∷ 0 ∷ 0 ∷ 0 ∷ []) (relocation 4 4 (Symbol 0) (pos 0) (Some (record { 0 = 0x1b })) ∷ []))
frame _ = None

joined_frames : join false (frame ∷ frame ∷ []) (0x1000 ∷ []) EhFrame ≡
    Some (0 ∷ 0 ∷ 0 ∷ 0 ∷ 0xfc ∷ 0x0f ∷ 0 ∷ 0 ∷ 0 ∷ 0 ∷ 0 ∷ 0 ∷ 0xf4 ∷ 0x0f ∷ 0 ∷ 0 ∷ [])
unfolding join put_record record_text sum_text pointer_text formatted signed_text signed_num num number_at_place patched
joined_frames = refl

-- six bytes of a set whose sections start at 0, without symbols
abbrev six : List ℕ
six = 0 ∷ 0 ∷ 0 ∷ 0 ∷ 0 ∷ 0 ∷ []

abbrev alone : Layout
alone = record { starts = 0 ∷ 0 ∷ 0 ∷ 0 ∷ 0 ∷ 0 ∷ 0 ∷ 0 ∷ 0 ∷ 0 ∷ 0 ∷ []; own_start = 0; symbols = [] }

past_the_end : fault_of false alone six (relocation 4 4 (Section DebugInfo) (pos 0) None) ≡ Some RecordOutOfPlace
unfolding fault_of
past_the_end = refl

unknown_section : fault_of false alone six (relocation 0 4 (Section DebugMacinfo) (pos 0) None) ≡ Some UnknownSection
unfolding fault_of
unknown_section = refl

unknown_symbol : fault_of false alone six (relocation 0 4 (Symbol 0) (pos 0) None) ≡ Some UnknownSymbol
unfolding fault_of
unknown_symbol = refl

too_large : fault_of false alone six (relocation 0 1 (Section DebugInfo) (pos 256) None) ≡ Some ValueTooLarge
unfolding fault_of record_text sum_text int_text num_text number_at_place
too_large = refl

just_fits : fault_of false alone six (relocation 5 1 (Section DebugInfo) (pos 255) None) ≡ None
unfolding fault_of record_text sum_text int_text num_text number_at_place
just_fits = refl

wrong_width : fault_of false alone six (relocation 0 8 (Symbol 0) (pos 0) (Some (record { 0 = 0x1b }))) ≡ Some PointerEncoding
unfolding fault_of
wrong_width = refl
