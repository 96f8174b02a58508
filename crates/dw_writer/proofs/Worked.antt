-- What records put in their places, and a reference that is filled in.
use Rattle.std.proofs.Common.{◌≡◌, ℕ, [], ◌∷◌, Some, None, true, false, refl}
use Rattle.std.specs.Prelude.{pos, negsuc}
use Rattle.dw_base.specs.declared.section_id.SectionId.TheVariants.{DebugStr}
use Rattle.dw_base.specs.Numbers.{num}
use Rattle.dw_writer.specs.Texts.{num_text, int_text, patched}
use Rattle.dw_writer.specs.SignedNumbers.{signed_num}
use Rattle.dw_writer.specs.Pointers.{signed_text, formatted, pointer_text}
use Rattle.dw_writer.specs.Layout.{Layout}
use Rattle.dw_writer.specs.Resolved.{sum_text, record_text}
use Rattle.dw_writer.specs.Drafts.{reference, open_text, filled}
use Rattle.dw_writer.specs.declared.relocate.Relocation.{Relocation}
use Rattle.dw_writer.specs.declared.relocate.RelocationTarget.TheVariants.{Symbol, Section}

-- the second of two parts of a section, the symbols 0x1000, 0x10 and 2 ^ 63, and strings from 0x20 on
abbrev sections : Layout
sections = record { starts = 0 ∷ 0x20 ∷ []; own_start = 0x30; symbols = 0x1000 ∷ 0x10 ∷ 0x8000_0000_0000_0000 ∷ [] }

abbrev pointer : ℕ → ℕ → ℕ → Relocation
pointer symbol size encoding = record { offset = 0x20; size = size; target = Symbol symbol; addend = pos 0; eh_pe = Some (record { 0 = encoding }) }

-- a number is the sum of what stands there, the addend and the target's value
sum : record_text true sections (record { offset = 0; size = 2; target = Symbol 0; addend = negsuc 1; eh_pe = None }) 3 ≡ Some (0x10 ∷ 0x01 ∷ [])
unfolding record_text sum_text int_text num_text num
sum = refl

offset : record_text false sections (record { offset = 0; size = 4; target = Section DebugStr; addend = pos 5; eh_pe = None }) 0 ≡ Some (0x25 ∷ 0 ∷ 0 ∷ 0 ∷ [])
unfolding record_text sum_text int_text num_text num
offset = refl

below-zero : record_text true sections (record { offset = 0; size = 8; target = Symbol 1; addend = negsuc 0x10; eh_pe = None }) 0 ≡ None
unfolding record_text sum_text int_text
below-zero = refl

-- absptr is the address, in as many bytes as the record has
absolute : record_text false sections (pointer 0 2 0x00) 0 ≡ Some (0x00 ∷ 0x10 ∷ [])
unfolding record_text sum_text pointer_text formatted num_text num
absolute = refl

-- pcrel with sdata4, from the place 0x50; with the bit of indirect too
from_place : record_text false sections (pointer 0 4 0x1b) 0 ≡ Some (0xb0 ∷ 0x0f ∷ 0x00 ∷ 0x00 ∷ [])
unfolding record_text sum_text pointer_text formatted signed_text signed_num num
from_place = refl

back_from_place : record_text true sections (pointer 1 4 0x9b) 0 ≡ Some (0xff ∷ 0xff ∷ 0xff ∷ 0xc0 ∷ [])
unfolding record_text sum_text pointer_text formatted signed_text signed_num num
back_from_place = refl

-- what udata4 can't hold, another width, another application, and a section's start
back-unsigned : record_text true sections (pointer 1 4 0x13) 0 ≡ None
unfolding record_text sum_text pointer_text formatted num_text
back-unsigned = refl

other-width : record_text true sections (pointer 0 8 0x1b) 0 ≡ None
unfolding record_text sum_text pointer_text formatted
other-width = refl

other-application : record_text true sections (pointer 0 4 0x2b) 0 ≡ None
unfolding record_text sum_text pointer_text
other-application = refl

pointer-to_section : record_text true sections (record { offset = 0; size = 4; target = Section DebugStr; addend = pos 0; eh_pe = Some (record { 0 = 0x1b }) }) 0 ≡ None
unfolding record_text sum_text
pointer-to_section = refl

-- a reference to an entry at 0x0b: zeros, and then its place
left-open : open_text (reference 4 (record { 0 = 0 }) (record { 0 = 1 })) false sections ≡ Some (0 ∷ 0 ∷ 0 ∷ 0 ∷ [])
unfolding num_text num
left-open = refl

filled-in : filled false (λ unit entry. Some 0x0b) (reference 4 (record { 0 = 0 }) (record { 0 = 1 })).holes (Some (0 ∷ 0 ∷ 0 ∷ 0 ∷ [])) ≡ Some (0x0b ∷ 0 ∷ 0 ∷ 0 ∷ [])
unfolding num_text num patched
filled-in = refl
