-- Frame description entries (DWARF 5, 6.4.1; Linux Standard Base Core 5.0, 10.6.1.2).
use Rattle.std.specs.Prelude.{ℕ, ◌-◌, ◌==◌, Bool, true, false, [], Option, Some, None, if◌then◌else◌}
use Rattle.dw_base.specs.Numbers.{word_of}
use Rattle.dw_base.specs.Pointers.{format_of}
use Rattle.dw_base.specs.declared.address.Address.{Address}
use Rattle.dw_base.specs.declared.common.Format.{Format}
use Rattle.dw_base.specs.declared.constants.DwEhPe.{DwEhPe}
use Rattle.dw_base.specs.declared.error.Error.{Error}
use Rattle.dw_base.specs.declared.error.Error.TheVariants as errors
use Rattle.dw_frame.specs.declared.cie.CommonInformationEntry.{CommonInformationEntry}
use Rattle.dw_frame.specs.declared.fde.FrameDescriptionEntry.{FrameDescriptionEntry}
use Rattle.dw_frame.specs.declared.kind.FrameKind.{FrameKind}
use Rattle.dw_frame.specs.declared.kind.FrameKind.TheVariants.{Debug, Eh}
use Rattle.dw_frame.specs.Parts.{Placed, free, caused, refused_if, only_if, in_turn, numbered}
use Rattle.dw_frame_instructions.specs.Pieces.{bytes, missing}
use Rattle.dw_frame.specs.PointerParts.{pointer, address, pointer_data, frame_offset}
use Rattle.dw_frame_instructions.specs.Programs.{program_piece, program_fails}
use Rattle.dw_frame.specs.Entries.{entry, counted}
use Rattle.dw_frame.specs.Cies.{cie_number, has_encoding, is_augmented}

abbrev pub too_large : Error → Bool
too_large errors.ValueTooLarge = true
too_large err = false

-- an offset of a CIE, which can't be the number that tells a CIE
abbrev pub cie_offset : Format → ℕ → Placed
cie_offset format cie = if cie == cie_number Debug format then caused missing too_large else frame_offset (word_of format) cie

-- where the CIE stands: its offset in the section, or how far it stands before this field
abbrev pub cie_pointer : FrameKind → Format → ℕ → Placed
cie_pointer Debug format cie at = cie_offset format cie at
cie_pointer Eh format cie at = numbered 4 (at - cie) at

-- where the function begins, and how many bytes it has
abbrev pub encoded_range : ℕ → ℕ → FrameDescriptionEntry → Placed
encoded_range w encoding f = in_turn (pointer w encoding f.address) (pointer_data w (format_of encoding) f.length)

abbrev pub plain_range : ℕ → FrameDescriptionEntry → Placed
plain_range w f = in_turn (address w f.address) (numbered w f.length)

abbrev pub range_part : CommonInformationEntry → FrameDescriptionEntry → Placed
range_part c f =
    if has_encoding c then encoded_range c.encoding.address_size c.fde_address_encoding.0 f else plain_range c.encoding.address_size f

-- the pointer to the data for the function's language
abbrev pub lsda_part : ℕ → Option DwEhPe → Option Address → Placed
lsda_part w (Some e) (Some a) = pointer w e.0 a
lsda_part w e a = free (bytes [])

-- there is such data without an encoding of its pointer, or the reverse
abbrev pub disagree : Option DwEhPe → Option Address → Bool
disagree None None = false
disagree (Some e) (Some a) = false
disagree e a = true

abbrev pub mismatch : Error → Bool
mismatch errors.LsdaMismatch = true
mismatch err = false

abbrev pub instructions : CommonInformationEntry → FrameDescriptionEntry → Placed
instructions c f at = record {
  piece = program_piece c.encoding c.code_alignment_factor c.data_alignment_factor 0 f.steps.items;
  fails = λ plain. program_fails c.encoding c.code_alignment_factor c.data_alignment_factor plain 0 f.steps.items;
}

abbrev pub fde_contents : FrameKind → ℕ → CommonInformationEntry → FrameDescriptionEntry → Placed
fde_contents kind cie c f =
    in_turn (cie_pointer kind c.encoding.format cie)
    (in_turn (range_part c f) (in_turn (only_if (is_augmented c) (counted (lsda_part c.encoding.address_size c.lsda_encoding f.lsda))) (instructions c f)))

-- an FDE in a section, whose CIE stands at this place
abbrev pub fde_part : FrameKind → ℕ → CommonInformationEntry → FrameDescriptionEntry → Placed
fde_part kind cie c f = in_turn (refused_if (disagree c.lsda_encoding f.lsda) mismatch) (entry c.encoding (fde_contents kind cie c f))
