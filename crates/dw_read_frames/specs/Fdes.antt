-- Frame descriptions, with the reason where one can't be read (DWARF 5, 6.4.1; Linux Standard Base Core 5.0, 10.6.1.2).
use Rattle.std.specs.Prelude.{ℕ, Bool, Option, Some, None, Ok, unwrap_or}
use Rattle.dw_base.specs.declared.constants.DwEhPe.{DwEhPe}
use Rattle.dw_base.specs.declared.constants.TheConstants.{DW_EH_PE_absptr}
use Rattle.dw_read.specs.Reading.{Read}
use Rattle.dw_read.specs.Reasons.{◌=>>◌, bytes_read, uleb_read}
use Rattle.dw_read_frames.specs.Pointers.{data_read, pointer_read}
use Rattle.dw_read_frames.specs.Augmentations.{standing}
use Rattle.dw_read_frames.specs.declared.augmentation.Augmentation.{Augmentation}
use Rattle.dw_read_frames.specs.declared.cie.CieFields.{CieFields}
use Rattle.dw_read_frames.specs.declared.fde.FdeFields.{FdeFields}

-- how the addresses of FDEs are encoded, by the augmentation of their CIE
abbrev pub address_encoding : Option Augmentation → DwEhPe
address_encoding None = DW_EH_PE_absptr
address_encoding (Some a) = unwrap_or a.fde_address_encoding DW_EH_PE_absptr

-- the pointer to data, where there is an encoding for it, in bytes that go on to an end
unfoldable pub pointed_read : Bool → ℕ → Option DwEhPe → ℕ → Read (Option ℕ)
pointed_read big size None end bytes = Ok (None, bytes)
pointed_read big size (Some e) end bytes = pointer_read big size e (standing end bytes) bytes =>> λ p. Ok (Some p.0, p.1)

-- the augmentation of an FDE: where its CIE has one, data behind their length
unfoldable pub lsda_read : Bool → ℕ → Option Augmentation → ℕ → Read (Option ℕ)
lsda_read big size None end bytes = Ok (None, bytes)
lsda_read big size (Some a) end bytes =
    uleb_read bytes =>> λ n. bytes_read n.0 n.1 =>> λ part. pointed_read big size a.lsda (standing end part.1) part.0 =>> λ p. Ok (p.0, part.1)

-- What stands behind the place of its CIE, in an FDE that goes on to an end; its instructions follow. The length has the format of
-- the address, and counts from zero.
unfoldable pub fde_read : Bool → CieFields → ℕ → Read FdeFields
fde_read big c end bytes =
    pointer_read big c.encoding.address_size (address_encoding c.augmentation) (standing end bytes) bytes =>> λ address.
    data_read big c.encoding.address_size (address_encoding c.augmentation) address.1 =>> λ length.
    lsda_read big c.encoding.address_size c.augmentation end length.1 =>> λ lsda.
    Ok (record { initial_address = address.0; length = length.0; lsda = lsda.0 }, lsda.1)
