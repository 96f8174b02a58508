-- Common information entries, with the reason where one can't be read (DWARF 5, 6.4.1; Linux Standard Base Core 5.0, 10.6.1.1).
use Rattle.std.specs.Prelude.{ℕ, ◌==◌, ◌&&◌, ◌||◌, not, Bool, Ok, if◌then◌else◌}
use Rattle.dw_base.specs.Numbers.{is_width}
use Rattle.dw_base.specs.declared.common.Format.{Format}
use Rattle.dw_read.specs.Reading.{Read}
use Rattle.dw_read.specs.Reasons.{◌=>>◌, if_so, number_read, uleb_read, uleb16_read, sleb_read, text_read}
use Rattle.dw_read.specs.declared.error.ReadError.TheVariants.{UnknownVersion, UnsupportedAddressSize, UnsupportedSegmentSize}
use Rattle.dw_read_frames.specs.Augmentations.{augmentation_read}
use Rattle.dw_read_frames.specs.declared.cie.CieFields.{CieFields}

-- the versions of CIEs
abbrev pub is_cie_version : ℕ → Bool
is_cie_version v = (v == 1) || ((v == 3) || (v == 4))

unfoldable pub version_read : Bool → Read ℕ
version_read big bytes = number_read big 1 bytes =>> λ v. if_so (is_cie_version v.0) (UnknownVersion v.0) (Ok v)

-- the bytes of addresses: version 4 has them, with those of a segment selector, and before it they are the target's
unfoldable pub sizes_read : Bool → ℕ → ℕ → Read ℕ
sizes_read big version size bytes =
    if version == 4 then (number_read big 1 bytes =>> λ own. if_so (is_width own.0) (UnsupportedAddressSize own.0)
    (number_read big 1 own.1 =>> λ segment. if_so (segment.0 == 0) (UnsupportedSegmentSize segment.0) (Ok (own.0, segment.1))))
    else Ok (size, bytes)

-- version 1 gives the column of the return address a byte in `.debug_frame`
abbrev pub has_byte_register : Bool → ℕ → Bool
has_byte_register eh version = not eh && (version == 1)

unfoldable pub register_read : Bool → Bool → ℕ → Read ℕ
register_read eh big version bytes = if has_byte_register eh version then number_read big 1 bytes else uleb16_read bytes

-- The fields behind a CIE's id, in an entry that goes on to an end; its instructions follow. The section says how many bytes an
-- address has on the target.
unfoldable pub fields_read : Bool → Bool → ℕ → Format → ℕ → Read CieFields
fields_read eh big size format end bytes =
    version_read big bytes =>> λ version. text_read version.1 =>> λ text. sizes_read big version.0 size text.1 =>> λ own.
    uleb_read own.1 =>> λ code. sleb_read code.1 =>> λ factor. register_read eh big version.0 factor.1 =>> λ register.
    augmentation_read big own.0 end text.0 register.1 =>> λ augmentation. Ok (
      record {
        encoding = record { address_size = own.0; format = format; version = version.0 };
        augmentation = augmentation.0;
        code_alignment_factor = code.0;
        data_alignment_factor = factor.0;
        return_address_register = record { 0 = register.0 };
      },
      augmentation.1,
    )
