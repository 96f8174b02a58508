-- What CIEs and FDEs that are read become (DWARF 5, 6.4.1; Linux Standard Base Core 5.0, 10.6.1).
use Rattle.std.specs.Prelude.{◌≡◌, ◌⊎◌, ℕ, ◌^◌, nat_lt, List, Option, Some, None, Result, Ok, Err, ℤ, if◌then◌else◌}
use Rattle.dw_base.specs.declared.address.Address.{Address}
use Rattle.dw_base.specs.declared.constants.DwEhPe.{DwEhPe}
use Rattle.dw_writer.specs.SignedNumbers.{signed_fits}
use Rattle.dw_read_frames.specs.Augmentations.{said, is_trampoline}
use Rattle.dw_read_frames.specs.Fdes.{address_encoding}
use Rattle.dw_read_frames.specs.declared.cie.CieFields.{CieFields}
use Rattle.dw_read_frames.specs.declared.fde.FdeFields.{FdeFields}
use Rattle.dw_sources.specs.declared.convert_error.ConvertError.{ConvertError}
use Rattle.dw_sources.specs.declared.convert_error.ConvertError.TheVariants.{IntegerOverflow}
use Rattle.dw_convert.specs.Outcomes.{Then, AddressOutcome}
use Rattle.dw_frame.specs.declared.cie.CommonInformationEntry.{CommonInformationEntry}
use Rattle.dw_frame.specs.declared.fde.FrameDescriptionEntry.{FrameDescriptionEntry}
use Rattle.dw_frame.specs.ConvertInstructions.{in_u32}
use Rattle.dw_frame.specs.ConvertPrograms.{Terms, AreInstructions, AreSteps, RefusesInstructions, RefusesSteps}

-- factors that have to fit a byte, with a sign or without
abbrev pub in_i8 : ℤ → Result ℤ ConvertError
in_i8 z = if signed_fits 1 z then Ok z else Err IntegerOverflow

abbrev pub in_u8 : ℕ → Result ℕ ConvertError
in_u8 n = if nat_lt n (2 ^ 8) then Ok n else Err IntegerOverflow

module _ (answers : ℕ → Option Address → Type 0) where
  -- the address that there may be
  abbrev pub PointerOutcome : Option ℕ → Result (Option Address) ConvertError → Type 0
  PointerOutcome None r = r ≡ Ok None
  PointerOutcome (Some n) r = Then (AddressOutcome answers n) (λ a x. x ≡ Ok (Some a)) r

  -- the same behind its encoding
  abbrev pub PersonalityOutcome : Option (DwEhPe × ℕ) → Result (Option (DwEhPe × Address)) ConvertError → Type 0
  PersonalityOutcome None r = r ≡ Ok None
  PersonalityOutcome (Some p) r = Then (AddressOutcome answers p.1) (λ a x. x ≡ Ok (Some (p.0, a))) r

  -- the CIE that says the same but for its instructions
  pub record IsCieHead (f : CieFields) (c : CommonInformationEntry) : Type 0 where
    pub encoding : c.encoding ≡ f.encoding
    pub code_factor : in_u8 f.code_alignment_factor ≡ Ok c.code_alignment_factor
    pub data_factor : in_i8 f.data_alignment_factor ≡ Ok c.data_alignment_factor
    pub register : c.return_address_register ≡ f.return_address_register
    pub personality : PersonalityOutcome (said (λ a. a.personality) f.augmentation) (Ok c.personality)
    pub lsda : c.lsda_encoding ≡ said (λ a. a.lsda) f.augmentation
    pub addresses : c.fde_address_encoding ≡ address_encoding f.augmentation
    pub signal : c.signal_trampoline ≡ is_trampoline f.augmentation

  -- a factor is too large, or the personality has no address on the target
  abbrev pub RefusesCieHead : CieFields → ConvertError → Type 0
  RefusesCieHead f why =
      (in_u8 f.code_alignment_factor ≡ Err why) ⊎ ((in_i8 f.data_alignment_factor ≡ Err why) ⊎ PersonalityOutcome (said (λ a. a.personality) f.augmentation) (Err why))

  -- the FDE that says the same but for its instructions
  pub record IsFdeHead (f : FdeFields) (x : FrameDescriptionEntry) : Type 0 where
    pub address : AddressOutcome answers f.initial_address (Ok x.address)
    pub length : in_u32 f.length ≡ Ok x.length
    pub lsda : PointerOutcome f.lsda (Ok x.lsda)

  -- the function or its data has no address on the target, or the function is too long
  abbrev pub RefusesFdeHead : FdeFields → ConvertError → Type 0
  RefusesFdeHead f why = AddressOutcome answers f.initial_address (Err why) ⊎ ((in_u32 f.length ≡ Err why) ⊎ PointerOutcome f.lsda (Err why))

  module _ (t : Terms) (bytes : List ℕ) where
    -- a CIE with what its instructions become
    pub record IsCie (c : CommonInformationEntry) : Type 0 where
      pub head : IsCieHead t.cie c
      pub instructions : AreInstructions answers t bytes c.instructions.items

    abbrev pub RefusesCie : ConvertError → Type 0
    RefusesCie why = RefusesCieHead t.cie why ⊎ RefusesInstructions answers t bytes why

    -- an FDE with what its instructions become
    pub record IsFde (f : FdeFields) (x : FrameDescriptionEntry) : Type 0 where
      pub head : IsFdeHead f x
      pub steps : AreSteps answers t bytes x.steps.items

    abbrev pub RefusesFde : FdeFields → ConvertError → Type 0
    RefusesFde f why = RefusesFdeHead f why ⊎ RefusesSteps answers t bytes why
