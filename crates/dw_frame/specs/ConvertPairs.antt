-- What is added to a table of an FDE and its CIE as they are held.
use Rattle.std.specs.Prelude.{◌≡◌, ◌⊎◌, ℕ, Bool, [], ◌∷◌, ◌++◌, Option}
use Rattle.std.specs.List.{position_or_len}
use Rattle.dw_base.specs.declared.address.Address.{Address}
use Rattle.dw_read.specs.Reading.{Reading, left}
use Rattle.dw_read_frames.specs.declared.fde.FrameDescriptionEntry.{FrameDescriptionEntry as ReadFde}
use Rattle.dw_sources.specs.declared.convert_error.ConvertError.{ConvertError}
use Rattle.dw_frame.specs.declared.cie.CommonInformationEntry.{CommonInformationEntry}
use Rattle.dw_frame.specs.declared.table.FrameTable.{FrameTable}
use Rattle.dw_frame.specs.ConvertEntries.{IsCie, RefusesCie, IsFde, RefusesFde}
use Rattle.dw_frame.specs.ConvertTables.{Source, Frame, Pair, IsFrame, with_cie}
use Rattle.dw_frame.specs.ConvertViews.{cie_terms, fde_terms}

-- a pair is added to a table
pub record AddsPair (same : CommonInformationEntry → CommonInformationEntry → Bool) (x : Pair) (old new : FrameTable) : Type 0 where
  pub cies : new.cies.keys ≡ with_cie same x.0 old.cies.keys
  pub fdes : new.fdes.items ≡ old.fdes.items ++ (record { 0 = position_or_len (same x.0) old.cies.keys }, x.1) ∷ []

module _ (answers : ℕ → Option Address → Type 0) where
  -- so are an FDE that is held, and its CIE
  pub record AddsConverted {R E : Type 0} (reading : R → Reading) (read : ReadFde R E) (same : CommonInformationEntry → CommonInformationEntry → Bool) (old new : FrameTable) : Type 0 where
    pub pair : Pair
    pub cie : IsCie answers (cie_terms reading read.cie) (left (reading read.cie.instructions)) pair.0
    pub fde : IsFde answers (fde_terms reading read) (left (reading read.instructions)) read.fields pair.1
    pub adds : AddsPair same pair old new

  -- one of both becomes nothing
  abbrev pub RefusesConverted : {R E : Type 0} → (R → Reading) → ReadFde R E → ConvertError → Type 0
  RefusesConverted reading read why =
      RefusesCie answers (cie_terms reading read.cie) (left (reading read.cie.instructions)) why ⊎ RefusesFde answers (fde_terms reading read) (left (reading read.instructions)) read.fields why

  -- so are an FDE of a section, and the CIE to which it leads
  pub record AddsFrame (s : Source) (same : CommonInformationEntry → CommonInformationEntry → Bool) (big : Bool) (f : Frame) (old new : FrameTable) : Type 0 where
    pub pair : Pair
    pub is : IsFrame answers s big f pair
    pub adds : AddsPair same pair old new
