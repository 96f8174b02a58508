-- Whole sections of call frames that are written, and what they are read as (DWARF 5, 6.4.1).
use Rattle.std.specs.Prelude.{◌≡◌, ℕ, ◌+◌, ◌^◌, ◌<◌, Bool, All, List, [], ◌∷◌, ◌++◌, length, Option, Some, None, Ok, slice_get}
use Rattle.dw_base.specs.declared.ids.CieId.{CieId}
use Rattle.dw_frame.specs.declared.cie.CommonInformationEntry.{CommonInformationEntry}
use Rattle.dw_frame.specs.declared.fde.FrameDescriptionEntry.{FrameDescriptionEntry}
use Rattle.dw_frame.specs.declared.kind.FrameKind.{FrameKind}
use Rattle.dw_frame.specs.ReadCies.{place_of}
use Rattle.dw_frame.specs.Reading.{at_zero, AreTold}
use Rattle.dw_frame.specs.Tables.{Places, no_places, with_place, place_at, frames_part}
use Rattle.dw_read_frames.specs.Entries.{Entry, entry_at, cie_at_read}
use Rattle.dw_read_frames.specs.declared.cie.CieFields.{CieFields}
use Rattle.dw_read_back.specs.Heads.{is_eh}
use Rattle.dw_read_back.specs.Entries.{AreFields, KnowsSize, ReadsCieBack, ReadsFdeBack}

-- these bytes are read as a CIE that has no place yet; where it has one, there are none
abbrev pub IsNewCieBack : FrameKind → Bool → ℕ → CommonInformationEntry → Option ℕ → ℕ → List ℕ → Type 0
IsNewCieBack kind big size c None at bytes = ReadsCieBack kind big c size at bytes
IsNewCieBack kind big size c (Some p) at bytes = bytes ≡ []

-- Bytes at a place begin with an FDE of a table, right behind the CIE that it was built with where that has no place yet. It is read
-- as the FDE, and leads to the place of that CIE.
pub record ReadsFrameBack (kind : FrameKind) (big : Bool) (size : ℕ) (cies : List CommonInformationEntry) (places : Places) (x : CieId × FrameDescriptionEntry) (at : ℕ) (bytes rest : List ℕ) : Type 0 where
  pub cie : CommonInformationEntry
  pub built : slice_get cies x.0.0 ≡ Some cie
  pub common : List ℕ
  pub own : List ℕ
  pub whole : bytes ≡ common ++ (own ++ rest)
  pub new : IsNewCieBack kind big size cie (places x.0.0) at common
  pub fde : ReadsFdeBack kind big cie x.1 (place_at (places x.0.0) at) (at + length common) own

-- bytes at a place are the FDEs of a table, where some CIEs have places already, and nothing else
module _ (kind : FrameKind) (big : Bool) (size : ℕ) (cies : List CommonInformationEntry) where
  abbrev pub ReadsFramesBack : Places → List (CieId × FrameDescriptionEntry) → ℕ → List ℕ → Type 0
  ReadsFramesBack places [] at bytes = bytes ≡ []
  ReadsFramesBack places (x ∷ xs) at bytes =
      (rest : List ℕ) × ReadsFrameBack kind big size cies places x at bytes rest × ReadsFramesBack (with_place x.0.0 (place_at (places x.0.0) at) places) xs (place_of at bytes rest) rest

-- what a reader knows of the CIEs of a table, whose columns have the width of their type
abbrev pub AreKnown : ℕ → List CommonInformationEntry → Type 0
AreKnown size cies = (i : ℕ) (c : CommonInformationEntry) → slice_get cies i ≡ Some c → KnowsSize size c × (c.return_address_register.0 < 2 ^ 16)

-- a section that is written is read to its last byte as the entries of its table, in their order
abbrev pub SectionReadsBack : FrameKind → List CommonInformationEntry → List (CieId × FrameDescriptionEntry) → Type 0
SectionReadsBack kind cies fdes =
    (big : Bool) (size : ℕ) (bytes : List ℕ) → AreTold kind cies no_places fdes 0 → AreKnown size cies → (frames_part kind cies fdes 0).piece.text big at_zero ≡ Some bytes →
    ReadsFramesBack kind big size cies no_places fdes 0 bytes

-- the reader's entries stand one right behind another from a place on, and the last ends with the bytes
module _ (eh big : Bool) (size : ℕ) where
  abbrev pub ReadsEntries : ℕ → List Entry → List ℕ → Type 0
  ReadsEntries at [] bytes = bytes ≡ []
  ReadsEntries at (x ∷ xs) bytes = (rest : List ℕ) × (entry_at eh big size at bytes ≡ Some (Some x, rest)) × ReadsEntries (place_of at bytes rest) xs rest

-- a reader that goes from entry to entry comes to the end of a section that is written
abbrev pub SectionIsWalked : FrameKind → List CommonInformationEntry → List (CieId × FrameDescriptionEntry) → Type 0
SectionIsWalked kind cies fdes =
    (big : Bool) (size : ℕ) (bytes : List ℕ) → AreTold kind cies no_places fdes 0 → AreKnown size cies → (frames_part kind cies fdes 0).piece.text big at_zero ≡ Some bytes →
    (entries : List Entry) × ReadsEntries (is_eh kind) big size 0 entries bytes

-- An FDE of a table is read at some place of a section, and leads to where a reader of the section finds the CIE that it was built
-- with.
pub record FindsFrame (kind : FrameKind) (big : Bool) (size : ℕ) (cies : List CommonInformationEntry) (bytes : List ℕ) (x : CieId × FrameDescriptionEntry) : Type 0 where
  pub cie : CommonInformationEntry
  pub built : slice_get cies x.0.0 ≡ Some cie
  pub cie_at : ℕ
  pub fields : CieFields
  pub instructions : List ℕ
  pub found : cie_at_read (is_eh kind) big size 0 cie_at bytes ≡ Ok (fields, instructions)
  pub are : AreFields cie fields
  pub before : List ℕ
  pub own : List ℕ
  pub rest : List ℕ
  pub whole : bytes ≡ before ++ (own ++ rest)
  pub fde : ReadsFdeBack kind big cie x.1 cie_at (length before) own

-- so is each FDE of a section that is written
abbrev pub SectionFindsAll : FrameKind → List CommonInformationEntry → List (CieId × FrameDescriptionEntry) → Type 0
SectionFindsAll kind cies fdes =
    (big : Bool) (size : ℕ) (bytes : List ℕ) → AreTold kind cies no_places fdes 0 → AreKnown size cies → (frames_part kind cies fdes 0).piece.text big at_zero ≡ Some bytes →
    All (FindsFrame kind big size cies bytes) fdes
