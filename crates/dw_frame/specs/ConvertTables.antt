-- What sections of call frames become: tables of their FDEs in order, each with the CIE that it belongs to (DWARF 5, 6.4.1).
use Rattle.std.specs.Prelude.{◌≡◌, ◌≢◌, ◌⊎◌, ℕ, Bool, List, [], ◌∷◌, ◌++◌, Option, Some, None, Ok, Err, if◌then◌else◌}
use Rattle.std.specs.List.{list_any, position_or_len}
use Rattle.dw_base.specs.Numbers.{Parser}
use Rattle.dw_base.specs.declared.address.Address.{Address}
use Rattle.dw_base.specs.declared.ids.CieId.{CieId}
use Rattle.dw_read.specs.Reading.{Reading, left}
use Rattle.dw_read.specs.declared.error.ReadError.{ReadError}
use Rattle.dw_read_frames.specs.Augmentations.{standing}
use Rattle.dw_read_frames.specs.Entries.{Entry, Cie, Fde, entry_at, entry_read, cie_at_read, end_at_read}
use Rattle.dw_read_frames.specs.Fdes.{fde_read}
use Rattle.dw_read_frames.specs.declared.cie.CieFields.{CieFields}
use Rattle.dw_read_frames.specs.declared.fde.FdeFields.{FdeFields}
use Rattle.dw_sources.specs.ConvertErrors.{from_read}
use Rattle.dw_sources.specs.declared.convert_error.ConvertError.{ConvertError}
use Rattle.dw_convert.specs.Lists.{First}
use Rattle.dw_frame.specs.declared.cie.CommonInformationEntry.{CommonInformationEntry}
use Rattle.dw_frame.specs.declared.fde.FrameDescriptionEntry.{FrameDescriptionEntry}
use Rattle.dw_frame.specs.ConvertEntries.{IsCie, RefusesCie, IsFde, RefusesFde}

-- a section of call frames, and the bytes of an address on its target
pub record Source : Type 0 where
  pub section : Reading
  pub is_eh : Bool
  pub address_size : ℕ

-- an FDE as it stands in a section: the place of its CIE, what follows that field, and the place where it ends
pub record Frame : Type 0 where
  pub cie : ℕ
  pub body : List ℕ
  pub end : ℕ

-- an entry as a list of FDEs: a CIE is none by itself
abbrev pub frames_of : ℕ → Entry → List Frame
frames_of end (Cie fields instructions) = []
frames_of end (Fde format cie body) = record { cie = cie; body = body; end = end } ∷ []

abbrev pub entered : ℕ → Option Entry → List ℕ → Option (List Frame × List ℕ)
entered end None rest = None
entered end (Some x) rest = Some (frames_of (standing end rest) x, rest)

abbrev pub next_of : ℕ → Option (Option Entry × List ℕ) → Option (List Frame × List ℕ)
next_of end None = None
next_of end (Some p) = entered end p.0 p.1

-- FDEs of entries, one after the other
abbrev pub joined : List (List Frame) → List Frame
joined [] = []
joined (x ∷ xs) = x ++ joined xs

-- a CIE and an FDE that belongs to it
abbrev pub Pair : Type 0
Pair = CommonInformationEntry × FrameDescriptionEntry

-- the CIEs of a table with one more, where none is the same
abbrev pub with_cie : (CommonInformationEntry → CommonInformationEntry → Bool) → CommonInformationEntry → List CommonInformationEntry → List CommonInformationEntry
with_cie same c cs = if list_any (same c) cs then cs else cs ++ c ∷ []

-- the CIEs of a table to which pairs are added, in the order of their first use
abbrev pub cies_of : (CommonInformationEntry → CommonInformationEntry → Bool) → List CommonInformationEntry → List Pair → List CommonInformationEntry
cies_of same cs [] = cs
cies_of same cs (x ∷ xs) = cies_of same (with_cie same x.0 cs) xs

-- the FDEs that are added, each with the number of its CIE
abbrev pub fdes_of : (CommonInformationEntry → CommonInformationEntry → Bool) → List CommonInformationEntry → List Pair → List (CieId × FrameDescriptionEntry)
fdes_of same cs [] = []
fdes_of same cs (x ∷ xs) = (record { 0 = position_or_len (same x.0) cs }, x.1) ∷ fdes_of same (with_cie same x.0 cs) xs

module _ (answers : ℕ → Option Address → Type 0) (s : Source) where
  -- the FDEs of the entry at the front of what is left of the section, up to a zero length
  abbrev pub frames_at : Parser (List Frame)
  frames_at bytes = next_of s.section.end (entry_at s.is_eh s.section.is_big s.address_size (standing s.section.end bytes) bytes)

  -- no entry follows: no byte is left, or the zero length stands there that ends `.eh_frame`
  abbrev pub EndsSection : List ℕ → Type 0
  EndsSection rest = (rest ≡ []) ⊎ ((behind : List ℕ) × (entry_at s.is_eh s.section.is_big s.address_size (standing s.section.end rest) rest ≡ Some (None, behind)))

  -- the CIE to which an FDE leads ends at a place of the section
  abbrev pub EndsCie : Frame → ℕ → Type 0
  EndsCie f end = end_at_read s.is_eh s.section.is_big s.address_size s.section.place f.cie s.section.end (left s.section) ≡ Ok end

  -- an FDE is read by the CIE to which it leads, and both are converted
  pub record IsFrame (big : Bool) (f : Frame) (x : Pair) : Type 0 where
    pub common : CieFields
    pub first : List ℕ
    pub found : cie_at_read s.is_eh s.section.is_big s.address_size s.section.place f.cie (left s.section) ≡ Ok (common, first)
    pub own : FdeFields
    pub more : List ℕ
    pub says : fde_read big common f.end f.body ≡ Ok (own, more)
    pub cie_end : ℕ
    pub ends : EndsCie f cie_end
    pub cie : IsCie answers (record { is_big = s.section.is_big; end = cie_end; cie = common }) first x.0
    pub fde : IsFde answers (record { is_big = big; end = f.end; cie = common }) more own x.1

  -- no CIE is there, for this reason
  pub record MissesCie (f : Frame) (why : ConvertError) : Type 0 where
    pub error : ReadError
    pub refused : cie_at_read s.is_eh s.section.is_big s.address_size s.section.place f.cie (left s.section) ≡ Err error
    pub is : why ≡ from_read error

  -- the FDE can't be read by its CIE, for this reason
  pub record MissesFde (big : Bool) (f : Frame) (common : CieFields) (why : ConvertError) : Type 0 where
    pub error : ReadError
    pub refused : fde_read big common f.end f.body ≡ Err error
    pub is : why ≡ from_read error

  -- its CIE becomes nothing
  pub record FailsCie (f : Frame) (common : CieFields) (first : List ℕ) (why : ConvertError) : Type 0 where
    pub cie_end : ℕ
    pub ends : EndsCie f cie_end
    pub refused : RefusesCie answers (record { is_big = s.section.is_big; end = cie_end; cie = common }) first why

  -- the FDE becomes nothing
  pub record FailsFde (big : Bool) (f : Frame) (common : CieFields) (why : ConvertError) : Type 0 where
    pub own : FdeFields
    pub more : List ℕ
    pub says : fde_read big common f.end f.body ≡ Ok (own, more)
    pub refused : RefusesFde answers (record { is_big = big; end = f.end; cie = common }) more own why

  -- with the CIE that is there
  pub record FailsFrame (big : Bool) (f : Frame) (why : ConvertError) : Type 0 where
    pub common : CieFields
    pub first : List ℕ
    pub found : cie_at_read s.is_eh s.section.is_big s.address_size s.section.place f.cie (left s.section) ≡ Ok (common, first)
    pub cause : MissesFde big f common why ⊎ (FailsCie f common first why ⊎ FailsFde big f common why)

  abbrev pub RefusesFrame : Bool → Frame → ConvertError → Type 0
  RefusesFrame big f why = MissesCie f why ⊎ FailsFrame big f why

  -- each FDE becomes the pair of its place
  abbrev pub AreFrames : List Frame → List Pair → Type 0
  AreFrames [] [] = Unit {0}
  AreFrames (f ∷ fs) (x ∷ xs) = IsFrame s.section.is_big f x × AreFrames fs xs
  AreFrames [] (x ∷ xs) = ⊥
  AreFrames (f ∷ fs) [] = ⊥

  -- the first entries of the section, and what their FDEs become
  pub record BegunTable (rest : List ℕ) (pairs : List Pair) : Type 0 where
    pub entries : List (List Frame)
    pub read : First frames_at (left s.section) entries rest
    pub are : AreFrames (joined entries) pairs

  -- a table of all FDEs of the section
  pub record IsTable (same : CommonInformationEntry → CommonInformationEntry → Bool) (cies : List CommonInformationEntry) (fdes : List (CieId × FrameDescriptionEntry)) : Type 0 where
    pub rest : List ℕ
    pub pairs : List Pair
    pub begun : BegunTable rest pairs
    pub ends : EndsSection rest
    pub common : cies ≡ cies_of same [] pairs
    pub own : fdes ≡ fdes_of same [] pairs

  -- an entry that can't be read, for this reason
  pub record MissesEntry (rest : List ℕ) (why : ConvertError) : Type 0 where
    pub more : rest ≢ []
    pub error : ReadError
    pub refused : entry_read s.is_eh s.section.is_big s.address_size (standing s.section.end rest) rest ≡ Err error
    pub is : why ≡ from_read error

  -- an FDE that becomes nothing, for this reason
  pub record FailsEntry (rest : List ℕ) (why : ConvertError) : Type 0 where
    pub frame : Frame
    pub next : List ℕ
    pub read : frames_at rest ≡ Some (frame ∷ [], next)
    pub refused : RefusesFrame s.section.is_big frame why

  -- the first entries were converted, and the next one can't be read or becomes nothing
  pub record RefusesTable (why : ConvertError) : Type 0 where
    pub rest : List ℕ
    pub pairs : List Pair
    pub begun : BegunTable rest pairs
    pub cause : MissesEntry rest why ⊎ FailsEntry rest why
