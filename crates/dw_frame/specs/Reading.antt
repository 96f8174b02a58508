-- What a reader sees in a section of call frames (DWARF 5, 6.4.1 and 7.4; Linux Standard Base Core 5.0, 10.6).
use Rattle.std.specs.Prelude.{◌≡◌, ℕ, ◌+◌, ◌-◌, ◌^◌, ◌<◌, IfSome, All, Bool, nat_le, List, [], ◌∷◌, ◌++◌, length, Option, Some, None, slice_get}
use Rattle.std.specs.Option.{option_map}
use Rattle.dw_base.specs.Numbers.{Parser, ◌>>=◌, when, number_at, initial_length_at, word_of}
use Rattle.dw_base.specs.Pointers.{format_of}
use Rattle.dw_base.specs.declared.address.Address.TheVariants.{Constant}
use Rattle.dw_base.specs.declared.common.Format.{Format}
use Rattle.dw_base.specs.declared.constants.DwEhPe.{DwEhPe}
use Rattle.dw_base.specs.declared.ids.CieId.{CieId}
use Rattle.dw_writer.specs.Meaning.{Layout}
use Rattle.dw_frame.specs.declared.cie.CommonInformationEntry.{CommonInformationEntry}
use Rattle.dw_frame.specs.declared.fde.FrameDescriptionEntry.{FrameDescriptionEntry}
use Rattle.dw_frame.specs.declared.kind.FrameKind.{FrameKind}
use Rattle.dw_frame.specs.declared.kind.FrameKind.TheVariants.{Debug, Eh}
use Rattle.dw_frame.specs.Parts.{Part}
use Rattle.dw_frame.specs.Cies.{cie_part}
use Rattle.dw_frame.specs.Tables.{Places, with_place, place_at, new_cie, fde_of, frame}
use Rattle.dw_frame.specs.ReadPointers.{data_at, pointer_at}
use Rattle.dw_frame.specs.ReadCies.{place_of, IsShort, IsRangedCie, ReadsCie}

-- the field of an FDE that leads to its CIE: the CIE's offset, or how far it stands before the field
abbrev pub cie_field_at : FrameKind → Bool → Format → ℕ → Parser ℕ
cie_field_at Debug big format place bytes = number_at big (word_of format) bytes
cie_field_at Eh big format place bytes = number_at big 4 bytes >>= λ x. when (nat_le x.0 place) (Some (place - x.0, x.1))

-- an FDE but for its instructions
pub record FdeRead : Type 0 where
  -- the place of its CIE
  pub cie : ℕ
  pub address : ℕ
  pub length : ℕ
  pub lsda : Option ℕ

-- what stands behind the function's length, where the pointer to data has this encoding
abbrev pub lsda_at : Bool → ℕ → Option DwEhPe → ℕ → List ℕ → List ℕ → Option (Option ℕ)
lsda_at big w None at bytes rest = Some None
lsda_at big w (Some e) at bytes rest =
    number_at big 1 rest >>= λ n. pointer_at big w e.0 (place_of at bytes n.1) n.1 >>= λ a. Some (Some a.0)

-- bytes at a place as an FDE, by the encodings of its CIE
abbrev pub fde_at : FrameKind → Bool → CommonInformationEntry → ℕ → List ℕ → Option FdeRead
fde_at kind big c at bytes =
    let w = c.encoding.address_size in
    let encoding = c.fde_address_encoding.0 in
    initial_length_at big bytes >>= λ n.
    cie_field_at kind big n.0.0 (place_of at bytes n.1) n.1 >>= λ f.
    pointer_at big w encoding (place_of at bytes f.1) f.1 >>= λ a.
    data_at big w (format_of encoding) a.1 >>= λ k.
    lsda_at big w c.lsda_encoding at bytes k.1 >>= λ d.
    Some (record { cie = f.0; address = a.0; length = k.0; lsda = d })

-- all sections start at 0, and there are no symbols
abbrev pub at_zero : Layout
at_zero = record { starts = []; own_start = 0; symbols = [] }

-- the numbers of an FDE have the widths of their types
pub record IsRanged (f : FrameDescriptionEntry) : Type 0 where
  pub address : IsShort f.address
  pub length : f.length < 2 ^ 64
  pub lsda : IfSome f.lsda IsShort

-- bytes at a place are read as an FDE with the CIE at another place
pub record ShowsFde (kind : FrameKind) (big : Bool) (c : CommonInformationEntry) (f : FrameDescriptionEntry) (own at : ℕ) (bytes : List ℕ) : Type 0 where
  pub seen : FdeRead
  pub read : fde_at kind big c at bytes ≡ Some seen
  pub cie : seen.cie ≡ own
  pub address : f.address ≡ Constant seen.address
  pub length : seen.length ≡ f.length
  pub lsda : f.lsda ≡ option_map Constant seen.lsda

-- a CIE stands at a place: its text is found there, and is read as it was built
pub record ShowsCie (kind : FrameKind) (big : Bool) (c : CommonInformationEntry) (at : ℕ) (bytes : List ℕ) : Type 0 where
  pub before : List ℕ
  pub text : List ℕ
  pub behind : List ℕ
  pub whole : bytes ≡ before ++ (text ++ behind)
  pub place : length before ≡ at
  pub is : (cie_part kind c at).piece.text big at_zero ≡ Some text
  pub read : (rest : List ℕ) → ReadsCie kind big c at (text ++ rest)

-- An FDE of a table is read at some place of a section, by the encodings of the CIE that it was built with. Its field leads
-- to where that CIE stands.
pub record ShowsFrame (kind : FrameKind) (big : Bool) (cies : List CommonInformationEntry) (bytes : List ℕ) (x : CieId × FrameDescriptionEntry) : Type 0 where
  pub cie : CommonInformationEntry
  pub built : slice_get cies x.0.0 ≡ Some cie
  pub cie_at : ℕ
  pub stands : ShowsCie kind big cie cie_at bytes
  pub before : List ℕ
  pub rest : List ℕ
  pub whole : bytes ≡ before ++ rest
  pub fde : ShowsFde kind big cie x.1 cie_at (length before) rest

-- each FDE of a table
abbrev pub ShowsFrames : FrameKind → Bool → List CommonInformationEntry → List (CieId × FrameDescriptionEntry) → List ℕ → Type 0
ShowsFrames kind big cies fdes bytes = All (ShowsFrame kind big cies bytes) fdes

-- What a write of FDEs tells beside their text: sizes are right, and numbers have the widths of their types.
abbrev pub IsWide : Part → Type 0
IsWide p = (big : Bool) (xs : List ℕ) → p.piece.text big at_zero ≡ Some xs → length xs ≡ p.piece.size

pub record IsTold (kind : FrameKind) (cies : List CommonInformationEntry) (places : Places) (x : CieId × FrameDescriptionEntry) (at : ℕ) : Type 0 where
  pub cie : IsWide (new_cie kind (places x.0.0) (slice_get cies x.0.0) at)
  pub fde : IsWide (fde_of kind (place_at (places x.0.0) at) (slice_get cies x.0.0) x.1 (at + (new_cie kind (places x.0.0) (slice_get cies x.0.0) at).piece.size))
  pub ranged : IsRanged x.1
  pub own : (c : CommonInformationEntry) → slice_get cies x.0.0 ≡ Some c → IsRangedCie c

module _ (kind : FrameKind) (cies : List CommonInformationEntry) where
  abbrev pub AreTold : Places → List (CieId × FrameDescriptionEntry) → ℕ → Type 0
  AreTold places [] at = Unit {0}
  AreTold places (x ∷ xs) at =
      IsTold kind cies places x at × AreTold (with_place x.0.0 (place_at (places x.0.0) at) places) xs (at + (frame kind cies places x at).piece.size)
