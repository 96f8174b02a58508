-- What a reader sees of a whole section of call frames: entries one right behind another (DWARF 5, 6.4.1 and 7.4).
use Rattle.std.specs.Prelude.{◌≡◌, ℕ, ◌+◌, ◌==◌, Bool, true, false, List, [], ◌∷◌, ◌++◌, length, Option, Some, None, slice_get}
use Rattle.dw_base.specs.Numbers.{◌>>=◌, when, initial_length_at}
use Rattle.dw_base.specs.declared.ids.CieId.{CieId}
use Rattle.dw_writer.specs.Meaning.{Meaning}
use Rattle.dw_writer.specs.New.{IsEmptyPlainWriter}
use Rattle.dw_frame.specs.declared.cie.CommonInformationEntry.{CommonInformationEntry}
use Rattle.dw_frame.specs.declared.fde.FrameDescriptionEntry.{FrameDescriptionEntry}
use Rattle.dw_frame.specs.declared.kind.FrameKind.{FrameKind}
use Rattle.dw_frame.specs.declared.table.FrameTable.{FrameTable}
use Rattle.dw_frame.specs.Tables.{Places, no_places, with_place, place_at}
use Rattle.dw_frame.specs.ReadCies.{place_of, id_at, ReadsCie}
use Rattle.dw_frame.specs.Reading.{ShowsFde, ShowsFrames}

-- Bytes that are one entry, as its length counts all that stands behind it: whether it is a CIE.
abbrev pub entry_at : FrameKind → Bool → List ℕ → Option Bool
entry_at kind big bytes = initial_length_at big bytes >>= λ n. when (n.0.1 == length n.1) (id_at kind big n.0.0 n.1 >>= λ i. Some i.0)

-- these bytes are a CIE that has no place yet; where it has one, there are none
abbrev pub IsNewCie : FrameKind → Bool → CommonInformationEntry → Option ℕ → ℕ → List ℕ → Type 0
IsNewCie kind big c None at bytes = (entry_at kind big bytes ≡ Some true) × ReadsCie kind big c at bytes
IsNewCie kind big c (Some p) at bytes = bytes ≡ []

-- Bytes at a place begin with an FDE of a table, right behind the CIE that it was built with where that has no place yet. Its
-- field leads to the place of that CIE.
pub record ReadsFrame (kind : FrameKind) (big : Bool) (cies : List CommonInformationEntry) (places : Places) (x : CieId × FrameDescriptionEntry) (at : ℕ) (bytes rest : List ℕ) : Type 0 where
  pub cie : CommonInformationEntry
  pub built : slice_get cies x.0.0 ≡ Some cie
  pub common : List ℕ
  pub own : List ℕ
  pub whole : bytes ≡ common ++ (own ++ rest)
  pub new : IsNewCie kind big cie (places x.0.0) at common
  pub is : entry_at kind big own ≡ Some false
  pub fde : ShowsFde kind big cie x.1 (place_at (places x.0.0) at) (at + length common) own

-- bytes at a place are the FDEs of a table, where some CIEs have places already, and nothing else
module _ (kind : FrameKind) (big : Bool) (cies : List CommonInformationEntry) where
  abbrev pub ReadsFrames : Places → List (CieId × FrameDescriptionEntry) → ℕ → List ℕ → Type 0
  ReadsFrames places [] at bytes = bytes ≡ []
  ReadsFrames places (x ∷ xs) at bytes =
      (rest : List ℕ) × ReadsFrame kind big cies places x at bytes rest × ReadsFrames (with_place x.0.0 (place_at (places x.0.0) at) places) xs (place_of at bytes rest) rest

-- a section is read to its last byte as the entries of a table, in their order
abbrev pub ReadsTable : FrameKind → Bool → FrameTable → List ℕ → Type 0
ReadsTable kind big t bytes = ReadsFrames kind big t.cies.keys no_places t.fdes.items 0 bytes

-- each FDE of a table is found in a section
abbrev pub ShowsTable : FrameKind → Bool → FrameTable → List ℕ → Type 0
ShowsTable kind big t bytes = ShowsFrames kind big t.cies.keys t.fdes.items bytes

-- what holds of the bytes of a plain writer to which nothing else was written
abbrev pub HoldsAlone : Meaning → Meaning → (List ℕ → Type 0) → Type 0
HoldsAlone old new holds = IsEmptyPlainWriter old old.is_big → (bytes : List ℕ) → new.bytes ≡ Some bytes → holds bytes
