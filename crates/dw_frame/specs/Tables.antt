-- The call frames of a file as a section's text: each CIE just before the first FDE that uses it.
use Rattle.std.specs.Prelude.{ℕ, ◌==◌, Bool, List, [], ◌∷◌, Option, Some, None, slice_get, if◌then◌else◌}
use Rattle.dw_base.specs.declared.error.Error.{Error}
use Rattle.dw_base.specs.declared.ids.CieId.{CieId}
use Rattle.dw_writer.specs.Meaning.{Meaning}
use Rattle.dw_frame.specs.declared.cie.CommonInformationEntry.{CommonInformationEntry}
use Rattle.dw_frame.specs.declared.fde.FrameDescriptionEntry.{FrameDescriptionEntry}
use Rattle.dw_frame.specs.declared.kind.FrameKind.{FrameKind}
use Rattle.dw_frame.specs.declared.table.FrameTable.{FrameTable}
use Rattle.dw_frame_instructions.specs.Pieces.{bytes, missing}
use Rattle.dw_frame_instructions.specs.Causes.{never}
use Rattle.dw_frame.specs.Parts.{Placed, free, caused, in_turn}
use Rattle.dw_frame.specs.Cies.{cie_part}
use Rattle.dw_frame.specs.Fdes.{fde_part}

-- the places of the CIEs that are written, by their numbers
abbrev pub Places : Type 0
Places = ℕ → Option ℕ

abbrev pub no_places : Places
no_places i = None

abbrev pub with_place : ℕ → ℕ → Places → Places
with_place i at places j = if j == i then Some at else places j

-- the place that a CIE has, or gets here
abbrev pub place_at : Option ℕ → ℕ → ℕ
place_at None at = at
place_at (Some p) at = p

-- a CIE that has no place yet
abbrev pub new_cie : FrameKind → Option ℕ → Option CommonInformationEntry → Placed
new_cie kind None (Some c) = cie_part kind c
new_cie kind None None = caused missing never
new_cie kind (Some p) c = free (bytes [])

-- an FDE with the CIE at a place
abbrev pub fde_of : FrameKind → ℕ → Option CommonInformationEntry → FrameDescriptionEntry → Placed
fde_of kind cie (Some c) f = fde_part kind cie c f
fde_of kind cie None f = caused missing never

module _ (kind : FrameKind) (cies : List CommonInformationEntry) where
  -- an FDE, behind its CIE where that has no place yet
  abbrev pub frame : Places → CieId × FrameDescriptionEntry → Placed
  frame places x at =
      in_turn (new_cie kind (places x.0.0) (slice_get cies x.0.0)) (fde_of kind (place_at (places x.0.0) at) (slice_get cies x.0.0) x.1) at

  -- FDEs in their order
  abbrev pub frames_from : Places → List (CieId × FrameDescriptionEntry) → Placed
  frames_from places [] at = free (bytes []) at
  frames_from places (x ∷ xs) at = in_turn (frame places x) (frames_from (with_place x.0.0 (place_at (places x.0.0) at) places) xs) at

-- the text of a table in a section
abbrev pub frames_part : FrameKind → List CommonInformationEntry → List (CieId × FrameDescriptionEntry) → Placed
frames_part kind cies fdes = frames_from kind cies no_places fdes

-- the text of a table at a place of a section, with the causes for which a writer refuses it
abbrev pub frames_at : FrameKind → FrameTable → Placed
frames_at kind t = frames_part kind t.cies.keys t.fdes.items

-- the causes for which this writer refuses it, which begins at the writer's length
abbrev pub causes_of : FrameKind → FrameTable → Meaning → Error → Bool
causes_of kind t m = (frames_at kind t m.size).fails m.is_plain
