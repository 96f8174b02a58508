-- Sets of sections in which a table of call frames was written, each table in sections of its own.
use Rattle.std.specs.Prelude.{◌≡◌, ◌==◌, Bool, false, List, [], ◌∷◌, Some, IsTrue, IsFalse}
use Rattle.dw_base.specs.declared.error.Error.{Error}
use Rattle.dw_base.specs.declared.error.Error.TheVariants.{NoMemory}
use Rattle.dw_base.specs.declared.section_id.SectionId.{SectionId}
use Rattle.dw_writer.specs.Layout.{section_number}
use Rattle.dw_writer.specs.Meaning.{Meaning}
use Rattle.dw_writer.specs.Sections.{section_of}
use Rattle.dw_writer.specs.declared.sections.Sections.{Sections}
use Rattle.dw_frame.specs.declared.kind.FrameKind.{FrameKind}
use Rattle.dw_frame.specs.declared.table.FrameTable.{FrameTable}
use Rattle.dw_frame_instructions.specs.Causes.{IsNone}
use Rattle.dw_frame_instructions.specs.Pieces.{IsWritten}
use Rattle.dw_frame.specs.Reading.{AreTold}
use Rattle.dw_frame.specs.Tables.{no_places, frames_at}
use Rattle.dw_link_frames.specs.Placed.{section_id}

-- a writer that records relocations, of this byte order, to which nothing was written
abbrev pub new_recorder : Bool → Meaning
new_recorder big = record { bytes = Some []; size = 0; is_big = big; is_plain = false; records = []; faults = 0 }

-- the causes for which such a writer refuses a table
abbrev pub refuses : FrameKind → FrameTable → Error → Bool
refuses kind t = (frames_at kind t 0).fails false

-- it refuses none
abbrev pub IsTaken : FrameKind → FrameTable → Type 0
IsTaken kind t = IsNone (refuses kind t)

abbrev pub AreTaken : FrameKind → List FrameTable → Type 0
AreTaken kind [] = Unit {0}
AreTaken kind (t ∷ ts) = IsTaken kind t × AreTaken kind ts

-- it refuses a table for this cause, or for want of memory
abbrev pub TableRefused : FrameKind → FrameTable → Error → Type 0
TableRefused kind t NoMemory = Unit {0}
TableRefused kind t e = IsTrue (refuses kind t e)

-- a table's numbers have the widths of their types, and its entries have the sizes of their texts
abbrev pub IsToldWhole : FrameKind → FrameTable → Type 0
IsToldWhole kind t = AreTold kind t.cies.keys no_places t.fdes.items 0

abbrev pub AreAllTold : FrameKind → List FrameTable → Type 0
AreAllTold kind [] = Unit {0}
AreAllTold kind (t ∷ ts) = IsToldWhole kind t × AreAllTold kind ts

-- two sections are the same
abbrev pub is_same : SectionId → SectionId → Bool
is_same s t = section_number s == section_number t

-- new sections, in which a table was written to the section of its kind
pub record IsWrittenSet {W : Type 0} (meaning : W → Meaning) (big : Bool) (kind : FrameKind) (t : FrameTable) (set : Sections W) : Type 0 where
  pub part : (w : W) → section_of set (section_id kind) ≡ Some w → IsWritten (new_recorder big) (meaning w) (frames_at kind t 0).piece
  pub others : (s : SectionId) (w : W) → IsFalse (is_same s (section_id kind)) → section_of set s ≡ Some w → meaning w ≡ new_recorder big

-- a set for each table
abbrev pub AreWritten : {W : Type 0} → (W → Meaning) → Bool → FrameKind → List FrameTable → List (Sections W) → Type 0
AreWritten meaning big kind [] [] = Unit {0}
AreWritten meaning big kind [] (s ∷ sets) = ⊥
AreWritten meaning big kind (t ∷ ts) [] = ⊥
AreWritten meaning big kind (t ∷ ts) (s ∷ sets) = IsWrittenSet meaning big kind t s × AreWritten meaning big kind ts sets
