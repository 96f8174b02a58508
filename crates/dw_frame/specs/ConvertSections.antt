-- Sections of call frames, and the entries of functions in them, as they are held.
use Rattle.std.specs.Prelude.{ℕ, Bool}
use Rattle.dw_read.specs.Reading.{Reading, left}
use Rattle.dw_read_frames.specs.declared.entries.PartialFrameDescriptionEntry.{PartialFrameDescriptionEntry}
use Rattle.dw_frame.specs.ConvertTables.{Source, Frame}

abbrev pub source : Reading → Bool → ℕ → Source
source section eh size = record { section = section; is_eh = eh; address_size = size }

abbrev pub frame_in : {R E : Type 0} → (R → Reading) → PartialFrameDescriptionEntry R E → Frame
frame_in reading f = record { cie = f.cie_offset; body = left (reading f.body); end = (reading f.body).end }
