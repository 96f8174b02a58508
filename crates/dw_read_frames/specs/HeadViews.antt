-- Entries that were read as far as they begin.
use Rattle.std.specs.Prelude.{◌≡◌, ◌-◌, length}
use Rattle.dw_read.specs.Reading.{Reading, left}
use Rattle.dw_read_frames.specs.Heads.{Head}
use Rattle.dw_read_frames.specs.declared.head.Head.{Head as HeldHead}

abbrev pub head_of : {R E : Type 0} → (R → Reading) → HeldHead R E → Head
head_of reading h = record { format = h.format; cie = h.cie; body = left (reading h.body) }

-- what follows the field stands in the section up to the end of the entry, which is passed
abbrev pub IsBody : Reading → Reading → Reading → Type 0
IsBody old new body = body ≡ record old { place = new.place - length (left body); end = new.place }
