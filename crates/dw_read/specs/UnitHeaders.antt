-- What the walk over the headers of units answers.
use Rattle.std.specs.Prelude.{◌≡◌, ◌⊎◌, ℕ, ◌+◌, ◌-◌, ◌≤◌, ◌<◌, length, true, false, Option, Some, None, Result, Ok, Err}
use Rattle.dw_base.specs.Headers.{HeaderRead, header_at}
use Rattle.dw_read.specs.Reading.{Reading, Passes, left}
use Rattle.dw_read.specs.Headers.{header_read}
use Rattle.dw_read.specs.Fields.{header_of}
use Rattle.dw_read.specs.declared.unit_header.UnitHeader.{UnitHeader}
use Rattle.dw_read.specs.declared.unit_header.UnitHeadersIter.{UnitHeadersIter}
use Rattle.dw_read.specs.declared.error.ReadError.{ReadError}

-- a walk from a reader's place on
abbrev pub starts_at : {R E : Type 0} → R → UnitHeadersIter R E
starts_at section = record { input = section; has_failed = false }

-- The unit at a place has the header, and is passed. The header's reader reads what follows it in the unit, at its place in the
-- section.
pub record IsHeaderRead {R E : Type 0} (reading : R → Reading) (old new : Reading) (h : UnitHeader R E) : Type 0 where
  pub count : ℕ
  pub passes : Passes count old new
  pub read : HeaderRead
  pub is : header_read old.is_big (left old) ≡ Ok read
  pub header : header_of h.fields ≡ read.header
  pub offset : h.offset.0 ≡ old.place
  pub body : reading h.body ≡ record old { place = old.place + read.size; end = new.place }
  pub entries : left (reading h.body) ≡ read.body
  pub rest : left new ≡ read.rest

-- the bytes of a unit's header, by the place of what follows it
abbrev pub header_size : {R E : Type 0} → (R → Reading) → UnitHeader R E → ℕ
header_size reading h = (reading h.body).place - h.offset.0

-- an offset lies behind the header, and in the unit
abbrev pub IsInside : {R E : Type 0} → (R → Reading) → UnitHeader R E → ℕ → Type 0
IsInside reading h offset = (header_size reading h ≤ offset) × (offset - header_size reading h < length (left (reading h.body)))

-- the same by the grammar, which the walk goes on from
pub record PassesUnit {R E : Type 0} (reading : R → Reading) (old new : UnitHeadersIter R E) (h : UnitHeader R E) : Type 0 where
  pub went_on : (old.has_failed ≡ false) × (new.has_failed ≡ false)
  pub unit : IsHeaderRead reading (reading old.input) (reading new.input) h
  pub grammar : header_at (reading old.input).is_big (left (reading old.input)) ≡ Some unit.read

-- the walk was at its end, or had failed
abbrev pub IsOver : {R E : Type 0} → (R → Reading) → UnitHeadersIter R E → Type 0
IsOver reading w = (w.has_failed ≡ true) ⊎ (length (left (reading w.input)) ≡ 0)

-- the walk wasn't over; the grammar reads no header, for this reason, and the walk ends where it stands
pub record HeaderRefused {R E : Type 0} (reading : R → Reading) (old new : UnitHeadersIter R E) (e : ReadError) : Type 0 where
  pub not_over : IsOver reading old → ⊥
  pub kept : new ≡ record old { has_failed = true }
  pub none : header_at (reading old.input).is_big (left (reading old.input)) ≡ None
  pub reason : header_read (reading old.input).is_big (left (reading old.input)) ≡ Err e

-- None at the end and after an error alone; else the header at the place, or the reason why there is none
abbrev pub ReadsHeader : {R E : Type 0} → (R → Reading) → UnitHeadersIter R E → UnitHeadersIter R E → Result (Option (UnitHeader R E)) ReadError → Type 0
ReadsHeader reading old new (Ok None) = (new ≡ old) × IsOver reading old
ReadsHeader reading old new (Ok (Some h)) = PassesUnit reading old new h
ReadsHeader reading old new (Err e) = HeaderRefused reading old new e
