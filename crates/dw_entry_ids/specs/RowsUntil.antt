-- The rows of a unit up to the first that can't be read (DWARF 5, 7.5.2 and 7.5.3).
use Rattle.std.specs.Prelude.{ℕ, zero, suc, ◌+◌, ◌-◌, List, [], ◌∷◌, length, Option, Some, None, Bool, Result, Ok, Err}
use Rattle.dw_base.specs.Abbreviations.{Declaration}
use Rattle.dw_base.specs.Entries.{ReadEntry, Mark, Row, next_depth}
use Rattle.dw_base.specs.declared.common.Encoding.{Encoding}
use Rattle.dw_read.specs.FormReasons.{mark_read}
use Rattle.dw_read.specs.Reading.{Reading, left}
use Rattle.dw_read.specs.UnitHeaders.{header_size}
use Rattle.dw_read.specs.declared.error.ReadError.{ReadError}
use Rattle.dw_read.specs.declared.error.ReadError.TheVariants.{UnexpectedEof}
use Rattle.dw_read_units.specs.declared.dwarf.Unit.{Unit as UnitFields}

-- rows, and why the one behind them can't be read, where there is one
pub record RowsUntil : Type 0 where
  pub rows : List Row
  pub fault : Option ReadError

abbrev pub with_row : Row → RowsUntil → RowsUntil
with_row r x = record { rows = r ∷ x.rows; fault = x.fault }

module _ (big : Bool) (e : Encoding) (table : List Declaration) where
  -- the row at the front of bytes, and those behind it
  abbrev pub rows_from : (ℕ → ℕ → List ℕ → RowsUntil) → ℕ → ℕ → List ℕ → Result (Mark ReadEntry × List ℕ) ReadError → RowsUntil
  rows_from more from depth bytes (Err why) = record { rows = []; fault = Some why }
  rows_from more from depth bytes (Ok x) =
      let to = from + (length bytes - length x.1) in
      with_row (record { from = from; depth = depth; mark = x.0; to = to }) (more to (next_depth x.0 depth) x.1)

  -- the rows from a place on; each has a byte at least
  unfoldable pub rows_until : ℕ → ℕ → ℕ → List ℕ → RowsUntil
  rows_until fuel from depth [] = record { rows = []; fault = None }
  rows_until zero from depth (b ∷ bs) = record { rows = []; fault = Some UnexpectedEof }
  rows_until (suc fuel) from depth (b ∷ bs) = rows_from (rows_until fuel) from depth (b ∷ bs) (mark_read big e table (b ∷ bs))

-- the rows of a unit
abbrev pub unit_rows_until : {R E : Type 0} → (R → Reading) → UnitFields R E → RowsUntil
unit_rows_until reading u =
    rows_until (reading u.header.body).is_big u.header.fields.encoding u.abbreviations (length (left (reading u.header.body))) (header_size reading u.header) 0 (left (reading u.header.body))
