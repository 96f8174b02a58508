-- The rows of a unit as a user holds them, one after the other.
use Rattle.std.proofs.Common.{◌≡◌, ◌∙◌, sym, ap, ℕ, ◌-◌, ◌≤◌, List, [], ◌∷◌, ◌++◌, length, map, Err, ◌<◌, refl}
use Rattle.std.proofs.lemmas.List.{map-append}
use Rattle.dw_base.specs.Abbreviations.{Declaration}
use Rattle.dw_base.specs.Entries.{Row as ReadRow}
use Rattle.dw_read.specs.Reading.{Reading, IsReading, left}
use Rattle.dw_read.specs.Rows.{BeginsAt, row_read}
use Rattle.dw_read.specs.declared.unit_header.UnitHeader.{UnitHeader}
use Rattle.dw_read.specs.declared.entries.EntriesRaw.{EntriesRaw}
use Rattle.dw_read.specs.declared.error.ReadError.{ReadError}
use Rattle.dw_read_units.specs.Passes.{rows_reading}
use Rattle.dw_read_units.proofs.RowWalk.{WalkedRows, row_here, walked_none as rows_none, walked_more as rows_more, walked_end as rows_end, walked_refused as rows_refused, row_shorter as passes_shorter}
use Rattle.example_read.specs.declared.row.Row.{Row}
use Rattle.example_read.specs.Seen.{shown_row, seen_row, SeesRow, SeesRows}

module _ {R E : Type 0} (reading : R → Reading) (h : UnitHeader R E) (table : List Declaration) where
  -- what is held are the rows that were read up to here
  pub record Walked (now : EntriesRaw R E) (rows : List (Row R E)) : Type 0 where
    pub front : List ReadRow
    pub seen : map (seen_row reading) rows ≡ map shown_row front
    pub walked : WalkedRows reading h table now front

  pub walked_none : (u : EntriesRaw R E) → h.offset.0 ≤ (reading h.body).place → BeginsAt reading h table u → Walked u []
  walked_none u l b = record { front = []; seen = refl; walked = rows_none reading h table u l b }

  pub walked_more : (old new : EntriesRaw R E) (rows next : List (Row R E)) (row : Row R E) → IsReading (reading old.input) → IsReading (reading new.input) → Walked old rows → SeesRow reading old new row → next ≡ rows ++ row ∷ [] → Walked new next
  walked_more old new rows next row i j w s q =
      let one = row_here reading h table old new s.mark in
      record {
        front = w.front ++ one ∷ [];
        seen = ap (map (seen_row reading)) q ∙ map-append (seen_row reading) rows (row ∷ [])
            ∙ ap (λ l. l ++ seen_row reading row ∷ []) w.seen
            ∙ ap (λ x. map shown_row w.front ++ x ∷ []) (s.seen ∙ ap (λ (n : ℕ). shown_row (record one { from = (reading old.input).place - n })) w.walked.start)
            ∙ sym (map-append shown_row w.front (one ∷ []));
        walked = rows_more reading h table old new w.front s.mark i j w.walked s.passes;
      }

  pub walked_end : (now : EntriesRaw R E) (rows : List (Row R E)) → Walked now rows → length (left (reading now.input)) ≡ 0 → SeesRows reading h table rows
  walked_end now rows w z = record { all = w.front; is = rows_end reading h table now w.front w.walked z; seen = w.seen }

  pub walked_refused : (now other : EntriesRaw R E) (rows : List (Row R E)) (y : ReadError) → Walked now rows → (length (left (reading now.input)) ≡ 0 → ⊥) → row_read reading now other (left (reading now.input)) ≡ Err y → rows_reading reading h table ≡ Err y
  walked_refused now other rows y w n r = rows_refused reading h table now other w.front y w.walked n r

-- a row takes a byte at least
pub row_shorter : {R E : Type 0} (reading : R → Reading) (old new : EntriesRaw R E) (row : Row R E) → SeesRow reading old new row → length (left (reading new.input)) < length (left (reading old.input))
row_shorter reading old new row s = passes_shorter reading old new s.mark s.passes
