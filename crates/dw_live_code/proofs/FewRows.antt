-- A unit has fewer entries than its section has bytes.
use Rattle.std.proofs.Common.{◌≡◌, ap, ℕ, zero, suc, ◌+◌, ◌-◌, ◌<◌, ◌≤◌, ◌^◌, Bool, true, false, List, [], ◌∷◌, length, Result, Ok, arith, refl, replicate}
use Rattle.std.specs.Prelude.{if◌then◌else◌}
use Rattle.std.proofs.lemmas.Option.{slice_get_within}
use Rattle.dw_base.specs.Abbreviations.{Declaration}
use Rattle.dw_base.specs.Entries.{Row, next_depth}
use Rattle.dw_base.specs.declared.common.Encoding.{Encoding}
use Rattle.dw_read.proofs.Items.{then_parts}
use Rattle.dw_read.proofs.Lefts.{length-left}
use Rattle.dw_read.specs.FormReasons.{mark_read}
use Rattle.dw_read.specs.Reading.{IsReading, Reading, left}
use Rattle.dw_read.specs.Reasons.{◌=>>◌}
use Rattle.dw_read.specs.UnitHeaders.{header_size}
use Rattle.dw_read.specs.declared.error.ReadError.{ReadError}
use Rattle.dw_read_units.specs.Walks.{rows_read}
use Rattle.dw_read_units.specs.declared.dwarf.Unit.{Unit as UnitFields}
use Rattle.dw_entry_ids.specs.Ids.{entry_count, is_entry}
use Rattle.dw_filter.specs.FileGraph.{HasUnit, count_at}
use Rattle.dw_live_code.specs.FileUnits.{CountAll, most_entries}

same_rows : (xs ys : List Row) → ◌≡◌ {A = Result (List Row) ReadError} (Ok xs) (Ok ys) → xs ≡ ys
same_rows xs ys h = cc

-- as many rows are read as there is fuel, at most
rows_few : (fuel : ℕ) (big : Bool) (e : Encoding) (table : List Declaration) (from depth : ℕ) (bytes : List ℕ) (rows : List Row) → rows_read fuel big e table from depth bytes ≡ Ok rows → length rows ≤ fuel
unfolding rows_read
rows_few zero big e table from depth [] rows h = let s : 0 ≡ length rows = ap (λ (xs : List Row). length xs) (same_rows [] rows h) in omega (arith, s)
rows_few (suc fuel) big e table from depth [] rows h = let s : 0 ≡ length rows = ap (λ (xs : List Row). length xs) (same_rows [] rows h) in omega (arith, s)
rows_few zero big e table from depth (b ∷ bs) rows h = absurd (cc)
rows_few (suc fuel) big e table from depth (b ∷ bs) rows h =
    let p = then_parts (mark_read big e table (b ∷ bs))
    (λ x. rows_read fuel big e table (from + (length (b ∷ bs) - length x.1)) (next_depth x.0 depth) x.1 =>> λ more. Ok (record { from = from; depth = depth; mark = x.0; to = from + (length (b ∷ bs) - length x.1) } ∷ more)) rows h in
    let x = p.0 in
    let to = from + (length (b ∷ bs) - length x.1) in
    let q = then_parts (rows_read fuel big e table to (next_depth x.0 depth) x.1) (λ more. Ok (record { from = from; depth = depth; mark = x.0; to = to } ∷ more)) rows p.2 in
    let l : length q.0 ≤ fuel = rows_few fuel big e table to (next_depth x.0 depth) x.1 q.0 q.1 in
    let row : Row = record { from = from; depth = depth; mark = x.0; to = to } in
    let s : length (row ∷ q.0) ≡ length rows = ap (λ (xs : List Row). length xs) {x = row ∷ q.0} {y = rows} (same_rows (row ∷ q.0) rows q.2) in
    omega (arith, l, s)

entries_few : (rows : List Row) → entry_count rows ≤ length rows
entries_few [] = omega arith
entries_few (r ∷ rows) = go (is_entry r.mark) (entries_few rows)
  where
    go : (b : Bool) → entry_count rows ≤ length rows → (if b then 1 else 0) + entry_count rows ≤ suc (length rows)
    go true l = omega (arith, l)
    go false l = omega (arith, l)

-- so all entries of all units count
pub all_count : {R E : Type 0} (reading : R → Reading) (law : (x : R) → IsReading (reading x)) (units : List (UnitFields R E)) (counts : List ℕ) → CountAll units counts → (i : ℕ) (u : HasUnit reading units i) → entry_count u.rows ≤ count_at counts i + 1
all_count reading law units counts all i u =
    let h = u.unit.header in
    let within : i < length units = slice_get_within units i u.unit u.stands in
    let most : count_at counts i ≡ most_entries = all i within in
    let few : length u.rows ≤ length (left (reading h.body)) = rows_few (length (left (reading h.body))) (reading h.body).is_big h.fields.encoding u.unit.abbreviations (header_size reading h) 0 (left (reading h.body)) u.rows u.are in
    let k = law h.body in
    let bytes : length (left (reading h.body)) ≡ (reading h.body).end - (reading h.body).place = length-left (reading h.body) k in
    let small : (reading h.body).end < 2 ^ 64 = k.small in
    let e : entry_count u.rows ≤ length u.rows = entries_few u.rows in
    omega (arith, most, few, bytes, small, e)

-- a number for each is that number of each
pub counted : (n m i : ℕ) → i < n → count_at (replicate n m) i ≡ m
counted zero m i l = absurd (omega (arith, l))
counted (suc n) m zero l = refl
counted (suc n) m (suc i) l = counted n m i (omega (arith, l))
