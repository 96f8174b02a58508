-- .debug_info and .debug_abbrev, strictly: units without a gap, each one tree, their tables without a gap, no byte left over
-- (DWARF 5, 7.5.1 to 7.5.3).
use Rattle.std.specs.Prelude.{ℕ, zero, suc, ◌+◌, ◌-◌, List, [], ◌∷◌, length, map, Option, Some, None, Bool, ◌==◌}
use Rattle.dw_base.specs.Numbers.{◌>>=◌, when}
use Rattle.dw_base.specs.Abbreviations.{Declaration, table_at}
use Rattle.dw_base.specs.Headers.{Header, header_at}
use Rattle.dw_base.specs.Entries.{Row, rows_at, is_one_tree, children_of}

pub record ReadUnit : Type 0 where
  -- the place of its header in .debug_info
  pub from : ℕ
  pub header : Header
  pub table : List Declaration
  pub rows : List Row

-- the place in the section of a place in a unit
abbrev pub place_in_section : ReadUnit → ℕ → ℕ
place_in_section u place = u.from + place

-- the places of the unit's rows in the section
abbrev pub section_places : ReadUnit → List ℕ
section_places u = map (λ r. place_in_section u r.from) u.rows

-- Units from a place on, with the tables that stand from table_from on: each unit begins where the one before it ends, each
-- table where the one before it ends.
unfoldable pub units_at : ℕ → Bool → ℕ → ℕ → List ℕ → List ℕ → Option (List ReadUnit)
units_at fuel big from table_from [] [] = Some []
units_at fuel big from table_from [] (a ∷ more) = None
units_at zero big from table_from (b ∷ bs) tables = None
units_at (suc fuel) big from table_from (b ∷ bs) tables =
    header_at big (b ∷ bs) >>= λ h. when (h.header.table_offset == table_from) (table_at tables >>= λ table.
    rows_at (length h.body) big h.header.encoding table.0 h.size 0 h.body >>= λ rows.
    when (is_one_tree (map (λ r. children_of r.mark) rows))
    (units_at fuel big (from + (length (b ∷ bs) - length h.rest)) (table_from + (length tables - length table.1)) h.rest table.1 >>= λ more.
    Some (record { from = from; header = h.header; table = table.0; rows = rows } ∷ more)))

-- all units of the two sections
unfoldable pub read_info : Bool → List ℕ → List ℕ → Option (List ReadUnit)
read_info big info tables = units_at (length info) big 0 0 info tables
