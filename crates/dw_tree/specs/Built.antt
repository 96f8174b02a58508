-- The units that are read are those that were built.
use Rattle.std.specs.Prelude.{◌≡◌, ℕ, suc, ◌+◌, Bool, List, [], ◌∷◌, length, map, take, drop, Option, Some, None, ◌==◌, if◌then◌else◌}
use Rattle.dw_base.specs.Entries.{Mark, Open, Null, Row, past_row}
use Rattle.dw_base.specs.Info.{ReadUnit, read_info}
use Rattle.dw_base.specs.Spelling.{header_size, unit_type_of}
use Rattle.dw_writer.specs.Layout.{Layout}
use Rattle.dw_writer.specs.Drafts.{Info}
use Rattle.dw_entries.specs.Targets.{Tables, Targets, targets_in}
use Rattle.dw_entries.specs.Tree.{preorder}
use Rattle.dw_tree.specs.Places.{Placement, Offsets, found, targets_of, info_from}
use Rattle.dw_tree.specs.Read.{read_tree}
use Rattle.dw_tree.specs.UnitValue.{UnitValue}
use Rattle.dw_tree.specs.Elsewhere.{Elsewhere, unit_tables, past_parts}
use Rattle.dw_tree.specs.Whole.{tree_declared, tree_size, tree_table, settled}

-- where the row is read that has the same number in preorder as an entry
abbrev pub place_read : List (Mark ℕ) → List Row → ℕ → ℕ
place_read [] rows i = 0
place_read (m ∷ ms) [] i = 0
place_read (Open j ∷ ms) (r ∷ rows) i = if j == i then r.from else place_read ms rows i
place_read (Null ∷ ms) (r ∷ rows) i = place_read ms rows i

-- the place past the entry of the row that has the same number in preorder as an entry
abbrev pub past_read : List (Mark ℕ) → List Row → ℕ → ℕ
past_read [] rows i = 0
past_read (m ∷ ms) [] i = 0
past_read (Open j ∷ ms) (r ∷ rows) i = if j == i then past_row r rows else past_read ms rows i
past_read (Null ∷ ms) (r ∷ rows) i = past_read ms rows i

-- where the entries of a tree are read
abbrev pub placement_read : List (Mark ℕ) → List Row → Placement
placement_read ms rows = record { place = place_read ms rows; past = past_read ms rows }

abbrev pub places_read : UnitValue → ReadUnit → Placement
places_read u r = placement_read (preorder u.entries) r.rows

-- A unit, the number by which references name it, and where what stands for it in other sections has its places.
pub record Numbered : Type 0 where
  pub id : ℕ
  pub unit : UnitValue
  pub tables : Tables

-- a unit as it is written, which finds this elsewhere
abbrev pub settled_at : ℕ → Elsewhere → UnitValue → Numbered
settled_at n t u = record { id = n; unit = settled u; tables = unit_tables t u }

-- units in the order of their numbers, the first of which has this one, as they are written
abbrev pub numbered_from : ℕ → Elsewhere → List UnitValue → List Numbered
numbered_from n t [] = []
numbered_from n t (u ∷ us) = settled_at n t u ∷ numbered_from (suc n) (past_parts t u) us

abbrev pub numbered : Elsewhere → List UnitValue → List Numbered
numbered t us = numbered_from 0 t us

-- where the entries of a unit are read
abbrev pub unit_offsets_read : UnitValue → ReadUnit → Offsets
unit_offsets_read u r = record { start = r.from; place = found (places_read u r).place }

-- the same of the one of these units that has a number
abbrev pub offsets_read : List Numbered → List ReadUnit → ℕ → Option Offsets
offsets_read [] rs n = None
offsets_read (u ∷ us) [] n = None
offsets_read (u ∷ us) (r ∷ rs) n = if u.id == n then Some (unit_offsets_read u.unit r) else offsets_read us rs n

-- where an entry of one of these units is read in .debug_info
abbrev pub info_read : List Numbered → List ReadUnit → Info
info_read us rs = info_from (offsets_read us rs)

-- what the operands of a unit lead to that is read among those of its file
abbrev pub targets_read : List Numbered → List ReadUnit → Layout → Numbered → ReadUnit → Targets
targets_read us rs l u r = targets_in (targets_of u.tables (places_read u.unit r)) l (info_read us rs)

-- A unit that is read has the encoding that was built, and in version 5 the type of a compile unit. Its entries are the
-- tree's, in preorder, with a closing zero behind each list of children that isn't empty: tags, names, forms and operands are
-- those of the entries, and each code stands for the entry's shape. A reference holds the place where its entry is read, and
-- a sibling attribute, which stands first, the place past its own entry. Its table declares the shapes, each once, in the
-- order in which each first comes, with the codes 1, 2, 3 and so on.
pub record IsBuilt (big : Bool) (l : Layout) (us : List Numbered) (rs : List ReadUnit) (u : Numbered) (r : ReadUnit) : Type 0 where
  pub encoding : r.header.encoding ≡ u.unit.encoding
  pub unit_type : r.header.unit_type ≡ unit_type_of u.unit.encoding.version
  pub entries : read_tree big u.unit.encoding (targets_read us rs l u r) u.unit.entries ≡ Some (map (λ row. row.mark) r.rows)
  pub declarations : r.table ≡ tree_declared u.unit.encoding u.unit.entries

-- the bytes of a unit that is read, and of its table, in the shortest spelling
abbrev pub unit_size : UnitValue → ReadUnit → ℕ
unit_size u r = header_size u.encoding + tree_size u.encoding u.entries (places_read u r).place

abbrev pub table_size : UnitValue → ℕ
table_size u = length (tree_table u.encoding u.entries)

-- Where a unit and its table are to begin.
pub record Starts : Type 0 where
  pub info : ℕ
  pub abbrevs : ℕ

-- behind a unit and its table
abbrev pub past_unit : Starts → UnitValue → ReadUnit → Starts
past_unit at u r = record { info = at.info + unit_size u r; abbrevs = at.abbrevs + table_size u }

-- a unit begins there, and its table
pub record BeginsAt (at : Starts) (r : ReadUnit) : Type 0 where
  pub unit : r.from ≡ at.info
  pub table : r.header.table_offset ≡ at.abbrevs

-- As many units, each as it was built, and each where the one before it ends. The units are among those of one file, of
-- which each reference across units names one.
module _ (big : Bool) (l : Layout) (us : List Numbered) (rs : List ReadUnit) where
  abbrev pub AreBuilt : Starts → List Numbered → List ReadUnit → Type 0
  AreBuilt at [] [] = Unit {0}
  AreBuilt at [] (r ∷ more) = ⊥
  AreBuilt at (u ∷ others) [] = ⊥
  AreBuilt at (u ∷ others) (r ∷ more) = IsBuilt big l us rs u r × BeginsAt at r × AreBuilt (past_unit at u.unit r) others more

-- where as many units and their tables end
abbrev pub past_units : Starts → List Numbered → List ReadUnit → Starts
past_units at [] rs = at
past_units at (u ∷ us) [] = at
past_units at (u ∷ us) (r ∷ rs) = past_units (past_unit at u.unit r) us rs

-- the units of a file in the order in which they stand, and where its sections stand among the joined ones
pub record File : Type 0 where
  pub units : List Numbered
  pub layout : Layout

-- Files one behind another, to the last byte of the sections. Each reference leads to an entry of its own file.
abbrev pub AreFilesBuilt : Bool → Starts → Starts → List File → List ReadUnit → Type 0
AreFilesBuilt big at end [] rs = (rs ≡ []) × (at ≡ end)
AreFilesBuilt big at end (f ∷ fs) rs =
    let own = take (length f.units) rs in
    AreBuilt big f.layout f.units own at f.units own × AreFilesBuilt big (past_units at f.units own) end fs (drop (length f.units) rs)

-- where sections begin, and where these end
abbrev pub at_begin : Starts
at_begin = record { info = 0; abbrevs = 0 }

abbrev pub at_end : List ℕ → List ℕ → Starts
at_end info abbrevs = record { info = length info; abbrevs = length abbrevs }

-- The two sections are read, to their last byte, as exactly these files' units, in the shortest spelling.
pub record Built (files : List File) (big : Bool) (info abbrevs : List ℕ) : Type 0 where
  pub read : List ReadUnit
  pub reads : read_info big info abbrevs ≡ Some read
  pub units_are : AreFilesBuilt big at_begin (at_end info abbrevs) files read

-- every section starts at 0, and there are no symbols
abbrev pub at_zero : Layout
at_zero = record { starts = []; own_start = 0; symbols = [] }

-- one file whose sections are whole, as a plain writer holds them
abbrev pub whole_file : Elsewhere → List UnitValue → File
whole_file t us = record { units = numbered t us; layout = at_zero }
