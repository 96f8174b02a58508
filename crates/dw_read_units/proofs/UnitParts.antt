-- A unit, from its table, its root and its rows.
use Rattle.std.proofs.Common.{◌≡◌, sym, ap, subst, ℕ, List, map, Option, Some, Result, Ok, Err, ◌⊎◌, inl, inr, refl, length}
use Rattle.dw_base.specs.Abbreviations.{Declaration, table_at}
use Rattle.dw_base.specs.Entries.{ReadEntry, Mark, Open, Null, Row, mark_at}
use Rattle.dw_base.specs.declared.constants.TheConstants.{DW_AT_addr_base, DW_AT_GNU_addr_base, DW_AT_low_pc}
use Rattle.dw_read.specs.Reading.{Reading, left}
use Rattle.dw_read.specs.Reasons.{◌=>>◌, address_at, address_read}
use Rattle.dw_read.specs.Declarations.{table_read}
use Rattle.dw_read.specs.FormReasons.{mark_read}
use Rattle.dw_read.specs.Fields.{header_of}
use Rattle.dw_read.specs.UnitHeaders.{header_size}
use Rattle.dw_read.specs.Values.{Value}
use Rattle.dw_read.specs.declared.value.AttributeValue.TheVariants.{Addr, DebugAddrIndex}
use Rattle.dw_read.specs.declared.unit_header.UnitHeader.{UnitHeader}
use Rattle.dw_read.specs.declared.error.ReadError.{ReadError}
use Rattle.dw_read.specs.declared.error.ReadError.TheVariants.{NoMemory}
use Rattle.dw_read.proofs.Laws.{read_is, address_law}
use Rattle.dw_read.proofs.FormLaws.{mark_law}
use Rattle.dw_read.proofs.TableLaws.{table_law}
use Rattle.dw_read_units.specs.Lookups.{bytes_from, indexed}
use Rattle.dw_read_units.specs.Roots.{named_of, last_value, base_of}
use Rattle.dw_read_units.specs.RootFields.{IsLowPc, MissesLowPc}
use Rattle.dw_read_units.specs.UnitReads.{IsUnit, MissesRoot, MissesAddress, MissesRest, MissesUnit}
use Rattle.dw_read_units.specs.Walks.{low_pc_read, root_address, rows_read, unit_read}
use Rattle.dw_read_units.specs.declared.dwarf.Dwarf.{Dwarf}
use Rattle.dw_read_units.specs.declared.dwarf.Unit.{Unit as ReadUnitFields}
use Rattle.dw_read_units.proofs.WalkLaws.{address_base}
use Rattle.dw_read_units.specs.Passes.{unit_reading, rows_reading}

low_pc_is : (section : Reading) (base size : ℕ) (v : Option Value) (x : ℕ) → IsLowPc section base size v x → low_pc_read section base size v ≡ Ok x
low_pc_is section base size (Some (Addr a)) x h = ap (λ (n : ℕ). Ok n) (sym h)
low_pc_is section base size (Some (DebugAddrIndex i)) x h =
    ap (λ r. r =>> λ y. Ok y.0) (read_is ℕ (address_at section.is_big size) (address_read section.is_big size) (bytes_from (indexed base i size) section) (x, h.rest) (address_law section.is_big size) h.is)
low_pc_is section base size v x h = ap (λ (n : ℕ). Ok n) (sym h)

low_pc_misses : (section : Reading) (base size : ℕ) (v : Option Value) (e : ReadError) → MissesLowPc section base size v e → low_pc_read section base size v ≡ Err e
low_pc_misses section base size (Some (DebugAddrIndex i)) e h = ap (λ r. r =>> λ y. Ok y.0) h.reason
low_pc_misses section base size v e h = absurd h

module _ {R E : Type 0} (reading : R → Reading) (d : Dwarf R E) (h : UnitHeader R E) where
  table_there : (table : List Declaration) (rest : List ℕ) → table_at (bytes_from h.fields.table_offset (reading d.debug_abbrev)) ≡ Some (table, rest) → table_read (bytes_from h.fields.table_offset (reading d.debug_abbrev)) ≡ Ok (table, rest)
  table_there table rest e = read_is (List Declaration) table_at table_read (bytes_from h.fields.table_offset (reading d.debug_abbrev)) (table, rest) table_law e

  mark_there : (table : List Declaration) (m : Mark ReadEntry) (rest : List ℕ) → mark_at (reading h.body).is_big h.fields.encoding table (left (reading h.body)) ≡ Some (m, rest) → mark_read (reading h.body).is_big h.fields.encoding table (left (reading h.body)) ≡ Ok (m, rest)
  mark_there table m rest e = read_is (Mark ReadEntry) (mark_at (reading h.body).is_big h.fields.encoding table) (mark_read (reading h.body).is_big h.fields.encoding table) (left (reading h.body)) (m, rest) (mark_law (reading h.body).is_big h.fields.encoding table) e

  -- what follows the table
  abbrev rows_after : List Declaration → Result (List Row) ReadError
  rows_after table = rows_read (length (left (reading h.body))) (reading h.body).is_big h.fields.encoding table (header_size reading h) 0 (left (reading h.body))

  no_table : (y : ReadError) → table_read (bytes_from h.fields.table_offset (reading d.debug_abbrev)) ≡ Err y → unit_reading reading d h ≡ Err y
  unfolding unit_read
  no_table y t = rw t refl

  no_root : (table : List Declaration) (rest : List ℕ) (y : ReadError) → table_read (bytes_from h.fields.table_offset (reading d.debug_abbrev)) ≡ Ok (table, rest) → mark_read (reading h.body).is_big h.fields.encoding table (left (reading h.body)) ≡ Err y → unit_reading reading d h ≡ Err y
  unfolding unit_read
  no_root table rest y t m = rw (t, m) refl

  no_address : (table : List Declaration) (rest more : List ℕ) (root : Mark ReadEntry) (y : ReadError) → table_read (bytes_from h.fields.table_offset (reading d.debug_abbrev)) ≡ Ok (table, rest) → mark_read (reading h.body).is_big h.fields.encoding table (left (reading h.body)) ≡ Ok (root, more)
      → root_address (reading d.debug_addr) h.fields.encoding root ≡ Err y → unit_reading reading d h ≡ Err y
  unfolding unit_read
  no_address table rest more root y t m a = rw (t, m, a) refl

  -- the parts before the rows
  record Begun (table : List Declaration) : Type 0 where
    rest : List ℕ
    more : List ℕ
    root : Mark ReadEntry
    address : ℕ
    table_is : table_read (bytes_from h.fields.table_offset (reading d.debug_abbrev)) ≡ Ok (table, rest)
    root_is : mark_read (reading h.body).is_big h.fields.encoding table (left (reading h.body)) ≡ Ok (root, more)
    address_is : root_address (reading d.debug_addr) h.fields.encoding root ≡ Ok address

  no_rows : (table : List Declaration) (y : ReadError) → Begun table → rows_after table ≡ Err y → unit_reading reading d h ≡ Err y
  unfolding unit_read
  no_rows table y b r = rw (b.table_is, b.root_is, b.address_is, r) refl

  whole : (table : List Declaration) (rows : List Row) → Begun table → rows_after table ≡ Ok rows → unit_reading reading d h ≡ Ok (record { from = h.offset.0; header = header_of h.fields; table = table; rows = rows })
  unfolding unit_read
  whole table rows b r = rw (b.table_is, b.root_is, b.address_is, r) refl

  begun : (u : ReadUnitFields R E) → IsUnit reading d h u → Begun u.abbreviations
  begun u i =
      let xs = map (named_of h.fields.encoding) i.root.attributes in
      let base = base_of 0 DW_AT_addr_base.0 DW_AT_GNU_addr_base.0 xs in
      record {
        rest = i.table.rest;
        more = i.rest;
        root = Open i.root;
        address = u.low_pc;
        table_is = table_there u.abbreviations i.table.rest i.table.is;
        root_is = mark_there u.abbreviations (Open i.root) i.rest i.row;
        address_is = low_pc_is (reading d.debug_addr) base h.fields.encoding.address_size (last_value DW_AT_low_pc.0 DW_AT_low_pc.0 xs) u.low_pc
            (subst (λ (b : ℕ). IsLowPc (reading d.debug_addr) b h.fields.encoding.address_size (last_value DW_AT_low_pc.0 DW_AT_low_pc.0 xs) u.low_pc) (address_base reading d h xs u i.fields) i.fields.low_pc);
      }

  same_rows : (g : UnitHeader R E) (table : List Declaration) (y : Result (List Row) ReadError) → g ≡ h → rows_read (length (left (reading g.body))) (reading g.body).is_big g.fields.encoding table (header_size reading g) 0 (left (reading g.body)) ≡ y → rows_after table ≡ y
  same_rows g table y q r = subst (λ (x : UnitHeader R E). rows_read (length (left (reading x.body))) (reading x.body).is_big x.fields.encoding table (header_size reading x) 0 (left (reading x.body)) ≡ y) q r

  pub unit_whole : (u : ReadUnitFields R E) (rows : List Row) → IsUnit reading d h u → rows_reading reading u.header u.abbreviations ≡ Ok rows
      → unit_reading reading d h ≡ Ok (record { from = h.offset.0; header = header_of h.fields; table = u.abbreviations; rows = rows })
  unit_whole u rows i r = whole u.abbreviations rows (begun u i) (same_rows u.header u.abbreviations (Ok rows) i.header r)

  pub misses_rows : (u : ReadUnitFields R E) (y : ReadError) → IsUnit reading d h u → rows_reading reading u.header u.abbreviations ≡ Err y → unit_reading reading d h ≡ Err y
  misses_rows u y i r = no_rows u.abbreviations y (begun u i) (same_rows u.header u.abbreviations (Err y) i.header r)

  misses_root : (table : List Declaration) (rest : List ℕ) (y : ReadError) → table_read (bytes_from h.fields.table_offset (reading d.debug_abbrev)) ≡ Ok (table, rest) → MissesRoot reading h table y → (y ≡ NoMemory) ⊎ (unit_reading reading d h ≡ Err y)
  misses_root table rest y t (inl m) = inl m
  misses_root table rest y t (inr (inl r)) = inr (no_root table rest y t r.reason)
  misses_root table rest y t (inr (inr n)) = inr (no_address table rest n.rest Null y t (mark_there table Null n.rest n.row) (ap (λ (e : ReadError). Err e) (sym n.is)))

  misses_address : (table : List Declaration) (rest : List ℕ) (y : ReadError) → table_read (bytes_from h.fields.table_offset (reading d.debug_abbrev)) ≡ Ok (table, rest) → MissesAddress reading d h table y → unit_reading reading d h ≡ Err y
  misses_address table rest y t m =
      let xs = map (named_of h.fields.encoding) m.root.attributes in
      no_address table rest m.rest (Open m.root) y t (mark_there table (Open m.root) m.rest m.row) (low_pc_misses (reading d.debug_addr) (base_of 0 DW_AT_addr_base.0 DW_AT_GNU_addr_base.0 xs) h.fields.encoding.address_size (last_value DW_AT_low_pc.0 DW_AT_low_pc.0 xs) y m.misses)

  misses_rest : (y : ReadError) (m : MissesRest reading d h y) (o : MissesRoot reading h m.declarations y ⊎ MissesAddress reading d h m.declarations y) → (y ≡ NoMemory) ⊎ (unit_reading reading d h ≡ Err y)
  misses_rest y m (inl r) = misses_root m.declarations m.table.rest y (table_there m.declarations m.table.rest m.table.is) r
  misses_rest y m (inr a) = inr (misses_address m.declarations m.table.rest y (table_there m.declarations m.table.rest m.table.is) a)

  pub misses_unit : (y : ReadError) → MissesUnit reading d h y → (y ≡ NoMemory) ⊎ (unit_reading reading d h ≡ Err y)
  misses_unit y (inl m) = inl m
  misses_unit y (inr (inl t)) = inr (no_table y t.reason)
  misses_unit y (inr (inr m)) = misses_rest y m m.misses
