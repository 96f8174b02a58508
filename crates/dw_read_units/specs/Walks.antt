-- All units of .debug_info one after the other, with their rows and the tables that their headers name, wherever those stand
-- (DWARF 5, 7.5.1 to 7.5.3).
use Rattle.std.specs.Prelude.{◌≡◌, ℕ, zero, suc, ◌+◌, ◌-◌, List, [], ◌∷◌, length, drop, map, Option, Some, None, Bool, Result, Ok, Err}
use Rattle.dw_base.specs.Numbers.{◌>>=◌}
use Rattle.dw_base.specs.Abbreviations.{Declaration, table_at}
use Rattle.dw_base.specs.Headers.{Header, header_at}
use Rattle.dw_base.specs.Entries.{ReadEntry, Mark, Open, Null, Row, next_depth, rows_at}
use Rattle.dw_base.specs.Info.{ReadUnit}
use Rattle.dw_base.specs.declared.common.Encoding.{Encoding}
use Rattle.dw_base.specs.declared.constants.TheConstants.{DW_AT_addr_base, DW_AT_GNU_addr_base, DW_AT_low_pc}
use Rattle.dw_read.specs.Reading.{Reading}
use Rattle.dw_read.specs.Reasons.{◌=>>◌, address_read}
use Rattle.dw_read.specs.Declarations.{table_read}
use Rattle.dw_read.specs.FormReasons.{mark_read}
use Rattle.dw_read.specs.Headers.{header_read}
use Rattle.dw_read.specs.Values.{Value}
use Rattle.dw_read.specs.declared.value.AttributeValue.TheVariants.{Addr, DebugAddrIndex}
use Rattle.dw_read.specs.declared.error.ReadError.{ReadError}
use Rattle.dw_read.specs.declared.error.ReadError.TheVariants.{UnexpectedEof, MissingUnitDie}
use Rattle.dw_read_units.specs.Lookups.{bytes_from, indexed}
use Rattle.dw_read_units.specs.Roots.{named_of, last_value, base_of}

-- a unit whose header stands at a place: its table and its rows, which begin behind its header
unfoldable pub unit_in : Bool → List ℕ → ℕ → Header → ℕ → List ℕ → Option ReadUnit
unit_in big tables from h size body =
    table_at (drop h.table_offset tables) >>= λ table. rows_at (length body) big h.encoding table.0 size 0 body >>= λ rows.
    Some (record { from = from; header = h; table = table.0; rows = rows })

-- the units from a place on
unfoldable pub units_in : ℕ → Bool → List ℕ → ℕ → List ℕ → Option (List ReadUnit)
units_in fuel big tables from [] = Some []
units_in zero big tables from (b ∷ bs) = None
units_in (suc fuel) big tables from (b ∷ bs) =
    header_at big (b ∷ bs) >>= λ h. unit_in big tables from h.header h.size h.body >>= λ unit.
    units_in fuel big tables (from + (length (b ∷ bs) - length h.rest)) h.rest >>= λ more. Some (unit ∷ more)

-- the rows of a unit from a place on, or the reason why one can't be read
unfoldable pub rows_read : ℕ → Bool → Encoding → List Declaration → ℕ → ℕ → List ℕ → Result (List Row) ReadError
rows_read fuel big e table from depth [] = Ok []
rows_read zero big e table from depth (b ∷ bs) = Err UnexpectedEof
rows_read (suc fuel) big e table from depth (b ∷ bs) =
    mark_read big e table (b ∷ bs) =>> λ x. let to = from + (length (b ∷ bs) - length x.1) in
    rows_read fuel big e table to (next_depth x.0 depth) x.1 =>> λ more.
    Ok (record { from = from; depth = depth; mark = x.0; to = to } ∷ more)

-- the address that a value is or leads to; where it is none, 0
abbrev pub low_pc_read : Reading → ℕ → ℕ → Option Value → Result ℕ ReadError
low_pc_read section base size (Some (Addr a)) = Ok a
low_pc_read section base size (Some (DebugAddrIndex i)) =
    address_read section.is_big size (bytes_from (indexed base i size) section) =>> λ x. Ok x.0
low_pc_read section base size v = Ok 0

-- the address of names and values
abbrev pub named_address : Reading → ℕ → List (ℕ × Value) → Result ℕ ReadError
named_address addresses size xs =
    low_pc_read addresses (base_of 0 DW_AT_addr_base.0 DW_AT_GNU_addr_base.0 xs) size (last_value DW_AT_low_pc.0 DW_AT_low_pc.0 xs)

-- the address of an entry that is a unit's root; no null entry is one
abbrev pub root_address : Reading → Encoding → Mark ReadEntry → Result ℕ ReadError
root_address addresses e (Open root) = named_address addresses e.address_size (map (named_of e) root.attributes)
root_address addresses e Null = Err MissingUnitDie

-- a unit whose header stands at a place: its table, the address of its root and its rows, or the reason why one can't be read
unfoldable pub unit_read : Bool → Reading → Reading → ℕ → Header → ℕ → List ℕ → Result ReadUnit ReadError
unit_read big tables addresses from h size body =
    table_read (bytes_from h.table_offset tables) =>> λ table. mark_read big h.encoding table.0 body =>> λ root.
    root_address addresses h.encoding root.0 =>> λ address. rows_read (length body) big h.encoding table.0 size 0 body =>> λ rows.
    Ok (record { from = from; header = h; table = table.0; rows = rows })

-- the units from a place on, or the reason why one can't be read
unfoldable pub units_read : ℕ → Bool → Reading → Reading → ℕ → List ℕ → Result (List ReadUnit) ReadError
units_read fuel big tables addresses from [] = Ok []
units_read zero big tables addresses from (b ∷ bs) = Err UnexpectedEof
units_read (suc fuel) big tables addresses from (b ∷ bs) =
    header_read big (b ∷ bs) =>> λ h. unit_read big tables addresses from h.header h.size h.body =>> λ unit.
    units_read fuel big tables addresses (from + (length (b ∷ bs) - length h.rest)) h.rest =>> λ more. Ok (unit ∷ more)

-- a unit begins with an entry, whose address can be read
abbrev pub BeginsWithRoot : Reading → Encoding → List Row → Type 0
BeginsWithRoot addresses e [] = ⊥
BeginsWithRoot addresses e (r ∷ rows) = (a : ℕ) × (root_address addresses e r.mark ≡ Ok a)

abbrev pub HasRoot : Reading → ReadUnit → Type 0
HasRoot addresses u = BeginsWithRoot addresses u.header.encoding u.rows
