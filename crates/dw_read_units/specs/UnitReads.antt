-- What reading a unit answers.
use Rattle.std.specs.Prelude.{◌≡◌, ◌⊎◌, ℕ, List, map, All, Some}
use Rattle.dw_base.specs.Abbreviations.{Declaration, table_at}
use Rattle.dw_base.specs.declared.constants.TheConstants.{DW_AT_low_pc, DW_AT_name, DW_AT_comp_dir}
use Rattle.dw_base.specs.Entries.{ReadEntry, Mark, Open, Null, mark_at}
use Rattle.dw_base.specs.Numbers.{Parser}
use Rattle.dw_read.specs.Reading.{Reading, Read, Refuses, left}
use Rattle.dw_read.specs.Took.{option_of}
use Rattle.dw_read.specs.Declarations.{table_read}
use Rattle.dw_read.specs.FormReasons.{mark_read}
use Rattle.dw_read.specs.Values.{Value}
use Rattle.dw_read.specs.Rows.{entry_of}
use Rattle.dw_read.specs.declared.unit_header.UnitHeader.{UnitHeader}
use Rattle.dw_read.specs.declared.entry.DebuggingInformationEntry.{DebuggingInformationEntry}
use Rattle.dw_read.specs.declared.error.ReadError.{ReadError}
use Rattle.dw_read.specs.declared.error.ReadError.TheVariants.{NoMemory, MissingUnitDie}
use Rattle.dw_read_units.specs.Lookups.{StandsAt, IsMissing}
use Rattle.dw_read_units.specs.Roots.{named_of, last_value, program_in}
use Rattle.dw_read_units.specs.RootFields.{bases_of, IsLowPc, MissesLowPc}
use Rattle.dw_read_units.specs.Texts.{root_text, unit_id}
use Rattle.dw_read_units.specs.declared.dwarf.Dwarf.{Dwarf}
use Rattle.dw_read_units.specs.declared.dwarf.Unit.{Unit as ReadUnit}

module _ {R E : Type 0} (reading : R → Reading) (h : UnitHeader R E) (table : List Declaration) where
  -- the grammar of a row of the unit
  abbrev pub root_at : Parser (Mark ReadEntry)
  root_at = mark_at (reading h.body).is_big h.fields.encoding table

  abbrev pub root_read : Read (Mark ReadEntry)
  root_read = mark_read (reading h.body).is_big h.fields.encoding table

  -- the unit's first row is the entry
  pub record IsRoot (d : DebuggingInformationEntry R E) : Type 0 where
    pub code : ℕ
    pub rest : List ℕ
    pub row : root_at (left (reading h.body)) ≡ Some (Open (entry_of reading code d), rest)
    pub encoded : All (λ a. a.encoding ≡ h.fields.encoding) d.attrs.items

  -- the first row is a null entry
  pub record HasNoRoot (e : ReadError) : Type 0 where
    pub rest : List ℕ
    pub row : root_at (left (reading h.body)) ≡ Some (Null, rest)
    pub is : e ≡ MissingUnitDie

  -- there is no first row for this reason, or it is a null entry
  abbrev pub MissesRoot : ReadError → Type 0
  MissesRoot e = (e ≡ NoMemory) ⊎ (Refuses (Mark ReadEntry) root_at root_read (reading h.body) e ⊎ HasNoRoot e)

module _ {R E : Type 0} (reading : R → Reading) (d : Dwarf R E) (h : UnitHeader R E) where
  -- the fields of a unit with the header, whose root has these names and values
  pub record HasFields (xs : List (ℕ × Value)) (u : ReadUnit R E) : Type 0 where
    pub bases : record { str_offsets = u.str_offsets_base; addr = u.addr_base; loclists = u.loclists_base; rnglists = u.rnglists_base } ≡ bases_of h xs
    pub low_pc : IsLowPc (reading d.debug_addr) u.addr_base h.fields.encoding.address_size (last_value DW_AT_low_pc.0 DW_AT_low_pc.0 xs) u.low_pc
    pub name : option_of (λ r. left (reading r)) u.name ≡ root_text (reading d.debug_str) (reading d.debug_line_str) (reading d.debug_str_offsets) u.str_offsets_base h.fields.encoding.format (last_value DW_AT_name.0 DW_AT_name.0 xs)
    pub directory : option_of (λ r. left (reading r)) u.comp_dir ≡ root_text (reading d.debug_str) (reading d.debug_line_str) (reading d.debug_str_offsets) u.str_offsets_base h.fields.encoding.format (last_value DW_AT_comp_dir.0 DW_AT_comp_dir.0 xs)
    pub program : u.line_program ≡ program_in xs
    pub id : u.dwo_id ≡ unit_id h.fields xs

  -- the table at the header's offset, and the root that its rows begin with
  pub record IsUnit (u : ReadUnit R E) : Type 0 where
    pub header : u.header ≡ h
    pub table : StandsAt (List Declaration) table_at h.fields.table_offset (reading d.debug_abbrev) u.abbreviations
    pub root : ReadEntry
    pub rest : List ℕ
    pub row : root_at reading h u.abbreviations (left (reading h.body)) ≡ Some (Open root, rest)
    pub fields : HasFields (map (named_of h.fields.encoding) root.attributes) u

  -- the root's address stands for an index that leads to none
  pub record MissesAddress (declarations : List Declaration) (e : ReadError) : Type 0 where
    pub root : ReadEntry
    pub rest : List ℕ
    pub row : root_at reading h declarations (left (reading h.body)) ≡ Some (Open root, rest)
    pub misses : MissesLowPc (reading d.debug_addr) (bases_of h (map (named_of h.fields.encoding) root.attributes)).addr h.fields.encoding.address_size (last_value DW_AT_low_pc.0 DW_AT_low_pc.0 (map (named_of h.fields.encoding) root.attributes)) e

  -- there is a table, and no root after it, or one whose address can't be read
  pub record MissesRest (e : ReadError) : Type 0 where
    pub declarations : List Declaration
    pub table : StandsAt (List Declaration) table_at h.fields.table_offset (reading d.debug_abbrev) declarations
    pub misses : MissesRoot reading h declarations e ⊎ MissesAddress declarations e

  abbrev pub MissesUnit : ReadError → Type 0
  MissesUnit e = (e ≡ NoMemory) ⊎ (IsMissing (List Declaration) table_at table_read h.fields.table_offset (reading d.debug_abbrev) e ⊎ MissesRest e)
