-- What calls over the rows of a unit read.
use Rattle.std.specs.Prelude.{◌≡◌, ◌⊎◌, ℕ, ◌+◌, ◌-◌, ◌<◌, ◌≤◌, length, ◌^◌, min, List, map, All, Bool, true, false, Option, Some, None, Result, Ok, Err, ℤ, pos}
use Rattle.std.specs.Borrow.{Bor}
use Rattle.dw_base.specs.Numbers.{Parser}
use Rattle.dw_base.specs.Leb128.{uleb_at}
use Rattle.dw_base.specs.Abbreviations.{Declaration, shape_of_code}
use Rattle.dw_base.specs.Entries.{ReadAttribute, ReadEntry, Mark, Open, Null, attributes_at, mark_at}
use Rattle.dw_base.specs.declared.common.Encoding.{Encoding}
use Rattle.dw_read.specs.Reading.{Reading, Read, Passes, Reads, Refuses, left}
use Rattle.dw_read.specs.UnitHeaders.{header_size}
use Rattle.dw_read.specs.Took.{Took}
use Rattle.dw_read.specs.Reasons.{uleb_read}
use Rattle.dw_read.specs.Orders.{attribute_order, IsInOrder}
use Rattle.dw_read.specs.Attributes.{attribute_of}
use Rattle.dw_read.specs.FormReasons.{attributes_read, mark_read}
use Rattle.dw_read.specs.declared.entries.EntriesRaw.{EntriesRaw}
use Rattle.dw_read.specs.declared.entry.DebuggingInformationEntry.{DebuggingInformationEntry}
use Rattle.dw_read.specs.declared.unit_header.UnitHeader.{UnitHeader}
use Rattle.dw_read.specs.declared.error.ReadError.{ReadError}
use Rattle.dw_read.specs.declared.error.ReadError.TheVariants.{NoMemory, OffsetOutOfBounds}

-- how many lists of children are open after an entry; a count stays at its type's end
abbrev pub deeper : Bool → ℕ → ℕ
deeper true n = min (n + 1) (2 ^ 64 - 1)
deeper false n = n

-- the depth of a row, as far as its type goes
abbrev pub shown_depth : ℕ → ℤ
shown_depth n = pos (min n (2 ^ 63 - 1))

-- a row's code is zero, or is in the table with the declaration
abbrev pub HasCode : List Declaration → Reading → Reading → Option (Bor Declaration) → Type 0
HasCode table old new None = Took ℕ uleb_read old new 0
HasCode table old new (Some a) = Took ℕ uleb_read old new a.now.code × (a.now.code ≡ 0 → ⊥) × (shape_of_code table a.now.code ≡ Some a.now.shape)

-- a row's code can't be read or isn't in the table, so that there is no row
abbrev pub NoCode : List Declaration → Reading → ReadError → Type 0
NoCode table old e = (big : Bool) (encoding : Encoding) → mark_read big encoding table (left old) ≡ Err e

-- the rows of a unit, from the first on
pub record BeginsAt {R E : Type 0} (reading : R → Reading) (h : UnitHeader R E) (table : List Declaration) (u : EntriesRaw R E) : Type 0 where
  pub input : reading u.input ≡ reading h.body
  pub declarations : u.abbreviations.now ≡ table
  pub fields : u.fields.now ≡ h.fields
  pub start : u.start ≡ h.offset.0
  pub lists : u.open_lists ≡ 0

-- the rows of a unit from an offset on
pub record BeginsIn {R E : Type 0} (reading : R → Reading) (h : UnitHeader R E) (table : List Declaration) (offset : ℕ) (u : EntriesRaw R E) : Type 0 where
  pub behind : header_size reading h ≤ offset
  pub input : Passes (offset - header_size reading h) (reading h.body) (reading u.input)
  pub declarations : u.abbreviations.now ≡ table
  pub fields : u.fields.now ≡ h.fields
  pub start : u.start ≡ h.offset.0
  pub lists : u.open_lists ≡ 0

-- an offset lies in the header, or past the unit's end
abbrev pub IsOutside : {R E : Type 0} → (R → Reading) → UnitHeader R E → ℕ → ReadError → Type 0
IsOutside reading h offset e = (e ≡ OffsetOutOfBounds offset) × ((offset < header_size reading h) ⊎ (length (left (reading h.body)) < offset - header_size reading h))

-- the same unit
pub record IsSameUnit {R E : Type 0} (old new : EntriesRaw R E) : Type 0 where
  pub table : new.abbreviations ≡ old.abbreviations
  pub fields : new.fields ≡ old.fields
  pub start : new.start ≡ old.start

-- the same unit at the same row
pub record IsSameRow {R E : Type 0} (reading : R → Reading) (old new : EntriesRaw R E) : Type 0 where
  pub unit : IsSameUnit old new
  pub input : reading new.input ≡ reading old.input
  pub lists : new.open_lists ≡ old.open_lists

module _ {R E : Type 0} (reading : R → Reading) (old new : EntriesRaw R E) where
  -- the grammar of the row at the place
  abbrev pub row_at : Parser (Mark ReadEntry)
  row_at = mark_at (reading old.input).is_big old.fields.now.encoding old.abbreviations.now

  abbrev pub row_read : Read (Mark ReadEntry)
  row_read = mark_read (reading old.input).is_big old.fields.now.encoding old.abbreviations.now

  abbrev pub RefusesRow : ReadError → Type 0
  RefusesRow = Refuses (Mark ReadEntry) row_at row_read (reading old.input)

  -- the code zero closes a list of children
  pub record PassesNull : Type 0 where
    pub unit : IsSameUnit old new
    pub row : Reads (Mark ReadEntry) row_at (reading old.input) (reading new.input) Null
    pub lists : new.open_lists ≡ old.open_lists - 1

  -- the code of a row is that of a declaration of the table, and is passed
  pub record PassesCode (a : Declaration) : Type 0 where
    pub unit : IsSameUnit old new
    pub code : Reads ℕ uleb_at (reading old.input) (reading new.input) a.code
    pub not_null : a.code ≡ 0 → ⊥
    pub declared : shape_of_code old.abbreviations.now a.code ≡ Some a.shape
    pub lists : new.open_lists ≡ deeper a.shape.has_children old.open_lists

  abbrev pub ReadsAbbreviation : Result (Option (Bor Declaration)) ReadError → Type 0
  ReadsAbbreviation (Ok None) = PassesNull
  ReadsAbbreviation (Ok (Some a)) = PassesCode a.now
  ReadsAbbreviation (Err e) = IsSameRow reading old new × RefusesRow e

  -- the attributes of a declaration are read from the place on, and passed
  pub record PassesAttributes (a : Declaration) : Type 0 where
    pub unit : IsSameUnit old new
    pub lists : new.open_lists ≡ old.open_lists
    pub attributes : List ReadAttribute
    pub is : Reads (List ReadAttribute) (attributes_at (reading old.input).is_big old.fields.now.encoding a.shape.attributes) (reading old.input) (reading new.input) attributes

  abbrev pub SkipsAttributes : Declaration → Result Unit ReadError → Type 0
  SkipsAttributes a (Ok _) = PassesAttributes a
  SkipsAttributes a (Err e) =
      IsSameRow reading old new × Refuses (List ReadAttribute) (attributes_at (reading old.input).is_big old.fields.now.encoding a.shape.attributes) (attributes_read (reading old.input).is_big old.fields.now.encoding a.shape.attributes) (reading old.input) e

-- an entry as the grammar has it
abbrev pub entry_of : {R E : Type 0} → (R → Reading) → ℕ → DebuggingInformationEntry R E → ReadEntry
entry_of reading code d = record { code = code; tag = d.tag.0; has_children = d.has_children; attributes = map (attribute_of reading) d.attrs.items }

module _ {R E : Type 0} (reading : R → Reading) (old new : EntriesRaw R E) (before after : DebuggingInformationEntry R E) where
  -- the row at the place is the entry, and is passed
  pub record PassesEntry : Type 0 where
    pub unit : IsSameUnit old new
    pub code : ℕ
    pub row : Reads (Mark ReadEntry) (row_at reading old new) (reading old.input) (reading new.input) (Open (entry_of reading code after))
    pub offset : after.offset.0 ≡ (reading old.input).place - old.start
    pub depth : after.depth ≡ shown_depth old.open_lists
    pub encoded : All (λ a. a.encoding ≡ old.fields.now.encoding) after.attrs.items
    pub in_order : All (λ a. IsInOrder (reading old.input).is_big (attribute_order reading a)) after.attrs.items
    pub lists : new.open_lists ≡ deeper after.has_children old.open_lists

  -- the row at the place is read as the entry, or is a null entry
  abbrev pub ReadsRow : Result Bool ReadError → Type 0
  ReadsRow (Ok true) = PassesEntry
  ReadsRow (Ok false) = PassesNull reading old new × (after ≡ before)
  ReadsRow (Err e) = IsSameRow reading old new × ((e ≡ NoMemory) ⊎ RefusesRow reading old new e)
