-- Entries that are handed out while a unit is converted.
use Rattle.std.specs.Prelude.{◌≡◌, ◌⊎◌, ℕ, filter, not, None, Ok, Err, false}
use Rattle.dw_read.specs.Reading.{Reading}
use Rattle.dw_read.specs.Rows.{BeginsIn, IsOutside, ReadsRow, PassesEntry, entry_of}
use Rattle.dw_read.specs.declared.attribute.Attribute.{Attribute}
use Rattle.dw_read.specs.declared.entries.EntriesRaw.{EntriesRaw}
use Rattle.dw_read.specs.declared.entry.DebuggingInformationEntry.{DebuggingInformationEntry}
use Rattle.dw_read.specs.declared.error.ReadError.{ReadError}
use Rattle.dw_read.specs.declared.error.ReadError.TheVariants.{NoEntryAtGivenOffset}
use Rattle.dw_read_units.specs.declared.unit_ref.UnitRef.{UnitRef}
use Rattle.dw_sources.specs.Dropped.{is_left_out}
use Rattle.dw_sources.specs.ConvertErrors.{from_read}
use Rattle.dw_sources.specs.declared.convert_error.ConvertError.{ConvertError}
use Rattle.dw_entry_ids.specs.Plans.{names_sibling}
use Rattle.dw_dwarf.specs.declared.convert.unit_entry.ConvertUnitEntry.{ConvertUnitEntry}

module _ {R E : Type 0} (reading : R → Reading) where
  -- an entry less these attributes, with the flag that tells of a sibling
  pub record IsLess (as_read : DebuggingInformationEntry R E) (entry : ConvertUnitEntry R E) : Type 0 where
    pub offset : entry.read_entry.offset ≡ as_read.offset
    pub depth : entry.read_entry.depth ≡ as_read.depth
    pub tag : entry.read_entry.tag ≡ as_read.tag
    pub has_children : entry.read_entry.has_children ≡ as_read.has_children
    pub attributes : entry.read_entry.attrs.items ≡ filter (λ (a : Attribute R E). not (is_left_out a.name.0)) as_read.attrs.items
    pub sibling : (code : ℕ) → entry.sibling ≡ names_sibling (entry_of reading code as_read)

  pub record IsFiltered (old new : ConvertUnitEntry R E) : Type 0 where
    pub less : IsLess old.read_entry new
    pub read_unit : new.read_unit ≡ old.read_unit
    pub parent : new.parent ≡ old.parent

  -- the entry at an offset of a unit
  pub record IsEntryAt (u : UnitRef R E) (offset : ℕ) (entry : ConvertUnitEntry R E) : Type 0 where
    pub before : EntriesRaw R E
    pub begins : BeginsIn reading u.unit.now.header u.unit.now.abbreviations offset before
    pub after : EntriesRaw R E
    pub blank : DebuggingInformationEntry R E
    pub as_read : DebuggingInformationEntry R E
    pub passes : PassesEntry reading before after blank as_read
    pub less : IsLess as_read entry
    pub read_unit : entry.read_unit ≡ u
    pub parent : entry.parent ≡ None

  -- a row that is none of an entry, or none that can be read
  pub record RefusesRowAt (u : UnitRef R E) (offset : ℕ) (e : ConvertError) : Type 0 where
    pub before : EntriesRaw R E
    pub begins : BeginsIn reading u.unit.now.header u.unit.now.abbreviations offset before
    pub after : EntriesRaw R E
    pub blank : DebuggingInformationEntry R E
    pub as_read : DebuggingInformationEntry R E
    pub why : (ReadsRow reading before after blank as_read (Ok false) × (e ≡ from_read (NoEntryAtGivenOffset offset)))
        ⊎ ((y : ReadError) × ReadsRow reading before after blank as_read (Err y) × (e ≡ from_read y))

  pub record IsOutsideAt (u : UnitRef R E) (offset : ℕ) (e : ConvertError) : Type 0 where
    pub reason : ReadError
    pub outside : IsOutside reading u.unit.now.header offset reason
    pub is : e ≡ from_read reason

  -- there is none
  abbrev pub IsNoEntryAt : UnitRef R E → ℕ → ConvertError → Type 0
  IsNoEntryAt u offset e = IsOutsideAt u offset e ⊎ RefusesRowAt u offset e
