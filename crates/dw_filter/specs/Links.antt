-- What an entry that is read adds to the known entries and their edges.
use Rattle.std.specs.Prelude.{◌≡◌, ◌⊎◌, ◌↔◌, ℕ, ◌==◌, Bool, false, List, [], ◌++◌, Option, Some, None, Ok, true, map, filter, not, slice_get, if◌then◌else◌}
use Rattle.std.specs.Option.{option_map}
use Rattle.std.specs.List.{Contains}
use Rattle.dw_base.specs.Entries.{Row}
use Rattle.dw_base.specs.declared.offsets.UnitSectionOffset.{UnitSectionOffset}
use Rattle.dw_read.specs.Reading.{Reading}
use Rattle.dw_read.specs.Rows.{entry_of}
use Rattle.dw_entry_ids.specs.AnyUnit.{StandsAmong}
use Rattle.dw_entry_ids.specs.declared.unit_rows.UnitRows.{UnitRows}
use Rattle.dw_read.specs.declared.attribute.Attribute.{Attribute}
use Rattle.dw_read.specs.declared.error.ReadError.{ReadError}
use Rattle.dw_read.specs.declared.entry.DebuggingInformationEntry.{DebuggingInformationEntry}
use Rattle.dw_read_units.specs.Passes.{rows_reading}
use Rattle.dw_read_units.specs.declared.dwarf.Dwarf.{Dwarf}
use Rattle.dw_read_units.specs.declared.dwarf.Unit.{Unit as UnitFields}
use Rattle.dw_read_units.specs.declared.unit_ref.UnitRef.{UnitRef}
use Rattle.dw_sources.specs.Dropped.{is_left_out}
use Rattle.dw_sources.specs.declared.convert_error.ConvertError.{ConvertError}
use Rattle.dw_filter.specs.AttributePlaces.{AddsAttributes, RefusesOne, Seen, seen}
use Rattle.dw_filter.specs.Children.{leads_to_child}
use Rattle.dw_filter.specs.Dependencies.{Dependencies, Known, Leads, targets}
use Rattle.dw_filter.specs.FileGraph.{CanName, Names, RefusesEntry}
use Rattle.dw_filter.specs.UnitGraph.{Placed, placed_in, IsRead, IsKnown, HasEdge}
use Rattle.dw_filter.specs.declared.links.Links.{Links}
use Rattle.dw_filter.specs.declared.links.Parent.{Parent}

-- more entries are known, and there are more edges
pub record Grows (old new : Dependencies) (IsNew : UnitSectionOffset → Type 0) (edge : UnitSectionOffset → UnitSectionOffset → Type 0) : Type 0 where
  pub known : (q : UnitSectionOffset) → Known (targets new) q ↔ (Known (targets old) q ⊎ IsNew q)
  pub leads : (p q : UnitSectionOffset) → Leads (targets new) p q ↔ (Leads (targets old) p q ⊎ edge p q)
  pub required : new.required ≡ old.required

-- an entry leads from p to q: to its parent or to what it names; or its parent leads to it
abbrev pub Adds : Links → UnitSectionOffset → UnitSectionOffset → Type 0
Adds l p q = ((l.place ≡ p) × ((l.parent ≡ Some q) ⊎ Contains l.named.items q)) ⊎ ((l.is_led_to ≡ true) × (l.parent ≡ Some p) × (l.place ≡ q))

-- the parent with a number; the root counts as none
abbrev pub parent_at : List Parent → ℕ → Option Parent
parent_at read n = if n == 0 then None else slice_get read n

-- whether there is a parent that leads to the entry
abbrev pub is_led_to : {R E : Type 0} → (R → Reading) → DebuggingInformationEntry R E → Option Parent → Bool
is_led_to reading x None = false
is_led_to reading x (Some parent) = leads_to_child parent.tag (entry_of reading 0 x)

module _ {R E : Type 0} (reading : R → Reading) where
  -- the attributes of an entry, without those that conversions leave out
  abbrev pub counting_of : DebuggingInformationEntry R E → List Seen
  counting_of x = map (seen reading) (filter (λ (a : Attribute R E). not (is_left_out a.name.0)) x.attrs.items)

  module _ (u : UnitRef R E) where
    -- the links of an entry that begins at a place, under a parent
    pub record AreLinks (x : DebuggingInformationEntry R E) (begin : UnitSectionOffset) (above : Option Parent) (l : Links) : Type 0 where
      pub place : l.place ≡ begin
      pub parent : l.parent ≡ option_map (λ p. p.place) above
      pub led : l.is_led_to ≡ is_led_to reading x above
      pub named : AddsAttributes reading u (counting_of x) [] l.named.items

    -- the location list of one of its attributes can't be found or read, for this reason
    pub record RefusesLinks (x : DebuggingInformationEntry R E) (e : ConvertError) : Type 0 where
      pub places : List UnitSectionOffset
      pub refuses : RefusesOne reading u (counting_of x) [] places e

  -- all rows of a unit can be read
  pub record HasRows (u : UnitFields R E) : Type 0 where
    pub rows : List Row
    pub are : rows_reading reading u.header u.abbreviations ≡ Ok rows

  -- a cursor stands among the rows of a unit, which may have one that can't be read
  pub record StandsInUnit (u : UnitFields R E) (c : UnitRows R E) : Type 0 where
    pub front : List Row
    pub rest : List Row
    pub fault : Option ReadError
    pub stands : StandsAmong reading u c front rest fault

  -- the first so many entries of a unit behind its root are known, with their edges
  pub record AddsUnit (d : Dwarf R E) (u : UnitFields R E) (count : ℕ) (old new : Dependencies) : Type 0 where
    pub rows : List Row
    pub are : rows_reading reading u.header u.abbreviations ≡ Ok rows
    pub grows : Grows old new (IsKnown (placed_in u.header.offset.0 rows) count) (HasEdge (placed_in u.header.offset.0 rows) (Names reading d u) count)
    pub names : (n : ℕ) (x : Placed) → IsRead (placed_in u.header.offset.0 rows) count n x → CanName reading d u x.0.entry

  -- all its rows can be read, and one of those entries has a location list that can't be found or read
  pub record RefusesUnit (d : Dwarf R E) (u : UnitFields R E) (count : ℕ) (e : ConvertError) : Type 0 where
    pub rows : List Row
    pub are : rows_reading reading u.header u.abbreviations ≡ Ok rows
    pub refuses : RefusesEntry reading d u rows count e

-- these are required, too
pub record IsRequired (old new : Dependencies) (more : List UnitSectionOffset) : Type 0 where
  pub known : new.known ≡ old.known
  pub required : new.required ≡ old.required ++ more
