-- The entries of a unit that a filter reads, and the entries under which they stand (DWARF 5, 2.3).
use Rattle.std.specs.Prelude.{◌≡◌, ℕ, ◌==◌, List, [], ◌∷◌, ◌++◌, Option, None, if◌then◌else◌, filter, not, slice_get}
use Rattle.dw_base.specs.Entries.{ReadEntry, Mark, Open, Null, Row}
use Rattle.dw_base.specs.declared.constants.DwTag.{DwTag}
use Rattle.dw_base.specs.declared.offsets.UnitOffset.{UnitOffset}
use Rattle.dw_read.specs.declared.attribute.Attribute.{Attribute}
use Rattle.dw_read.specs.declared.entry.DebuggingInformationEntry.{DebuggingInformationEntry}
use Rattle.dw_sources.specs.Dropped.{is_left_out}

-- where an entry stands in its unit, and its tag
abbrev pub Spot : Type 0
Spot = UnitOffset × DwTag

abbrev pub mark_spot : ℕ → Mark ReadEntry → List Spot
mark_spot place (Open e) = (record { 0 = place }, record { 0 = e.tag }) ∷ []
mark_spot place Null = []

-- those of the entries among rows, in the order of their numbers
abbrev pub spots_in : List Row → List Spot
spots_in [] = []
spots_in (r ∷ rows) = mark_spot r.from r.mark ++ spots_in rows

-- that of the entry of a number, unless it is the root
abbrev pub spot_above : List Spot → ℕ → Option Spot
spot_above spots parent = if parent == 0 then None else slice_get spots parent

-- the attributes of an entry but for those that what is written has of its own
abbrev pub kept_attributes : {R E : Type 0} → List (Attribute R E) → List (Attribute R E)
kept_attributes attributes = filter (λ a. not (is_left_out a.name.0)) attributes

-- an entry less these attributes
pub record IsLess {R E : Type 0} (as_read entry : DebuggingInformationEntry R E) : Type 0 where
  pub offset : entry.offset ≡ as_read.offset
  pub depth : entry.depth ≡ as_read.depth
  pub tag : entry.tag ≡ as_read.tag
  pub has_children : entry.has_children ≡ as_read.has_children
  pub attributes : entry.attrs.items ≡ kept_attributes as_read.attrs.items
