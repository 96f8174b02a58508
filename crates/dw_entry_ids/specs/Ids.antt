-- Which entry begins at a place of .debug_info (DWARF 5, 2.3 and 7.5.2).
use Rattle.std.specs.Prelude.{◌≡◌, ℕ, ◌+◌, ◌<◌, ◌≤◌, ◌==◌, slice_get, List, [], ◌∷◌, ◌++◌, Option, Some, None, Bool, true, false, if◌then◌else◌}
use Rattle.std.specs.HashMap.{get_by}
use Rattle.dw_base.specs.Entries.{ReadEntry, Mark, Open, Null, Row}
use Rattle.dw_base.specs.Info.{ReadUnit}
use Rattle.dw_base.specs.declared.ids.UnitId.{UnitId}
use Rattle.dw_base.specs.declared.ids.UnitEntryId.{UnitEntryId}
use Rattle.dw_entry_ids.specs.declared.ids.EntryIds.{EntryIds}

-- a unit's number, and that of an entry of it
abbrev pub Id : Type 0
Id = UnitId × UnitEntryId

-- what is kept of the entry at a place
abbrev pub ids_at : EntryIds → ℕ → Option Id
ids_at t place = get_by (λ k. place == k.0) t.ids

-- the first of two, where it is there
abbrev pub later_or : {A : Type 0} → Option A → Option A → Option A
later_or None earlier = earlier
later_or (Some x) earlier = Some x

-- what begins at a place, asked at another one
abbrev pub begins_at : {A : Type 0} → ℕ → A → ℕ → Option A
begins_at place x p = if place == p then Some x else None

abbrev pub is_entry : Mark ReadEntry → Bool
is_entry (Open e) = true
is_entry Null = false

-- how many of the rows are entries
abbrev pub entry_count : List Row → ℕ
entry_count [] = 0
entry_count (r ∷ rows) = (if is_entry r.mark then 1 else 0) + entry_count rows

-- the number of the entry that begins at a place, among rows of a unit that begins at a place of the section, where the first
-- entry has a number; null entries have none
abbrev pub mark_number : ℕ → ℕ → Mark ReadEntry → ℕ → Option ℕ
mark_number place n (Open e) p = begins_at place n p
mark_number place n Null p = None

unfoldable pub number_among : ℕ → ℕ → List Row → ℕ → Option ℕ
number_among from n [] p = None
number_among from n (r ∷ rows) p =
    later_or (number_among from ((if is_entry r.mark then 1 else 0) + n) rows p) (mark_number (from + r.from) n r.mark p)

-- the number of the entry of a unit that begins at a place of the section
abbrev pub number_in : ReadUnit → ℕ → Option ℕ
number_in u p = number_among u.from 0 u.rows p

abbrev pub with_unit : UnitId → Option ℕ → Option Id
with_unit k None = None
with_unit k (Some n) = Some (k, record { 0 = n })

-- the unit and the number of the entry that begins at a place, where the first unit has a number
unfoldable pub id_among : ℕ → List ReadUnit → ℕ → Option Id
id_among k [] p = None
id_among k (u ∷ us) p = later_or (id_among (k + 1) us p) (with_unit (record { 0 = k }) (number_in u p))

-- the places of the section where entries of rows begin, in the order of their numbers
abbrev pub mark_places : ℕ → Mark ReadEntry → List ℕ
mark_places place (Open e) = place ∷ []
mark_places place Null = []

abbrev pub places_among : ℕ → List Row → List ℕ
places_among from [] = []
places_among from (r ∷ rows) = mark_places (from + r.from) r.mark ++ places_among from rows

abbrev pub places_of : ReadUnit → List ℕ
places_of u = places_among u.from u.rows

-- each entry of rows has its number where it begins, which is at a place from the unit's on and below another
pub record AreFound (from : ℕ) (rows : List Row) (bound : ℕ) : Type 0 where
  pub found : (j p : ℕ) → slice_get (places_among from rows) j ≡ Some p → number_among from 0 rows p ≡ Some j
  pub within : (j p : ℕ) → slice_get (places_among from rows) j ≡ Some p → (from ≤ p) × (p < bound)

-- entry j of unit k begins at a place
pub record Begins (units : List ReadUnit) (k j p : ℕ) : Type 0 where
  pub unit : ReadUnit
  pub stands : slice_get units k ≡ Some unit
  pub begins : slice_get (places_of unit) j ≡ Some p

-- an entry is found exactly where one begins
pub record FindsEntries (ids : EntryIds) (units : List ReadUnit) : Type 0 where
  pub found : (k j p : ℕ) → Begins units k j p → ids_at ids p ≡ Some (record { 0 = k }, record { 0 = j })
  pub right : (k j p : ℕ) → ids_at ids p ≡ Some (record { 0 = k }, record { 0 = j }) → Begins units k j p
