-- Units that were written, with the places that they keep.
use Rattle.std.specs.Prelude.{◌≡◌, ℕ, ◌+◌, ◌<◌, ◌^◌, List, [], ◌∷◌, ◌++◌, length, map, All, Option, Some, None, Bool, true, false, ◌==◌, slice_get, IsTrue, IsFalse, if◌then◌else◌}
use Rattle.std.specs.List.{flat_map}
use Rattle.std.specs.Option.{option_map}
use Rattle.dw_base.specs.Numbers.{◌>>=◌, length_fits}
use Rattle.dw_base.specs.Entries.{Mark, Open, Null, is_one_tree}
use Rattle.dw_base.specs.Spellable.{AreDeclarations}
use Rattle.dw_base.specs.declared.common.Encoding.{Encoding}
use Rattle.dw_base.specs.declared.error.Error.{Error}
use Rattle.dw_writer.specs.Texts.{Text, followed}
use Rattle.dw_writer.specs.Meaning.{Meaning, Layout, IsSameWriter, IsTidy, Adds, resolved}
use Rattle.dw_writer.specs.declared.sections.Sections.{Sections}
use Rattle.dw_writer.specs.Drafts.{Draft, Info, no_draft, then_draft, filled_text, IsDraft, Drafts}
use Rattle.dw_entries.specs.declared.attribute.Attribute.{Attribute}
use Rattle.dw_entries.specs.Entries.{EntryValue, entry_at}
use Rattle.dw_entries.specs.Targets.{Tables, HaveInfoPlaces}
use Rattle.dw_entries.specs.Tree.{preorder, children_in}
use Rattle.dw_entries.specs.Values.{IsRanged}
use Rattle.dw_tree.specs.Built.{Numbered, Starts, table_size, at_zero}
use Rattle.dw_tree.specs.Early.{tree_is_forward}
use Rattle.dw_tree.specs.Locations.{location_drafts, AreLocated, DraftLocations, AppendsLocations}
use Rattle.dw_tree.specs.Places.{Placement, Offsets, OffsetsValue, offsets_in, found, placement_of, targets_of, info_from}
use Rattle.dw_tree.specs.declared.places.Places.{Places}
use Rattle.dw_tree.specs.UnitText.{tree_draft, unit_draft, unit_length}
use Rattle.dw_tree.specs.UnitValue.{UnitValue, offsets_of}
use Rattle.dw_tree.specs.UnitFaults.{is_encodable}
use Rattle.dw_tree.specs.Whole.{tree_declared, tree_table, IsTreePlacement}

-- where a unit and its table begin, and where its entries stand in it
pub record Kept : Type 0 where
  pub starts : Starts
  pub places : Placement

-- where the code keeps the places
abbrev pub kept_in : Starts → Places → Kept
kept_in at p = record { starts = at; places = placement_of p }

-- a unit of these entries, as it is written there
abbrev pub draft_of : Encoding → List EntryValue → Tables → Kept → Draft
draft_of e es t k = unit_draft e k.starts.abbrevs (tree_draft e es (targets_of t k.places))

abbrev pub draft_at : Numbered → Kept → Draft
draft_at u k = draft_of u.unit.encoding u.unit.entries u.tables k

-- behind such a unit and its table
abbrev pub past_kept : Starts → Numbered → Kept → Starts
past_kept at u k = record { info = at.info + (draft_at u k).size; abbrevs = at.abbrevs + table_size u.unit }

-- units one behind another
abbrev pub units_draft : List Numbered → List Kept → Draft
units_draft [] ks = no_draft
units_draft (u ∷ us) [] = no_draft
units_draft (u ∷ us) (k ∷ ks) = then_draft (draft_at u k) (units_draft us ks)

-- the tables of units, one behind another
abbrev pub tables_of : List Numbered → List ℕ
tables_of us = flat_map (λ u. tree_table u.unit.encoding u.unit.entries) us

-- the location lists of units, one behind another
abbrev pub locations_draft : List Numbered → Bool → Draft
locations_draft us five = location_drafts five (map (λ u. u.unit) us)

-- what a unit keeps of where it stands
abbrev pub kept_offsets : Kept → Offsets
kept_offsets k = record { start = k.starts.info; place = found k.places.place }

-- the same of the one of these units that has a number
abbrev pub kept_at : List Numbered → List Kept → ℕ → Option Offsets
kept_at [] ks n = None
kept_at (u ∷ us) [] n = None
kept_at (u ∷ us) (k ∷ ks) n = if u.id == n then Some (kept_offsets k) else kept_at us ks n

-- where an entry of one of these units stands in .debug_info, counted from where the section's part starts
abbrev pub info_of : List Numbered → List Kept → Info
info_of us ks = info_from (kept_at us ks)

-- the same of the units of a table
abbrev pub offsets_at : List UnitValue → ℕ → Option Offsets
offsets_at us n = slice_get us n >>= offsets_of

abbrev pub info_at : List UnitValue → Info
info_at us = info_from (offsets_at us)

-- the units of a table that were written keep these places, and no others
abbrev pub KeepPlaces : List UnitValue → List Numbered → List Kept → Type 0
KeepPlaces table us ks = (n : ℕ) → offsets_at table n ≡ kept_at us ks n

-- a text is there
abbrev pub IsThere : Text → Type 0
IsThere t = (xs : List ℕ) × (t ≡ Some xs)

-- the numbers of all values are those of their types
abbrev pub AreRanged : Encoding → List Attribute → Type 0
AreRanged e xs = All (λ a. IsRanged e a.value) xs

abbrev pub IsMarkRanged : Encoding → List EntryValue → Mark ℕ → Type 0
IsMarkRanged e es (Open i) = AreRanged e (entry_at es i).attributes
IsMarkRanged e es Null = Unit {0}

abbrev pub AreMarksRanged : Encoding → List EntryValue → List (Mark ℕ) → Type 0
AreMarksRanged e es ms = All (IsMarkRanged e es) ms

-- A unit begins at a place, its entries stand where their sizes put them, and all that its text doesn't tell has a spelling:
-- encoding, length, numbers, what its table declares. The entries are one tree.
pub record Stands (at : Starts) (e : Encoding) (es : List EntryValue) (t : Tables) (k : Kept) : Type 0 where
  pub starts : k.starts ≡ at
  pub placed : IsTreePlacement e es k.places
  pub early : (err : Error) → IsFalse (tree_is_forward e es err)
  pub draft : IsDraft (draft_of e es t k)
  pub encodable : IsTrue (is_encodable e)
  pub fits : IsTrue (length_fits e.format (unit_length e (tree_draft e es (targets_of t k.places)).size))
  pub ranged : AreMarksRanged e es (preorder es)
  pub declared : AreDeclarations (tree_declared e es)
  pub few : length (preorder es) < 2 ^ 64
  pub tree : IsTrue (is_one_tree (map (children_in es) (preorder es)))

abbrev pub StandsAt : Starts → Numbered → Kept → Type 0
StandsAt at u k = Stands at u.unit.encoding u.unit.entries u.tables k

-- each unit begins where the one before it ends, and its table
abbrev pub AreInRow : Starts → List Numbered → List Kept → Type 0
AreInRow at [] [] = Unit {0}
AreInRow at [] (k ∷ ks) = ⊥
AreInRow at (u ∷ us) [] = ⊥
AreInRow at (u ∷ us) (k ∷ ks) = StandsAt at u k × AreInRow (past_kept at u k) us ks

-- where the next unit and its table are to begin
abbrev pub starts_of : {W : Type 0} → (W → Meaning) → Sections W → Starts
starts_of meaning s = record { info = (meaning s.debug_info.0).size; abbrevs = (meaning s.debug_abbrev.0).size }

-- A text is there where every section starts at 0, once its references have places that fit.
abbrev pub IsThereFilled : Draft → Type 0
IsThereFilled d = (info : Info) → HaveInfoPlaces info d.holes → (big : Bool) → IsThere (d.text info big at_zero)

-- A unit of these entries is added with its table, and its references across units are left open. Over a plain writer each
-- number of it fits, so its text is there.
pub record PendsTree {W : Type 0} (meaning : W → Meaning) (old new : Sections W) (e : Encoding) (es : List EntryValue) (t : Tables) (kept : Kept) : Type 0 where
  pub stands : Stands (starts_of meaning old) e es t kept
  pub unit : Drafts (meaning old.debug_info.0) (meaning new.debug_info.0) old.debug_info_fixups new.debug_info_fixups (draft_of e es t kept)
  pub table : Adds (meaning old.debug_abbrev.0) (meaning new.debug_abbrev.0) (tree_table e es)
  pub there : (meaning old.debug_info.0).is_plain ≡ true → IsThereFilled (draft_of e es t kept)

-- the same of a unit, which keeps where its entries stand
pub record PendsUnit {W : Type 0} (meaning : W → Meaning) (old new : Sections W) (u : UnitValue) (t : Tables) (offsets : Option OffsetsValue) : Type 0 where
  pub kept : Kept
  pub tree : PendsTree meaning old new u.encoding u.entries t kept
  pub lists : AppendsLocations meaning old new u
  pub offsets_are : option_map offsets_in offsets ≡ Some (kept_offsets kept)

-- The location lists of units are added to the sections of their versions, and are found where they stand.
pub record PendsLocations {W : Type 0} (meaning : W → Meaning) (old new : Sections W) (us : List Numbered) : Type 0 where
  pub located : All (λ u. AreLocated u.unit) us
  pub drafts : DraftLocations meaning old new (locations_draft us)

-- Units that were written since some sections were handed in stand behind these, in a row, each with the places that it
-- keeps, and so do their location lists. Their references across units are open: zeros, and one fixup for each, which no
-- relocation meets.
pub record Pending {W : Type 0} (meaning : W → Meaning) (old new : Sections W) (us : List Numbered) (kept : List Kept) : Type 0 where
  pub in_row : AreInRow (starts_of meaning old) us kept
  pub units : Drafts (meaning old.debug_info.0) (meaning new.debug_info.0) old.debug_info_fixups new.debug_info_fixups (units_draft us kept)
  pub tables : Adds (meaning old.debug_abbrev.0) (meaning new.debug_abbrev.0) (tables_of us)
  pub there : (meaning old.debug_info.0).is_plain ≡ true → IsThereFilled (units_draft us kept)
  pub lists : PendsLocations meaning old new us

-- whatever units are pending, this one is pending behind them
abbrev pub ExtendsPending : {W : Type 0} → (W → Meaning) → Sections W → Sections W → UnitValue → Tables → Option OffsetsValue → Type 0
ExtendsPending {W} meaning old new u t offsets =
    (before : Sections W) (us : List Numbered) (ks : List Kept) (id : ℕ) → Pending meaning before old us ks →
    (k : Kept) × (option_map offsets_in offsets ≡ Some (kept_offsets k)) × Pending meaning before new (us ++ record { id = id; unit = u; tables = t } ∷ []) (ks ++ k ∷ [])

-- A text is added in which each reference to an entry by its place in .debug_info has this place.
pub record AddsFilled (old new : Meaning) (info : Info) (d : Draft) : Type 0 where
  pub same : IsSameWriter old new
  pub size : new.size ≡ old.size + d.size
  pub tidy : IsTidy old → IsTidy new
  pub resolves : IsTidy old → (l : Layout) → resolved l new ≡ followed (resolved l old) (filled_text info d old.is_big l)

-- So are the location lists of units, which are found where they stand.
pub record AddsLocations {W : Type 0} (meaning : W → Meaning) (old new : Sections W) (info : Info) (us : List Numbered) : Type 0 where
  pub located : All (λ u. AreLocated u.unit) us
  pub locations : AddsFilled (meaning old.debug_loc.0) (meaning new.debug_loc.0) info (locations_draft us false)
  pub location_lists : AddsFilled (meaning old.debug_loclists.0) (meaning new.debug_loclists.0) info (locations_draft us true)

-- Units are added whose tables begin at a place: in every layout they resolve to their text, in which each reference across
-- units has the place of its entry. Over a plain writer the text is there.
pub record AddsUnits (old new : Meaning) (tables : ℕ) (info : Info) (us : List Numbered) (kept : List Kept) : Type 0 where
  pub in_row : AreInRow (record { info = old.size; abbrevs = tables }) us kept
  pub same : IsSameWriter old new
  pub size : new.size ≡ old.size + (units_draft us kept).size
  pub tidy : IsTidy old → IsTidy new
  pub resolves : IsTidy old → (l : Layout) → resolved l new ≡ followed (resolved l old) (filled_text info (units_draft us kept) old.is_big l)
  pub there : old.is_plain ≡ true → (big : Bool) → IsThere (filled_text info (units_draft us kept) big at_zero)
