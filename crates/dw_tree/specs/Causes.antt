-- Why units are refused.
use Rattle.std.specs.Prelude.{◌≡◌, ◌⊎◌, ℕ, Bool, false, List, [], ◌∷◌, ◌++◌, IsTrue}
use Rattle.dw_base.specs.declared.common.Encoding.{Encoding}
use Rattle.dw_base.specs.declared.error.Error.{Error}
use Rattle.dw_base.specs.declared.error.Error.TheVariants as errors
use Rattle.dw_writer.specs.Meaning.{Meaning}
use Rattle.dw_writer.specs.Causes.{HasRisen}
use Rattle.dw_writer.specs.Sections.{SomeHasRisen, NoFixups}
use Rattle.dw_writer.specs.declared.sections.Sections.{Sections}
use Rattle.dw_entries.specs.Entries.{EntryValue}
use Rattle.dw_entries.specs.Targets.{Tables}
use Rattle.dw_tree.specs.Elsewhere.{Elsewhere, ends_of, unit_tables, parts_fail, has_base_address, locations_plain, past_elsewhere}
use Rattle.dw_tree.specs.Locations.{ListsFail}
use Rattle.dw_tree.specs.Places.{Placement, targets_of}
use Rattle.dw_tree.specs.Built.{Numbered}
use Rattle.dw_tree.specs.Early.{tree_is_forward}
use Rattle.dw_tree.specs.Pending.{Kept, starts_of, AreInRow, info_at, KeepPlaces, Pending}
use Rattle.dw_tree.specs.ReferenceFaults.{references_fail}
use Rattle.dw_tree.specs.UnitFaults.{encoding_fails, unit_fails}
use Rattle.dw_tree.specs.UnitValue.{UnitValue}
use Rattle.dw_tree.specs.Whole.{settled, IsTreePlacement, TreeHasNoRoom}
use Rattle.dw_tree.specs.Written.{to_write, past_table}

-- for want of memory, by a counted fault, or for a cause of its own
abbrev pub Because : Type 0 → (Error → Type 0) → Error → Type 0
Because rise cause errors.NoMemory = Unit {0}
Because rise cause errors.WriteFault = rise
Because rise cause err = cause err

-- the same of a call that writes into one writer
abbrev pub Refused : Meaning → Meaning → (Error → Type 0) → Error → Type 0
Refused old new cause err = Because (HasRisen old new) cause err

-- a cause that a table tells
abbrev pub Is : (Error → Bool) → Error → Type 0
Is fails err = IsTrue (fails err)

-- the sizes of entries come to no number of 64 bits
abbrev pub RoomRefused : Type 0 → Error → Type 0
RoomRefused full errors.NoMemory = Unit {0}
RoomRefused full errors.ValueTooLarge = full
RoomRefused full err = ⊥

-- the same, or one hangs on the place of a later entry
abbrev pub LayoutRefused : Type 0 → (Error → Bool) → Error → Type 0
LayoutRefused full forward errors.NoMemory = Unit {0}
LayoutRefused full forward errors.ValueTooLarge = full
LayoutRefused full forward err = Is forward err

-- Where its entries stand, a unit of them has a fault.
pub record IsFaulty (e : Encoding) (es : List EntryValue) (t : Tables) (table : ℕ) (is_plain : Bool) (err : Error) : Type 0 where
  pub places : Placement
  pub placed : IsTreePlacement e es places
  pub fails : IsTrue (unit_fails e es table (targets_of t places) is_plain err)

-- entries have no places of 64 bits, or one whose size hangs on a later one, or they have a fault where they stand
abbrev pub TreeFails : Encoding → List EntryValue → Tables → ℕ → Bool → Error → Type 0
TreeFails e es t table is_plain err =
    ((err ≡ errors.ValueTooLarge) × TreeHasNoRoom e es) ⊎ (Is (tree_is_forward e es) err ⊎ IsFaulty e es t table is_plain err)

-- why a tree has no places, or a length without a spelling, wherever it is to stand and whatever stands in other sections
abbrev pub PlacementRefused : Encoding → List EntryValue → Error → Type 0
PlacementRefused e es err = (t : Tables) (table : ℕ) (is_plain : Bool) → Because ⊥ (TreeFails e es t table is_plain) err

-- where its entries stand, a location list of a unit has a fault
abbrev pub LocationsFail : UnitValue → Elsewhere → Error → Type 0
LocationsFail u t err = ListsFail u.encoding (settled u).entries u.locations (has_base_address u.entries) (locations_plain t u) err

-- a unit's version or address size has no spelling, or its line program, where it is in use, its range lists or its settled
-- tree have a fault
abbrev pub UnitFails : UnitValue → Elsewhere → ℕ → Bool → Error → Type 0
UnitFails u t table is_plain err =
    Is (encoding_fails u.encoding) err
    ⊎ (Is (parts_fail t u) err ⊎ (LocationsFail u t err ⊎ TreeFails u.encoding (settled u).entries (unit_tables t u) table is_plain err))

-- why a unit is refused, which is to stand at the end of the sections
abbrev pub UnitRefused : {W : Type 0} → (W → Meaning) → Sections W → Sections W → UnitValue → Elsewhere → Error → Type 0
UnitRefused meaning old new u t err =
    Because (SomeHasRisen meaning old new) (UnitFails u t (meaning old.debug_abbrev.0).size (meaning old.debug_info.0).is_plain) err

-- a unit of a table that isn't written yet fails, where its abbreviations stand behind those of the units before it
abbrev pub UnitsFail : Bool → Elsewhere → ℕ → List UnitValue → Error → Type 0
UnitsFail is_plain t at [] err = ⊥
UnitsFail is_plain t at (u ∷ us) err = ((u.is_written ≡ false) × UnitFails u t at is_plain err) ⊎ UnitsFail is_plain (past_elsewhere t u) (past_table at u) us err

-- A reference across units leads to no entry, or its place has no room, once all units stand.
pub record ReferencesFail {W : Type 0} (meaning : W → Meaning) (before : Sections W) (old_table new_table : List UnitValue) (t : Elsewhere) (us : List Numbered) (ks : List Kept) (err : Error) : Type 0 where
  pub kept : List Kept
  pub in_row : AreInRow (starts_of meaning before) (us ++ to_write t old_table) (ks ++ kept)
  pub keeps : KeepPlaces old_table us ks → KeepPlaces new_table (us ++ to_write t old_table) (ks ++ kept)
  pub fails : IsTrue (references_fail (info_at new_table) (meaning before.debug_info.0).is_plain (ends_of meaning before) (us ++ to_write t old_table) (ks ++ kept) err)

-- why the units of a table are refused behind those that are pending
abbrev pub UnitsRefused : {W : Type 0} → (W → Meaning) → Sections W → Sections W → Sections W → List UnitValue → List UnitValue → Elsewhere → List Numbered → List Kept → Error → Type 0
UnitsRefused meaning before old new old_table new_table t us ks err =
    Because (SomeHasRisen meaning old new)
    (λ e. UnitsFail (meaning old.debug_info.0).is_plain t (meaning old.debug_abbrev.0).size old_table e ⊎ ReferencesFail meaning before old_table new_table t us ks e) err

-- whatever units are pending
abbrev pub RefusesAny : {W : Type 0} → (W → Meaning) → Sections W → Sections W → List UnitValue → List UnitValue → Elsewhere → Error → Type 0
RefusesAny {W} meaning old new old_table new_table t err =
    (before : Sections W) (us : List Numbered) (ks : List Kept) → NoFixups before → Pending meaning before old us ks →
    UnitsRefused meaning before old new old_table new_table t us ks err
