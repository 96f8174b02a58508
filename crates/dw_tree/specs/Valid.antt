-- Units that have a spelling.
use Rattle.std.specs.Prelude.{◌≡◌, ◌⊎◌, ℕ, ◌+◌, ◌<◌, ◌^◌, List, [], ◌∷◌, ◌++◌, Bool, true, IsTrue, IsFalse}
use Rattle.dw_base.specs.Numbers.{length_fits, word_of}
use Rattle.dw_base.specs.Spelling.{header_size}
use Rattle.dw_base.specs.declared.common.Encoding.{Encoding}
use Rattle.dw_base.specs.declared.error.Error.{Error}
use Rattle.dw_writer.specs.Causes.{offset_fits}
use Rattle.dw_writer.specs.Meaning.{Meaning}
use Rattle.dw_writer.specs.Sections.{NoFixups}
use Rattle.dw_writer.specs.declared.sections.Sections.{Sections}
use Rattle.dw_entries.specs.Entries.{EntryValue}
use Rattle.dw_entries.specs.Targets.{Tables}
use Rattle.dw_tree.specs.Elsewhere.{Ends, Elsewhere, ends_of, unit_tables, PartsAreSound, LocationsAreSound, past_elsewhere}
use Rattle.dw_entries.specs.Tree.{preorder}
use Rattle.dw_tree.specs.Built.{Numbered, Starts}
use Rattle.dw_tree.specs.Early.{tree_is_forward}
use Rattle.dw_tree.specs.Pending.{Kept, info_of, starts_of, AreInRow, KeepPlaces, Pending}
use Rattle.dw_tree.specs.Places.{Placement, targets_of}
use Rattle.dw_tree.specs.UnitText.{unit_length}
use Rattle.dw_tree.specs.Whole.{tree_size, settled, IsTreePlacement}
use Rattle.dw_tree.specs.ReferenceFaults.{references_fail}
use Rattle.dw_tree.specs.UnitFaults.{is_encodable, marks_fail}
use Rattle.dw_tree.specs.UnitValue.{UnitValue}
use Rattle.dw_tree.specs.Written.{to_write, past_table}

-- A tree can be written into a writer that is plain or not: its header and its length have a spelling, no size hangs on a later
-- entry, and where its entries stand no value has a fault.
pub record IsWritableTree (is_plain : Bool) (e : Encoding) (es : List EntryValue) (t : Tables) : Type 0 where
  pub encodable : IsTrue (is_encodable e)
  pub places : Placement
  pub placed : IsTreePlacement e es places
  pub room : header_size e + tree_size e es places.place < 2 ^ 64
  pub fits : IsTrue (length_fits e.format (unit_length e (tree_size e es places.place)))
  pub early : (err : Error) → IsFalse (tree_is_forward e es err)
  pub sound : (err : Error) → IsFalse (marks_fail e es (targets_of t places) is_plain (preorder es) err)

-- the same of a unit, settled, with its line program, where that is in use, and its lists
abbrev pub IsWritable : Bool → Elsewhere → UnitValue → Type 0
IsWritable is_plain t u = (PartsAreSound t u × LocationsAreSound t u) × IsWritableTree is_plain u.encoding (settled u).entries (unit_tables t u)

-- the same of a unit whose table is to stand at a place
abbrev pub IsWritableAt : Bool → Elsewhere → ℕ → UnitValue → Type 0
IsWritableAt is_plain t table u = IsWritable is_plain t u × IsTrue (offset_fits is_plain (word_of u.encoding.format) table)

-- Each unit of a table that isn't written yet can be written where its abbreviations, its line program and its lists stand
-- behind those of the units before it.
abbrev pub AreWritable : Bool → Elsewhere → ℕ → List UnitValue → Type 0
AreWritable is_plain t at [] = Unit {0}
AreWritable is_plain t at (u ∷ us) = ((u.is_written ≡ true) ⊎ IsWritableAt is_plain t at u) × AreWritable is_plain (past_elsewhere t u) (past_table at u) us

-- Every reference across these units leads to an entry of one of them, whose place has room.
pub record ReferencesLead (is_plain : Bool) (ends : Ends) (at : Starts) (us : List Numbered) : Type 0 where
  pub kept : List Kept
  pub in_row : AreInRow at us kept
  pub lead : (err : Error) → IsFalse (references_fail (info_of us kept) is_plain ends us kept err)

-- The units of a table can be written behind those that are pending, whose places the table keeps: each unit that isn't
-- written yet can be, and every reference across all of them leads to an entry of one of them, whose place has room.
pub record CanFollow {W : Type 0} (meaning : W → Meaning) (old : Sections W) (table : List UnitValue) (t : Elsewhere) : Type 0 where
  pub before : Sections W
  pub units : List Numbered
  pub kept : List Kept
  pub none_open : NoFixups before
  pub pending : Pending meaning before old units kept
  pub keeps : KeepPlaces table units kept
  pub writable : AreWritable (meaning old.debug_info.0).is_plain t (meaning old.debug_abbrev.0).size table
  pub references : ReferencesLead (meaning before.debug_info.0).is_plain (ends_of meaning before) (starts_of meaning before) (units ++ to_write t table)
