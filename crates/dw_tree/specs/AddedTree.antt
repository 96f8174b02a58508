-- What a tree comes to that is written to sections: its unit, the table of its abbreviations, and its location lists.
use Rattle.std.specs.Prelude.{◌≡◌, ◌⊎◌, ℕ, ◌+◌, ◌<◌, ◌^◌, Bool, List, IsTrue, IsFalse}
use Rattle.dw_base.specs.Numbers.{length_fits, word_of}
use Rattle.dw_base.specs.declared.common.Encoding.{Encoding}
use Rattle.dw_base.specs.declared.error.Error.{Error}
use Rattle.dw_writer.specs.Causes.{offset_fits}
use Rattle.dw_writer.specs.Drafts.{Drafts}
use Rattle.dw_writer.specs.Meaning.{Meaning}
use Rattle.dw_writer.specs.Sections.{SomeHasRisen}
use Rattle.dw_writer.specs.declared.fixup.DebugInfoFixup.{DebugInfoFixup}
use Rattle.dw_writer.specs.declared.sections.Sections.{Sections}
use Rattle.dw_entries.specs.Entries.{EntryValue}
use Rattle.dw_entries.specs.Targets.{Tables, UnitTargets}
use Rattle.dw_entries.specs.Tree.{preorder}
use Rattle.dw_line.specs.Parts.{NoCause}
use Rattle.dw_lists.specs.Tables.{locations_of}
use Rattle.dw_lists.specs.declared.location.Location.{Location}
use Rattle.dw_tree.specs.Causes.{Because, TreeFails}
use Rattle.dw_tree.specs.Locations.{places_in_tree, lists_fail_in, ListsFail, AppendsLists}
use Rattle.dw_tree.specs.Pending.{AreMarksRanged, PendsTree, kept_in, starts_of}
use Rattle.dw_tree.specs.UnitFaults.{unit_fails}
use Rattle.dw_tree.specs.UnitText.{tree_draft, unit_draft, unit_length}
use Rattle.dw_tree.specs.Valid.{IsWritableTree}
use Rattle.dw_tree.specs.declared.places.Places.{Places}

-- A unit of these entries is added, whose table is to begin there. It has no fault, and its end has a place.
pub record AddsUnit (old new : Meaning) (before after : List DebugInfoFixup) (e : Encoding) (es : List EntryValue) (table : ℕ) (u : UnitTargets) : Type 0 where
  pub draft : Drafts old new before after (unit_draft e table (tree_draft e es u))
  pub fits : IsTrue (length_fits e.format (unit_length e (tree_draft e es u).size))
  pub ranged : AreMarksRanged e es (preorder es)
  pub sound : (err : Error) → IsFalse (unit_fails e es table u old.is_plain err)
  pub room : new.size < 2 ^ 64

-- The same with its table, where the entries stand there.
pub record AddsPlacedTree {W : Type 0} (meaning : W → Meaning) (old new : Sections W) (e : Encoding) (es : List EntryValue) (t : Tables) (places : Places) : Type 0 where
  pub unit : PendsTree meaning old new e es t (kept_in (starts_of meaning old) places)
  pub room : (meaning old.debug_info.0).size + places.end < 2 ^ 64
  pub writable : IsWritableTree (meaning old.debug_info.0).is_plain e es t
  pub place : IsTrue (offset_fits (meaning old.debug_info.0).is_plain (word_of e.format) (meaning old.debug_abbrev.0).size)

-- The same with its location lists, over a base address or without one.
pub record AddsTree {W : Type 0} (meaning : W → Meaning) (old new : Sections W) (e : Encoding) (es : List EntryValue) (t : Tables) (xs : List (List Location)) (has_base : Bool) (places : Places) : Type 0 where
  pub tree : AddsPlacedTree meaning old new e es t places
  pub lists : AppendsLists meaning old new e es xs
  pub lists_sound : NoCause (lists_fail_in e (places_in_tree e es) xs has_base (locations_of meaning e old).is_plain)

-- why it is refused
abbrev pub TreeRefused : {W : Type 0} → (W → Meaning) → Sections W → Sections W → Encoding → List EntryValue → Tables → List (List Location) → Bool → Error → Type 0
TreeRefused meaning old new e es t xs has_base =
    Because (SomeHasRisen meaning old new)
    (λ err. ListsFail e es xs has_base (locations_of meaning e old).is_plain err ⊎ TreeFails e es t (meaning old.debug_abbrev.0).size (meaning old.debug_info.0).is_plain err)

-- all but .debug_info, its references and .debug_abbrev stays
abbrev pub KeepsAllButUnit : {W : Type 0} → Sections W → Sections W → Type 0
KeepsAllButUnit old new = new ≡ record old {
  debug_abbrev = new.debug_abbrev;
  debug_info = new.debug_info;
  debug_info_fixups = new.debug_info_fixups;
}
