-- A tree whose location lists are written before it.
use Rattle.std.specs.Prelude.{◌≡◌, ◌⊎◌, ℕ, Bool, true, false, not, List, Some, IsTrue, IsFalse, refl, if◌then◌else◌}
use Rattle.std.proofs.Common.{sym, ◌∙◌, ap, subst, inl, inr}
use Rattle.dw_base.specs.declared.common.Encoding.{Encoding}
use Rattle.dw_base.specs.declared.error.Error.{Error}
use Rattle.dw_base.specs.declared.section_id.SectionId.{SectionId}
use Rattle.dw_base.specs.declared.section_id.SectionId.TheVariants.{DebugLoc, DebugLocLists}
use Rattle.dw_writer.specs.Causes.{HasRisen}
use Rattle.dw_writer.specs.Drafts.{Draft, no_draft, IsDraft}
use Rattle.dw_writer.specs.Meaning.{Meaning}
use Rattle.dw_writer.specs.Sections.{SomeHasRisen, section_of}
use Rattle.dw_writer.specs.declared.sections.Sections.{Sections}
use Rattle.dw_writer.proofs.FaultLaws.{HasRisen-from}
use Rattle.dw_entries.specs.Entries.{EntryValue}
use Rattle.dw_entries.specs.Targets.{Tables}
use Rattle.dw_lists.specs.declared.location.Location.{Location}
use Rattle.dw_lists.specs.Items.{is_five}
use Rattle.dw_lists.specs.Tables.{Offsets as ListOffsets, offsets_from, locations_in, locations_of, IsReadAgain}
use Rattle.dw_tree.specs.AddedTree.{AddsPlacedTree, TreeRefused, KeepsAllButUnit}
use Rattle.dw_tree.specs.Causes.{Because, Is, TreeFails}
use Rattle.dw_tree.specs.Early.{tree_is_forward}
use Rattle.dw_tree.specs.Elsewhere.{OwnPlaces, PartPlaces, with_locations, tables_in, tree_tables}
use Rattle.dw_tree.specs.Locations.{places_in_tree, lists_draft, lists_part, lists_fail_in, ListsFail, DraftLocations, AppendsLists, KeepsAllButLocations}
use Rattle.dw_tree.specs.Places.{placement_of, known_at}
use Rattle.dw_tree.specs.Whole.{IsTreePlacement}
use Rattle.dw_tree.specs.Written.{KeepsAllButTree}
use Rattle.dw_tree.specs.declared.places.Places.{Places}
use Rattle.dw_tree.proofs.Faults.{because-map}
use Rattle.dw_tree.proofs.TreePlaces.{places_in_tree-is}

-- where a tree's operands lead to, once its location lists stand where its entries are placed
module _ (e : Encoding) (es : List EntryValue) (places : Places) (early : (err : Error) → IsFalse (tree_is_forward e es err)) (placed : IsTreePlacement e es (placement_of places)) where
  known_is : known_at places ≡ places_in_tree e es
  known_is = sym (places_in_tree-is e es (placement_of places) early placed)

  pub own_tables : (parts : PartPlaces) (xs : List (List Location)) (at : ℕ) (line_strings strings : List (List ℕ)) (own : OwnPlaces) (lists : ListOffsets) →
      own ≡ with_locations parts lists → lists ≡ offsets_from true e (known_at places) at (locations_in xs) → tables_in own line_strings strings ≡ tree_tables e es parts xs at line_strings strings
  own_tables parts xs at line_strings strings own lists is stand =
      ap (λ o. tables_in o line_strings strings) is
      ∙ ap (λ (o : ListOffsets). tables_in (with_locations parts o) line_strings strings) stand
      ∙ ap (λ f. tables_in (with_locations parts (offsets_from true e f at (locations_in xs))) line_strings strings) known_is

  -- why the location lists are refused
  pub lists_refused : (rise : Type 0) (xs : List (List Location)) (has_base plain : Bool) (t : Tables) (table : ℕ) (tree_plain : Bool) (err : Error) → Because rise (Is (lists_fail_in e (known_at places) xs has_base plain)) err →
      Because rise (λ x. ListsFail e es xs has_base plain x ⊎ TreeFails e es t table tree_plain x) err
  lists_refused rise xs has_base plain t table tree_plain err h =
      because-map {p = Is (lists_fail_in e (known_at places) xs has_base plain)} {q = λ x. ListsFail e es xs has_base plain x ⊎ TreeFails e es t table tree_plain x} (λ r. r)
      (λ x k. inl (record { places = placement_of places; placed = placed; fails = subst (λ f. IsTrue (lists_fail_in e f xs has_base plain x)) known_is k })) err h

  pub lists_none_fail : (xs : List (List Location)) (has_base plain : Bool) → ((err : Error) → IsFalse (lists_fail_in e (known_at places) xs has_base plain err)) → (err : Error) → IsFalse (lists_fail_in e (places_in_tree e es) xs has_base plain err)
  lists_none_fail xs has_base plain h err = subst (λ f. IsFalse (lists_fail_in e f xs has_base plain err)) known_is (h err)

  pub lists_append : {W : Type 0} (meaning : W → Meaning) (old mid : Sections W) (xs : List (List Location)) → IsReadAgain true e (known_at places) (locations_in xs) → DraftLocations meaning old mid (lists_part e (known_at places) xs) → AppendsLists meaning old mid e es xs
  lists_append meaning old mid xs again drafts =
      let here = subst (λ f. DraftLocations meaning old mid (lists_part e f xs)) known_is drafts in
      record {
        located = record { draft = by_version (is_five e) refl here.locations.is here.location_lists.is; again = subst (λ f. IsReadAgain true e f (locations_in xs)) known_is again };
        drafts = here;
      }
    where
      d : Draft
      d = lists_draft e (places_in_tree e es) xs

      by_version : (five : Bool) → is_five e ≡ five → IsDraft (lists_part e (places_in_tree e es) xs false) → IsDraft (lists_part e (places_in_tree e es) xs true) → IsDraft d
      by_version true is p q = subst (λ b. IsDraft (if b then d else no_draft)) is q
      by_version false is p q = subst (λ b. IsDraft (if not b then d else no_draft)) is p

module _ {W : Type 0} (meaning : W → Meaning) (old mid new : Sections W) (others : KeepsAllButLocations old mid) where
  -- a fault behind location lists is one since before them
  pub rises_after : (d : Bool → Draft) → DraftLocations meaning old mid d → SomeHasRisen meaning mid new → SomeHasRisen meaning old new
  rises_after d drafts h = by_id h.id h.before h.after h.was h.is h.risen
    where
      by_id : (id : SectionId) (before after : W) → section_of mid id ≡ Some before → section_of new id ≡ Some after → HasRisen (meaning before) (meaning after) → SomeHasRisen meaning old new
      by_id DebugLoc b a was is r =
          let same : mid.debug_loc.0 ≡ b = cc in
          record { id = DebugLoc; before = old.debug_loc.0; after = a; was = refl; is = is; risen = HasRisen-from (meaning old.debug_loc.0) (meaning mid.debug_loc.0) (meaning a) drafts.locations.text.same.faults (subst (λ w. HasRisen (meaning w) (meaning a)) (sym same) r) }
      by_id DebugLocLists b a was is r =
          let same : mid.debug_loclists.0 ≡ b = cc in
          record { id = DebugLocLists; before = old.debug_loclists.0; after = a; was = refl; is = is; risen = HasRisen-from (meaning old.debug_loclists.0) (meaning mid.debug_loclists.0) (meaning a) drafts.location_lists.text.same.faults (subst (λ w. HasRisen (meaning w) (meaning a)) (sym same) r) }
      by_id id b a was is r = record { id = id; before = b; after = a; was = sym (ap (λ (s : Sections W). section_of s id) others) ∙ was; is = is; risen = r }

  -- what a tree comes to behind them, whose operands lead to what they left
  module _ (e : Encoding) (es : List EntryValue) (own t : Tables) (own_is : own ≡ t) where
    pub placed_after : (places : Places) → AddsPlacedTree meaning mid new e es own places → AddsPlacedTree meaning old new e es t places
    placed_after places h =
        let named = subst (λ x. AddsPlacedTree meaning mid new e es x places) own_is h in
        let q = subst (λ (s : Sections W). AddsPlacedTree meaning s new e es t places) others named in
        record {
          unit = record { stands = q.unit.stands; unit = q.unit.unit; table = q.unit.table; there = q.unit.there };
          room = q.room;
          writable = q.writable;
          place = q.place;
        }

    -- and why it is refused
    pub refused_after : (d : Bool → Draft) → DraftLocations meaning old mid d → (xs : List (List Location)) (has_base : Bool) (err : Error) →
        Because (SomeHasRisen meaning mid new) (TreeFails e es own (meaning mid.debug_abbrev.0).size (meaning mid.debug_info.0).is_plain) err → TreeRefused meaning old new e es t xs has_base err
    refused_after d drafts xs has_base err h =
        let named = subst (λ x. Because (SomeHasRisen meaning mid new) (TreeFails e es x (meaning mid.debug_abbrev.0).size (meaning mid.debug_info.0).is_plain) err) own_is h in
        let behind = subst (λ (s : Sections W). Because (SomeHasRisen meaning mid new) (TreeFails e es t (meaning s.debug_abbrev.0).size (meaning s.debug_info.0).is_plain) err) others named in
        let fails = TreeFails e es t (meaning old.debug_abbrev.0).size (meaning old.debug_info.0).is_plain in
        because-map {p = fails} {q = λ x. ListsFail e es xs has_base (locations_of meaning e old).is_plain x ⊎ fails x} (rises_after d drafts) (λ x k. inr k) err behind

  module _ (kept : KeepsAllButUnit mid new) where
    -- they stay as they are
    pub lists_after : (e : Encoding) (es : List EntryValue) (xs : List (List Location)) → AppendsLists meaning old mid e es xs → AppendsLists meaning old new e es xs
    lists_after e es xs p =
        let q = subst (λ (s : Sections W). DraftLocations meaning old s (lists_part e (places_in_tree e es) xs)) (sym kept) (record { locations = p.drafts.locations; location_lists = p.drafts.location_lists }) in
        record { located = p.located; drafts = q }

    pub others_after : KeepsAllButTree old new
    others_after =
        kept
        ∙ ap (λ (s : Sections W). let t : Sections W = record s { debug_abbrev = new.debug_abbrev; debug_info = new.debug_info; debug_info_fixups = new.debug_info_fixups } in t) others
        ∙ ap (λ (s : Sections W). let t : Sections W = record old {
          debug_abbrev = new.debug_abbrev;
          debug_loc = s.debug_loc;
          debug_loclists = s.debug_loclists;
          debug_info = new.debug_info;
          debug_info_fixups = new.debug_info_fixups;
          debug_loc_fixups = s.debug_loc_fixups;
          debug_loclists_fixups = s.debug_loclists_fixups;
        } in t) (sym kept)
