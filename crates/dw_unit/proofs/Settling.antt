-- A unit that was written as a settled one, behind its own parts of other sections.
use Rattle.std.specs.Prelude.{◌≡◌, ◌⊎◌, ℕ, Bool, true, false, ◌||◌, List, Some, refl, IsTrue}
use Rattle.std.proofs.Common.{sym, ◌∙◌, ap, subst, inl, inr}
use Rattle.dw_base.specs.declared.common.Encoding.{Encoding}
use Rattle.dw_base.specs.declared.error.Error.{Error}
use Rattle.dw_base.specs.declared.section_id.SectionId.{SectionId}
use Rattle.dw_base.specs.declared.section_id.SectionId.TheVariants.{DebugLine, DebugRanges, DebugRngLists}
use Rattle.dw_writer.specs.Causes.{HasRisen}
use Rattle.dw_writer.specs.Contents.{Meaning}
use Rattle.dw_writer.specs.Sections.{SomeHasRisen, section_of}
use Rattle.dw_writer.specs.declared.sections.Sections.{Sections}
use Rattle.dw_writer.proofs.FaultLaws.{HasRisen-from}
use Rattle.dw_entries.specs.Entries.{EntryValue}
use Rattle.dw_entries.specs.Targets.{Tables}
use Rattle.dw_lists.specs.declared.location.Location.{Location}
use Rattle.dw_tree.specs.Causes.{Because, Is, TreeFails, LocationsFail, UnitFails, UnitRefused}
use Rattle.dw_lists.specs.Tables.{locations_of}
use Rattle.dw_tree.specs.Elsewhere.{Elsewhere, elsewhere, unit_tables, tree_tables, PartPlaces, part_places, locations_at, locations_plain, line_fails, ranges_fail, parts_fail, AppendsLine, AppendsRanges, KeepsAllButParts}
use Rattle.dw_tree.specs.Locations.{AppendsLists}
use Rattle.dw_tree.specs.Pending.{Kept, PendsTree}
use Rattle.dw_tree.specs.UnitValue.{UnitValue}
use Rattle.dw_tree.specs.Whole.{settled}
use Rattle.dw_tree.specs.Written.{KeepsOtherSections, KeepsAllButTree}
use Rattle.dw_tree.proofs.Faults.{because-map}
use Rattle.dw_tree.proofs.LocationSteps.{locations_at-is, locations_plain-is}

module _ (u : UnitValue) (t : Elsewhere) (e : Encoding) (es : List EntryValue) (found : Tables) (is_e : e ≡ u.encoding) (is_es : es ≡ (settled u).entries) (is_found : found ≡ unit_tables t u) where
  -- what is said of the entries that were written is said of those of the settled unit
  pub of_settled : (P : Encoding → List EntryValue → Tables → Type 0) → P e es found → P u.encoding (settled u).entries (unit_tables t u)
  of_settled P h = subst (λ x. P u.encoding (settled u).entries x) is_found (subst (λ x. P u.encoding x found) is_es (subst (λ x. P x es found) is_e h))

-- the same with the location lists
module _ (u : UnitValue) (t : Elsewhere) (e : Encoding) (es : List EntryValue) (xs : List (List Location)) (plain : Bool) (found : Tables) (is_e : e ≡ u.encoding) (is_es : es ≡ (settled u).entries) (is_xs : xs ≡ u.locations) (is_plain : plain ≡ locations_plain t u) (is_found : found ≡ unit_tables t u) where
  pub of_settled_lists : (P : Encoding → List EntryValue → List (List Location) → Bool → Tables → Type 0) → P e es xs plain found → P u.encoding (settled u).entries u.locations (locations_plain t u) (unit_tables t u)
  of_settled_lists P h =
      subst (λ x. P u.encoding (settled u).entries u.locations (locations_plain t u) x) is_found
      (subst (λ x. P u.encoding (settled u).entries u.locations x found) is_plain
      (subst (λ x. P u.encoding (settled u).entries x plain found) is_xs
      (subst (λ x. P u.encoding x xs plain found) is_es (subst (λ x. P x es xs plain found) is_e h))))

-- where location lists begin behind the other parts of a unit, and what its operands lead to then
module _ {W : Type 0} (meaning : W → Meaning) (old mid : Sections W) (others : KeepsAllButParts old mid) (line_strings strings : List (List ℕ)) (u : UnitValue) (e : Encoding) (is_e : e ≡ u.encoding) where
  pub lists_plain : (locations_of meaning e mid).is_plain ≡ locations_plain (elsewhere meaning old line_strings strings) u
  lists_plain =
      ap (λ x. (locations_of meaning x mid).is_plain) is_e
      ∙ sym (locations_plain-is meaning mid line_strings strings u)
      ∙ ap (λ s. locations_plain (elsewhere meaning s line_strings strings) u) others

  lists_at : (locations_of meaning e mid).size ≡ locations_at (elsewhere meaning old line_strings strings) u
  lists_at =
      ap (λ x. (locations_of meaning x mid).size) is_e
      ∙ sym (locations_at-is meaning mid line_strings strings u)
      ∙ ap (λ s. locations_at (elsewhere meaning s line_strings strings) u) others

  pub settled_tables : (es : List EntryValue) (parts : PartPlaces) (xs : List (List Location)) → es ≡ (settled u).entries → parts ≡ part_places (elsewhere meaning old line_strings strings) u → xs ≡ u.locations →
      tree_tables e es parts xs (locations_of meaning e mid).size line_strings strings ≡ unit_tables (elsewhere meaning old line_strings strings) u
  settled_tables es parts xs is_es is_parts is_xs =
      let t = elsewhere meaning old line_strings strings in
      ap (λ n. tree_tables e es parts xs n line_strings strings) lists_at
      ∙ ap (λ x. tree_tables x es parts xs (locations_at t u) line_strings strings) is_e
      ∙ ap (λ x. tree_tables u.encoding x parts xs (locations_at t u) line_strings strings) is_es
      ∙ ap (λ x. tree_tables u.encoding (settled u).entries x xs (locations_at t u) line_strings strings) is_parts
      ∙ ap (λ x. tree_tables u.encoding (settled u).entries (part_places t u) x (locations_at t u) line_strings strings) is_xs

module _ {W : Type 0} (meaning : W → Meaning) (old mid new : Sections W) (others : KeepsAllButParts old mid) where
  -- a fault behind a unit's own parts is one since before them
  pub rises_behind : (line_strings strings : List (List ℕ)) (u : UnitValue) → AppendsLine meaning old mid line_strings strings u → AppendsRanges meaning old mid u → SomeHasRisen meaning mid new → SomeHasRisen meaning old new
  rises_behind line_strings strings u line ranges h = by_id h.id h.before h.after h.was h.is h.risen
    where
      by_id : (id : SectionId) (before after : W) → section_of mid id ≡ Some before → section_of new id ≡ Some after → HasRisen (meaning before) (meaning after) → SomeHasRisen meaning old new
      by_id DebugLine b a was is r =
          let same : mid.debug_line.0 ≡ b = cc in
          record { id = DebugLine; before = old.debug_line.0; after = a; was = refl; is = is; risen = HasRisen-from (meaning old.debug_line.0) (meaning mid.debug_line.0) (meaning a) line.text_is.same.faults (subst (λ w. HasRisen (meaning w) (meaning a)) (sym same) r) }
      by_id DebugRanges b a was is r =
          let same : mid.debug_ranges.0 ≡ b = cc in
          record { id = DebugRanges; before = old.debug_ranges.0; after = a; was = refl; is = is; risen = HasRisen-from (meaning old.debug_ranges.0) (meaning mid.debug_ranges.0) (meaning a) ranges.ranges.same.faults (subst (λ w. HasRisen (meaning w) (meaning a)) (sym same) r) }
      by_id DebugRngLists b a was is r =
          let same : mid.debug_rnglists.0 ≡ b = cc in
          record { id = DebugRngLists; before = old.debug_rnglists.0; after = a; was = refl; is = is; risen = HasRisen-from (meaning old.debug_rnglists.0) (meaning mid.debug_rnglists.0) (meaning a) ranges.range_lists.same.faults (subst (λ w. HasRisen (meaning w) (meaning a)) (sym same) r) }
      by_id id b a was is r = record { id = id; before = b; after = a; was = sym (ap (λ (s : Sections W). section_of s id) others) ∙ was; is = is; risen = r }

  -- a tree that is pending behind them
  pub pends_behind : (e : Encoding) (es : List EntryValue) (t : Tables) (k : Kept) → PendsTree meaning mid new e es t k → PendsTree meaning old new e es t k
  pends_behind e es t k p =
      let q = subst (λ (s : Sections W). PendsTree meaning s new e es t k) others p in
      record { stands = q.stands; unit = q.unit; table = q.table; there = q.there }

  -- location lists that stand behind them
  pub lists_behind : (e : Encoding) (es : List EntryValue) (xs : List (List Location)) → AppendsLists meaning mid new e es xs → AppendsLists meaning old new e es xs
  lists_behind e es xs p =
      let q = subst (λ (s : Sections W). AppendsLists meaning s new e es xs) others p in
      record { located = q.located; drafts = record { locations = q.drafts.locations; location_lists = q.drafts.location_lists } }

  -- what stays behind them
  pub others_behind : KeepsAllButTree mid new → KeepsOtherSections old new
  others_behind k =
      k
      ∙ ap (λ (s : Sections W). let t : Sections W = record s {
        debug_abbrev = new.debug_abbrev;
        debug_loc = new.debug_loc;
        debug_loclists = new.debug_loclists;
        debug_info = new.debug_info;
        debug_info_fixups = new.debug_info_fixups;
        debug_loc_fixups = new.debug_loc_fixups;
        debug_loclists_fixups = new.debug_loclists_fixups;
      } in t) others
      ∙ ap (λ (s : Sections W). let t : Sections W = record old {
        debug_abbrev = new.debug_abbrev;
        debug_line = s.debug_line;
        debug_ranges = s.debug_ranges;
        debug_rnglists = s.debug_rnglists;
        debug_loc = new.debug_loc;
        debug_loclists = new.debug_loclists;
        debug_info = new.debug_info;
        debug_info_fixups = new.debug_info_fixups;
        debug_loc_fixups = new.debug_loc_fixups;
        debug_loclists_fixups = new.debug_loclists_fixups;
      } in t) (sym k)

-- a fault behind a line program alone is one since before it
pub rises_behind_line : {W : Type 0} (meaning : W → Meaning) (old mid new : Sections W) → mid ≡ record old { debug_line = mid.debug_line } → (line_strings strings : List (List ℕ)) (u : UnitValue) → AppendsLine meaning old mid line_strings strings u →
    SomeHasRisen meaning mid new → SomeHasRisen meaning old new
rises_behind_line {W} meaning old mid new others line_strings strings u line h = by_id h.id h.before h.after h.was h.is h.risen
  where
    by_id : (id : SectionId) (before after : W) → section_of mid id ≡ Some before → section_of new id ≡ Some after → HasRisen (meaning before) (meaning after) → SomeHasRisen meaning old new
    by_id DebugLine b a was is r =
        let same : mid.debug_line.0 ≡ b = cc in
        record { id = DebugLine; before = old.debug_line.0; after = a; was = refl; is = is; risen = HasRisen-from (meaning old.debug_line.0) (meaning mid.debug_line.0) (meaning a) line.text_is.same.faults (subst (λ w. HasRisen (meaning w) (meaning a)) (sym same) r) }
    by_id id b a was is r = record { id = id; before = b; after = a; was = sym (ap (λ (s : Sections W). section_of s id) others) ∙ was; is = is; risen = r }

-- a unit's own parts alone
pub parts_kept : {W : Type 0} (meaning : W → Meaning) (old mid : Sections W) → KeepsAllButParts old mid → KeepsOtherSections old mid
parts_kept meaning old mid others = others_behind meaning old mid mid others refl

-- a tree that is refused, or its location lists
pub tree_refused : {W : Type 0} (meaning : W → Meaning) (old new : Sections W) (u : UnitValue) (t : Elsewhere) (err : Error) →
    Because (SomeHasRisen meaning old new) (λ e. LocationsFail u t e ⊎ TreeFails u.encoding (settled u).entries (unit_tables t u) (meaning old.debug_abbrev.0).size (meaning old.debug_info.0).is_plain e) err → UnitRefused meaning old new u t err
tree_refused meaning old new u t err h =
    let table = (meaning old.debug_abbrev.0).size in
    let plain = (meaning old.debug_info.0).is_plain in
    because-map {p = λ e. LocationsFail u t e ⊎ TreeFails u.encoding (settled u).entries (unit_tables t u) table plain e} {q = UnitFails u t table plain} (λ r. r) (λ f k. inr (inr k)) err h

-- a part that is refused
pub parts_refused : {W : Type 0} (meaning : W → Meaning) (old new : Sections W) (u : UnitValue) (t : Elsewhere) (err : Error) → Because (SomeHasRisen meaning old new) (Is (parts_fail t u)) err → UnitRefused meaning old new u t err
parts_refused meaning old new u t err h =
    because-map {p = Is (parts_fail t u)} {q = UnitFails u t (meaning old.debug_abbrev.0).size (meaning old.debug_info.0).is_plain} (λ r. r) (λ f k. inr (inl k)) err h

-- a fault of either is one of both
or_left : (a b : Bool) → IsTrue a → IsTrue (a || b)
or_left true b h = refl
or_left false b h = absurd (let x : false ≡ true = h in cc)

or_right : (a b : Bool) → IsTrue b → IsTrue (a || b)
or_right true b h = refl
or_right false b h = h

module _ {W : Type 0} (meaning : W → Meaning) (old new : Sections W) (u : UnitValue) (t : Elsewhere) (err : Error) where
  pub line_is_part : Because (SomeHasRisen meaning old new) (Is (line_fails t u)) err → Because (SomeHasRisen meaning old new) (Is (parts_fail t u)) err
  line_is_part h = because-map {p = Is (line_fails t u)} {q = Is (parts_fail t u)} (λ r. r) (λ e k. or_left (line_fails t u e) (ranges_fail t u e) k) err h

  pub ranges_are_part : {mid : Sections W} → (SomeHasRisen meaning mid new → SomeHasRisen meaning old new) → Because (SomeHasRisen meaning mid new) (Is (ranges_fail t u)) err → Because (SomeHasRisen meaning old new) (Is (parts_fail t u)) err
  ranges_are_part rise h = because-map {p = Is (ranges_fail t u)} {q = Is (parts_fail t u)} rise (λ e k. or_right (line_fails t u e) (ranges_fail t u e) k) err h
