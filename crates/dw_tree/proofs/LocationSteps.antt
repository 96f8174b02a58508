-- The location lists of units, one unit's behind another's.
use Rattle.std.specs.Prelude.{◌≡◌, ℕ, Bool, true, false, not, List, [], ◌∷◌, ◌++◌, map, refl, if◌then◌else◌}
use Rattle.std.proofs.Common.{sym, ◌∙◌, ap, subst}
use Rattle.std.proofs.lemmas.List.{map-append}
use Rattle.std.proofs.lemmas.List.Elements.{All-nil, All-cons, All-append}
use Rattle.dw_base.specs.declared.common.Encoding.{Encoding}
use Rattle.dw_base.specs.declared.error.Error.{Error}
use Rattle.dw_base.specs.declared.error.Error.TheVariants as errors
use Rattle.dw_base.specs.declared.section_id.SectionId.TheVariants.{DebugLoc, DebugLocLists}
use Rattle.dw_writer.specs.Causes.{HasRisen}
use Rattle.dw_writer.specs.Drafts.{Draft, Drafts, no_draft, then_draft, all_drafts}
use Rattle.dw_writer.specs.Meaning.{Meaning}
use Rattle.dw_writer.specs.Sections.{SomeHasRisen}
use Rattle.dw_writer.specs.declared.sections.Sections.{Sections}
use Rattle.dw_writer.proofs.DraftLaws.{then-nothing, all-append}
use Rattle.dw_writer.proofs.WriteLaws.{Drafts-nothing, Drafts-then, Drafts-is}
use Rattle.dw_lists.specs.Causes.{Refused as ListsRefused}
use Rattle.dw_lists.specs.Items.{is_five}
use Rattle.dw_lists.specs.Tables.{location_section, locations_of, fixups_by, OtherListsStay}
use Rattle.dw_tree.specs.Built.{Numbered}
use Rattle.dw_tree.specs.Causes.{Because, Is}
use Rattle.dw_tree.specs.Elsewhere.{elsewhere, locations_at, locations_plain}
use Rattle.dw_tree.specs.Locations.{is_own_section, location_part, location_drafts, AreLocated, DraftLocations, AppendsLocations, KeepsAllButLocations}
use Rattle.dw_tree.specs.Pending.{locations_draft, PendsLocations}
use Rattle.dw_tree.specs.UnitValue.{UnitValue}

module _ {W : Type 0} (meaning : W → Meaning) where
  -- Drafts in both sections

  pub locations_none : (s : Sections W) → DraftLocations meaning s s (λ five. no_draft)
  locations_none s = record {
    locations = Drafts-nothing (meaning s.debug_loc.0) s.debug_loc_fixups;
    location_lists = Drafts-nothing (meaning s.debug_loclists.0) s.debug_loclists_fixups;
  }

  pub locations_as : (a b : Sections W) (d f : Bool → Draft) → DraftLocations meaning a b d → ((five : Bool) → d five ≡ f five) → DraftLocations meaning a b f
  locations_as a b d f p same = record { locations = Drafts-is p.locations (same false); location_lists = Drafts-is p.location_lists (same true) }

  pub locations_then : (a b c : Sections W) (d f : Bool → Draft) → DraftLocations meaning a b d → DraftLocations meaning b c f → DraftLocations meaning a c (λ five. then_draft (d five) (f five))
  locations_then a b c d f p q = record { locations = Drafts-then p.locations q.locations; location_lists = Drafts-then p.location_lists q.location_lists }

  -- A table in the section of its version, and nothing in the other one
  module _ (old new : Sections W) (e : Encoding) (d : Draft) where
    by_version : (five : Bool) → is_five e ≡ five → OtherListsStay five old new →
        Drafts (meaning (location_section five old)) (meaning (location_section five new)) (fixups_by five old) (fixups_by five new) d →
        DraftLocations meaning old new (λ own. if is_own_section own e then d else no_draft)
    by_version true is others p = record {
      locations = subst (λ (s : Sections W). Drafts (meaning old.debug_loc.0) (meaning s.debug_loc.0) old.debug_loc_fixups s.debug_loc_fixups (if is_own_section false e then d else no_draft)) (sym others)
          (Drafts-is (Drafts-nothing (meaning old.debug_loc.0) old.debug_loc_fixups) (sym (ap (λ b. if not b then d else no_draft) is)));
      location_lists = Drafts-is p (sym (ap (λ b. if b then d else no_draft) is));
    }
    by_version false is others p = record {
      locations = Drafts-is p (sym (ap (λ b. if not b then d else no_draft) is));
      location_lists = subst (λ (s : Sections W). Drafts (meaning old.debug_loclists.0) (meaning s.debug_loclists.0) old.debug_loclists_fixups s.debug_loclists_fixups (if is_own_section true e then d else no_draft)) (sym others)
          (Drafts-is (Drafts-nothing (meaning old.debug_loclists.0) old.debug_loclists_fixups) (sym (ap (λ b. if b then d else no_draft) is)));
    }

    pub locations_added : OtherListsStay (is_five e) old new →
        Drafts (locations_of meaning e old) (locations_of meaning e new) (fixups_by (is_five e) old) (fixups_by (is_five e) new) d →
        DraftLocations meaning old new (λ own. if is_own_section own e then d else no_draft)
    locations_added others p = by_version (is_five e) refl others p

  module _ (old new : Sections W) (e : Encoding) where
    others_by : (five : Bool) → OtherListsStay five old new → KeepsAllButLocations old new
    others_by true h = h ∙ ap (λ (s : Sections W). let t : Sections W = record old { debug_loc = s.debug_loc; debug_loclists = new.debug_loclists; debug_loc_fixups = s.debug_loc_fixups; debug_loclists_fixups = new.debug_loclists_fixups } in t) (sym h)
    others_by false h = h ∙ ap (λ (s : Sections W). let t : Sections W = record old { debug_loc = new.debug_loc; debug_loclists = s.debug_loclists; debug_loc_fixups = new.debug_loc_fixups; debug_loclists_fixups = s.debug_loclists_fixups } in t) (sym h)

    pub locations_others : OtherListsStay (is_five e) old new → KeepsAllButLocations old new
    locations_others h = others_by (is_five e) h

    risen_by : (five : Bool) → HasRisen (meaning (location_section five old)) (meaning (location_section five new)) → SomeHasRisen meaning old new
    risen_by true h = record { id = DebugLocLists; before = old.debug_loclists.0; after = new.debug_loclists.0; was = refl; is = refl; risen = h }
    risen_by false h = record { id = DebugLoc; before = old.debug_loc.0; after = new.debug_loc.0; was = refl; is = refl; risen = h }

    -- why a table is refused
    pub locations_because : (fails : Error → Bool) (err : Error) → ListsRefused (locations_of meaning e old) (locations_of meaning e new) (Is fails) err → Because (SomeHasRisen meaning old new) (Is fails) err
    locations_because fails errors.NoMemory h = tt
    locations_because fails errors.WriteFault h = risen_by (is_five e) h
    locations_because fails err h = h

  -- where a unit's location lists begin, as their own crate has it, and whether that writer is plain
  module _ (s : Sections W) (line_strings strings : List (List ℕ)) (u : UnitValue) where
    at_by : (five : Bool) → (if five then (meaning s.debug_loclists.0).size else (meaning s.debug_loc.0).size) ≡ (meaning (location_section five s)).size
    at_by true = refl
    at_by false = refl

    plain_by : (five : Bool) → (if five then (meaning s.debug_loclists.0).is_plain else (meaning s.debug_loc.0).is_plain) ≡ (meaning (location_section five s)).is_plain
    plain_by true = refl
    plain_by false = refl

    pub locations_at-is : locations_at (elsewhere meaning s line_strings strings) u ≡ (locations_of meaning u.encoding s).size
    locations_at-is = at_by (is_five u.encoding)

    pub locations_plain-is : locations_plain (elsewhere meaning s line_strings strings) u ≡ (locations_of meaning u.encoding s).is_plain
    locations_plain-is = plain_by (is_five u.encoding)

  -- Those of units

  pub lists_none : (s : Sections W) → PendsLocations meaning s s []
  lists_none s = record { located = All-nil (λ u. AreLocated u.unit); drafts = locations_none s }

  pub lists_one : (old new : Sections W) (u : Numbered) → AppendsLocations meaning old new u.unit → PendsLocations meaning old new (u ∷ [])
  lists_one old new u p = record {
    located = All-cons (λ v. AreLocated v.unit) u [] p.located (All-nil (λ v. AreLocated v.unit));
    drafts = locations_as old new (λ five. location_part five u.unit) (locations_draft (u ∷ [])) p.drafts (λ five. sym (then-nothing (location_part five u.unit)));
  }

  drafts_append : (us vs : List Numbered) (five : Bool) → locations_draft (us ++ vs) five ≡ then_draft (locations_draft us five) (locations_draft vs five)
  drafts_append us vs five =
      let unit = λ (u : Numbered). u.unit in
      ap (location_drafts five) (map-append unit us vs)
      ∙ ap all_drafts (map-append (location_part five) (map unit us) (map unit vs))
      ∙ all-append (map (location_part five) (map unit us)) (map (location_part five) (map unit vs))

  pub lists_then : (a b c : Sections W) (us vs : List Numbered) → PendsLocations meaning a b us → PendsLocations meaning b c vs → PendsLocations meaning a c (us ++ vs)
  lists_then a b c us vs p q = record {
    located = All-append (λ u. AreLocated u.unit) us vs p.located q.located;
    drafts = locations_as a c (λ five. then_draft (locations_draft us five) (locations_draft vs five)) (locations_draft (us ++ vs)) (locations_then a b c (locations_draft us) (locations_draft vs) p.drafts q.drafts) (λ five. sym (drafts_append us vs five));
  }
