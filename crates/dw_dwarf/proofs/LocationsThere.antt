-- Location lists without a fault, whose references lead to places that fit, have a text where no symbols can be written.
use Rattle.std.specs.Prelude.{◌≡◌, ℕ, suc, Bool, true, false, List, [], ◌∷◌, ◌++◌, All, map, Some, refl, IsFalse, if◌then◌else◌}
use Rattle.std.proofs.Common.{◌∙◌, ap}
use Rattle.std.proofs.lemmas.List.Elements.{All-head, All-tail}
use Rattle.dw_base.specs.declared.error.Error.{Error}
use Rattle.dw_writer.specs.Drafts.{Info, Draft, no_draft, then_draft, shifted}
use Rattle.dw_writer.specs.Layout.{Layout}
use Rattle.dw_writer.specs.Texts.{Text, followed}
use Rattle.dw_writer.specs.declared.fixup.DebugInfoFixup.{DebugInfoFixup}
use Rattle.dw_entries.specs.Targets.{HaveInfoPlaces}
use Rattle.dw_expr.proofs.ExpressionsThere.{ArePlaced}
use Rattle.dw_lists.proofs.There.{locations_there}
use Rattle.dw_tree.specs.Built.{Numbered, numbered_from}
use Rattle.dw_tree.specs.Elsewhere.{Elsewhere, has_base_address, past_parts}
use Rattle.dw_tree.specs.Locations.{is_own_section, entry_places, location_draft, location_part, location_drafts, lists_fail_in}
use Rattle.dw_tree.specs.UnitValue.{UnitValue}
use Rattle.dw_tree.specs.Whole.{settled}
use Rattle.dw_unit.specs.WrittenUnits.{AreListsSound}

-- references that have places that fit
pub placed_is : (info : Info) (hs : List DebugInfoFixup) → HaveInfoPlaces info hs → ArePlaced info hs
placed_is info [] h = tt
placed_is info (x ∷ hs) h = ((h.0.place, h.0.is, h.0.fits), placed_is info hs h.1)

placed_append : (info : Info) (xs ys : List DebugInfoFixup) → ArePlaced info (xs ++ ys) → ArePlaced info xs × ArePlaced info ys
placed_append info [] ys h = (tt, h)
placed_append info (x ∷ xs) ys h = let rest = placed_append info xs ys h.1 in ((h.0, rest.0), rest.1)

placed_shifted : (info : Info) (n : ℕ) (hs : List DebugInfoFixup) → ArePlaced info (shifted n hs) → ArePlaced info hs
placed_shifted info n [] h = tt
placed_shifted info n (x ∷ hs) h = (h.0, placed_shifted info n hs h.1)

placed_then : (info : Info) (d f : Draft) → ArePlaced info (then_draft d f).holes → ArePlaced info d.holes × ArePlaced info f.holes
unfolding then_draft
placed_then info d f h = let parts = placed_append info d.holes (shifted d.size f.holes) h in (parts.0, placed_shifted info d.size f.holes parts.1)

both_there : (t u : Text) (x y : List ℕ) → t ≡ Some x → u ≡ Some y → followed t u ≡ Some (x ++ y)
unfolding followed
both_there t u x y p q = ap (λ v. followed v u) p ∙ ap (followed (Some x)) q

module _ (info : Info) (big : Bool) (l : Layout) where
  -- those of one unit
  part_there : (u : UnitValue) → ((err : Error) → IsFalse (lists_fail_in u.encoding (entry_places (settled u)) u.locations (has_base_address u.entries) true err)) → (five : Bool) → ArePlaced info (location_part five (settled u)).holes →
      (xs : List ℕ) × ((location_part five (settled u)).text info big l ≡ Some xs)
  part_there u sound five = by_section (is_own_section five u.encoding)
    where
      by_section : (b : Bool) → ArePlaced info (if b then location_draft (settled u) else no_draft).holes → (xs : List ℕ) × ((if b then location_draft (settled u) else no_draft).text info big l ≡ Some xs)
      by_section true h = locations_there u.encoding (entry_places (settled u)) (has_base_address u.entries) u.locations sound info big l h
      by_section false h = ([], refl)

  -- those of all units
  pub locations_all_there : (five : Bool) (us : List UnitValue) → All AreListsSound us → ArePlaced info (location_drafts five (map settled us)).holes → (xs : List ℕ) × ((location_drafts five (map settled us)).text info big l ≡ Some xs)
  unfolding then_draft
  locations_all_there five [] all h = ([], refl)
  locations_all_there five (u ∷ us) all h =
      let first = location_part five (settled u) in
      let rest = location_drafts five (map settled us) in
      let placed = placed_then info first rest h in
      let more = locations_all_there five us (All-tail AreListsSound u us all) placed.1 in
      let here = part_there u (All-head AreListsSound u us all).locations five placed.0 in
      (here.0 ++ more.0, both_there (first.text info big l) (rest.text info big l) here.0 more.0 here.1 more.1)

-- units as they are written, whatever they find elsewhere
pub numbered_units : (n : ℕ) (t : Elsewhere) (us : List UnitValue) → map (λ (u : Numbered). u.unit) (numbered_from n t us) ≡ map settled us
numbered_units n t [] = refl
numbered_units n t (u ∷ us) = ap (λ xs. settled u ∷ xs) (numbered_units (suc n) (past_parts t u) us)
