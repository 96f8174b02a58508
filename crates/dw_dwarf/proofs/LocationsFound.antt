-- Location lists are found in the finished sections.
use Rattle.std.specs.Prelude.{◌≡◌, ℕ, Bool, true, false, not, List, [], ◌∷◌, ◌++◌, All, length, map, Some, refl, if◌then◌else◌}
use Rattle.std.proofs.Common.{sym, ◌∙◌, ap, subst, inr, arith, append_assoc, length-append}
use Rattle.std.proofs.lemmas.List.Elements.{All-head, All-tail}
use Rattle.dw_writer.specs.Drafts.{Info, no_draft, IsDraft, then_draft}
use Rattle.dw_writer.specs.Layout.{Layout}
use Rattle.dw_writer.specs.Texts.{Text}
use Rattle.dw_lists.specs.Items.{is_five}
use Rattle.dw_lists.specs.Tables.{IsFound, AreNumbered, offsets_from, locations_in}
use Rattle.dw_lists.proofs.Numbered.{table_numbered}
use Rattle.dw_tree.specs.Built.{at_zero}
use Rattle.dw_tree.specs.Elsewhere.{Elsewhere, has_base_address, locations_at, location_size, past_parts}
use Rattle.dw_tree.specs.Locations.{is_own_section, entry_places, location_draft, location_part, location_drafts, AreLocated}
use Rattle.dw_tree.specs.UnitValue.{UnitValue}
use Rattle.dw_tree.specs.Whole.{settled}
use Rattle.dw_unit.specs.WrittenUnits.{AreListsSound}
use Rattle.dw_dwarf.specs.Lists.{InOrder, FindsLocations, FindAllLocations}
use Rattle.dw_dwarf.proofs.ListsFound.{all_at, AreTold, told_apart, some_is}

-- the bytes of a unit's lists in one of the sections are as many as they come to
module _ (u : UnitValue) (is : IsDraft (location_draft (settled u))) (info : Info) (big : Bool) (l : Layout) where
  pub part_size : (five : Bool) (xs : List ℕ) → (location_part five (settled u)).text info big l ≡ Some xs → length xs ≡ location_size five u
  part_size five xs h = by_section (is_own_section five u.encoding) h
    where
      by_section : (b : Bool) → (if b then location_draft (settled u) else no_draft).text info big l ≡ Some xs → length xs ≡ (if b then location_draft (settled u) else no_draft).size
      by_section true k = is.wide info big l xs k
      by_section false k = ap length (sym (some_is [] xs k))

  pub whole_text : (five : Bool) → is_five u.encoding ≡ five → (xs : List ℕ) → (location_part five (settled u)).text info big l ≡ Some xs → (location_draft (settled u)).text info big l ≡ Some xs
  whole_text true own xs h = sym (ap (λ b. (if b then location_draft (settled u) else no_draft).text info big l) own) ∙ h
  whole_text false own xs h = sym (ap (λ b. (if not b then location_draft (settled u) else no_draft).text info big l) own) ∙ h

-- one unit's lists, where both sections stand before and behind them
module _ (old new : InOrder) (info : Info) (found : Elsewhere) (u : UnitValue) (located : AreLocated (settled u)) (numbered : All AreNumbered (locations_in u.locations)) where
  one_found : (before xs rest : List ℕ) (section : InOrder) → (if is_five u.encoding then new else old) ≡ section →
      section.bytes ≡ before ++ (xs ++ rest) → length before ≡ locations_at found u → (location_draft (settled u)).text info section.is_big at_zero ≡ Some xs → FindsLocations old new info found u
  one_found before xs rest section here bytes at told i x get =
      let stand = λ (n : ℕ). offsets_from true u.encoding (entry_places (settled u)) n (locations_in u.locations) in
      subst (λ (s : InOrder). IsFound true u.encoding (entry_places (settled u)) info s.is_big at_zero s.bytes (stand (locations_at found u)) i x) (sym here)
      (subst (λ n. IsFound true u.encoding (entry_places (settled u)) info section.is_big at_zero section.bytes (stand n) i x) at
      (subst (λ b. IsFound true u.encoding (entry_places (settled u)) info section.is_big at_zero b (stand (length before)) i x) (sym bytes)
      (located.again info section.is_big at_zero before xs rest told i x get (inr (all_at AreNumbered (locations_in u.locations) i x get numbered)))))

-- all units' lists behind so many bytes of both sections
pub all_located : (old new : InOrder) (info : Info) (found : Elsewhere) (before more behind others : List ℕ) (us : List UnitValue) → All AreLocated (map settled us) → All AreListsSound us →
    old.bytes ≡ before ++ more → length before ≡ found.ends.locations.size → (location_drafts false (map settled us)).text info old.is_big at_zero ≡ Some more →
    new.bytes ≡ behind ++ others → length behind ≡ found.ends.location_lists.size → (location_drafts true (map settled us)).text info new.is_big at_zero ≡ Some others → FindAllLocations old new info found us
unfolding then_draft
all_located old new info found before more behind others [] located sounds old_is old_at old_told new_is new_at new_told = tt
all_located old new info found before more behind others (u ∷ us) located sounds old_is old_at old_told new_is new_at new_told =
    let own = All-head AreLocated (settled u) (map settled us) located in
    let rest = λ (five : Bool). location_drafts five (map settled us) in
    let o = told_apart ((location_part false (settled u)).text info old.is_big at_zero) ((rest false).text info old.is_big at_zero) more old_told in
    let w = told_apart ((location_part true (settled u)).text info new.is_big at_zero) ((rest true).text info new.is_big at_zero) others new_told in
    let old_here : old.bytes ≡ before ++ (o.first ++ o.rest) = old_is ∙ ap (λ xs. before ++ xs) o.both in
    let new_here : new.bytes ≡ behind ++ (w.first ++ w.rest) = new_is ∙ ap (λ xs. behind ++ xs) w.both in
    let numbered = table_numbered u.encoding (Some (entry_places (settled u))) true (has_base_address u.entries) true (locations_in u.locations) (All-head AreListsSound u us sounds).locations refl in (
      by_version own o w old_here new_here numbered (is_five u.encoding) refl,
      all_located old new info (past_parts found u) (before ++ o.first) o.rest (behind ++ w.first) w.rest us (All-tail AreLocated (settled u) (map settled us) located) (All-tail AreListsSound u us sounds)
          (old_here ∙ sym (append_assoc before o.first o.rest)) (omega (arith, length-append before o.first, old_at, part_size u own.draft info old.is_big at_zero false o.first o.first_is)) o.rest_is
          (new_here ∙ sym (append_assoc behind w.first w.rest)) (omega (arith, length-append behind w.first, new_at, part_size u own.draft info new.is_big at_zero true w.first w.first_is)) w.rest_is,
    )
  where
    by_version : {t s : Text} → AreLocated (settled u) → (o : AreTold ((location_part false (settled u)).text info old.is_big at_zero) t more) → (w : AreTold ((location_part true (settled u)).text info new.is_big at_zero) s others) →
        old.bytes ≡ before ++ (o.first ++ o.rest) → new.bytes ≡ behind ++ (w.first ++ w.rest) → All AreNumbered (locations_in u.locations) → (five : Bool) → is_five u.encoding ≡ five → FindsLocations old new info found u
    by_version own o w old_here new_here numbered true is =
        one_found old new info found u own numbered behind w.first w.rest new (ap (λ b. if b then new else old) is) new_here
        (new_at ∙ sym (ap (λ b. if b then found.ends.location_lists.size else found.ends.locations.size) is)) (whole_text u own.draft info new.is_big at_zero true is w.first w.first_is)
    by_version own o w old_here new_here numbered false is =
        one_found old new info found u own numbered before o.first o.rest old (ap (λ b. if b then new else old) is) old_here
        (old_at ∙ sym (ap (λ b. if b then found.ends.location_lists.size else found.ends.locations.size) is)) (whole_text u own.draft info old.is_big at_zero false is o.first o.first_is)
