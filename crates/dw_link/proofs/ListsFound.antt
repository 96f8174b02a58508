-- Range lists and location lists are found in the joined sections.
use Rattle.std.specs.Prelude.{◌≡◌, ℕ, suc, ◌+◌, ◌*◌, Bool, true, false, List, [], ◌∷◌, ◌++◌, map, length, All, Option, Some, None, slice_get, refl, if◌then◌else◌}
use Rattle.std.proofs.Common.{sym, ◌∙◌, ap, subst, inl, inr, arith, append_assoc, length-append}
use Rattle.std.proofs.lemmas.List.Elements.{All-head, All-tail}
use Rattle.dw_base.specs.Numbers.{word_of, length_size}
use Rattle.dw_base.specs.declared.common.Encoding.{Encoding}
use Rattle.dw_base.specs.declared.section_id.SectionId.{SectionId}
use Rattle.dw_base.specs.declared.section_id.SectionId.TheVariants.{DebugInfo, DebugRanges, DebugRngLists, DebugLoc, DebugLocLists}
use Rattle.dw_writer.specs.Drafts.{Info, left_open, open_text, started, then_draft}
use Rattle.dw_writer.specs.Layout.{Layout, start_of}
use Rattle.dw_writer.specs.Meaning.{Meaning}
use Rattle.dw_writer.specs.Resolved.{resolved}
use Rattle.dw_writer.specs.declared.sections.Sections.{Sections}
use Rattle.dw_lists.specs.Items.{is_five}
use Rattle.dw_lists.specs.Kinds.{kinds_of}
use Rattle.dw_lists.specs.Parts.{Part}
use Rattle.dw_lists.specs.Pieces.{fields_size}
use Rattle.dw_lists.specs.Tables.{Offsets, IsFound, base_from, offsets_by, offsets_from, no_place, ranges_in, locations_in}
use Rattle.dw_lists.specs.Texts.{list_draft, places_from}
use Rattle.dw_lists.proofs.TableAgain.{ranges_shaped, locations_shaped}
use Rattle.dw_line.specs.Parts.{texts}
use Rattle.dw_tree.specs.Built.{Numbered, settled_at, numbered_from}
use Rattle.dw_tree.specs.Elsewhere.{Elsewhere, AreFound, ranges_at, range_draft, range_text, range_places_at, locations_at, past_parts}
use Rattle.dw_tree.specs.Locations.{entry_places, location_draft, location_part, AreLocated}
use Rattle.dw_tree.specs.Pending.{Kept, info_of, locations_draft}
use Rattle.dw_tree.specs.UnitValue.{UnitValue}
use Rattle.dw_tree.specs.Whole.{settled}
use Rattle.dw_unit.proofs.ReadUnits.{parted}
use Rattle.dw_dwarf.specs.DwarfValue.{DwarfValue}
use Rattle.dw_dwarf.specs.Left.{units_of}
use Rattle.dw_dwarf.specs.Valid.{found_from, empty_ends}
use Rattle.dw_dwarf.proofs.ListsFound.{part_size as range_length, whole_text as range_whole}
use Rattle.dw_dwarf.proofs.LocationsFound.{part_size as location_length, whole_text as location_whole}
use Rattle.dw_link.specs.Lists.{Joined, counted_from, CanBeRead, FindsRangesIn, FindsRanges, FindAllRanges, FindsLocationsIn, FindsLocations, FindAllLocations, AreRows, old_in, new_in, FindRangesFrom, FindLocationsFrom}
use Rattle.dw_link.specs.Linked.{AreLeft}
use Rattle.dw_link.specs.Sets.{Parts, parts_of, sets_of, concatenated, layout_in, linked_from}
use Rattle.dw_link.proofs.OldLists.{old_found}
use Rattle.dw_link.proofs.PartLengths.{part_length, concatenated-more, behind}

-- Places that are counted from further in front

last_first : (at start n : ℕ) → (at + start) + n ≡ (at + n) + start
last_first at start n = omega arith

module _ (e : Encoding) (place : ℕ → Option ℕ) (start : ℕ) where
  places_counted : (five loc : Bool) (at : ℕ) (xs : List (List Part)) → places_from five e place (kinds_of loc) (at + start) xs ≡ map (λ n. n + start) (places_from five e place (kinds_of loc) at xs)
  places_counted five loc at [] = refl
  places_counted five loc at (x ∷ xs) =
      let size = (list_draft five e place (kinds_of loc) x).size in
      ap (λ ns. (at + start) ∷ ns) (ap (λ n. places_from five e place (kinds_of loc) n xs) (last_first at start size) ∙ places_counted five loc (at + size) xs)

  offsets_counted : (loc : Bool) (at : ℕ) (xs : List (List Part)) → offsets_from loc e place (at + start) xs ≡ counted_from start (offsets_from loc e place at xs)
  offsets_counted loc at xs = by_version (is_five e) xs
    where
      by_version : (five : Bool) (xs : List (List Part)) → offsets_by loc e place five (at + start) xs ≡ counted_from start (offsets_by loc e place five at xs)
      by_version true [] = refl
      by_version false [] = refl
      by_version false (x ∷ xs) = ap (λ ns. let o : Offsets = record { base = None; places = ns } in o) (places_counted false loc at (x ∷ xs))
      by_version true (x ∷ xs) =
          let n = length (x ∷ xs) * word_of e.format in
          let base = base_from e.format at in
          let first : base_from e.format (at + start) ≡ base + start = last_first at start (length_size e.format + fields_size) in
          ap (λ b. let o : Offsets = record { base = Some b; places = places_from true e place (kinds_of loc) (b + n) (x ∷ xs) } in o) first
          ∙ ap (λ ns. let o : Offsets = record { base = Some (base + start); places = ns } in o)
          (ap (λ m. places_from true e place (kinds_of loc) m (x ∷ xs)) (last_first base start n) ∙ places_counted true loc (base + n) (x ∷ xs))

-- what stands behind other bytes, in two parts
two_parts : (section before xs after first rest : List ℕ) → section ≡ before ++ (xs ++ after) → first ++ rest ≡ xs → section ≡ before ++ (first ++ (rest ++ after))
two_parts section before xs after first rest is all = is ∙ ap (λ zs. before ++ (zs ++ after)) (sym all) ∙ ap (λ zs. before ++ zs) (append_assoc first rest after)

-- One unit's range lists

module _ (s : Joined) (u : UnitValue) (again : AreFound u) where
  ranges_here : (at : ℕ) (before xs rest : List ℕ) → s.bytes ≡ before ++ (xs ++ rest) → length before ≡ at + s.layout.own_start → open_text (range_draft u) s.is_big s.layout ≡ Some xs →
      (i : ℕ) (x : List Part) → slice_get (ranges_in u.ranges) i ≡ Some x → CanBeRead s.layout u x →
      IsFound false u.encoding no_place left_open s.is_big s.layout s.bytes (counted_from s.layout.own_start (range_places_at at u)) i x
  ranges_here at before xs rest is here told i x get can =
      subst (λ o. IsFound false u.encoding no_place left_open s.is_big s.layout s.bytes o i x)
      (ap (λ n. range_places_at n u) here ∙ offsets_counted u.encoding no_place s.layout.own_start false at (ranges_in u.ranges))
      (subst (λ b. IsFound false u.encoding no_place left_open s.is_big s.layout b (range_places_at (length before) u) i x) (sym is) (by_version (is_five u.encoding) refl can))
    where
      by_version : (five : Bool) → is_five u.encoding ≡ five → CanBeRead s.layout u x → IsFound false u.encoding no_place left_open s.is_big s.layout (before ++ (xs ++ rest)) (range_places_at (length before) u) i x
      by_version true five can = again left_open s.is_big s.layout before xs rest told i x get (inl five)
      by_version false four (inl five) = again left_open s.is_big s.layout before xs rest told i x get (inl five)
      by_version false four (inr (inl numbered)) = again left_open s.is_big s.layout before xs rest told i x get (inr numbered)
      by_version false four (inr (inr apart)) = old_found false u.encoding no_place left_open s.is_big s.layout four (ranges_in u.ranges) (ranges_shaped u.ranges) before xs rest told i x get apart

-- those of all units, where both sections stand before and behind them
ranges_found : (old new : Joined) (found : Elsewhere) (before xs after behind ys rest : List ℕ) (us : List UnitValue) → All AreFound us →
    old.bytes ≡ before ++ (xs ++ after) → length before ≡ found.ends.ranges.size + old.layout.own_start → texts (range_text false) us old.is_big old.layout ≡ Some xs →
    new.bytes ≡ behind ++ (ys ++ rest) → length behind ≡ found.ends.range_lists.size + new.layout.own_start → texts (range_text true) us new.is_big new.layout ≡ Some ys →
    FindAllRanges old new found us
ranges_found old new found before xs after behind ys rest [] again old_is old_at old_told new_is new_at new_told = tt
ranges_found old new found before xs after behind ys rest (u ∷ us) again old_is old_at old_told new_is new_at new_told =
    let o = parted (range_text false u old.is_big old.layout) (texts (range_text false) us old.is_big old.layout) xs old_told in
    let n = parted (range_text true u new.is_big new.layout) (texts (range_text true) us new.is_big new.layout) ys new_told in
    let old_here = two_parts old.bytes before xs after o.first o.rest old_is o.all in
    let new_here = two_parts new.bytes behind ys rest n.first n.rest new_is n.all in (
      by_version o.first (o.rest ++ after) n.first (n.rest ++ rest) old_here o.first_is new_here n.first_is (is_five u.encoding) refl,
      ranges_found old new (past_parts found u) (before ++ o.first) o.rest after (behind ++ n.first) n.rest rest us (All-tail AreFound u us again)
          (old_here ∙ sym (append_assoc before o.first (o.rest ++ after))) (omega (arith, length-append before o.first, old_at, range_length u old.is_big old.layout false o.first o.first_is)) o.rest_is
          (new_here ∙ sym (append_assoc behind n.first (n.rest ++ rest))) (omega (arith, length-append behind n.first, new_at, range_length u new.is_big new.layout true n.first n.first_is)) n.rest_is,
    )
  where
    by_version : (first more second others : List ℕ) → old.bytes ≡ before ++ (first ++ more) → range_text false u old.is_big old.layout ≡ Some first →
        new.bytes ≡ behind ++ (second ++ others) → range_text true u new.is_big new.layout ≡ Some second → (five : Bool) → is_five u.encoding ≡ five → FindsRanges old new found u
    by_version first more second others old_here old_first new_here new_first true is =
        let at : found.ends.range_lists.size ≡ ranges_at found u = sym (ap (λ b. if b then found.ends.range_lists.size else found.ends.ranges.size) is) in
        subst (λ s. FindsRangesIn s found u) (sym (ap (λ b. if b then new else old) is))
        (ranges_here new u (All-head AreFound u us again) (ranges_at found u) behind second others new_here (new_at ∙ ap (λ k. k + new.layout.own_start) at) (range_whole u new.is_big new.layout true is second new_first))
    by_version first more second others old_here old_first new_here new_first false is =
        let at : found.ends.ranges.size ≡ ranges_at found u = sym (ap (λ b. if b then found.ends.range_lists.size else found.ends.ranges.size) is) in
        subst (λ s. FindsRangesIn s found u) (sym (ap (λ b. if b then new else old) is))
        (ranges_here old u (All-head AreFound u us again) (ranges_at found u) before first more old_here (old_at ∙ ap (λ k. k + old.layout.own_start) at) (range_whole u old.is_big old.layout false is first old_first))

-- One unit's location lists

module _ (s : Joined) (info : Info) (u : UnitValue) (located : AreLocated (settled u)) where
  locations_here : (at : ℕ) (before xs rest : List ℕ) → s.bytes ≡ before ++ (xs ++ rest) → length before ≡ at + s.layout.own_start → (location_draft (settled u)).text info s.is_big s.layout ≡ Some xs →
      (i : ℕ) (x : List Part) → slice_get (locations_in u.locations) i ≡ Some x → CanBeRead s.layout u x →
      IsFound true u.encoding (entry_places (settled u)) info s.is_big s.layout s.bytes (counted_from s.layout.own_start (offsets_from true u.encoding (entry_places (settled u)) at (locations_in u.locations))) i x
  locations_here at before xs rest is here told i x get can =
      let stand = λ (n : ℕ). offsets_from true u.encoding (entry_places (settled u)) n (locations_in u.locations) in
      subst (λ o. IsFound true u.encoding (entry_places (settled u)) info s.is_big s.layout s.bytes o i x)
      (ap stand here ∙ offsets_counted u.encoding (entry_places (settled u)) s.layout.own_start true at (locations_in u.locations))
      (subst (λ b. IsFound true u.encoding (entry_places (settled u)) info s.is_big s.layout b (stand (length before)) i x) (sym is) (by_version (is_five u.encoding) refl can))
    where
      by_version : (five : Bool) → is_five u.encoding ≡ five → CanBeRead s.layout u x →
          IsFound true u.encoding (entry_places (settled u)) info s.is_big s.layout (before ++ (xs ++ rest)) (offsets_from true u.encoding (entry_places (settled u)) (length before) (locations_in u.locations)) i x
      by_version true five can = located.again info s.is_big s.layout before xs rest told i x get (inl five)
      by_version false four (inl five) = located.again info s.is_big s.layout before xs rest told i x get (inl five)
      by_version false four (inr (inl numbered)) = located.again info s.is_big s.layout before xs rest told i x get (inr numbered)
      by_version false four (inr (inr apart)) = old_found true u.encoding (entry_places (settled u)) info s.is_big s.layout four (locations_in u.locations) (locations_shaped u.locations) before xs rest told i x get apart

-- those of all units, where both sections stand before and behind them
locations_found : (old new : Joined) (info : Info) (n : ℕ) (found : Elsewhere) (before xs after behind ys rest : List ℕ) (us : List UnitValue) → All (λ w. AreLocated w.unit) (numbered_from n found us) →
    old.bytes ≡ before ++ (xs ++ after) → length before ≡ found.ends.locations.size + old.layout.own_start →
    (locations_draft (numbered_from n found us) false).text (started (start_of old.layout DebugInfo) info) old.is_big old.layout ≡ Some xs →
    new.bytes ≡ behind ++ (ys ++ rest) → length behind ≡ found.ends.location_lists.size + new.layout.own_start →
    (locations_draft (numbered_from n found us) true).text (started (start_of new.layout DebugInfo) info) new.is_big new.layout ≡ Some ys →
    FindAllLocations old new info found us
unfolding then_draft
locations_found old new info n found before xs after behind ys rest [] located old_is old_at old_told new_is new_at new_told = tt
locations_found old new info n found before xs after behind ys rest (u ∷ us) located old_is old_at old_told new_is new_at new_told =
    let own = All-head (λ (w : Numbered). AreLocated w.unit) (settled_at n found u) (numbered_from (suc n) (past_parts found u) us) located in
    let more = locations_draft (numbered_from (suc n) (past_parts found u) us) in
    let here = started (start_of old.layout DebugInfo) info in
    let there = started (start_of new.layout DebugInfo) info in
    let o = parted ((location_part false (settled u)).text here old.is_big old.layout) ((more false).text here old.is_big old.layout) xs old_told in
    let w = parted ((location_part true (settled u)).text there new.is_big new.layout) ((more true).text there new.is_big new.layout) ys new_told in
    let old_here = two_parts old.bytes before xs after o.first o.rest old_is o.all in
    let new_here = two_parts new.bytes behind ys rest w.first w.rest new_is w.all in (
      by_version own o.first (o.rest ++ after) w.first (w.rest ++ rest) old_here o.first_is new_here w.first_is (is_five u.encoding) refl,
      locations_found old new info (suc n) (past_parts found u) (before ++ o.first) o.rest after (behind ++ w.first) w.rest rest us
          (All-tail (λ (w : Numbered). AreLocated w.unit) (settled_at n found u) (numbered_from (suc n) (past_parts found u) us) located)
          (old_here ∙ sym (append_assoc before o.first (o.rest ++ after))) (omega (arith, length-append before o.first, old_at, location_length u own.draft here old.is_big old.layout false o.first o.first_is)) o.rest_is
          (new_here ∙ sym (append_assoc behind w.first (w.rest ++ rest))) (omega (arith, length-append behind w.first, new_at, location_length u own.draft there new.is_big new.layout true w.first w.first_is)) w.rest_is,
    )
  where
    by_version : AreLocated (settled u) → (first more second others : List ℕ) →
        old.bytes ≡ before ++ (first ++ more) → (location_part false (settled u)).text (started (start_of old.layout DebugInfo) info) old.is_big old.layout ≡ Some first →
        new.bytes ≡ behind ++ (second ++ others) → (location_part true (settled u)).text (started (start_of new.layout DebugInfo) info) new.is_big new.layout ≡ Some second →
        (five : Bool) → is_five u.encoding ≡ five → FindsLocations old new info found u
    by_version own first more second others old_here old_first new_here new_first true is =
        let there = started (start_of new.layout DebugInfo) info in
        let at : found.ends.location_lists.size ≡ locations_at found u = sym (ap (λ b. if b then found.ends.location_lists.size else found.ends.locations.size) is) in
        subst (λ s. FindsLocationsIn s info found u) (sym (ap (λ b. if b then new else old) is))
        (locations_here new there u own (locations_at found u) behind second others new_here (new_at ∙ ap (λ k. k + new.layout.own_start) at) (location_whole u own.draft there new.is_big new.layout true is second new_first))
    by_version own first more second others old_here old_first new_here new_first false is =
        let here = started (start_of old.layout DebugInfo) info in
        let at : found.ends.locations.size ≡ locations_at found u = sym (ap (λ b. if b then found.ends.location_lists.size else found.ends.locations.size) is) in
        subst (λ s. FindsLocationsIn s info found u) (sym (ap (λ b. if b then new else old) is))
        (locations_here old here u own (locations_at found u) before first more old_here (old_at ∙ ap (λ k. k + old.layout.own_start) at) (location_whole u own.draft here old.is_big old.layout false is first old_first))

-- All sets

-- the location lists of sets, of which the first is set n, are found
pub record LocatedFrom (layout : ℕ → SectionId → Layout) (big : Bool) (old new : List ℕ) (n : ℕ) (ds : List DwarfValue) : Type 0 where
  pub kept : List (List Kept)
  pub rows : AreRows ds kept
  pub found : FindLocationsFrom layout big old new n ds kept

module _ {W : Type 0} (from : W → Meaning) (big : Bool) (all : List Parts) (symbols : List ℕ) (old new : List ℕ) where
  pub ranges_of_sets : (before : List Parts) (n : ℕ) (sets : List (Sections W)) (ds : List DwarfValue) (front xs back ys : List ℕ) → all ≡ before ++ sets_of from sets → n ≡ length before → AreLeft from big sets ds →
      old ≡ front ++ xs → length front ≡ length (concatenated DebugRanges before) → linked_from all symbols DebugRanges n (sets_of from sets) ≡ Some xs →
      new ≡ back ++ ys → length back ≡ length (concatenated DebugRngLists before) → linked_from all symbols DebugRngLists n (sets_of from sets) ≡ Some ys →
      FindRangesFrom (layout_in all symbols) big old new n ds
  ranges_of_sets before n [] [] front xs back ys is at left old_is old_at old_told new_is new_at new_told = tt
  ranges_of_sets before n [] (d ∷ ds) front xs back ys is at left old_is old_at old_told new_is new_at new_told = absurd left
  ranges_of_sets before n (s ∷ sets) [] front xs back ys is at left old_is old_at old_told new_is new_at new_told = absurd left
  ranges_of_sets before n (s ∷ sets) (d ∷ ds) front xs back ys is at left old_is old_at old_told new_is new_at new_told =
      let own = parts_of from s in
      let rest = sets_of from sets in
      let l = layout_in all symbols n DebugRanges in
      let k = layout_in all symbols n DebugRngLists in
      let a = parted (resolved l (from s.debug_ranges.0)) (linked_from all symbols DebugRanges (n + 1) rest) xs old_told in
      let b = parted (resolved k (from s.debug_rnglists.0)) (linked_from all symbols DebugRngLists (n + 1) rest) ys new_told in
      let old_here = old_is ∙ ap (λ zs. front ++ zs) (sym a.all) in
      let new_here = new_is ∙ ap (λ zs. back ++ zs) (sym b.all) in
      let next : all ≡ (before ++ own ∷ []) ++ rest = is ∙ sym (append_assoc before (own ∷ []) rest) in
      let at_next : n + 1 ≡ length (before ++ own ∷ []) = omega (arith, at, length-append before (own ∷ [])) in
      let long_old = part_length l (from s.debug_ranges.0) a.first left.0.ranges_tidy a.first_is in
      let long_new = part_length k (from s.debug_rnglists.0) b.first left.0.range_lists_tidy b.first_is in (
        ranges_found (old_in (layout_in all symbols) big old new n DebugRanges) (new_in (layout_in all symbols) big old new n DebugRngLists) (found_from (empty_ends true) d) front a.first a.rest back b.first b.rest d.units left.0.ranges_found
            old_here (omega (arith, old_at, behind all before (own ∷ rest) n DebugRanges is at)) (left.0.ranges l a.first a.first_is)
            new_here (omega (arith, new_at, behind all before (own ∷ rest) n DebugRngLists is at)) (left.0.range_lists k b.first b.first_is),
        ranges_of_sets (before ++ own ∷ []) (n + 1) sets ds (front ++ a.first) a.rest (back ++ b.first) b.rest next at_next left.1
            (old_here ∙ sym (append_assoc front a.first a.rest)) (omega (arith, length-append front a.first, old_at, concatenated-more DebugRanges before own, long_old)) a.rest_is
            (new_here ∙ sym (append_assoc back b.first b.rest)) (omega (arith, length-append back b.first, new_at, concatenated-more DebugRngLists before own, long_new)) b.rest_is,
      )

  pub locations_of_sets : (before : List Parts) (n : ℕ) (sets : List (Sections W)) (ds : List DwarfValue) (front xs back ys : List ℕ) → all ≡ before ++ sets_of from sets → n ≡ length before → AreLeft from big sets ds →
      old ≡ front ++ xs → length front ≡ length (concatenated DebugLoc before) → linked_from all symbols DebugLoc n (sets_of from sets) ≡ Some xs →
      new ≡ back ++ ys → length back ≡ length (concatenated DebugLocLists before) → linked_from all symbols DebugLocLists n (sets_of from sets) ≡ Some ys →
      LocatedFrom (layout_in all symbols) big old new n ds
  locations_of_sets before n [] [] front xs back ys is at left old_is old_at old_told new_is new_at new_told = record { kept = []; rows = tt; found = tt }
  locations_of_sets before n [] (d ∷ ds) front xs back ys is at left old_is old_at old_told new_is new_at new_told = absurd left
  locations_of_sets before n (s ∷ sets) [] front xs back ys is at left old_is old_at old_told new_is new_at new_told = absurd left
  locations_of_sets before n (s ∷ sets) (d ∷ ds) front xs back ys is at left old_is old_at old_told new_is new_at new_told =
      let own = parts_of from s in
      let rest = sets_of from sets in
      let l = layout_in all symbols n DebugLoc in
      let k = layout_in all symbols n DebugLocLists in
      let a = parted (resolved l (from s.debug_loc.0)) (linked_from all symbols DebugLoc (n + 1) rest) xs old_told in
      let b = parted (resolved k (from s.debug_loclists.0)) (linked_from all symbols DebugLocLists (n + 1) rest) ys new_told in
      let old_here = old_is ∙ ap (λ zs. front ++ zs) (sym a.all) in
      let new_here = new_is ∙ ap (λ zs. back ++ zs) (sym b.all) in
      let next : all ≡ (before ++ own ∷ []) ++ rest = is ∙ sym (append_assoc before (own ∷ []) rest) in
      let at_next : n + 1 ≡ length (before ++ own ∷ []) = omega (arith, at, length-append before (own ∷ [])) in
      let long_old = part_length l (from s.debug_loc.0) a.first left.0.locations_tidy a.first_is in
      let long_new = part_length k (from s.debug_loclists.0) b.first left.0.location_lists_tidy b.first_is in
      let here = locations_found (old_in (layout_in all symbols) big old new n DebugLoc) (new_in (layout_in all symbols) big old new n DebugLocLists) (info_of (units_of d) left.0.kept) 0 (found_from (empty_ends true) d)
      front a.first a.rest back b.first b.rest d.units left.0.located
      old_here (omega (arith, old_at, behind all before (own ∷ rest) n DebugLoc is at)) (left.0.locations l a.first a.first_is)
      new_here (omega (arith, new_at, behind all before (own ∷ rest) n DebugLocLists is at)) (left.0.location_lists k b.first b.first_is)
      in
      let more = locations_of_sets (before ++ own ∷ []) (n + 1) sets ds (front ++ a.first) a.rest (back ++ b.first) b.rest next at_next left.1
      (old_here ∙ sym (append_assoc front a.first a.rest)) (omega (arith, length-append front a.first, old_at, concatenated-more DebugLoc before own, long_old)) a.rest_is
      (new_here ∙ sym (append_assoc back b.first b.rest)) (omega (arith, length-append back b.first, new_at, concatenated-more DebugLocLists before own, long_new)) b.rest_is
      in
      record { kept = left.0.kept ∷ more.kept; rows = (left.0.in_row, more.rows); found = (here, more.found) }
