-- The range lists of units, one unit's behind another's.
use Rattle.std.specs.Prelude.{◌≡◌, ℕ, Bool, true, false, not, List, [], ◌∷◌, ◌++◌, Some, refl, if◌then◌else◌}
use Rattle.std.proofs.Common.{sym, ◌∙◌, ap, subst}
use Rattle.std.proofs.lemmas.List.Elements.{All-nil, All-cons, All-append}
use Rattle.dw_base.specs.declared.error.Error.{Error}
use Rattle.dw_base.specs.declared.error.Error.TheVariants as errors
use Rattle.dw_base.specs.declared.section_id.SectionId.TheVariants.{DebugRanges, DebugRngLists}
use Rattle.dw_writer.specs.Causes.{HasRisen}
use Rattle.dw_writer.specs.Drafts.{open_text}
use Rattle.dw_writer.specs.Meaning.{Meaning, Appends}
use Rattle.dw_writer.specs.Sections.{SomeHasRisen}
use Rattle.dw_writer.specs.declared.sections.Sections.{Sections}
use Rattle.dw_writer.proofs.Steps.{Appends-as}
use Rattle.dw_lists.specs.Causes.{Refused as ListsRefused}
use Rattle.dw_lists.specs.Items.{is_five}
use Rattle.dw_lists.specs.Pieces.{IsWritten}
use Rattle.dw_lists.specs.Tables.{range_section, ranges_of, OthersStay}
use Rattle.dw_tree.specs.Causes.{Because, Is}
use Rattle.dw_tree.specs.Elsewhere.{End, Ends, Elsewhere, end_of, elsewhere, past_end, past_parts, line_size, location_size, AreFound, range_size, range_text, range_draft, ranges_at, ranges_plain, ranges_fail_in, AppendsLine, AppendsRanges, AppendsAllRanges}
use Rattle.dw_tree.specs.Locations.{AppendsLocations}
use Rattle.dw_tree.specs.UnitValue.{UnitValue}
use Rattle.dw_tree.specs.Whole.{settled}
use Rattle.dw_unit.proofs.UnitTexts.{end-past, appends-none, appends-new, appends-old}

module _ {W : Type 0} (meaning : W → Meaning) where
  -- no unit adds nothing
  pub ranges_none : (s : Sections W) → AppendsAllRanges meaning s s []
  ranges_none s = record { found = All-nil (λ u. u.is_written ≡ false → AreFound u); ranges = appends-none (meaning s.debug_ranges.0); range_lists = appends-none (meaning s.debug_rnglists.0) }

  pub ranges_new : (a b c : Sections W) (xs : List UnitValue) (u : UnitValue) → u.is_written ≡ false → AppendsAllRanges meaning a b xs → AppendsRanges meaning b c u → AppendsAllRanges meaning a c (xs ++ u ∷ [])
  ranges_new a b c xs u h p q = record {
    found = All-append (λ v. v.is_written ≡ false → AreFound v) xs (u ∷ []) p.found (All-cons (λ v. v.is_written ≡ false → AreFound v) u [] (λ new. q.found) (All-nil (λ v. v.is_written ≡ false → AreFound v)));
    ranges = appends-new (range_size false) (range_text false) xs u h p.ranges q.ranges;
    range_lists = appends-new (range_size true) (range_text true) xs u h p.range_lists q.range_lists;
  }

  pub ranges_old : (a b : Sections W) (xs : List UnitValue) (u : UnitValue) → u.is_written ≡ true → AppendsAllRanges meaning a b xs → AppendsAllRanges meaning a b (xs ++ u ∷ [])
  ranges_old a b xs u h p = record {
    found = All-append (λ v. v.is_written ≡ false → AreFound v) xs (u ∷ []) p.found (All-cons (λ v. v.is_written ≡ false → AreFound v) u [] (λ new. absurd (let x : true ≡ false = sym h ∙ new in cc)) (All-nil (λ v. v.is_written ≡ false → AreFound v)));
    ranges = appends-old (range_size false) (range_text false) xs u h p.ranges;
    range_lists = appends-old (range_size true) (range_text true) xs u h p.range_lists;
  }

  -- where a unit's range lists begin, as their own crate has it, and whether that writer is plain
  at_by : (five : Bool) (s : Sections W) → (if five then (meaning s.debug_rnglists.0).size else (meaning s.debug_ranges.0).size) ≡ (meaning (range_section five s)).size
  at_by true s = refl
  at_by false s = refl

  plain_by : (five : Bool) (s : Sections W) → (if five then (meaning s.debug_rnglists.0).is_plain else (meaning s.debug_ranges.0).is_plain) ≡ (meaning (range_section five s)).is_plain
  plain_by true s = refl
  plain_by false s = refl

  module _ (s : Sections W) (line_strings strings : List (List ℕ)) (u : UnitValue) where
    pub ranges_at-is : ranges_at (elsewhere meaning s line_strings strings) u ≡ (ranges_of meaning u.encoding s).size
    ranges_at-is = at_by (is_five u.encoding) s

    pub ranges_plain-is : ranges_plain (elsewhere meaning s line_strings strings) u ≡ (ranges_of meaning u.encoding s).is_plain
    ranges_plain-is = plain_by (is_five u.encoding) s

  -- a table in the section of its version, and nothing in the other one
  module _ (old new : Sections W) (u : UnitValue) (found : AreFound u) where
    by_version : (five : Bool) → is_five u.encoding ≡ five → OthersStay five old new → IsWritten (meaning (range_section five old)) (meaning (range_section five new)) (range_draft u) → AppendsRanges meaning old new u
    by_version true is others p = record {
      found = found;
      ranges = subst (λ (s : Sections W). Appends (meaning old.debug_ranges.0) (meaning s.debug_ranges.0) (range_size false u) (range_text false u)) (sym others)
          (Appends-as (appends-none (meaning old.debug_ranges.0)) (sym (ap (λ b. if not b then (range_draft u).size else 0) is)) (λ big l. sym (ap (λ b. if not b then open_text (range_draft u) big l else Some []) is)));
      range_lists = Appends-as p (sym (ap (λ b. if b then (range_draft u).size else 0) is)) (λ big l. sym (ap (λ b. if b then open_text (range_draft u) big l else Some []) is));
    }
    by_version false is others p = record {
      found = found;
      ranges = Appends-as p (sym (ap (λ b. if not b then (range_draft u).size else 0) is)) (λ big l. sym (ap (λ b. if not b then open_text (range_draft u) big l else Some []) is));
      range_lists = subst (λ (s : Sections W). Appends (meaning old.debug_rnglists.0) (meaning s.debug_rnglists.0) (range_size true u) (range_text true u)) (sym others)
          (Appends-as (appends-none (meaning old.debug_rnglists.0)) (sym (ap (λ b. if b then (range_draft u).size else 0) is)) (λ big l. sym (ap (λ b. if b then open_text (range_draft u) big l else Some []) is)));
    }

    pub ranges_added : OthersStay (is_five u.encoding) old new → IsWritten (ranges_of meaning u.encoding old) (ranges_of meaning u.encoding new) (range_draft u) → AppendsRanges meaning old new u
    ranges_added others p = by_version (is_five u.encoding) refl others p

  module _ (old new : Sections W) (u : UnitValue) where
    others_by : (five : Bool) → OthersStay five old new → new ≡ record old { debug_ranges = new.debug_ranges; debug_rnglists = new.debug_rnglists }
    others_by true h = h ∙ ap (λ (s : Sections W). let t : Sections W = record old { debug_ranges = s.debug_ranges; debug_rnglists = new.debug_rnglists } in t) (sym h)
    others_by false h = h ∙ ap (λ (s : Sections W). let t : Sections W = record old { debug_ranges = new.debug_ranges; debug_rnglists = s.debug_rnglists } in t) (sym h)

    pub ranges_others : OthersStay (is_five u.encoding) old new → new ≡ record old { debug_ranges = new.debug_ranges; debug_rnglists = new.debug_rnglists }
    ranges_others h = others_by (is_five u.encoding) h

    risen_by : (five : Bool) → HasRisen (meaning (range_section five old)) (meaning (range_section five new)) → SomeHasRisen meaning old new
    risen_by true h = record { id = DebugRngLists; before = old.debug_rnglists.0; after = new.debug_rnglists.0; was = refl; is = refl; risen = h }
    risen_by false h = record { id = DebugRanges; before = old.debug_ranges.0; after = new.debug_ranges.0; was = refl; is = refl; risen = h }

    -- why a table is refused
    pub ranges_because : (err : Error) → ListsRefused (ranges_of meaning u.encoding old) (ranges_of meaning u.encoding new) (Is (ranges_fail_in (ranges_of meaning u.encoding old).is_plain u)) err →
        Because (SomeHasRisen meaning old new) (Is (ranges_fail_in (ranges_of meaning u.encoding old).is_plain u)) err
    ranges_because errors.NoMemory h = tt
    ranges_because errors.WriteFault h = risen_by (is_five u.encoding) h
    ranges_because err h = h

  -- what is found where a unit's parts were added
  pub elsewhere-new : (a b : Sections W) (line_strings strings : List (List ℕ)) (u : UnitValue) → AppendsLine meaning a b line_strings strings u → AppendsRanges meaning a b u → AppendsLocations meaning a b (settled u) →
      elsewhere meaning b line_strings strings ≡ past_parts (elsewhere meaning a line_strings strings) u
  elsewhere-new a b line_strings strings u line ranges lists =
      let whole = λ (v w x y z : End).
      let e : Ends = record { lines = v; ranges = w; range_lists = x; locations = y; location_lists = z } in
      let t : Elsewhere = record { line_strings = line_strings; strings = strings; ends = e } in
      t in
      let v0 = past_end (end_of (meaning a.debug_line.0)) (line_size u) in
      let w0 = past_end (end_of (meaning a.debug_ranges.0)) (range_size false u) in
      let x0 = past_end (end_of (meaning a.debug_rnglists.0)) (range_size true u) in
      let y0 = past_end (end_of (meaning a.debug_loc.0)) (location_size false u) in
      let w1 = end_of (meaning b.debug_ranges.0) in
      let x1 = end_of (meaning b.debug_rnglists.0) in
      let y1 = end_of (meaning b.debug_loc.0) in
      let z1 = end_of (meaning b.debug_loclists.0) in
      ap (λ v. whole v w1 x1 y1 z1) (end-past line.text_is)
      ∙ ap (λ w. whole v0 w x1 y1 z1) (end-past ranges.ranges)
      ∙ ap (λ x. whole v0 w0 x y1 z1) (end-past ranges.range_lists)
      ∙ ap (λ y. whole v0 w0 x0 y z1) (end-past lists.drafts.locations.text)
      ∙ ap (λ z. whole v0 w0 x0 y0 z) (end-past lists.drafts.location_lists.text)
