-- What a Dwarf leaves in new sections.
use Rattle.std.specs.Prelude.{◌≡◌, ℕ, Bool, List, Some, true, false}
use Rattle.std.proofs.Common.{sym, ◌∙◌, ap, subst}
use Rattle.dw_writer.specs.Drafts.{filled_text}
use Rattle.dw_writer.specs.Layout.{Layout}
use Rattle.dw_writer.specs.Meaning.{Meaning, Adds}
use Rattle.dw_writer.specs.New.{IsEmptyWriter, IsNew}
use Rattle.dw_writer.specs.Resolved.{resolved}
use Rattle.dw_writer.specs.declared.sections.Sections.{Sections}
use Rattle.dw_writer.proofs.Steps.{Adds-appends}
use Rattle.dw_strings.specs.Strings.{string_bytes}
use Rattle.dw_tree.specs.Built.{Numbered, at_begin}
use Rattle.dw_tree.specs.Elsewhere.{ends_of, AppendsAllRanges}
use Rattle.dw_tree.specs.Pending.{AreInRow, info_of, units_draft, tables_of, locations_draft}
use Rattle.dw_unit.proofs.Files.{empty_tidy, resolved-empty, file_written}
use Rattle.dw_dwarf.specs.DwarfValue.{DwarfValue}
use Rattle.dw_dwarf.specs.Left.{units_of, IsLeft}
use Rattle.dw_dwarf.specs.Valid.{AreUnwritten, settled_units}
use Rattle.dw_dwarf.specs.Written.{dwarf_ranges, AddsLines, AddsStrings}
use Rattle.dw_dwarf.proofs.TextsAlone.{behind_nothing, filled_alone}
use Rattle.dw_unit.proofs.FileCompleted.{Completes}
use Rattle.dw_dwarf.proofs.Held.{added_lines, lines_as, units_from_begin, ranges_resolved, range_lists_resolved}

some_is : {A : Type 0} (x y : A) → Some x ≡ Some y → x ≡ y
some_is x y h = cc

-- bytes that are added to an empty writer are all that resolves there
added_alone : (big : Bool) (old new : Meaning) (bytes : List ℕ) → IsEmptyWriter old big → Adds old new bytes → (l : Layout) (xs : List ℕ) → resolved l new ≡ Some xs → bytes ≡ xs
added_alone big old new bytes empty p l xs h =
    let resolves = (Adds-appends p).resolves (empty_tidy big old empty) l in
    some_is bytes xs (behind_nothing (resolved l old) (Some bytes) xs (λ ys is. resolved-empty big l old ys empty is) (sym resolves ∙ h))

-- an empty writer is one in its own order
empty_as : {m : Meaning} {big : Bool} → IsEmptyWriter m big → IsEmptyWriter m m.is_big
empty_as {m} {big} h = subst (IsEmptyWriter m) (sym h.order) h

order : {a b c : Bool} → a ≡ b → b ≡ c → a ≡ c
order p q = p ∙ q

module _ {W : Type 0} (meaning : W → Meaning) (big : Bool) (old new : Sections W) (d : DwarfValue) (empty : IsNew meaning big old) where
  -- the same units, the places of whose own parts are counted from the begins of the sections
  from_begin : settled_units (ends_of meaning old) d ≡ units_of d
  from_begin = units_from_begin (ends_of meaning old) d (empty.writers.debug_line.size, empty.writers.debug_ranges.size, empty.writers.debug_rnglists.size, empty.writers.debug_loc.size, empty.writers.debug_loclists.size)

  whole_left : (us : List Numbered) → (whole : Completes meaning old new us) → AreUnwritten d → AddsLines meaning old new d → AppendsAllRanges meaning old new d.units → AddsStrings meaning old new d.line_strings d.strings → us ≡ units_of d → IsLeft meaning big new d
  whole_left us whole unwritten lines ranges strings same =
      let w = subst (Completes meaning old new) same whole in
      let ns = units_of d in
      let m = meaning old.debug_info.0 in
      let e = empty.writers in
      let line = meaning old.debug_line.0 in
      record {
        kept = w.kept;
        in_row = row w;
        info = λ l xs h. subst (λ b. filled_text (info_of ns w.kept) (units_draft ns w.kept) b l ≡ Some xs) e.debug_info.order (file_written big m (meaning new.debug_info.0) (meaning old.debug_abbrev.0).size ns w.kept l xs e.debug_info w.adds.units e.debug_abbrev.size h).text;
        abbrevs = added_alone big (meaning old.debug_abbrev.0) (meaning new.debug_abbrev.0) (tables_of ns) e.debug_abbrev w.adds.tables;
        lines = λ l xs h.
            lines_as d unwritten big l ∙ ap (λ b. added_lines d b l) (sym e.debug_line.order)
            ∙ behind_nothing (resolved l line) (added_lines d line.is_big l) xs (λ ys is. resolved-empty big l line ys e.debug_line is) (sym (lines.text_is.resolves (empty_tidy big line e.debug_line) l) ∙ h);
        ranges = λ l xs h. subst (λ b. dwarf_ranges false d b l ≡ Some xs) (order ranges.ranges.same.order e.debug_ranges.order) (ranges_resolved meaning old new d unwritten ranges (empty_as e.debug_ranges) l xs h);
        range_lists = λ l xs h. subst (λ b. dwarf_ranges true d b l ≡ Some xs) (order ranges.range_lists.same.order e.debug_rnglists.order) (range_lists_resolved meaning old new d unwritten ranges (empty_as e.debug_rnglists) l xs h);
        locations = λ l xs h.
            let p = w.adds.lists.locations in
            subst (λ b. filled_text (info_of ns w.kept) (locations_draft ns false) b l ≡ Some xs) (order p.same.order e.debug_loc.order) (filled_alone (meaning old.debug_loc.0) (meaning new.debug_loc.0) (info_of ns w.kept) (locations_draft ns false) (empty_as e.debug_loc) p l xs h);
        location_lists = λ l xs h.
            let p = w.adds.lists.location_lists in
            subst (λ b. filled_text (info_of ns w.kept) (locations_draft ns true) b l ≡ Some xs) (order p.same.order e.debug_loclists.order) (filled_alone (meaning old.debug_loclists.0) (meaning new.debug_loclists.0) (info_of ns w.kept) (locations_draft ns true) (empty_as e.debug_loclists) p l xs h);
        strings = added_alone big (meaning old.debug_str.0) (meaning new.debug_str.0) (string_bytes d.strings) e.debug_str strings.others;
        line_strings = added_alone big (meaning old.debug_line_str.0) (meaning new.debug_line_str.0) (string_bytes d.line_strings) e.debug_line_str strings.lines;
        ranges_found = λ k u within. ranges.found k u within (unwritten k u within);
        located = w.adds.lists.located;
        info_tidy = w.adds.units.tidy (empty_tidy big m e.debug_info);
        abbrevs_tidy = (Adds-appends w.adds.tables).tidy (empty_tidy big (meaning old.debug_abbrev.0) e.debug_abbrev);
        ranges_tidy = ranges.ranges.tidy (empty_tidy big (meaning old.debug_ranges.0) e.debug_ranges);
        range_lists_tidy = ranges.range_lists.tidy (empty_tidy big (meaning old.debug_rnglists.0) e.debug_rnglists);
        locations_tidy = w.adds.lists.locations.tidy (empty_tidy big (meaning old.debug_loc.0) e.debug_loc);
        location_lists_tidy = w.adds.lists.location_lists.tidy (empty_tidy big (meaning old.debug_loclists.0) e.debug_loclists);
      }
    where
      row : (w : Completes meaning old new (units_of d)) → AreInRow at_begin (units_of d) w.kept
      row w =
          subst (λ n. AreInRow (record { info = n; abbrevs = 0 }) (units_of d) w.kept) empty.writers.debug_info.size
          (subst (λ n. AreInRow (record { info = (meaning old.debug_info.0).size; abbrevs = n }) (units_of d) w.kept) empty.writers.debug_abbrev.size w.adds.units.in_row)

  pub dwarf_left : Completes meaning old new (settled_units (ends_of meaning old) d) → AreUnwritten d → AddsLines meaning old new d → AppendsAllRanges meaning old new d.units → AddsStrings meaning old new d.line_strings d.strings → IsLeft meaning big new d
  dwarf_left whole unwritten lines ranges strings = whole_left _ whole unwritten lines ranges strings from_begin
