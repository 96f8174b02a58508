-- A Dwarf whose symbols have values is written as one without symbols, and where that is valid behind what sections hold, all texts
-- are there.
use Rattle.std.specs.Prelude.{◌≡◌, ℕ, suc, ◌+◌, Bool, true, false, List, [], ◌∷◌, All, map, length, refl, IsTrue, IsFalse}
use Rattle.std.specs.List.{list_all}
use Rattle.std.proofs.Common.{sym, ◌∙◌, ap, ap₂, subst, arith}
use Rattle.std.proofs.lemmas.Bool.{and_parts, or_parts}
use Rattle.std.proofs.lemmas.List.Elements.{All-map}
use Rattle.dw_base.specs.declared.error.Error.{Error}
use Rattle.dw_base.specs.declared.section_id.SectionId.{SectionId}
use Rattle.dw_base.specs.declared.section_id.SectionId.TheVariants.{DebugAbbrev, DebugInfo}
use Rattle.dw_writer.specs.Drafts.{Info, started, filled_text}
use Rattle.dw_writer.specs.Layout.{Layout, start_of}
use Rattle.dw_writer.specs.Texts.{followed}
use Rattle.dw_entries.specs.Targets.{HaveInfoPlaces}
use Rattle.dw_line.specs.LinePrograms.{line_program_text}
use Rattle.dw_line.specs.Parts.{texts}
use Rattle.dw_tree.specs.Built.{Numbered, Starts, numbered_from, at_begin}
use Rattle.dw_tree.specs.Elsewhere.{Elsewhere, line_text, past_parts}
use Rattle.dw_tree.specs.Pending.{Kept, AreInRow, past_kept, info_of, units_draft, locations_draft}
use Rattle.dw_tree.specs.Locations.{location_drafts}
use Rattle.dw_tree.specs.ReferenceFaults.{lists_refer_wrong, references_fail}
use Rattle.dw_tree.specs.UnitFaults.{holes_fail}
use Rattle.dw_tree.specs.UnitValue.{UnitValue}
use Rattle.dw_tree.specs.Whole.{settled}
use Rattle.dw_unit.proofs.Filling.{holes_lead}
use Rattle.dw_dwarf.specs.DwarfValue.{DwarfValue}
use Rattle.dw_dwarf.specs.Left.{units_of}
use Rattle.dw_dwarf.specs.Valid.{IsUnwritten, AreUnwritten, found_from, empty_ends, settled_units}
use Rattle.dw_dwarf.specs.Written.{dwarf_lines, dwarf_ranges}
use Rattle.dw_dwarf.proofs.LocationsThere.{placed_is, locations_all_there, numbered_units}
use Rattle.dw_dwarf.proofs.RangesThere.{all_sound, ranges_all_there}
use Rattle.dw_unit.specs.WrittenUnits.{AreListsSound}
use Rattle.dw_expr.proofs.ExpressionsThere.{ArePlaced}
use Rattle.dw_dwarf_laws.specs.Dwarfs.{numbered_dwarf}
use Rattle.dw_dwarf_laws.specs.Joined.{IsValidBehind, starts_in, ends_in, unit_strings_fit}
use Rattle.dw_dwarf_laws.specs.LineStrings.{line_program_fits}
use Rattle.dw_dwarf_laws.specs.Starts.{StartsAt}
use Rattle.dw_dwarf_laws.specs.Units.{numbered_unit}
use Rattle.dw_dwarf_laws.proofs.MovedUnits.{IsMovedElsewhere, IsPlacedRow, row_placed, row_moved, moved_kept, units_alike, info_moved}
use Rattle.dw_dwarf_laws.proofs.Rows.{units_there, lines_there, programs_there}
use Rattle.dw_dwarf_laws.proofs.Sizes.{placement_kept, tree_table_same}
use Rattle.dw_dwarf_laws.proofs.There.{IsThere, followed_there}
use Rattle.dw_dwarf_laws.proofs.Units.{numbered_one, numbered_from_same, info_same, unit_same, units_same, locations_draft_same, line_texts_same, program_texts_same, range_texts_same}

-- Laws of texts: those of a Dwarf are those of the one in which symbols have values

module _ (l : Layout) (d : DwarfValue) where
  abbrev other : DwarfValue
  other = numbered_dwarf l.symbols d

  pub units_numbered : units_of other ≡ map (numbered_one l.symbols) (units_of d)
  units_numbered = numbered_from_same l.symbols 0 (found_from (empty_ends true) d) d.units

  module _ (kept : List Kept) (big : Bool) where
    pub info_text_same : filled_text (info_of (units_of d) kept) (units_draft (units_of d) kept) big l ≡ filled_text (info_of (units_of other) kept) (units_draft (units_of other) kept) big l
    info_text_same =
        let start = start_of l DebugInfo in
        (units_same l (units_of d) kept).text (started start (info_of (units_of d) kept)) big
        ∙ ap (λ f. (units_draft (map (numbered_one l.symbols) (units_of d)) kept).text (started start f) big l) (sym (info_same l.symbols (units_of d) kept))
        ∙ ap (λ us. (units_draft us kept).text (started start (info_of us kept)) big l) (sym units_numbered)

    pub location_text_same : (five : Bool) → filled_text (info_of (units_of d) kept) (locations_draft (units_of d) five) big l ≡ filled_text (info_of (units_of other) kept) (locations_draft (units_of other) five) big l
    location_text_same five =
        let start = start_of l DebugInfo in
        (locations_draft_same l (units_of d) five).text (started start (info_of (units_of d) kept)) big
        ∙ ap (λ f. (locations_draft (map (numbered_one l.symbols) (units_of d)) five).text (started start f) big l) (sym (info_same l.symbols (units_of d) kept))
        ∙ ap (λ us. (locations_draft us five).text (started start (info_of us kept)) big l) (sym units_numbered)

  pub lines_same : (big : Bool) → dwarf_lines d big l ≡ dwarf_lines other big l
  lines_same big = ap₂ followed (line_texts_same l d.line_strings d.strings d.units big) (program_texts_same l d.strings d.line_strings d.line_programs big)

  pub ranges_same : (five : Bool) (big : Bool) → dwarf_ranges five d big l ≡ dwarf_ranges five other big l
  ranges_same five big = range_texts_same l five d.units big

-- units whose symbols have values stand in the same row
row_numbered : (symbols : List ℕ) (at : Starts) (us : List Numbered) (ks : List Kept) → IsPlacedRow at us ks → IsPlacedRow at (map (numbered_one symbols) us) ks
row_numbered symbols at [] [] h = tt
row_numbered symbols at [] (k ∷ ks) h = absurd h
row_numbered symbols at (u ∷ us) [] h = absurd h
row_numbered symbols at (u ∷ us) (k ∷ ks) h =
    let l : Layout = record { starts = []; own_start = 0; symbols = symbols } in
    let with : ℕ → ℕ → Starts = λ m n. record { info = at.info + m; abbrevs = at.abbrevs + n } in
    let past : past_kept at u k ≡ past_kept at (numbered_one symbols u) k =
    ap₂ with (unit_same l u.unit.encoding u.unit.entries u.tables k).size (ap length (sym (tree_table_same symbols u.unit.encoding u.unit.entries))) in
    (h.0, placement_kept symbols u.unit.encoding u.unit.entries k.places h.1, subst (λ s. IsPlacedRow s (map (numbered_one symbols) us) ks) past (row_numbered symbols (past_kept at u k) us ks h.2))

-- the texts of units with their parts of other sections are there in a layout
pub record AllThere (d : DwarfValue) (kept : List Kept) (big : Bool) (l : Layout) : Type 0 where
  pub info : IsThere (filled_text (info_of (units_of d) kept) (units_draft (units_of d) kept) big l)
  pub lines : IsThere (dwarf_lines d big l)
  pub ranges : (five : Bool) → IsThere (dwarf_ranges five d big l)
  pub locations : (five : Bool) → IsThere (filled_text (info_of (units_of d) kept) (locations_draft (units_of d) five) big l)

-- A Dwarf that is valid behind what sections hold has all its texts there.
module _ (starts : SectionId → ℕ) (d : DwarfValue) (valid : IsValidBehind starts d) (unwritten : AreUnwritten d) (kept : List Kept) (row : IsPlacedRow at_begin (units_of d) kept) (big : Bool) (l : Layout) (at : StartsAt starts l) where
  abbrev own : Elsewhere
  own = found_from (empty_ends true) d

  abbrev joined : Elsewhere
  joined = found_from (ends_in starts) d

  move : IsMovedElsewhere starts own joined
  move = record {
    strings = refl;
    line_strings = refl;
    lines = omega arith;
    ranges = omega arith;
    range_lists = omega arith;
    locations = omega arith;
    location_lists = omega arith;
  }

  abbrev units : List Numbered
  units = units_of d

  abbrev behind : List Numbered
  behind = settled_units (ends_in starts) d

  abbrev moved : List Kept
  moved = map (moved_kept starts) kept

  -- the units that the Dwarf's references were looked up in stand in the row that the parts start
  same_row : valid.valid.references.kept ≡ moved
  same_row = row_moved starts 0 own joined at_begin (starts_in starts) d.units kept valid.valid.references.kept (omega arith) (omega arith) row valid.valid.references.in_row

  lead : (err : Error) → IsFalse (references_fail (info_of behind moved) true (ends_in starts) behind moved err)
  lead err = subst (λ (ks : List Kept). IsFalse (references_fail (info_of behind ks) true (ends_in starts) behind ks err)) same_row (valid.valid.references.lead err)

  abbrev info : Info
  info = started (start_of l DebugInfo) (info_of units kept)

  info_is : info ≡ started 0 (info_of behind moved)
  info_is = ap (λ n. started n (info_of units kept)) at.info ∙ info_moved starts 0 own joined d.units kept

  -- the references of units lead to places that fit
  units_lead : HaveInfoPlaces info (units_draft units kept).holes
  units_lead =
      let there = holes_lead (info_of behind moved) (units_draft behind moved).holes
      (λ err. (or_parts (holes_fail (info_of behind moved) true (units_draft behind moved).holes err) (lists_refer_wrong (info_of behind moved) (ends_in starts) behind err) (lead err)).0) in
      subst (λ f. HaveInfoPlaces f (units_draft units kept).holes) (sym info_is) (subst (HaveInfoPlaces (started 0 (info_of behind moved))) (sym (units_alike starts 0 own joined d.units kept).holes) there)

  -- so do those of location lists
  lists_lead : (five : Bool) → HaveInfoPlaces info (locations_draft behind five).holes
  lists_lead five =
      subst (λ f. HaveInfoPlaces f (locations_draft behind five).holes) (sym info_is) (holes_lead (info_of behind moved) (locations_draft behind five).holes (λ err. by five err))
    where
      lists : (err : Error) → IsFalse (lists_refer_wrong (info_of behind moved) (ends_in starts) behind err)
      lists err = (or_parts (holes_fail (info_of behind moved) true (units_draft behind moved).holes err) (lists_refer_wrong (info_of behind moved) (ends_in starts) behind err) (lead err)).1

      by : (b : Bool) (err : Error) → IsFalse (holes_fail (info_of behind moved) true (locations_draft behind b).holes err)
      by true err = (or_parts (holes_fail (info_of behind moved) true (locations_draft behind false).holes err) (holes_fail (info_of behind moved) true (locations_draft behind true).holes err) (lists err)).1
      by false err = (or_parts (holes_fail (info_of behind moved) true (locations_draft behind false).holes err) (holes_fail (info_of behind moved) true (locations_draft behind true).holes err) (lists err)).0

  abbrev named : Bool
  named = list_all (unit_strings_fit starts d.strings d.line_strings) d.units

  names : IsTrue named × IsTrue (list_all (line_program_fits starts d.strings d.line_strings) d.line_programs)
  names = and_parts named (list_all (line_program_fits starts d.strings d.line_strings) d.line_programs) valid.strings

  sounds : All AreListsSound d.units
  sounds = all_sound joined true (record { ranges = refl; range_lists = refl; locations = refl; location_lists = refl }) (starts DebugAbbrev) d.units unwritten valid.valid.units

  pub all_there : AllThere d kept big l
  all_there = record {
    info =
        units_there starts d.strings d.line_strings big l at info 0 (empty_ends true) (ends_in starts) move at_begin (starts DebugAbbrev) d.units kept (omega arith) unwritten valid.valid.units row names.0 valid.macros units_lead;
    lines =
        followed_there (texts (line_text d.line_strings d.strings) d.units big l) (texts (line_program_text d.strings d.line_strings) d.line_programs big l)
        (lines_there starts d.strings d.line_strings big l at (ends_in starts) refl (starts DebugAbbrev) d.units unwritten valid.valid.units names.0)
        (programs_there starts d.strings d.line_strings big l at d.line_programs valid.valid.extra names.1);
    ranges = λ five. ranges_all_there five d.units sounds big l;
    locations = λ five.
        let placed = subst (λ ws. ArePlaced info (location_drafts five ws).holes) (numbered_units 0 joined d.units) (placed_is info (locations_draft behind five).holes (lists_lead five)) in
        let there = locations_all_there info big l five d.units sounds placed in
        (there.0, ap (λ ws. (location_drafts five ws).text info big l) (numbered_units 0 own d.units) ∙ there.1);
  }

-- So has one whose symbols have values, where it is valid with these.
module _ (starts : SectionId → ℕ) (d : DwarfValue) (l : Layout) (valid : IsValidBehind starts (numbered_dwarf l.symbols d)) (unwritten : AreUnwritten d) (kept : List Kept) (row : AreInRow at_begin (units_of d) kept) (big : Bool) (at : StartsAt starts l) where
  pub numbered_there : AllThere d kept big l
  numbered_there =
      let e = numbered_dwarf l.symbols d in
      let new : AreUnwritten e = All-map IsUnwritten (numbered_unit l.symbols) d.units unwritten in
      let stands : IsPlacedRow at_begin (units_of e) kept = subst (λ us. IsPlacedRow at_begin us kept) (sym (units_numbered l d)) (row_numbered l.symbols at_begin (units_of d) kept (row_placed at_begin (units_of d) kept row)) in
      let there = all_there starts e valid new kept stands big l at in
      record {
        info = (there.info.0, info_text_same l d kept big ∙ there.info.1);
        lines = (there.lines.0, lines_same l d big ∙ there.lines.1);
        ranges = λ five. ((there.ranges five).0, ranges_same l d five big ∙ (there.ranges five).1);
        locations = λ five. ((there.locations five).0, location_text_same l d kept big five ∙ (there.locations five).1);
      }
