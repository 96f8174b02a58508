-- New sections into which a Dwarf was written hold what it leaves, and nothing else.
use Rattle.std.specs.Prelude.{◌≡◌, ℕ, ◌+◌, Bool, true, false, List, [], ◌∷◌, length, Some, All, refl, if◌then◌else◌}
use Rattle.std.proofs.Common.{sym, ◌∙◌, ap, ap₂, subst, arith}
use Rattle.std.proofs.lemmas.List.Elements.{All-head, All-tail}
use Rattle.dw_base.specs.declared.section_id.SectionId.{SectionId}
use Rattle.dw_base.specs.declared.section_id.SectionId.TheVariants.{DebugAbbrev, DebugStr, DebugLineStr, DebugLine, DebugRanges, DebugRngLists, DebugLoc, DebugLocLists, DebugInfo, DebugFrame, EhFrame, DebugAddr, DebugStrOffsets, DebugMacinfo, DebugMacro, DebugAranges}
use Rattle.dw_writer.specs.Drafts.{Draft, Info, filled_text}
use Rattle.dw_writer.specs.Layout.{Layout}
use Rattle.dw_writer.specs.Meaning.{Meaning, Model, Adds, Appends, IsTidy, AllInside, spelled_text}
use Rattle.dw_writer.specs.Resolved.{resolved}
use Rattle.dw_writer.specs.Sections.{AllMean, NoFixups}
use Rattle.dw_writer.specs.Texts.{Text, followed}
use Rattle.dw_writer.specs.declared.sections.Sections.{Sections}
use Rattle.dw_writer.proofs.Steps.{Adds-appends}
use Rattle.dw_strings.specs.Strings.{string_bytes}
use Rattle.dw_line.specs.LinePrograms.{line_program_size}
use Rattle.dw_line.specs.Parts.{sizes}
use Rattle.dw_tree.specs.Elsewhere.{AppendsAllRanges, ends_of, line_size, range_size, range_text, new_size}
use Rattle.dw_tree.specs.Built.{at_begin}
use Rattle.dw_tree.specs.Pending.{AddsFilled, AreInRow, info_of, units_draft, tables_of, locations_draft}
use Rattle.dw_tree.specs.UnitValue.{UnitValue}
use Rattle.dw_tree.specs.Written.{CompletesAny}
use Rattle.dw_dwarf.specs.DwarfValue.{DwarfValue}
use Rattle.dw_dwarf.specs.Left.{units_of}
use Rattle.dw_dwarf.specs.Valid.{IsUnwritten, AreUnwritten, found_in, settled_units}
use Rattle.dw_dwarf.specs.Written.{AddsLines, AddsStrings, KeepsOthers}
use Rattle.dw_unit.proofs.FileCompleted.{Completes}
use Rattle.dw_dwarf.proofs.Held.{writes_whole, texts_as, lines_as, units_from_begin}
use Rattle.dw_dwarf.proofs.TextsAlone.{followed_by}
use Rattle.dw_link.specs.Sets.{parts_of}
use Rattle.dw_program.specs.SetParts.{Part, Placed, fixed, part_of, IsHeld, HoldsPart, IsSet}

-- nothing yet, in a writer that records relocations
abbrev pub new_recorder : Bool → Meaning
new_recorder big = record { bytes = Some []; size = 0; is_big = big; is_plain = false; records = []; faults = 0 }

new_tidy : (big : Bool) → IsTidy (new_recorder big)
unfolding AllInside
new_tidy big = record { sized = λ b is. let none : [] ≡ b = cc in sym (ap length none); inside = tt }

new_resolved : (big : Bool) (l : Layout) → resolved l (new_recorder big) ≡ Some []
unfolding resolved
new_resolved big l = refl

-- the writer tells its bytes
abbrev IsTold : Meaning → Type 0
IsTold m = (xs : List ℕ) × (m.bytes ≡ Some xs)

long_by : (m : Meaning) (n : ℕ) → IsTidy m → IsTold m → m.size ≡ n → length (spelled_text m.bytes) ≡ n
long_by m n tidy told size = ap (λ t. length (spelled_text t)) told.1 ∙ tidy.sized told.0 told.1 ∙ size

-- nothing was added
held_nothing : (big : Bool) (m : Meaning) → m ≡ new_recorder big → HoldsPart m big (fixed [])
held_nothing big m is = subst (λ x. HoldsPart x big (fixed [])) (sym is) (record { order = refl; long = refl; resolves = new_resolved big })

module _ (big : Bool) (old new : Meaning) (empty : old ≡ new_recorder big) (told : IsTold new) where
  old_tidy : IsTidy old
  old_tidy = subst IsTidy (sym empty) (new_tidy big)

  alone : (l : Layout) (t : Text) → resolved l new ≡ followed (resolved l old) t → resolved l new ≡ t
  alone l t h = h ∙ ap (λ u. followed u t) (ap (resolved l) empty ∙ new_resolved big l) ∙ followed_by t

  old_order : old.is_big ≡ big
  old_order = ap (λ m. m.is_big) empty

  none_before : old.size ≡ 0
  none_before = ap (λ m. m.size) empty

  -- a text was added
  held_added : (n : ℕ) (text : Model) (q : Part) → Appends old new n text → n ≡ q.size → ((l : Layout) → text big l ≡ q.text big l) → HoldsPart new big q
  held_added n text q p sized same = record {
    order = p.same.order ∙ old_order;
    long = long_by new q.size (p.tidy old_tidy) told (omega (arith, p.size, none_before, sized));
    resolves = λ l. alone l (text old.is_big l) (p.resolves old_tidy l) ∙ ap (λ b. text b l) old_order ∙ same l;
  }

  -- bytes were added
  held_bytes : (xs : List ℕ) → Adds old new xs → HoldsPart new big (fixed xs)
  held_bytes xs p = held_added (length xs) (λ b l. Some xs) (fixed xs) (Adds-appends p) refl (λ l. refl)

  -- a draft was added and filled in
  held_filled : (info : Info) (d : Draft) → AddsFilled old new info d → HoldsPart new big (record { size = d.size; text = filled_text info d })
  held_filled info d p = record {
    order = p.same.order ∙ old_order;
    long = long_by new d.size (p.tidy old_tidy) told (omega (arith, p.size, none_before));
    resolves = λ l. alone l (filled_text info d old.is_big l) (p.resolves old_tidy l) ∙ ap (λ b. filled_text info d b l) old_order;
  }

-- where no unit was written before, what all of them add is as long as what those that weren't do
sizes_as : (size : UnitValue → ℕ) (us : List UnitValue) → All IsUnwritten us → sizes (new_size size) us ≡ sizes size us
sizes_as size [] all = refl
sizes_as size (u ∷ us) all =
    ap₂ (λ m n. m + n) (ap (λ (b : Bool). if b then 0 else size u) (All-head IsUnwritten u us all)) (sizes_as size us (All-tail IsUnwritten u us all))

module _ {W : Type 0} (meaning : W → Meaning) (big : Bool) (old new : Sections W) (d : DwarfValue) (tells : (w : W) → IsTold (meaning w)) (begun : AllMean meaning old (new_recorder big)) (unwritten : AreUnwritten d) where
  sized : {m : Meaning} → m ≡ new_recorder big → m.size ≡ 0
  sized e = ap (λ m. m.size) e

  -- the places of the units' own parts are counted from the begins of the sections
  from_begin : settled_units (ends_of meaning old) d ≡ units_of d
  from_begin =
      units_from_begin (ends_of meaning old) d (sized begun.debug_line, sized begun.debug_ranges, sized begun.debug_rnglists, sized begun.debug_loc, sized begun.debug_loclists)

  module _ (w : Completes meaning old new (units_of d)) (lines : AddsLines meaning old new d) (ranges : AppendsAllRanges meaning old new d.units) (strings : AddsStrings meaning old new d.line_strings d.strings) (others : KeepsOthers old new) where
    placed : Placed
    placed = record { dwarf = d; kept = w.kept }

    whole_parts : (s : SectionId) → IsHeld (parts_of meaning new s) big (part_of placed s)
    unfolding placed
    whole_parts DebugAbbrev = held_bytes big (meaning old.debug_abbrev.0) (meaning new.debug_abbrev.0) begun.debug_abbrev (tells new.debug_abbrev.0) (tables_of (units_of d)) w.adds.tables
    whole_parts DebugStr = held_bytes big (meaning old.debug_str.0) (meaning new.debug_str.0) begun.debug_str (tells new.debug_str.0) (string_bytes d.strings) strings.others
    whole_parts DebugLineStr = held_bytes big (meaning old.debug_line_str.0) (meaning new.debug_line_str.0) begun.debug_line_str (tells new.debug_line_str.0) (string_bytes d.line_strings) strings.lines
    whole_parts DebugLine =
        held_added big (meaning old.debug_line.0) (meaning new.debug_line.0) begun.debug_line (tells new.debug_line.0) _ _ _ lines.text_is
        (ap (λ n. n + sizes line_program_size d.line_programs) (sizes_as line_size d.units unwritten)) (λ l. sym (lines_as d unwritten big l))
    whole_parts DebugRanges =
        held_added big (meaning old.debug_ranges.0) (meaning new.debug_ranges.0) begun.debug_ranges (tells new.debug_ranges.0) _ _ _ ranges.ranges (sizes_as (range_size false) d.units unwritten)
        (λ l. sym (texts_as (range_text false) d.units unwritten big l))
    whole_parts DebugRngLists =
        held_added big (meaning old.debug_rnglists.0) (meaning new.debug_rnglists.0) begun.debug_rnglists (tells new.debug_rnglists.0) _ _ _ ranges.range_lists (sizes_as (range_size true) d.units unwritten)
        (λ l. sym (texts_as (range_text true) d.units unwritten big l))
    whole_parts DebugLoc = held_filled big (meaning old.debug_loc.0) (meaning new.debug_loc.0) begun.debug_loc (tells new.debug_loc.0) (info_of (units_of d) w.kept) (locations_draft (units_of d) false) w.adds.lists.locations
    whole_parts DebugLocLists = held_filled big (meaning old.debug_loclists.0) (meaning new.debug_loclists.0) begun.debug_loclists (tells new.debug_loclists.0) (info_of (units_of d) w.kept) (locations_draft (units_of d) true) w.adds.lists.location_lists
    whole_parts DebugInfo =
        let u = w.adds.units in
        held_filled big (meaning old.debug_info.0) (meaning new.debug_info.0) begun.debug_info (tells new.debug_info.0) (info_of (units_of d) w.kept) (units_draft (units_of d) w.kept) (record { same = u.same; size = u.size; tidy = u.tidy; resolves = u.resolves })
    whole_parts DebugFrame = held_nothing big (meaning new.debug_frame.0) (ap (λ s. meaning s.debug_frame.0) others ∙ begun.debug_frame)
    whole_parts EhFrame = held_nothing big (meaning new.eh_frame.0) (ap (λ s. meaning s.eh_frame.0) others ∙ begun.eh_frame)
    whole_parts DebugAddr = tt
    whole_parts DebugStrOffsets = tt
    whole_parts DebugMacinfo = tt
    whole_parts DebugMacro = tt
    whole_parts DebugAranges = tt

  -- units over empty sections stand in a row from the begin
  row_from_begin : (w : Completes meaning old new (units_of d)) → (meaning old.debug_info.0).size ≡ 0 → (meaning old.debug_abbrev.0).size ≡ 0 → AreInRow at_begin (units_of d) w.kept
  row_from_begin w info abbrevs =
      subst (λ n. AreInRow (record { info = n; abbrevs = 0 }) (units_of d) w.kept) info
      (subst (λ n. AreInRow (record { info = (meaning old.debug_info.0).size; abbrevs = n }) (units_of d) w.kept) abbrevs w.adds.units.in_row)

  pub set_written : NoFixups old → (vs : List UnitValue) → CompletesAny meaning old new d.units vs (found_in meaning old d) → AddsLines meaning old new d → AppendsAllRanges meaning old new d.units → AddsStrings meaning old new d.line_strings d.strings → KeepsOthers old new →
      IsSet big (parts_of meaning new) d
  unfolding placed
  set_written fixups vs completes lines ranges strings others =
      let w = subst (Completes meaning old new) from_begin (writes_whole meaning old new d vs fixups unwritten completes) in
      record {
        kept = w.kept;
        in_row = row_from_begin w (sized begun.debug_info) (sized begun.debug_abbrev);
        parts = whole_parts w lines ranges strings others;
      }
