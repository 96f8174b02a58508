-- New sections hold the Dwarf that was written into them.
use Rattle.std.specs.Prelude.{◌≡◌, ℕ, suc, ◌+◌, Bool, true, List, [], ◌∷◌, ◌++◌, map, Some, None, All, refl, IsFalse, if◌then◌else◌, false}
use Rattle.std.proofs.lemmas.List.Elements.{All-head, All-tail, All-map}
use Rattle.std.proofs.Common.{sym, ◌∙◌, ap, subst}
use Rattle.dw_base.specs.declared.error.Error.{Error}
use Rattle.dw_writer.specs.Texts.{Text, followed}
use Rattle.dw_writer.specs.Drafts.{Info, started, filled_text}
use Rattle.dw_writer.specs.Layout.{start_of}
use Rattle.dw_writer.specs.Sections.{NoFixups}
use Rattle.dw_base.specs.declared.section_id.SectionId.TheVariants.{DebugInfo}
use Rattle.std.proofs.lemmas.Bool.{or_parts}
use Rattle.dw_writer.specs.Contents.{Meaning}
use Rattle.dw_writer.specs.Layout.{Layout}
use Rattle.dw_writer.specs.Resolved.{resolved}
use Rattle.dw_writer.specs.New.{IsEmptyPlainWriter, IsEmptyWriter, IsNewPlain}
use Rattle.dw_writer.proofs.NewLemmas.{EachWriter-map, IsEmptyWriter-from_plain}
use Rattle.dw_writer.specs.declared.sections.Sections.{Sections}
use Rattle.dw_writer.proofs.Steps.{Adds-appends, Appends-as}
use Rattle.dw_writer.specs.Meaning.{Model, Adds, Appends}
use Rattle.dw_strings.specs.Strings.{string_bytes}
use Rattle.dw_line.specs.Parts.{sizes, texts}
use Rattle.dw_line.specs.LinePrograms.{line_program_text}
use Rattle.dw_tree.specs.Built.{Built, Numbered, at_begin, at_zero, settled_at, numbered_from}
use Rattle.dw_tree.specs.Elsewhere.{End, Ends, Elsewhere, end_of, ends_of, line_size, line_text, range_size, range_text, location_size, new_text, unit_tables, past_ends, AppendsBehind, AppendsAllRanges, AreFound}
use Rattle.dw_tree.specs.Locations.{location_drafts, AreLocated}
use Rattle.dw_tree.specs.Pending.{Kept, AreInRow, units_draft, tables_of, locations_draft, info_at, info_of}
use Rattle.dw_tree.specs.ReferenceFaults.{lists_refer_wrong, references_fail}
use Rattle.dw_tree.specs.UnitFaults.{holes_fail}
use Rattle.dw_tree.specs.UnitValue.{UnitValue}
use Rattle.dw_tree.specs.Valid.{AreWritable}
use Rattle.dw_tree.specs.Whole.{settled}
use Rattle.dw_tree.specs.Written.{AppendsUnits, CompletesAny, to_write}
use Rattle.dw_unit.proofs.FileCompleted.{Completes}
use Rattle.dw_unit.proofs.Filling.{holes_lead}
use Rattle.dw_unit.proofs.Files.{IsFileRead, empty_tidy, resolved-empty, resolved-plain, units_held, units_resolved}
use Rattle.dw_unit.proofs.PendingSteps.{pending_none}
use Rattle.dw_unit.proofs.TableLaws.{info_kept, unwritten_keeps, to_write-unwritten}
use Rattle.dw_unit.specs.WrittenUnits.{AreListsSound}
use Rattle.dw_unit.proofs.UnitTexts.{behind-as}
use Rattle.dw_dwarf.specs.DwarfValue.{DwarfValue}
use Rattle.dw_expr.proofs.ExpressionsThere.{ArePlaced}
use Rattle.dw_dwarf.specs.Lists.{InOrder, FindAllLocations}
use Rattle.dw_dwarf.proofs.TextsAlone.{followed_by, behind_nothing, filled_alone, filled_told}
use Rattle.dw_dwarf.proofs.LocationsThere.{placed_is, locations_all_there, numbered_units}
use Rattle.dw_dwarf.proofs.LocationsFound.{all_located}
use Rattle.dw_dwarf.proofs.RangesThere.{all_sound, ranges_all_there}
use Rattle.dw_dwarf.proofs.ListsFound.{all_found}
use Rattle.dw_dwarf.specs.Valid.{IsUnwritten, AreUnwritten, found_from, found_in, empty_end, empty_ends, settled_units}
use Rattle.dw_dwarf.specs.Written.{AreNewPlain, AreNew, SectionTexts, dwarf_lines, dwarf_ranges, Orders, one_order, orders_of, AreTextsFor, TellTexts, HoldsDwarf, ResolvesTo, ResolveLocations, AddsLines, AddsStrings, KeepsOthers}

-- what is added to an empty writer stands there alone
told_alone : (a b : Meaning) (xs : List ℕ) → a.bytes ≡ Some [] → Adds a b xs → b.bytes ≡ Some xs
told_alone a b xs none p = p.told ∙ ap (λ t. followed t (Some xs)) none ∙ followed_by (Some xs)

some_is : {A : Type 0} (x y : A) → Some x ≡ Some y → x ≡ y
some_is x y h = cc

-- Ends

-- where sections end that are empty
end_is : (m : Meaning) (plain : Bool) → m.size ≡ 0 → m.is_plain ≡ plain → end_of m ≡ empty_end plain
end_is m plain none kind = ap (λ n. let e : End = record { size = n; is_plain = m.is_plain } in e) none ∙ ap (λ b. let e : End = record { size = 0; is_plain = b } in e) kind

pub ends_are : (a b c e f : Meaning) (plain : Bool) → a.size ≡ 0 → a.is_plain ≡ plain → b.size ≡ 0 → b.is_plain ≡ plain → c.size ≡ 0 → c.is_plain ≡ plain → e.size ≡ 0 → e.is_plain ≡ plain → f.size ≡ 0 → f.is_plain ≡ plain →
    ◌≡◌ {A = Ends} (record { lines = end_of a; ranges = end_of b; range_lists = end_of c; locations = end_of e; location_lists = end_of f }) (empty_ends plain)
ends_are a b c e f plain a0 ak b0 bk c0 ck e0 ek f0 fk =
    let ends = λ (v w x y z : End). let es : Ends = record { lines = v; ranges = w; range_lists = x; locations = y; location_lists = z } in es in
    let none = empty_end plain in
    ap (λ v. ends v (end_of b) (end_of c) (end_of e) (end_of f)) (end_is a plain a0 ak)
    ∙ ap (λ w. ends none w (end_of c) (end_of e) (end_of f)) (end_is b plain b0 bk)
    ∙ ap (λ x. ends none none x (end_of e) (end_of f)) (end_is c plain c0 ck)
    ∙ ap (λ y. ends none none none y (end_of f)) (end_is e plain e0 ek)
    ∙ ap (λ z. ends none none none none z) (end_is f plain f0 fk)

-- Line programs

-- what is added to .debug_line
abbrev pub added_lines : DwarfValue → Model
added_lines d big l = followed (texts (new_text (line_text d.line_strings d.strings)) d.units big l) (texts (line_program_text d.strings d.line_strings) d.line_programs big l)

-- where no unit was written before, what all of them add is what those that weren't do
pub texts_as : (text : UnitValue → Model) (us : List UnitValue) → All IsUnwritten us → (big : Bool) (l : Layout) → texts text us big l ≡ texts (new_text text) us big l
texts_as text [] all big l = refl
texts_as text (u ∷ us) all big l =
    ap (λ t. followed t (texts text us big l)) (ap (λ (b : Bool). if b then Some [] else text u big l) (sym (All-head IsUnwritten u us all)))
    ∙ ap (followed (new_text text u big l)) (texts_as text us (All-tail IsUnwritten u us all) big l)

pub lines_as : (d : DwarfValue) → AreUnwritten d → (big : Bool) (l : Layout) → dwarf_lines d big l ≡ added_lines d big l
lines_as d unwritten big l = ap (λ t. followed t (texts (line_program_text d.strings d.line_strings) d.line_programs big l)) (texts_as (line_text d.line_strings d.strings) d.units unwritten big l)

-- what is added behind nothing in an empty plain writer stands there
told_behind : (old new : Meaning) (n : ℕ) (text : Model) → IsEmptyPlainWriter old old.is_big → (new.is_plain ≡ true → new.records ≡ []) → AppendsBehind old new n text → (xs : List ℕ) × (new.bytes ≡ Some xs) × (text old.is_big at_zero ≡ Some xs)
told_behind old new n text empty law p =
    let tidy = empty_tidy old.is_big old (IsEmptyWriter-from_plain old old.is_big empty) in
    let front = p.front tidy in
    let told : new.bytes ≡ Some front.added = front.told ∙ ap (λ t. followed t (Some front.added)) empty.bytes ∙ followed_by (Some front.added) in
    let plain : new.is_plain ≡ true = p.text_is.same.kind ∙ empty.plain in
    let here = sym (p.text_is.resolves tidy at_zero) ∙ resolved-plain new plain (law plain) ∙ told in
    let nothing = resolved-plain old empty.plain empty.records ∙ empty.bytes in
    (front.added, told, behind_nothing (resolved at_zero old) (text old.is_big at_zero) front.added (λ ys is. sym (some_is [] ys (sym nothing ∙ is))) here)

-- what is added to an empty section is all that resolves in it
pub resolved_alone : (old new : Meaning) (n : ℕ) (text : Model) → IsEmptyWriter old old.is_big → Appends old new n text → (l : Layout) (xs : List ℕ) → resolved l new ≡ Some xs → text new.is_big l ≡ Some xs
resolved_alone old new n text empty p l xs h =
    ap (λ b. text b l) p.same.order
    ∙ behind_nothing (resolved l old) (text old.is_big l) xs (λ ys is. resolved-empty old.is_big l old ys empty is) (sym (p.resolves (empty_tidy old.is_big old empty) l) ∙ h)

-- over an empty plain writer a text that is there stands there
plain_alone : (old new : Meaning) (n : ℕ) (text : Model) (xs : List ℕ) → IsEmptyPlainWriter old old.is_big → (new.is_plain ≡ true → new.records ≡ []) → Appends old new n text → text old.is_big at_zero ≡ Some xs → new.bytes ≡ Some xs
plain_alone old new n text xs empty law p is =
    let tidy = empty_tidy old.is_big old (IsEmptyWriter-from_plain old old.is_big empty) in
    let plain : new.is_plain ≡ true = p.same.kind ∙ empty.plain in
    sym (resolved-plain new plain (law plain))
    ∙ p.resolves tidy at_zero
    ∙ ap (λ t. followed t (text old.is_big at_zero)) (resolved-plain old empty.plain empty.records ∙ empty.bytes)
    ∙ followed_by (text old.is_big at_zero)
    ∙ is

-- Range lists over new sections
module _ {W : Type 0} (meaning : W → Meaning) (old new : Sections W) (d : DwarfValue) (unwritten : AreUnwritten d) (p : AppendsAllRanges meaning old new d.units) where
  pub ranges_resolved : IsEmptyWriter (meaning old.debug_ranges.0) (meaning old.debug_ranges.0).is_big → (l : Layout) (xs : List ℕ) → resolved l (meaning new.debug_ranges.0) ≡ Some xs → dwarf_ranges false d (meaning new.debug_ranges.0).is_big l ≡ Some xs
  ranges_resolved empty l xs h = texts_as (range_text false) d.units unwritten (meaning new.debug_ranges.0).is_big l ∙ resolved_alone (meaning old.debug_ranges.0) (meaning new.debug_ranges.0) _ _ empty p.ranges l xs h

  pub range_lists_resolved : IsEmptyWriter (meaning old.debug_rnglists.0) (meaning old.debug_rnglists.0).is_big → (l : Layout) (xs : List ℕ) → resolved l (meaning new.debug_rnglists.0) ≡ Some xs → dwarf_ranges true d (meaning new.debug_rnglists.0).is_big l ≡ Some xs
  range_lists_resolved empty l xs h =
      texts_as (range_text true) d.units unwritten (meaning new.debug_rnglists.0).is_big l ∙ resolved_alone (meaning old.debug_rnglists.0) (meaning new.debug_rnglists.0) _ _ empty p.range_lists l xs h

-- the numbers of units don't hang on whether writers are plain
abbrev AreSizes : Ends → Ends → Type 0
AreSizes a b =
    (a.lines.size ≡ b.lines.size) × (a.ranges.size ≡ b.ranges.size) × (a.range_lists.size ≡ b.range_lists.size) × (a.locations.size ≡ b.locations.size) × (a.location_lists.size ≡ b.location_lists.size)

-- what units find where sections end at these places
abbrev found_by : List (List ℕ) → List (List ℕ) → Ends → Elsewhere
found_by line_strings strings ends = record { line_strings = line_strings; strings = strings; ends = ends }

same_tables : (line_strings strings : List (List ℕ)) (a b : Ends) (u : UnitValue) → AreSizes a b → unit_tables (found_by line_strings strings a) u ≡ unit_tables (found_by line_strings strings b) u
same_tables line_strings strings a b u h =
    let sized = λ (v w x y z : ℕ).
    let at = λ (n : ℕ). let e : End = record { size = n; is_plain = true } in e in
    let e : Ends = record { lines = at v; ranges = at w; range_lists = at x; locations = at y; location_lists = at z } in
    unit_tables (found_by line_strings strings e) u in
    ap (λ v. sized v a.ranges.size a.range_lists.size a.locations.size a.location_lists.size) h.0
    ∙ ap (λ w. sized b.lines.size w a.range_lists.size a.locations.size a.location_lists.size) h.1
    ∙ ap (λ x. sized b.lines.size b.ranges.size x a.locations.size a.location_lists.size) h.2
    ∙ ap (λ y. sized b.lines.size b.ranges.size b.range_lists.size y a.location_lists.size) h.3
    ∙ ap (λ z. sized b.lines.size b.ranges.size b.range_lists.size b.locations.size z) h.4

numbered-sizes : (n : ℕ) (line_strings strings : List (List ℕ)) (a b : Ends) (us : List UnitValue) → AreSizes a b → numbered_from n (found_by line_strings strings a) us ≡ numbered_from n (found_by line_strings strings b) us
numbered-sizes n line_strings strings a b [] h = refl
numbered-sizes n line_strings strings a b (u ∷ us) h =
    let more = numbered_from (suc n) (found_by line_strings strings (past_ends a u)) us in
    ap (λ t. let w : Numbered = record { id = n; unit = settled u; tables = t } in w ∷ more) (same_tables line_strings strings a b u h)
    ∙ ap (λ xs. settled_at n (found_by line_strings strings b) u ∷ xs)
    (numbered-sizes (suc n) line_strings strings (past_ends a u) (past_ends b u) us (
      ap (λ k. k + line_size u) h.0,
      ap (λ k. k + range_size false u) h.1,
      ap (λ k. k + range_size true u) h.2,
      ap (λ k. k + location_size false u) h.3,
      ap (λ k. k + location_size true u) h.4,
    ))

pub units_from_begin : (e : Ends) (d : DwarfValue) → AreSizes e (empty_ends true) → settled_units e d ≡ settled_units (empty_ends true) d
units_from_begin e d h = numbered-sizes 0 d.line_strings d.strings e (empty_ends true) d.units h

-- what writing a table comes to where none of its units was written before, and no reference was open
pub writes_whole : {W : Type 0} (meaning : W → Meaning) (old new : Sections W) (d : DwarfValue) (vs : List UnitValue) → NoFixups old → AreUnwritten d → CompletesAny meaning old new d.units vs (found_in meaning old d) →
    Completes meaning old new (settled_units (ends_of meaning old) d)
writes_whole {W} meaning old new d vs none unwritten any =
    let p = any old [] [] none (pending_none meaning old) in
    let info : info_at vs ≡ info_of (to_write (found_in meaning old d) d.units) p.kept = info_kept vs (to_write (found_in meaning old d) d.units) p.kept (p.keeps (unwritten_keeps d.units unwritten)) in
    let whole : Completes meaning old new (to_write (found_in meaning old d) d.units) = record {
      kept = p.kept;
      adds = subst (λ f. AppendsUnits meaning old new f (to_write (found_in meaning old d) d.units) p.kept) info p.appends;
      lead = λ err. subst (λ f. IsFalse (references_fail f (meaning old.debug_info.0).is_plain (ends_of meaning old) (to_write (found_in meaning old d) d.units) p.kept err)) info (p.lead err);
    } in
    subst (Completes meaning old new) (to_write-unwritten 0 (found_in meaning old d) d.units unwritten) whole

-- where new sections end
pub new_sizes : {W : Type 0} (meaning : W → Meaning) (old : Sections W) → AreNew meaning old → AreSizes (ends_of meaning old) (empty_ends true)
new_sizes meaning old empty = (empty.lines.size, empty.ranges.size, empty.range_lists.size, empty.locations.size, empty.location_lists.size)

-- Units over new sections, as they stand
module _ {W : Type 0} (meaning : W → Meaning) (old new : Sections W) (us : List Numbered) (w : Completes meaning old new us) where
  abbrev ks : List Kept
  ks = w.kept

  abbrev info : Info
  info = info_of us ks

  -- the tables alone stand in .debug_abbrev
  tables_told : IsEmptyPlainWriter (meaning old.debug_abbrev.0) (meaning old.debug_abbrev.0).is_big → (meaning new.debug_abbrev.0).bytes ≡ Some (tables_of us)
  tables_told empty = w.adds.tables.told ∙ ap (λ t. followed t (Some (tables_of us))) empty.bytes ∙ followed_by (Some (tables_of us))

  tables_resolved : IsEmptyWriter (meaning old.debug_abbrev.0) (meaning old.debug_abbrev.0).is_big → (l : Layout) (abbrevs : List ℕ) → resolved l (meaning new.debug_abbrev.0) ≡ Some abbrevs → tables_of us ≡ abbrevs
  unfolding followed
  tables_resolved empty l abbrevs h =
      let m = meaning old.debug_abbrev.0 in
      let adds_text = (Adds-appends w.adds.tables).resolves (empty_tidy m.is_big m empty) l in
      by_text (resolved l m) refl (sym adds_text ∙ h)
    where
      by_text : (t : Text) → resolved l (meaning old.debug_abbrev.0) ≡ t → followed t (Some (tables_of us)) ≡ Some abbrevs → tables_of us ≡ abbrevs
      by_text None is k = absurd (let x : ◌≡◌ {A = Text} None (Some abbrevs) = k in cc)
      by_text (Some ys) is k =
          let none = resolved-empty (meaning old.debug_abbrev.0).is_big l (meaning old.debug_abbrev.0) ys empty is in
          ap (λ zs. zs ++ tables_of us) (sym none) ∙ some_is (ys ++ tables_of us) abbrevs k

  row_from_begin : (meaning old.debug_info.0).size ≡ 0 → (meaning old.debug_abbrev.0).size ≡ 0 → AreInRow at_begin us ks
  row_from_begin info abbrevs =
      subst (λ n. AreInRow (record { info = n; abbrevs = 0 }) us ks) info
      (subst (λ n. AreInRow (record { info = (meaning old.debug_info.0).size; abbrevs = n }) us ks) abbrevs w.adds.units.in_row)

  -- the places of the references of their location lists fit, where no symbols can be written
  module _ (old_plain : (meaning old.debug_loc.0).is_plain ≡ true) (new_plain : (meaning old.debug_loclists.0).is_plain ≡ true) where
    lists_lead : (err : Error) → IsFalse (lists_refer_wrong info (ends_of meaning old) us err)
    lists_lead err = (or_parts (holes_fail info (meaning old.debug_info.0).is_plain (units_draft us ks).holes err) (lists_refer_wrong info (ends_of meaning old) us err) (w.lead err)).1

    parts_lead : (err : Error) → IsFalse (holes_fail info (meaning old.debug_loc.0).is_plain (locations_draft us false).holes err) × IsFalse (holes_fail info (meaning old.debug_loclists.0).is_plain (locations_draft us true).holes err)
    parts_lead err = or_parts (holes_fail info (meaning old.debug_loc.0).is_plain (locations_draft us false).holes err) (holes_fail info (meaning old.debug_loclists.0).is_plain (locations_draft us true).holes err) (lists_lead err)

    lists_placed : (five : Bool) → ArePlaced (started (start_of at_zero DebugInfo) info) (locations_draft us five).holes
    lists_placed false =
        placed_is (started 0 info) (locations_draft us false).holes (holes_lead info (locations_draft us false).holes (λ err. subst (λ b. IsFalse (holes_fail info b (locations_draft us false).holes err)) old_plain (parts_lead err).0))
    lists_placed true =
        placed_is (started 0 info) (locations_draft us true).holes (holes_lead info (locations_draft us true).holes (λ err. subst (λ b. IsFalse (holes_fail info b (locations_draft us true).holes err)) new_plain (parts_lead err).1))

    -- their texts are there
    module _ (vs : List UnitValue) (same : map (λ (u : Numbered). u.unit) us ≡ map settled vs) (sounds : All AreListsSound vs) where
      lists_there : (five big : Bool) → (xs : List ℕ) × (filled_text info (locations_draft us five) big at_zero ≡ Some xs)
      lists_there five big =
          let start = start_of at_zero DebugInfo in
          let there = locations_all_there (started start info) big at_zero five vs sounds (subst (λ ws. ArePlaced (started start info) (location_drafts five ws).holes) same (lists_placed five)) in
          (there.0, ap (λ ws. (location_drafts five ws).text (started start info) big at_zero) same ∙ there.1)

      -- and each list is found in them
      lists_found : (d : DwarfValue) (old_big new_big : Bool) (xs ys : List ℕ) → filled_text info (locations_draft us false) old_big at_zero ≡ Some xs → filled_text info (locations_draft us true) new_big at_zero ≡ Some ys →
          FindAllLocations (record { is_big = old_big; bytes = xs }) (record { is_big = new_big; bytes = ys }) (started (start_of at_zero DebugInfo) info) (found_from (empty_ends true) d) vs
      lists_found d old_big new_big xs ys p q =
          let at = started (start_of at_zero DebugInfo) info in
          let located = subst (All AreLocated) same (All-map AreLocated (λ (u : Numbered). u.unit) us w.adds.lists.located) in
          let text = λ (five big : Bool) (zs : List ℕ) (h : (location_drafts five (map (λ (u : Numbered). u.unit) us)).text at big at_zero ≡ Some zs). sym (ap (λ ws. (location_drafts five ws).text at big at_zero) same) ∙ h in
          all_located (record { is_big = old_big; bytes = xs }) (record { is_big = new_big; bytes = ys }) at (found_from (empty_ends true) d) [] xs [] ys vs located sounds refl refl (text false old_big xs p) refl refl (text true new_big ys q)

-- Location lists of a Dwarf over new sections
module _ {W : Type 0} (meaning : W → Meaning) (old new : Sections W) (d : DwarfValue) (w : Completes meaning old new (settled_units (empty_ends true) d)) where
  abbrev ns : List Numbered
  ns = settled_units (empty_ends true) d

  pub locations_resolved : AreNew meaning old → ResolveLocations meaning new d
  locations_resolved empty = record {
    kept = w.kept;
    in_row = row_from_begin meaning old new ns w empty.info.size empty.abbrevs.size;
    locations = filled_alone (meaning old.debug_loc.0) (meaning new.debug_loc.0) (info_of ns w.kept) (locations_draft ns false) empty.locations w.adds.lists.locations;
    location_lists = filled_alone (meaning old.debug_loclists.0) (meaning new.debug_loclists.0) (info_of ns w.kept) (locations_draft ns true) empty.location_lists w.adds.lists.location_lists;
  }

-- The texts of units over new plain sections
module _ {W : Type 0} (meaning : W → Meaning) (law : (w : W) → (meaning w).is_plain ≡ true → (meaning w).records ≡ []) (old new : Sections W) (empty : AreNewPlain meaning old) (us : List Numbered) (vs : List UnitValue)
    (same : map (λ (u : Numbered). u.unit) us ≡ map settled vs) (w : Completes meaning old new us) (n m k : ℕ) (programs : Model) (d : DwarfValue) (sounds : All AreListsSound vs) where
  pub texts_held : AppendsBehind (meaning old.debug_line.0) (meaning new.debug_line.0) n programs → Appends (meaning old.debug_ranges.0) (meaning new.debug_ranges.0) m (texts (range_text false) vs) →
      Appends (meaning old.debug_rnglists.0) (meaning new.debug_rnglists.0) k (texts (range_text true) vs) → All AreFound vs → AddsStrings meaning old new d.line_strings d.strings → KeepsOthers old new →
      (t : SectionTexts) × AreTextsFor (orders_of meaning new) us vs programs d t × TellTexts meaning new t
  texts_held lines ranges range_lists again strings others =
      let m = meaning old.debug_info.0 in
      let e = empty.writers in
      let plain : (meaning new.debug_info.0).is_plain ≡ true = w.adds.units.same.kind ∙ e.debug_info.plain in
      let held = units_held m.is_big m (meaning new.debug_info.0) (meaning old.debug_abbrev.0).size us w.kept e.debug_info (law new.debug_info.0 plain) e.debug_abbrev.size w.adds.units in
      let stays : Sections W = record old { debug_abbrev = new.debug_abbrev; debug_str = new.debug_str; debug_line_str = new.debug_line_str; debug_line = new.debug_line; debug_ranges = new.debug_ranges; debug_rnglists = new.debug_rnglists; debug_loc = new.debug_loc; debug_loclists = new.debug_loclists; debug_info = new.debug_info; debug_info_fixups = new.debug_info_fixups; debug_loc_fixups = new.debug_loc_fixups; debug_loclists_fixups = new.debug_loclists_fixups } in
      let kept = λ (f : Sections W → W) (h : (meaning (f stays)).bytes ≡ Some []). let P : Sections W → Type 0 = λ s. (meaning (f s)).bytes ≡ Some [] in subst P (sym others) h in
      let file = subst (λ b. IsFileRead (record { units = us; layout = at_zero }) w.kept b held.0 (tables_of us)) (sym w.adds.units.same.order) held.1.1 in
      let line = told_behind (meaning old.debug_line.0) (meaning new.debug_line.0) n programs e.debug_line (law new.debug_line.0) lines in
      let old_ranges = ranges_all_there false vs sounds (meaning old.debug_ranges.0).is_big at_zero in
      let new_ranges = ranges_all_there true vs sounds (meaning old.debug_rnglists.0).is_big at_zero in
      let old_ranges_are = ap (λ b. texts (range_text false) vs b at_zero) ranges.same.order ∙ old_ranges.1 in
      let new_ranges_are = ap (λ b. texts (range_text true) vs b at_zero) range_lists.same.order ∙ new_ranges.1 in
      let old_lists = lists_there meaning old new us w e.debug_loc.plain e.debug_loclists.plain vs same sounds false (meaning old.debug_loc.0).is_big in
      let new_lists = lists_there meaning old new us w e.debug_loc.plain e.debug_loclists.plain vs same sounds true (meaning old.debug_loclists.0).is_big in
      let at = info_of us w.kept in
      let old_text = ap (λ b. filled_text at (locations_draft us false) b at_zero) w.adds.lists.locations.same.order ∙ old_lists.1 in
      let new_text = ap (λ b. filled_text at (locations_draft us true) b at_zero) w.adds.lists.location_lists.same.order ∙ new_lists.1 in
      let old_section : InOrder = record { is_big = (meaning new.debug_ranges.0).is_big; bytes = old_ranges.0 } in
      let new_section : InOrder = record { is_big = (meaning new.debug_rnglists.0).is_big; bytes = new_ranges.0 } in
      let texts : SectionTexts = record {
        debug_abbrev = tables_of us;
        debug_str = string_bytes d.strings;
        debug_line_str = string_bytes d.line_strings;
        debug_line = line.0;
        debug_ranges = old_ranges.0;
        debug_rnglists = new_ranges.0;
        debug_loc = old_lists.0;
        debug_loclists = new_lists.0;
        debug_info = held.0;
        debug_frame = [];
        eh_frame = [];
      } in (
        texts,
        record {
          units = file.0;
          strings = refl;
          line_strings = refl;
          lines = ap (λ b. programs b at_zero) lines.text_is.same.order ∙ line.2;
          ranges = old_ranges_are;
          range_lists = new_ranges_are;
          lists = all_found old_section new_section (found_from (empty_ends true) d) [] old_ranges.0 [] new_ranges.0 vs again sounds refl refl old_ranges_are refl refl new_ranges_are;
          locations = record {
            kept = w.kept;
            in_row = row_from_begin meaning old new us w e.debug_info.size e.debug_abbrev.size;
            locations = old_text;
            location_lists = new_text;
            found = lists_found meaning old new us w e.debug_loc.plain e.debug_loclists.plain vs same sounds d (meaning new.debug_loc.0).is_big (meaning new.debug_loclists.0).is_big old_lists.0 new_lists.0 old_text new_text;
          };
          places = file.1;
          frames = refl;
          eh_frames = refl;
        },
        record {
          debug_abbrev = tables_told meaning old new us w e.debug_abbrev;
          debug_str = told_alone (meaning old.debug_str.0) (meaning new.debug_str.0) (string_bytes d.strings) e.debug_str.bytes strings.others;
          debug_line_str = told_alone (meaning old.debug_line_str.0) (meaning new.debug_line_str.0) (string_bytes d.line_strings) e.debug_line_str.bytes strings.lines;
          debug_line = line.1;
          debug_ranges = plain_alone (meaning old.debug_ranges.0) (meaning new.debug_ranges.0) _ _ old_ranges.0 e.debug_ranges (law new.debug_ranges.0) ranges old_ranges.1;
          debug_rnglists = plain_alone (meaning old.debug_rnglists.0) (meaning new.debug_rnglists.0) _ _ new_ranges.0 e.debug_rnglists (law new.debug_rnglists.0) range_lists new_ranges.1;
          debug_loc = filled_told (meaning old.debug_loc.0) (meaning new.debug_loc.0) at (locations_draft us false) old_lists.0 e.debug_loc (law new.debug_loc.0) w.adds.lists.locations old_lists.1;
          debug_loclists = filled_told (meaning old.debug_loclists.0) (meaning new.debug_loclists.0) at (locations_draft us true) new_lists.0 e.debug_loclists (law new.debug_loclists.0) w.adds.lists.location_lists new_lists.1;
          debug_info = held.1.0;
          debug_frame = kept (λ s. s.debug_frame.0) e.debug_frame.bytes;
          eh_frame = kept (λ s. s.eh_frame.0) e.eh_frame.bytes;
        },
      )

-- new plain sections end where they begin
pub plain_ends : {W : Type 0} (meaning : W → Meaning) (old : Sections W) → AreNewPlain meaning old → ends_of meaning old ≡ empty_ends true
plain_ends meaning old empty =
    let w = empty.writers in
    ends_are (meaning old.debug_line.0) (meaning old.debug_ranges.0) (meaning old.debug_rnglists.0) (meaning old.debug_loc.0) (meaning old.debug_loclists.0) true w.debug_line.size w.debug_line.plain w.debug_ranges.size w.debug_ranges.plain
    w.debug_rnglists.size w.debug_rnglists.plain w.debug_loc.size w.debug_loc.plain w.debug_loclists.size w.debug_loclists.plain

-- A Dwarf none of whose units was written before
module _ {W : Type 0} (meaning : W → Meaning) (old new : Sections W) (d : DwarfValue) (whole : Completes meaning old new (settled_units (ends_of meaning old) d)) where
  abbrev us : List Numbered
  us = settled_units (ends_of meaning old) d

  -- the places of their own parts are counted from the begins of the sections
  from_begin : AreSizes (ends_of meaning old) (empty_ends true) → us ≡ settled_units (empty_ends true) d
  from_begin sizes = units_from_begin (ends_of meaning old) d sizes

  pub dwarf_resolved : AreNew meaning old → AreUnwritten d → AddsLines meaning old new d → AppendsAllRanges meaning old new d.units → ResolvesTo meaning new d
  dwarf_resolved empty unwritten lines ranges = record {
    built = λ l info abbrevs at_info at_abbrevs told_info told_abbrevs.
        let m = meaning old.debug_info.0 in
        let built = units_resolved m.is_big m (meaning new.debug_info.0) (meaning old.debug_abbrev.0).size us whole.kept l empty.info empty.abbrevs.size whole.adds.units at_info at_abbrevs info told_info in
        let here = subst (λ b. Built (record { units = us; layout = l } ∷ []) b info abbrevs) (sym whole.adds.units.same.order)
        (subst (Built (record { units = us; layout = l } ∷ []) m.is_big info) (tables_resolved meaning old new us whole empty.abbrevs l abbrevs told_abbrevs) built)
        in
        subst (λ ns. Built (record { units = ns; layout = l } ∷ []) (meaning new.debug_info.0).is_big info abbrevs) (from_begin (new_sizes meaning old empty)) here;
    lines = λ l bytes told.
        let m = meaning old.debug_line.0 in
        let adds_text = lines.text_is.resolves (empty_tidy m.is_big m empty.lines) l in
        lines_as d unwritten (meaning new.debug_line.0).is_big l ∙ ap (λ b. added_lines d b l) lines.text_is.same.order
        ∙ behind_nothing (resolved l m) (added_lines d m.is_big l) bytes (λ ys is. resolved-empty m.is_big l m ys empty.lines is) (sym adds_text ∙ told);
    ranges = ranges_resolved meaning old new d unwritten ranges empty.ranges;
    range_lists = range_lists_resolved meaning old new d unwritten ranges empty.range_lists;
    locations = locations_resolved meaning old new d (subst (Completes meaning old new) (from_begin (new_sizes meaning old empty)) whole) empty;
  }

  pub dwarf_held : ((w : W) → (meaning w).is_plain ≡ true → (meaning w).records ≡ []) → AreNewPlain meaning old → AreUnwritten d → AddsLines meaning old new d → AppendsAllRanges meaning old new d.units →
      AreWritable (meaning old.debug_info.0).is_plain (found_in meaning old d) (meaning old.debug_abbrev.0).size d.units → AddsStrings meaning old new d.line_strings d.strings → KeepsOthers old new → HoldsDwarf meaning new d
  dwarf_held law empty unwritten lines ranges writable strings others =
      let ends = plain_ends meaning old empty in
      let named = subst (λ e. Completes meaning old new (settled_units e d)) ends whole in
      let can = subst (λ e. AreWritable (meaning old.debug_info.0).is_plain (found_from e d) (meaning old.debug_abbrev.0).size d.units) ends writable in
      let sounds = all_sound (found_from (empty_ends true) d) (meaning old.debug_info.0).is_plain (record { ranges = refl; range_lists = refl; locations = refl; location_lists = refl }) (meaning old.debug_abbrev.0).size d.units unwritten can in
      let same = numbered_units 0 (found_from (empty_ends true) d) d.units in
      let own_lines = behind-as lines refl (λ big l. sym (lines_as d unwritten big l)) in
      let own_ranges = Appends-as ranges.ranges refl (λ big l. sym (texts_as (range_text false) d.units unwritten big l)) in
      let own_lists = Appends-as ranges.range_lists refl (λ big l. sym (texts_as (range_text true) d.units unwritten big l)) in
      let again : All AreFound d.units = λ i v h. ranges.found i v h (unwritten i v h) in
      let held = texts_held meaning law old new empty (settled_units (empty_ends true) d) d.units same named _ _ _ (dwarf_lines d) d sounds own_lines own_ranges own_lists again strings others in
      record { texts = held.0; are = held.1; told = held.2 }

-- new plain sections of one byte order
pub AreNewPlain-from : {W : Type 0} (meaning : W → Meaning) (big : Bool) (s : Sections W) → IsNewPlain meaning big s → AreNewPlain meaning s
AreNewPlain-from meaning big s h = record {
  writers = EachWriter-map (λ w. IsEmptyPlainWriter (meaning w) big) (λ w. IsEmptyPlainWriter (meaning w) (meaning w).is_big) s
      (λ w e. record { bytes = e.bytes; size = e.size; records = e.records; order = refl; plain = e.plain }) h.writers;
  fixups = h.fixups;
}

-- units are written in the byte order of their section
pub same_order : {W : Type 0} (meaning : W → Meaning) (old new : Sections W) (us vs : List UnitValue) (t : Elsewhere) → NoFixups old → CompletesAny meaning old new us vs t → (meaning new.debug_info.0).is_big ≡ (meaning old.debug_info.0).is_big
same_order meaning old new before after t none any = (any old [] [] none (pending_none meaning old)).appends.units.same.order

-- so are their location lists
pub locations_order : {W : Type 0} (meaning : W → Meaning) (old new : Sections W) (us vs : List UnitValue) (t : Elsewhere) → NoFixups old → CompletesAny meaning old new us vs t → (meaning new.debug_loc.0).is_big ≡ (meaning old.debug_loc.0).is_big
locations_order meaning old new before after t none any = (any old [] [] none (pending_none meaning old)).appends.lists.locations.same.order

pub location_lists_order : {W : Type 0} (meaning : W → Meaning) (old new : Sections W) (us vs : List UnitValue) (t : Elsewhere) → NoFixups old → CompletesAny meaning old new us vs t → (meaning new.debug_loclists.0).is_big ≡ (meaning old.debug_loclists.0).is_big
location_lists_order meaning old new before after t none any = (any old [] [] none (pending_none meaning old)).appends.lists.location_lists.same.order

-- orders that are one
pub orders_are : (o : Orders) (big : Bool) → o.info ≡ big → o.lines ≡ big → o.ranges ≡ big → o.range_lists ≡ big → o.locations ≡ big → o.location_lists ≡ big → o ≡ one_order big
orders_are o big info lines ranges range_lists locations location_lists =
    let of = λ (a b c d e f : Bool). let x : Orders = record { info = a; lines = b; ranges = c; range_lists = d; locations = e; location_lists = f } in x in
    ap (λ a. of a o.lines o.ranges o.range_lists o.locations o.location_lists) info
    ∙ ap (λ b. of big b o.ranges o.range_lists o.locations o.location_lists) lines
    ∙ ap (λ c. of big big c o.range_lists o.locations o.location_lists) ranges
    ∙ ap (λ d. of big big big d o.locations o.location_lists) range_lists
    ∙ ap (λ e. of big big big big e o.location_lists) locations
    ∙ ap (λ f. of big big big big big f) location_lists
