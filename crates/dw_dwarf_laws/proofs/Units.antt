-- Units have the texts and the places of those in which symbols have values.
use Rattle.std.specs.Prelude.{◌≡◌, ℕ, suc, Bool, true, false, ◌&&◌, ◌||◌, ◌==◌, List, [], ◌∷◌, ◌++◌, map, Option, Some, None, refl, if◌then◌else◌}
use Rattle.std.specs.Option.{is_some, option_map}
use Rattle.std.proofs.Common.{sym, ◌∙◌, ap, ap₂, subst}
use Rattle.std.proofs.Math.Path.{fun_ext}
use Rattle.dw_base.specs.Numbers.{when}
use Rattle.dw_base.specs.Abbreviations.{Shape}
use Rattle.dw_base.specs.Entries.{Mark, Open, Null}
use Rattle.dw_base.specs.Spelling.{header_size}
use Rattle.dw_base.specs.declared.common.Encoding.{Encoding}
use Rattle.dw_writer.specs.Drafts.{Draft, no_draft, whole, then_draft, left_open}
use Rattle.dw_writer.specs.Layout.{Layout}
use Rattle.dw_writer.specs.Texts.{Text, followed}
use Rattle.dw_lists.specs.Items.{is_five}
use Rattle.dw_lists.specs.Tables.{Offsets, table_draft, offsets_from, locations_in}
use Rattle.dw_line.specs.LinePrograms.{LineProgramValue, line_program_text, sequences_of}
use Rattle.dw_line.specs.Parts.{texts}
use Rattle.dw_line.specs.ProgramTexts.{ProgramValue, program_sequences, open_sequence, open_sequences}
use Rattle.dw_line.specs.Programs.{SequenceValue, ended}
use Rattle.dw_entries.specs.Entries.{EntryValue, entry_at}
use Rattle.dw_entries.specs.Settled.{settled_entries, some_file}
use Rattle.dw_entries.specs.Targets.{Tables, UnitTargets}
use Rattle.dw_entries.specs.Tree.{preorder}
use Rattle.dw_entries.specs.declared.attribute.Attribute.{Attribute}
use Rattle.dw_entries.specs.declared.own_parts.OwnParts.{OwnParts}
use Rattle.dw_tree.specs.Built.{Numbered, settled_at, numbered_from}
use Rattle.dw_tree.specs.Coded.{code_of_entry}
use Rattle.dw_tree.specs.Elsewhere.{Elsewhere, line_place, line_size, line_text, range_places, range_size, range_text, ranges_at, location_places, location_size, locations_at, with_locations, tables_in, unit_tables, past_end, past_parts}
use Rattle.dw_tree.specs.Locations.{is_own_section, entry_places, location_part, location_draft}
use Rattle.dw_tree.specs.Pending.{Kept, draft_of, draft_at, units_draft, locations_draft, kept_at, kept_offsets, info_of}
use Rattle.dw_tree.specs.Places.{info_from, targets_of}
use Rattle.dw_tree.specs.UnitText.{attribute_draft, attributes_draft, sibling_draft, code_draft, entry_draft, coded_draft, marks_draft, tree_draft, header_text}
use Rattle.dw_tree.specs.UnitValue.{UnitValue}
use Rattle.dw_tree.specs.Whole.{is_some_of, tree_shapes, lines_in_use, parts_with, settled}
use Rattle.dw_dwarf_laws.specs.Entries.{numbered_attribute, numbered_entry, numbered_entries}
use Rattle.dw_dwarf_laws.specs.Lines.{numbered_sequence, numbered_program, numbered_line_program}
use Rattle.dw_dwarf_laws.specs.Lists.{numbered_locations}
use Rattle.dw_dwarf_laws.specs.Units.{numbered_unit}
use Rattle.dw_dwarf_laws.proofs.Drafts.{IsSameDraft, draft_itself, then_same, all_same}
use Rattle.dw_dwarf_laws.proofs.Lines.{program_sizes, program_same}
use Rattle.dw_dwarf_laws.proofs.Lists.{ranges_same, range_offsets, locations_same, location_offsets}
use Rattle.dw_dwarf_laws.proofs.Sizes.{tree_shapes_same, code_same, tree_places_same}
use Rattle.dw_dwarf_laws.proofs.Trees.{entry_same, preorder_same, settled_same, files_same}
use Rattle.dw_dwarf_laws.proofs.Values.{value_same}

some_map : {A B : Type 0} (f : A → B) (xs : List A) → is_some_of (map f xs) ≡ is_some_of xs
some_map f [] = refl
some_map f (x ∷ xs) = refl

module _ (symbols : List ℕ) where
  -- What a unit has of its own

  sequences_same : (p : ProgramValue) → is_some_of (program_sequences (numbered_program symbols p)) ≡ is_some_of (program_sequences p)
  sequences_same p = by p.sequences p.in_sequence
    where
      by : (ss : List SequenceValue) (b : Bool) →
          is_some_of (map (ended p.encoding.version) (map (numbered_sequence symbols) ss) ++ open_sequences b (open_sequence (numbered_program symbols p))) ≡ is_some_of (map (ended p.encoding.version) ss ++ open_sequences b (open_sequence p))
      by [] true = refl
      by [] false = refl
      by (s ∷ ss) b = refl

  in_use_same : (u : UnitValue) → lines_in_use (numbered_unit symbols u) ≡ lines_in_use u
  in_use_same u = by u.line_program.program
    where
      by : (o : Option ProgramValue) →
          (is_some (option_map (numbered_program symbols) o) && (is_some_of (sequences_of (option_map (numbered_program symbols) o)) || some_file (numbered_entries symbols u.entries))) ≡ (is_some o && (is_some_of (sequences_of o) || some_file u.entries))
      by None = refl
      by (Some p) = ap₂ (λ b c. b || c) (sequences_same p) (files_same symbols u.entries)

  parts_same : (u : UnitValue) → parts_with (lines_in_use (numbered_unit symbols u)) (numbered_unit symbols u) ≡ parts_with (lines_in_use u) u
  parts_same u =
      let with : Bool → Bool → Bool → OwnParts = λ line ranges locations. record { line_program = line; lists = if is_five u.encoding then Some (record { ranges = ranges; locations = locations }) else None } in
      ap (λ b. with b (is_some_of (numbered_unit symbols u).ranges) (is_some_of (numbered_unit symbols u).locations)) (in_use_same u)
      ∙ ap₂ (with (lines_in_use u)) (some_map _ u.ranges) (some_map _ u.locations)

  -- settling and giving symbols their values are done in either order
  pub settled_numbered : (u : UnitValue) → settled (numbered_unit symbols u) ≡ numbered_unit symbols (settled u)
  settled_numbered u =
      let with : List EntryValue → UnitValue = λ es. record (numbered_unit symbols u) { entries = es } in
      ap with (ap (λ parts. settled_entries parts (numbered_entries symbols u.entries)) (parts_same u) ∙ settled_same symbols (parts_with (lines_in_use u) u) u.entries)

  entry_places_same : (w : UnitValue) → entry_places (numbered_unit symbols w) ≡ entry_places w
  entry_places_same w = tree_places_same symbols w.encoding w.entries

  settled_places : (u : UnitValue) → entry_places (settled (numbered_unit symbols u)) ≡ entry_places (settled u)
  settled_places u = ap entry_places (settled_numbered u) ∙ entry_places_same (settled u)

-- Trees

module _ (l : Layout) (e : Encoding) (u : UnitTargets) where
  attributes_same : (xs : List Attribute) → IsSameDraft l (attributes_draft e u xs) (attributes_draft e u (map (numbered_attribute l.symbols) xs))
  attributes_same xs = all_same l (attribute_draft e u) (attribute_draft e u) (numbered_attribute l.symbols) xs (λ a. value_same l e u a.value)

  entry_draft_same : (code i : ℕ) (x : EntryValue) → IsSameDraft l (entry_draft e u code i x) (entry_draft e u code i (numbered_entry l.symbols x))
  entry_draft_same code i x =
      let sibling = sibling_draft e (u.past i) x in
      let own = attributes_draft e u x.attributes in
      let other = attributes_draft e u (map (numbered_attribute l.symbols) x.attributes) in
      then_same l (code_draft code) (code_draft code) (then_draft sibling own) (then_draft sibling other) (draft_itself l (code_draft code))
      (then_same l sibling sibling own other (draft_itself l sibling) (attributes_same x.attributes))

  module _ (es : List EntryValue) where
    abbrev other_es : List EntryValue
    other_es = numbered_entries l.symbols es

    mark_same : (shapes : List Shape) (m : Mark ℕ) → IsSameDraft l (coded_draft e es u shapes m) (coded_draft e other_es u shapes m)
    mark_same shapes (Open i) =
        let here = coded_draft e es u shapes (Open i) in
        let x = numbered_entry l.symbols (entry_at es i) in
        subst (λ code. IsSameDraft l here (entry_draft e u code i (entry_at other_es i))) (sym (code_same l.symbols e es shapes i))
        (subst (λ y. IsSameDraft l here (entry_draft e u (code_of_entry e es shapes i) i y)) (sym (entry_same l.symbols es i)) (entry_draft_same (code_of_entry e es shapes i) i (entry_at es i)))
    mark_same shapes Null = draft_itself l _

    marks_same : (shapes : List Shape) (ms : List (Mark ℕ)) → IsSameDraft l (marks_draft e es u shapes ms) (marks_draft e other_es u shapes ms)
    marks_same shapes [] = draft_itself l no_draft
    marks_same shapes (m ∷ ms) =
        then_same l (coded_draft e es u shapes m) (coded_draft e other_es u shapes m) (marks_draft e es u shapes ms) (marks_draft e other_es u shapes ms) (mark_same shapes m) (marks_same shapes ms)

    pub tree_same : IsSameDraft l (tree_draft e es u) (tree_draft e other_es u)
    tree_same =
        let here = tree_draft e es u in
        subst (λ ms. IsSameDraft l here (marks_draft e other_es u (tree_shapes e other_es) ms)) (sym (preorder_same l.symbols es))
        (subst (λ shapes. IsSameDraft l here (marks_draft e other_es u shapes (preorder es))) (sym (tree_shapes_same l.symbols e es)) (marks_same (tree_shapes e es) (preorder es)))

-- a unit, its header before its tree
pub unit_same : (l : Layout) (e : Encoding) (es : List EntryValue) (t : Tables) (k : Kept) → IsSameDraft l (draft_of e es t k) (draft_of e (numbered_entries l.symbols es) t k)
unit_same l e es t k =
    let u = targets_of t k.places in
    let body = tree_draft e es u in
    let other = tree_draft e (numbered_entries l.symbols es) u in
    let head : ℕ → Draft = λ n. whole (header_size e) (header_text e k.starts.abbrevs n) in
    let own = tree_same l e u es in
    then_same l (head body.size) (head other.size) body other (subst (λ n. IsSameDraft l (head body.size) (head n)) own.size (draft_itself l (head body.size))) own

-- Location lists

location_same : (l : Layout) (five : Bool) (w : UnitValue) → IsSameDraft l (location_part five w) (location_part five (numbered_unit l.symbols w))
location_same l five w = by (is_own_section five w.encoding)
  where
    lists : (place : ℕ → Option ℕ) → place ≡ entry_places w → IsSameDraft l (location_draft w) (table_draft true w.encoding place (locations_in (numbered_locations l.symbols w.locations)))
    lists place same = subst (λ f. IsSameDraft l (location_draft w) (table_draft true w.encoding f (locations_in (numbered_locations l.symbols w.locations)))) (sym same) (locations_same l w.encoding (entry_places w) w.locations)

    by : (b : Bool) → IsSameDraft l (if b then location_draft w else no_draft) (if b then location_draft (numbered_unit l.symbols w) else no_draft)
    by true = lists (entry_places (numbered_unit l.symbols w)) (entry_places_same l.symbols w)
    by false = draft_itself l no_draft

-- Where a unit's parts stand

module _ (symbols : List ℕ) where
  -- a layout for what hangs on symbols alone
  abbrev any_layout : Layout
  any_layout = record { starts = []; own_start = 0; symbols = symbols }

  ranges_at_same : (t : Elsewhere) (u : UnitValue) → range_places t (numbered_unit symbols u) ≡ range_places t u
  ranges_at_same t u = sym (range_offsets symbols u.encoding (ranges_at t u) u.ranges)

  locations_at_same : (t : Elsewhere) (u : UnitValue) → location_places t (numbered_unit symbols u) ≡ location_places t u
  locations_at_same t u =
      ap (λ f. offsets_from true u.encoding f (locations_at t u) (locations_in (numbered_locations symbols u.locations))) (settled_places symbols u)
      ∙ sym (location_offsets symbols u.encoding (entry_places (settled u)) (locations_at t u) u.locations)

  tables_same : (t : Elsewhere) (u : UnitValue) → unit_tables t (numbered_unit symbols u) ≡ unit_tables t u
  tables_same t u =
      let with : Option ℕ → Offsets → Offsets → Tables = λ line ranges locations. tables_in (with_locations (record { line_program = line; ranges = ranges }) locations) t.line_strings t.strings in
      ap (λ b. with (when b (Some t.ends.lines.size)) (range_places t (numbered_unit symbols u)) (location_places t (numbered_unit symbols u))) (in_use_same symbols u)
      ∙ ap₂ (with (line_place t u)) (ranges_at_same t u) (locations_at_same t u)

  line_size_same : (u : UnitValue) → line_size (numbered_unit symbols u) ≡ line_size u
  line_size_same u = ap₂ (λ b n. if b then n else 0) (in_use_same symbols u) (sym (program_sizes any_layout u.line_program))

  range_size_same : (five : Bool) (u : UnitValue) → range_size five (numbered_unit symbols u) ≡ range_size five u
  range_size_same five u = ap (λ n. if is_own_section five u.encoding then n else 0) (sym (ranges_same any_layout u.encoding u.ranges).size)

  location_size_same : (five : Bool) (u : UnitValue) → location_size five (numbered_unit symbols u) ≡ location_size five u
  location_size_same five u = ap (λ w. (location_part five w).size) (settled_numbered symbols u) ∙ sym (location_same any_layout five (settled u)).size

  past_same : (t : Elsewhere) (u : UnitValue) → past_parts t (numbered_unit symbols u) ≡ past_parts t u
  past_same t u =
      let with : ℕ → ℕ → ℕ → ℕ → ℕ → Elsewhere = λ a b c d e. record t {
        ends = record {
          lines = past_end t.ends.lines a;
          ranges = past_end t.ends.ranges b;
          range_lists = past_end t.ends.range_lists c;
          locations = past_end t.ends.locations d;
          location_lists = past_end t.ends.location_lists e;
        };
      } in
      let v = numbered_unit symbols u in
      ap (λ n. with n (range_size false v) (range_size true v) (location_size false v) (location_size true v)) (line_size_same u)
      ∙ ap₂ (λ m n. with (line_size u) m n (location_size false v) (location_size true v)) (range_size_same false u) (range_size_same true u)
      ∙ ap₂ (with (line_size u) (range_size false u) (range_size true u)) (location_size_same false u) (location_size_same true u)

  -- Units in the order of their numbers

  abbrev pub numbered_one : Numbered → Numbered
  numbered_one x = record x { unit = numbered_unit symbols x.unit }

  settled_at_same : (n : ℕ) (t : Elsewhere) (u : UnitValue) → settled_at n t (numbered_unit symbols u) ≡ numbered_one (settled_at n t u)
  settled_at_same n t u =
      let with : UnitValue → Tables → Numbered = λ w tables. record { id = n; unit = w; tables = tables } in ap₂ with (settled_numbered symbols u) (tables_same t u)

  pub numbered_from_same : (n : ℕ) (t : Elsewhere) (us : List UnitValue) → numbered_from n t (map (numbered_unit symbols) us) ≡ map numbered_one (numbered_from n t us)
  numbered_from_same n t [] = refl
  numbered_from_same n t (u ∷ us) =
      ap₂ (λ x xs. x ∷ xs) (settled_at_same n t u) (ap (λ s. numbered_from (suc n) s (map (numbered_unit symbols) us)) (past_same t u) ∙ numbered_from_same (suc n) (past_parts t u) us)

  kept_same : (us : List Numbered) (ks : List Kept) (n : ℕ) → kept_at (map numbered_one us) ks n ≡ kept_at us ks n
  kept_same [] ks n = refl
  kept_same (u ∷ us) [] n = refl
  kept_same (u ∷ us) (k ∷ ks) n = ap (λ o. if u.id == n then Some (kept_offsets k) else o) (kept_same us ks n)

  pub info_same : (us : List Numbered) (ks : List Kept) → info_of (map numbered_one us) ks ≡ info_of us ks
  info_same us ks = ap info_from (fun_ext (kept_same us ks))

-- Their texts

pub units_same : (l : Layout) (us : List Numbered) (ks : List Kept) → IsSameDraft l (units_draft us ks) (units_draft (map (numbered_one l.symbols) us) ks)
units_same l [] ks = draft_itself l no_draft
units_same l (u ∷ us) [] = draft_itself l no_draft
units_same l (u ∷ us) (k ∷ ks) =
    then_same l (draft_at u k) (draft_at (numbered_one l.symbols u) k) (units_draft us ks) (units_draft (map (numbered_one l.symbols) us) ks) (unit_same l u.unit.encoding u.unit.entries u.tables k) (units_same l us ks)

pub locations_draft_same : (l : Layout) (us : List Numbered) (five : Bool) → IsSameDraft l (locations_draft us five) (locations_draft (map (numbered_one l.symbols) us) five)
locations_draft_same l [] five = draft_itself l no_draft
locations_draft_same l (u ∷ us) five =
    then_same l (location_part five u.unit) (location_part five (numbered_unit l.symbols u.unit)) (locations_draft us five) (locations_draft (map (numbered_one l.symbols) us) five) (location_same l five u.unit) (locations_draft_same l us five)

module _ (l : Layout) where
  line_text_same : (line_strings strings : List (List ℕ)) (u : UnitValue) (big : Bool) → line_text line_strings strings u big l ≡ line_text line_strings strings (numbered_unit l.symbols u) big l
  line_text_same line_strings strings u big = ap₂ (λ (b : Bool) (t : Text). if b then t else Some []) (sym (in_use_same l.symbols u)) (program_same l strings line_strings u.line_program big)

  pub line_texts_same : (line_strings strings : List (List ℕ)) (us : List UnitValue) (big : Bool) → texts (line_text line_strings strings) us big l ≡ texts (line_text line_strings strings) (map (numbered_unit l.symbols) us) big l
  line_texts_same line_strings strings [] big = refl
  line_texts_same line_strings strings (u ∷ us) big = ap₂ followed (line_text_same line_strings strings u big) (line_texts_same line_strings strings us big)

  pub program_texts_same : (strings line_strings : List (List ℕ)) (vs : List LineProgramValue) (big : Bool) →
      texts (line_program_text strings line_strings) vs big l ≡ texts (line_program_text strings line_strings) (map (numbered_line_program l.symbols) vs) big l
  program_texts_same strings line_strings [] big = refl
  program_texts_same strings line_strings (v ∷ vs) big = ap₂ followed (program_same l strings line_strings v big) (program_texts_same strings line_strings vs big)

  range_text_same : (five : Bool) (u : UnitValue) (big : Bool) → range_text five u big l ≡ range_text five (numbered_unit l.symbols u) big l
  range_text_same five u big = ap (λ (t : Text). if is_own_section five u.encoding then t else Some []) ((ranges_same l u.encoding u.ranges).text left_open big)

  pub range_texts_same : (five : Bool) (us : List UnitValue) (big : Bool) → texts (range_text five) us big l ≡ texts (range_text five) (map (numbered_unit l.symbols) us) big l
  range_texts_same five [] big = refl
  range_texts_same five (u ∷ us) big = ap₂ followed (range_text_same five u big) (range_texts_same five us big)
