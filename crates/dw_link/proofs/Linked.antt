-- Sets that writing Dwarfs left are joined to the sections of all of them.
use Rattle.std.specs.Prelude.{◌≡◌, ℕ, ◌+◌, Bool, true, false, List, [], ◌∷◌, ◌++◌, length, map, Some, refl}
use Rattle.std.specs.List.{flat_map}
use Rattle.std.proofs.Common.{sym, ◌∙◌, ap, subst, arith, length-append, append_assoc}
use Rattle.std.proofs.lemmas.Option.{same_Some}
use Rattle.dw_base.specs.declared.section_id.SectionId.{SectionId}
use Rattle.dw_base.specs.declared.section_id.SectionId.TheVariants.{DebugAbbrev, DebugStr, DebugLineStr, DebugLine, DebugRanges, DebugRngLists, DebugLoc, DebugLocLists, DebugInfo}
use Rattle.dw_writer.specs.Texts.{followed}
use Rattle.dw_writer.specs.Layout.{Layout}
use Rattle.dw_writer.specs.Meaning.{Meaning, Model}
use Rattle.dw_writer.specs.Resolved.{resolved}
use Rattle.dw_writer.specs.declared.sections.Sections.{Sections}
use Rattle.dw_strings.specs.Strings.{string_bytes}
use Rattle.dw_tree.specs.Built.{Starts, Built}
use Rattle.dw_writer.specs.Drafts.{filled_text}
use Rattle.dw_tree.specs.Pending.{Kept, info_of, tables_of, locations_draft}
use Rattle.dw_unit.proofs.Files.{WrittenFile, AreWritten, joined, joined_tables, file_of, past_file, files_built}
use Rattle.dw_unit.proofs.ReadUnits.{parted}
use Rattle.dw_dwarf.specs.DwarfValue.{DwarfValue}
use Rattle.dw_dwarf.specs.Left.{units_of, IsLeft}
use Rattle.dw_dwarf.specs.Written.{dwarf_lines, dwarf_ranges}
use Rattle.dw_link.specs.Linked.{AreLeft, files_from, texts_from, lines_from, ranges_from, range_lists_from, locations_from, LinksDwarfs}
use Rattle.dw_link.specs.Lists.{AreRows}
use Rattle.dw_link.specs.Outcome.{JoinsParts}
use Rattle.dw_link.specs.Sets.{Parts, parts_of, sets_of, concatenated, layout_in, linked_from, linked_parts}
use Rattle.dw_link.proofs.ListsFound.{ranges_of_sets, locations_of_sets}
use Rattle.dw_link.proofs.PartLengths.{part_length, concatenated-more, behind}

-- Units

-- files that were written one behind another, of these Dwarfs
record AreFiles (big : Bool) (sets : List Parts) (symbols : List ℕ) (n : ℕ) (at : Starts) (ds : List DwarfValue) (info abbrevs : List ℕ) : Type 0 where
  files : List WrittenFile
  texts : List (List ℕ)
  written : AreWritten big at files texts
  info_is : joined texts ≡ info
  abbrevs_is : joined_tables files ≡ abbrevs
  files_are : map file_of files ≡ files_from sets symbols n ds

abbrev starts_at : List Parts → Starts
starts_at before = record { info = length (concatenated DebugInfo before); abbrevs = length (concatenated DebugAbbrev before) }

starts_are : (a b : Starts) → a.info ≡ b.info → a.abbrevs ≡ b.abbrevs → a ≡ b
starts_are a b p q =
    ap (λ n. let s : Starts = record { info = n; abbrevs = a.abbrevs } in s) p ∙ ap (λ n. let s : Starts = record { info = b.info; abbrevs = n } in s) q

module _ {W : Type 0} (from : W → Meaning) (big : Bool) (all : List Parts) (symbols : List ℕ) where
  files_left : (before : List Parts) (n : ℕ) (sets : List (Sections W)) (ds : List DwarfValue) (info abbrevs : List ℕ) → all ≡ before ++ sets_of from sets → n ≡ length before → AreLeft from big sets ds →
      linked_from all symbols DebugInfo n (sets_of from sets) ≡ Some info → linked_from all symbols DebugAbbrev n (sets_of from sets) ≡ Some abbrevs → AreFiles big all symbols n (starts_at before) ds info abbrevs
  files_left before n [] [] info abbrevs is at left told tables =
      record { files = []; texts = []; written = tt; info_is = same_Some [] info told; abbrevs_is = same_Some [] abbrevs tables; files_are = refl }
  files_left before n [] (d ∷ ds) info abbrevs is at left told tables = absurd left
  files_left before n (s ∷ sets) [] info abbrevs is at left told tables = absurd left
  files_left before n (s ∷ sets) (d ∷ ds) info abbrevs is at left told tables =
      let here = left.0 in
      let part = parts_of from s in
      let rest = sets_of from sets in
      let l = layout_in all symbols n DebugInfo in
      let a = parted (resolved l (from s.debug_info.0)) (linked_from all symbols DebugInfo (n + 1) rest) info told in
      let b = parted (resolved (layout_in all symbols n DebugAbbrev) (from s.debug_abbrev.0)) (linked_from all symbols DebugAbbrev (n + 1) rest) abbrevs tables in
      let own_tables : tables_of (units_of d) ≡ b.first = here.abbrevs (layout_in all symbols n DebugAbbrev) b.first b.first_is in
      let next : all ≡ (before ++ part ∷ []) ++ rest = is ∙ sym (append_assoc before (part ∷ []) rest) in
      let at_next : n + 1 ≡ length (before ++ part ∷ []) = omega (arith, at, length-append before (part ∷ [])) in
      let more = files_left (before ++ part ∷ []) (n + 1) sets ds a.rest b.rest next at_next left.1 a.rest_is b.rest_is in
      let f : WrittenFile = record { units = units_of d; kept = here.kept; layout = l } in
      let long_info = part_length l (from s.debug_info.0) a.first here.info_tidy a.first_is in
      let long_tables = part_length (layout_in all symbols n DebugAbbrev) (from s.debug_abbrev.0) b.first here.abbrevs_tidy b.first_is in
      let past : starts_at (before ++ part ∷ []) ≡ past_file (starts_at before) f a.first = starts_are (starts_at (before ++ part ∷ [])) (past_file (starts_at before) f a.first)
      (omega (arith, concatenated-more DebugInfo before part, long_info))
      (omega (arith, concatenated-more DebugAbbrev before part, long_tables, ap length own_tables))
      in
      record {
        files = f ∷ more.files;
        texts = a.first ∷ more.texts;
        written = (
          record { in_row = here.in_row; text = here.info l a.first a.first_is },
          behind all before (part ∷ rest) n DebugInfo is at,
          behind all before (part ∷ rest) n DebugAbbrev is at,
          subst (λ x. AreWritten big x more.files more.texts) past more.written,
        );
        info_is = ap (λ xs. a.first ++ xs) more.info_is ∙ a.all;
        abbrevs_is = ap (λ xs. xs ++ joined_tables more.files) own_tables ∙ ap (λ xs. b.first ++ xs) more.abbrevs_is ∙ b.all;
        files_are = ap (λ fs. file_of f ∷ fs) more.files_are;
      }

  -- Other sections

  -- what each set has in a section of its own text
  module _ (id : SectionId) (w : Sections W → W) (text : DwarfValue → Model)
      (begins : (n : ℕ) → linked_from all symbols id n (sets_of from []) ≡ Some [])
      (goes_on : (n : ℕ) (s : Sections W) (ss : List (Sections W)) → linked_from all symbols id n (sets_of from (s ∷ ss)) ≡ followed (resolved (layout_in all symbols n id) (from (w s))) (linked_from all symbols id (n + 1) (sets_of from ss)))
      (leaves : (s : Sections W) (d : DwarfValue) → IsLeft from big s d → (l : Layout) (xs : List ℕ) → resolved l (from (w s)) ≡ Some xs → text d big l ≡ Some xs) where
    text_left : (n : ℕ) (sets : List (Sections W)) (ds : List DwarfValue) (bytes : List ℕ) → AreLeft from big sets ds → linked_from all symbols id n (sets_of from sets) ≡ Some bytes → texts_from all symbols id text big n ds ≡ Some bytes
    text_left n [] [] bytes left told = sym (begins n) ∙ told
    text_left n [] (d ∷ ds) bytes left told = absurd left
    text_left n (s ∷ sets) [] bytes left told = absurd left
    text_left n (s ∷ sets) (d ∷ ds) bytes left told =
        let l = layout_in all symbols n id in
        let here = sym (goes_on n s sets) ∙ told in
        let p = parted (resolved l (from (w s))) (linked_from all symbols id (n + 1) (sets_of from sets)) bytes here in
        let more = text_left (n + 1) sets ds p.rest left.1 p.rest_is in
        ap (λ t. followed t (texts_from all symbols id text big (n + 1) ds)) (leaves s d left.0 l p.first p.first_is ∙ sym p.first_is) ∙ ap (followed (resolved l (from (w s)))) (more ∙ sym p.rest_is) ∙ here

  lines_left : (n : ℕ) (sets : List (Sections W)) (ds : List DwarfValue) (bytes : List ℕ) → AreLeft from big sets ds → linked_from all symbols DebugLine n (sets_of from sets) ≡ Some bytes → lines_from all symbols big n ds ≡ Some bytes
  lines_left = text_left DebugLine (λ s. s.debug_line.0) dwarf_lines (λ n. refl) (λ n s ss. refl) (λ s d left. left.lines)

  ranges_left : (n : ℕ) (sets : List (Sections W)) (ds : List DwarfValue) (bytes : List ℕ) → AreLeft from big sets ds → linked_from all symbols DebugRanges n (sets_of from sets) ≡ Some bytes → ranges_from all symbols big n ds ≡ Some bytes
  ranges_left = text_left DebugRanges (λ s. s.debug_ranges.0) (dwarf_ranges false) (λ n. refl) (λ n s ss. refl) (λ s d left. left.ranges)

  range_lists_left : (n : ℕ) (sets : List (Sections W)) (ds : List DwarfValue) (bytes : List ℕ) → AreLeft from big sets ds → linked_from all symbols DebugRngLists n (sets_of from sets) ≡ Some bytes → range_lists_from all symbols big n ds ≡ Some bytes
  range_lists_left = text_left DebugRngLists (λ s. s.debug_rnglists.0) (dwarf_ranges true) (λ n. refl) (λ n s ss. refl) (λ s d left. left.range_lists)

  -- the places that units keep, set by set
  kept_left : (sets : List (Sections W)) (ds : List DwarfValue) → AreLeft from big sets ds → List (List Kept)
  kept_left [] [] left = []
  kept_left [] (d ∷ ds) left = []
  kept_left (s ∷ sets) [] left = []
  kept_left (s ∷ sets) (d ∷ ds) left = left.0.kept ∷ kept_left sets ds left.1

  rows_left : (sets : List (Sections W)) (ds : List DwarfValue) → (left : AreLeft from big sets ds) → AreRows ds (kept_left sets ds left)
  unfolding kept_left
  rows_left [] [] left = tt
  rows_left [] (d ∷ ds) left = absurd left
  rows_left (s ∷ sets) [] left = absurd left
  rows_left (s ∷ sets) (d ∷ ds) left = (left.0.in_row, rows_left sets ds left.1)

  -- what each set has in a section of location lists
  module _ (id : SectionId) (five : Bool) (w : Sections W → W)
      (begins : (n : ℕ) → linked_from all symbols id n (sets_of from []) ≡ Some [])
      (goes_on : (n : ℕ) (s : Sections W) (ss : List (Sections W)) → linked_from all symbols id n (sets_of from (s ∷ ss)) ≡ followed (resolved (layout_in all symbols n id) (from (w s))) (linked_from all symbols id (n + 1) (sets_of from ss)))
      (leaves : (s : Sections W) (d : DwarfValue) → (h : IsLeft from big s d) → (l : Layout) (xs : List ℕ) → resolved l (from (w s)) ≡ Some xs → filled_text (info_of (units_of d) h.kept) (locations_draft (units_of d) five) big l ≡ Some xs) where
    lists_left : (n : ℕ) (sets : List (Sections W)) (ds : List DwarfValue) (bytes : List ℕ) → (left : AreLeft from big sets ds) → linked_from all symbols id n (sets_of from sets) ≡ Some bytes → locations_from all symbols id five big n ds (kept_left sets ds left) ≡ Some bytes
    unfolding followed kept_left
    lists_left n [] [] bytes left told = sym (begins n) ∙ told
    lists_left n [] (d ∷ ds) bytes left told = absurd left
    lists_left n (s ∷ sets) [] bytes left told = absurd left
    lists_left n (s ∷ sets) (d ∷ ds) bytes left told =
        let l = layout_in all symbols n id in
        let here = sym (goes_on n s sets) ∙ told in
        let p = parted (resolved l (from (w s))) (linked_from all symbols id (n + 1) (sets_of from sets)) bytes here in
        let more = lists_left (n + 1) sets ds p.rest left.1 p.rest_is in
        ap (λ t. followed t (locations_from all symbols id five big (n + 1) ds (kept_left sets ds left.1))) (leaves s d left.0 l p.first p.first_is ∙ sym p.first_is) ∙ ap (followed (resolved l (from (w s)))) (more ∙ sym p.rest_is) ∙ here

  strings_left : (n : ℕ) (sets : List (Sections W)) (ds : List DwarfValue) (bytes : List ℕ) → AreLeft from big sets ds → linked_from all symbols DebugStr n (sets_of from sets) ≡ Some bytes → flat_map (λ d. string_bytes d.strings) ds ≡ bytes
  strings_left n [] [] bytes left told = same_Some [] bytes told
  strings_left n [] (d ∷ ds) bytes left told = absurd left
  strings_left n (s ∷ sets) [] bytes left told = absurd left
  strings_left n (s ∷ sets) (d ∷ ds) bytes left told =
      let l = layout_in all symbols n DebugStr in
      let p = parted (resolved l (from s.debug_str.0)) (linked_from all symbols DebugStr (n + 1) (sets_of from sets)) bytes told in
      ap (λ xs. xs ++ flat_map (λ d. string_bytes d.strings) ds) (left.0.strings l p.first p.first_is) ∙ ap (λ xs. p.first ++ xs) (strings_left (n + 1) sets ds p.rest left.1 p.rest_is) ∙ p.all

  line_strings_left : (n : ℕ) (sets : List (Sections W)) (ds : List DwarfValue) (bytes : List ℕ) → AreLeft from big sets ds → linked_from all symbols DebugLineStr n (sets_of from sets) ≡ Some bytes → flat_map (λ d. string_bytes d.line_strings) ds ≡ bytes
  line_strings_left n [] [] bytes left told = same_Some [] bytes told
  line_strings_left n [] (d ∷ ds) bytes left told = absurd left
  line_strings_left n (s ∷ sets) [] bytes left told = absurd left
  line_strings_left n (s ∷ sets) (d ∷ ds) bytes left told =
      let l = layout_in all symbols n DebugLineStr in
      let p = parted (resolved l (from s.debug_line_str.0)) (linked_from all symbols DebugLineStr (n + 1) (sets_of from sets)) bytes told in
      ap (λ xs. xs ++ flat_map (λ d. string_bytes d.line_strings) ds) (left.0.line_strings l p.first p.first_is) ∙ ap (λ xs. p.first ++ xs) (line_strings_left (n + 1) sets ds p.rest left.1 p.rest_is) ∙ p.all

-- All of them
pub dwarfs_linked : {W X : Type 0} (from : W → Meaning) (to : X → Meaning) (big : Bool) (sets : List (Sections W)) (symbols : List ℕ) (ds : List DwarfValue) (out : Sections X) →
    JoinsParts to (sets_of from sets) symbols out → AreLeft from big sets ds → LinksDwarfs from to big sets symbols ds out
unfolding linked_parts
dwarfs_linked from to big sets symbols ds out parts left =
    let all = sets_of from sets in
    record {
      built = λ info abbrevs told tables.
          let f = files_left from big all symbols [] 0 sets ds info abbrevs refl refl left (sym (parts DebugInfo out.debug_info.0 refl) ∙ told) (sym (parts DebugAbbrev out.debug_abbrev.0 refl) ∙ tables) in
          let built = files_built big f.files f.texts f.written in
          subst (λ fs. Built fs big info abbrevs) f.files_are (subst (λ xs. Built (map file_of f.files) big info xs) f.abbrevs_is (subst (λ xs. Built (map file_of f.files) big xs (joined_tables f.files)) f.info_is built));
      lines = λ bytes told. lines_left from big all symbols 0 sets ds bytes left (sym (parts DebugLine out.debug_line.0 refl) ∙ told);
      ranges = λ bytes told. ranges_left from big all symbols 0 sets ds bytes left (sym (parts DebugRanges out.debug_ranges.0 refl) ∙ told);
      range_lists = λ bytes told. range_lists_left from big all symbols 0 sets ds bytes left (sym (parts DebugRngLists out.debug_rnglists.0 refl) ∙ told);
      found_ranges = λ old new told lists.
          ranges_of_sets from big all symbols old new [] 0 sets ds [] old [] new refl refl left refl refl (sym (parts DebugRanges out.debug_ranges.0 refl) ∙ told) refl refl (sym (parts DebugRngLists out.debug_rnglists.0 refl) ∙ lists);
      locations = record {
        kept = kept_left from big all symbols sets ds left;
        rows = rows_left from big all symbols sets ds left;
        locations = λ bytes told. lists_left from big all symbols DebugLoc false (λ s. s.debug_loc.0) (λ n. refl) (λ n s ss. refl) (λ s d h. h.locations) 0 sets ds bytes left (sym (parts DebugLoc out.debug_loc.0 refl) ∙ told);
        location_lists = λ bytes told. lists_left from big all symbols DebugLocLists true (λ s. s.debug_loclists.0) (λ n. refl) (λ n s ss. refl) (λ s d h. h.location_lists) 0 sets ds bytes left (sym (parts DebugLocLists out.debug_loclists.0 refl) ∙ told);
      };
      found_locations = λ old new told lists.
          let f = locations_of_sets from big all symbols old new [] 0 sets ds [] old [] new refl refl left refl refl (sym (parts DebugLoc out.debug_loc.0 refl) ∙ told) refl refl (sym (parts DebugLocLists out.debug_loclists.0 refl) ∙ lists) in
          record { kept = f.kept; rows = f.rows; found = f.found };
      strings = λ bytes told. strings_left from big all symbols 0 sets ds bytes left (sym (parts DebugStr out.debug_str.0 refl) ∙ told);
      line_strings = λ bytes told. line_strings_left from big all symbols 0 sets ds bytes left (sym (parts DebugLineStr out.debug_line_str.0 refl) ∙ told);
    }
