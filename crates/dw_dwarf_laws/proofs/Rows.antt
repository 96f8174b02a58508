-- Units of a row have their texts where their sections start.
use Rattle.std.specs.Prelude.{◌≡◌, ◌⊎◌, ℕ, suc, ◌+◌, ◌&&◌, Bool, true, false, List, [], ◌∷◌, All, Some, IsTrue, IsFalse, if◌then◌else◌}
use Rattle.std.specs.List.{list_all}
use Rattle.std.proofs.Common.{sym, ◌∙◌, ap, subst, arith, inl, inr}
use Rattle.std.proofs.lemmas.Bool.{and_parts, or_parts}
use Rattle.std.proofs.lemmas.List.Elements.{All-head, All-tail}
use Rattle.dw_base.specs.Numbers.{fits, word_of, length_fits}
use Rattle.dw_base.specs.declared.common.Encoding.{Encoding}
use Rattle.dw_base.specs.declared.error.Error.{Error}
use Rattle.dw_base.specs.declared.section_id.SectionId.{SectionId}
use Rattle.dw_base.specs.declared.section_id.SectionId.TheVariants.{DebugAbbrev}
use Rattle.dw_writer.specs.Drafts.{Info}
use Rattle.dw_writer.specs.Layout.{Layout, start_of}
use Rattle.dw_entries.specs.Entries.{EntryValue}
use Rattle.dw_entries.specs.Targets.{Tables}
use Rattle.dw_line.specs.LinePrograms.{LineProgramValue, encoding_of, line_program_text, line_program_fails}
use Rattle.dw_line.specs.Parts.{texts, NoCause}
use Rattle.dw_tree.specs.Built.{Numbered, Starts, numbered_from, table_size}
use Rattle.dw_tree.specs.Elsewhere.{Ends, Elsewhere, unit_tables, past_parts, past_elsewhere, line_text, line_fails, ranges_fail}
use Rattle.dw_tree.specs.Pending.{Kept, draft_of, draft_at, past_kept, units_draft}
use Rattle.dw_tree.specs.Places.{Placement, targets_of}
use Rattle.dw_tree.specs.UnitText.{unit_draft, tree_draft, unit_length}
use Rattle.dw_tree.specs.UnitValue.{UnitValue}
use Rattle.dw_tree.specs.Valid.{IsWritableTree, IsWritableAt, AreWritable}
use Rattle.dw_tree.specs.Whole.{lines_in_use, settled, IsTreePlacement}
use Rattle.dw_tree.specs.Written.{past_table}
use Rattle.dw_tree.proofs.OnePlacement.{one_placement, placement-same}
use Rattle.dw_tree.proofs.ReadMarks.{tree_draft-size}
use Rattle.dw_dwarf.specs.Valid.{IsUnwritten, programs_fail}
use Rattle.dw_dwarf_laws.specs.Joined.{tree_strings_fit, line_strings_fit, unit_strings_fit}
use Rattle.dw_dwarf_laws.specs.LineStrings.{line_program_fits}
use Rattle.dw_dwarf_laws.specs.Starts.{StartsAt}
use Rattle.dw_dwarf_laws.specs.Values.{has_no_macros}
use Rattle.dw_dwarf_laws.proofs.Bounds.{words_fit}
use Rattle.dw_dwarf_laws.proofs.LinesThere.{program_there}
use Rattle.dw_dwarf_laws.proofs.MovedUnits.{IsMovedElsewhere, past_moved, tables_moved, IsPlacedRow}
use Rattle.dw_dwarf_laws.proofs.There.{IsThere, itself_there, followed_there}
use Rattle.dw_dwarf_laws.proofs.UnitsThere.{IsFilled, then_filled, nothing_filled, unit_joined}

-- a unit that wasn't written before can be written
can_be : (t : Elsewhere) (table : ℕ) (u : UnitValue) → u.is_written ≡ false → (u.is_written ≡ true) ⊎ IsWritableAt true t table u → IsWritableAt true t table u
can_be t table u new (inl old) = absurd (let k : true ≡ false = sym old ∙ new in cc)
can_be t table u new (inr can) = can

-- and the units behind it find its parts before theirs
behind_new : (t : Elsewhere) (table : ℕ) (u : UnitValue) (us : List UnitValue) → u.is_written ≡ false → AreWritable true (past_elsewhere t u) (past_table table u) us → AreWritable true (past_parts t u) (table + table_size (settled u)) us
behind_new t table u us new can =
    subst (λ b. AreWritable true (if b then t else past_parts t u) (if b then table else table + table_size (settled u)) us) new can

module _ (starts : SectionId → ℕ) (strings line_strings : List (List ℕ)) (big : Bool) (l : Layout) (at : StartsAt starts l) where
  -- what units find of these strings, where their parts are to begin there
  abbrev found : Ends → Elsewhere
  found ends = record { line_strings = line_strings; strings = strings; ends = ends }

  -- The units of .debug_info

  module _ (info : Info) where
    one_there : (ends to : Ends) → IsMovedElsewhere starts (found ends) (found to) → (table : ℕ) (u : UnitValue) (k : Kept) → table ≡ k.starts.abbrevs + starts DebugAbbrev → IsWritableAt true (found to) table u →
        IsTreePlacement u.encoding (settled u).entries k.places → IsTrue (tree_strings_fit starts strings line_strings u) → IsTrue (has_no_macros (settled u).entries) →
        IsFilled info big l (draft_of u.encoding (settled u).entries (unit_tables (found ends) u) k)
    one_there ends to move table u k begin can placed named none =
        let e : Encoding = u.encoding in
        let es : List EntryValue = (settled u).entries in
        let own : Tables = unit_tables (found ends) u in
        let joined : Tables = unit_tables (found to) u in
        let w : IsWritableTree true e es joined = can.0.1 in
        let p : Placement = w.places in
        let fit = words_fit e es p w.placed w.room w.fits in
        let long : IsTrue (length_fits e.format (unit_length e (tree_draft e es (targets_of own p)).size)) =
        subst (λ n. IsTrue (length_fits e.format (unit_length e n))) (sym (tree_draft-size e es own p)) w.fits in
        let same_start : table ≡ k.starts.abbrevs + start_of l DebugAbbrev = begin ∙ ap (λ n. k.starts.abbrevs + n) (sym at.abbrevs) in
        let place : IsTrue (fits (word_of e.format) (k.starts.abbrevs + start_of l DebugAbbrev)) = subst (λ n. IsTrue (fits (word_of e.format) n)) same_start can.1 in
        let same : p ≡ k.places = placement-same p k.places (one_placement e es p k.places w.early w.placed placed) in
        subst (λ q. IsFilled info big l (unit_draft e k.starts.abbrevs (tree_draft e es (targets_of own q)))) same
        (unit_joined info big l starts strings line_strings at e own joined (tables_moved starts (found ends) (found to) move u) p fit es k.starts.abbrevs w.encodable place long w.sound named none)

    pub units_there : (n : ℕ) (ends to : Ends) → IsMovedElsewhere starts (found ends) (found to) → (from : Starts) (table : ℕ) (us : List UnitValue) (ks : List Kept) → table ≡ from.abbrevs + starts DebugAbbrev → All IsUnwritten us →
        AreWritable true (found to) table us → IsPlacedRow from (numbered_from n (found ends) us) ks → IsTrue (list_all (unit_strings_fit starts strings line_strings) us) → IsTrue (list_all (λ u. has_no_macros (settled u).entries) us) →
        IsFilled info big l (units_draft (numbered_from n (found ends) us) ks)
    units_there n ends to move from table [] ks begin new can row named none = nothing_filled info big l
    units_there n ends to move from table (u ∷ us) [] begin new can row named none = nothing_filled info big l
    units_there n ends to move from table (u ∷ us) (k ∷ ks) begin new can row named none =
        let own = All-head IsUnwritten u us new in
        let names = and_parts (unit_strings_fit starts strings line_strings u) (list_all (unit_strings_fit starts strings line_strings) us) named in
        let nones = and_parts (has_no_macros (settled u).entries) (list_all (λ v. has_no_macros (settled v).entries) us) none in
        let here : Numbered = record { id = n; unit = settled u; tables = unit_tables (found ends) u } in
        let abbrevs : k.starts.abbrevs ≡ from.abbrevs = ap (λ (s : Starts). s.abbrevs) row.0 in
        let past = past_parts (found ends) u in
        let past_to = past_parts (found to) u in
        then_filled info big l (draft_at here k) (units_draft (numbered_from (suc n) past us) ks)
        (one_there ends to move table u k (omega (arith, begin, abbrevs)) (can_be (found to) table u own can.0) row.1 (and_parts (tree_strings_fit starts strings line_strings u) (line_strings_fit starts strings line_strings u) names.0).0 nones.0)
        (units_there (suc n) past.ends past_to.ends (past_moved starts (found ends) (found to) move u) (past_kept from here k) (table + table_size (settled u)) us ks (omega (arith, begin)) (All-tail IsUnwritten u us new)
        (behind_new (found to) table u us own can.1) row.2 names.1 nones.1)

  -- Line programs

  line_there : (to : Ends) → to.lines.is_plain ≡ true → (table : ℕ) (u : UnitValue) → IsWritableAt true (found to) table u → IsTrue (line_strings_fit starts strings line_strings u) → IsThere (line_text line_strings strings u big l)
  line_there to plain table u can named = by (lines_in_use u) sound named
    where
      sound : (err : Error) → IsFalse (lines_in_use u && line_program_fails strings line_strings true u.encoding u.line_program err)
      sound err = subst (λ b. IsFalse (lines_in_use u && line_program_fails strings line_strings b u.encoding u.line_program err)) plain (or_parts (line_fails (found to) u err) (ranges_fail (found to) u err) (can.0.0.0 err)).0

      by : (b : Bool) → ((err : Error) → IsFalse (b && line_program_fails strings line_strings true u.encoding u.line_program err)) → IsTrue (if b then line_program_fits starts strings line_strings u.line_program else true) →
          IsThere (if b then line_program_text strings line_strings u.line_program big l else Some [])
      by true own fit = program_there starts strings line_strings big l at u.encoding u.line_program own fit
      by false own fit = itself_there []

  pub lines_there : (to : Ends) → to.lines.is_plain ≡ true → (table : ℕ) (us : List UnitValue) → All IsUnwritten us → AreWritable true (found to) table us → IsTrue (list_all (unit_strings_fit starts strings line_strings) us) →
      IsThere (texts (line_text line_strings strings) us big l)
  lines_there to plain table [] new can named = itself_there []
  lines_there to plain table (u ∷ us) new can named =
      let own = All-head IsUnwritten u us new in
      let names = and_parts (unit_strings_fit starts strings line_strings u) (list_all (unit_strings_fit starts strings line_strings) us) named in
      let past = past_parts (found to) u in
      followed_there (line_text line_strings strings u big l) (texts (line_text line_strings strings) us big l)
      (line_there to plain table u (can_be (found to) table u own can.0) (and_parts (tree_strings_fit starts strings line_strings u) (line_strings_fit starts strings line_strings u) names.0).1)
      (lines_there past.ends plain (table + table_size (settled u)) us (All-tail IsUnwritten u us new) (behind_new (found to) table u us own can.1) names.1)

  -- those of no unit
  pub programs_there : (vs : List LineProgramValue) → NoCause (programs_fail line_strings strings true vs) → IsTrue (list_all (line_program_fits starts strings line_strings) vs) → IsThere (texts (line_program_text strings line_strings) vs big l)
  programs_there [] sound named = itself_there []
  programs_there (v ∷ vs) sound named =
      let parts = λ (err : Error). or_parts (line_program_fails strings line_strings true (encoding_of v.program) v err) (programs_fail line_strings strings true vs err) (sound err) in
      let names = and_parts (line_program_fits starts strings line_strings v) (list_all (line_program_fits starts strings line_strings) vs) named in
      followed_there (line_program_text strings line_strings v big l) (texts (line_program_text strings line_strings) vs big l)
      (program_there starts strings line_strings big l at (encoding_of v.program) v (λ err. (parts err).0) names.0) (programs_there vs (λ err. (parts err).1) names.1)
