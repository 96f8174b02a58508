-- What writing the units of a table comes to.
use Rattle.std.specs.Prelude.{◌≡◌, ◌⊎◌, ℕ, ◌+◌, ◌≤◌, ◌<◌, true, false, ◌||◌, List, [], ◌∷◌, ◌++◌, length, Some, refl, slice_set, slice_index_or, IsFalse}
use Rattle.std.proofs.Common.{sym, ◌∙◌, ap, subst, arith, append-nil, append_assoc, length-append, inl, inr}
use Rattle.dw_base.specs.declared.error.Error.{Error}
use Rattle.dw_base.specs.declared.section_id.SectionId.{SectionId}
use Rattle.dw_base.specs.declared.section_id.SectionId.TheVariants.{DebugAbbrev, DebugLine, DebugRanges, DebugRngLists, DebugLoc, DebugLocLists, DebugInfo}
use Rattle.dw_writer.specs.Causes.{HasRisen}
use Rattle.dw_writer.specs.Meaning.{Meaning}
use Rattle.dw_writer.specs.Sections.{SomeHasRisen, NoFixups, section_of, fault_sum}
use Rattle.dw_writer.proofs.FaultLaws.{HasRisen-from}
use Rattle.dw_writer.specs.Drafts.{Info}
use Rattle.dw_writer.specs.Meaning.{Adds}
use Rattle.std.proofs.lemmas.Bool.{or_parts}
use Rattle.dw_writer.specs.declared.sections.Sections.{Sections}
use Rattle.dw_entries.specs.Targets.{Tables}
use Rattle.dw_tree.specs.Elsewhere.{Elsewhere, elsewhere, ends_of, unit_tables, past_parts, AppendsLine, AppendsLines, AppendsRanges, AppendsAllRanges}
use Rattle.dw_tree.specs.Built.{Numbered, Starts, table_size, settled_at}
use Rattle.dw_tree.specs.Causes.{Because, Is, UnitRefused, UnitFails, UnitsFail, ReferencesFail, UnitsRefused, RefusesAny}
use Rattle.dw_unit.specs.Filled.{FillsAll, AreAllFillable, open_fail}
use Rattle.dw_tree.specs.Pending.{Kept, draft_of, past_kept, units_draft, tables_of, locations_draft, info_at, starts_of, KeepPlaces, PendsTree, PendsUnit, Pending}
use Rattle.dw_tree.specs.ReferenceFaults.{lists_refer_wrong, references_fail}
use Rattle.dw_tree.specs.UnitFaults.{holes_fail}
use Rattle.dw_tree.specs.UnitValue.{UnitValue}
use Rattle.dw_tree.specs.Valid.{IsWritableAt, AreWritable}
use Rattle.dw_tree.specs.Whole.{settled, marked_written, IsRefused}
use Rattle.dw_tree.specs.Written.{to_write, IsWrittenAt, AreWritten, AreStopped, PendsUnits, CompletesPending, WritesIfNew, KeepsOtherSections}
use Rattle.dw_tree.proofs.Faults.{because-map}
use Rattle.dw_unit.proofs.LineSteps.{lines_none, lines_new, lines_old}
use Rattle.dw_unit.proofs.RangeSteps.{ranges_none, ranges_new, ranges_old, elsewhere-new}
use Rattle.dw_unit.proofs.UnitTexts.{past_all, past_all-more, past-old, past-new}
use Rattle.dw_unit.proofs.FilledDrafts.{draft_fillable, draft_lead, draft_filled}
use Rattle.dw_unit.proofs.PendingSteps.{pending_none, pending_one, pending_then, row_length, units_added}
use Rattle.dw_unit.proofs.TableSteps.{IsAt, next_is, none_gone, one_gone, all_gone, passed_more, written_more, stopped_at, past_tables, past_more, past_old, past_new, writable_more, fails_at, to_write-old, to_write-new, keeps_more, offsets_new, offsets_marked}

-- what stays in two calls
pub front_others : {W : Type 0} (old now new : Sections W) → KeepsOtherSections old now → KeepsOtherSections now new → KeepsOtherSections old new
front_others {W} old now new h k =
    k ∙ ap (λ (s : Sections W). let t : Sections W = record s {
      debug_abbrev = new.debug_abbrev;
      debug_line = new.debug_line;
      debug_ranges = new.debug_ranges;
      debug_rnglists = new.debug_rnglists;
      debug_loc = new.debug_loc;
      debug_loclists = new.debug_loclists;
      debug_info = new.debug_info;
      debug_info_fixups = new.debug_info_fixups;
      debug_loc_fixups = new.debug_loc_fixups;
      debug_loclists_fixups = new.debug_loclists_fixups;
    } in t) h

-- a fault since some units were written is one since before them
rises_from : {W : Type 0} (meaning : W → Meaning) (old now new : Sections W) → KeepsOtherSections old now → (meaning old.debug_abbrev.0).faults ≤ (meaning now.debug_abbrev.0).faults →
    (meaning old.debug_line.0).faults ≤ (meaning now.debug_line.0).faults →
    (meaning old.debug_ranges.0).faults ≤ (meaning now.debug_ranges.0).faults → (meaning old.debug_rnglists.0).faults ≤ (meaning now.debug_rnglists.0).faults →
    (meaning old.debug_loc.0).faults ≤ (meaning now.debug_loc.0).faults → (meaning old.debug_loclists.0).faults ≤ (meaning now.debug_loclists.0).faults →
    (meaning old.debug_info.0).faults ≤ (meaning now.debug_info.0).faults → SomeHasRisen meaning now new → SomeHasRisen meaning old new
rises_from {W} meaning old now new others abbrevs lines ranges range_lists locations location_lists info h = by_id h.id h.before h.after h.was h.is h.risen
  where
    by_id : (id : SectionId) (before after : W) → section_of now id ≡ Some before → section_of new id ≡ Some after → HasRisen (meaning before) (meaning after) → SomeHasRisen meaning old new
    by_id DebugAbbrev b a was is r =
        let same : now.debug_abbrev.0 ≡ b = cc in
        record { id = DebugAbbrev; before = old.debug_abbrev.0; after = a; was = refl; is = is; risen = HasRisen-from (meaning old.debug_abbrev.0) (meaning now.debug_abbrev.0) (meaning a) abbrevs (subst (λ w. HasRisen (meaning w) (meaning a)) (sym same) r) }
    by_id DebugLine b a was is r =
        let same : now.debug_line.0 ≡ b = cc in
        record { id = DebugLine; before = old.debug_line.0; after = a; was = refl; is = is; risen = HasRisen-from (meaning old.debug_line.0) (meaning now.debug_line.0) (meaning a) lines (subst (λ w. HasRisen (meaning w) (meaning a)) (sym same) r) }
    by_id DebugRanges b a was is r =
        let same : now.debug_ranges.0 ≡ b = cc in
        record { id = DebugRanges; before = old.debug_ranges.0; after = a; was = refl; is = is; risen = HasRisen-from (meaning old.debug_ranges.0) (meaning now.debug_ranges.0) (meaning a) ranges (subst (λ w. HasRisen (meaning w) (meaning a)) (sym same) r) }
    by_id DebugRngLists b a was is r =
        let same : now.debug_rnglists.0 ≡ b = cc in
        record { id = DebugRngLists; before = old.debug_rnglists.0; after = a; was = refl; is = is; risen = HasRisen-from (meaning old.debug_rnglists.0) (meaning now.debug_rnglists.0) (meaning a) range_lists (subst (λ w. HasRisen (meaning w) (meaning a)) (sym same) r) }
    by_id DebugLoc b a was is r =
        let same : now.debug_loc.0 ≡ b = cc in
        record { id = DebugLoc; before = old.debug_loc.0; after = a; was = refl; is = is; risen = HasRisen-from (meaning old.debug_loc.0) (meaning now.debug_loc.0) (meaning a) locations (subst (λ w. HasRisen (meaning w) (meaning a)) (sym same) r) }
    by_id DebugLocLists b a was is r =
        let same : now.debug_loclists.0 ≡ b = cc in
        record { id = DebugLocLists; before = old.debug_loclists.0; after = a; was = refl; is = is; risen = HasRisen-from (meaning old.debug_loclists.0) (meaning now.debug_loclists.0) (meaning a) location_lists (subst (λ w. HasRisen (meaning w) (meaning a)) (sym same) r) }
    by_id DebugInfo b a was is r =
        let same : now.debug_info.0 ≡ b = cc in
        record { id = DebugInfo; before = old.debug_info.0; after = a; was = refl; is = is; risen = HasRisen-from (meaning old.debug_info.0) (meaning now.debug_info.0) (meaning a) info (subst (λ w. HasRisen (meaning w) (meaning a)) (sym same) r) }
    by_id id b a was is r = record { id = id; before = b; after = a; was = sym (ap (λ (s : Sections W). section_of s id) others) ∙ was; is = is; risen = r }

-- The first units of a table were gone through, and those that were new are pending.
pub record WritesFront {W : Type 0} (meaning : W → Meaning) (old now : Sections W) (t : Elsewhere) (us vs : List UnitValue) (i : ℕ) : Type 0 where
  pub before : List UnitValue
  pub after : List UnitValue
  pub rest : List UnitValue
  pub at : IsAt us vs i before after rest
  pub written : AreWritten (starts_of meaning old) (starts_of meaning now) t before after
  pub writable : AreWritable (meaning old.debug_info.0).is_plain t (meaning old.debug_abbrev.0).size before
  pub kept : List Kept
  pub pending : Pending meaning old now (to_write t before) kept
  pub keeps : (ws : List Numbered) (ks : List Kept) → length ws ≡ length ks → KeepPlaces us ws ks → KeepPlaces vs (ws ++ to_write t before) (ks ++ kept)
  pub place : (meaning now.debug_abbrev.0).size ≡ past_tables (meaning old.debug_abbrev.0).size before
  pub lines : AppendsLines meaning old now t.line_strings t.strings before
  pub ranges : AppendsAllRanges meaning old now before
  pub elsewhere_is : elsewhere meaning now t.line_strings t.strings ≡ past_all t before
  pub others : KeepsOtherSections old now
  pub faults : fault_sum meaning old ≤ fault_sum meaning now

-- behind a unit that was added
starts_past : {W : Type 0} (meaning : W → Meaning) (old new : Sections W) (t : Tables) (u : UnitValue) (k : Kept) → PendsTree meaning old new u.encoding u.entries t k →
    starts_of meaning new ≡ past_kept (starts_of meaning old) (record { id = 0; unit = u; tables = t }) k
starts_past meaning old new t u k p =
    ap (λ n. let s : Starts = record { info = n; abbrevs = (meaning new.debug_abbrev.0).size } in s) p.unit.text.size
    ∙ ap (λ n. let s : Starts = record { info = (meaning old.debug_info.0).size + (draft_of u.encoding u.entries t k).size; abbrevs = n } in s) p.table.size

-- nothing was gone through
pub front_none : {W : Type 0} (meaning : W → Meaning) (line_strings strings : List (List ℕ)) (s : Sections W) (us : List UnitValue) → WritesFront meaning s s (elsewhere meaning s line_strings strings) us us 0
front_none meaning line_strings strings s us = record {
  before = [];
  after = [];
  rest = us;
  at = none_gone us;
  written = refl;
  writable = tt;
  kept = [];
  pending = pending_none meaning s;
  keeps = λ ws ks same h. subst (λ xs. KeepPlaces us xs (ks ++ [])) (sym (append-nil ws)) (subst (KeepPlaces us ws) (sym (append-nil ks)) h);
  place = refl;
  lines = lines_none line_strings strings meaning s;
  ranges = ranges_none meaning s;
  elsewhere_is = refl;
  others = refl;
  faults = omega arith;
}

module _ {W : Type 0} (meaning : W → Meaning) (t : Elsewhere) where
  -- what the next unit finds
  abbrev here_in : Sections W → Elsewhere
  here_in s = elsewhere meaning s t.line_strings t.strings

  module _ (old now new : Sections W) (us vs : List UnitValue) (i : ℕ) (u v : UnitValue) (f : WritesFront meaning old now t us vs i) (is : u ≡ slice_index_or vs i u) (below : i < length vs)
      (others : KeepsOtherSections now new) (faults : fault_sum meaning now ≤ fault_sum meaning new) where
    rest_is : (more : List UnitValue) × (f.rest ≡ u ∷ more)
    rest_is =
        let next = next_is f.after f.rest i u f.at.count_after (omega (arith, below, ap length f.at.new_is)) in
        (next.0, next.1 ∙ ap (λ x. x ∷ next.0) (sym (is ∙ ap (λ ys. slice_index_or ys i u) f.at.new_is)))

    here : IsAt us vs i f.before f.after (u ∷ rest_is.0)
    here = subst (IsAt us vs i f.before f.after) rest_is.1 f.at

    others_then : KeepsOtherSections old new
    others_then = front_others old now new f.others others

    faults_then : fault_sum meaning old ≤ fault_sum meaning new
    faults_then = omega (arith, f.faults, faults)

    writable_then : (u.is_written ≡ true) ⊎ IsWritableAt (meaning now.debug_info.0).is_plain (here_in now) (meaning now.debug_abbrev.0).size u → AreWritable (meaning old.debug_info.0).is_plain t (meaning old.debug_abbrev.0).size (f.before ++ u ∷ [])
    writable_then h =
        let plain : (meaning now.debug_info.0).is_plain ≡ (meaning old.debug_info.0).is_plain = f.pending.units.text.same.kind in
        writable_more (meaning old.debug_info.0).is_plain t (meaning old.debug_abbrev.0).size f.before u f.writable
        (subst (λ n. (u.is_written ≡ true) ⊎ IsWritableAt (meaning old.debug_info.0).is_plain (past_all t f.before) n u) f.place
        (subst (λ s. (u.is_written ≡ true) ⊎ IsWritableAt (meaning old.debug_info.0).is_plain s (meaning now.debug_abbrev.0).size u) f.elsewhere_is
        (subst (λ b. (u.is_written ≡ true) ⊎ IsWritableAt b (here_in now) (meaning now.debug_abbrev.0).size u) plain h)))

    -- a unit that was written before is passed over
    front_old : (u.is_written ≡ true) → v ≡ u → new ≡ now → WritesFront meaning old new t us (slice_set vs i v) (i + 1)
    front_old old_mark same kept =
        let gone = one_gone us vs i f.before f.after u v rest_is.0 here in
        let none : to_write t (f.before ++ u ∷ []) ≡ to_write t f.before = to_write-old 0 t f.before u old_mark in
        let table : slice_set vs i v ≡ vs = gone.new_is ∙ append_assoc f.after (v ∷ []) rest_is.0 ∙ ap (λ x. f.after ++ x ∷ rest_is.0) same ∙ sym here.new_is in
        record {
          before = f.before ++ u ∷ [];
          after = f.after ++ v ∷ [];
          rest = rest_is.0;
          at = gone;
          written = subst (λ s. AreWritten (starts_of meaning old) (starts_of meaning s) t (f.before ++ u ∷ []) (f.after ++ v ∷ [])) (sym kept) (passed_more (starts_of meaning old) (starts_of meaning now) t f.before f.after u v f.written (old_mark, same));
          writable = writable_then (inl old_mark);
          kept = f.kept;
          pending = subst (λ s. Pending meaning old s (to_write t (f.before ++ u ∷ [])) f.kept) (sym kept) (subst (λ xs. Pending meaning old now xs f.kept) (sym none) f.pending);
          keeps = λ ws ks equal h.
              subst (λ x. KeepPlaces x (ws ++ to_write t (f.before ++ u ∷ [])) (ks ++ f.kept)) (sym table)
              (subst (λ xs. KeepPlaces vs (ws ++ xs) (ks ++ f.kept)) (sym none) (f.keeps ws ks equal h));
          lines = subst (λ s. AppendsLines meaning old s t.line_strings t.strings (f.before ++ u ∷ [])) (sym kept) (lines_old t.line_strings t.strings meaning old now f.before u old_mark f.lines);
          ranges = subst (λ s. AppendsAllRanges meaning old s (f.before ++ u ∷ [])) (sym kept) (ranges_old meaning old now f.before u old_mark f.ranges);
          elsewhere_is = ap here_in kept ∙ f.elsewhere_is ∙ sym (past_all-more t f.before u ∙ past-old (past_all t f.before) u old_mark);
          place = ap (λ (s : Sections W). (meaning s.debug_abbrev.0).size) kept ∙ f.place ∙ sym (past_more (meaning old.debug_abbrev.0).size f.before u ∙ past_old (past_tables (meaning old.debug_abbrev.0).size f.before) u old_mark);
          others = others_then;
          faults = faults_then;
        }

    -- a new one is pending behind the others
    front_new : u.is_written ≡ false → v ≡ marked_written v.offsets (settled u) → PendsUnit meaning now new (settled u) (unit_tables (past_all t f.before) u) v.offsets → AppendsLine meaning now new t.line_strings t.strings u →
        AppendsRanges meaning now new u → IsWritableAt (meaning now.debug_info.0).is_plain (here_in now) (meaning now.debug_abbrev.0).size u → WritesFront meaning old new t us (slice_set vs i v) (i + 1)
    front_new new_mark marked p line ranges can =
        let gone = one_gone us vs i f.before f.after u v rest_is.0 here in
        let found = past_all t f.before in
        let w : Numbered = settled_at i found u in
        let one : to_write t (f.before ++ u ∷ []) ≡ to_write t f.before ++ w ∷ [] = to_write-new 0 i t f.before u (omega (arith, f.at.count_before)) new_mark in
        let table : slice_set vs i v ≡ f.after ++ v ∷ rest_is.0 = gone.new_is ∙ append_assoc f.after (v ∷ []) rest_is.0 in
        let pending : Pending meaning old new (to_write t f.before ++ w ∷ []) (f.kept ++ p.kept ∷ []) = pending_then meaning old now new (to_write t f.before) (w ∷ []) f.kept (p.kept ∷ []) f.pending (pending_one meaning i (settled u) (unit_tables found u) now new p.kept p.tree p.lists) in
        let rows : length (to_write t f.before) ≡ length f.kept = row_length _ (to_write t f.before) f.kept f.pending.in_row in
        let here_written : IsWrittenAt (starts_of meaning now) found u v = record { kept = p.kept; stands = p.tree.stands; unwritten = new_mark; marked = marked; offsets_are = p.offsets_are } in
        record {
          before = f.before ++ u ∷ [];
          after = f.after ++ v ∷ [];
          rest = rest_is.0;
          at = gone;
          written = subst (λ s. AreWritten (starts_of meaning old) s t (f.before ++ u ∷ []) (f.after ++ v ∷ [])) (sym (starts_past meaning now new (unit_tables found u) (settled u) p.kept p.tree)) (written_more (starts_of meaning old) (starts_of meaning now) t f.before f.after u v f.written here_written);
          writable = writable_then (inr can);
          kept = f.kept ++ p.kept ∷ [];
          pending = subst (λ xs. Pending meaning old new xs (f.kept ++ p.kept ∷ [])) (sym one) pending;
          keeps = λ ws ks equal h.
              let kept = subst (λ x. KeepPlaces x (ws ++ to_write t f.before) (ks ++ f.kept)) here.new_is (f.keeps ws ks equal h) in
              let long : length (ws ++ to_write t f.before) ≡ length (ks ++ f.kept) = omega (arith, length-append ws (to_write t f.before), length-append ks f.kept, equal, rows) in
              let more = keeps_more f.after u v rest_is.0 i (settled u) (unit_tables found u) (ws ++ to_write t f.before) (ks ++ f.kept) p.kept (sym f.at.count_after) (offsets_new u new_mark) (offsets_marked (settled u) v (Some _) marked p.offsets_are) long kept in
              let units : (ws ++ to_write t f.before) ++ w ∷ [] ≡ ws ++ to_write t (f.before ++ u ∷ []) = append_assoc ws (to_write t f.before) (w ∷ []) ∙ ap (λ xs. ws ++ xs) (sym one) in
              let places : (ks ++ f.kept) ++ p.kept ∷ [] ≡ ks ++ (f.kept ++ p.kept ∷ []) = append_assoc ks f.kept (p.kept ∷ []) in
              subst (λ x. KeepPlaces x (ws ++ to_write t (f.before ++ u ∷ [])) (ks ++ (f.kept ++ p.kept ∷ []))) (sym table)
              (subst (KeepPlaces (f.after ++ v ∷ rest_is.0) (ws ++ to_write t (f.before ++ u ∷ []))) places (subst (λ xs. KeepPlaces (f.after ++ v ∷ rest_is.0) xs ((ks ++ f.kept) ++ p.kept ∷ [])) units more));
          lines = lines_new t.line_strings t.strings meaning old now new f.before u new_mark f.lines line;
          ranges = ranges_new meaning old now new f.before u new_mark f.ranges ranges;
          elsewhere_is = elsewhere-new meaning now new t.line_strings t.strings u line ranges p.lists ∙ ap (λ s. past_parts s u) f.elsewhere_is ∙ sym (past_all-more t f.before u ∙ past-new found u new_mark);
          place = p.tree.table.size ∙ ap (λ n. n + table_size (settled u)) f.place ∙ sym (past_more (meaning old.debug_abbrev.0).size f.before u ∙ past_new (past_tables (meaning old.debug_abbrev.0).size f.before) u new_mark);
          others = others_then;
          faults = faults_then;
        }

    pub front_more : WritesIfNew meaning now new u v (here_in now) → (u.is_written ≡ true) ⊎ IsWritableAt (meaning now.debug_info.0).is_plain (here_in now) (meaning now.debug_abbrev.0).size u → WritesFront meaning old new t us (slice_set vs i v) (i + 1)
    front_more (inl h) can = front_old h.0 h.1 h.2
    front_more (inr h) (inl k) = absurd (let x : true ≡ false = sym k ∙ h.0 in cc)
    front_more (inr h) (inr can) = front_new h.0 h.1 (subst (λ s. PendsUnit meaning now new (settled u) (unit_tables s u) v.offsets) f.elsewhere_is h.2) h.3 h.4 can

    -- a unit that is refused
    pub front_stopped : IsRefused u v → AreStopped (starts_of meaning old) t us (slice_set vs i v)
    front_stopped h =
        let gone = one_gone us vs i f.before f.after u v rest_is.0 here in
        subst (AreStopped (starts_of meaning old) t us) (sym (gone.new_is ∙ append_assoc f.after (v ∷ []) rest_is.0))
        (subst (λ xs. AreStopped (starts_of meaning old) t xs (f.after ++ v ∷ rest_is.0)) (sym here.old_is) (stopped_at (starts_of meaning old) (starts_of meaning now) t f.before f.after u v rest_is.0 f.written h))

    pub front_refused : u.is_written ≡ false → (err : Error) → UnitRefused meaning now new u (here_in now) err →
        Because (SomeHasRisen meaning old new) (UnitsFail (meaning old.debug_info.0).is_plain t (meaning old.debug_abbrev.0).size us) err
    front_refused new_mark err h =
        let plain = (meaning old.debug_info.0).is_plain in
        let table = (meaning old.debug_abbrev.0).size in
        because-map {p = UnitFails u (here_in now) (meaning now.debug_abbrev.0).size (meaning now.debug_info.0).is_plain} {q = UnitsFail plain t table us}
        (rises_from meaning old now new f.others f.pending.tables.same.faults f.lines.text_is.same.faults f.ranges.ranges.same.faults f.ranges.range_lists.same.faults
        f.pending.lists.drafts.locations.text.same.faults f.pending.lists.drafts.location_lists.text.same.faults f.pending.units.text.same.faults)
        (λ e k.
        let place = (meaning now.debug_abbrev.0).size in
        let kind = subst (λ b. UnitFails u (here_in now) place b e) f.pending.units.text.same.kind k in
        let there = subst (λ n. UnitFails u (past_all t f.before) n plain e) f.place (subst (λ s. UnitFails u s place plain e) f.elsewhere_is kind) in
        subst (λ xs. UnitsFail plain t table xs e) (sym here.old_is) (fails_at plain t table f.before u rest_is.0 e new_mark there))
        err h

-- where all were gone through
pub front_all : {W : Type 0} (meaning : W → Meaning) (t : Elsewhere) (old now : Sections W) (us vs : List UnitValue) (i : ℕ) → WritesFront meaning old now t us vs i → length vs ≤ i →
    PendsUnits meaning old now us vs t × AreWritten (starts_of meaning old) (starts_of meaning now) t us vs × AreWritable (meaning old.debug_info.0).is_plain t (meaning old.debug_abbrev.0).size us × AppendsLines meaning old now t.line_strings t.strings us
    × AppendsAllRanges meaning old now us
front_all meaning t old now us vs i f le =
    let all = all_gone us vs i f.before f.after f.rest f.at le in
    let pends : PendsUnits meaning old now f.before vs t = record { kept = f.kept; pending = f.pending; keeps = λ ws ks equal h. f.keeps ws ks equal (subst (λ xs. KeepPlaces xs ws ks) all.0 h) } in (
      subst (λ xs. PendsUnits meaning old now xs vs t) all.0 pends,
      subst (λ xs. AreWritten (starts_of meaning old) (starts_of meaning now) t xs vs) all.0 (subst (AreWritten (starts_of meaning old) (starts_of meaning now) t f.before) all.1 f.written),
      subst (AreWritable (meaning old.debug_info.0).is_plain t (meaning old.debug_abbrev.0).size) all.0 f.writable,
      subst (AppendsLines meaning old now t.line_strings t.strings) all.0 f.lines,
      subst (AppendsAllRanges meaning old now) all.0 f.ranges,
    )

-- Units behind those that are pending

module _ {W : Type 0} (meaning : W → Meaning) (before old now : Sections W) (t : Elsewhere) (us vs : List UnitValue) (ws : List Numbered) (ks : List Kept) (none : NoFixups before) (first : Pending meaning before old ws ks) (p : PendsUnits meaning old now us vs t) where
  abbrev all_units : List Numbered
  all_units = ws ++ to_write t us

  abbrev all_kept : List Kept
  all_kept = ks ++ p.kept

  pub all_pending : Pending meaning before now all_units all_kept
  all_pending = pending_then meaning before old now ws (to_write t us) ks p.kept first p.pending

  equal : length ws ≡ length ks
  equal = row_length _ ws ks first.in_row

  -- the references that are open fail as those of the units do
  open_is : (info : Info) (err : Error) → open_fail meaning now info err ≡ references_fail info (meaning before.debug_info.0).is_plain (ends_of meaning before) all_units all_kept err
  open_is info err =
      let q = all_pending in
      let units = draft_lead (meaning before.debug_info.0) (meaning now.debug_info.0) _ _ _ none.info q.units info err in
      let locations = draft_lead (meaning before.debug_loc.0) (meaning now.debug_loc.0) _ _ _ none.loc q.lists.drafts.locations info err in
      let location_lists = draft_lead (meaning before.debug_loclists.0) (meaning now.debug_loclists.0) _ _ _ none.loclists q.lists.drafts.location_lists info err in
      ap (λ b. b || (holes_fail info (meaning now.debug_loc.0).is_plain now.debug_loc_fixups err || holes_fail info (meaning now.debug_loclists.0).is_plain now.debug_loclists_fixups err)) units
      ∙ ap (λ b. holes_fail info (meaning before.debug_info.0).is_plain (units_draft all_units all_kept).holes err || (b || holes_fail info (meaning now.debug_loclists.0).is_plain now.debug_loclists_fixups err)) locations
      ∙ ap (λ b. holes_fail info (meaning before.debug_info.0).is_plain (units_draft all_units all_kept).holes err || (holes_fail info (meaning before.debug_loc.0).is_plain (locations_draft all_units false).holes err || b)) location_lists

  fillable : AreAllFillable meaning now
  fillable = record {
    units = draft_fillable (meaning before.debug_info.0) (meaning now.debug_info.0) _ _ _ none.info all_pending.units;
    locations = draft_fillable (meaning before.debug_loc.0) (meaning now.debug_loc.0) _ _ _ none.loc all_pending.lists.drafts.locations;
    location_lists = draft_fillable (meaning before.debug_loclists.0) (meaning now.debug_loclists.0) _ _ _ none.loclists all_pending.lists.drafts.location_lists;
  }

  -- their references are filled in
  pub all_completed : (new : Sections W) → FillsAll meaning now new (info_at vs) → meaning new.debug_abbrev.0 ≡ meaning now.debug_abbrev.0 →
      ((err : Error) → IsFalse (open_fail meaning now (info_at vs) err)) → CompletesPending meaning before new us vs t ws ks
  all_completed new f tables sound =
      let info = info_at vs in
      let q = all_pending in
      let lead = λ (err : Error). sym (open_is info err) ∙ sound err in
      let units_lead = λ (err : Error). (or_parts (holes_fail info (meaning before.debug_info.0).is_plain (units_draft all_units all_kept).holes err) (lists_refer_wrong info (ends_of meaning before) all_units err) (lead err)).0 in
      record {
        kept = p.kept;
        appends = record {
          units = units_added meaning info before now (meaning new.debug_info.0) all_units all_kept none.info q f.units units_lead;
          tables = subst (λ m. Adds (meaning before.debug_abbrev.0) m (tables_of all_units)) (sym tables) q.tables;
          lists = record {
            located = q.lists.located;
            locations = draft_filled (meaning before.debug_loc.0) (meaning now.debug_loc.0) _ _ _ none.loc q.lists.drafts.locations info (meaning new.debug_loc.0) f.locations;
            location_lists = draft_filled (meaning before.debug_loclists.0) (meaning now.debug_loclists.0) _ _ _ none.loclists q.lists.drafts.location_lists info (meaning new.debug_loclists.0) f.location_lists;
          };
        };
        keeps = p.keeps ws ks equal;
        lead = lead;
      }

  -- or one of them is refused
  pub all_refused : (new : Sections W) → KeepsOtherSections old now → AppendsLines meaning old now t.line_strings t.strings us → AppendsAllRanges meaning old now us → (err : Error) →
      (AreAllFillable meaning now → Because (SomeHasRisen meaning now new) (Is (open_fail meaning now (info_at vs))) err) →
      UnitsRefused meaning before old new us vs t ws ks err
  all_refused new others lines ranges err h =
      because-map {p = Is (open_fail meaning now (info_at vs))}
      {q = λ e. UnitsFail (meaning old.debug_info.0).is_plain t (meaning old.debug_abbrev.0).size us e ⊎ ReferencesFail meaning before us vs t ws ks e}
      (λ r. rises_from meaning old now new others p.pending.tables.same.faults lines.text_is.same.faults ranges.ranges.same.faults ranges.range_lists.same.faults
      p.pending.lists.drafts.locations.text.same.faults p.pending.lists.drafts.location_lists.text.same.faults p.pending.units.text.same.faults r)
      (λ e k. inr (record {
        kept = p.kept;
        in_row = all_pending.in_row;
        keeps = p.keeps ws ks equal;
        fails = sym (open_is (info_at vs) e) ∙ k;
      }))
      err (h fillable)

-- a unit of the table is refused
pub units_refused : {W : Type 0} (meaning : W → Meaning) (t : Elsewhere) (old new : Sections W) (us vs : List UnitValue) (err : Error) → Because (SomeHasRisen meaning old new) (UnitsFail (meaning old.debug_info.0).is_plain t (meaning old.debug_abbrev.0).size us) err → RefusesAny meaning old new us vs t err
units_refused meaning t old new us vs err h before ws ks none first =
    because-map {p = UnitsFail (meaning old.debug_info.0).is_plain t (meaning old.debug_abbrev.0).size us}
    {q = λ e. UnitsFail (meaning old.debug_info.0).is_plain t (meaning old.debug_abbrev.0).size us e ⊎ ReferencesFail meaning before us vs t ws ks e} (λ r. r) (λ e k. inl k) err h
