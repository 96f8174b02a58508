-- Units that are pending, one behind another, and what filling their references in makes of them.
use Rattle.std.specs.Prelude.{◌≡◌, ℕ, suc, ◌+◌, Bool, true, false, List, [], ◌∷◌, ◌++◌, length, Option, Some, None, ◌==◌, refl, IsFalse, if◌then◌else◌}
use Rattle.std.proofs.Common.{sym, ◌∙◌, ap, subst, arith, append-nil, append_assoc, length-append}
use Rattle.dw_base.specs.declared.error.Error.{Error}
use Rattle.dw_base.specs.declared.section_id.SectionId.TheVariants.{DebugInfo}
use Rattle.dw_writer.specs.Texts.{followed}
use Rattle.dw_writer.specs.Meaning.{Meaning, IsTidy, Adds, resolved, start_of}
use Rattle.dw_writer.specs.declared.sections.Sections.{Sections}
use Rattle.dw_writer.specs.Drafts.{Info, then_draft, shifted, started, open_text, filled, AreBetween, HaveWidths, AreClear}
use Rattle.dw_writer.proofs.DraftLaws.{nothing-then, then-nothing, then-assoc, filled-behind, between-from, widths-shifted}
use Rattle.dw_writer.proofs.Laws.{resolved-wide}
use Rattle.dw_writer.proofs.Parts.{Adds-none}
use Rattle.dw_writer.proofs.Steps.{IsSameWriter-trans, Adds-then}
use Rattle.dw_writer.proofs.WriteLaws.{Drafts-nothing, Drafts-then, Drafts-is, between-place}
use Rattle.dw_entries.specs.Targets.{Tables}
use Rattle.dw_tree.specs.Built.{Numbered, Starts, at_zero}
use Rattle.dw_unit.specs.Filled.{Fills}
use Rattle.dw_tree.specs.Locations.{AppendsLocations}
use Rattle.dw_tree.specs.Pending.{Kept, draft_of, draft_at, past_kept, units_draft, tables_of, kept_offsets, kept_at, AreInRow, starts_of, IsThereFilled, PendsTree, PendsUnit, Pending, ExtendsPending, AddsUnits}
use Rattle.dw_tree.specs.Places.{Offsets, OffsetsValue}
use Rattle.dw_tree.specs.UnitFaults.{holes_fail}
use Rattle.dw_tree.specs.UnitValue.{UnitValue}
use Rattle.dw_tree.specs.Whole.{tree_table}
use Rattle.dw_tree.proofs.TextsThere.{then_filled, nothing_filled}
use Rattle.dw_unit.proofs.Filling.{holes-shifted, holes_lead}
use Rattle.dw_tree.proofs.LocationSteps.{lists_none, lists_one, lists_then}

-- Rows

starts_are : (a b : Starts) → a.info ≡ b.info → a.abbrevs ≡ b.abbrevs → a ≡ b
starts_are a b p q =
    ap (λ n. let s : Starts = record { info = n; abbrevs = a.abbrevs } in s) p ∙ ap (λ n. let s : Starts = record { info = b.info; abbrevs = n } in s) q

-- as many units as places
pub row_length : (at : Starts) (us : List Numbered) (ks : List Kept) → AreInRow at us ks → length us ≡ length ks
row_length at [] [] h = refl
row_length at [] (k ∷ ks) h = absurd h
row_length at (u ∷ us) [] h = absurd h
row_length at (u ∷ us) (k ∷ ks) h = ap suc (row_length (past_kept at u k) us ks h.1)

module _ (vs : List Numbered) (js : List Kept) where
  drafts_append : (at : Starts) (us : List Numbered) (ks : List Kept) → AreInRow at us ks → units_draft (us ++ vs) (ks ++ js) ≡ then_draft (units_draft us ks) (units_draft vs js)
  drafts_append at [] [] h = sym (nothing-then (units_draft vs js))
  drafts_append at [] (k ∷ ks) h = absurd h
  drafts_append at (u ∷ us) [] h = absurd h
  drafts_append at (u ∷ us) (k ∷ ks) h =
      let d = draft_at u k in
      ap (then_draft d) (drafts_append (past_kept at u k) us ks h.1) ∙ sym (then-assoc d (units_draft us ks) (units_draft vs js))

  row_append : (at next : Starts) (us : List Numbered) (ks : List Kept) → AreInRow at us ks → AreInRow next vs js →
      next.info ≡ at.info + (units_draft us ks).size → next.abbrevs ≡ at.abbrevs + length (tables_of us) → AreInRow at (us ++ vs) (ks ++ js)
  unfolding then_draft
  row_append at next [] [] h k info tables = subst (λ s. AreInRow s vs js) (starts_are next at (omega (arith, info)) (omega (arith, tables))) k
  row_append at next [] (j ∷ ks) h k info tables = absurd h
  row_append at next (u ∷ us) [] h k info tables = absurd h
  row_append at next (u ∷ us) (j ∷ ks) h k info tables =
      let table = tree_table u.unit.encoding u.unit.entries in
      (h.0, row_append (past_kept at u j) next us ks h.1 k (omega (arith, info)) (omega (arith, tables, length-append table (tables_of us))))

tables_append : (us vs : List Numbered) → tables_of (us ++ vs) ≡ tables_of us ++ tables_of vs
tables_append [] vs = refl
tables_append (u ∷ us) vs =
    let table = tree_table u.unit.encoding u.unit.entries in
    ap (λ ts. table ++ ts) (tables_append us vs) ∙ sym (append_assoc table (tables_of us) (tables_of vs))

-- What is pending

module _ {W : Type 0} (meaning : W → Meaning) where
  -- nothing
  pub pending_none : (s : Sections W) → Pending meaning s s [] []
  pending_none s = record {
    in_row = tt;
    units = Drafts-nothing (meaning s.debug_info.0) s.debug_info_fixups;
    tables = Adds-none (meaning s.debug_abbrev.0);
    there = λ plain. nothing_filled;
    lists = lists_none meaning s;
  }

  -- one unit
  pub pending_one : (id : ℕ) (u : UnitValue) (t : Tables) (old new : Sections W) (k : Kept) → PendsTree meaning old new u.encoding u.entries t k → AppendsLocations meaning old new u →
      Pending meaning old new (record { id = id; unit = u; tables = t } ∷ []) (k ∷ [])
  pending_one id u t old new k p lists = record {
    in_row = (p.stands, tt);
    units = Drafts-is p.unit (sym (then-nothing (draft_of u.encoding u.entries t k)));
    tables = subst (Adds (meaning old.debug_abbrev.0) (meaning new.debug_abbrev.0)) (sym (append-nil (tree_table u.encoding u.entries))) p.table;
    there = λ plain. subst IsThereFilled (sym (then-nothing (draft_of u.encoding u.entries t k))) (p.there plain);
    lists = lists_one meaning old new (record { id = id; unit = u; tables = t }) lists;
  }

  -- units behind units
  pub pending_then : (a b c : Sections W) (us vs : List Numbered) (ks js : List Kept) → Pending meaning a b us ks → Pending meaning b c vs js → Pending meaning a c (us ++ vs) (ks ++ js)
  pending_then a b c us vs ks js p q =
      let both = drafts_append vs js (starts_of meaning a) us ks p.in_row in
      record {
        in_row = row_append vs js (starts_of meaning a) (starts_of meaning b) us ks p.in_row q.in_row p.units.text.size p.tables.size;
        units = Drafts-is (Drafts-then p.units q.units) (sym both);
        tables = subst (Adds (meaning a.debug_abbrev.0) (meaning c.debug_abbrev.0)) (sym (tables_append us vs)) (Adds-then p.tables q.tables);
        there = λ plain. subst IsThereFilled (sym both) (then_filled (units_draft us ks) (units_draft vs js) (p.there plain) (q.there (p.units.text.same.kind ∙ plain)));
        lists = lists_then meaning a b c us vs p.lists q.lists;
      }

  -- one unit more, whatever is pending
  pub pending_more : (u : UnitValue) (t : Tables) (old new : Sections W) (offsets : Option OffsetsValue) → PendsUnit meaning old new u t offsets → ExtendsPending meaning old new u t offsets
  pending_more u t old new offsets p before us ks id pending =
      (p.kept, p.offsets_are, pending_then before old new us (record { id = id; unit = u; tables = t } ∷ []) ks (p.kept ∷ []) pending (pending_one id u t old new p.kept p.tree p.lists))

  -- the same where only lists of fixups that aren't of .debug_info are other ones
  -- The references of what is pending lie in the section, one behind another, and no record meets them.

  pub pending_between : (a b : Sections W) (us : List Numbered) (ks : List Kept) → a.debug_info_fixups ≡ [] → Pending meaning a b us ks → AreBetween 0 (meaning b.debug_info.0).size b.debug_info_fixups
  pending_between a b us ks none p =
      let d = units_draft us ks in
      let from = (meaning a.debug_info.0).size in
      let to = (meaning b.debug_info.0).size in
      let there : AreBetween (from + 0) (from + d.size) (shifted from d.holes) = between-place from 0 0 d.size d.holes p.units.is.between in
      let moved : AreBetween (from + 0) to (shifted from d.holes) = subst (λ n. AreBetween (from + 0) n (shifted from d.holes)) (sym p.units.text.size) there in
      subst (AreBetween 0 to) (sym (pending_fixups a b us ks none p)) (between-from 0 (from + 0) to (shifted from d.holes) (omega arith) moved)
    where
      pending_fixups : (a b : Sections W) (us : List Numbered) (ks : List Kept) → a.debug_info_fixups ≡ [] → Pending meaning a b us ks → b.debug_info_fixups ≡ shifted (meaning a.debug_info.0).size (units_draft us ks).holes
      pending_fixups a b us ks none p = p.units.fixups ∙ ap (λ hs. hs ++ shifted (meaning a.debug_info.0).size (units_draft us ks).holes) none

  pub pending_fixups : (a b : Sections W) (us : List Numbered) (ks : List Kept) → a.debug_info_fixups ≡ [] → Pending meaning a b us ks → b.debug_info_fixups ≡ shifted (meaning a.debug_info.0).size (units_draft us ks).holes
  pending_fixups a b us ks none p = p.units.fixups ∙ ap (λ hs. hs ++ shifted (meaning a.debug_info.0).size (units_draft us ks).holes) none

  pub pending_widths : (a b : Sections W) (us : List Numbered) (ks : List Kept) → a.debug_info_fixups ≡ [] → Pending meaning a b us ks → HaveWidths b.debug_info_fixups
  pending_widths a b us ks none p =
      subst HaveWidths (sym (pending_fixups a b us ks none p)) (widths-shifted (meaning a.debug_info.0).size (units_draft us ks).holes p.units.is.widths)

  pending_clear : (a b : Sections W) (us : List Numbered) (ks : List Kept) → a.debug_info_fixups ≡ [] → IsTidy (meaning a.debug_info.0) → Pending meaning a b us ks → AreClear (meaning b.debug_info.0) b.debug_info_fixups
  pending_clear a b us ks none tidy p = subst (AreClear (meaning b.debug_info.0)) (sym (pending_fixups a b us ks none p)) (p.units.clear tidy)

  -- what no fixup of them stands in the way of
  pub pending_lead : (info : Info) (plain : Bool) (a b : Sections W) (us : List Numbered) (ks : List Kept) → a.debug_info_fixups ≡ [] → Pending meaning a b us ks →
      (err : Error) → holes_fail info plain b.debug_info_fixups err ≡ holes_fail info plain (units_draft us ks).holes err
  pending_lead info plain a b us ks none p err =
      ap (λ hs. holes_fail info plain hs err) (pending_fixups a b us ks none p) ∙ holes-shifted info plain (meaning a.debug_info.0).size (units_draft us ks).holes err

  -- Units whose references are filled in are added.
  pub units_added : (info : Info) (a b : Sections W) (new : Meaning) (us : List Numbered) (ks : List Kept) → a.debug_info_fixups ≡ [] → Pending meaning a b us ks → Fills (meaning b.debug_info.0) new info b.debug_info_fixups →
      ((err : Error) → IsFalse (holes_fail info (meaning a.debug_info.0).is_plain (units_draft us ks).holes err)) → AddsUnits (meaning a.debug_info.0) new (meaning a.debug_abbrev.0).size info us ks
  units_added info a b new us ks none p f lead =
      let old = meaning a.debug_info.0 in
      let mid = meaning b.debug_info.0 in
      let d = units_draft us ks in
      let hs = b.debug_info_fixups in
      record {
        in_row = p.in_row;
        same = IsSameWriter-trans p.units.text.same f.same;
        size = f.size ∙ p.units.text.size;
        tidy = λ tidy. (f.resolves (p.units.text.tidy tidy) (pending_clear a b us ks none tidy p) (pending_between a b us ks none p)).0;
        resolves = λ tidy l.
            let at_l = started (start_of l DebugInfo) info in
            (f.resolves (p.units.text.tidy tidy) (pending_clear a b us ks none tidy p) (pending_between a b us ks none p)).1 l
            ∙ ap (λ big. filled big at_l hs (resolved l mid)) p.units.text.same.order
            ∙ ap (λ xs. filled old.is_big at_l xs (resolved l mid)) (pending_fixups a b us ks none p)
            ∙ ap (filled old.is_big at_l (shifted old.size d.holes)) (p.units.text.resolves tidy l)
            ∙ filled-behind old.is_big at_l d.holes old.size (resolved l old) (open_text d old.is_big l) (resolved-wide l old tidy)
            ∙ ap (followed (resolved l old)) (p.units.is.fills at_l old.is_big l);
        there = λ plain big.
            let sound : (err : Error) → IsFalse (holes_fail info true d.holes err) = subst (λ b. (err : Error) → IsFalse (holes_fail info b d.holes err)) plain lead in
            p.there plain (started (start_of at_zero DebugInfo) info) (holes_lead info d.holes sound) big;
      }

-- Places that units keep

-- a unit more, which has another number
pub kept_other : (us : List Numbered) (ks : List Kept) (u : Numbered) (k : Kept) (n : ℕ) → length us ≡ length ks → (u.id == n) ≡ false → kept_at (us ++ u ∷ []) (ks ++ k ∷ []) n ≡ kept_at us ks n
kept_other [] [] u k n e ne = ap (λ (b : Bool). if b then Some (kept_offsets k) else None) ne
kept_other [] (j ∷ ks) u k n e ne = absurd (omega (arith, e))
kept_other (v ∷ us) [] u k n e ne = absurd (omega (arith, e))
kept_other (v ∷ us) (j ∷ ks) u k n e ne =
    ap (λ (x : Option Offsets). if v.id == n then Some (kept_offsets j) else x) (kept_other us ks u k n (omega (arith, e)) ne)

none_by : (b : Bool) (x : Offsets) (y : Option Offsets) → (if b then Some x else y) ≡ None → (b ≡ false) × (y ≡ None)
none_by true x y h = absurd (let k : ◌≡◌ {A = Option Offsets} (Some x) None = h in cc)
none_by false x y h = (refl, h)

-- a unit more that has this number, which none had
pub kept_last : (us : List Numbered) (ks : List Kept) (u : Numbered) (k : Kept) (n : ℕ) → length us ≡ length ks → kept_at us ks n ≡ None → (u.id == n) ≡ true → kept_at (us ++ u ∷ []) (ks ++ k ∷ []) n ≡ Some (kept_offsets k)
kept_last [] [] u k n e none is = ap (λ (b : Bool). if b then Some (kept_offsets k) else None) is
kept_last [] (j ∷ ks) u k n e none is = absurd (omega (arith, e))
kept_last (v ∷ us) [] u k n e none is = absurd (omega (arith, e))
kept_last (v ∷ us) (j ∷ ks) u k n e none is =
    let parts = none_by (v.id == n) (kept_offsets j) (kept_at us ks n) none in
    ap (λ (b : Bool). if b then Some (kept_offsets j) else kept_at (us ++ u ∷ []) (ks ++ k ∷ []) n) parts.0 ∙ kept_last us ks u k n (omega (arith, e)) parts.1 is
