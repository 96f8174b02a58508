-- Units that name no entry by its place in .debug_info have no open place.
use Rattle.std.specs.Prelude.{◌≡◌, ℕ, Bool, true, false, not, ◌&&◌, ◌||◌, ◌==◌, nat_le, List, [], ◌∷◌, ◌++◌, Option, refl, IsTrue, IsFalse, if◌then◌else◌}
use Rattle.std.specs.List.{list_any}
use Rattle.std.proofs.Common.{sym, ◌∙◌, ap, subst, arith, inl}
use Rattle.dw_base.specs.Numbers.{word_of}
use Rattle.dw_base.specs.Spelling.{header_size}
use Rattle.dw_base.specs.Entries.{Mark, Open, Null}
use Rattle.dw_base.specs.Abbreviations.{Shape}
use Rattle.dw_base.specs.declared.address.DebugInfoRef.TheVariants as refs
use Rattle.dw_base.specs.declared.common.Encoding.{Encoding}
use Rattle.dw_base.specs.declared.error.Error.{Error}
use Rattle.dw_base.specs.declared.section_id.SectionId.TheVariants.{DebugRanges, DebugRngLists, DebugLoc, DebugLocLists}
use Rattle.dw_writer.specs.Drafts.{Info, Draft, no_draft, whole, then_draft, shifted}
use Rattle.dw_writer.specs.Sections.{NoFixups}
use Rattle.dw_writer.specs.Meaning.{Meaning}
use Rattle.dw_writer.specs.declared.fixup.DebugInfoFixup.{DebugInfoFixup}
use Rattle.dw_writer.specs.declared.sections.Sections.{Sections}
use Rattle.dw_expr.specs.Trees.{Node}
use Rattle.dw_expr.specs.References.{nodes_refer}
use Rattle.dw_expr.specs.Spelling.{expression_draft}
use Rattle.dw_expr.proofs.OpenPlaces.{no_hole, no_hole-shifted, no_hole-then, not_or, expression_holes}
use Rattle.dw_entries.specs.Content.{Nothing, Plain, SignedLeb, Expression, InTable, TableIndex, content_holes}
use Rattle.dw_entries.specs.declared.attribute.Attribute.{Attribute}
use Rattle.dw_entries.specs.declared.value.AttributeValue.{AttributeValue}
use Rattle.dw_entries.specs.declared.value.AttributeValue.TheVariants as values
use Rattle.dw_entries.specs.Entries.{EntryValue, entry_at, has_sibling}
use Rattle.dw_entries.specs.Targets.{Tables, UnitTargets}
use Rattle.dw_tree.specs.Elsewhere.{Elsewhere}
use Rattle.dw_entries.specs.Tree.{preorder}
use Rattle.dw_entries.specs.Values.{content_of}
use Rattle.dw_unit.specs.Alone.{is_info_reference, some_info_reference, mark_refers, tree_refers, lists_refer, has_info_reference, only_unit, AppendsAlone, AloneFails, AloneRefused}
use Rattle.dw_tree.specs.Causes.{UnitFails, UnitRefused}
use Rattle.dw_unit.specs.Filled.{Fills}
use Rattle.dw_lists.specs.Items.{is_five}
use Rattle.dw_lists.specs.Tables.{locations_in}
use Rattle.dw_tree.specs.Locations.{is_own_section, entry_places, location_part}
use Rattle.dw_tree.specs.Pending.{Kept, draft_of, units_draft, locations_draft, Pending, PendsUnit}
use Rattle.dw_tree.specs.Coded.{code_at}
use Rattle.dw_tree.specs.Places.{OffsetsValue, targets_of}
use Rattle.dw_tree.specs.UnitText.{fitting_text, header_text, attribute_draft, attributes_draft, sibling_draft, code_draft, mark_draft, coded_draft, marks_draft, tree_draft}
use Rattle.dw_tree.specs.UnitFaults.{holes_fail}
use Rattle.dw_tree.specs.UnitValue.{UnitValue}
use Rattle.dw_tree.specs.Whole.{settled, tree_shapes}
use Rattle.dw_tree.proofs.Faults.{because-map}
use Rattle.dw_unit.proofs.Filling.{fills_none, fills_all}
use Rattle.dw_unit.proofs.FilledDrafts.{draft_filled}
use Rattle.dw_unit.proofs.ListHoles.{part_holes_in}
use Rattle.dw_unit.proofs.PendingSteps.{pending_one, units_added}

no_hole-is : (hs : List DebugInfoFixup) → no_hole hs ≡ true → hs ≡ []
no_hole-is [] h = refl
no_hole-is (x ∷ hs) h = absurd (let k : false ≡ true = h in cc)

no_hole-counted : (e : Encoding) (place : ℕ → Option ℕ) (ns : List Node) → no_hole (content_holes e place (Expression ns)) ≡ not (nodes_refer ns)
no_hole-counted e place ns = no_hole-shifted _ (expression_draft e place ns).holes ∙ expression_holes e place ns

-- the references that are left open are those of the values
value_holes : (e : Encoding) (place : ℕ → Option ℕ) (v : AttributeValue) → no_hole (content_holes e place (content_of e v)) ≡ not (is_info_reference v)
value_holes e place (values.ImplicitConst z) = by_version (e.version == 5)
  where
    by_version : (b : Bool) → no_hole (content_holes e place (if b then Nothing else SignedLeb z)) ≡ true
    by_version true = refl
    by_version false = refl
value_holes e place values.FlagPresent = by_test (nat_le 4 e.version)
  where
    by_test : (b : Bool) → no_hole (content_holes e place (if b then Nothing else Plain 1 1)) ≡ true
    by_test true = refl
    by_test false = refl
value_holes e place (values.RangeListRef i) = by_version (e.version == 5)
  where
    by_version : (b : Bool) → no_hole (content_holes e place (if b then TableIndex DebugRngLists i.0 else InTable DebugRanges i.0)) ≡ true
    by_version true = refl
    by_version false = refl
value_holes e place (values.LocationListRef i) = by_version (e.version == 5)
  where
    by_version : (b : Bool) → no_hole (content_holes e place (if b then TableIndex DebugLocLists i.0 else InTable DebugLoc i.0)) ≡ true
    by_version true = refl
    by_version false = refl
value_holes e place (values.DebugInfoRef (refs.Symbol s)) = refl
value_holes e place (values.DebugInfoRef (refs.Entry u i)) = refl
value_holes e place (values.Exprloc x) = no_hole-counted e place x
value_holes e place v = refl

attributes_holes : (e : Encoding) (u : UnitTargets) (xs : List Attribute) → no_hole (attributes_draft e u xs).holes ≡ not (some_info_reference xs)
attributes_holes e u [] = refl
attributes_holes e u (a ∷ xs) =
    no_hole-then (attribute_draft e u a) (attributes_draft e u xs)
    ∙ ap (λ b. b && no_hole (attributes_draft e u xs).holes) (value_holes e u.place a.value)
    ∙ ap (λ b. not (is_info_reference a.value) && b) (attributes_holes e u xs)
    ∙ not_or (is_info_reference a.value) (some_info_reference xs)

sibling_holes : (e : Encoding) (past : ℕ) (x : EntryValue) → no_hole (sibling_draft e past x).holes ≡ true
sibling_holes e past x = by_flag (has_sibling x)
  where
    by_flag : (b : Bool) → no_hole (if b then whole (word_of e.format) (fitting_text (word_of e.format) past) else no_draft).holes ≡ true
    by_flag true = refl
    by_flag false = refl

mark_holes : (e : Encoding) (es : List EntryValue) (u : UnitTargets) (code : ℕ) (m : Mark ℕ) → no_hole (mark_draft e es u code m).holes ≡ not (mark_refers es m)
mark_holes e es u code (Open i) =
    let x = entry_at es i in
    no_hole-then (code_draft code) (then_draft (sibling_draft e (u.past i) x) (attributes_draft e u x.attributes))
    ∙ no_hole-then (sibling_draft e (u.past i) x) (attributes_draft e u x.attributes)
    ∙ ap (λ b. b && no_hole (attributes_draft e u x.attributes).holes) (sibling_holes e (u.past i) x)
    ∙ attributes_holes e u x.attributes
mark_holes e es u code Null = refl

marks_holes : (e : Encoding) (es : List EntryValue) (u : UnitTargets) (shapes : List Shape) (ms : List (Mark ℕ)) → no_hole (marks_draft e es u shapes ms).holes ≡ not (list_any (mark_refers es) ms)
marks_holes e es u shapes [] = refl
marks_holes e es u shapes (m ∷ ms) =
    no_hole-then (coded_draft e es u shapes m) (marks_draft e es u shapes ms)
    ∙ ap (λ b. b && no_hole (marks_draft e es u shapes ms).holes) (mark_holes e es u (code_at e es shapes m) m)
    ∙ ap (λ b. not (mark_refers es m) && b) (marks_holes e es u shapes ms)
    ∙ not_or (mark_refers es m) (list_any (mark_refers es) ms)

-- A unit has no open place exactly where no value in its tree names an entry by its place in .debug_info.
draft_holes : (e : Encoding) (es : List EntryValue) (t : Tables) (k : Kept) → no_hole (draft_of e es t k).holes ≡ not (tree_refers es)
draft_holes e es t k =
    let body = tree_draft e es (targets_of t k.places) in
    no_hole-then (whole (header_size e) (header_text e k.starts.abbrevs body.size)) body ∙ marks_holes e es (targets_of t k.places) (tree_shapes e es) (preorder es)

not_false : (b : Bool) → true ≡ not b → IsFalse b
not_false true h = absurd (let k : true ≡ false = h in cc)
not_false false h = refl

-- the same of location lists, in the section of their version
lists_holes : (w : UnitValue) (five : Bool) → no_hole (location_part five w).holes ≡ (if is_own_section five w.encoding then not (lists_refer (locations_in w.locations)) else true)
lists_holes w five = part_holes_in w.encoding (entry_places w) w.locations five

only_holes : (d : Draft) → no_hole (then_draft d no_draft).holes ≡ no_hole d.holes
only_holes d = no_hole-then d no_draft ∙ by_test (no_hole d.holes)
  where
    by_test : (b : Bool) → (b && true) ≡ b
    by_test true = refl
    by_test false = refl

refers_by : (a b : Bool) → IsFalse (a || b) → (IsFalse a) × (IsFalse b)
refers_by true b h = absurd (let k : true ≡ false = h in cc)
refers_by false b h = (refl, h)

neither_refers : (a b : Bool) → IsFalse a → IsFalse b → IsFalse (a || b)
neither_refers true b h k = absurd (let x : true ≡ false = h in cc)
neither_refers false b h k = k

module _ {W : Type 0} (meaning : W → Meaning) (old new : Sections W) (u : UnitValue) (t : Tables) (offsets : Option OffsetsValue) (none : NoFixups old) (p : PendsUnit meaning old new (settled u) t offsets) where
  abbrev es : List EntryValue
  es = (settled u).entries

  -- the fixups that there are after it are its own
  own_fixups : no_hole new.debug_info_fixups ≡ no_hole (draft_of u.encoding es t p.kept).holes
  own_fixups =
      let hs = (draft_of u.encoding es t p.kept).holes in
      let n = (meaning old.debug_info.0).size in
      ap no_hole (p.tree.unit.fixups ∙ ap (λ xs. xs ++ shifted n hs) none.info) ∙ no_hole-shifted n hs

  -- and those of its location lists
  old_fixups : no_hole new.debug_loc_fixups ≡ no_hole (location_part false (settled u)).holes
  old_fixups =
      let hs = (location_part false (settled u)).holes in
      let n = (meaning old.debug_loc.0).size in
      ap no_hole (p.lists.drafts.locations.fixups ∙ ap (λ xs. xs ++ shifted n hs) none.loc) ∙ no_hole-shifted n hs

  new_fixups : no_hole new.debug_loclists_fixups ≡ no_hole (location_part true (settled u)).holes
  new_fixups =
      let hs = (location_part true (settled u)).holes in
      let n = (meaning old.debug_loclists.0).size in
      ap no_hole (p.lists.drafts.location_lists.fixups ∙ ap (λ xs. xs ++ shifted n hs) none.loclists) ∙ no_hole-shifted n hs

  tree_is : no_hole new.debug_info_fixups ≡ not (tree_refers es)
  tree_is = own_fixups ∙ draft_holes u.encoding es t p.kept

  -- where none is open, no value of it names an entry by its place in .debug_info, and no location list
  pub alone_is : NoFixups new → IsFalse (has_info_reference u)
  alone_is closed = neither_refers (tree_refers es) (lists_refer (locations_in u.locations)) (not_false (tree_refers es) (sym (ap no_hole closed.info) ∙ tree_is)) (by_version (is_five u.encoding) refl)
    where
      by_version : (five : Bool) → is_five u.encoding ≡ five → IsFalse (lists_refer (locations_in u.locations))
      by_version true is = not_false (lists_refer (locations_in u.locations)) (sym (ap no_hole closed.loclists) ∙ new_fixups ∙ lists_holes (settled u) true ∙ ap (λ b. if b then not (lists_refer (locations_in u.locations)) else true) is)
      by_version false is = not_false (lists_refer (locations_in u.locations)) (sym (ap no_hole closed.loc) ∙ old_fixups ∙ lists_holes (settled u) false ∙ ap (λ b. if not b then not (lists_refer (locations_in u.locations)) else true) is)

  -- where some is, one does
  pub alone_refers : (NoFixups new → ⊥) → IsTrue (has_info_reference u)
  alone_refers some = by_test (has_info_reference u) refl
    where
      lists_closed : (b : Bool) → IsFalse (lists_refer (locations_in u.locations)) → (if b then not (lists_refer (locations_in u.locations)) else true) ≡ true
      lists_closed true h = ap not h
      lists_closed false h = refl

      by_test : (b : Bool) → has_info_reference u ≡ b → IsTrue (has_info_reference u)
      by_test true h = h
      by_test false h =
          let parts = refers_by (tree_refers es) (lists_refer (locations_in u.locations)) h in
          let closed : NoFixups new = record {
            info = no_hole-is new.debug_info_fixups (tree_is ∙ ap not parts.0);
            loc = no_hole-is new.debug_loc_fixups (old_fixups ∙ lists_holes (settled u) false ∙ lists_closed (is_own_section false u.encoding) parts.1);
            loclists = no_hole-is new.debug_loclists_fixups (new_fixups ∙ lists_holes (settled u) true ∙ lists_closed (is_own_section true u.encoding) parts.1);
          } in
          absurd (some closed)

  pub alone_appends : NoFixups new → AppendsAlone meaning old new (settled u) t offsets
  alone_appends closed =
      let us = only_unit t (settled u) in
      let ks = p.kept ∷ [] in
      let pending : Pending meaning old new us ks = pending_one meaning 0 (settled u) t old new p.kept p.tree p.lists in
      let unit_closed : (units_draft us ks).holes ≡ [] = no_hole-is (units_draft us ks).holes (only_holes (draft_of u.encoding es t p.kept) ∙ sym own_fixups ∙ ap no_hole closed.info) in
      let old_closed : (locations_draft us false).holes ≡ [] = no_hole-is (locations_draft us false).holes (only_holes (location_part false (settled u)) ∙ sym old_fixups ∙ ap no_hole closed.loc) in
      let new_closed : (locations_draft us true).holes ≡ [] = no_hole-is (locations_draft us true).holes (only_holes (location_part true (settled u)) ∙ sym new_fixups ∙ ap no_hole closed.loclists) in
      let none_filled : (m : Meaning) (info : Info) (hs : List DebugInfoFixup) → hs ≡ [] → Fills m m info hs =
      λ m info hs is. subst (λ xs. Fills m m info xs) (sym is) (fills_all info [] 0 (omega arith) (omega arith) (fills_none m info [])) in
      record {
        kept = p.kept;
        appends = λ info. record {
          units = units_added meaning info old new (meaning new.debug_info.0) us ks none.info pending
              (none_filled (meaning new.debug_info.0) info new.debug_info_fixups closed.info)
              (λ err. subst (λ hs. IsFalse (holes_fail info (meaning old.debug_info.0).is_plain hs err)) (sym unit_closed) refl);
          tables = pending.tables;
          lists = record {
            located = pending.lists.located;
            locations = draft_filled (meaning old.debug_loc.0) (meaning new.debug_loc.0) _ _ _ none.loc pending.lists.drafts.locations info (meaning new.debug_loc.0) (none_filled (meaning new.debug_loc.0) info new.debug_loc_fixups closed.loc);
            location_lists = draft_filled (meaning old.debug_loclists.0) (meaning new.debug_loclists.0) _ _ _ none.loclists pending.lists.drafts.location_lists info (meaning new.debug_loclists.0) (none_filled (meaning new.debug_loclists.0) info new.debug_loclists_fixups closed.loclists);
          };
        };
        closed = unit_closed;
        lists_closed = λ five. by_section five old_closed new_closed;
        offsets_are = p.offsets_are;
      }
    where
      by_section : (five : Bool) → (locations_draft (only_unit t (settled u)) false).holes ≡ [] → (locations_draft (only_unit t (settled u)) true).holes ≡ [] → (locations_draft (only_unit t (settled u)) five).holes ≡ []
      by_section true a b = b
      by_section false a b = a

-- why a unit is refused that is to stand alone
pub alone_refused : {W : Type 0} (meaning : W → Meaning) (old new : Sections W) (u : UnitValue) (t : Elsewhere) (err : Error) → UnitRefused meaning old new u t err → AloneRefused meaning old new u t err
alone_refused meaning old new u t err h =
    let table = (meaning old.debug_abbrev.0).size in
    let plain = (meaning old.debug_info.0).is_plain in
    because-map {p = UnitFails u t table plain} {q = AloneFails u t table plain} (λ r. r) (λ e k. inl k) err h
