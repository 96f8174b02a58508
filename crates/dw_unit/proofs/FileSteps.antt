-- One unit of a file is written behind others.
use Rattle.std.specs.Prelude.{◌≡◌, ℕ, ◌+◌, Bool, true, false, ◌||◌, List, [], ◌∷◌, ◌++◌, All, Option, refl, IsFalse, if◌then◌else◌}
use Rattle.std.proofs.Common.{sym, ◌∙◌, ap, subst, arith}
use Rattle.std.proofs.lemmas.List.Elements.{All-nil, All-cons, All-append}
use Rattle.dw_writer.specs.Layout.{Layout}
use Rattle.dw_writer.specs.Meaning.{Meaning, Model}
use Rattle.dw_writer.specs.Texts.{followed}
use Rattle.dw_writer.specs.declared.sections.Sections.{Sections}
use Rattle.dw_writer.proofs.Laws.{followed_assoc}
use Rattle.dw_writer.proofs.Parts.{followed-nothing}
use Rattle.dw_writer.proofs.Steps.{Appends-then, Appends-as}
use Rattle.dw_lists.specs.Items.{is_five}
use Rattle.dw_line.specs.Parts.{sizes, texts}
use Rattle.dw_tree.specs.Built.{Numbered, settled_at}
use Rattle.dw_tree.specs.Elsewhere.{Ends, Elsewhere, ends_of, elsewhere, unit_tables, line_size, line_fails, range_size, ranges_plain, ranges_fail, ranges_fail_in, locations_plain, has_base_address, past_ends, AppendsLine, AppendsRanges, AreFound}
use Rattle.dw_tree.specs.Locations.{lists_fail_in, entry_places}
use Rattle.dw_tree.specs.Pending.{Kept, Pending, PendsUnit}
use Rattle.dw_tree.specs.Places.{OffsetsValue}
use Rattle.dw_tree.specs.UnitValue.{UnitValue}
use Rattle.dw_tree.specs.Valid.{IsWritable}
use Rattle.dw_tree.specs.Whole.{settled}
use Rattle.dw_tree.specs.Written.{KeepsOtherSections}
use Rattle.dw_strings.specs.Strings.{KeepStrings}
use Rattle.dw_unit.specs.WrittenUnits.{WrittenUnit, found_at, written_from, ends_behind, units_in, written_line, written_ranges, AreListsSound, HavePlainLists, AddsParts, KeepsStrings, PendsFile, ExtendsFile}
use Rattle.dw_unit.proofs.PendingSteps.{pending_none, pending_one, pending_then}
use Rattle.dw_unit.proofs.RangeSteps.{elsewhere-new}
use Rattle.dw_unit.proofs.TableWritten.{front_others}
use Rattle.dw_unit.proofs.UnitTexts.{appends-none, behind-none, behind-then, behind-as, nothing-followed}

-- Units behind units

module _ {X : Type 0} where
  pub sizes-append : (size : X → ℕ) (xs ys : List X) → sizes size (xs ++ ys) ≡ sizes size xs + sizes size ys
  sizes-append size [] ys = omega arith
  sizes-append size (x ∷ xs) ys = omega (arith, sizes-append size xs ys)

  pub texts-append : (text : X → Model) (xs ys : List X) (big : Bool) (l : Layout) → texts text (xs ++ ys) big l ≡ followed (texts text xs big l) (texts text ys big l)
  texts-append text [] ys big l = sym (nothing-followed (texts text ys big l))
  texts-append text (x ∷ xs) ys big l = ap (followed (text x big l)) (texts-append text xs ys big l) ∙ sym (followed_assoc (text x big l) (texts text xs big l) (texts text ys big l))

pub written-append : (ends : Ends) (ws vs : List WrittenUnit) → written_from ends (ws ++ vs) ≡ written_from ends ws ++ written_from (ends_behind ends ws) vs
written-append ends [] vs = refl
written-append ends (w ∷ ws) vs = ap (λ xs. settled_at w.id (found_at ends w) w.unit ∷ xs) (written-append (past_ends ends w.unit) ws vs)

pub ends-append : (ends : Ends) (ws vs : List WrittenUnit) → ends_behind ends (ws ++ vs) ≡ ends_behind (ends_behind ends ws) vs
ends-append ends [] vs = refl
ends-append ends (w ∷ ws) vs = ends-append (past_ends ends w.unit) ws vs

pub units-append : (ws vs : List WrittenUnit) → units_in (ws ++ vs) ≡ units_in ws ++ units_in vs
units-append [] vs = refl
units-append (w ∷ ws) vs = ap (λ us. w.unit ∷ us) (units-append ws vs)

-- Strings

pub strings_stay : (xs : List (List ℕ)) → KeepStrings xs xs
strings_stay xs i s is = (is, refl)

pub strings_then : (xs ys zs : List (List ℕ)) → KeepStrings xs ys → KeepStrings ys zs → KeepStrings xs zs
strings_then xs ys zs p q i s is = let first = p i s is in let next = q i s first.0 in (next.0, next.1 ∙ first.1)

-- Parts of units

module _ {W : Type 0} (meaning : W → Meaning) where
  pub parts_none : (s : Sections W) → AddsParts meaning s s []
  parts_none s = record {
    lines = behind-none (meaning s.debug_line.0);
    ranges = appends-none (meaning s.debug_ranges.0);
    range_lists = appends-none (meaning s.debug_rnglists.0);
    found = All-nil AreFound;
    sound = λ plain. All-nil AreListsSound;
  }

  both_sound : (ws vs : List WrittenUnit) → All AreListsSound (units_in ws) → All AreListsSound (units_in vs) → All AreListsSound (units_in (ws ++ vs))
  both_sound ws vs p q = subst (All AreListsSound) (sym (units-append ws vs)) (All-append AreListsSound (units_in ws) (units_in vs) p q)

  pub parts_then : (a b c : Sections W) (ws vs : List WrittenUnit) → (HavePlainLists (ends_of meaning a) → HavePlainLists (ends_of meaning b)) → AddsParts meaning a b ws → AddsParts meaning b c vs → AddsParts meaning a c (ws ++ vs)
  parts_then a b c ws vs plain p q = record {
    lines = behind-as (behind-then p.lines q.lines) (sym (sizes-append (λ w. line_size w.unit) ws vs)) (λ big l. sym (texts-append written_line ws vs big l));
    ranges = Appends-as (Appends-then p.ranges q.ranges) (sym (sizes-append (λ w. range_size false w.unit) ws vs)) (λ big l. sym (texts-append (written_ranges false) ws vs big l));
    range_lists = Appends-as (Appends-then p.range_lists q.range_lists) (sym (sizes-append (λ w. range_size true w.unit) ws vs)) (λ big l. sym (texts-append (written_ranges true) ws vs big l));
    found = subst (All AreFound) (sym (units-append ws vs)) (All-append AreFound (units_in ws) (units_in vs) p.found q.found);
    sound = λ h. both_sound ws vs (p.sound h) (q.sound (plain h));
  }

  -- one unit's
  pub parts_one : (old new : Sections W) (w : WrittenUnit) → AppendsLine meaning old new w.line_strings w.strings w.unit → AppendsRanges meaning old new w.unit → (HavePlainLists (ends_of meaning old) → AreListsSound w.unit) → AddsParts meaning old new (w ∷ [])
  parts_one old new w line ranges sound = record {
    lines = behind-as line (omega arith) (λ big l. sym (followed-nothing (written_line w big l)));
    ranges = Appends-as ranges.ranges (omega arith) (λ big l. sym (followed-nothing (written_ranges false w big l)));
    range_lists = Appends-as ranges.range_lists (omega arith) (λ big l. sym (followed-nothing (written_ranges true w big l)));
    found = All-cons AreFound w.unit [] ranges.found (All-nil AreFound);
    sound = λ h. All-cons AreListsSound w.unit [] (sound h) (All-nil AreListsSound);
  }

-- Lists of a unit that can be written have no fault.

second : (a b : Bool) → IsFalse (a || b) → IsFalse b
second true b h = absurd (let x : true ≡ false = h in cc)
second false b h = h

plain_by : (five : Bool) (a b : Bool) → a ≡ true → b ≡ true → (if five then a else b) ≡ true
plain_by true a b p q = p
plain_by false a b p q = q

pub lists_sound : (t : Elsewhere) (plain : Bool) (u : UnitValue) → IsWritable plain t u → HavePlainLists t.ends → AreListsSound u
lists_sound t plain u can h =
    let ranges : ranges_plain t u ≡ true = plain_by (is_five u.encoding) t.ends.range_lists.is_plain t.ends.ranges.is_plain h.range_lists h.ranges in
    let lists : locations_plain t u ≡ true = plain_by (is_five u.encoding) t.ends.location_lists.is_plain t.ends.locations.is_plain h.location_lists h.locations in
    record {
      ranges = λ err. subst (λ b. IsFalse (ranges_fail_in b u err)) ranges (second (line_fails t u err) (ranges_fail t u err) (can.0.0 err));
      locations = λ err. subst (λ b. IsFalse (lists_fail_in u.encoding (entry_places (settled u)) u.locations (has_base_address u.entries) b err)) lists (can.0.1 err);
    }

-- Files

module _ {W : Type 0} (meaning : W → Meaning) where
  -- nothing is written yet
  pub file_none : (s : Sections W) (line_strings strings : List (List ℕ)) → PendsFile meaning s s line_strings strings [] []
  file_none s line_strings strings = record {
    pending = pending_none meaning s;
    parts = parts_none meaning s;
    ends = refl;
    stay = All-nil (KeepsStrings line_strings strings);
    others = refl;
    none = λ h. refl;
  }

  -- strings are added
  pub file_strings : (before now : Sections W) (line_strings strings more others : List (List ℕ)) (ws : List WrittenUnit) (ks : List Kept) → KeepStrings line_strings more → KeepStrings strings others →
      PendsFile meaning before now line_strings strings ws ks → PendsFile meaning before now more others ws ks
  file_strings before now line_strings strings more others ws ks p q f = record {
    pending = f.pending;
    parts = f.parts;
    ends = f.ends;
    stay = λ i d h. let k = f.stay i d h in (strings_then _ line_strings more k.0 p, strings_then _ strings others k.1 q);
    others = f.others;
    none = f.none;
  }

  -- the sections of lists of what units were written into are as plain as they were
  pub still_plain : (a b : Sections W) (ws : List WrittenUnit) (ns : List Numbered) (ks : List Kept) → Pending meaning a b ns ks → AddsParts meaning a b ws → HavePlainLists (ends_of meaning a) → HavePlainLists (ends_of meaning b)
  still_plain a b ws ns ks p q h = record {
    ranges = q.ranges.same.kind ∙ h.ranges;
    range_lists = q.range_lists.same.kind ∙ h.range_lists;
    locations = p.lists.drafts.locations.text.same.kind ∙ h.locations;
    location_lists = p.lists.drafts.location_lists.text.same.kind ∙ h.location_lists;
  }

  no_more : {X : Type 0} (xs : List X) (x : X) → xs ++ x ∷ [] ≡ [] → ⊥
  no_more [] x h = let k : ◌≡◌ {A = List _} (x ∷ []) [] = h in cc
  no_more (y ∷ xs) x h = let k : ◌≡◌ {A = List _} (y ∷ (xs ++ x ∷ [])) [] = h in cc

  -- one unit more, whatever was written
  pub file_more : (old new : Sections W) (line_strings strings : List (List ℕ)) (u : UnitValue) (offsets : Option OffsetsValue) (plain : Bool) →
      PendsUnit meaning old new (settled u) (unit_tables (elsewhere meaning old line_strings strings) u) offsets → AppendsLine meaning old new line_strings strings u → AppendsRanges meaning old new u →
      IsWritable plain (elsewhere meaning old line_strings strings) u → KeepsOtherSections old new → ExtendsFile meaning old new line_strings strings u offsets
  file_more old new line_strings strings u offsets plain p line ranges can others before ws ks id f =
      let w : WrittenUnit = record { id = id; unit = u; line_strings = line_strings; strings = strings } in
      let from = ends_of meaning before in
      let t = elsewhere meaning old line_strings strings in
      let one = pending_one meaning id (settled u) (unit_tables t u) old new p.kept p.tree p.lists in
      let all = pending_then meaning before old new (written_from from ws) (settled_at id t u ∷ []) ks (p.kept ∷ []) f.pending one in
      let here : written_from from ws ++ settled_at id t u ∷ [] ≡ written_from from (ws ++ w ∷ []) =
      ap (λ (e : Ends). written_from from ws ++ settled_at id (found_at e w) u ∷ []) f.ends ∙ sym (written-append from ws (w ∷ []))
      in
      let past : ends_of meaning new ≡ past_ends (ends_of meaning old) u = ap (λ (s : Elsewhere). s.ends) (elsewhere-new meaning old new line_strings strings u line ranges p.lists) in (
        p.kept,
        p.offsets_are,
        record {
          pending = subst (λ ns. Pending meaning before new ns (ks ++ p.kept ∷ [])) here all;
          parts = parts_then meaning before old new ws (w ∷ []) (still_plain before old ws (written_from from ws) ks f.pending f.parts) f.parts (parts_one meaning old new w line ranges (lists_sound t plain u can));
          ends = past ∙ ap (λ (e : Ends). past_ends e u) f.ends ∙ sym (ends-append from ws (w ∷ []));
          stay = All-append (KeepsStrings line_strings strings) ws (w ∷ []) f.stay (All-cons (KeepsStrings line_strings strings) w [] (strings_stay line_strings, strings_stay strings) (All-nil (KeepsStrings line_strings strings)));
          others = front_others before old new f.others others;
          none = λ h. absurd (no_more ws w h);
        },
      )
