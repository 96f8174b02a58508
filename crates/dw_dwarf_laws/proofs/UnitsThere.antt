-- A unit without a fault for a plain writer, with all places counted from the begins of the sections, has a text where its parts
-- start.
use Rattle.std.specs.Prelude.{◌≡◌, ℕ, ◌+◌, ◌==◌, Bool, true, false, not, List, [], ◌∷◌, ◌++◌, length as len, Option, Some, None, refl, IsTrue, IsFalse, if◌then◌else◌}
use Rattle.std.specs.List.{list_all}
use Rattle.std.proofs.Common.{subst, arith}
use Rattle.std.proofs.lemmas.Bool.{and_parts, or_parts}
use Rattle.std.proofs.lemmas.Bool.Decides.{nat_tests}
use Rattle.std.proofs.lemmas.Option.{none-some, same_Some}
use Rattle.dw_base.specs.Numbers.{num, is_width, fits, word_of, escape_of, length_fits}
use Rattle.dw_base.specs.Leb128.{uleb}
use Rattle.dw_base.specs.Abbreviations.{Shape}
use Rattle.dw_base.specs.Spelling.{header_size}
use Rattle.dw_base.specs.Entries.{Mark, Open, Null}
use Rattle.dw_base.specs.declared.common.Encoding.{Encoding}
use Rattle.dw_base.specs.declared.constants.TheConstants.{DW_UT_compile}
use Rattle.dw_base.specs.declared.error.Error.{Error}
use Rattle.dw_base.specs.declared.section_id.SectionId.{SectionId}
use Rattle.dw_base.specs.declared.section_id.SectionId.TheVariants.{DebugAbbrev}
use Rattle.dw_writer.specs.Layout.{Layout, start_of}
use Rattle.dw_writer.specs.Meaning.{Model}
use Rattle.dw_writer.specs.Drafts.{Draft, Info, shifted, no_draft, whole, then_draft}
use Rattle.dw_writer.specs.SectionTexts.{bytes_text, offset_text, after}
use Rattle.dw_writer.specs.declared.fixup.DebugInfoFixup.{DebugInfoFixup}
use Rattle.dw_entries.specs.Values.{value_draft, value_fails}
use Rattle.dw_entries.specs.declared.attribute.Attribute.{Attribute}
use Rattle.dw_entries.specs.declared.value.AttributeValue.{AttributeValue}
use Rattle.dw_entries.specs.Entries.{EntryValue, has_sibling, entry_at}
use Rattle.dw_entries.specs.Targets.{Tables, UnitTargets, HaveInfoPlaces}
use Rattle.dw_entries.specs.Tree.{preorder}
use Rattle.dw_tree.specs.Coded.{code_at}
use Rattle.dw_tree.specs.Places.{Placement, FitsWords, found, targets_of}
use Rattle.dw_tree.specs.UnitFaults.{is_version, is_encodable, attributes_fail, mark_fails, marks_fail}
use Rattle.dw_tree.specs.UnitText.{fitting_text, after_version_text, fields_text, header_text, unit_length, attributes_draft, sibling_draft, code_draft, coded_draft, marks_draft, tree_draft, unit_draft}
use Rattle.dw_tree.specs.Whole.{tree_shapes}
use Rattle.dw_tree.proofs.UnitSteps.{length_text-fits}
use Rattle.dw_dwarf_laws.specs.Starts.{StartsAt}
use Rattle.dw_dwarf_laws.specs.Values.{value_fits, is_macro, mark_passes, tree_passes, has_no_macros}
use Rattle.dw_dwarf_laws.proofs.Moved.{IsMoved}
use Rattle.dw_dwarf_laws.proofs.There.{IsThere, itself_there, followed_there, number_there, word_wide}
use Rattle.dw_dwarf_laws.proofs.ValuesThere.{value_joined}

-- places of references that stand one behind another
places_parts : (info : Info) (hs ks : List DebugInfoFixup) → HaveInfoPlaces info (hs ++ ks) → HaveInfoPlaces info hs × HaveInfoPlaces info ks
places_parts info [] ks h = (tt, h)
places_parts info (x ∷ hs) ks h = let more = places_parts info hs ks h.1 in ((h.0, more.0), more.1)

-- and of references that stand further on
places_back : (info : Info) (n : ℕ) (hs : List DebugInfoFixup) → HaveInfoPlaces info (shifted n hs) → HaveInfoPlaces info hs
places_back info n [] h = tt
places_back info n (x ∷ hs) h = (record { place = h.0.place; is = h.0.is; fits = h.0.fits }, places_back info n hs h.1)

not_true : (b : Bool) → IsTrue (not b) → IsFalse b
not_true true h = absurd (let k : false ≡ true = h in cc)
not_true false h = refl

version_fits : (v : ℕ) → IsTrue (is_version v) → IsTrue (fits 2 v)
version_fits v h = grind (arith, nat_tests)

width_fits : (w : ℕ) → IsTrue (is_width w) → IsTrue (fits 1 w)
width_fits w h = grind (arith, nat_tests)

-- the place of an entry is one of the placement's
found_fits : (w : ℕ) (place : ℕ → ℕ) (i n : ℕ) → IsTrue (fits w (place i)) → found place i ≡ Some n → IsTrue (fits w n)
found_fits w place i n fit h = either (place i == 0) h
  where
    either : (none : Bool) → ◌≡◌ {A = Option ℕ} (if none then None else Some (place i)) (Some n) → IsTrue (fits w n)
    either true k = absurd (none-some n k)
    either false k = subst (λ x. IsTrue (fits w x)) (same_Some (place i) n k) fit

module _ (info : Info) (big : Bool) (l : Layout) where
  -- a text is there, once its references have places that fit
  abbrev pub IsFilled : Draft → Type 0
  IsFilled d = HaveInfoPlaces info d.holes → IsThere (d.text info big l)

  pub then_filled : (d f : Draft) → IsFilled d → IsFilled f → IsFilled (then_draft d f)
  unfolding then_draft
  then_filled d f x y holes =
      let parts = places_parts info d.holes (shifted d.size f.holes) holes in
      followed_there (d.text info big l) (f.text info big l) (x parts.0) (y (places_back info d.size f.holes parts.1))

  whole_filled : (n : ℕ) (t : Model) → IsThere (t big l) → IsFilled (whole n t)
  whole_filled n t h holes = h

  pub nothing_filled : IsFilled no_draft
  nothing_filled holes = itself_there []

  bytes_there : (xs : List ℕ) → IsThere (bytes_text xs big l)
  unfolding bytes_text
  bytes_there xs = itself_there xs

  fitting_there : (w n : ℕ) → IsTrue (is_width w) → IsTrue (fits w n) → IsThere (fitting_text w n big l)
  unfolding fitting_text
  fitting_there w n wide fit = number_there big w n wide fit

  -- Headers, whose table has a place in the section that fits

  module _ (e : Encoding) (table : ℕ) (encodable : IsTrue (is_encodable e)) (place : IsTrue (fits (word_of e.format) (table + start_of l DebugAbbrev))) where
    version : IsTrue (is_version e.version)
    version = (and_parts (is_version e.version) (is_width e.address_size) encodable).0

    address_size-there : IsThere (fitting_text 1 e.address_size big l)
    address_size-there = fitting_there 1 e.address_size refl (width_fits e.address_size (and_parts (is_version e.version) (is_width e.address_size) encodable).1)

    table-there : IsThere (offset_text (word_of e.format) DebugAbbrev table big l)
    unfolding offset_text
    table-there = number_there big (word_of e.format) (table + start_of l DebugAbbrev) (word_wide e.format) place

    after_version-there : IsThere (after_version_text e table big l)
    unfolding after
    after_version-there = either (e.version == 5)
      where
        either : (new : Bool) →
            IsThere ((if new then after (fitting_text 1 DW_UT_compile.0) (after (fitting_text 1 e.address_size) (offset_text (word_of e.format) DebugAbbrev table)) else after (offset_text (word_of e.format) DebugAbbrev table) (fitting_text 1 e.address_size)) big l)
        either true = followed_there _ _ (fitting_there 1 DW_UT_compile.0 refl refl) (followed_there _ _ address_size-there table-there)
        either false = followed_there _ _ table-there address_size-there

    fields_there : IsThere (fields_text e table big l)
    unfolding fields_text after
    fields_there = followed_there _ _ (fitting_there 2 e.version refl (version_fits e.version version)) after_version-there

    header_there : (size : ℕ) → IsTrue (length_fits e.format (unit_length e size)) → IsThere (header_text e table size big l)
    unfolding header_text after
    header_there size fit =
        let length : ℕ = unit_length e size in
        followed_there _ _ (bytes_there (escape_of e.format)) (followed_there _ _ (num big (word_of e.format) length, length_text-fits e.format length big l fit) fields_there)

  -- Entries

  module _ (starts : SectionId → ℕ) (strings line_strings : List (List ℕ)) (at : StartsAt starts l) (e : Encoding) (t joined : Tables) (move : IsMoved starts strings line_strings e t joined) (p : Placement) (fit : FitsWords e.format p) where
    abbrev own : UnitTargets
    own = targets_of t p

    abbrev behind : UnitTargets
    behind = targets_of joined p

    abbrev strings_fit : AttributeValue → Bool
    strings_fit v = value_fits starts strings line_strings (word_of e.format) v

    abbrev no_macro : AttributeValue → Bool
    no_macro v = not (is_macro v)

    attributes_there : (xs : List Attribute) → ((err : Error) → IsFalse (attributes_fail e behind true xs err)) → IsTrue (list_all (λ a. strings_fit a.value) xs) → IsTrue (list_all (λ a. no_macro a.value) xs) → IsFilled (attributes_draft e own xs)
    attributes_there [] sound named none = nothing_filled
    attributes_there (a ∷ xs) sound named none =
        let parts = λ (err : Error). or_parts (value_fails e behind true a.value err) (attributes_fail e behind true xs err) (sound err) in
        let names = and_parts (strings_fit a.value) (list_all (λ x. strings_fit x.value) xs) named in
        let nones = and_parts (no_macro a.value) (list_all (λ x. no_macro x.value) xs) none in
        then_filled (value_draft e own a.value) (attributes_draft e own xs)
        (λ holes. value_joined starts strings line_strings big e own joined l info at move a.value holes (λ i n. found_fits (word_of e.format) p.place i n (fit i).0) (λ err. (parts err).0) names.0 (not_true (is_macro a.value) nones.0))
        (attributes_there xs (λ err. (parts err).1) names.1 nones.1)

    sibling_there : (i : ℕ) (x : EntryValue) → IsFilled (sibling_draft e (own.past i) x)
    sibling_there i x = either (has_sibling x)
      where
        either : (named : Bool) → IsFilled (if named then whole (word_of e.format) (fitting_text (word_of e.format) (own.past i)) else no_draft)
        either true = whole_filled (word_of e.format) (fitting_text (word_of e.format) (own.past i)) (fitting_there (word_of e.format) (own.past i) (word_wide e.format) (fit i).1)
        either false = nothing_filled

    module _ (es : List EntryValue) where
      mark_there : (shapes : List Shape) (m : Mark ℕ) → ((err : Error) → IsFalse (mark_fails e es behind true m err)) → IsTrue (mark_passes strings_fit es m) → IsTrue (mark_passes no_macro es m) → IsFilled (coded_draft e es own shapes m)
      mark_there shapes (Open i) sound named none =
          let x = entry_at es i in
          let code = code_at e es shapes (Open i) in
          then_filled (code_draft code) (then_draft (sibling_draft e (own.past i) x) (attributes_draft e own x.attributes)) (whole_filled (len (uleb code)) (bytes_text (uleb code)) (bytes_there (uleb code)))
          (then_filled (sibling_draft e (own.past i) x) (attributes_draft e own x.attributes) (sibling_there i x) (attributes_there x.attributes sound named none))
      mark_there shapes Null sound named none = whole_filled 1 (bytes_text (0 ∷ [])) (bytes_there (0 ∷ []))

      marks_there : (shapes : List Shape) (ms : List (Mark ℕ)) → ((err : Error) → IsFalse (marks_fail e es behind true ms err)) → IsTrue (list_all (mark_passes strings_fit es) ms) → IsTrue (list_all (mark_passes no_macro es) ms) →
          IsFilled (marks_draft e es own shapes ms)
      marks_there shapes [] sound named none = nothing_filled
      marks_there shapes (m ∷ ms) sound named none =
          let parts = λ (err : Error). or_parts (mark_fails e es behind true m err) (marks_fail e es behind true ms err) (sound err) in
          let names = and_parts (mark_passes strings_fit es m) (list_all (mark_passes strings_fit es) ms) named in
          let nones = and_parts (mark_passes no_macro es m) (list_all (mark_passes no_macro es) ms) none in
          then_filled (coded_draft e es own shapes m) (marks_draft e es own shapes ms) (mark_there shapes m (λ err. (parts err).0) names.0 nones.0) (marks_there shapes ms (λ err. (parts err).1) names.1 nones.1)

      -- a unit whose table has a place that fits, and whose length has a spelling
      pub unit_joined : (table : ℕ) → IsTrue (is_encodable e) → IsTrue (fits (word_of e.format) (table + start_of l DebugAbbrev)) → IsTrue (length_fits e.format (unit_length e (tree_draft e es own).size)) →
          ((err : Error) → IsFalse (marks_fail e es behind true (preorder es) err)) → IsTrue (tree_passes strings_fit es) → IsTrue (has_no_macros es) → IsFilled (unit_draft e table (tree_draft e es own))
      unit_joined table encodable place length sound named none =
          let body = tree_draft e es own in
          then_filled (whole (header_size e) (header_text e table body.size)) body (whole_filled (header_size e) (header_text e table body.size) (header_there e table encodable place body.size length))
          (marks_there (tree_shapes e es) (preorder es) sound named none)
