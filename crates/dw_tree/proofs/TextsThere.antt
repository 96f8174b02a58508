-- The texts of units without a fault are there where every section starts at 0.
use Rattle.std.specs.Prelude.{◌≡◌, ℕ, ◌+◌, Bool, true, false, not, ◌==◌, List, [], ◌∷◌, ◌++◌, length as len, Option, Some, None, refl, IsTrue, IsFalse, if◌then◌else◌}
use Rattle.std.proofs.Common.{sym, ◌∙◌, ap, subst, arith, add-zero}
use Rattle.std.proofs.lemmas.Bool.{and_parts, or_parts}
use Rattle.std.proofs.lemmas.Bool.Decides.{nat_tests}
use Rattle.std.proofs.lemmas.Option.{none-some, same_Some}
use Rattle.dw_base.specs.Numbers.{num, is_width, fits, word_of, escape_of, length_fits}
use Rattle.dw_base.specs.Leb128.{uleb}
use Rattle.dw_base.specs.Abbreviations.{Shape}
use Rattle.dw_base.specs.Spelling.{header_size}
use Rattle.dw_base.specs.Entries.{Mark, Open, Null}
use Rattle.dw_base.specs.declared.common.Encoding.{Encoding}
use Rattle.dw_base.specs.declared.constants.TheConstants.{DW_UT_compile}
use Rattle.dw_base.specs.declared.error.Error.{Error}
use Rattle.dw_base.specs.declared.error.Error.TheVariants as errors
use Rattle.dw_base.specs.declared.section_id.SectionId.TheVariants.{DebugAbbrev}
use Rattle.dw_writer.specs.Causes.{offset_fits}
use Rattle.dw_writer.specs.Texts.{Text, num_text, followed}
use Rattle.dw_writer.specs.Meaning.{Model}
use Rattle.dw_writer.specs.Drafts.{Draft, Info, shifted, no_draft, whole, then_draft}
use Rattle.dw_writer.specs.declared.fixup.DebugInfoFixup.{DebugInfoFixup}
use Rattle.dw_writer.specs.SectionTexts.{bytes_text, offset_text, after}
use Rattle.dw_writer.proofs.Laws.{followed-somes}
use Rattle.dw_entries.specs.Values.{value_draft, value_fails}
use Rattle.dw_entries.specs.declared.attribute.Attribute.{Attribute}
use Rattle.dw_entries.specs.Entries.{EntryValue, has_sibling, entry_at}
use Rattle.dw_entries.specs.Targets.{Tables, UnitTargets, HaveInfoPlaces}
use Rattle.dw_entries.specs.Tree.{preorder}
use Rattle.dw_entries.proofs.ValuesThere.{value_there}
use Rattle.dw_tree.specs.Built.{at_zero}
use Rattle.dw_tree.specs.Coded.{code_at}
use Rattle.dw_tree.specs.Pending.{IsThere, IsThereFilled}
use Rattle.dw_tree.specs.Places.{Placement, FitsWords, found, targets_of}
use Rattle.dw_tree.specs.UnitFaults.{is_version, is_encodable, attributes_fail, mark_fails, marks_fail, header_fails, unit_fails}
use Rattle.dw_tree.specs.UnitText.{fitting_text, after_version_text, fields_text, header_text, unit_length, attributes_draft, sibling_draft, code_draft, coded_draft, marks_draft, tree_draft, unit_draft}
use Rattle.dw_tree.specs.Whole.{tree_shapes}
use Rattle.dw_tree.proofs.Drafted.{num_text-fits, width-word}
use Rattle.dw_tree.proofs.UnitSteps.{length_text-fits}

-- Texts

-- one text after another
pub followed_there : (a b : Text) → IsThere a → IsThere b → IsThere (followed a b)
followed_there a b x y = (x.0 ++ y.0, ap (λ t. followed t b) x.1 ∙ ap (followed (Some x.0)) y.1 ∙ followed-somes x.0 y.0)

-- places of references that stand one behind another
places_parts : (info : Info) (hs ks : List DebugInfoFixup) → HaveInfoPlaces info (hs ++ ks) → HaveInfoPlaces info hs × HaveInfoPlaces info ks
places_parts info [] ks h = (tt, h)
places_parts info (x ∷ hs) ks h = let more = places_parts info hs ks h.1 in ((h.0, more.0), more.1)

-- and of references that stand further on
places_back : (info : Info) (n : ℕ) (hs : List DebugInfoFixup) → HaveInfoPlaces info (shifted n hs) → HaveInfoPlaces info hs
places_back info n [] h = tt
places_back info n (x ∷ hs) h = (record { place = h.0.place; is = h.0.is; fits = h.0.fits }, places_back info n hs h.1)

-- one draft after another
pub then_filled : (d f : Draft) → IsThereFilled d → IsThereFilled f → IsThereFilled (then_draft d f)
unfolding then_draft
then_filled d f x y info holes big =
    let parts = places_parts info d.holes (shifted d.size f.holes) holes in
    followed_there (d.text info big at_zero) (f.text info big at_zero) (x info parts.0 big) (y info (places_back info d.size f.holes parts.1) big)

-- a text without references
whole_filled : (n : ℕ) (t : Model) → ((big : Bool) → IsThere (t big at_zero)) → IsThereFilled (whole n t)
whole_filled n t h info holes big = h big

pub nothing_filled : IsThereFilled no_draft
nothing_filled info holes big = ([], refl)

-- bytes
bytes_there : (big : Bool) (xs : List ℕ) → IsThere (bytes_text xs big at_zero)
unfolding bytes_text
bytes_there big xs = (xs, refl)

-- a number that fits
number_there : (big : Bool) (w n : ℕ) → IsTrue (is_width w) → IsTrue (fits w n) → IsThere (num_text big w n)
number_there big w n wide fit = (num big w n, num_text-fits big w n wide fit)

fitting_there : (big : Bool) (w n : ℕ) → IsTrue (is_width w) → IsTrue (fits w n) → IsThere (fitting_text w n big at_zero)
unfolding fitting_text
fitting_there big w n wide fit = number_there big w n wide fit

-- an offset into a section that starts at 0
offset_there : (big : Bool) (w n : ℕ) → IsTrue (is_width w) → IsTrue (fits w n) → IsThere (offset_text w DebugAbbrev n big at_zero)
unfolding offset_text
offset_there big w n wide fit = number_there big w (n + 0) wide (subst (λ k. IsTrue (fits w k)) (sym (add-zero n)) fit)

-- Headers

version_fits : (v : ℕ) → IsTrue (is_version v) → IsTrue (fits 2 v)
version_fits v h = grind (arith, nat_tests)

width_fits : (w : ℕ) → IsTrue (is_width w) → IsTrue (fits 1 w)
width_fits w h = grind (arith, nat_tests)

module _ (big : Bool) (e : Encoding) (table : ℕ) (encodable : IsTrue (is_encodable e)) (place : IsTrue (offset_fits true (word_of e.format) table)) where
  version : IsTrue (is_version e.version)
  version = (and_parts (is_version e.version) (is_width e.address_size) encodable).0

  width : IsTrue (is_width e.address_size)
  width = (and_parts (is_version e.version) (is_width e.address_size) encodable).1

  address_size-there : IsThere (fitting_text 1 e.address_size big at_zero)
  address_size-there = fitting_there big 1 e.address_size refl (width_fits e.address_size width)

  table-there : IsThere (offset_text (word_of e.format) DebugAbbrev table big at_zero)
  table-there = offset_there big (word_of e.format) table (width-word e.format) place

  after_version-there : IsThere (after_version_text e table big at_zero)
  unfolding after
  after_version-there = either (e.version == 5)
    where
      either : (new : Bool) →
          IsThere ((if new then after (fitting_text 1 DW_UT_compile.0) (after (fitting_text 1 e.address_size) (offset_text (word_of e.format) DebugAbbrev table)) else after (offset_text (word_of e.format) DebugAbbrev table) (fitting_text 1 e.address_size)) big at_zero)
      either true = followed_there _ _ (fitting_there big 1 DW_UT_compile.0 refl refl) (followed_there _ _ address_size-there table-there)
      either false = followed_there _ _ table-there address_size-there

  fields_there : IsThere (fields_text e table big at_zero)
  unfolding fields_text after
  fields_there = followed_there _ _ (fitting_there big 2 e.version refl (version_fits e.version version)) after_version-there

  -- a header, where the length has a spelling and the table's place has room
  pub header_there : (size : ℕ) → IsTrue (length_fits e.format (unit_length e size)) → IsThere (header_text e table size big at_zero)
  unfolding header_text after
  header_there size fit =
      let length : ℕ = unit_length e size in
      followed_there _ _ (bytes_there big (escape_of e.format)) (followed_there _ _ (num big (word_of e.format) length, length_text-fits e.format length big at_zero fit) fields_there)

-- Entries

module _ (e : Encoding) (u : UnitTargets) (wide : IsTrue (is_width e.address_size))
    (places : (i n : ℕ) → u.place i ≡ Some n → IsTrue (fits (word_of e.format) n)) (pasts : (i : ℕ) → IsTrue (fits (word_of e.format) (u.past i))) where
  attributes_there : (xs : List Attribute) → ((err : Error) → IsFalse (attributes_fail e u true xs err)) → IsThereFilled (attributes_draft e u xs)
  attributes_there [] sound = nothing_filled
  attributes_there (a ∷ xs) sound =
      let parts = λ (err : Error). or_parts (value_fails e u true a.value err) (attributes_fail e u true xs err) (sound err) in
      then_filled (value_draft e u a.value) (attributes_draft e u xs)
      (λ info holes big. value_there big e u at_zero info a.value (λ s. refl) holes places (λ err. (parts err).0)) (attributes_there xs (λ err. (parts err).1))

  sibling_there : (i : ℕ) (x : EntryValue) → IsThereFilled (sibling_draft e (u.past i) x)
  sibling_there i x = either (has_sibling x)
    where
      either : (named : Bool) → IsThereFilled (if named then whole (word_of e.format) (fitting_text (word_of e.format) (u.past i)) else no_draft)
      either true = whole_filled (word_of e.format) (fitting_text (word_of e.format) (u.past i)) (λ big. fitting_there big (word_of e.format) (u.past i) (width-word e.format) (pasts i))
      either false = nothing_filled

  module _ (es : List EntryValue) where
    mark_there : (shapes : List Shape) (m : Mark ℕ) → ((err : Error) → IsFalse (mark_fails e es u true m err)) → IsThereFilled (coded_draft e es u shapes m)
    mark_there shapes (Open i) sound =
        let x = entry_at es i in
        let code = code_at e es shapes (Open i) in
        then_filled (code_draft code) (then_draft (sibling_draft e (u.past i) x) (attributes_draft e u x.attributes)) (whole_filled (len (uleb code)) (bytes_text (uleb code)) (λ big. bytes_there big (uleb code)))
        (then_filled (sibling_draft e (u.past i) x) (attributes_draft e u x.attributes) (sibling_there i x) (attributes_there x.attributes sound))
    mark_there shapes Null sound = whole_filled 1 (bytes_text (0 ∷ [])) (λ big. bytes_there big (0 ∷ []))

    -- marks whose values have no fault
    pub marks_there : (shapes : List Shape) (ms : List (Mark ℕ)) → ((err : Error) → IsFalse (marks_fail e es u true ms err)) → IsThereFilled (marks_draft e es u shapes ms)
    marks_there shapes [] sound = nothing_filled
    marks_there shapes (m ∷ ms) sound =
        let parts = λ (err : Error). or_parts (mark_fails e es u true m err) (marks_fail e es u true ms err) (sound err) in
        then_filled (coded_draft e es u shapes m) (marks_draft e es u shapes ms) (mark_there shapes m (λ err. (parts err).0)) (marks_there shapes ms (λ err. (parts err).1))

    -- the entries of a tree
    pub tree_there : ((err : Error) → IsFalse (marks_fail e es u true (preorder es) err)) → IsThereFilled (tree_draft e es u)
    tree_there sound = marks_there (tree_shapes e es) (preorder es) sound

-- Units

not_false : (b : Bool) → IsFalse (not b) → IsTrue b
not_false true h = refl
not_false false h = sym h

-- the place of an entry is one of the placement's
found_fits : (w : ℕ) (place : ℕ → ℕ) (i n : ℕ) → IsTrue (fits w (place i)) → found place i ≡ Some n → IsTrue (fits w n)
found_fits w place i n fit h = either (place i == 0) h
  where
    either : (none : Bool) → ◌≡◌ {A = Option ℕ} (if none then None else Some (place i)) (Some n) → IsTrue (fits w n)
    either true k = absurd (none-some n k)
    either false k = subst (λ x. IsTrue (fits w x)) (same_Some (place i) n k) fit

-- A unit without a fault, whose entries stand at places that fit a word.
pub unit_there : (e : Encoding) (es : List EntryValue) (t : Tables) (table : ℕ) (p : Placement) → FitsWords e.format p → IsTrue (is_encodable e) →
    ((err : Error) → IsFalse (unit_fails e es table (targets_of t p) true err)) → IsThereFilled (unit_draft e table (tree_draft e es (targets_of t p)))
unit_there e es t table p fit encodable sound =
    let w : ℕ = word_of e.format in
    let u : UnitTargets = targets_of t p in
    let body : Draft = tree_draft e es u in
    let parts = λ (err : Error). or_parts (header_fails e table true (unit_length e body.size) err) (marks_fail e es u true (preorder es) err) (sound err) in
    let length = not_false (length_fits e.format (unit_length e body.size)) (parts errors.InitialLengthOverflow).0 in
    let place = not_false (offset_fits true w table) (parts errors.ValueTooLarge).0 in
    let wide = (and_parts (is_version e.version) (is_width e.address_size) encodable).1 in
    let places : (i n : ℕ) → u.place i ≡ Some n → IsTrue (fits w n) = λ i n. found_fits w p.place i n (fit i).0 in
    then_filled (whole (header_size e) (header_text e table body.size)) body (whole_filled (header_size e) (header_text e table body.size) (λ big. header_there big e table encodable place body.size length))
    (tree_there e u wide places (λ i. (fit i).1) es (λ err. (parts err).1))
