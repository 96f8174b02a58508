-- A generated unit can be written, and stands wherever it is written.
use Rattle.std.proofs.Common.{◌≡◌, ◌∙◌, sym, ap, subst, refl, arith, ℕ, ◌+◌, ◌<◌, ◌≤◌, ◌^◌, Bool, true, false, List, [], ◌∷◌, ◌++◌, length}
use Rattle.std.specs.Prelude.{All, Option, Some, None, IsTrue, IsFalse, ◌==◌, if◌then◌else◌}
use Rattle.std.specs.List.{list_any}
use Rattle.std.proofs.lemmas.Bool.{lt-ltb, ne_eqb}
use Rattle.std.proofs.lemmas.List.Elements.{All-from_recursion, All-nil, All-cons, All-head, All-tail, All-weaker}
use Rattle.dw_base.specs.Abbreviations.{Shape}
use Rattle.dw_base.specs.Entries.{Mark, Open, Null}
use Rattle.dw_base.specs.Leb128.{uleb}
use Rattle.dw_base.specs.Numbers.{when, length_fits}
use Rattle.dw_base.specs.Spelling.{header_size}
use Rattle.dw_base.specs.declared.common.Format.TheVariants.{Dwarf32}
use Rattle.dw_base.specs.declared.error.Error.{Error}
use Rattle.dw_base.specs.declared.error.Error.TheVariants as errors
use Rattle.dw_writer.specs.Drafts.{no_draft, whole, IsDraft}
use Rattle.dw_writer.specs.Meaning.{Layout}
use Rattle.dw_writer.specs.SectionTexts.{bytes_text, offset_text, after}
use Rattle.dw_writer.specs.Texts.{num_text}
use Rattle.dw_writer.proofs.DraftLaws.{bound-wide, whole-draft, no-draft, then-draft, all-drafts}
use Rattle.dw_writer.proofs.Laws.{IsWide}
use Rattle.dw_writer.proofs.Steps.{followed_texts-wide}
use Rattle.dw_entries.specs.declared.attribute.Attribute.{Attribute}
use Rattle.dw_entries.specs.Entries.{EntryValue, entry_at, has_sibling}
use Rattle.dw_entries.specs.Targets.{Tables, UnitTargets}
use Rattle.dw_entries.specs.Tree.{has_entry, preorder}
use Rattle.dw_entries.specs.Values.{IsRanged}
use Rattle.dw_entries.proofs.ValueTexts.{value-draft}
use Rattle.dw_tree.specs.Built.{Starts}
use Rattle.dw_tree.specs.Coded.{code_of_entry}
use Rattle.dw_tree.specs.Early.{attributes_unplaced, mark_unplaced, standing, is_forward, tree_is_forward}
use Rattle.dw_tree.specs.Laid.{sibling_size, values_size, sized, place_from, laid_from}
use Rattle.dw_tree.specs.Pending.{AreRanged, IsMarkRanged, Stands}
use Rattle.dw_tree.specs.Places.{Placement, found, targets_of}
use Rattle.dw_tree.specs.UnitFaults.{attributes_fail, mark_fails, marks_fail}
use Rattle.dw_tree.specs.UnitText.{fitting_text, length_text, fields_text, header_text, unit_length, attribute_draft, sibling_draft, code_draft, mark_draft, coded_draft, tree_draft}
use Rattle.dw_tree.specs.Valid.{IsWritableTree}
use Rattle.dw_tree.specs.Whole.{tree_shapes, tree_size, IsTreePlacement}
use Rattle.dw_tree.proofs.Faults.{neither}
use Rattle.dw_tree.proofs.OnePlacement.{AgreeOn, place_agree, past_agree}
use Rattle.dw_tree.proofs.ReadMarks.{tree_draft-size}
use Rattle.dw_tree.proofs.TreeWritten.{tree_is_one}
use Rattle.dw_build.specs.Generated.{generated_encoding, base_type, base_type_id}
use Rattle.dw_build.proofs.Drafts.{variable_that}
use Rattle.dw_build.proofs.MadeTrees.{made_root, made_entries, made_marks, IfOpen, each_mark, each_entry, entry_of, made_tree}
use Rattle.dw_build.proofs.MadeSizes.{tree_few, tree_bounded, table_declared}

-- Faults

none_any : {X : Type 0} (p : X → Bool) (xs : List X) → All (λ x. IsFalse (p x)) xs → IsFalse (list_any p xs)
none_any p [] h = refl
none_any p (x ∷ xs) h = neither (p x) (list_any p xs) (All-head (λ x. IsFalse (p x)) x xs h) (none_any p xs (All-tail (λ x. IsFalse (p x)) x xs h))

-- no value of an entry has a fault, where the base type has a place
abbrev IsFaultless : UnitTargets → EntryValue → Type 0
IsFaultless u x = (err : Error) → IsFalse (attributes_fail generated_encoding u true x.attributes err)

base_faultless : (u : UnitTargets) → IsFaultless u base_type
base_faultless u errors.ValueTooLarge = refl
base_faultless u err = refl

module _ (u : UnitTargets) (at : ℕ) (has : u.place base_type_id ≡ Some at) where
  variable_faultless : (b : Bool) (id i : ℕ) → i < 2 ^ 64 → IsFaultless u (variable_that b id i)
  variable_faultless true id i small errors.InvalidReference = rw has refl
  variable_faultless true id i small err = refl
  variable_faultless false id i small errors.InvalidReference = rw has refl
  variable_faultless false id i small err = refl

-- the numbers of all values are those of their types
abbrev IsInRange : EntryValue → Type 0
IsInRange x = AreRanged generated_encoding x.attributes

abbrev HasRange : Attribute → Type 0
HasRange a = IsRanged generated_encoding a.value

base_ranged : IsInRange base_type
base_ranged = All-cons HasRange _ [] tt (All-nil HasRange)

variable_ranged : (b : Bool) (id i : ℕ) → i < 2 ^ 64 → IsInRange (variable_that b id i)
variable_ranged true id i small = All-from_recursion HasRange (variable_that true id i).attributes (small, (tt, (tt, tt)))
variable_ranged false id i small = All-from_recursion HasRange (variable_that false id i).attributes (small, (tt, tt))

-- No size hangs on a place

abbrev HangsOnNothing : EntryValue → Type 0
HangsOnNothing x = (known : ℕ → Option ℕ) (err : Error) → IsFalse (attributes_unplaced generated_encoding known x.attributes err)

variable_hangs : (b : Bool) (id i : ℕ) → HangsOnNothing (variable_that b id i)
variable_hangs true id i known err = refl
variable_hangs false id i known err = refl

abbrev HasOneSize : EntryValue → Type 0
HasOneSize x = (p q : ℕ → Option ℕ) → values_size generated_encoding p x.attributes ≡ values_size generated_encoding q x.attributes

variable_size : (b : Bool) (id i : ℕ) → HasOneSize (variable_that b id i)
variable_size true id i p q = refl
variable_size false id i p q = refl

early_from : (es : List EntryValue) (before ms : List (Mark ℕ)) → All (IfOpen HangsOnNothing es) ms → (err : Error) → IsFalse (is_forward generated_encoding es before ms err)
early_from es before [] h err = refl
early_from es before (m ∷ ms) h err =
    neither (mark_unplaced generated_encoding es (standing (before ++ m ∷ [])) m err) (is_forward generated_encoding es (before ++ m ∷ []) ms err) (here m (All-head (IfOpen HangsOnNothing es) m ms h))
    (early_from es (before ++ m ∷ []) ms (All-tail (IfOpen HangsOnNothing es) m ms h) err)
  where
    here : (k : Mark ℕ) → IfOpen HangsOnNothing es k → IsFalse (mark_unplaced generated_encoding es (standing (before ++ m ∷ [])) k err)
    here (Open i) own = own (standing (before ++ m ∷ [])) err
    here Null own = refl

pub made_early : (from n : ℕ) (err : Error) → IsFalse (tree_is_forward generated_encoding (made_entries from n) err)
made_early from n err =
    let es = made_entries from n in
    subst (λ ms. IsFalse (is_forward generated_encoding es [] ms err)) (sym (made_tree from n))
    (early_from es [] (made_marks n) (each_entry HangsOnNothing from n (λ known e. refl) (λ known e. refl) variable_hangs) err)

-- Drafts

number-wide : (w n : ℕ) (big : Bool) → IsWide w (num_text big w n)
number-wide w n big = bound-wide big w (Some n)

length-wide : (n : ℕ) (big : Bool) (l : Layout) → IsWide 4 (length_text Dwarf32 n big l)
unfolding length_text
length-wide n big l = by_test (length_fits Dwarf32 n)
  where
    by_test : (b : Bool) → IsWide 4 (when b (num_text big 4 n))
    by_test true = number-wide 4 n big
    by_test false = λ xs e. cc

header-wide : (table size : ℕ) (big : Bool) (l : Layout) → IsWide (header_size generated_encoding) (header_text generated_encoding table size big l)
unfolding header_text after bytes_text fields_text fitting_text offset_text
header-wide table size big l =
    followed_texts-wide 0 12 _ _ (λ xs e. let f : ◌≡◌ {A = List ℕ} [] xs = cc in sym (ap length f))
    (followed_texts-wide 4 8 _ _ (length-wide (unit_length generated_encoding size) big l)
    (followed_texts-wide 2 6 _ _ (number-wide 2 5 big)
    (followed_texts-wide 1 5 _ _ (number-wide 1 1 big)
    (followed_texts-wide 1 4 _ _ (number-wide 1 8 big) (number-wide 4 _ big)))))

code_drafted : (code : ℕ) → IsDraft (code_draft code)
unfolding bytes_text
code_drafted code = whole-draft (length (uleb code)) (bytes_text (uleb code)) (λ big l xs e. let f : uleb code ≡ xs = cc in sym (ap length f))

null_drafted : IsDraft (whole 1 (bytes_text (0 ∷ [])))
unfolding bytes_text
null_drafted = whole-draft 1 (bytes_text (0 ∷ [])) (λ big l xs e. let f : ◌≡◌ {A = List ℕ} (0 ∷ []) xs = cc in sym (ap length f))

sibling_drafted : (past : ℕ) (x : EntryValue) → IsDraft (sibling_draft generated_encoding past x)
unfolding fitting_text
sibling_drafted past x = by_test (has_sibling x)
  where
    by_test : (b : Bool) → IsDraft (if b then whole 4 (fitting_text 4 past) else no_draft)
    by_test true = whole-draft 4 (fitting_text 4 past) (λ big l. number-wide 4 past big)
    by_test false = no-draft

module _ (es : List EntryValue) (u : UnitTargets) (shapes : List Shape) where
  mark_drafted : (code : ℕ) (m : Mark ℕ) → IsDraft (mark_draft generated_encoding es u code m)
  mark_drafted code (Open i) =
      let x = entry_at es i in
      then-draft (code_drafted code) (then-draft (sibling_drafted (u.past i) x)
      (all-drafts (attribute_draft generated_encoding u) x.attributes (λ a. value-draft generated_encoding u a.value refl)))
  mark_drafted code Null = null_drafted

-- The places

module _ (t : Tables) (from n : ℕ) where
  abbrev es : List EntryValue
  es = made_entries from n

  abbrev sizes : (ℕ → ℕ) → ℕ → ℕ
  sizes place = sized generated_encoding es (tree_shapes generated_encoding es) place

  -- The sizes of entries don't hang on where they stand.
  abbrev pub made_places : Placement
  made_places = laid_from (sizes (λ i. 0)) es (header_size generated_encoding) (preorder es)

  abbrev place_at : ℕ → Option ℕ
  place_at = found made_places.place

  abbrev targets : UnitTargets
  targets = targets_of t made_places

  pub made_placed : IsTreePlacement generated_encoding es made_places
  made_placed =
      let shapes = tree_shapes generated_encoding es in
      let each = each_entry HasOneSize from n (λ p q. refl) (λ p q. refl) variable_size in
      let agree : AgreeOn (sizes (λ i. 0)) (sizes made_places.place) (preorder es) = λ i there.
      let x = entry_at es i in
      let own = entry_of HasOneSize es (made_marks n) each i (sym (ap (λ ms. has_entry ms i) (made_tree from n)) ∙ there) in
      ap (λ k. length (uleb (code_of_entry generated_encoding es shapes i)) + (sibling_size generated_encoding x + k)) (own (found (λ i. 0)) (found made_places.place)) in
      record {
        place = λ i. place_agree (sizes (λ i. 0)) (sizes made_places.place) es (header_size generated_encoding) (preorder es) agree i;
        past = λ i. past_agree (sizes (λ i. 0)) (sizes made_places.place) es (header_size generated_encoding) (preorder es) agree i;
      }

  -- the root stands behind the header
  pub root_place : made_places.place 0 ≡ 12
  root_place = ap (λ ms. place_from (sizes (λ i. 0)) es (header_size generated_encoding) ms 0) (made_tree from n)

  -- and the base type behind the root
  base_place : place_at base_type_id ≡ Some (12 + sizes (λ i. 0) 0)
  base_place =
      let at = 12 + sizes (λ i. 0) 0 in
      let is : made_places.place base_type_id ≡ at = ap (λ ms. place_from (sizes (λ i. 0)) es (header_size generated_encoding) ms base_type_id) (made_tree from n) in
      let some : (at == 0) ≡ false = ne_eqb at 0 (λ e. omega (arith, e)) in
      ap (λ k. if k == 0 then None else Some k) is ∙ ap (λ (b : Bool). if b then None else Some at) some

  module _ (within : from + n ≤ 2 ^ 64) (few : n ≤ 1000) where
    length_fitting : IsTrue (length_fits Dwarf32 (unit_length generated_encoding (tree_size generated_encoding es made_places.place)))
    length_fitting = lt-ltb (unit_length generated_encoding (tree_size generated_encoding es made_places.place)) 0xffff_fff0 (omega (arith, tree_bounded from n within made_places.place, few))

    no_fault : (err : Error) → IsFalse (marks_fail generated_encoding es targets true (preorder es) err)
    no_fault err =
        let fails : Mark ℕ → Bool = λ m. mark_fails generated_encoding es targets true m err in
        let root : IsFaultless targets (made_root n) = λ e. refl in
        let each = each_mark (IsFaultless targets) from n within root (base_faultless targets) (variable_faultless targets (12 + sizes (λ i. 0) 0) base_place) in
        subst (λ ms. IsFalse (marks_fail generated_encoding es targets true ms err)) (sym (made_tree from n))
        (none_any fails (made_marks n) (All-weaker (IfOpen (IsFaultless targets) es) (λ m. IsFalse (fails m)) mark_faultless (made_marks n) each))
      where
        mark_faultless : (m : Mark ℕ) → IfOpen (IsFaultless targets) es m → IsFalse (mark_fails generated_encoding es targets true m err)
        mark_faultless (Open i) h = h err
        mark_faultless Null h = refl

    -- it can be written
    pub made_writable : IsWritableTree true generated_encoding es t
    made_writable = record {
      encodable = refl;
      places = made_places;
      placed = made_placed;
      early = made_early from n;
      room = omega (arith, tree_bounded from n within made_places.place, few);
      fits = length_fitting;
      sound = no_fault;
    }

    ranged : All (IsMarkRanged generated_encoding es) (preorder es)
    ranged =
        subst (All (IsMarkRanged generated_encoding es)) (sym (made_tree from n))
        (All-weaker (IfOpen IsInRange es) (IsMarkRanged generated_encoding es) mark_ranged (made_marks n) (each_mark IsInRange from n within (All-nil HasRange) base_ranged variable_ranged))
      where
        mark_ranged : (m : Mark ℕ) → IfOpen IsInRange es m → IsMarkRanged generated_encoding es m
        mark_ranged (Open i) h = h
        mark_ranged Null h = tt

    -- it stands wherever it begins
    pub made_stands : (at : Starts) → Stands at generated_encoding es t (record { starts = at; places = made_places })
    made_stands at =
        let u = targets in
        let shapes = tree_shapes generated_encoding es in
        let body = tree_draft generated_encoding es u in
        record {
          starts = refl;
          placed = made_placed;
          early = made_early from n;
          draft = then-draft (whole-draft (header_size generated_encoding) (header_text generated_encoding at.abbrevs body.size) (header-wide at.abbrevs body.size))
              (all-drafts (coded_draft generated_encoding es u shapes) (preorder es) (λ m. mark_drafted es u shapes _ m));
          encodable = refl;
          fits = ap (λ k. length_fits Dwarf32 (unit_length generated_encoding k)) (tree_draft-size generated_encoding es t made_places) ∙ length_fitting;
          ranged = ranged;
          declared = table_declared from n within (omega (arith, few));
          few = omega (arith, tree_few from n within, few);
          tree = tree_is_one es (λ e. omega (arith, e));
        }
