-- What is generated for a number up to the most is valid.
use Rattle.std.proofs.Common.{◌≡◌, ◌∙◌, sym, ap, subst, refl, arith, inr, ℕ, zero, suc, ◌+◌, ◌-◌, ◌*◌, ◌/◌, ◌<◌, ◌≤◌, ◌^◌, Bool, true, false, List, [], ◌∷◌, ◌++◌, length}
use Rattle.std.specs.Prelude.{All, Some, None, is_none, IsFalse, ◌||◌, min, ◌==◌, if◌then◌else◌}
use Rattle.std.specs.Option.{option_map}
use Rattle.std.proofs.lemmas.Bool.{lt-ltb}
use Rattle.std.proofs.lemmas.List.{length-append}
use Rattle.std.proofs.lemmas.List.Elements.{All-nil, All-cons, All-head, All-tail, All-append}
use Rattle.dw_base.specs.Entries.{Mark, Open, Null}
use Rattle.dw_base.specs.Numbers.{word_of, fits}
use Rattle.dw_base.specs.declared.error.Error.{Error}
use Rattle.dw_base.specs.declared.error.Error.TheVariants as errors
use Rattle.dw_writer.specs.Drafts.{Draft, Info, no_draft, then_draft, shifted}
use Rattle.dw_writer.proofs.DraftLaws.{then-nothing}
use Rattle.dw_writer.specs.declared.fixup.DebugInfoFixup.{DebugInfoFixup}
use Rattle.dw_entries.specs.Entries.{EntryValue}
use Rattle.dw_entries.specs.Targets.{Tables, UnitTargets}
use Rattle.dw_tree.specs.Built.{Numbered, Starts, settled_at, numbered, numbered_from, at_begin, table_size}
use Rattle.dw_tree.specs.Coded.{code_at}
use Rattle.dw_tree.specs.Elsewhere.{Elsewhere, tables_in, past_parts, past_elsewhere}
use Rattle.dw_tree.specs.Locations.{location_part}
use Rattle.dw_tree.specs.Pending.{Kept, past_kept, draft_of, draft_at, units_draft, locations_draft, info_of, StandsAt, AreInRow}
use Rattle.dw_tree.specs.Places.{targets_of}
use Rattle.dw_tree.specs.ReferenceFaults.{lists_refer_wrong}
use Rattle.dw_tree.specs.UnitFaults.{has_no_room, hole_fails, holes_fail}
use Rattle.dw_tree.specs.UnitText.{entry_draft, mark_draft, marks_draft}
use Rattle.dw_tree.specs.UnitValue.{UnitValue}
use Rattle.dw_tree.specs.Valid.{IsWritableTree, IsWritable, AreWritable, ReferencesLead}
use Rattle.dw_tree.specs.Whole.{settled, tree_shapes}
use Rattle.dw_tree.specs.Written.{past_table}
use Rattle.dw_tree.proofs.Faults.{neither}
use Rattle.dw_dwarf.specs.Valid.{IsValid, empty_ends}
use Rattle.dw_build.specs.Generated.{most_variables}
use Rattle.dw_build.specs.Generated.{generated, generated_encoding, generated_unit, generated_units, unit_variables, base_type}
use Rattle.dw_build.proofs.Drafts.{variable_that}
use Rattle.dw_build.proofs.MadeTrees.{made_root, made_entries, made_marks, made_unit, IfOpen, each_mark, made_tree, made_settled}
use Rattle.dw_build.proofs.MadeSizes.{table_bounded}
use Rattle.dw_build.proofs.MadeUnits.{made_places, made_writable, made_stands, root_place}

-- a unit as it is generated, of which the last number is known to be small
record IsMade (u : UnitValue) : Type 0 where
  from : ℕ
  count : ℕ
  few : count ≤ 1000
  within : from + count ≤ 2 ^ 64
  is : u ≡ generated_unit from count

abbrev settled_as : (u : UnitValue) (m : IsMade u) → settled u ≡ made_unit m.from m.count
settled_as u m = ap settled m.is ∙ made_settled m.from m.count

-- Units one behind another

-- the table of a unit has at most so many bytes
table_small : (u : UnitValue) (m : IsMade u) → table_size (settled u) ≤ 84000
table_small u m =
    let same : table_size (settled u) ≡ table_size (made_unit m.from m.count) = ap table_size (settled_as u m) in
    omega (arith, same, table_bounded m.from m.count m.within, m.few)

-- where the own parts of units are to begin, each at the begin of its section, among no strings
abbrev nowhere : Elsewhere
nowhere = record { line_strings = []; strings = []; ends = empty_ends true }

-- there is nothing elsewhere
abbrev no_tables : Tables
no_tables = tables_in (record { line_program = None; ranges = record { base = None; places = [] }; locations = record { base = None; places = [] } }) [] []

made_writes : (u : UnitValue) → IsMade u → IsWritable true nowhere u
made_writes u m =
    subst (λ (v : UnitValue). IsWritable true nowhere v) (sym m.is) (
      (λ err. refl, λ err. refl),
      subst (λ (v : UnitValue). IsWritableTree true v.encoding v.entries no_tables) (sym (made_settled m.from m.count)) (made_writable no_tables m.from m.count m.within m.few),
    )

-- behind such a unit there is still nothing
past_parts-made : (u : UnitValue) → IsMade u → past_parts nowhere u ≡ nowhere
past_parts-made u m = ap (past_parts nowhere) m.is

past_made : (u : UnitValue) → IsMade u → past_elsewhere nowhere u ≡ nowhere
past_made u m = ap (past_elsewhere nowhere) m.is

units_writable : (at : ℕ) (us : List UnitValue) → All IsMade us → at + 84000 * length us < 2 ^ 32 → AreWritable true nowhere at us
units_writable at [] made small = tt
units_writable at (u ∷ us) made small =
    let m = All-head IsMade u us made in
    let past : past_table at u ≡ at + table_size (settled u) = ap (λ (v : UnitValue). past_table at v) m.is ∙ ap (λ (v : UnitValue). at + table_size (settled v)) (sym m.is) in
    let found : past_elsewhere nowhere u ≡ nowhere = past_made u m in
    let format : word_of u.encoding.format ≡ 4 = ap (λ (v : UnitValue). word_of v.encoding.format) m.is in
    let others = units_writable (past_table at u) us (All-tail IsMade u us made) (omega (arith, past, small, table_small u m)) in (
      inr (made_writes u m, ap (λ w. fits w at) format ∙ lt-ltb at (2 ^ 32) (omega (arith, small))),
      subst (λ (t : Elsewhere). AreWritable true t (past_table at u) us) (sym found) others,
    )

-- References across units

-- each names the root of the first unit, in four bytes
record IsToRoot (h : DebugInfoFixup) : Type 0 where
  unit : h.unit.0 ≡ 0
  entry : h.entry.0 ≡ 0
  size : h.size ≡ 4

abbrev AreToRoot : List DebugInfoFixup → Type 0
AreToRoot [] = Unit {0}
AreToRoot (h ∷ hs) = IsToRoot h × AreToRoot hs

to_root-append : (hs ks : List DebugInfoFixup) → AreToRoot hs → AreToRoot ks → AreToRoot (hs ++ ks)
to_root-append [] ks h k = k
to_root-append (x ∷ hs) ks h k = (h.0, to_root-append hs ks h.1 k)

to_root-shifted : (n : ℕ) (hs : List DebugInfoFixup) → AreToRoot hs → AreToRoot (shifted n hs)
to_root-shifted n [] h = tt
to_root-shifted n (x ∷ hs) h = (record { unit = h.0.unit; entry = h.0.entry; size = h.0.size }, to_root-shifted n hs h.1)

to_root-then : (d f : Draft) → AreToRoot d.holes → AreToRoot f.holes → AreToRoot (then_draft d f).holes
unfolding then_draft
to_root-then d f h k = to_root-append d.holes (shifted d.size f.holes) h (to_root-shifted d.size f.holes k)

abbrev HasRootAlone : EntryValue → Type 0
HasRootAlone x = (u : UnitTargets) (code i : ℕ) → AreToRoot (entry_draft generated_encoding u code i x).holes

root_alone : (n : ℕ) → HasRootAlone (made_root n)
root_alone n u code i = to_root-then _ _ tt (to_root-then _ _ tt tt)

base_alone : HasRootAlone base_type
base_alone u code i = to_root-then _ _ tt (to_root-then _ _ tt (to_root-then _ _ tt tt))

variable_alone : (b : Bool) (id i : ℕ) → i < 2 ^ 64 → HasRootAlone (variable_that b id i)
variable_alone true id i small u code j =
    to_root-then _ _ tt (to_root-then _ _ tt (to_root-then _ _ tt (to_root-then _ _ tt (to_root-then _ _ (record { unit = refl; entry = refl; size = refl }, tt) tt))))
variable_alone false id i small u code j = to_root-then _ _ tt (to_root-then _ _ tt (to_root-then _ _ tt (to_root-then _ _ tt tt)))

module _ (es : List EntryValue) (u : UnitTargets) where
  mark_to_root : (code : ℕ) (m : Mark ℕ) → IfOpen HasRootAlone es m → AreToRoot (mark_draft generated_encoding es u code m).holes
  mark_to_root code (Open i) h = h u code i
  mark_to_root code Null h = tt

  marks_to_root : (ms : List (Mark ℕ)) → All (IfOpen HasRootAlone es) ms → AreToRoot (marks_draft generated_encoding es u (tree_shapes generated_encoding es) ms).holes
  marks_to_root [] h = tt
  marks_to_root (m ∷ ms) h =
      to_root-then _ _ (mark_to_root (code_at generated_encoding es (tree_shapes generated_encoding es) m) m (All-head (IfOpen HasRootAlone es) m ms h))
      (marks_to_root ms (All-tail (IfOpen HasRootAlone es) m ms h))

unit_to_root : (from n : ℕ) → from + n ≤ 2 ^ 64 → (k : Kept) → AreToRoot (draft_of generated_encoding (made_entries from n) no_tables k).holes
unit_to_root from n within k =
    let es = made_entries from n in
    let u = targets_of no_tables k.places in
    to_root-then _ _ tt
    (subst (λ ms. AreToRoot (marks_draft generated_encoding es u (tree_shapes generated_encoding es) ms).holes) (sym (made_tree from n))
    (marks_to_root es u (made_marks n) (each_mark HasRootAlone from n within (root_alone n) base_alone variable_alone)))

-- a unit as it is numbered
abbrev numbered_as : (n : ℕ) (u : UnitValue) (m : IsMade u) → settled_at n nowhere u ≡ record { id = n; unit = made_unit m.from m.count; tables = no_tables }
numbered_as n u m =
    ap (settled_at n nowhere) m.is
    ∙ ap (λ (v : UnitValue). let x : Numbered = record { id = n; unit = v; tables = no_tables } in x) (made_settled m.from m.count)

-- where units stand one behind another
abbrev kept_of : Starts → (u : UnitValue) → IsMade u → Kept
kept_of at u m = record { starts = at; places = made_places no_tables m.from m.count }

abbrev row_of : (n : ℕ) → Starts → (us : List UnitValue) → All IsMade us → List Kept
row_of n at [] made = []
row_of n at (u ∷ us) made =
    let place = kept_of at u (All-head IsMade u us made) in
    place ∷ row_of (suc n) (past_kept at (settled_at n nowhere u) place) us (All-tail IsMade u us made)

made_row : (n : ℕ) (at : Starts) (us : List UnitValue) (made : All IsMade us) → AreInRow at (numbered_from n nowhere us) (row_of n at us made)
made_row n at [] made = tt
made_row n at (u ∷ us) made =
    let m = All-head IsMade u us made in
    let place = kept_of at u m in (
      subst (λ (x : Numbered). StandsAt at x place) (sym (numbered_as n u m)) (made_stands no_tables m.from m.count m.within m.few at),
      subst (λ t. AreInRow (past_kept at (settled_at n nowhere u) place) (numbered_from (suc n) t us) (row_of (suc n) (past_kept at (settled_at n nowhere u) place) us (All-tail IsMade u us made))) (sym (past_parts-made u m))
          (made_row (suc n) (past_kept at (settled_at n nowhere u) place) us (All-tail IsMade u us made)),
    )

row_to_root : (n : ℕ) (at : Starts) (us : List UnitValue) (made : All IsMade us) → AreToRoot (units_draft (numbered_from n nowhere us) (row_of n at us made)).holes
row_to_root n at [] made = tt
row_to_root n at (u ∷ us) made =
    let m = All-head IsMade u us made in
    let place = kept_of at u m in
    to_root-then _ _ (subst (λ (x : Numbered). AreToRoot (draft_at x place).holes) (sym (numbered_as n u m)) (unit_to_root m.from m.count m.within place))
    (subst (λ t. AreToRoot (units_draft (numbered_from (suc n) t us) (row_of (suc n) (past_kept at (settled_at n nowhere u) place) us (All-tail IsMade u us made))).holes) (sym (past_parts-made u m))
    (row_to_root (suc n) (past_kept at (settled_at n nowhere u) place) us (All-tail IsMade u us made)))

-- the root of the first unit stands behind its header
module _ (info : Info) (first : info 0 0 ≡ Some 12) where
  place_is : (h : DebugInfoFixup) → IsToRoot h → info h.unit.0 h.entry.0 ≡ Some 12
  place_is h to = ap (λ n. info n h.entry.0) to.unit ∙ ap (info 0) to.entry ∙ first

  hole_sound : (h : DebugInfoFixup) → IsToRoot h → (err : Error) → IsFalse (hole_fails info true h err)
  hole_sound h to errors.InvalidReference = ap is_none (place_is h to)
  hole_sound h to errors.ValueTooLarge = ap (has_no_room true h.size) (place_is h to) ∙ ap (λ w. has_no_room true w (Some 12)) to.size
  hole_sound h to err = refl

  holes_sound : (hs : List DebugInfoFixup) → AreToRoot hs → (err : Error) → IsFalse (holes_fail info true hs err)
  holes_sound [] to err = refl
  holes_sound (h ∷ hs) to err = neither (hole_fails info true h err) (holes_fail info true hs err) (hole_sound h to.0 err) (holes_sound hs to.1 err)

-- There are no location lists.
no_part : (five : Bool) (u : UnitValue) → IsMade u → location_part five (settled u) ≡ no_draft
no_part true u m = ap (λ (v : UnitValue). location_part true (settled v)) m.is
no_part false u m = ap (λ (v : UnitValue). location_part false (settled v)) m.is

no_lists : (n : ℕ) (us : List UnitValue) → All IsMade us → (five : Bool) → locations_draft (numbered_from n nowhere us) five ≡ no_draft
no_lists n [] made five = refl
no_lists n (u ∷ us) made five =
    let m = All-head IsMade u us made in
    ap (λ t. then_draft (location_part five (settled u)) (locations_draft (numbered_from (suc n) t us) five)) (past_parts-made u m)
    ∙ ap (then_draft (location_part five (settled u))) (no_lists (suc n) us (All-tail IsMade u us made) five)
    ∙ then-nothing (location_part five (settled u))
    ∙ no_part five u m

lists_sound : (info : Info) (us : List UnitValue) → All IsMade us → (err : Error) → IsFalse (lists_refer_wrong info (empty_ends true) (numbered nowhere us) err)
lists_sound info us made err =
    ap (λ d. holes_fail info true d.holes err || holes_fail info true (locations_draft (numbered nowhere us) true).holes err) (no_lists 0 us made false)
    ∙ ap (λ d. holes_fail info true d.holes err) (no_lists 0 us made true)

references_lead : (us : List UnitValue) → All IsMade us → ReferencesLead true (empty_ends true) at_begin (numbered nowhere us)
references_lead [] made = record { kept = []; in_row = tt; lead = λ err. refl }
references_lead (u ∷ us) made =
    let m = All-head IsMade u us made in
    let row = row_of 0 at_begin (u ∷ us) made in
    let all = numbered nowhere (u ∷ us) in
    let first : info_of all row 0 0 ≡ Some 12 = ap (λ k. option_map (λ n. 0 + n) (if k == 0 then None else Some k)) (root_place no_tables m.from m.count) in
    record {
      kept = row;
      in_row = made_row 0 at_begin (u ∷ us) made;
      lead = λ err. neither (holes_fail (info_of all row) true (units_draft all row).holes err) (lists_refer_wrong (info_of all row) (empty_ends true) all err)
          (holes_sound (info_of all row) first (units_draft all row).holes (row_to_root 0 at_begin (u ∷ us) made) err) (lists_sound (info_of all row) (u ∷ us) made err);
    }

-- What is generated

units_made : (n k : ℕ) → k ≤ 1001 → All IsMade (generated_units n k)
units_made n zero few = All-nil IsMade
units_made n (suc k) few =
    let from = k * unit_variables in
    let count = min unit_variables (n - k * unit_variables) in
    let made : IsMade (generated_unit from count) = record { from = from; count = count; few = omega arith; within = omega arith; is = refl } in
    All-append IsMade (generated_units n k) (generated_unit from count ∷ []) (units_made n k (omega arith)) (All-cons IsMade (generated_unit from count) [] made (All-nil IsMade))

length-units : (n k : ℕ) → length (generated_units n k) ≡ k
length-units n zero = refl
length-units n (suc k) =
    omega (arith, length-append (generated_units n k) (generated_unit (k * unit_variables) (min unit_variables (n - k * unit_variables)) ∷ []), length-units n k)

pub generated_valid : (n : ℕ) → n ≤ most_variables → IsValid true (generated n)
generated_valid n most =
    let count = n / unit_variables + 1 in
    let few : count ≤ 1001 = omega arith in
    let made = units_made n count few in
    record {
      units = units_writable 0 (generated_units n count) made (omega (arith, length-units n count, few));
      references = references_lead (generated_units n count) made;
      extra = λ err. refl;
    }
