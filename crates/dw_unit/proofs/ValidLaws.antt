-- A unit that can be written isn't refused.
use Rattle.std.specs.Prelude.{◌≡◌, ℕ, Bool, true, false, not, ◌==◌, List, IsTrue, IsFalse, refl}
use Rattle.std.proofs.Common.{◌∙◌, ap, subst, inl, inr}
use Rattle.std.proofs.lemmas.Bool.{and_parts, eqb-true}
use Rattle.dw_base.specs.Numbers.{is_width, word_of, length_fits}
use Rattle.dw_base.specs.declared.common.Encoding.{Encoding}
use Rattle.dw_base.specs.declared.error.Error.{Error}
use Rattle.dw_base.specs.declared.error.Error.TheVariants as errors
use Rattle.dw_writer.specs.Causes.{offset_fits}
use Rattle.dw_entries.specs.Entries.{EntryValue}
use Rattle.dw_entries.specs.Tree.{preorder}
use Rattle.dw_entries.specs.Targets.{Tables}
use Rattle.dw_tree.specs.Early.{tree_is_forward}
use Rattle.dw_tree.specs.Elsewhere.{Elsewhere, unit_tables, parts_fail, locations_fail}
use Rattle.dw_tree.specs.Causes.{TreeFails, UnitFails}
use Rattle.dw_tree.specs.Places.{Placement, targets_of}
use Rattle.dw_tree.specs.UnitFaults.{is_version, is_encodable, encoding_fails, fields_fail, header_fails, marks_fail, unit_fails}
use Rattle.dw_tree.specs.UnitText.{tree_draft, unit_length}
use Rattle.dw_tree.specs.UnitValue.{UnitValue}
use Rattle.dw_tree.specs.Valid.{IsWritableTree, IsWritable}
use Rattle.dw_tree.specs.Whole.{settled}
use Rattle.dw_tree.proofs.Faults.{neither}
use Rattle.dw_tree.proofs.OnePlacement.{one_placement, placement-same, room_enough}
use Rattle.dw_tree.proofs.ReadMarks.{tree_draft-size}
use Rattle.dw_tree.proofs.UnitSteps.{header_sound}

not_both : (b : Bool) → IsTrue b → IsFalse b → ⊥
not_both true t f = absurd (let x : true ≡ false = f in cc)
not_both false t f = absurd (let x : false ≡ true = t in cc)

not_true : (b : Bool) → IsTrue b → IsTrue (not b) → ⊥
not_true true h k = absurd (let x : false ≡ true = k in cc)
not_true false h k = absurd (let x : false ≡ true = h in cc)

-- a table's place that has room
fields_sound : (e : Encoding) (table : ℕ) (plain : Bool) → IsTrue (offset_fits plain (word_of e.format) table) → (err : Error) → IsFalse (fields_fail e table plain err)
fields_sound e table plain room errors.ValueTooLarge = ap not room
fields_sound e table plain room err = refl

-- an encoding that a header can have
encoding_sound : (e : Encoding) (err : Error) → IsTrue (is_encodable e) → IsTrue (encoding_fails e err) → ⊥
encoding_sound e (errors.UnsupportedVersion v) h k =
    let parts = and_parts (v == e.version) (not (is_version v)) k in
    not_true (is_version v) (ap is_version (eqb-true v e.version parts.0) ∙ (and_parts (is_version e.version) (is_width e.address_size) h).0) parts.1
encoding_sound e (errors.UnsupportedWordSize n) h k =
    let parts = and_parts (n == e.address_size) (not (is_width n)) k in
    not_true (is_width n) (ap is_width (eqb-true n e.address_size parts.0) ∙ (and_parts (is_version e.version) (is_width e.address_size) h).1) parts.1
encoding_sound e err h k = absurd (let x : false ≡ true = k in cc)

module _ (plain : Bool) (e : Encoding) (es : List EntryValue) (t : Tables) (table : ℕ) (room : IsTrue (offset_fits plain (word_of e.format) table)) where
  -- a tree that can be written has no fault where its entries stand
  sound_there : (w : IsWritableTree plain e es t) (p : Placement) → w.places ≡ p → (err : Error) → IsFalse (unit_fails e es table (targets_of t p) plain err)
  sound_there w p same err =
      let at = w.places in
      let fits = ap (λ n. length_fits e.format (unit_length e n)) (tree_draft-size e es t at) ∙ w.fits in
      let here = neither (header_fails e table plain (unit_length e (tree_draft e es (targets_of t at)).size) err) (marks_fail e es (targets_of t at) plain (preorder es) err)
      (header_sound e table plain (unit_length e (tree_draft e es (targets_of t at)).size) (fields_sound e table plain room) fits err) (w.sound err) in
      subst (λ q. IsFalse (unit_fails e es table (targets_of t q) plain err)) same here

  pub tree_unfailing : IsWritableTree plain e es t → (err : Error) → TreeFails e es t table plain err → ⊥
  tree_unfailing w err fails = by_case fails
    where
      by_case : TreeFails e es t table plain err → ⊥
      by_case (inl full) = room_enough e es w.places w.early w.placed w.room full.1
      by_case (inr (inl forward)) = not_both (tree_is_forward e es err) forward (w.early err)
      by_case (inr (inr f)) =
          not_both (unit_fails e es table (targets_of t f.places) plain err) f.fails
          (sound_there w f.places (placement-same w.places f.places (one_placement e es w.places f.places w.early w.placed f.placed)) err)

-- A unit that can be written, and whose table's place has room, has no cause to be refused.
pub unit_unfailing : (plain : Bool) (t : Elsewhere) (u : UnitValue) (table : ℕ) → IsTrue (offset_fits plain (word_of u.encoding.format) table) → IsWritable plain t u → (err : Error) → UnitFails u t table plain err → ⊥
unit_unfailing plain t u table room w err fails = by_case fails
  where
    by_case : UnitFails u t table plain err → ⊥
    by_case (inl h) = encoding_sound u.encoding err w.1.encodable h
    by_case (inr (inl h)) = not_both (parts_fail t u err) h (w.0.0 err)
    by_case (inr (inr (inl h))) = not_both (locations_fail t u err) h.fails (w.0.1 err)
    by_case (inr (inr (inr h))) = tree_unfailing plain u.encoding (settled u).entries (unit_tables t u) table room w.1 err h
