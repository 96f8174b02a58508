-- Range lists without a fault have a text where no symbols can be written.
use Rattle.std.specs.Prelude.{◌≡◌, ◌⊎◌, ℕ, Bool, true, false, List, [], ◌∷◌, ◌++◌, All, Some, refl, IsFalse, if◌then◌else◌}
use Rattle.std.proofs.Common.{sym, ◌∙◌, ap, subst, inl, inr}
use Rattle.std.proofs.lemmas.List.Elements.{All-nil, All-cons, All-head, All-tail}
use Rattle.dw_base.specs.declared.error.Error.{Error}
use Rattle.dw_writer.specs.Drafts.{left_open, open_text}
use Rattle.dw_writer.specs.Layout.{Layout}
use Rattle.dw_writer.specs.Texts.{Text, followed}
use Rattle.dw_lists.proofs.There.{ranges_there}
use Rattle.dw_line.specs.Parts.{texts}
use Rattle.dw_tree.specs.Elsewhere.{Elsewhere, ranges_fail_in, range_draft, range_text, has_base_address, past_parts, past_elsewhere}
use Rattle.dw_tree.specs.Locations.{is_own_section}
use Rattle.dw_tree.specs.UnitValue.{UnitValue}
use Rattle.dw_tree.specs.Valid.{IsWritableAt, AreWritable}
use Rattle.dw_tree.specs.Written.{past_table}
use Rattle.dw_unit.specs.WrittenUnits.{AreListsSound, HavePlainLists}
use Rattle.dw_unit.proofs.FileSteps.{lists_sound}
use Rattle.dw_dwarf.specs.Valid.{IsUnwritten}

both_there : (t u : Text) (x y : List ℕ) → t ≡ Some x → u ≡ Some y → followed t u ≡ Some (x ++ y)
unfolding followed
both_there t u x y p q = ap (λ v. followed v u) p ∙ ap (followed (Some x)) q

-- lists of units that can be written, where none was written before, have no fault in plain writers
pub all_sound : (t : Elsewhere) (plain : Bool) → HavePlainLists t.ends → (at : ℕ) (us : List UnitValue) → All IsUnwritten us → AreWritable plain t at us →
    All AreListsSound us
all_sound t plain h at [] all can = All-nil AreListsSound
all_sound t plain h at (u ∷ us) all can =
    let new = All-head IsUnwritten u us all in
    let past : past_elsewhere t u ≡ past_parts t u = ap (λ (b : Bool). if b then t else past_parts t u) new in
    All-cons AreListsSound u us (by_mark new can.0) (all_sound (past_parts t u) plain (record { ranges = h.ranges; range_lists = h.range_lists; locations = h.locations; location_lists = h.location_lists }) (past_table at u) us (All-tail IsUnwritten u us all) (subst (λ s. AreWritable plain s (past_table at u) us) past can.1))
  where
    by_mark : u.is_written ≡ false → (u.is_written ≡ true) ⊎ IsWritableAt plain t at u → AreListsSound u
    by_mark new (inl old) = absurd (let x : true ≡ false = sym old ∙ new in cc)
    by_mark new (inr can) = lists_sound t plain u can.0 h

-- those of one unit
module _ (u : UnitValue) (sound : (err : Error) → IsFalse (ranges_fail_in true u err)) (big : Bool) (l : Layout) where
  unit_there : (five : Bool) → (xs : List ℕ) × (range_text five u big l ≡ Some xs)
  unit_there five = by_version (is_own_section five u.encoding)
    where
      by_version : (b : Bool) → (xs : List ℕ) × ((if b then open_text (range_draft u) big l else Some []) ≡ Some xs)
      by_version true = ranges_there u.encoding (has_base_address u.entries) u.ranges sound left_open big l
      by_version false = ([], refl)

-- those of all units
pub ranges_all_there : (five : Bool) (us : List UnitValue) → All AreListsSound us → (big : Bool) (l : Layout) → (xs : List ℕ) × (texts (range_text five) us big l ≡ Some xs)
ranges_all_there five [] all big l = ([], refl)
ranges_all_there five (u ∷ us) all big l =
    let more = ranges_all_there five us (All-tail AreListsSound u us all) big l in
    let here = unit_there u (All-head AreListsSound u us all).ranges big l five in
    (here.0 ++ more.0, both_there (range_text five u big l) (texts (range_text five) us big l) here.0 more.0 here.1 more.1)
