-- The units of a table that aren't written yet are written behind those that are.
use Rattle.std.specs.Prelude.{◌≡◌, ◌⊎◌, ℕ, suc, ◌+◌, Bool, true, false, List, [], ◌∷◌, All, map, Some, refl, if◌then◌else◌}
use Rattle.std.proofs.Common.{◌∙◌, ap, subst, arith, inl, inr}
use Rattle.std.proofs.lemmas.List.Elements.{All-nil, All-cons, All-head, All-tail}
use Rattle.dw_writer.specs.Layout.{Layout}
use Rattle.dw_writer.specs.Meaning.{Model}
use Rattle.dw_writer.specs.Texts.{followed}
use Rattle.dw_line.specs.Parts.{sizes, texts}
use Rattle.dw_tree.specs.Built.{Numbered, settled_at}
use Rattle.dw_tree.specs.Elsewhere.{Ends, Elsewhere, past_ends, past_parts, past_elsewhere, new_size, new_text, AreFound, AreAllFound}
use Rattle.dw_tree.specs.UnitValue.{UnitValue}
use Rattle.dw_tree.specs.Valid.{IsWritableAt, AreWritable}
use Rattle.dw_tree.specs.Whole.{settled}
use Rattle.dw_tree.specs.Written.{past_table, to_write_from}
use Rattle.dw_unit.specs.WrittenUnits.{WrittenUnit, written_from, units_in, unwritten_from, AreListsSound, HavePlainLists, KeepsStrings}
use Rattle.dw_unit.proofs.FileSteps.{strings_stay, lists_sound}
use Rattle.dw_unit.proofs.UnitTexts.{nothing-followed}

-- what a unit is as it is handed in
abbrev as_it_is : ℕ → List (List ℕ) → List (List ℕ) → UnitValue → WrittenUnit
as_it_is n line_strings strings u = record { id = n; unit = u; line_strings = line_strings; strings = strings }

module _ (line_strings strings : List (List ℕ)) where
  abbrev left : ℕ → List UnitValue → List WrittenUnit
  left n us = unwritten_from n line_strings strings us

  -- Sizes and texts of those that are left, one behind another
  module _ (size : UnitValue → ℕ) where
    size_by : (n : ℕ) (u : UnitValue) (us : List UnitValue) (b : Bool) → sizes (new_size size) us ≡ sizes (λ w. size w.unit) (left (suc n) us) →
        (if b then 0 else size u) + sizes (new_size size) us ≡ sizes (λ w. size w.unit) (if b then left (suc n) us else as_it_is n line_strings strings u ∷ left (suc n) us)
    size_by n u us true more = omega (arith, more)
    size_by n u us false more = omega (arith, more)

    pub left_sizes : (n : ℕ) (us : List UnitValue) → sizes (new_size size) us ≡ sizes (λ w. size w.unit) (left n us)
    left_sizes n [] = refl
    left_sizes n (u ∷ us) = size_by n u us u.is_written (left_sizes (suc n) us)

  -- the text of each is that of its unit
  module _ (text : UnitValue → Model) (of : WrittenUnit → Model) (same : (n : ℕ) (u : UnitValue) (big : Bool) (l : Layout) → text u big l ≡ of (as_it_is n line_strings strings u) big l) (big : Bool) (l : Layout) where
    text_by : (n : ℕ) (u : UnitValue) (us : List UnitValue) (b : Bool) → texts (new_text text) us big l ≡ texts of (left (suc n) us) big l →
        followed (if b then Some [] else text u big l) (texts (new_text text) us big l) ≡ texts of (if b then left (suc n) us else as_it_is n line_strings strings u ∷ left (suc n) us) big l
    text_by n u us true more = nothing-followed (texts (new_text text) us big l) ∙ more
    text_by n u us false more = ap (λ t. followed t (texts (new_text text) us big l)) (same n u big l) ∙ ap (followed (of (as_it_is n line_strings strings u) big l)) more

    pub left_texts : (n : ℕ) (us : List UnitValue) → texts (new_text text) us big l ≡ texts of (left n us) big l
    left_texts n [] = refl
    left_texts n (u ∷ us) = text_by n u us u.is_written (left_texts (suc n) us)

  found_by : (n : ℕ) (u : UnitValue) (us : List UnitValue) (b : Bool) → (b ≡ false → AreFound u) → All AreFound (units_in (left (suc n) us)) → All AreFound (units_in (if b then left (suc n) us else as_it_is n line_strings strings u ∷ left (suc n) us))
  found_by n u us true h more = more
  found_by n u us false h more = All-cons AreFound u (units_in (left (suc n) us)) (h refl) more

  pub left_found : (n : ℕ) (us : List UnitValue) → AreAllFound us → All AreFound (units_in (left n us))
  left_found n [] all = All-nil AreFound
  left_found n (u ∷ us) all =
      found_by n u us u.is_written (All-head (λ v. v.is_written ≡ false → AreFound v) u us all) (left_found (suc n) us (All-tail (λ v. v.is_written ≡ false → AreFound v) u us all))

  stay_by : (n : ℕ) (u : UnitValue) (us : List UnitValue) (b : Bool) → All (KeepsStrings line_strings strings) (left (suc n) us) → All (KeepsStrings line_strings strings) (if b then left (suc n) us else as_it_is n line_strings strings u ∷ left (suc n) us)
  stay_by n u us true more = more
  stay_by n u us false more = All-cons (KeepsStrings line_strings strings) (as_it_is n line_strings strings u) (left (suc n) us) (strings_stay line_strings, strings_stay strings) more

  pub left_stay : (n : ℕ) (us : List UnitValue) → All (KeepsStrings line_strings strings) (left n us)
  left_stay n [] = All-nil (KeepsStrings line_strings strings)
  left_stay n (u ∷ us) = stay_by n u us u.is_written (left_stay (suc n) us)

-- those that are left are written
write_by : (n : ℕ) (t : Elsewhere) (u : UnitValue) (us : List UnitValue) (b : Bool) → ((s : Elsewhere) → to_write_from (suc n) s us ≡ written_from s.ends (unwritten_from (suc n) s.line_strings s.strings us)) →
    (if b then to_write_from (suc n) t us else settled_at n t u ∷ to_write_from (suc n) (past_parts t u) us) ≡
    written_from t.ends (if b then unwritten_from (suc n) t.line_strings t.strings us else as_it_is n t.line_strings t.strings u ∷ unwritten_from (suc n) t.line_strings t.strings us)
write_by n t u us true more = more t
write_by n t u us false more = ap (λ xs. settled_at n t u ∷ xs) (more (past_parts t u))

pub to_write-left : (n : ℕ) (t : Elsewhere) (us : List UnitValue) → to_write_from n t us ≡ written_from t.ends (unwritten_from n t.line_strings t.strings us)
to_write-left n t [] = refl
to_write-left n t (u ∷ us) = write_by n t u us u.is_written (λ s. to_write-left (suc n) s us)

-- their lists have no fault
sound_by : (n : ℕ) (t : Elsewhere) (plain : Bool) (at : ℕ) (u : UnitValue) (us : List UnitValue) (b : Bool) → ((b ≡ true) ⊎ IsWritableAt plain t at u) → (IsWritableAt plain t at u → AreListsSound u) →
    All AreListsSound (units_in (unwritten_from (suc n) t.line_strings t.strings us)) →
    All AreListsSound (units_in (if b then unwritten_from (suc n) t.line_strings t.strings us else as_it_is n t.line_strings t.strings u ∷ unwritten_from (suc n) t.line_strings t.strings us))
sound_by n t plain at u us true can sound more = more
sound_by n t plain at u us false (inl old) sound more = absurd (let x : false ≡ true = old in cc)
sound_by n t plain at u us false (inr can) sound more = All-cons AreListsSound u (units_in (unwritten_from (suc n) t.line_strings t.strings us)) (sound can) more

plain_past : (t : Elsewhere) (u : UnitValue) (b : Bool) → HavePlainLists t.ends → HavePlainLists (if b then t else past_parts t u).ends
plain_past t u true h = h
plain_past t u false h = record { ranges = h.ranges; range_lists = h.range_lists; locations = h.locations; location_lists = h.location_lists }

same_strings : (t : Elsewhere) (u : UnitValue) (b : Bool) (n : ℕ) (us : List UnitValue) → let s = if b then t else past_parts t u in unwritten_from n s.line_strings s.strings us ≡ unwritten_from n t.line_strings t.strings us
same_strings t u true n us = refl
same_strings t u false n us = refl

pub left_sound : (n : ℕ) (t : Elsewhere) (plain : Bool) (at : ℕ) (us : List UnitValue) → AreWritable plain t at us → HavePlainLists t.ends → All AreListsSound (units_in (unwritten_from n t.line_strings t.strings us))
left_sound n t plain at [] can h = All-nil AreListsSound
left_sound n t plain at (u ∷ us) can h =
    let more = left_sound (suc n) (past_elsewhere t u) plain (past_table at u) us can.1 (plain_past t u u.is_written h) in
    sound_by n t plain at u us u.is_written can.0 (λ k. lists_sound t plain u k.0 h) (subst (λ ws. All AreListsSound (units_in ws)) (same_strings t u u.is_written (suc n) us) more)

-- units as they are written, wherever their parts stand
pub written_units : (ends : Ends) (ws : List WrittenUnit) → map (λ (u : Numbered). u.unit) (written_from ends ws) ≡ map settled (units_in ws)
written_units ends [] = refl
written_units ends (w ∷ ws) = ap (λ us. settled w.unit ∷ us) (written_units (past_ends ends w.unit) ws)
