-- What is known of the section that the version chooses.
use Rattle.std.specs.Prelude.{◌≡◌, ℕ, Bool, true, false, List, Option, None, Result, OnOk, IfErr}
use Rattle.std.proofs.Common.{sym, subst}
use Rattle.dw_base.specs.declared.common.Encoding.{Encoding}
use Rattle.dw_base.specs.declared.error.Error.{Error}
use Rattle.dw_writer.specs.Contents.{Meaning}
use Rattle.dw_writer.specs.Drafts.{Drafts}
use Rattle.dw_writer.specs.declared.fixup.DebugInfoFixup.{DebugInfoFixup}
use Rattle.dw_writer.specs.declared.sections.Sections.{Sections}
use Rattle.dw_lists.specs.Causes.{Refused, Is, IsNone, list_fails, table_fails}
use Rattle.dw_lists.specs.Items.{is_five}
use Rattle.dw_lists.specs.Parts.{Part}
use Rattle.dw_lists.specs.declared.kinds.Kinds.{Kinds}
use Rattle.dw_lists.specs.Texts.{list_draft, AreReadable}
use Rattle.dw_lists.specs.Tables.{range_section, ranges_of, location_section, locations_of}

module _ {W : Type 0} (meaning : W → Meaning) (old new : Sections W) (e : Encoding) (five : Bool) (is : is_five e ≡ five) where
  -- what a call that was handed the section answers
  pub ranges_sound : {T : Type 0} (r : Result T Error) (base : Bool) (xs : List (List Part)) → OnOk r (IsNone (table_fails false e None base (meaning (range_section five old)).is_plain xs)) → OnOk r (IsNone (table_fails false e None base (ranges_of meaning e old).is_plain xs))
  ranges_sound r base xs h = subst (λ b. OnOk r (IsNone (table_fails false e None base (meaning (range_section b old)).is_plain xs))) (sym is) h

  pub ranges_refused : {T : Type 0} (r : Result T Error) (base : Bool) (xs : List (List Part)) →
      IfErr r (Refused (meaning (range_section five old)) (meaning (range_section five new)) (Is (table_fails false e None base (meaning (range_section five old)).is_plain xs))) →
      IfErr r (Refused (ranges_of meaning e old) (ranges_of meaning e new) (Is (table_fails false e None base (ranges_of meaning e old).is_plain xs)))
  ranges_refused r base xs h =
      subst (λ b. IfErr r (Refused (meaning (range_section b old)) (meaning (range_section b new)) (Is (table_fails false e None base (meaning (range_section b old)).is_plain xs)))) (sym is) h

  pub locations_sound : {T : Type 0} (r : Result T Error) (known : Option (ℕ → Option ℕ)) (base : Bool) (xs : List (List Part)) →
      OnOk r (IsNone (table_fails true e known base (meaning (location_section five old)).is_plain xs)) → OnOk r (IsNone (table_fails true e known base (locations_of meaning e old).is_plain xs))
  locations_sound r known base xs h = subst (λ b. OnOk r (IsNone (table_fails true e known base (meaning (location_section b old)).is_plain xs))) (sym is) h

  pub locations_refused : {T : Type 0} (r : Result T Error) (known : Option (ℕ → Option ℕ)) (base : Bool) (xs : List (List Part)) →
      IfErr r (Refused (meaning (location_section five old)) (meaning (location_section five new)) (Is (table_fails true e known base (meaning (location_section five old)).is_plain xs))) →
      IfErr r (Refused (locations_of meaning e old) (locations_of meaning e new) (Is (table_fails true e known base (locations_of meaning e old).is_plain xs)))
  locations_refused r known base xs h =
      subst (λ b. IfErr r (Refused (meaning (location_section b old)) (meaning (location_section b new)) (Is (table_fails true e known base (meaning (location_section b old)).is_plain xs)))) (sym is) h

-- a list of either version
module _ (v : Encoding) (five : Bool) (is : is_five v ≡ five) where
  pub list_drafts : {T : Type 0} (r : Result T Error) (a b : Meaning) (x y : List DebugInfoFixup) (place : ℕ → Option ℕ) (k : Kinds) (ps : List Part) →
      OnOk r (Drafts a b x y (list_draft five v place k ps)) → OnOk r (Drafts a b x y (list_draft (is_five v) v place k ps))
  list_drafts r a b x y place k ps h = subst (λ f. OnOk r (Drafts a b x y (list_draft f v place k ps))) (sym is) h

  pub list_readable : {T : Type 0} (r : Result T Error) (place : ℕ → Option ℕ) (ps : List Part) → OnOk r (AreReadable five v place ps) → OnOk r (AreReadable (is_five v) v place ps)
  list_readable r place ps h = subst (λ f. OnOk r (AreReadable f v place ps)) (sym is) h

  pub list_sound : {T : Type 0} (r : Result T Error) (known : Option (ℕ → Option ℕ)) (plain base : Bool) (ps : List Part) →
      OnOk r (IsNone (list_fails v known plain five base ps)) → OnOk r (IsNone (list_fails v known plain (is_five v) base ps))
  list_sound r known plain base ps h = subst (λ f. OnOk r (IsNone (list_fails v known plain f base ps))) (sym is) h

  pub list_refused : {T : Type 0} (r : Result T Error) (a b : Meaning) (known : Option (ℕ → Option ℕ)) (plain base : Bool) (ps : List Part) →
      IfErr r (Refused a b (Is (list_fails v known plain five base ps))) → IfErr r (Refused a b (Is (list_fails v known plain (is_five v) base ps)))
  list_refused r a b known plain base ps h = subst (λ f. IfErr r (Refused a b (Is (list_fails v known plain f base ps)))) (sym is) h
