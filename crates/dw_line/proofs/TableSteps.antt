-- Why the directories and files of a header are refused.
use Rattle.std.proofs.Common.{◌≡◌, subst, ℕ, Bool, List, IsTrue, IsFalse}
use Rattle.std.specs.List.{list_any}
use Rattle.std.proofs.lemmas.Bool.{or_left, or_right}
use Rattle.dw_base.specs.declared.error.Error.{Error}
use Rattle.dw_writer.specs.Meaning.{Meaning, IsSameWriter}
use Rattle.dw_line.specs.Names.{name_fails}
use Rattle.dw_line.specs.Files.{file_fails}
use Rattle.dw_line.specs.Headers.{entries_fail}
use Rattle.dw_line.specs.Parts.{Refused}
use Rattle.dw_line.specs.declared.line_string.LineString.{LineString}
use Rattle.dw_line.specs.declared.file.FileEntry.{FileEntry}
use Rattle.dw_line.specs.declared.file.Columns.{Columns}
use Rattle.dw_line.proofs.PartSteps.{neither, refused_after}

module _ (w : ℕ) (strings line_strings : List (List ℕ)) (plain : Bool) (ds : List LineString) (columns : Columns) (fs : List FileEntry) where
  pub names_refused : {a b : Meaning} (c : Meaning) (k : Bool) → k ≡ plain → IsSameWriter a b → (e : Error) → Refused b c (λ e. list_any (λ d. name_fails w strings line_strings k d e) ds) e → Refused a c (entries_fail w strings line_strings plain ds columns fs) e
  names_refused {a} {b} c k at same e h =
      refused_after c (λ e. list_any (λ d. name_fails w strings line_strings k d e) ds) (entries_fail w strings line_strings plain ds columns fs) same
      (λ e h. or_left (list_any (λ d. name_fails w strings line_strings plain d e) ds) (list_any (λ f. file_fails w strings line_strings plain columns f e) fs)
      (subst (λ j. IsTrue (list_any (λ d. name_fails w strings line_strings j d e) ds)) at h)) e h

  pub files_refused : {a b : Meaning} (c : Meaning) (k : Bool) → k ≡ plain → IsSameWriter a b → (e : Error) → Refused b c (λ e. list_any (λ f. file_fails w strings line_strings k columns f e) fs) e → Refused a c (entries_fail w strings line_strings plain ds columns fs) e
  files_refused {a} {b} c k at same e h =
      refused_after c (λ e. list_any (λ f. file_fails w strings line_strings k columns f e) fs) (entries_fail w strings line_strings plain ds columns fs) same
      (λ e h. or_right (list_any (λ d. name_fails w strings line_strings plain d e) ds) (list_any (λ f. file_fails w strings line_strings plain columns f e) fs)
      (subst (λ j. IsTrue (list_any (λ f. file_fails w strings line_strings j columns f e) fs)) at h)) e h

  pub entries_sound : (j k : Bool) → j ≡ plain → k ≡ plain → ((e : Error) → IsFalse (list_any (λ d. name_fails w strings line_strings j d e) ds)) → ((e : Error) → IsFalse (list_any (λ f. file_fails w strings line_strings k columns f e) fs)) →
      (e : Error) → IsFalse (entries_fail w strings line_strings plain ds columns fs e)
  entries_sound j k at also names files e =
      neither (list_any (λ d. name_fails w strings line_strings plain d e) ds) (list_any (λ f. file_fails w strings line_strings plain columns f e) fs)
      (subst (λ i. IsFalse (list_any (λ d. name_fails w strings line_strings i d e) ds)) at (names e))
      (subst (λ i. IsFalse (list_any (λ f. file_fails w strings line_strings i columns f e) fs)) also (files e))
