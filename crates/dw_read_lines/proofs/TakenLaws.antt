-- The entry, or the end, that a call answered.
use Rattle.std.proofs.Common.{◌≡◌, ◌∙◌, sym, ap, subst, ℕ, suc, List, Option, Some, None, Result, Ok, Err, refl}
use Rattle.dw_read.specs.Reading.{Reading, IsReading, left}
use Rattle.dw_read.specs.Reasons.{◌=>>◌}
use Rattle.dw_read.specs.Took.{Took, option_of}
use Rattle.dw_read.specs.declared.error.ReadError.{ReadError}
use Rattle.dw_read.proofs.Chain.{took, went, went_none}
use Rattle.dw_read_lines.specs.LineEntries.{Entry, untold, Described, old_directory_read, old_file_read, description_read, next_read}
use Rattle.dw_read_lines.specs.LineEntryViews.{entry_of, described_entry}
use Rattle.dw_read_lines.specs.FileEntryIters.{TakesEntry, MissesEntry, BeginsOld, BeginsDescribed, BeginsBehind, MissesBehind}
use Rattle.dw_read_lines.specs.declared.description.Description.{Description}
use Rattle.dw_read_lines.specs.declared.file_entries.Layout.TheVariants as held
use Rattle.dw_read_lines.proofs.EntryLaws.{by_parts}
use Rattle.dw_read_lines.specs.declared.file_entry.FileEntry.{FileEntry}
use Rattle.dw_read_lines.specs.declared.file_entries.FileEntryIter.{FileEntryIter}
use Rattle.dw_read_lines.specs.declared.file_entries.Layout.{Layout as HeldLayout}

abbrev some_entry : Result (Entry × List ℕ) ReadError → Result (Option Entry × List ℕ) ReadError
some_entry r = r =>> λ x. Ok (Some x.0, x.1)

module _ {R E : Type 0} (reading : R → Reading) (old new : Reading) (l : HeldLayout R E) (n : ℕ) (o : Option (FileEntry R E)) where
  pub taken_none : TakesEntry reading old new l n (option_of (entry_of reading) o) → o ≡ None → TakesEntry reading old new l n None
  taken_none h e = subst (λ (x : Option (FileEntry R E)). TakesEntry reading old new l n (option_of (entry_of reading) x)) e h

  pub taken_some : (x : FileEntry R E) → TakesEntry reading old new l n (option_of (entry_of reading) o) → o ≡ Some x → TakesEntry reading old new l n (Some (entry_of reading x))
  taken_some x h e = subst (λ (y : Option (FileEntry R E)). TakesEntry reading old new l n (option_of (entry_of reading) y)) e h

-- the next entry by its layout
module _ {R E : Type 0} (reading : R → Reading) (old new : Reading) (l : HeldLayout R E) (n : ℕ) where
  pub takes_directory : (o : Option Entry) → l ≡ held.Directories → Took (Option Entry) old_directory_read old new o → TakesEntry reading old new l n o
  unfolding next_read
  takes_directory o e t = subst (λ (k : HeldLayout R E). TakesEntry reading old new k n o) (sym e) (λ parts h. record { count = t.count; passes = t.passes; value = t.value })

  pub takes_file : (o : Option Entry) → l ≡ held.Files → Took (Option Entry) old_file_read old new o → TakesEntry reading old new l n o
  unfolding next_read
  takes_file o e t = subst (λ (k : HeldLayout R E). TakesEntry reading old new k n o) (sym e) (λ parts h. record { count = t.count; passes = t.passes; value = t.value })

  pub misses_directory : (x : ReadError) → l ≡ held.Directories → old_directory_read (left old) ≡ Err x → MissesEntry reading old l n x
  unfolding next_read
  misses_directory x e h = subst (λ (k : HeldLayout R E). MissesEntry reading old k n x) (sym e) (λ parts p. h)

  pub misses_file : (x : ReadError) → l ≡ held.Files → old_file_read (left old) ≡ Err x → MissesEntry reading old l n x
  unfolding next_read
  misses_file x e h = subst (λ (k : HeldLayout R E). MissesEntry reading old k n x) (sym e) (λ parts p. h)

  module _ (d : Description R E) (e : l ≡ held.Described d) where
    pub takes_end : n ≡ 0 → IsReading old → TakesEntry reading old old l n None
    unfolding next_read
    takes_end z is = subst (λ (k : HeldLayout R E). TakesEntry reading old old k n None) (sym e) (λ parts h. took (Option Entry) (next_read old.is_big (Described d.encoding.encoding parts) n) old old None (went_none old is) (rw z refl))

    pub takes_described : (m : ℕ) (x : Entry) → n ≡ suc m → Took Entry (described_entry reading old.is_big d) old new x → TakesEntry reading old new l n (Some x)
    unfolding next_read
    takes_described m x z t = subst (λ (k : HeldLayout R E). TakesEntry reading old new k n (Some x)) (sym e) (λ parts h.
        took (Option Entry) (next_read old.is_big (Described d.encoding.encoding parts) n) old new (Some x) (went Entry (described_entry reading old.is_big d) old new x t)
        (rw z (ap some_entry (sym (by_parts old.is_big d.encoding.encoding d.format_count (left (reading d.formats)) h.rest parts untold (left old) h.is) ∙ t.value))))

    pub misses_described : (m : ℕ) (x : ReadError) → n ≡ suc m → described_entry reading old.is_big d (left old) ≡ Err x → MissesEntry reading old l n x
    unfolding next_read
    misses_described m x z k = subst (λ (j : HeldLayout R E). MissesEntry reading old j n x) (sym e) (λ parts h.
        rw z (ap some_entry (sym (by_parts old.is_big d.encoding.encoding d.format_count (left (reading d.formats)) h.rest parts untold (left old) h.is) ∙ k)))

-- the files behind directories
module _ {R E : Type 0} (reading : R → Reading) (l : HeldLayout R E) (r dup : Reading) (q : dup ≡ r) where
  pub behind_directories : (i : FileEntryIter R E) → l ≡ held.Directories → BeginsOld reading held.Files (left dup) i → BeginsBehind reading l r i
  behind_directories i e h = subst (λ (k : HeldLayout R E). BeginsBehind reading k r i) (sym e) (subst (λ (x : Reading). BeginsOld reading held.Files (left x) i) q h)

  pub behind_files : (i : FileEntryIter R E) → l ≡ held.Files → BeginsOld reading held.Files (left dup) i → BeginsBehind reading l r i
  behind_files i e h = subst (λ (k : HeldLayout R E). BeginsBehind reading k r i) (sym e) (subst (λ (x : Reading). BeginsOld reading held.Files (left x) i) q h)

  pub behind_described : (d : Description R E) (i : FileEntryIter R E) → l ≡ held.Described d → BeginsDescribed reading dup.is_big d.encoding.encoding (left dup) i → BeginsBehind reading l r i
  behind_described d i e h = subst (λ (k : HeldLayout R E). BeginsBehind reading k r i) (sym e) (subst (λ (x : Reading). BeginsDescribed reading x.is_big d.encoding.encoding (left x) i) q h)

  pub misses_behind : (d : Description R E) (x : ReadError) → l ≡ held.Described d → description_read dup.is_big (left dup) ≡ Err x → MissesBehind l r x
  misses_behind d x e h = subst (λ (k : HeldLayout R E). MissesBehind k r x) (sym e) (subst (λ (y : Reading). description_read y.is_big (left y) ≡ Err x) q h)
