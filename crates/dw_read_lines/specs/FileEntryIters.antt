-- What iteration over the directories or the files of a line program answers.
use Rattle.std.specs.Prelude.{◌≡◌, ℕ, ◌-◌, Bool, true, false, List, Option, Some, None, Result, Ok, Err}
use Rattle.dw_base.specs.declared.common.Encoding.{Encoding}
use Rattle.dw_read.specs.Reading.{Reading, Read, left}
use Rattle.dw_read.specs.Took.{Took}
use Rattle.dw_read.specs.declared.error.ReadError.{ReadError}
use Rattle.dw_read_lines.specs.LineEntries.{Entry, Layout, Directories, Files, Described, description_read, next_read}
use Rattle.dw_read_lines.specs.LineEntryViews.{entry_of, IsDescribed}
use Rattle.dw_read_lines.specs.declared.file_entry.FileEntry.{FileEntry}
use Rattle.dw_read_lines.specs.declared.file_entries.FileEntryIter.{FileEntryIter}
use Rattle.dw_read_lines.specs.declared.file_entries.Layout.{Layout as HeldLayout}
use Rattle.dw_read_lines.specs.declared.file_entries.Layout.TheVariants as held

-- the description of entries can't be read, for this reason; up to version 4 there is none
abbrev pub MissesEntries : Bool → Bool → List ℕ → ReadError → Type 0
MissesEntries false big bytes e = ⊥
MissesEntries true big bytes e = description_read big bytes ≡ Err e

abbrev pub MissesBehind : {R E : Type 0} → HeldLayout R E → Reading → ReadError → Type 0
MissesBehind held.Directories r e = ⊥
MissesBehind held.Files r e = ⊥
MissesBehind (held.Described d) r e = description_read r.is_big (left r) ≡ Err e

module _ {R E : Type 0} (reading : R → Reading) where
  -- how entries are laid out, with the parts of those that are described
  abbrev pub layout_of : HeldLayout R E → List (ℕ × ℕ) → Layout
  layout_of held.Directories parts = Directories
  layout_of held.Files parts = Files
  layout_of (held.Described d) parts = Described d.encoding.encoding parts

  abbrev pub HasParts : HeldLayout R E → List (ℕ × ℕ) → Type 0
  HasParts held.Directories parts = Unit {0}
  HasParts held.Files parts = Unit {0}
  HasParts (held.Described d) parts = IsDescribed reading d parts

  -- the next entry, or the end, where so many of those that are described are left
  abbrev pub here_read : Reading → HeldLayout R E → ℕ → List (ℕ × ℕ) → Read (Option Entry)
  here_read r l n parts = next_read r.is_big (layout_of l parts) n

  -- it is what is read there, and is passed
  abbrev pub TakesEntry : Reading → Reading → HeldLayout R E → ℕ → Option Entry → Type 0
  TakesEntry old new l n x = (parts : List (ℕ × ℕ)) → HasParts l parts → Took (Option Entry) (here_read old l n parts) old new x

  abbrev pub MissesEntry : Reading → HeldLayout R E → ℕ → ReadError → Type 0
  MissesEntry old l n e = (parts : List (ℕ × ℕ)) → HasParts l parts → here_read old l n parts (left old) ≡ Err e

  -- the entries that begin in bytes: up to version 4, and from version 5 on behind their description
  pub record BeginsOld (l : HeldLayout R E) (bytes : List ℕ) (i : FileEntryIter R E) : Type 0 where
    pub layout : i.layout ≡ l
    pub input : left (reading i.input) ≡ bytes
    pub uncounted : i.remaining ≡ 0
    pub not_ended : i.has_ended ≡ false

  pub record BeginsDescribed (big : Bool) (e : Encoding) (bytes : List ℕ) (i : FileEntryIter R E) : Type 0 where
    pub parts : List (ℕ × ℕ)
    pub described : HasParts i.layout parts
    pub layout : layout_of i.layout parts ≡ Described e parts
    pub input : description_read big bytes ≡ Ok ((parts, i.remaining), left (reading i.input))
    pub not_ended : i.has_ended ≡ false

  abbrev pub BeginsEntries : Bool → HeldLayout R E → Bool → Encoding → List ℕ → FileEntryIter R E → Type 0
  BeginsEntries false l big e bytes i = BeginsOld l bytes i
  BeginsEntries true l big e bytes i = BeginsDescribed big e bytes i

  -- the files behind directories that ended there
  abbrev pub BeginsBehind : HeldLayout R E → Reading → FileEntryIter R E → Type 0
  BeginsBehind held.Directories r i = BeginsOld held.Files (left r) i
  BeginsBehind held.Files r i = BeginsOld held.Files (left r) i
  BeginsBehind (held.Described d) r i = BeginsDescribed r.is_big d.encoding.encoding (left r) i

module _ {R E : Type 0} (reading : R → Reading) (old new : FileEntryIter R E) where
  -- the entry at the place is what the grammar reads there, and is passed
  pub record PassesEntry (x : FileEntry R E) : Type 0 where
    pub went_on : (old.has_ended ≡ false) × (new.has_ended ≡ false)
    pub layout : new.layout ≡ old.layout
    pub remaining : new.remaining ≡ old.remaining - 1
    pub entry : TakesEntry reading (reading old.input) (reading new.input) old.layout old.remaining (Some (entry_of reading x))

  -- there are no more at the place, or there were no more before
  pub record ClosesEntries : Type 0 where
    pub ended : new.has_ended ≡ true
    pub layout : new.layout ≡ old.layout
    pub again : old.has_ended ≡ true → new ≡ old
    pub is : old.has_ended ≡ false → TakesEntry reading (reading old.input) (reading new.input) old.layout old.remaining None

  -- no entry can be read at the place, for this reason, and iteration ends there
  pub record RefusesEntry (e : ReadError) : Type 0 where
    pub not_ended : old.has_ended ≡ false
    pub kept : new ≡ record old { has_ended = true }
    pub refused : MissesEntry reading (reading old.input) old.layout old.remaining e

  abbrev pub ReadsEntry : Result (Option (FileEntry R E)) ReadError → Type 0
  ReadsEntry (Ok None) = ClosesEntries
  ReadsEntry (Ok (Some x)) = PassesEntry x
  ReadsEntry (Err e) = RefusesEntry e
