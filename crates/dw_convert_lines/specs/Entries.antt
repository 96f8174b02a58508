-- What the directories or the files of a header become.
use Rattle.std.specs.Prelude.{◌≡◌, ℕ, false, List, Result}
use Rattle.dw_read_lines.specs.FileEntryFormatIters.{OfParts}
use Rattle.dw_read.specs.Reading.{Reading, left}
use Rattle.dw_read_lines.specs.FileEntryIters.{layout_of, HasParts}
use Rattle.dw_read_lines.specs.LineEntries.{Entry, next_read}
use Rattle.dw_read_lines.specs.declared.file_entries.FileEntryIter.{FileEntryIter}
use Rattle.dw_read_lines.specs.declared.file_entries.Layout.{Layout as HeldLayout}
use Rattle.dw_read_lines.specs.declared.file_entries.Layout.TheVariants as held
use Rattle.dw_sources.specs.declared.convert_error.ConvertError.{ConvertError}
use Rattle.dw_convert_lines.specs.FormatLists.{IsConvertible}
use Rattle.dw_convert_lines.specs.HeaderImages.{FaultyDescription}
use Rattle.dw_convert_lines.specs.Walks.{WalkOutcome}

-- the description of the files behind directories is at fault; up to version 4 there is none
abbrev pub FaultyBehind : {R E : Type 0} → HeldLayout R E → Reading → ConvertError → Type 0
FaultyBehind held.Directories r x = ⊥
FaultyBehind held.Files r x = ⊥
FaultyBehind (held.Described d) r x = FaultyDescription r.is_big (left r) x

module _ {R E : Type 0} (reading : R → Reading) where
  -- entries that weren't read to their end, with their parts where these are described
  pub record IsOpen (i : FileEntryIter R E) : Type 0 where
    pub parts : List (ℕ × ℕ)
    pub described : HasParts reading i.layout parts
    pub open_yet : i.has_ended ≡ false

  -- the same layout and the same byte order
  pub record IsSameList (old new : FileEntryIter R E) : Type 0 where
    pub layout : new.layout ≡ old.layout
    pub order : (reading new.input).is_big ≡ (reading old.input).is_big

  -- entries that can be converted by their description, where there is one
  abbrev pub IsConvertibleList : FileEntryIter R E → Type 0
  IsConvertibleList i = OfParts reading i (λ parts. IsConvertible parts i.remaining)

  -- what the entries that follow make, with the bytes behind their end
  abbrev pub EntriesOutcome : {S : Type 0} → (Entry → S → Result S ConvertError) → FileEntryIter R E → S → Result (S × List ℕ) ConvertError → Type 0
  EntriesOutcome image i s r =
      (parts : List (ℕ × ℕ)) → HasParts reading i.layout parts → WalkOutcome (next_read (reading i.input).is_big (layout_of reading i.layout parts)) image i.remaining (left (reading i.input)) s r
