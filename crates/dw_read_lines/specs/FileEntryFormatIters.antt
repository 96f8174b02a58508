-- What iteration over the parts of entries answers.
use Rattle.std.specs.Prelude.{◌≡◌, ℕ, List, [], ◌∷◌, Ok}
use Rattle.dw_read.specs.Reading.{Reading, left}
use Rattle.dw_read_lines.specs.FileEntryIters.{layout_of, HasParts}
use Rattle.dw_read_lines.specs.LineEntries.{Layout, Directories, Files, Described, formats_read}
use Rattle.dw_read_lines.specs.declared.file_entries.FileEntryIter.{FileEntryIter}
use Rattle.dw_read_lines.specs.declared.file_entry_formats.FileEntryFormat.{FileEntryFormat}
use Rattle.dw_read_lines.specs.declared.file_entry_formats.FileEntryFormatIter.{FileEntryFormatIter}

-- the parts that entries are described by; up to version 4 there are none
abbrev pub parts_in : Layout → List (ℕ × ℕ)
parts_in Directories = []
parts_in Files = []
parts_in (Described e parts) = parts

-- what a part tells, and its form
abbrev pub part_of : FileEntryFormat → ℕ × ℕ
part_of f = (f.content_type, f.form.0)

module _ {R E : Type 0} (reading : R → Reading) where
  -- a fact of the parts by which the entries are described
  abbrev pub OfParts : FileEntryIter R E → (List (ℕ × ℕ) → Type 0) → Type 0
  OfParts i P = (parts : List (ℕ × ℕ)) → HasParts reading i.layout parts → P (parts_in (layout_of reading i.layout parts))

  -- these parts are left
  pub record HasFormats (i : FileEntryFormatIter R E) (parts : List (ℕ × ℕ)) : Type 0 where
    pub rest : List ℕ
    pub is : formats_read i.remaining (left (reading i.input)) ≡ Ok (parts, rest)

  -- the first of the parts is handed out, and the others are left
  pub record GivesFormat (new : FileEntryFormatIter R E) (parts : List (ℕ × ℕ)) (f : FileEntryFormat) : Type 0 where
    pub others : List (ℕ × ℕ)
    pub first : parts ≡ part_of f ∷ others
    pub left : HasFormats new others
