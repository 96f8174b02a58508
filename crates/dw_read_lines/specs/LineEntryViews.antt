-- Directories and files that were read, as the grammar has them.
use Rattle.std.specs.Prelude.{◌≡◌, ℕ, Bool, List, Ok}
use Rattle.dw_read.specs.Reading.{Reading, Read, Passes, left}
use Rattle.dw_read.specs.Took.{option_of}
use Rattle.dw_read.specs.Values.{value_of}
use Rattle.dw_read_lines.specs.LineEntries.{Entry, formats_read, description_read, entry_by, untold}
use Rattle.dw_read_lines.specs.declared.file_entry.FileEntry.{FileEntry}
use Rattle.dw_read_lines.specs.declared.description.Description.{Description}

abbrev pub entry_of : {R E : Type 0} → (R → Reading) → FileEntry R E → Entry
entry_of reading f = record {
  path = option_of (value_of reading) f.path_name;
  directory = option_of (value_of reading) f.directory_index;
  timestamp = option_of (value_of reading) f.timestamp;
  size = option_of (value_of reading) f.size;
  md5 = option_of (value_of reading) f.md5;
  source = option_of (value_of reading) f.source;
}

-- some bytes were passed
pub record Went (old new : Reading) : Type 0 where
  pub count : ℕ
  pub passes : Passes count old new

module _ {R E : Type 0} (reading : R → Reading) where
  -- the parts of entries are those that are described
  pub record IsDescribed (d : Description R E) (parts : List (ℕ × ℕ)) : Type 0 where
    pub rest : List ℕ
    pub is : formats_read d.format_count (left (reading d.formats)) ≡ Ok (parts, rest)

  -- how entries are described, and their number
  pub record Describes (old new : Reading) (d : Description R E) (count : ℕ) : Type 0 where
    pub parts : List (ℕ × ℕ)
    pub described : IsDescribed d parts
    pub is : description_read old.is_big (left old) ≡ Ok ((parts, count), left new)

  -- an entry of the parts that are described
  abbrev pub described_entry : Bool → Description R E → Read Entry
  described_entry big d = entry_by big d.encoding.encoding d.format_count (left (reading d.formats)) untold
