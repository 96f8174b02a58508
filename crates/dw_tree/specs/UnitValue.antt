-- A unit, as contracts see it.
use Rattle.std.specs.Prelude.{◌≡◌, ◌≢◌, ℕ, ◌<◌, Option, None, List, [], ◌∷◌, length, Bool, true, false, IsTrue, if◌then◌else◌}
use Rattle.dw_base.specs.declared.common.Encoding.{Encoding}
use Rattle.dw_line.specs.LinePrograms.{LineProgramValue, no_line_program}
use Rattle.dw_lists.specs.declared.range.Range.{Range}
use Rattle.dw_lists.specs.declared.location.Location.{Location}
use Rattle.dw_entries.specs.declared.value.AttributeValue.{AttributeValue}
use Rattle.dw_entries.specs.Entries.{EntryValue, new_root, with_changed, value_of}
use Rattle.std.specs.Option.{option_map}
use Rattle.dw_tree.specs.Places.{Offsets, OffsetsValue, offsets_in}
use Rattle.dw_entries.specs.Arena.{EntriesValue, IsArena, is_reserved as is_reserved_in}

-- The ids below `reserved` were handed out. A unit that was written and not skipped keeps where its entries stand.
pub record UnitValue : Type 0 where
  pub encoding : Encoding
  pub line_program : LineProgramValue
  pub ranges : List (List Range)
  pub locations : List (List Location)
  pub entries : List EntryValue
  pub reserved : ℕ
  pub is_written : Bool
  pub is_freed : Bool
  pub offsets : Option OffsetsValue

-- as it is made
abbrev pub new_unit : Encoding → LineProgramValue → UnitValue
new_unit encoding line_program =
    record {
      encoding = encoding;
      line_program = line_program;
      ranges = [];
      locations = [];
      entries = new_root ∷ [];
      reserved = 1;
      is_written = false;
      is_freed = false;
      offsets = None;
    }

-- the entries, and how many ids were handed out
abbrev pub entries_of : UnitValue → EntriesValue
entries_of u = record { entries = u.entries; reserved = u.reserved }

-- an id was handed out, is not the root's and was not added yet
abbrev pub is_reserved : UnitValue → ℕ → Bool
is_reserved u i = is_reserved_in (entries_of u) i

abbrev pub IsReserved : UnitValue → ℕ → Type 0
IsReserved u i = IsTrue (is_reserved u i)

-- The entries are there until the unit is freed, and only a unit that was written is freed or keeps places.
pub record IsKept (es : List EntryValue) (is_written is_freed : Bool) (offsets : Option OffsetsValue) : Type 0 where
  pub rooted : is_freed ≡ false → 0 < length es
  pub written : is_freed ≡ true → is_written ≡ true
  pub unplaced : is_written ≡ false → offsets ≡ None

-- what is true of each unit
pub record IsSound (u : UnitValue) : Type 0 where
  pub arena : IsArena u.entries u.reserved
  pub kept : IsKept u.entries u.is_written u.is_freed u.offsets

-- where the entries of a unit stand, if it was written and not skipped
abbrev pub offsets_of : UnitValue → Option Offsets
offsets_of u = if u.is_written then option_map offsets_in u.offsets else None

-- a unit with one entry changed
abbrev pub with_entry : UnitValue → ℕ → (EntryValue → EntryValue) → UnitValue
with_entry u i f = record u { entries = with_changed i f u.entries }

-- the value under a name in the entry at an index
abbrev pub value_in : UnitValue → ℕ → ℕ → Option AttributeValue
value_in u i n = value_of u.entries i n

-- all but the value under a name in one entry have the values that they had
abbrev pub KeepsOtherValues : UnitValue → UnitValue → ℕ → ℕ → Type 0
KeepsOtherValues old new i n = (m : ℕ) → m ≢ n → value_in new i m ≡ value_in old i m

-- a unit that gave its line program, its lists and its entries up
abbrev pub freed : UnitValue → UnitValue
freed u = record u { line_program = no_line_program; ranges = []; locations = []; entries = []; is_freed = true }
