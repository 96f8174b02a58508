-- Strings and lists that offsets and indices lead to (DWARF 5, 7.26 to 7.29).
use Rattle.std.specs.Prelude.{ℕ, ◌+◌, ◌^◌, nat_lt, List, Result, Ok}
use Rattle.dw_read.specs.Reading.{Reading}
use Rattle.dw_read.specs.Reasons.{◌=>>◌, if_so, number_read, text_read}
use Rattle.dw_read.specs.declared.error.ReadError.{ReadError}
use Rattle.dw_read.specs.declared.error.ReadError.TheVariants.{OffsetOutOfBounds}
use Rattle.dw_read_units.specs.Lookups.{bytes_from, indexed}
use Rattle.dw_read_units.specs.Units.{word_in}
use Rattle.dw_read_units.specs.declared.unit_ref.UnitRef.{UnitRef}
use Rattle.dw_sources.specs.declared.convert_error.ConvertError.{ConvertError}
use Rattle.dw_convert.specs.Outcomes.{of_read}

-- the text at an offset of a section
unfoldable pub text_from : Reading → ℕ → Result (List ℕ) ReadError
text_from section offset = text_read (bytes_from offset section) =>> λ x. Ok x.0

-- the text whose offset stands under an index behind a base
unfoldable pub text_behind : Reading → Reading → ℕ → ℕ → ℕ → Result (List ℕ) ReadError
text_behind offsets texts base width i = number_read offsets.is_big width (bytes_from (indexed base i width) offsets) =>> λ x. text_from texts x.0

-- the place of a list whose distance from a base stands under an index behind it
unfoldable pub list_behind : Reading → ℕ → ℕ → ℕ → Result ℕ ReadError
list_behind section base width i = number_read section.is_big width (bytes_from (indexed base i width) section) =>> λ x. if_so (nat_lt (base + x.0) (2 ^ 64)) (OffsetOutOfBounds x.0) (Ok (base + x.0))

module _ {R E : Type 0} (reading : R → Reading) (u : UnitRef R E) where
  abbrev pub string_in : ℕ → Result (List ℕ) ConvertError
  string_in offset = of_read (text_from (reading u.dwarf.now.debug_str) offset)

  abbrev pub line_string_in : ℕ → Result (List ℕ) ConvertError
  line_string_in offset = of_read (text_from (reading u.dwarf.now.debug_line_str) offset)

  -- by an index in the unit's part of .debug_str_offsets
  abbrev pub string_of : ℕ → Result (List ℕ) ConvertError
  string_of i = of_read (text_behind (reading u.dwarf.now.debug_str_offsets) (reading u.dwarf.now.debug_str) u.unit.now.str_offsets_base (word_in u) i)

  -- by indices in the unit's parts of .debug_rnglists and .debug_loclists
  abbrev pub ranges_of : ℕ → Result ℕ ConvertError
  ranges_of i = of_read (list_behind (reading u.dwarf.now.debug_rnglists) u.unit.now.rnglists_base (word_in u) i)

  abbrev pub locations_of : ℕ → Result ℕ ConvertError
  locations_of i = of_read (list_behind (reading u.dwarf.now.debug_loclists) u.unit.now.loclists_base (word_in u) i)
