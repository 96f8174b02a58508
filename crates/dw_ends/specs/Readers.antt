-- Readers of the sections that a listing says.
use Rattle.std.specs.Prelude.{◌≡◌, ℕ, Bool, List, [], get_or}
use Rattle.dw_base.specs.Order.{is_big_of}
use Rattle.dw_base.specs.declared.endianity.RunTimeEndian.{RunTimeEndian}
use Rattle.dw_read.specs.Reading.{Reading, whole}
use Rattle.dw_read.specs.declared.endian_slice.EndianSlice.{EndianSlice}
use Rattle.dw_read_units.specs.declared.dwarf.Dwarf.{Dwarf}

-- The readers of a file's sections, each whole and in one byte order. The sections are those of a listing: the eleven that are
-- written in their order, those of frames at 9 and 10 among them, which no unit leads to, and then .debug_addr and
-- .debug_str_offsets.
pub record ReadsSections {R E : Type 0} (reading : R → Reading) (big : Bool) (sections : List (List ℕ)) (d : Dwarf R E) : Type 0 where
  pub debug_abbrev : reading d.debug_abbrev ≡ whole (get_or sections 0 []) big
  pub debug_str : reading d.debug_str ≡ whole (get_or sections 1 []) big
  pub debug_line_str : reading d.debug_line_str ≡ whole (get_or sections 2 []) big
  pub debug_line : reading d.debug_line ≡ whole (get_or sections 3 []) big
  pub debug_ranges : reading d.debug_ranges ≡ whole (get_or sections 4 []) big
  pub debug_rnglists : reading d.debug_rnglists ≡ whole (get_or sections 5 []) big
  pub debug_loc : reading d.debug_loc ≡ whole (get_or sections 6 []) big
  pub debug_loclists : reading d.debug_loclists ≡ whole (get_or sections 7 []) big
  pub debug_info : reading d.debug_info ≡ whole (get_or sections 8 []) big
  pub debug_addr : reading d.debug_addr ≡ whole (get_or sections 11 []) big
  pub debug_str_offsets : reading d.debug_str_offsets ≡ whole (get_or sections 12 []) big

-- a reader of a section that lies in a slice, whose byte order is chosen when the program runs
abbrev pub SectionSlice : Type 0
SectionSlice = EndianSlice RunTimeEndian (record { is_big = is_big_of })

-- what it reads
abbrev pub slice_reading : SectionSlice → Reading
slice_reading s = record { section = s.section.now; place = s.place; end = s.end; is_big = is_big_of s.endian }
