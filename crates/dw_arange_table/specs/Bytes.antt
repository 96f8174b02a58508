-- The bytes of `.debug_aranges` (DWARF 5, 6.1.2; versions 2 to 4 have the same).
use Rattle.std.specs.Prelude.{ℕ, ◌+◌, ◌-◌, ◌*◌, ◌%◌, Bool, List, ◌∷◌, ◌++◌, length}
use Rattle.std.specs.List.{flat_map}
use Rattle.dw_base.specs.Numbers.{num, word_of, escape_of, length_size}
use Rattle.dw_base.specs.declared.common.Format.{Format}
use Rattle.dw_writer.specs.Texts.{zeros}
use Rattle.dw_arange_table.specs.declared.range.RangeDescriptor.{RangeDescriptor}
use Rattle.dw_arange_table.specs.Sets.{RangeSet}

-- the bytes of a set's header: the length, two bytes for the version, the unit's place, and a byte for each of two sizes
abbrev pub header_size : Format → ℕ
header_size format = length_size format + (2 + (word_of format + 2))

-- how many bytes lack from there to a multiple of two addresses, counted from the set's begin
abbrev pub padding : Format → ℕ → ℕ
padding format w = (2 * w - header_size format % (2 * w)) % (2 * w)

-- a range: its address and its length, each as wide as an address
abbrev pub range_bytes : Bool → ℕ → RangeDescriptor → List ℕ
range_bytes big w r = num big w r.address ++ num big w r.length

-- what follows the unit's place: the size of an address, the size of a segment selector, which is 0, zeros up to the first
-- range, the ranges, and a pair of zeros
unfoldable pub rest_bytes : Bool → RangeSet → List ℕ
rest_bytes big s =
    let w = s.address_size in
    w ∷ 0 ∷ (zeros (padding s.format w) ++ (flat_map (range_bytes big w) s.ranges ++ zeros (2 * w)))

-- what follows the length: the version, which is 2, the unit's place, and the rest
unfoldable pub content_bytes : Bool → RangeSet → List ℕ
content_bytes big s = num big 2 2 ++ (num big (word_of s.format) s.unit ++ rest_bytes big s)

-- a set behind its length, which counts what follows it (DWARF 5, 7.4)
unfoldable pub set_bytes : Bool → RangeSet → List ℕ
set_bytes big s = escape_of s.format ++ (num big (word_of s.format) (length (content_bytes big s)) ++ content_bytes big s)

-- a section: sets, one behind another
abbrev pub aranges_bytes : Bool → List RangeSet → List ℕ
aranges_bytes big sets = flat_map (set_bytes big) sets
