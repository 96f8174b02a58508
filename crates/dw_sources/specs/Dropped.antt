-- The names of attributes that what is written has of its own (DWARF 5, 7.5.4, table 7.5, and the GNU names behind it).
use Rattle.std.specs.Prelude.{ℕ, ◌==◌, Bool, not, ◌&&◌, List, [], ◌∷◌}
use Rattle.dw_base.specs.declared.constants.TheConstants.{DW_AT_sibling, DW_AT_str_offsets_base, DW_AT_addr_base, DW_AT_rnglists_base, DW_AT_loclists_base, DW_AT_dwo_name, DW_AT_GNU_addr_base, DW_AT_GNU_ranges_base, DW_AT_GNU_dwo_name, DW_AT_GNU_dwo_id, DW_AT_GNU_locviews}
use Rattle.dw_read.specs.Values.{is_among}

-- What is written has siblings, bases and split files of its own, and no views of locations. Zero is the name of no attribute.
abbrev pub dropped_names : List ℕ
dropped_names =
    0 ∷ DW_AT_sibling.0 ∷ DW_AT_str_offsets_base.0 ∷ DW_AT_addr_base.0 ∷ DW_AT_rnglists_base.0 ∷ DW_AT_loclists_base.0 ∷ DW_AT_dwo_name.0 ∷ DW_AT_GNU_addr_base.0 ∷ DW_AT_GNU_ranges_base.0 ∷ DW_AT_GNU_dwo_name.0 ∷ DW_AT_GNU_dwo_id.0 ∷ DW_AT_GNU_locviews.0 ∷ []

unfoldable pub is_dropped : ℕ → Bool
is_dropped name = is_among name dropped_names

-- those that are left out as soon as an entry is read; views of locations are left to those who convert
abbrev pub is_left_out : ℕ → Bool
is_left_out name = not (name == DW_AT_GNU_locviews.0) && is_dropped name
