-- The codes of the items of lists of version 5 (DWARF 5, 7.25 and 7.7.3).
use Rattle.std.specs.Prelude.{◌<◌, Bool, true, false}
use Rattle.dw_base.specs.declared.constants.TheConstants.{DW_RLE_end_of_list, DW_RLE_offset_pair, DW_RLE_base_address, DW_RLE_start_end, DW_RLE_start_length}
use Rattle.dw_base.specs.declared.constants.TheConstants.{DW_LLE_end_of_list, DW_LLE_offset_pair, DW_LLE_base_address, DW_LLE_start_end, DW_LLE_start_length}
use Rattle.dw_lists.specs.declared.kinds.Kinds.{Kinds}

abbrev pub range_kinds : Kinds
range_kinds = record {
  end_of_list = DW_RLE_end_of_list.0;
  offset_pair = DW_RLE_offset_pair.0;
  base_address = DW_RLE_base_address.0;
  start_end = DW_RLE_start_end.0;
  start_length = DW_RLE_start_length.0;
}

abbrev pub location_kinds : Kinds
location_kinds = record {
  end_of_list = DW_LLE_end_of_list.0;
  offset_pair = DW_LLE_offset_pair.0;
  base_address = DW_LLE_base_address.0;
  start_end = DW_LLE_start_end.0;
  start_length = DW_LLE_start_length.0;
}

-- those of location lists, or of range lists
abbrev pub kinds_of : Bool → Kinds
kinds_of true = location_kinds
kinds_of false = range_kinds

-- each is a byte
abbrev pub AreBytes : Kinds → Type 0
AreBytes k = (k.end_of_list < 256) × ((k.offset_pair < 256) × ((k.base_address < 256) × ((k.start_end < 256) × (k.start_length < 256))))
