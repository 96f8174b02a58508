-- Sections of small units, read by the grammar, and some that it doesn't read.
use Rattle.std.proofs.Common.{◌≡◌, ℕ, List, [], ◌∷◌, map, Some, None, true, false, refl}
use Rattle.std.specs.Prelude.{pos, negsuc}
use Rattle.dw_base.specs.Numbers.{bytes_at, number_at, initial_length_at}
use Rattle.dw_base.specs.Leb128.{uleb_at, uleb16_at, groups_at, sleb_at, signed_groups_at}
use Rattle.dw_base.specs.Forms.{Absent, Number, Signed, kinds, form_at, kind_of, direct_at, text_at}
use Rattle.dw_base.specs.Abbreviations.{table_at, declarations_at, shape_at, specifications_at, shape_of_code}
use Rattle.dw_base.specs.Headers.{header_at, is_unit_type, has_identity, has_type_offset}
use Rattle.dw_base.specs.Entries.{Open, Null, Row, rows_at, mark_at, attributes_at, closes, is_one_tree, past_row}
use Rattle.dw_base.specs.Pointers.{format_of, application_of, pointer_width, is_signed, distance}
use Rattle.dw_base.specs.Info.{units_at, read_info, section_places}
use Rattle.dw_base.specs.declared.common.Format.TheVariants.{Dwarf32, Dwarf64}

-- A unit of version 5 that is only its root.
bare_info : List ℕ
bare_info =
    0x09 ∷ 0x00 ∷ 0x00 ∷ 0x00 ∷ 0x05 ∷ 0x00 ∷ 0x01 ∷ 0x08 ∷ 0x00 ∷ 0x00 ∷ 0x00 ∷ 0x00 ∷ 0x01 ∷ []

bare_abbrev : List ℕ
bare_abbrev =
    0x01 ∷ 0x11 ∷ 0x00 ∷ 0x00 ∷ 0x00 ∷ 0x00 ∷ []

bare-read : read_info false bare_info bare_abbrev ≡ Some (
    record {
      from = 0;
      header = record { encoding = record { address_size = 8; format = Dwarf32; version = 5 }; unit_type = Some 1; table_offset = 0; identity = None; type_offset = None };
      table =
          record { code = 1; shape = record { tag = 0x11; has_children = false; attributes = [] } } ∷ [];
      rows =
          record { from = 12; depth = 0; mark = Open (record { code = 1; tag = 0x11; has_children = false; attributes = [] }); to = 13 } ∷ [];
    } ∷ [])
unfolding bare_info bare_abbrev read_info units_at header_at bytes_at number_at initial_length_at table_at declarations_at shape_at specifications_at shape_of_code rows_at mark_at attributes_at form_at kind_of direct_at text_at uleb16_at uleb_at groups_at sleb_at signed_groups_at closes is_one_tree
bare-read = refl

-- A subprogram of version 4 that names a base type, which stands before it.
typed_info : List ℕ
typed_info =
    0x10 ∷ 0x00 ∷ 0x00 ∷ 0x00 ∷ 0x04 ∷ 0x00 ∷ 0x00 ∷ 0x00 ∷ 0x00 ∷ 0x00 ∷ 0x04 ∷ 0x01 ∷ 0x02 ∷ 0x04 ∷ 0x03 ∷ 0x0c ∷ 0x00 ∷ 0x00 ∷ 0x00 ∷ 0x00 ∷ []

typed_abbrev : List ℕ
typed_abbrev =
    0x01 ∷ 0x11 ∷ 0x01 ∷ 0x00 ∷ 0x00 ∷ 0x02 ∷ 0x24 ∷ 0x00 ∷ 0x0b ∷ 0x0b ∷ 0x00 ∷ 0x00 ∷ 0x03 ∷ 0x2e ∷ 0x00 ∷ 0x49 ∷ 0x13 ∷ 0x00 ∷ 0x00 ∷ 0x00 ∷ []

typed-read : read_info false typed_info typed_abbrev ≡ Some (
    record {
      from = 0;
      header = record { encoding = record { address_size = 4; format = Dwarf32; version = 4 }; unit_type = None; table_offset = 0; identity = None; type_offset = None };
      table =
          record { code = 1; shape = record { tag = 0x11; has_children = true; attributes = [] } }
          ∷ record { code = 2; shape = record { tag = 0x24; has_children = false; attributes = record { name = 0x0b; form = 0x0b; constant = None } ∷ [] } }
          ∷ record { code = 3; shape = record { tag = 0x2e; has_children = false; attributes = record { name = 0x49; form = 0x13; constant = None } ∷ [] } } ∷ [];
      rows =
          record { from = 11; depth = 0; mark = Open (record { code = 1; tag = 0x11; has_children = true; attributes = [] }); to = 12 }
          ∷ record { from = 12; depth = 1; mark = Open (record { code = 2; tag = 0x24; has_children = false; attributes = record { name = 0x0b; form = 0x0b; constant = None; operand = Number 4 } ∷ [] }); to = 14 }
          ∷ record { from = 14; depth = 1; mark = Open (record { code = 3; tag = 0x2e; has_children = false; attributes = record { name = 0x49; form = 0x13; constant = None; operand = Number 12 } ∷ [] }); to = 19 }
          ∷ record { from = 19; depth = 1; mark = Null; to = 20 } ∷ [];
    } ∷ [])
unfolding typed_info typed_abbrev read_info units_at header_at bytes_at number_at initial_length_at table_at declarations_at shape_at specifications_at shape_of_code rows_at mark_at attributes_at form_at kind_of direct_at text_at uleb16_at uleb_at groups_at sleb_at signed_groups_at closes is_one_tree
typed-read = refl

-- A subprogram with a child and a sibling attribute, which holds the place past the child's closing zero.
sibling_info : List ℕ
sibling_info =
    0x11 ∷ 0x00 ∷ 0x00 ∷ 0x00 ∷ 0x05 ∷ 0x00 ∷ 0x01 ∷ 0x08 ∷ 0x00 ∷ 0x00 ∷ 0x00 ∷ 0x00 ∷ 0x01 ∷ 0x02 ∷ 0x14 ∷ 0x00 ∷ 0x00 ∷ 0x00 ∷ 0x03 ∷ 0x00 ∷ 0x00 ∷ []

sibling_abbrev : List ℕ
sibling_abbrev =
    0x01 ∷ 0x11 ∷ 0x01 ∷ 0x00 ∷ 0x00 ∷ 0x02 ∷ 0x2e ∷ 0x01 ∷ 0x01 ∷ 0x13 ∷ 0x00 ∷ 0x00 ∷ 0x03 ∷ 0x34 ∷ 0x00 ∷ 0x00 ∷ 0x00 ∷ 0x00 ∷ []

sibling-read : read_info false sibling_info sibling_abbrev ≡ Some (
    record {
      from = 0;
      header = record { encoding = record { address_size = 8; format = Dwarf32; version = 5 }; unit_type = Some 1; table_offset = 0; identity = None; type_offset = None };
      table =
          record { code = 1; shape = record { tag = 0x11; has_children = true; attributes = [] } }
          ∷ record { code = 2; shape = record { tag = 0x2e; has_children = true; attributes = record { name = 0x01; form = 0x13; constant = None } ∷ [] } }
          ∷ record { code = 3; shape = record { tag = 0x34; has_children = false; attributes = [] } } ∷ [];
      rows =
          record { from = 12; depth = 0; mark = Open (record { code = 1; tag = 0x11; has_children = true; attributes = [] }); to = 13 }
          ∷ record { from = 13; depth = 1; mark = Open (record { code = 2; tag = 0x2e; has_children = true; attributes = record { name = 0x01; form = 0x13; constant = None; operand = Number 20 } ∷ [] }); to = 18 }
          ∷ record { from = 18; depth = 2; mark = Open (record { code = 3; tag = 0x34; has_children = false; attributes = [] }); to = 19 }
          ∷ record { from = 19; depth = 2; mark = Null; to = 20 }
          ∷ record { from = 20; depth = 1; mark = Null; to = 21 } ∷ [];
    } ∷ [])
unfolding sibling_info sibling_abbrev read_info units_at header_at bytes_at number_at initial_length_at table_at declarations_at shape_at specifications_at shape_of_code rows_at mark_at attributes_at form_at kind_of direct_at text_at uleb16_at uleb_at groups_at sleb_at signed_groups_at closes is_one_tree
sibling-read = refl

-- Two units, of which the first names the second one's root by its place in the section.
across_info : List ℕ
across_info =
    0x0d ∷ 0x00 ∷ 0x00 ∷ 0x00 ∷ 0x05 ∷ 0x00 ∷ 0x01 ∷ 0x08 ∷ 0x00 ∷ 0x00 ∷ 0x00 ∷ 0x00 ∷ 0x01 ∷ 0x1d ∷ 0x00 ∷ 0x00 ∷ 0x00 ∷ 0x09 ∷ 0x00 ∷ 0x00 ∷ 0x00 ∷ 0x05 ∷ 0x00 ∷ 0x01 ∷ 0x08 ∷ 0x08 ∷ 0x00 ∷ 0x00 ∷ 0x00 ∷ 0x01 ∷ []

across_abbrev : List ℕ
across_abbrev =
    0x01 ∷ 0x11 ∷ 0x00 ∷ 0x49 ∷ 0x10 ∷ 0x00 ∷ 0x00 ∷ 0x00 ∷ 0x01 ∷ 0x11 ∷ 0x00 ∷ 0x00 ∷ 0x00 ∷ 0x00 ∷ []

across-read : read_info false across_info across_abbrev ≡ Some (
    record {
      from = 0;
      header = record { encoding = record { address_size = 8; format = Dwarf32; version = 5 }; unit_type = Some 1; table_offset = 0; identity = None; type_offset = None };
      table =
          record { code = 1; shape = record { tag = 0x11; has_children = false; attributes = record { name = 0x49; form = 0x10; constant = None } ∷ [] } } ∷ [];
      rows =
          record { from = 12; depth = 0; mark = Open (record { code = 1; tag = 0x11; has_children = false; attributes = record { name = 0x49; form = 0x10; constant = None; operand = Number 0x1d } ∷ [] }); to = 17 } ∷ [];
    }
    ∷ record {
      from = 17;
      header = record { encoding = record { address_size = 8; format = Dwarf32; version = 5 }; unit_type = Some 1; table_offset = 8; identity = None; type_offset = None };
      table =
          record { code = 1; shape = record { tag = 0x11; has_children = false; attributes = [] } } ∷ [];
      rows =
          record { from = 12; depth = 0; mark = Open (record { code = 1; tag = 0x11; has_children = false; attributes = [] }); to = 13 } ∷ [];
    } ∷ [])
unfolding across_info across_abbrev read_info units_at header_at bytes_at number_at initial_length_at table_at declarations_at shape_at specifications_at shape_of_code rows_at mark_at attributes_at form_at kind_of direct_at text_at uleb16_at uleb_at groups_at sleb_at signed_groups_at closes is_one_tree
across-read = refl

-- Two variables with constants that stand in their declarations.
constant_info : List ℕ
constant_info =
    0x0c ∷ 0x00 ∷ 0x00 ∷ 0x00 ∷ 0x05 ∷ 0x00 ∷ 0x01 ∷ 0x08 ∷ 0x00 ∷ 0x00 ∷ 0x00 ∷ 0x00 ∷ 0x01 ∷ 0x02 ∷ 0x03 ∷ 0x00 ∷ []

constant_abbrev : List ℕ
constant_abbrev =
    0x01 ∷ 0x11 ∷ 0x01 ∷ 0x00 ∷ 0x00 ∷ 0x02 ∷ 0x34 ∷ 0x00 ∷ 0x0b ∷ 0x21 ∷ 0x7f ∷ 0x00 ∷ 0x00 ∷ 0x03 ∷ 0x34 ∷ 0x00 ∷ 0x0b ∷ 0x21 ∷ 0x01 ∷ 0x00 ∷ 0x00 ∷ 0x00 ∷ []

constant-read : read_info false constant_info constant_abbrev ≡ Some (
    record {
      from = 0;
      header = record { encoding = record { address_size = 8; format = Dwarf32; version = 5 }; unit_type = Some 1; table_offset = 0; identity = None; type_offset = None };
      table =
          record { code = 1; shape = record { tag = 0x11; has_children = true; attributes = [] } }
          ∷ record { code = 2; shape = record { tag = 0x34; has_children = false; attributes = record { name = 0x0b; form = 0x21; constant = Some (negsuc 0) } ∷ [] } }
          ∷ record { code = 3; shape = record { tag = 0x34; has_children = false; attributes = record { name = 0x0b; form = 0x21; constant = Some (pos 1) } ∷ [] } } ∷ [];
      rows =
          record { from = 12; depth = 0; mark = Open (record { code = 1; tag = 0x11; has_children = true; attributes = [] }); to = 13 }
          ∷ record { from = 13; depth = 1; mark = Open (record { code = 2; tag = 0x34; has_children = false; attributes = record { name = 0x0b; form = 0x21; constant = Some (negsuc 0); operand = Absent } ∷ [] }); to = 14 }
          ∷ record { from = 14; depth = 1; mark = Open (record { code = 3; tag = 0x34; has_children = false; attributes = record { name = 0x0b; form = 0x21; constant = Some (pos 1); operand = Absent } ∷ [] }); to = 15 }
          ∷ record { from = 15; depth = 1; mark = Null; to = 16 } ∷ [];
    } ∷ [])
unfolding constant_info constant_abbrev read_info units_at header_at bytes_at number_at initial_length_at table_at declarations_at shape_at specifications_at shape_of_code rows_at mark_at attributes_at form_at kind_of direct_at text_at uleb16_at uleb_at groups_at sleb_at signed_groups_at closes is_one_tree
constant-read = refl

-- The same two in version 4, with signed operands and one declaration.
signed_info : List ℕ
signed_info =
    0x0d ∷ 0x00 ∷ 0x00 ∷ 0x00 ∷ 0x04 ∷ 0x00 ∷ 0x00 ∷ 0x00 ∷ 0x00 ∷ 0x00 ∷ 0x08 ∷ 0x01 ∷ 0x02 ∷ 0x7f ∷ 0x02 ∷ 0x01 ∷ 0x00 ∷ []

signed_abbrev : List ℕ
signed_abbrev =
    0x01 ∷ 0x11 ∷ 0x01 ∷ 0x00 ∷ 0x00 ∷ 0x02 ∷ 0x34 ∷ 0x00 ∷ 0x0b ∷ 0x0d ∷ 0x00 ∷ 0x00 ∷ 0x00 ∷ []

signed-read : read_info false signed_info signed_abbrev ≡ Some (
    record {
      from = 0;
      header = record { encoding = record { address_size = 8; format = Dwarf32; version = 4 }; unit_type = None; table_offset = 0; identity = None; type_offset = None };
      table =
          record { code = 1; shape = record { tag = 0x11; has_children = true; attributes = [] } }
          ∷ record { code = 2; shape = record { tag = 0x34; has_children = false; attributes = record { name = 0x0b; form = 0x0d; constant = None } ∷ [] } } ∷ [];
      rows =
          record { from = 11; depth = 0; mark = Open (record { code = 1; tag = 0x11; has_children = true; attributes = [] }); to = 12 }
          ∷ record { from = 12; depth = 1; mark = Open (record { code = 2; tag = 0x34; has_children = false; attributes = record { name = 0x0b; form = 0x0d; constant = None; operand = Signed (negsuc 0) } ∷ [] }); to = 14 }
          ∷ record { from = 14; depth = 1; mark = Open (record { code = 2; tag = 0x34; has_children = false; attributes = record { name = 0x0b; form = 0x0d; constant = None; operand = Signed (pos 1) } ∷ [] }); to = 16 }
          ∷ record { from = 16; depth = 1; mark = Null; to = 17 } ∷ [];
    } ∷ [])
unfolding signed_info signed_abbrev read_info units_at header_at bytes_at number_at initial_length_at table_at declarations_at shape_at specifications_at shape_of_code rows_at mark_at attributes_at form_at kind_of direct_at text_at uleb16_at uleb_at groups_at sleb_at signed_groups_at closes is_one_tree
signed-read = refl

-- A bare unit of version 3 in the 64-bit format, the highest bytes first.
big_info : List ℕ
big_info =
    0xff ∷ 0xff ∷ 0xff ∷ 0xff ∷ 0x00 ∷ 0x00 ∷ 0x00 ∷ 0x00 ∷ 0x00 ∷ 0x00 ∷ 0x00 ∷ 0x0c ∷ 0x00 ∷ 0x03 ∷ 0x00 ∷ 0x00 ∷ 0x00 ∷ 0x00 ∷ 0x00 ∷ 0x00 ∷ 0x00 ∷ 0x00 ∷ 0x04 ∷ 0x01 ∷ []

big_abbrev : List ℕ
big_abbrev =
    0x01 ∷ 0x11 ∷ 0x00 ∷ 0x00 ∷ 0x00 ∷ 0x00 ∷ []

big-read : read_info true big_info big_abbrev ≡ Some (
    record {
      from = 0;
      header = record { encoding = record { address_size = 4; format = Dwarf64; version = 3 }; unit_type = None; table_offset = 0; identity = None; type_offset = None };
      table =
          record { code = 1; shape = record { tag = 0x11; has_children = false; attributes = [] } } ∷ [];
      rows =
          record { from = 23; depth = 0; mark = Open (record { code = 1; tag = 0x11; has_children = false; attributes = [] }); to = 24 } ∷ [];
    } ∷ [])
unfolding big_info big_abbrev read_info units_at header_at bytes_at number_at initial_length_at table_at declarations_at shape_at specifications_at shape_of_code rows_at mark_at attributes_at form_at kind_of direct_at text_at uleb16_at uleb_at groups_at sleb_at signed_groups_at closes is_one_tree
big-read = refl

-- One byte more after the unit.
one_byte_more : read_info false (0x09 ∷ 0x00 ∷ 0x00 ∷ 0x00 ∷ 0x05 ∷ 0x00 ∷ 0x01 ∷ 0x08 ∷ 0x00 ∷ 0x00 ∷ 0x00 ∷ 0x00 ∷ 0x01 ∷ 0x00 ∷ []) (0x01 ∷ 0x11 ∷ 0x00 ∷ 0x00 ∷ 0x00 ∷ 0x00 ∷ []) ≡ None
unfolding read_info units_at header_at bytes_at number_at initial_length_at table_at declarations_at shape_at specifications_at shape_of_code rows_at mark_at attributes_at form_at kind_of direct_at text_at uleb16_at uleb_at groups_at sleb_at signed_groups_at closes is_one_tree
one_byte_more = refl

-- One byte less than the length says.
one_byte_less : read_info false (0x09 ∷ 0x00 ∷ 0x00 ∷ 0x00 ∷ 0x05 ∷ 0x00 ∷ 0x01 ∷ 0x08 ∷ 0x00 ∷ 0x00 ∷ 0x00 ∷ 0x00 ∷ []) (0x01 ∷ 0x11 ∷ 0x00 ∷ 0x00 ∷ 0x00 ∷ 0x00 ∷ []) ≡ None
unfolding read_info units_at header_at bytes_at number_at initial_length_at table_at declarations_at shape_at specifications_at shape_of_code rows_at mark_at attributes_at form_at kind_of direct_at text_at uleb16_at uleb_at groups_at sleb_at signed_groups_at closes is_one_tree
one_byte_less = refl

-- A second tree in the unit.
two_trees : read_info false (0x0a ∷ 0x00 ∷ 0x00 ∷ 0x00 ∷ 0x05 ∷ 0x00 ∷ 0x01 ∷ 0x08 ∷ 0x00 ∷ 0x00 ∷ 0x00 ∷ 0x00 ∷ 0x01 ∷ 0x01 ∷ []) (0x01 ∷ 0x11 ∷ 0x00 ∷ 0x00 ∷ 0x00 ∷ 0x00 ∷ []) ≡ None
unfolding read_info units_at header_at bytes_at number_at initial_length_at table_at declarations_at shape_at specifications_at shape_of_code rows_at mark_at attributes_at form_at kind_of direct_at text_at uleb16_at uleb_at groups_at sleb_at signed_groups_at closes is_one_tree
two_trees = refl

-- Two declarations of one code.
same_code_twice : read_info false (0x09 ∷ 0x00 ∷ 0x00 ∷ 0x00 ∷ 0x05 ∷ 0x00 ∷ 0x01 ∷ 0x08 ∷ 0x00 ∷ 0x00 ∷ 0x00 ∷ 0x00 ∷ 0x01 ∷ []) (0x01 ∷ 0x11 ∷ 0x00 ∷ 0x00 ∷ 0x00 ∷ 0x01 ∷ 0x34 ∷ 0x00 ∷ 0x00 ∷ 0x00 ∷ 0x00 ∷ []) ≡ None
unfolding read_info units_at header_at bytes_at number_at initial_length_at table_at declarations_at shape_at specifications_at shape_of_code rows_at mark_at attributes_at form_at kind_of direct_at text_at uleb16_at uleb_at groups_at sleb_at signed_groups_at closes is_one_tree
same_code_twice = refl

-- A byte between the tables of two units.
gap_between_tables : read_info false (0x09 ∷ 0x00 ∷ 0x00 ∷ 0x00 ∷ 0x05 ∷ 0x00 ∷ 0x01 ∷ 0x08 ∷ 0x00 ∷ 0x00 ∷ 0x00 ∷ 0x00 ∷ 0x01 ∷ 0x09 ∷ 0x00 ∷ 0x00 ∷ 0x00 ∷ 0x05 ∷ 0x00 ∷ 0x01 ∷ 0x08 ∷ 0x07 ∷ 0x00 ∷ 0x00 ∷ 0x00 ∷ 0x01 ∷ []) (0x01 ∷ 0x11 ∷ 0x00 ∷ 0x00 ∷ 0x00 ∷ 0x00 ∷ 0x00 ∷ 0x01 ∷ 0x11 ∷ 0x00 ∷ 0x00 ∷ 0x00 ∷ 0x00 ∷ []) ≡ None
unfolding read_info units_at header_at bytes_at number_at initial_length_at table_at declarations_at shape_at specifications_at shape_of_code rows_at mark_at attributes_at form_at kind_of direct_at text_at uleb16_at uleb_at groups_at sleb_at signed_groups_at closes is_one_tree
gap_between_tables = refl

-- A table that no unit has.
table_left_over : read_info false (0x09 ∷ 0x00 ∷ 0x00 ∷ 0x00 ∷ 0x05 ∷ 0x00 ∷ 0x01 ∷ 0x08 ∷ 0x00 ∷ 0x00 ∷ 0x00 ∷ 0x00 ∷ 0x01 ∷ []) (0x01 ∷ 0x11 ∷ 0x00 ∷ 0x00 ∷ 0x00 ∷ 0x00 ∷ 0x01 ∷ 0x11 ∷ 0x00 ∷ 0x00 ∷ 0x00 ∷ 0x00 ∷ []) ≡ None
unfolding read_info units_at header_at bytes_at number_at initial_length_at table_at declarations_at shape_at specifications_at shape_of_code rows_at mark_at attributes_at form_at kind_of direct_at text_at uleb16_at uleb_at groups_at sleb_at signed_groups_at closes is_one_tree
table_left_over = refl

-- A tag, a name and a form past 16 bits, the number 0x11 in more groups than it needs, and 0xffff.
wide_tag : table_at (0x01 ∷ 0x91 ∷ 0x80 ∷ 0x04 ∷ 0x00 ∷ 0x00 ∷ 0x00 ∷ 0x00 ∷ []) ≡ None
unfolding table_at declarations_at shape_at specifications_at uleb16_at uleb_at groups_at
wide_tag = refl

wide_name : table_at (0x01 ∷ 0x11 ∷ 0x00 ∷ 0x83 ∷ 0x80 ∷ 0x04 ∷ 0x0b ∷ 0x00 ∷ 0x00 ∷ 0x00 ∷ []) ≡ None
unfolding table_at declarations_at shape_at specifications_at uleb16_at uleb_at groups_at
wide_name = refl

wide_form : table_at (0x01 ∷ 0x11 ∷ 0x00 ∷ 0x03 ∷ 0x8b ∷ 0x80 ∷ 0x04 ∷ 0x00 ∷ 0x00 ∷ 0x00 ∷ []) ≡ None
unfolding table_at declarations_at shape_at specifications_at uleb16_at uleb_at groups_at
wide_form = refl

padded_tag : table_at (0x01 ∷ 0x91 ∷ 0x80 ∷ 0x00 ∷ 0x00 ∷ 0x00 ∷ 0x00 ∷ 0x00 ∷ []) ≡ Some (record { code = 1; shape = record { tag = 0x11; has_children = false; attributes = [] } } ∷ [], [])
unfolding table_at declarations_at shape_at specifications_at uleb16_at uleb_at groups_at
padded_tag = refl

last_tag : table_at (0x01 ∷ 0xff ∷ 0xff ∷ 0x03 ∷ 0x00 ∷ 0x00 ∷ 0x00 ∷ 0x00 ∷ []) ≡ Some (record { code = 1; shape = record { tag = 0xffff; has_children = false; attributes = [] } } ∷ [], [])
unfolding table_at declarations_at shape_at specifications_at uleb16_at uleb_at groups_at
last_tag = refl

-- An attribute of the form indirect (0x16) has the form that stands before its operand, here data1 (0x0b).
indirect-read : attributes_at false (record { address_size = 8; format = Dwarf32; version = 4 }) (record { name = 0x03; form = 0x16; constant = None } ∷ []) (0x0b ∷ 0x2a ∷ 0x07 ∷ []) ≡ Some (record { name = 0x03; form = 0x0b; constant = None; operand = Number 42 } ∷ [], 0x07 ∷ [])
unfolding attributes_at form_at kind_of direct_at bytes_at number_at uleb16_at uleb_at groups_at
indirect-read = refl

-- None stands before the operand in more than 16 bits, and neither indirect nor implicit_const (0x21) stands there.
indirect_wide : form_at false (record { address_size = 8; format = Dwarf32; version = 4 }) 0x16 (0x8b ∷ 0x80 ∷ 0x04 ∷ 0x2a ∷ []) ≡ None
unfolding form_at kind_of direct_at uleb16_at uleb_at groups_at
indirect_wide = refl

indirect_twice : form_at false (record { address_size = 8; format = Dwarf32; version = 4 }) 0x16 (0x16 ∷ 0x0b ∷ 0x2a ∷ []) ≡ None
unfolding form_at kind_of direct_at uleb16_at uleb_at groups_at
indirect_twice = refl

indirect_constant : form_at false (record { address_size = 8; format = Dwarf32; version = 5 }) 0x16 (0x21 ∷ 0x2a ∷ []) ≡ None
unfolding form_at kind_of direct_at uleb16_at uleb_at groups_at
indirect_constant = refl

-- The rows of the subprogram with a child: the place past the subprogram is behind its child's closing zero, that past the
-- child behind the child, and that past the root at the unit's end.
root_row : Row
root_row = record { from = 12; depth = 0; mark = Open (record { code = 1; tag = 0x11; has_children = true; attributes = [] }); to = 13 }

subprogram_row : Row
subprogram_row = record { from = 13; depth = 1; mark = Open (record { code = 2; tag = 0x2e; has_children = true; attributes = record { name = 0x01; form = 0x13; constant = None; operand = Number 20 } ∷ [] }); to = 18 }

child_row : Row
child_row = record { from = 18; depth = 2; mark = Open (record { code = 3; tag = 0x34; has_children = false; attributes = [] }); to = 19 }

closing_rows : List Row
closing_rows = record { from = 19; depth = 2; mark = Null; to = 20 } ∷ record { from = 20; depth = 1; mark = Null; to = 21 } ∷ []

past_root : past_row root_row (subprogram_row ∷ child_row ∷ closing_rows) ≡ 21
unfolding root_row subprogram_row child_row closing_rows
past_root = refl

past_subprogram : past_row subprogram_row (child_row ∷ closing_rows) ≡ 20
unfolding subprogram_row child_row closing_rows
past_subprogram = refl

past_child : past_row child_row closing_rows ≡ 19
unfolding child_row closing_rows
past_child = refl

-- The root of a unit that begins at place 17 of the section: its row begins at place 12 of the unit.
place_of_second_root : section_places (record {
  from = 17;
  header = record { encoding = record { address_size = 8; format = Dwarf32; version = 5 }; unit_type = Some 1; table_offset = 8; identity = None; type_offset = None };
  table = [];
  rows = record { from = 12; depth = 0; mark = Null; to = 13 } ∷ [];
}) ≡ 29 ∷ []
place_of_second_root = refl

-- The codes of the forms, as the standard's table has them.
form_codes : map (λ k. k.0) (kinds (record { address_size = 8; format = Dwarf32; version = 5 })) ≡ 0x01 ∷ 0x03 ∷ 0x04 ∷ 0x05 ∷ 0x06 ∷ 0x07 ∷ 0x08 ∷ 0x09 ∷ 0x0a ∷ 0x0b ∷ 0x0c ∷ 0x0d ∷ 0x0e ∷ 0x0f ∷ 0x10 ∷ 0x11 ∷ 0x12 ∷ 0x13 ∷ 0x14 ∷ 0x15 ∷ 0x16 ∷ 0x17 ∷ 0x18 ∷ 0x19 ∷ 0x1a ∷ 0x1b ∷ 0x1c ∷ 0x1d ∷ 0x1e ∷ 0x1f ∷ 0x20 ∷ 0x21 ∷ 0x22 ∷ 0x23 ∷ 0x24 ∷ 0x25 ∷ 0x26 ∷ 0x27 ∷ 0x28 ∷ 0x29 ∷ 0x2a ∷ 0x2b ∷ 0x2c ∷ []
form_codes = refl

-- The types of unit that have eight bytes of their own, and those that have the place of a type.
identities : map has_identity (1 ∷ 2 ∷ 3 ∷ 4 ∷ 5 ∷ 6 ∷ []) ≡ false ∷ true ∷ false ∷ true ∷ true ∷ true ∷ []
identities = refl

type_offsets : map has_type_offset (1 ∷ 2 ∷ 3 ∷ 4 ∷ 5 ∷ 6 ∷ []) ≡ false ∷ true ∷ false ∷ false ∷ false ∷ true ∷ []
type_offsets = refl

unit_types : map is_unit_type (0 ∷ 1 ∷ 6 ∷ 7 ∷ []) ≡ false ∷ true ∷ true ∷ false ∷ []
unit_types = refl

-- Encodings of pointers: the formats with their bytes where an address has 8, those of them that are signed, and 0x9b, as
-- compilers write it, which is indirect, counts from its place and has 4 signed bytes.
pointer_widths : map (pointer_width 8) (0x00 ∷ 0x01 ∷ 0x02 ∷ 0x03 ∷ 0x04 ∷ 0x09 ∷ 0x0a ∷ 0x0b ∷ 0x0c ∷ []) ≡ Some 8 ∷ None ∷ Some 2 ∷ Some 4 ∷ Some 8 ∷ None ∷ Some 2 ∷ Some 4 ∷ Some 8 ∷ []
pointer_widths = refl

signed_formats : map is_signed (0x00 ∷ 0x01 ∷ 0x02 ∷ 0x03 ∷ 0x04 ∷ 0x09 ∷ 0x0a ∷ 0x0b ∷ 0x0c ∷ []) ≡ false ∷ false ∷ false ∷ false ∷ false ∷ true ∷ true ∷ true ∷ true ∷ []
signed_formats = refl

usual_format : format_of 0x9b ≡ 0x0b
usual_format = refl

usual_application : application_of 0x9b ≡ 0x10
usual_application = refl

-- From place 0x1000, an address 0x20 behind it and one 0x10 before it.
distances : map (distance 0x1000) (0x1020 ∷ 0xff0 ∷ []) ≡ 0x20 ∷ 0xffff_ffff_ffff_fff0 ∷ []
distances = refl
