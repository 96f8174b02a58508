-- Worked rows: codes as the standard's tables have them, numbers of files, and a small tree that is settled.
use Rattle.std.proofs.Common.{◌≡◌, List, [], ◌∷◌, Some, None, Bool, true, false, refl}
use Rattle.dw_base.specs.Entries.{Open, Null}
use Rattle.dw_base.specs.Leb128.{uleb, uleb_groups}
use Rattle.dw_base.specs.declared.common.Encoding.{Encoding}
use Rattle.dw_base.specs.declared.common.Format.TheVariants.{Dwarf32, Dwarf64}
use Rattle.dw_entries.specs.declared.own_parts.OwnParts.{OwnParts}
use Rattle.dw_entries.specs.declared.value.AttributeValue.TheVariants as values
use Rattle.dw_entries.specs.Attributes.{named}
use Rattle.dw_entries.specs.Entries.{EntryValue, new_root, with_added}
use Rattle.dw_entries.specs.Settled.{settled_attributes, settled_entries}
use Rattle.dw_entries.specs.Tree.{tree_from, preorder}
use Rattle.dw_entries.specs.Values.{form_of, reference_form, file_number, operand_size}

-- DWARF 5, table 7.3
root-tag : new_root.tag ≡ 0x11
root-tag = refl

-- DWARF 5, table 7.6
forms-32 : reference_form Dwarf32 ≡ 0x13
forms-32 = refl

forms-64 : reference_form Dwarf64 ≡ 0x14
forms-64 = refl

module _ (e : Encoding) where
  data1-form : form_of e (values.Data1 4) ≡ 0x0b
  data1-form = refl

  udata-form : form_of e (values.Udata 4) ≡ 0x0f
  udata-form = refl

  string-form : form_of e (values.String []) ≡ 0x08
  string-form = refl

  file-form : form_of e (values.FileIndex None) ≡ 0x0f
  file-form = refl

-- DWARF 5, 7.5.4: sec_offset came in version 4
line_program-form : form_of (record { address_size = 8; format = Dwarf32; version = 4 }) values.LineProgramRef ≡ 0x17
line_program-form = refl

old_line_program-form : form_of (record { address_size = 8; format = Dwarf32; version = 3 }) values.LineProgramRef ≡ 0x06
old_line_program-form = refl

-- DWARF 5, table 7.6: rnglistx and loclistx came in version 5; a base is an offset in each
range_list-form : form_of (record { address_size = 8; format = Dwarf64; version = 5 }) (values.RangeListRef (record { 0 = 300 })) ≡ 0x23
range_list-form = refl

range_list-form-4 : form_of (record { address_size = 8; format = Dwarf64; version = 4 }) (values.RangeListRef (record { 0 = 300 })) ≡ 0x17
range_list-form-4 = refl

old_range_list-form : form_of (record { address_size = 8; format = Dwarf64; version = 3 }) (values.RangeListRef (record { 0 = 300 })) ≡ 0x07
old_range_list-form = refl

location_list-form : form_of (record { address_size = 8; format = Dwarf32; version = 5 }) (values.LocationListRef (record { 0 = 300 })) ≡ 0x22
location_list-form = refl

location_list-form-4 : form_of (record { address_size = 8; format = Dwarf32; version = 4 }) (values.LocationListRef (record { 0 = 300 })) ≡ 0x17
location_list-form-4 = refl

old_location_list-form : form_of (record { address_size = 8; format = Dwarf32; version = 2 }) (values.LocationListRef (record { 0 = 300 })) ≡ 0x06
old_location_list-form = refl

range_base-form : form_of (record { address_size = 8; format = Dwarf32; version = 5 }) values.RangeListsBase ≡ 0x17
range_base-form = refl

old_location_base-form : form_of (record { address_size = 8; format = Dwarf32; version = 2 }) values.LocationListsBase ≡ 0x06
old_location_base-form = refl

-- the index 300 takes the two bytes ac 02
range_list-size : operand_size (record { address_size = 8; format = Dwarf64; version = 5 }) (λ i. None) (values.RangeListRef (record { 0 = 300 })) ≡ 2
unfolding uleb uleb_groups
range_list-size = refl

-- DWARF 5, 6.2.4: the first file is 0 in version 5, and 1 below
first-file : file_number (record { address_size = 8; format = Dwarf32; version = 5 }) (Some (record { 0 = 0 })) ≡ 0
first-file = refl

old_first-file : file_number (record { address_size = 8; format = Dwarf32; version = 4 }) (Some (record { 0 = 0 })) ≡ 1
old_first-file = refl

-- What a unit has of its own: a line program that is in use, in a version below 5 or in version 5 with lists.

below_5 : Bool → OwnParts
below_5 program = record { line_program = program; lists = None }

with_lists_of : Bool → Bool → OwnParts
with_lists_of ranges locations = record { line_program = false; lists = Some (record { ranges = ranges; locations = locations }) }

-- DW_AT_stmt_list (0x10) is replaced in its position, or comes last, or goes
replaced : settled_attributes (below_5 true) (named 0x10 (values.Data4 7) ∷ named 0x03 (values.Udata 1) ∷ []) ≡ named 0x10 values.LineProgramRef ∷ named 0x03 (values.Udata 1) ∷ []
unfolding below_5
replaced = refl

appended : settled_attributes (below_5 true) (named 0x03 (values.Udata 1) ∷ []) ≡ named 0x03 (values.Udata 1) ∷ named 0x10 values.LineProgramRef ∷ []
unfolding below_5
appended = refl

left_out : settled_attributes (below_5 false) (named 0x10 (values.Data4 7) ∷ named 0x03 (values.Udata 1) ∷ []) ≡ named 0x03 (values.Udata 1) ∷ []
unfolding below_5
left_out = refl

-- DW_AT_rnglists_base (0x74) and DW_AT_loclists_base (0x8c): the first is replaced in its position, the second comes last
bases-put : settled_attributes (with_lists_of true true) (named 0x74 (values.Data4 7) ∷ named 0x03 (values.Udata 1) ∷ []) ≡ named 0x74 values.RangeListsBase ∷ named 0x03 (values.Udata 1) ∷ named 0x8c values.LocationListsBase ∷ []
unfolding with_lists_of
bases-put = refl

-- both go where there is no list
bases-left_out : settled_attributes (with_lists_of false false) (named 0x74 (values.Data4 7) ∷ named 0x8c (values.Udata 1) ∷ []) ≡ []
unfolding with_lists_of
bases-left_out = refl

-- below version 5 they are attributes as any other
bases-untouched : settled_attributes (below_5 false) (named 0x74 (values.Data4 7) ∷ named 0x8c (values.Udata 1) ∷ []) ≡ named 0x74 (values.Data4 7) ∷ named 0x8c (values.Udata 1) ∷ []
unfolding below_5
bases-untouched = refl

-- a variable below the root, a base type behind it, and one below the variable
small : List EntryValue
small = with_added 4 3 1 0x24 (with_added 3 2 0 0x24 (with_added 2 1 0 0x34 (new_root ∷ [])))

small-preorder : preorder small ≡ Open 0 ∷ Open 1 ∷ Open 3 ∷ Null ∷ Open 2 ∷ Null ∷ []
unfolding small preorder tree_from
small-preorder = refl

-- only the root's own base types move
small-settled : preorder (settled_entries (below_5 false) small) ≡ Open 0 ∷ Open 2 ∷ Open 1 ∷ Open 3 ∷ Null ∷ Null ∷ []
unfolding small below_5 preorder tree_from
small-settled = refl
