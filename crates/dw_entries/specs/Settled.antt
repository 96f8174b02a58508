-- A root that is settled: it has its base types first among its children, and attributes that lead to what its unit has of
-- its own in other sections. What settles it asks whether any attribute names a file.
use Rattle.std.specs.Prelude.{ℕ, ◌+◌, List, ◌++◌, map, Option, Some, None, Bool, true, false, not, ◌==◌, filter}
use Rattle.std.specs.List.{list_any}
use Rattle.std.specs.Global.{Vec}
use Rattle.dw_base.specs.declared.constants.TheConstants.{DW_AT_stmt_list, DW_AT_rnglists_base, DW_AT_loclists_base, DW_TAG_base_type}
use Rattle.dw_base.specs.declared.ids.UnitEntryId.{UnitEntryId}
use Rattle.dw_entries.specs.declared.attribute.Attribute.{Attribute}
use Rattle.dw_entries.specs.declared.own_parts.OwnLists.{OwnLists}
use Rattle.dw_entries.specs.declared.own_parts.OwnParts.{OwnParts}
use Rattle.dw_entries.specs.declared.value.AttributeValue.{AttributeValue}
use Rattle.dw_entries.specs.declared.value.AttributeValue.TheVariants as values
use Rattle.dw_entries.specs.Attributes.{set_named, without_name}
use Rattle.dw_entries.specs.Entries.{EntryValue, index_of, with_changed, with_attributes, entry_at}

-- an entry with other children
abbrev pub with_children : List ℕ → EntryValue → EntryValue
with_children cs e = record e { children = cs }

-- the tag DW_TAG_base_type (DWARF 5, table 7.3)
abbrev pub base_type_tag : ℕ
base_type_tag = DW_TAG_base_type.0

-- the entry is a base type
abbrev pub is_base : List EntryValue → ℕ → Bool
is_base es i = (entry_at es i).tag == base_type_tag

-- the base types among children
abbrev pub base_children : List EntryValue → List ℕ → List ℕ
base_children es cs = filter (is_base es) cs

-- the other children
abbrev pub other_children : List EntryValue → List ℕ → List ℕ
other_children es cs = filter (λ c. not (is_base es c)) cs

-- base types first, and both groups in their old order
abbrev pub bases_first : List EntryValue → List ℕ → List ℕ
bases_first es cs = base_children es cs ++ other_children es cs

-- children in another order, or as they are
abbrev pub children_or : Option (Vec UnitEntryId) → List ℕ → List ℕ
children_or None cs = cs
children_or (Some ordered) cs = map index_of ordered.items

-- the names DW_AT_stmt_list, DW_AT_rnglists_base and DW_AT_loclists_base (DWARF 5, table 7.5)
abbrev pub stmt_list_name : ℕ
stmt_list_name = DW_AT_stmt_list.0

abbrev pub rnglists_base_name : ℕ
rnglists_base_name = DW_AT_rnglists_base.0

abbrev pub loclists_base_name : ℕ
loclists_base_name = DW_AT_loclists_base.0

-- An attribute leads to a part that the unit has, in its position or else behind the others; it is left out where there is
-- no such part.
abbrev pub with_part : ℕ → AttributeValue → Bool → List Attribute → List Attribute
with_part n v true xs = set_named n v xs
with_part n v false xs = without_name n xs

-- From version 5 on a base leads to the unit's range lists, and one to its location lists (DWARF 5, 3.1.1). Below, attributes
-- of these names stay as they are.
abbrev pub with_lists : Option OwnLists → List Attribute → List Attribute
with_lists None xs = xs
with_lists (Some lists) xs =
    with_part loclists_base_name values.LocationListsBase lists.locations (with_part rnglists_base_name values.RangeListsBase lists.ranges xs)

-- DW_AT_stmt_list leads to the unit's line program where one is in use (DWARF 5, 3.1.1), and then the bases lead to its lists
abbrev pub settled_attributes : OwnParts → List Attribute → List Attribute
settled_attributes parts xs =
    with_lists parts.lists (with_part stmt_list_name values.LineProgramRef parts.line_program xs)

-- one where a unit has a part, and else none
abbrev pub as_count : Bool → ℕ
as_count true = 1
as_count false = 0

-- how many attributes lead to lists, and to all parts
abbrev pub list_count : Option OwnLists → ℕ
list_count None = 0
list_count (Some lists) = as_count lists.ranges + as_count lists.locations

abbrev pub part_count : OwnParts → ℕ
part_count parts = as_count parts.line_program + list_count parts.lists

-- an entry with its attributes settled
abbrev pub with_own_parts : OwnParts → EntryValue → EntryValue
with_own_parts parts e = with_attributes (settled_attributes parts e.attributes) e

-- a root that is settled
abbrev pub settled_root : OwnParts → List EntryValue → EntryValue → EntryValue
settled_root parts es e =
    with_children (bases_first es e.children) (with_own_parts parts e)

-- the entries, once the root is settled
abbrev pub settled_entries : OwnParts → List EntryValue → List EntryValue
settled_entries parts es = with_changed 0 (settled_root parts es) es

-- a value names a file
abbrev pub is_file : AttributeValue → Bool
is_file (values.FileIndex (Some file)) = true
is_file v = false

-- an attribute names a file
abbrev pub some_file_in : List Attribute → Bool
some_file_in xs = list_any (λ a. is_file a.value) xs

-- an attribute of any entry, in the tree or not, names a file
abbrev pub some_file : List EntryValue → Bool
some_file es = list_any (λ e. some_file_in e.attributes) es
