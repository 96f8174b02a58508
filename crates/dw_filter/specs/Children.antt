-- Which children an entry leads to: what is kept of a function, a type or a variable has the entries that describe it, and not what
-- only stands within it (DWARF 5, 2.3).
use Rattle.std.specs.Prelude.{◌==◌, ◌&&◌, ◌||◌, not, Bool, List, [], ◌∷◌, ◌++◌}
use Rattle.std.specs.List.{list_any}
use Rattle.dw_base.specs.Entries.{ReadEntry}
use Rattle.dw_base.specs.declared.constants.DwTag.{DwTag}
use Rattle.dw_base.specs.declared.constants.TheConstants.{DW_AT_declaration, DW_TAG_array_type, DW_TAG_class_type, DW_TAG_enumeration_type, DW_TAG_pointer_type, DW_TAG_reference_type, DW_TAG_string_type, DW_TAG_structure_type, DW_TAG_subroutine_type, DW_TAG_union_type, DW_TAG_ptr_to_member_type, DW_TAG_set_type, DW_TAG_base_type, DW_TAG_const_type, DW_TAG_file_type, DW_TAG_packed_type, DW_TAG_volatile_type, DW_TAG_restrict_type, DW_TAG_interface_type, DW_TAG_unspecified_type, DW_TAG_shared_type, DW_TAG_rvalue_reference_type, DW_TAG_coarray_type, DW_TAG_dynamic_type, DW_TAG_atomic_type, DW_TAG_immutable_type, DW_TAG_entry_point, DW_TAG_typedef, DW_TAG_dwarf_procedure, DW_TAG_common_block, DW_TAG_template_alias, DW_TAG_namelist, DW_TAG_namespace, DW_TAG_imported_unit, DW_TAG_imported_declaration, DW_TAG_imported_module, DW_TAG_module, DW_TAG_subprogram}

-- types, but for subranges, which bound their array (chapter 5)
abbrev pub type_tags : List DwTag
type_tags =
    DW_TAG_array_type ∷ DW_TAG_class_type ∷ DW_TAG_enumeration_type ∷ DW_TAG_pointer_type ∷ DW_TAG_reference_type ∷ DW_TAG_string_type
    ∷ DW_TAG_structure_type ∷ DW_TAG_subroutine_type ∷ DW_TAG_union_type ∷ DW_TAG_ptr_to_member_type ∷ DW_TAG_set_type ∷ DW_TAG_base_type
    ∷ DW_TAG_const_type ∷ DW_TAG_file_type ∷ DW_TAG_packed_type ∷ DW_TAG_volatile_type ∷ DW_TAG_restrict_type ∷ DW_TAG_interface_type
    ∷ DW_TAG_unspecified_type ∷ DW_TAG_shared_type ∷ DW_TAG_rvalue_reference_type ∷ DW_TAG_coarray_type ∷ DW_TAG_dynamic_type
    ∷ DW_TAG_atomic_type ∷ DW_TAG_immutable_type ∷ []

-- what else stands for itself: entries into functions, other names of types, procedures of operations, common blocks and lists of
-- names, namespaces and modules, and imports (chapters 3 to 5, and 2.5)
abbrev pub own_tags : List DwTag
own_tags =
    DW_TAG_entry_point ∷ DW_TAG_typedef ∷ DW_TAG_dwarf_procedure ∷ DW_TAG_common_block ∷ DW_TAG_template_alias ∷ DW_TAG_namelist
    ∷ DW_TAG_namespace ∷ DW_TAG_imported_unit ∷ DW_TAG_imported_declaration ∷ DW_TAG_imported_module ∷ DW_TAG_module ∷ []

-- an entry says that it is a declaration (2.13)
abbrev pub is_declaration : ReadEntry → Bool
is_declaration e = list_any (λ a. a.name == DW_AT_declaration.0) e.attributes

-- an entry that its parent doesn't lead to: a type, what else stands for itself, or a function that isn't a declaration
abbrev pub stands_apart : ReadEntry → Bool
stands_apart e = list_any (λ t. t.0 == e.tag) (type_tags ++ own_tags) || (e.tag == DW_TAG_subprogram.0 && not (is_declaration e))

-- an entry of this tag leads to a child; a namespace leads to none
abbrev pub leads_to_child : DwTag → ReadEntry → Bool
leads_to_child parent child = not (parent.0 == DW_TAG_namespace.0) && not (stands_apart child)
