-- Rows that compute: an entry that stands in another, and whether that leads to it.
use Rattle.std.proofs.Common.{◌≡◌, ℕ, List, [], ◌∷◌, None, true, false, refl}
use Rattle.dw_base.specs.Entries.{ReadAttribute, ReadEntry}
use Rattle.dw_base.specs.Forms.{Absent}
use Rattle.dw_base.specs.declared.constants.TheConstants.{DW_TAG_array_type, DW_TAG_namespace, DW_TAG_structure_type, DW_TAG_subprogram}
use Rattle.dw_filter.specs.Children.{leads_to_child}

abbrev entry : ℕ → List ReadAttribute → ReadEntry
entry tag attributes = record { code = 1; tag = tag; has_children = false; attributes = attributes }

-- DW_AT_declaration in DW_FORM_flag_present
abbrev declaration : List ReadAttribute
declaration = record { name = 0x3c; form = 0x19; constant = None; operand = Absent } ∷ []

member : leads_to_child DW_TAG_structure_type (entry 0x0d []) ≡ true
member = refl

bound : leads_to_child DW_TAG_array_type (entry 0x21 []) ≡ true
bound = refl

variable : leads_to_child DW_TAG_subprogram (entry 0x34 []) ≡ true
variable = refl

type_within : leads_to_child DW_TAG_structure_type (entry 0x13 []) ≡ false
type_within = refl

typedef_within : leads_to_child DW_TAG_subprogram (entry 0x16 []) ≡ false
typedef_within = refl

method_declared : leads_to_child DW_TAG_structure_type (entry 0x2e declaration) ≡ true
method_declared = refl

function_with_body : leads_to_child DW_TAG_structure_type (entry 0x2e []) ≡ false
function_with_body = refl

of_namespace : leads_to_child DW_TAG_namespace (entry 0x34 []) ≡ false
of_namespace = refl
