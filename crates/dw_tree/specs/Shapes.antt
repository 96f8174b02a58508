-- What an abbreviation table declares of entries.
use Rattle.std.specs.Prelude.{ℕ, List, [], ◌∷◌, ◌++◌, map, None, if◌then◌else◌}
use Rattle.dw_base.specs.Abbreviations.{Specification, Shape}
use Rattle.dw_base.specs.declared.constants.TheConstants.{DW_AT_sibling}
use Rattle.dw_base.specs.declared.common.Encoding.{Encoding}
use Rattle.dw_entries.specs.declared.attribute.Attribute.{Attribute}
use Rattle.dw_entries.specs.Entries.{EntryValue, has_any, has_sibling}
use Rattle.dw_entries.specs.Values.{form_of, constant_of, reference_form}

-- what a declaration says of an attribute
abbrev pub specification : Encoding → Attribute → Specification
specification e a = record { name = a.name.0; form = form_of e a.value; constant = constant_of e a.value }

-- the name DW_AT_sibling (DWARF 5, table 7.5)
abbrev pub sibling_name : ℕ
sibling_name = DW_AT_sibling.0

-- and of the place past the entry
abbrev pub sibling_specification : Encoding → Specification
sibling_specification e = record { name = sibling_name; form = reference_form e.format; constant = None }

-- what stands first, where the entry names the place past it
abbrev pub before_attributes : {A : Type 0} → EntryValue → A → List A
before_attributes x sibling = if has_sibling x then sibling ∷ [] else []

-- and of all attributes of an entry
abbrev pub specifications : Encoding → EntryValue → List Specification
specifications e x = before_attributes x (sibling_specification e) ++ map (specification e) x.attributes

-- what an entry's declaration says of it, whatever its code is
abbrev pub shape_of_entry : Encoding → EntryValue → Shape
shape_of_entry e x = record { tag = x.tag; has_children = has_any x.children; attributes = specifications e x }
