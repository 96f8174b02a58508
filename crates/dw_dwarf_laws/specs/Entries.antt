-- Entries in which symbols have values.
use Rattle.std.specs.Prelude.{ℕ, List, map}
use Rattle.dw_entries.specs.declared.attribute.Attribute.{Attribute}
use Rattle.dw_entries.specs.declared.value.AttributeValue.{AttributeValue}
use Rattle.dw_entries.specs.declared.value.AttributeValue.TheVariants as values
use Rattle.dw_entries.specs.Entries.{EntryValue}
use Rattle.dw_dwarf_laws.specs.Addresses.{numbered_address, numbered_expression}

-- where symbols have these values
module _ (symbols : List ℕ) where
  abbrev pub numbered_value : AttributeValue → AttributeValue
  numbered_value (values.Address a) = values.Address (numbered_address symbols a)
  numbered_value (values.Exprloc x) = values.Exprloc (numbered_expression symbols x)
  numbered_value v = v

  abbrev pub numbered_attribute : Attribute → Attribute
  numbered_attribute a = record a { value = numbered_value a.value }

  abbrev pub numbered_entry : EntryValue → EntryValue
  numbered_entry x = record x { attributes = map numbered_attribute x.attributes }

  abbrev pub numbered_entries : List EntryValue → List EntryValue
  numbered_entries es = map numbered_entry es
