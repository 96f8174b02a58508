-- What the entries of a unit become.
use Rattle.std.specs.Prelude.{◌≡◌, ℕ, ◌==◌, List, [], ◌∷◌, map, filter, Option, Some, None, Bool, not, ◌&&◌, if◌then◌else◌}
use Rattle.dw_base.specs.Entries.{ReadAttribute}
use Rattle.dw_base.specs.Forms.{Operand, Bytes, Text}
use Rattle.dw_base.specs.declared.address.Address.{Address}
use Rattle.dw_base.specs.declared.address.DebugInfoRef.{DebugInfoRef}
use Rattle.dw_base.specs.declared.common.Encoding.{Encoding}
use Rattle.dw_base.specs.declared.constants.DwAt.{DwAt}
use Rattle.dw_base.specs.declared.ids.FileId.{FileId}
use Rattle.dw_base.specs.declared.ids.UnitEntryId.{UnitEntryId}
use Rattle.dw_entries.specs.Entries.{EntryValue, compile_unit_tag}
use Rattle.dw_entries.specs.declared.attribute.Attribute.{Attribute}
use Rattle.dw_entries.specs.declared.value.AttributeValue.{AttributeValue}
use Rattle.dw_read.specs.Reading.{Reading}
use Rattle.dw_read_units.specs.declared.unit_ref.UnitRef.{UnitRef}
use Rattle.dw_sources.specs.declared.convert_error.ConvertError.{ConvertError}
use Rattle.dw_convert.specs.Attributes.{Seen}
use Rattle.dw_convert.specs.AttributeLists.{AreConverted, RefusesAttribute}
use Rattle.dw_convert.specs.Tables.{Tables}
use Rattle.dw_entry_ids.specs.Plans.{Plan, names_sibling}

-- the values that the attributes of an entry become, under their names
abbrev pub Values : Type 0
Values = List (DwAt × AttributeValue)

-- the byte order of an operand's bytes, where it has some
abbrev pub order_in : Bool → Operand → Option Bool
order_in big (Bytes xs) = Some big
order_in big (Text xs) = Some big
order_in big o = None

-- an attribute of a unit, as conversions see it
abbrev pub seen_in : Bool → Encoding → ReadAttribute → Seen
seen_in big e a = (e, a, order_in big a.operand)

abbrev pub attribute_of : DwAt × AttributeValue → Attribute
attribute_of x = record { name = x.0; value = x.1 }

-- the numbers of the entries under one
abbrev pub children_of : ℕ → List Plan → List ℕ
children_of n plans = map (λ p. p.number) (filter (λ p. not (p.number == 0) && p.parent == n) plans)

-- an entry among those of its unit, with its values: under the image of its own parent, with its tag, but for the root, which is
-- a compile unit's, and with the sibling flag exactly where it names the place past its children, but for the root
abbrev pub built_entry : List Plan → Plan → Values → EntryValue
built_entry plans p values = record {
  id = p.number;
  parent = if p.number == 0 then None else Some p.parent;
  tag = if p.number == 0 then compile_unit_tag else p.entry.tag;
  sibling = not (p.number == 0) && names_sibling p.entry;
  attributes = map attribute_of values;
  children = children_of p.number plans;
}

-- the entries of a unit, each with its values
abbrev pub built_entries : List Plan → List Plan → List Values → List EntryValue
built_entries all [] vs = []
built_entries all (p ∷ ps) [] = []
built_entries all (p ∷ ps) (v ∷ vs) = built_entry all p v ∷ built_entries all ps vs

module _ {R E : Type 0} (reading : R → Reading) (answers : ℕ → Option Address → Type 0) (entries : ℕ → Option UnitEntryId) (infos : ℕ → Option DebugInfoRef) (u : UnitRef R E) (files : List FileId) (big : Bool) (e : Encoding) where
  -- the attributes of an entry become values, with the tables before and after them
  abbrev pub EntryConverts : Plan → Tables → Values → Tables → Type 0
  EntryConverts p old values new = AreConverted reading answers entries infos u files (map (seen_in big e) p.entry.attributes) old values new

  -- those of all entries, one entry after the other
  abbrev pub EntriesConvert : List Plan → Tables → List Values → Tables → Type 0
  EntriesConvert [] t [] end = end ≡ t
  EntriesConvert (p ∷ ps) t (v ∷ vs) end = (next : Tables) × EntryConverts p t v next × EntriesConvert ps next vs end
  EntriesConvert [] t (v ∷ vs) end = ⊥
  EntriesConvert (p ∷ ps) t [] end = ⊥

  -- an attribute of an entry becomes nothing
  abbrev pub EntryRefuses : Plan → Tables → ConvertError → Type 0
  EntryRefuses p t y = RefusesAttribute reading answers entries infos u files (map (seen_in big e) p.entry.attributes) t y
