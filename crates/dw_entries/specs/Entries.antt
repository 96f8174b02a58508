-- The entries of a unit, each named by its index, and what the calls make of them.
use Rattle.std.specs.Prelude.{ℕ, zero, suc, List, [], ◌∷◌, ◌++◌, Option, Some, None, Bool, true, false, not, ◌&&◌, ◌==◌, filter, get_or}
use Rattle.dw_base.specs.declared.constants.TheConstants.{DW_TAG_compile_unit}
use Rattle.dw_base.specs.declared.ids.UnitEntryId.{UnitEntryId}
use Rattle.dw_entries.specs.declared.attribute.Attribute.{Attribute}
use Rattle.dw_entries.specs.declared.value.AttributeValue.{AttributeValue}
use Rattle.dw_entries.specs.Attributes.{get_named, set_named, without_name}

-- the index that an id names
abbrev pub index_of : UnitEntryId → ℕ
index_of i = i.0

-- the index of a parent
abbrev pub parent_index : Option UnitEntryId → Option ℕ
parent_index None = None
parent_index (Some i) = Some i.0

-- An entry, without its capacities; its tag is 0 as long as its index is only reserved. Where its sibling flag is set and
-- it has children, it names the place past them.
pub record EntryValue : Type 0 where
  pub id : ℕ
  pub parent : Option ℕ
  pub tag : ℕ
  pub sibling : Bool
  pub attributes : List Attribute
  pub children : List ℕ

-- an entry that is only reserved
abbrev pub blank_entry : ℕ → EntryValue
blank_entry id = record { id = id; parent = None; tag = 0; sibling = false; attributes = []; children = [] }

-- the tag DW_TAG_compile_unit (DWARF 5, table 7.3)
abbrev pub compile_unit_tag : ℕ
compile_unit_tag = DW_TAG_compile_unit.0

-- the root as it is made: a compile unit's
abbrev pub new_root : EntryValue
new_root = record (blank_entry 0) { tag = compile_unit_tag }

-- the entries with one of them changed
abbrev pub with_changed : ℕ → (EntryValue → EntryValue) → List EntryValue → List EntryValue
with_changed i f [] = []
with_changed zero f (e ∷ es) = f e ∷ es
with_changed (suc i) f (e ∷ es) = e ∷ with_changed i f es

-- the entries from an index on with blank ones behind them, up to a count
abbrev pub filled_from : ℕ → ℕ → List EntryValue → List EntryValue
filled_from i zero es = es
filled_from i (suc n) [] = blank_entry i ∷ filled_from (suc i) n []
filled_from i (suc n) (e ∷ es) = e ∷ filled_from (suc i) n es

-- the entries with blank ones behind them, up to a count
abbrev pub filled_up : ℕ → List EntryValue → List EntryValue
filled_up n es = filled_from 0 n es

-- an entry with a child behind its others
abbrev pub with_child : ℕ → EntryValue → EntryValue
with_child c e = record e { children = e.children ++ c ∷ [] }

-- an entry that is added under a parent
abbrev pub placed_under : ℕ → ℕ → EntryValue → EntryValue
placed_under parent tag e = record e { parent = Some parent; tag = tag }

-- the entries with a child added under its parent
abbrev pub with_new_child : ℕ → ℕ → ℕ → List EntryValue → List EntryValue
with_new_child child parent tag es =
    with_changed child (placed_under parent tag) (with_changed parent (with_child child) es)

-- the entries, up to a count, with a child added under its parent
abbrev pub with_added : ℕ → ℕ → ℕ → ℕ → List EntryValue → List EntryValue
with_added count child parent tag es = with_new_child child parent tag (filled_up count es)

-- an entry with its sibling flag set or not
abbrev pub with_sibling : Bool → EntryValue → EntryValue
with_sibling sibling e = record e { sibling = sibling }

-- an entry with a value put under a name
abbrev pub with_attribute : ℕ → AttributeValue → EntryValue → EntryValue
with_attribute n v e = record e { attributes = set_named n v e.attributes }

-- an entry with other attributes
abbrev pub with_attributes : List Attribute → EntryValue → EntryValue
with_attributes xs e = record e { attributes = xs }

-- an entry without the attribute of a name
abbrev pub without_attribute : ℕ → EntryValue → EntryValue
without_attribute n e = record e { attributes = without_name n e.attributes }

-- an entry without a child
abbrev pub without_child : ℕ → EntryValue → EntryValue
without_child c e = record e { children = filter (λ x. not (x == c)) e.children }

-- the entry at an index, and a blank one past the end
abbrev pub entry_at : List EntryValue → ℕ → EntryValue
entry_at es i = get_or es i (blank_entry 0)

-- a list of children has a first
abbrev pub has_any : List ℕ → Bool
has_any [] = false
has_any (c ∷ cs) = true

-- the entry at an index has children
abbrev pub is_parent : List EntryValue → ℕ → Bool
is_parent es i = has_any (entry_at es i).children

-- the entry names the place past it
abbrev pub has_sibling : EntryValue → Bool
has_sibling x = x.sibling && has_any x.children

-- the value under a name in the entry at an index
abbrev pub value_of : List EntryValue → ℕ → ℕ → Option AttributeValue
value_of es i n = get_named n (entry_at es i).attributes
