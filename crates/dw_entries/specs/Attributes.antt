-- The attributes of one entry, and what the calls on them make of it.
use Rattle.std.specs.Prelude.{◌≡◌, ◌<◌, ℕ, zero, suc, List, [], ◌∷◌, Option, Some, None, Bool, not, ◌==◌, filter, slice_get, if◌then◌else◌}
use Rattle.dw_base.specs.declared.constants.TheConstants.{DW_AT_sibling}
use Rattle.dw_entries.specs.declared.attribute.Attribute.{Attribute}
use Rattle.dw_entries.specs.declared.value.AttributeValue.{AttributeValue}

-- tells that an attribute has a name
abbrev pub is_named : ℕ → Attribute → Bool
is_named n a = a.name.0 == n

-- an attribute of a name and a value
abbrev pub named : ℕ → AttributeValue → Attribute
named n v = record { name = record { 0 = n }; value = v }

-- the value under a name
abbrev pub get_named : ℕ → List Attribute → Option AttributeValue
get_named n [] = None
get_named n (a ∷ xs) = if is_named n a then Some a.value else get_named n xs

-- the value put under a name in its position, or behind the others
abbrev pub set_named : ℕ → AttributeValue → List Attribute → List Attribute
set_named n v [] = named n v ∷ []
set_named n v (a ∷ xs) = if is_named n a then named n v ∷ xs else a ∷ set_named n v xs

-- all attributes but that of a name
abbrev pub without_name : ℕ → List Attribute → List Attribute
without_name n xs = filter (λ a. not (is_named n a)) xs

-- another value at a place, under its name
abbrev pub with_value_at : ℕ → AttributeValue → List Attribute → List Attribute
with_value_at i v [] = []
with_value_at zero v (a ∷ xs) = record a { value = v } ∷ xs
with_value_at (suc i) v (a ∷ xs) = a ∷ with_value_at i v xs

abbrev pub name_or_none : Option Attribute → Option ℕ
name_or_none None = None
name_or_none (Some a) = Some a.name.0

abbrev pub value_or_none : Option Attribute → Option AttributeValue
value_or_none None = None
value_or_none (Some a) = Some a.value

-- the name at a place
abbrev pub name_at : List Attribute → ℕ → Option ℕ
name_at xs i = name_or_none (slice_get xs i)

-- the value at a place
abbrev pub value_at : List Attribute → ℕ → Option AttributeValue
value_at xs i = value_or_none (slice_get xs i)

-- a name that an attribute can have: it is neither zero nor DW_AT_sibling
abbrev pub IsOwnName : ℕ → Type 0
IsOwnName n = DW_AT_sibling.0 < n

-- each name is one that an attribute can have, and none stands twice
abbrev pub HaveDistinctNames : List Attribute → Type 0
HaveDistinctNames [] = Unit {0}
HaveDistinctNames (a ∷ xs) = IsOwnName a.name.0 × (get_named a.name.0 xs ≡ None) × HaveDistinctNames xs
