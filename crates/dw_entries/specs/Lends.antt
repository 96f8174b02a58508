-- What a `&mut` into entries leaves, once its borrow has ended.
use Rattle.std.specs.Prelude.{◌≡◌, ℕ, Option, List, OnSome, length}
use Rattle.std.specs.Borrow.{Lends, LendsSo, MutBor, Fml, RestsIfNone}
use Rattle.dw_entries.specs.declared.attribute.Attribute.{Attribute}
use Rattle.dw_entries.specs.declared.value.AttributeValue.{AttributeValue}
use Rattle.dw_entries.specs.declared.attribute_walk.AttributeWalk.{AttributeWalk}
use Rattle.dw_entries.specs.declared.attribute_walk.AttrMut.{AttrMut}
use Rattle.dw_entries.specs.contracts.attribute.Attribute as attribute
use Rattle.dw_entries.specs.contracts.value.AttributeValue as value
use Rattle.dw_entries.specs.contracts.attributes.Attributes as attributes
use Rattle.dw_entries.specs.contracts.attribute_walk.AttributeWalk as walk
use Rattle.dw_entries.specs.contracts.entry.DebuggingInformationEntry as entry
use Rattle.dw_entries.specs.contracts.entries.Entries as entries
use Rattle.dw_entries.specs.Attributes.{set_named, with_value_at}
use Rattle.dw_entries.specs.Arena.{EntriesValue, with_entry}
use Rattle.dw_entries.specs.Entries.{EntryValue, with_attribute, with_attributes}

-- the attribute ends with the last value written
abbrev pub LendsValue : MutBor Attribute → MutBor AttributeValue → Fml
LendsValue a r = Lends attribute.the_row value.the_row a r (λ w. record a.now { value = w })

-- the attributes end as after a `set` of the last value, and at `None` they stay
abbrev pub LendsNamed : MutBor (List Attribute) → ℕ → Option (MutBor AttributeValue) → Fml
LendsNamed s n r = LendsSo attributes.the_row value.the_row s r (λ new w. OnSome r (new ≡ set_named n w s.now)) (λ new. new ≡ s.now)

-- the attributes end with the last value at a place
abbrev pub LendsPlace : MutBor (List Attribute) → ℕ → MutBor AttributeValue → Fml
LendsPlace s i r = Lends attributes.the_row value.the_row s r (λ w. with_value_at i w s.now)

-- the entry ends with these attributes
abbrev pub LendsAttributes : MutBor EntryValue → MutBor (List Attribute) → Fml
LendsAttributes e r = Lends entry.the_row attributes.the_row e r (λ w. with_attributes w e.now)

-- the entry ends with the walk's attributes
abbrev pub LendsWalk : MutBor EntryValue → MutBor AttributeWalk → Fml
LendsWalk e r = Lends entry.the_row walk.the_row e r (λ w. with_attributes w.attributes e.now)

-- the entries end with these attributes in one of them
abbrev pub LendsAttributesAt : MutBor EntriesValue → ℕ → MutBor (List Attribute) → Fml
LendsAttributesAt u i r = Lends entries.the_row attributes.the_row u r (λ w. with_entry u.now i (with_attributes w))

-- the entries end with the walk's attributes in one of them
abbrev pub LendsWalkAt : MutBor EntriesValue → ℕ → MutBor AttributeWalk → Fml
LendsWalkAt u i r = Lends entries.the_row walk.the_row u r (λ w. with_entry u.now i (with_attributes w.attributes))

-- the entries end as after a `set` of the last value, and at `None` they stay
abbrev pub LendsNamedAt : MutBor EntriesValue → ℕ → ℕ → Option (MutBor AttributeValue) → Fml
LendsNamedAt u i n r = LendsSo entries.the_row value.the_row u r (λ new w. (length new.entries ≡ length u.now.entries) × OnSome r (new ≡ with_entry u.now i (with_attribute n w))) (λ new. new ≡ u.now)

-- at `None` the walk stays, and else it ends as the handle leaves it
abbrev pub LendsNext : MutBor AttributeWalk → Option AttrMut → Fml
LendsNext s r = RestsIfNone walk.the_row s (λ a. a.walk.ghost_name) r (λ new. (new.attributes ≡ s.now.attributes) × (new.next ≡ s.now.next))
