-- What a `&mut` into a unit leaves, once its borrow has ended.
use Rattle.std.specs.Prelude.{◌≡◌, ◌<◌, ℕ, Option, List, [], OnSome}
use Rattle.std.proofs.Common.{sym, subst}
use Rattle.std.specs.Borrow.{Lends, LendsSo, MutBor, Fml}
use Rattle.dw_entries.specs.declared.attribute.Attribute.{Attribute}
use Rattle.dw_entries.specs.declared.value.AttributeValue.{AttributeValue}
use Rattle.dw_entries.specs.declared.attribute_walk.AttributeWalk.{AttributeWalk}
use Rattle.dw_unit.specs.declared.entry_mut.EntryMut.{EntryMut}
use Rattle.dw_entries.specs.contracts.value.AttributeValue as value
use Rattle.dw_entries.specs.contracts.attribute_walk.AttributeWalk as walk
use Rattle.dw_unit.specs.contracts.entry_mut.EntryMut as handle
use Rattle.dw_entries.specs.Entries.{with_attribute, with_attributes}
use Rattle.dw_tree.specs.UnitValue.{with_entry}
use Rattle.dw_entries.proofs.Changed.{length-with_changed}
use denote.MutBor.{at_last}
use mir.Syntax.{named}

-- the handle still borrows the same unit, at the same entry
pub record IsSameHandle (old new : EntryMut) : Type 0 where
  pub same_unit : new.unit.ghost_name ≡ old.unit.ghost_name
  pub index : new.index ≡ old.index

-- the handle's unit ends as after a `set` of the last value, and at `None` it stays
abbrev pub LendsOut : MutBor EntryMut → ℕ → Option (MutBor AttributeValue) → Fml
LendsOut h n r = LendsSo (handle.the_row (record { mir = named 1; lft = [] })) value.the_row h r (λ new w. IsSameHandle h.now new × OnSome r (new.unit.now ≡ with_entry h.now.unit.now h.now.index (with_attribute n w))) (λ new. IsSameHandle h.now new × (new.unit.now ≡ h.now.unit.now))

-- the handle, once its entry has these attributes
abbrev pub handle_with : EntryMut → List Attribute → EntryMut
handle_with h w = record { unit = at_last h.unit (with_entry h.unit.now h.index (with_attributes w)); index = h.index; within = subst (λ n. h.index < n) (sym (length-with_changed h.index (with_attributes w) h.unit.now.entries)) h.within }

-- the handle's unit ends with the walk's attributes in its entry
abbrev pub LendsWalkOut : MutBor EntryMut → MutBor AttributeWalk → Fml
LendsWalkOut h r = Lends (handle.the_row (record { mir = named 1; lft = [] })) walk.the_row h r (λ w. handle_with h.now w.attributes)
