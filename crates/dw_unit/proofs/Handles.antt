-- What a change of a unit's entries makes of the unit and of a handle on it.
use Rattle.std.proofs.Common.{◌≡◌, ◌∙◌, sym, ap, subst, ℕ, ◌<◌, List, Option, Some, None, length}
use Rattle.std.specs.Prelude.{OnSome}
use Rattle.std.proofs.Math.Bridge.{le_prop}
use Rattle.dw_entries.specs.declared.attribute.Attribute.{Attribute}
use Rattle.dw_entries.specs.Entries.{EntryValue, with_attributes}
use Rattle.dw_entries.specs.Arena.{EntriesValue, with_entry as with_entry_in}
use Rattle.dw_unit.specs.declared.entry_mut.EntryMut.{EntryMut}
use Rattle.dw_tree.specs.UnitValue.{UnitValue, entries_of, with_entry}
use Rattle.dw_unit.specs.Lends.{handle_with}
use denote.MutBor.{at_last}

-- the unit with other entries
abbrev pub put : UnitValue → EntriesValue → UnitValue
put u es = record u { entries = es.entries; reserved = es.reserved }

-- `u` is the unit as its fields were, and `v` its value
module _ (u v : UnitValue) (new : EntriesValue) (is : u ≡ v) where
  pub put_entry : (i : ℕ) (f : EntryValue → EntryValue) → new ≡ with_entry_in (entries_of u) i f → put u new ≡ with_entry v i f
  put_entry i f h = ap (put u) h ∙ ap (λ w. with_entry w i f) is

  pub put_same : new ≡ entries_of u → put u new ≡ v
  put_same h = ap (put u) h ∙ is

-- a fact of a value that is there
pub on_some : {T : Type 0} {A B : Type 0} (o : Option T) → (A → B) → OnSome o A → OnSome o B
on_some None f a = tt
on_some (Some x) f a = f a

-- the handle, once its unit has other attributes in its entry
pub handle_at : (h : EntryMut) (xs : List Attribute) (x : UnitValue) (within : h.index < length x.entries) → x ≡ with_entry h.unit.now h.index (with_attributes xs) → record { unit = at_last h.unit x; index = h.index; within = within } ≡ handle_with h xs
handle_at h xs x within is =
    subst (λ z. (q : h.index < length z.entries) → record { unit = at_last h.unit z; index = h.index; within = q } ≡ handle_with h xs) (sym is) (λ q. ap (λ p. record (handle_with h xs) { within = p }) (le_prop q (handle_with h xs).within)) within
