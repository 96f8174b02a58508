-- What the code reads of entries and of their children.
use Rattle.std.proofs.Common.{◌≡◌, ◌∙◌, sym, ap, ℕ, ◌<◌, List, Some, map, get_or, length}
use Rattle.std.specs.Prelude.{◌==◌, slice_get}
use Rattle.std.proofs.lemmas.Bool.{eq-eqb}
use Rattle.std.proofs.lemmas.List.{get_or_default}
use Rattle.std.proofs.lemmas.List.Folds.{list_any_at}
use Rattle.std.proofs.lemmas.Option.{slice_get_within, get_or_from_slice_get}
use Rattle.dw_base.specs.declared.ids.UnitEntryId.{UnitEntryId}
use Rattle.dw_entries.specs.Entries.{EntryValue, index_of, blank_entry, entry_at}
use Rattle.dw_entries.specs.Arena.{AreLinked, HasChild}
use Rattle.dw_entries.proofs.Children.{parent_within}

-- the entry that was indexed
pub indexed : (es : List EntryValue) (i : ℕ) (x : EntryValue) → i < length es → x ≡ get_or es i x → x ≡ entry_at es i
indexed es i x below is = is ∙ get_or_default es i x (blank_entry 0) below

-- the ids of an entry that was indexed
pub children_read : (es : List EntryValue) (i : ℕ) (e : EntryValue) (ids : List UnitEntryId) → i < length es → e ≡ get_or es i e → map index_of ids ≡ e.children → (entry_at es i).children ≡ map index_of ids
children_read es i e ids within read same =
    ap (λ x. x.children) (sym (indexed es i e within read)) ∙ sym same

pub child_here : (cs : List ℕ) (k c : ℕ) → slice_get cs k ≡ Some c → HasChild cs c
child_here cs k c h =
    list_any_at (λ x. c == x) cs k c (slice_get_within cs k c h) (eq-eqb c (get_or cs k c) (sym (get_or_from_slice_get cs k c c h)))

-- a child has its parent, and is there
pub record IsChild (es : List EntryValue) (i c : ℕ) : Type 0 where
  pub parent : (entry_at es c).parent ≡ Some i
  pub exists : c < length es

pub child_of : (es : List EntryValue) → AreLinked es → (i k c : ℕ) → Some c ≡ slice_get (entry_at es i).children k → IsChild es i c
child_of es links i k c h =
    let parent = links.own i c (child_here (entry_at es i).children k c (sym h)) in
    record { parent = parent; exists = parent_within es c i parent }
