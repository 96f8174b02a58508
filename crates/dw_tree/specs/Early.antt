-- Entries whose places sizes hang on. An expression spells in LEB128 only places of entries that stand no later in the tree than
-- its own: the place of a later one would hang on the expression's size.
use Rattle.std.specs.Prelude.{ℕ, ◌≤◌, ◌^◌, Bool, false, ◌||◌, List, [], ◌∷◌, ◌++◌, Option, Some, None, IsTrue, if◌then◌else◌}
use Rattle.std.specs.List.{list_any}
use Rattle.dw_base.specs.Entries.{Mark, Open, Null}
use Rattle.dw_base.specs.declared.common.Encoding.{Encoding}
use Rattle.dw_base.specs.declared.error.Error.{Error}
use Rattle.dw_base.specs.declared.error.Error.TheVariants as errors
use Rattle.dw_entries.specs.declared.attribute.Attribute.{Attribute}
use Rattle.dw_entries.specs.Entries.{EntryValue, entry_at}
use Rattle.dw_entries.specs.Tree.{has_entry, preorder}
use Rattle.dw_entries.specs.Values.{KeepsPlaces, value_unplaced}
use Rattle.dw_tree.specs.Laid.{values_size, entry_size}

-- the sizes of values hang on an entry that has no place
abbrev pub attributes_unplaced : Encoding → (ℕ → Option ℕ) → List Attribute → Error → Bool
attributes_unplaced e known xs err = list_any (λ a. value_unplaced e known a.value err) xs

abbrev pub mark_unplaced : Encoding → List EntryValue → (ℕ → Option ℕ) → Mark ℕ → Error → Bool
mark_unplaced e es known (Open i) err = attributes_unplaced e known (entry_at es i).attributes err
mark_unplaced e es known Null err = false

-- The entries of marks have places; which ones is no matter here.
abbrev pub standing : List (Mark ℕ) → ℕ → Option ℕ
standing ms i = if has_entry ms i then Some 0 else None

-- Behind the marks that stand before, some entry's size hangs on a later one, or on one that stands nowhere.
abbrev pub is_forward : Encoding → List EntryValue → List (Mark ℕ) → List (Mark ℕ) → Error → Bool
is_forward e es before [] err = false
is_forward e es before (m ∷ ms) err =
    let here = before ++ m ∷ [] in mark_unplaced e es (standing here) m err || is_forward e es here ms err

-- the same of a tree
abbrev pub tree_is_forward : Encoding → List EntryValue → Error → Bool
tree_is_forward e es err = is_forward e es [] (preorder es) err

-- Why values have no size yet, or none in 64 bits, wherever entries without a place come to stand.
abbrev pub ValuesUnsized : Encoding → (ℕ → Option ℕ) → List Attribute → Error → Type 0
ValuesUnsized e known xs errors.ValueTooLarge = (place : ℕ → Option ℕ) → KeepsPlaces known place → 2 ^ 64 ≤ values_size e place xs
ValuesUnsized e known xs err = IsTrue (attributes_unplaced e known xs err)

-- the same of an entry with its code
abbrev pub EntryUnsized : Encoding → (ℕ → Option ℕ) → ℕ → EntryValue → Error → Type 0
EntryUnsized e known code x errors.ValueTooLarge = (place : ℕ → Option ℕ) → KeepsPlaces known place → 2 ^ 64 ≤ entry_size e place code x
EntryUnsized e known code x err = IsTrue (attributes_unplaced e known x.attributes err)
