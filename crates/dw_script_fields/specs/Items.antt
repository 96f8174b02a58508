-- Items of a list, each read from the front of the fields that are left, up to the end of the line.
use Rattle.std.specs.Prelude.{ℕ, zero, suc, List, [], ◌∷◌, length, Ok, Err}
use Rattle.dw_ends.specs.declared.reason.Reason.TheVariants.{WrongFields}
use Rattle.dw_ends.specs.Fields.{Fields, Outcome, ◌>>=◌}

-- what is read of a list: the items as far as they can be read, and then that the line ends, or the reason for which they aren't read on
abbrev pub Items : Type 0 → Type 0
Items A = List A × Outcome (Unit {0})

-- an item before those of a list
abbrev pub item_before : {A : Type 0} → A → Items A → Items A
item_before item items = (item ∷ items.0, items.1)

-- the list from an item on, or none where the item can't be read
abbrev pub items_on : {A : Type 0} → (Fields → Items A) → Outcome (A × Fields) → Items A
items_on next (Ok (item, fields)) = item_before item (next fields)
items_on next (Err reason) = ([], Err reason)

-- the list of at most so many items; each item takes a field or more
unfoldable pub items_up_to : {A : Type 0} → (Fields → Outcome (A × Fields)) → ℕ → Fields → Items A
items_up_to read zero [] = ([], Ok tt)
items_up_to read zero (field ∷ fields) = ([], Err WrongFields)
items_up_to read (suc most) [] = ([], Ok tt)
items_up_to read (suc most) (field ∷ fields) = items_on (items_up_to read most) (read (field ∷ fields))

-- the list that all fields are
abbrev pub items_of : {A : Type 0} → (Fields → Outcome (A × Fields)) → Fields → Items A
items_of read fields = items_up_to read (length fields) fields

-- one item or more, up to the end of the line
abbrev pub list_of : {A : Type 0} → (Fields → Outcome (A × Fields)) → Fields → Outcome (List A)
list_of read [] = Err WrongFields
list_of read (field ∷ fields) = do
  _ ← (items_of read (field ∷ fields)).1
  Ok (items_of read (field ∷ fields)).0
