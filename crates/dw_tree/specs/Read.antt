-- What is read of a unit that was written, where its operands lead to what is read.
use Rattle.std.specs.Prelude.{ℕ, Bool, List, [], ◌∷◌, Option, Some, None, if◌then◌else◌}
use Rattle.dw_base.specs.Numbers.{◌>>=◌, word_of}
use Rattle.dw_base.specs.Abbreviations.{Shape}
use Rattle.dw_base.specs.Entries.{ReadAttribute, ReadEntry, Mark, Open, Null}
use Rattle.dw_base.specs.declared.common.Encoding.{Encoding}
use Rattle.dw_entries.specs.declared.attribute.Attribute.{Attribute}
use Rattle.dw_entries.specs.Entries.{EntryValue, entry_at, has_any, has_sibling}
use Rattle.dw_entries.specs.Targets.{Targets}
use Rattle.dw_entries.specs.Content.{number_in}
use Rattle.dw_entries.specs.Values.{form_of, constant_of, operand_of, reference_form}
use Rattle.dw_entries.specs.Tree.{preorder}
use Rattle.dw_tree.specs.Coded.{code_at}
use Rattle.dw_tree.specs.Shapes.{sibling_name}
use Rattle.dw_tree.specs.Whole.{tree_shapes}

-- each of them, or nothing where one is missing
abbrev pub each : {A B : Type 0} → (A → Option B) → List A → Option (List B)
each f [] = Some []
each f (x ∷ xs) = f x >>= λ y. each f xs >>= λ ys. Some (y ∷ ys)

-- an attribute, as it is read, if its operand has a spelling
abbrev pub read_attribute : Bool → Encoding → Targets → Attribute → Option ReadAttribute
read_attribute big e t a =
    operand_of big e t a.value >>= λ o. Some (record { name = a.name.0; form = form_of e a.value; constant = constant_of e a.value; operand = o })

-- the place past an entry, as it is read
abbrev pub read_sibling : Encoding → ℕ → Option ReadAttribute
read_sibling e past =
    number_in (word_of e.format) past >>= λ o. Some (record { name = sibling_name; form = reference_form e.format; constant = None; operand = o })

-- that place first, where the entry names it
abbrev pub with_sibling : Encoding → ℕ → EntryValue → List ReadAttribute → Option (List ReadAttribute)
with_sibling e past x xs = if has_sibling x then (read_sibling e past >>= λ s. Some (s ∷ xs)) else Some xs

-- the attributes of the entry at an index, as they are read
abbrev pub read_attributes : Bool → Encoding → Targets → ℕ → EntryValue → Option (List ReadAttribute)
read_attributes big e t i x = each (read_attribute big e t) x.attributes >>= with_sibling e (t.past i) x

-- an entry with its code, as it is read
abbrev pub read_entry : Bool → Encoding → Targets → ℕ → ℕ → EntryValue → Option ReadEntry
read_entry big e t code i x =
    read_attributes big e t i x >>= λ xs. Some (record { code = code; tag = x.tag; has_children = has_any x.children; attributes = xs })

-- what is read of a mark that is written with a code
abbrev pub read_mark : Bool → Encoding → Targets → List EntryValue → ℕ → Mark ℕ → Option (Mark ReadEntry)
read_mark big e t es code (Open i) = read_entry big e t code i (entry_at es i) >>= λ x. Some (Open x)
read_mark big e t es code Null = Some Null

abbrev pub read_coded : Bool → Encoding → Targets → List EntryValue → List Shape → Mark ℕ → Option (Mark ReadEntry)
read_coded big e t es shapes m = read_mark big e t es (code_at e es shapes m) m

-- the marks with what is read of each, where the shapes give the codes
abbrev pub read_marks : Bool → Encoding → Targets → List EntryValue → List Shape → List (Mark ℕ) → Option (List (Mark ReadEntry))
read_marks big e t es shapes ms = each (read_coded big e t es shapes) ms

-- what is read of a tree
abbrev pub read_tree : Bool → Encoding → Targets → List EntryValue → Option (List (Mark ReadEntry))
read_tree big e t es = read_marks big e t es (tree_shapes e es) (preorder es)
