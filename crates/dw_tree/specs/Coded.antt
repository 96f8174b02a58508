-- The codes of entries, which those of one shape share.
use Rattle.std.specs.Prelude.{ℕ, List, [], ◌∷◌}
use Rattle.dw_base.specs.Abbreviations.{Shape}
use Rattle.dw_base.specs.Entries.{Mark, Open, Null}
use Rattle.dw_base.specs.declared.common.Encoding.{Encoding}
use Rattle.dw_abbrev.specs.Codes.{code_in, with_shape}
use Rattle.dw_entries.specs.Entries.{EntryValue, entry_at}
use Rattle.dw_tree.specs.Shapes.{shape_of_entry}

-- the shapes with that of a mark's entry, if it isn't there
abbrev pub with_mark : Encoding → List EntryValue → List Shape → Mark ℕ → List Shape
with_mark e es shapes (Open i) = with_shape shapes (shape_of_entry e (entry_at es i))
with_mark e es shapes Null = shapes

-- the shapes with those of the marks' entries, in the order in which each first comes
abbrev pub shapes_of : Encoding → List EntryValue → List Shape → List (Mark ℕ) → List Shape
shapes_of e es shapes [] = shapes
shapes_of e es shapes (m ∷ ms) = shapes_of e es (with_mark e es shapes m) ms

-- the code of an entry among the shapes
abbrev pub code_of_entry : Encoding → List EntryValue → List Shape → ℕ → ℕ
code_of_entry e es shapes i = code_in shapes (shape_of_entry e (entry_at es i))

-- the code of a mark among the shapes; that of a closing mark is zero
abbrev pub code_at : Encoding → List EntryValue → List Shape → Mark ℕ → ℕ
code_at e es shapes (Open i) = code_of_entry e es shapes i
code_at e es shapes Null = 0
