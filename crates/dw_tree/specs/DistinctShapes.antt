-- The different shapes of entries. A table declares each of them, and entries of one shape share its code (DWARF 5, 7.5.3).
use Rattle.std.specs.Prelude.{ℕ, List, [], ◌∷◌, filter, not}
use Rattle.dw_base.specs.Abbreviations.{Shape}
use Rattle.dw_base.specs.Entries.{Mark, Open, Null}
use Rattle.dw_base.specs.declared.common.Encoding.{Encoding}
use Rattle.dw_abbrev.specs.Equal.{shape_eq}
use Rattle.dw_entries.specs.Entries.{EntryValue, entry_at}
use Rattle.dw_tree.specs.Shapes.{shape_of_entry}

-- the shapes of the marks' entries, in order, also where a shape comes again
abbrev pub entry_shapes : Encoding → List EntryValue → List (Mark ℕ) → List Shape
entry_shapes e es [] = []
entry_shapes e es (Open i ∷ ms) = shape_of_entry e (entry_at es i) ∷ entry_shapes e es ms
entry_shapes e es (Null ∷ ms) = entry_shapes e es ms

-- the shapes other than one
abbrev pub other_shapes : Shape → List Shape → List Shape
other_shapes s ss = filter (λ x. not (shape_eq x s)) ss

-- the different shapes, in the order in which each first comes
abbrev pub distinct_shapes : List Shape → List Shape
distinct_shapes [] = []
distinct_shapes (s ∷ ss) = s ∷ other_shapes s (distinct_shapes ss)
