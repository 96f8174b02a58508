-- Worked rows: the trees of literal rows.
use Rattle.std.proofs.Common.{◌≡◌, [], ◌∷◌, List, ℕ, Bool, true, false, refl}
use Rattle.dw_base.specs.Entries.{ReadEntry, Open, Null, Row}
use Rattle.dw_dwarf.specs.ConvertedEntries.{children_of}
use Rattle.dw_entry_ids.specs.Plans.{Plan, plans_of}

-- an entry of a tag, with a list of children or without
abbrev entry : ℕ → Bool → ReadEntry
entry tag has_children = record { code = 1; tag = tag; has_children = has_children; attributes = [] }

abbrev row : ℕ → ℕ → Bool → Row
row depth tag has_children = record { from = 0; depth = depth; mark = Open (entry tag has_children); to = 0 }

abbrev null : ℕ → Row
null depth = record { from = 0; depth = depth; mark = Null; to = 0 }

-- A compile unit (0x11) with a namespace (0x39), in which a structure (0x13) has a member (0x0d), and a variable (0x34) that
-- stands behind both closings: it is under the compile unit again.
abbrev nested : List Row
nested = row 0 0x11 true ∷ row 1 0x39 true ∷ row 2 0x13 true ∷ row 3 0x0d false ∷ null 3 ∷ null 2 ∷ row 1 0x34 false ∷ null 1 ∷ []

abbrev plan : ℕ → ℕ → ReadEntry → Plan
plan number parent e = record { number = number; parent = parent; entry = e }

tree : plans_of nested ≡ plan 0 0 (entry 0x11 true) ∷ plan 1 0 (entry 0x39 true) ∷ plan 2 1 (entry 0x13 true) ∷ plan 3 2 (entry 0x0d false) ∷ plan 4 0 (entry 0x34 false) ∷ []
unfolding plans_of
tree = refl

children : children_of 0 (plans_of nested) ≡ 1 ∷ 4 ∷ []
unfolding plans_of
children = refl
