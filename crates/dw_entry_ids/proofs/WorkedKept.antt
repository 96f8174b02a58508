-- Worked rows: the tree of literal rows of which some entries are kept.
use Rattle.std.proofs.Common.{◌≡◌, [], ◌∷◌, List, ℕ, ◌+◌, Bool, true, false, Some, refl}
use Rattle.dw_base.specs.Entries.{ReadEntry, Open, Null, Row}
use Rattle.dw_entry_ids.specs.KeptRows.{images_behind, images_of, keep_of, kept_behind, kept_plans, kept_rows}
use Rattle.dw_entry_ids.specs.Plans.{Plan, plans_of}

-- an entry of a tag, with a list of children or without
abbrev entry : ℕ → Bool → ReadEntry
entry tag has_children = record { code = 1; tag = tag; has_children = has_children; attributes = [] }

abbrev row : ℕ → ℕ → ℕ → Bool → Row
row from depth tag has_children = record { from = from; depth = depth; mark = Open (entry tag has_children); to = from + 1 }

abbrev null : ℕ → ℕ → Row
null from depth = record { from = from; depth = depth; mark = Null; to = from + 1 }

abbrev plan : ℕ → ℕ → ReadEntry → Plan
plan number parent e = record { number = number; parent = parent; entry = e }

-- A unit at 100: a compile unit (0x11) with a variable (0x34), a namespace (0x39) in which a structure (0x13) has a member (0x0d),
-- and a base type (0x24).
abbrev nested : List Row
nested = row 12 0 0x11 true ∷ row 13 1 0x34 false ∷ row 14 1 0x39 true ∷ row 15 2 0x13 true ∷ row 16 3 0x0d false ∷ null 17 3 ∷ null 18 2 ∷ row 19 1 0x24 false ∷ null 20 1 ∷ []

-- the namespace, the structure and the base type are kept; the root is, too
abbrev keep : ℕ → Bool
keep = keep_of (Some (record { 0 = 114 } ∷ record { 0 = 115 } ∷ record { 0 = 119 } ∷ []))

tree : plans_of (kept_rows keep 100 nested) ≡ plan 0 0 (entry 0x11 true) ∷ plan 1 0 (entry 0x39 true) ∷ plan 2 1 (entry 0x13 true) ∷ plan 3 0 (entry 0x24 false) ∷ []
unfolding plans_of kept_behind
tree = refl

-- the variable stands below the root, and the member below the structure
images : images_of keep 100 nested ≡ 0 ∷ 0 ∷ 1 ∷ 2 ∷ 2 ∷ 3 ∷ []
unfolding images_behind kept_behind
images = refl

renumbered : kept_plans keep 100 nested ≡ plans_of (kept_rows keep 100 nested)
unfolding plans_of images_behind kept_behind
renumbered = refl
