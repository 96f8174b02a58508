-- Lists that are read item by item (DWARF 4, 2.6.2 and 2.17.3; DWARF 5, 2.6.2 and 2.17.3).
use Rattle.std.specs.Prelude.{◌≡◌, ℕ, List, [], ◌∷◌, Option, Some, None}
use Rattle.dw_base.specs.Numbers.{Parser}

-- the items that are read from bytes, one behind another up to the close, and the bytes behind it
abbrev pub AreItems : {A : Type 0} → Parser (Option A) → List ℕ → List A → List ℕ → Type 0
AreItems grammar bytes [] behind = grammar bytes ≡ Some (None, behind)
AreItems grammar bytes (x ∷ xs) behind = (next : List ℕ) × (grammar bytes ≡ Some (Some x, next)) × AreItems grammar next xs behind
