-- Tables of the program, with their names as bytes.
use Rattle.std.specs.Prelude.{ℕ, List, map}
use Rattle.std.specs.Borrow.{Bor}

-- a table, with the bytes of each name
abbrev pub spelled : {T : Type 0} → List (Bor (List ℕ) × T) → List (List ℕ × T)
spelled table = map (λ e. (e.0.now, e.1)) table
