-- The places of CIEs that are written, as they are kept.
use Rattle.std.specs.Prelude.{ℕ, ◌≤◌, List, Option, None, get_or, IfSome}
use Rattle.dw_frame.specs.Tables.{Places}

-- by their numbers; past the list's end there is none
abbrev pub known : List (Option ℕ) → Places
known xs i = get_or xs i None

-- no CIE stands past this place
abbrev pub AreBefore : Places → ℕ → Type 0
AreBefore places at = (i : ℕ) → IfSome (places i) (λ p. p ≤ at)
