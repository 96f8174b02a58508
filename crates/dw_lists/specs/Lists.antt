-- The lists of a table: each once, in the order in which they first came.
use Rattle.std.specs.Prelude.{◌≢◌, ℕ, Bool, List, [], ◌∷◌, ◌++◌, AllPairs, if◌then◌else◌}
use Rattle.std.specs.List.{list_any, position_or_len}

module _ {A : Type 0} (eq : A → A → Bool) where
  -- the index of the first list that equals one, or the next index where none does
  abbrev pub list_index : List A → A → ℕ
  list_index lists x = position_or_len (eq x) lists

  -- the lists with one more after them, if none equals it
  abbrev pub with_list : List A → A → List A
  with_list lists x = if list_any (eq x) lists then lists else lists ++ x ∷ []

-- no two lists are equal
abbrev pub AllDiffer : {A : Type 0} → List A → Type 0
AllDiffer lists = AllPairs (λ a b. a ≢ b) lists
