-- What a source has left, what a sink has taken, and what one call does to either.
use Rattle.std.specs.Prelude.{◌≡◌, ℕ, ◌≤◌, List, [], ◌++◌, length, take, drop}
use Rattle.std.specs.declared.option.Option.{Option}
use Rattle.std.specs.Option.{option_map}

-- the bytes that a source has left, where it tells them, and how many faults it has met
pub record Input : Type 0 where
  pub left : Option (List ℕ)
  pub faults : ℕ

-- the bytes that a sink has taken, where it tells them, and how many faults it has met
pub record Intake : Type 0 where
  pub taken : Option (List ℕ)
  pub faults : ℕ

-- told bytes without the first n
abbrev pub without : ℕ → Option (List ℕ) → Option (List ℕ)
without n told = option_map (λ xs. drop n xs) told

-- told bytes after the last of them is read
abbrev pub used_up : Option (List ℕ) → Option (List ℕ)
used_up told = option_map (λ _. []) told

-- told bytes with more after them
abbrev pub with_after : Option (List ℕ) → List ℕ → Option (List ℕ)
with_after told bytes = option_map (λ xs. xs ++ bytes) told

-- what a sink told grew by a front of the text, and by nothing else
abbrev pub TakesPrefix : Option (List ℕ) → Option (List ℕ) → List ℕ → Type 0
TakesPrefix old new text = (n : ℕ) × (n ≤ length text) × (new ≡ with_after old (take n text))
