-- Whether an entry has a place.
use Rattle.std.specs.Prelude.{◌≡◌, ℕ, Bool, true, false, ◌==◌, Some, None, is_none, IsFalse, refl, if◌then◌else◌}
use Rattle.dw_tree.specs.Places.{found}

-- an entry that has a place has the one that is kept
pub found_some : (place : ℕ → ℕ) (i : ℕ) → IsFalse (is_none (found place i)) → found place i ≡ Some (place i)
found_some place i h = by_test (place i == 0) h
  where
    by_test : (b : Bool) → IsFalse (is_none (if b then None else Some (place i))) → (if b then None else Some (place i)) ≡ Some (place i)
    by_test true k = absurd (let x : true ≡ false = k in cc)
    by_test false k = refl
