-- Where a walk down the tree stands.
use Rattle.std.specs.Prelude.{◌≡◌, ℕ, zero, suc, ◌<◌, List, [], ◌∷◌, ◌++◌, length, drop, Option, Some}
use Rattle.std.specs.List.{flat_map}
use Rattle.dw_base.specs.Entries.{Mark, Null}
use Rattle.dw_entries.specs.declared.tree.Frame.{Frame}
use Rattle.dw_entries.specs.Entries.{EntryValue, entry_at}
use Rattle.dw_entries.specs.Tree.{tree_from}

module _ (es : List EntryValue) where
  -- each frame's parent is the frame before it
  abbrev pub IsPath : Option ℕ → List Frame → Type 0
  IsPath above [] = Unit {0}
  IsPath above (f ∷ fs) = ((entry_at es f.index).parent ≡ above) × (f.index < length es) × IsPath (Some f.index) fs

  -- the entry of the last frame
  abbrev pub top : Option ℕ → List Frame → Option ℕ
  top above [] = above
  top above (f ∷ fs) = top (Some f.index) fs

  -- what one frame still has to give
  abbrev pub left_of : ℕ → Frame → List (Mark ℕ)
  left_of n f = flat_map (tree_from n es) (drop f.next (entry_at es f.index).children) ++ Null ∷ []

  -- what all frames still have to give, where the first is n deep
  unfoldable pub pending : ℕ → List Frame → List (Mark ℕ)
  pending n [] = []
  pending zero (f ∷ fs) = []
  pending (suc n) (f ∷ fs) = pending n fs ++ left_of n f
