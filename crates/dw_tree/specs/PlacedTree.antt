-- A tree that is ready to be written: its entries have their codes and their places.
use Rattle.std.specs.Prelude.{◌≡◌, ℕ, ◌+◌, ◌<◌, ◌≤◌, ◌^◌, List, length, map, IsTrue, IsFalse}
use Rattle.dw_base.specs.Numbers.{word_of, fits}
use Rattle.dw_base.specs.Spelling.{header_size}
use Rattle.dw_base.specs.declared.common.Encoding.{Encoding}
use Rattle.dw_base.specs.declared.error.Error.{Error}
use Rattle.dw_entries.specs.Entries.{EntryValue}
use Rattle.dw_entries.specs.Tree.{AreIn, marks, preorder}
use Rattle.dw_tree.specs.Coded.{code_at}
use Rattle.dw_tree.specs.Early.{tree_is_forward}
use Rattle.dw_tree.specs.Places.{placement_of}
use Rattle.dw_tree.specs.Whole.{tree_shapes, tree_size, IsTreePlacement}
use Rattle.dw_tree.specs.declared.placed_tree.PlacedTree.{PlacedTree}
use Rattle.dw_tree.specs.declared.places.Places.{Places}

-- Entries stand where their sizes put them, none of which hangs on a later place, and each place up to the end, a number of 64
-- bits, fits a word.
pub record ArePlaced (e : Encoding) (es : List EntryValue) (p : Places) : Type 0 where
  pub placed : IsTreePlacement e es (placement_of p)
  pub early : (err : Error) → IsFalse (tree_is_forward e es err)
  pub end : p.end ≡ header_size e + tree_size e es (placement_of p).place
  pub room : p.end < 2 ^ 64
  pub fit : (n : ℕ) → n ≤ p.end → IsTrue (fits (word_of e.format) n)
  pub bounded : (i : ℕ) → ((placement_of p).place i ≤ p.end) × ((placement_of p).past i ≤ p.end)

-- The items are those of the tree, each with the code of its shape, and its entries have their places.
pub record IsPlacedTree (e : Encoding) (es : List EntryValue) (t : PlacedTree) : Type 0 where
  pub within : AreIn (length es) (marks t.items.items)
  pub tree : marks t.items.items ≡ preorder es
  pub table : t.codes.table ≡ tree_shapes e es
  pub codes : t.codes.codes.items ≡ map (code_at e es (tree_shapes e es)) (marks t.items.items)
  pub places : ArePlaced e es t.places
