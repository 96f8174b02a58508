-- Addresses and expressions in which symbols have values: each symbol address is replaced by the constant that it comes to,
-- the symbol's value plus the addend. One whose symbol has no value, or whose sum is no number of 64 bits, stays what it is; a
-- plain writer refuses it.
use Rattle.std.specs.Prelude.{ℕ, ◌+ℤ◌, List, map, Option, Some, None, pos, slice_get}
use Rattle.dw_base.specs.Numbers.{◌>>=◌}
use Rattle.dw_base.specs.declared.address.Address.{Address}
use Rattle.dw_base.specs.declared.address.Address.TheVariants.{Constant, Symbol}
use Rattle.dw_writer.specs.Pointers.{address_of}
use Rattle.dw_expr.specs.Trees.{Plain, Node, Tree, plain, entry_value, nothing, before}
use Rattle.dw_expr.specs.Trees as operations

-- a number as an address; where there is none, another address
abbrev pub known_or : Option ℕ → Address → Address
known_or None a = a
known_or (Some n) a = Constant n

-- where symbols have these values
module _ (symbols : List ℕ) where
  -- the value of a symbol plus an addend, where the symbol has one and the sum is an address of 64 bits
  abbrev pub value_at : Address → Option ℕ
  value_at (Constant n) = Some n
  value_at (Symbol s addend) = slice_get symbols s >>= λ v. address_of (addend +ℤ pos v)

  abbrev pub numbered_address : Address → Address
  numbered_address a = known_or (value_at a) a

  -- Expressions

  abbrev pub numbered_plain : Plain → Plain
  numbered_plain (operations.Address a) = operations.Address (numbered_address a)
  numbered_plain p = p

  abbrev mutual
    pub numbered_node : Node → Node
    numbered_node (plain p) = plain (numbered_plain p)
    numbered_node (entry_value x) = entry_value (numbered_tree x)

    pub numbered_tree : Tree → Tree
    numbered_tree nothing = nothing
    numbered_tree (before n x) = before (numbered_node n) (numbered_tree x)

  abbrev pub numbered_expression : List Node → List Node
  numbered_expression ns = map numbered_node ns
