-- What the loops over operations keep.
use Rattle.std.specs.Prelude.{◌≡◌, ℕ, ◌+◌, Bool, false, List, ◌++◌, take, drop, Option}
use Rattle.dw_base.specs.declared.common.Encoding.{Encoding}
use Rattle.dw_base.specs.declared.error.Error.{Error}
use Rattle.dw_writer.specs.Meaning.{Meaning, IsSameWriter}
use Rattle.dw_writer.specs.Drafts.{Drafts}
use Rattle.dw_writer.specs.declared.fixup.DebugInfoFixup.{DebugInfoFixup}
use Rattle.dw_expr.specs.Places.{place_by}
use Rattle.dw_expr.specs.Spelling.{parts_size, parts_draft, starts_from, parts_of, expression_size}
use Rattle.dw_expr.specs.Causes.{length_fails, nodes_unplaced, nodes_fail}
use Rattle.dw_expr.specs.Views.{nodes_in}
use Rattle.dw_expr.specs.declared.op.Operation.{Operation}

-- the places of the first i operations were found
pub record Found (e : Encoding) (known : Option (ℕ → Option ℕ)) (xs : List Operation) (i : ℕ) (all : List ℕ) (at : ℕ) : Type 0 where
  pub begun : all ++ starts_from at (parts_of e (place_by known) (nodes_in (drop i xs))) ≡ starts_from 0 (parts_of e (place_by known) (nodes_in xs))
  pub total : at + expression_size e (place_by known) (nodes_in (drop i xs)) ≡ expression_size e (place_by known) (nodes_in xs)
  pub short : (err : Error) → length_fails at err ≡ false
  pub placed : (err : Error) → nodes_unplaced e known (nodes_in (drop i xs)) err ≡ nodes_unplaced e known (nodes_in xs) err

-- the first i operations were written
pub record Written (e : Encoding) (known : Option (ℕ → Option ℕ)) (keeps : Bool) (starts : List ℕ) (xs : List Operation) (i : ℕ) (old new : Meaning) (before after : List DebugInfoFixup) : Type 0 where
  pub drafts : Drafts old new before after (parts_draft starts 0 (parts_of e (place_by known) (nodes_in (take i xs))))
  pub sound : (err : Error) →
      nodes_fail e known keeps old.is_plain starts (parts_size (parts_of e (place_by known) (nodes_in (take i xs)))) (nodes_in (drop i xs)) err ≡ nodes_fail e known keeps old.is_plain starts 0 (nodes_in xs) err
  pub same : IsSameWriter old new
  pub unkept : keeps ≡ false → after ≡ before
