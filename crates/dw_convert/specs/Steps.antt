-- The operations of an expression, and where they stand in it.
use Rattle.std.specs.Prelude.{ℕ, ◌-◌, List, [], ◌∷◌, length, map, Option, Some, None}
use Rattle.dw_base.specs.Numbers.{Parser}
use Rattle.dw_sources.specs.Operations.{Operation}
use Rattle.dw_convert.specs.Lists.{First}

-- an operation, and how many bytes of its expression stand before what follows it
pub record Step : Type 0 where
  pub operation : Operation
  pub behind : ℕ

abbrev pub step_of : ℕ → Option (Operation × List ℕ) → Option (Step × List ℕ)
step_of size None = None
step_of size (Some x) = Some (record { operation = x.0; behind = size - length x.1 }, x.1)

-- the operation at the front of what is left of so many bytes
abbrev pub step_at : Parser Operation → ℕ → Parser Step
step_at grammar size bytes = step_of size (grammar bytes)

-- the operations of an expression, from the first to the last
abbrev pub AreSteps : Parser Operation → List ℕ → List Step → Type 0
AreSteps grammar bytes steps = First (step_at grammar (length bytes)) bytes steps []

-- where the operations begin, and behind them the end
abbrev pub begins : List Step → List ℕ
begins steps = 0 ∷ map (λ s. s.behind) steps
