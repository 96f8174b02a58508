-- What the calls that build expressions do.
use Rattle.std.specs.Prelude.{◌≡◌, ℕ, zero, suc, Bool, true, false, List, [], ◌∷◌, ◌++◌, Option, Some, None, Result, Ok, Err}
use Rattle.dw_base.specs.declared.error.Error.{Error}
use Rattle.dw_base.specs.declared.error.Error.TheVariants.{NoMemory}
use Rattle.dw_expr.specs.Trees.{Node, plain, Raw, Skip, Branch}

-- an operation is added at the end; without memory all is as before
abbrev pub Pushes : {T : Type 0} → Result T Error → List Node → List Node → Node → Type 0
Pushes (Ok x) old new n = new ≡ old ++ n ∷ []
Pushes (Err e) old new n = (e ≡ NoMemory) × (new ≡ old)

-- the bytes of an expression that is one raw operation
abbrev pub raw_in : List Node → Option (List ℕ)
raw_in [] = None
raw_in (plain (Raw bytes) ∷ []) = Some bytes
raw_in (n ∷ ns) = None

-- an operation that goes on elsewhere
abbrev pub is_branch : Node → Bool
is_branch (plain (Skip t)) = true
is_branch (plain (Branch t)) = true
is_branch n = false

abbrev pub is_branch_at : List Node → ℕ → Bool
is_branch_at [] i = false
is_branch_at (n ∷ ns) zero = is_branch n
is_branch_at (n ∷ ns) (suc i) = is_branch_at ns i

-- such an operation with another target
abbrev pub led : Node → ℕ → Node
led (plain (Skip t)) k = plain (Skip (Some k))
led (plain (Branch t)) k = plain (Branch (Some k))
led n k = n

-- an expression in which the operation of an index has another target
abbrev pub targeted : List Node → ℕ → ℕ → List Node
targeted [] i k = []
targeted (n ∷ ns) zero k = led n k ∷ ns
targeted (n ∷ ns) (suc i) k = n ∷ targeted ns i k
