-- Branches of an expression, by their index.
use Rattle.std.specs.Prelude.{◌≡◌, ℕ, zero, suc, ◌<◌, ◌≤◌, true, false, List, [], ◌∷◌, length, get_or, slice_set, IsTrue, refl}
use Rattle.std.proofs.Common.{ap, arith}
use Rattle.dw_expr.specs.Views.{node_of, nodes_in}
use Rattle.dw_expr.specs.Calls.{is_branch, is_branch_at, led, targeted}
use Rattle.dw_expr.specs.declared.op.Operation.{Operation}

pub branch_there : (xs : List Operation) (i : ℕ) (o : Operation) → i < length xs → o ≡ get_or xs i o → is_branch (node_of o) ≡ is_branch_at (nodes_in xs) i
branch_there [] i o below h = absurd (omega arith)
branch_there (x ∷ xs) zero o below h = ap (λ y. is_branch (node_of y)) h
branch_there (x ∷ xs) (suc i) o below h = branch_there xs i o (omega arith) h

pub branch_nowhere : (xs : List Operation) (i : ℕ) → length xs ≤ i → false ≡ is_branch_at (nodes_in xs) i
branch_nowhere [] i h = refl
branch_nowhere (x ∷ xs) zero h = absurd (omega arith)
branch_nowhere (x ∷ xs) (suc i) h = branch_nowhere xs i (omega arith)

pub branch_within : (xs : List Operation) (i : ℕ) → IsTrue (is_branch_at (nodes_in xs) i) → i < length xs
branch_within [] i h = absurd (let k : false ≡ true = h in cc)
branch_within (x ∷ xs) zero h = omega arith
branch_within (x ∷ xs) (suc i) h = omega (arith, branch_within xs i h)

-- one of them with another target
pub targeted_there : (xs : List Operation) (i k : ℕ) (d o : Operation) → i < length xs → node_of o ≡ led (node_of (get_or xs i d)) k → nodes_in (slice_set xs i o) ≡ targeted (nodes_in xs) i k
targeted_there [] i k d o below h = absurd (omega arith)
targeted_there (x ∷ xs) zero k d o below h = ap (λ n. n ∷ nodes_in xs) h
targeted_there (x ∷ xs) (suc i) k d o below h = ap (λ ns. node_of x ∷ ns) (targeted_there xs i k d o (omega arith) h)
