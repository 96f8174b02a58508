use Rattle.std.proofs.Common.{◌≡◌, ℕ, ◌==◌, Bool, true, false, not, is_some, List, length, Option, Some, None, refl, arith}
use Rattle.std.specs.Borrow.{Bor}
use Rattle.std.proofs.lemmas.Bool.Decides.{nat_tests}
use Rattle.std.proofs.lemmas.List.Splits.{length-slice_split}
use Rattle.dw_ends.specs.Pieces.{pieces, pieces_after, pieces_left}
use Rattle.dw_ends.proofs.pieces.Pieces.is_at_end.Goals as goal

-- bytes have one piece at least
some_pieces : (separator : ℕ) (bytes : List ℕ) → false ≡ (length (pieces separator bytes) == 0)
some_pieces separator bytes = let some = length-slice_split (λ b. b == separator) bytes in grind (arith, nat_tests, some)

at_end : (separator : ℕ) (rest : Option (Bor (List ℕ))) (ended : Bool) → is_some rest ≡ not ended → ended ≡ (length (pieces_after separator rest) == 0)
at_end separator None true e = refl
at_end separator None false e = absurd cc
at_end separator (Some bytes) true e = absurd cc
at_end separator (Some bytes) false e = some_pieces separator bytes.now

pub returns : goal.returns
unfolding pieces_left
returns c = let p = c.args.self.now in at_end p.separator p.rest c.is_none.result c.is_none.ensures
