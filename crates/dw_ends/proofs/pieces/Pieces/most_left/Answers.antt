use Rattle.std.proofs.Common.{◌≤◌, length, arith, subst, sym, Some}
use Rattle.dw_ends.specs.Pieces.{pieces_left, pieces_after}
use Rattle.dw_ends.proofs.Cuts.{length-pieces}
use Rattle.dw_ends.proofs.pieces.Pieces.most_left.Goals as goal

pub returns-in-Some : goal.returns-in-Some
unfolding pieces_left
returns-in-Some c =
    let p = c.args.self.now in
    let few = length-pieces p.separator c.in-Some.bytes.now in
    let enough : length (pieces_after p.separator (Some c.in-Some.bytes)) ≤ c.most_pieces.result = omega arith in
    subst (λ r. length (pieces_after p.separator r) ≤ c.most_pieces.result) (sym c.in-Some.is) enough

pub returns-in-None : goal.returns-in-None
unfolding pieces_left
returns-in-None c = subst (λ r. length (pieces_after c.args.self.now.separator r) ≤ 0) (sym c.in-None.is) (omega arith)
