use Rattle.std.proofs.Common.{◌+◌, sym}
use Rattle.std.proofs.lemmas.List.{take_rest}
use Rattle.dw_ends.specs.Pieces.{newline}
use Rattle.dw_ends.proofs.Cuts.{pieces_found, pieces_none}
use Rattle.dw_ends.proofs.text_lines.split_first_line.Goals as goal

pub returns-in-Some : goal.returns-in-Some
returns-in-Some c =
    let e = pieces_found newline c.args.text.now c.in-Some.at (sym c.in-Some.ensures.place) in
    rw (take_rest c.args.text.now (c.in-Some.at + 1)) e

pub returns-in-None : goal.returns-in-None
returns-in-None c = pieces_none newline c.args.text.now (sym c.in-None.ensures.place)
