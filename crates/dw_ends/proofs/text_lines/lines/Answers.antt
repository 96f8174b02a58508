use Rattle.dw_ends.specs.Pieces.{newline}
use Rattle.dw_ends.specs.TextLines.{lines_left}
use Rattle.dw_ends.proofs.Cuts.{length-pieces}
use Rattle.dw_ends.proofs.text_lines.lines.Goals as goal

pub returns-clause-few : goal.returns-clause-few
unfolding lines_left
returns-clause-few c = length-pieces newline c.args.text.now
