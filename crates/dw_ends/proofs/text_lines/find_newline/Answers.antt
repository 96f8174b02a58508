use Rattle.std.proofs.Common.{◌==◌}
use Rattle.dw_ends.specs.Pieces.{newline}
use Rattle.dw_ends.proofs.Finds.{first_byte}
use Rattle.dw_ends.proofs.text_lines.find_newline.Goals as goal

pub returns-clause-place : goal.returns-clause-place
returns-clause-place c = first_byte (λ b. b == newline) c.args.text.now c.memchr.result c.memchr.ensures
