use Rattle.dw_line.proofs.FrontSteps.{AddsSomeWith-front, Front-none}
use Rattle.dw_line.proofs.name.write_line_string_ref.Goals as goal

pub returns-clause-front : goal.returns-clause-front
returns-clause-front g c = AddsSomeWith-front c.write_offset.ensures.partly

pub returns-then-index-count-clause-front : goal.returns-then-index-count-clause-front
returns-then-index-count-clause-front g c = Front-none _

pub returns-then-index-count-clause-ok : goal.returns-then-index-count-clause-ok
returns-then-index-count-clause-ok g c = tt

pub returns-then-index-count-clause-sound : goal.returns-then-index-count-clause-sound
returns-then-index-count-clause-sound g c = tt

pub returns-clause-same : goal.returns-clause-same
returns-clause-same g c = c.write_offset.ensures.same
