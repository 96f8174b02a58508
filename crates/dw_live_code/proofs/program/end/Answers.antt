use Rattle.dw_live_code.proofs.program.end.Goals.{in-Ok, in-Err}
use Rattle.dw_live_code.proofs.program.end.Goals as goal

pub returns-clause-complete : goal.returns-clause-complete
returns-clause-complete g c =
    elim c.match-words.branch [
      | in-Ok w ↦ rw (w.in-Ok.is, w.source-is, w.sink-is, c.from.ensures, w.status-is) w.run-status.ensures.complete
      | in-Err w ↦ rw w.in-Err.is tt
    ]
