use Rattle.dw_program.proofs.run.end.Goals.{in-Ok, in-Err}
use Rattle.dw_program.proofs.run.end.Goals as goal

pub returns-clause-converts : goal.returns-clause-converts
returns-clause-converts g c =
    elim c.match-words.branch [
      | in-Ok w ↦ rw (w.in-Ok.is, w.source-is, w.sink-is, c.from.ensures, w.status-is) w.run-status.ensures.converts
      | in-Err w ↦ rw w.in-Err.is tt
    ]

pub returns-clause-links : goal.returns-clause-links
returns-clause-links g c =
    elim c.match-words.branch [
      | in-Ok w ↦ rw (w.in-Ok.is, w.source-is, w.sink-is, c.from.ensures, w.status-is) w.run-status.ensures.links
      | in-Err w ↦ rw w.in-Err.is tt
    ]

pub returns-clause-complete : goal.returns-clause-complete
returns-clause-complete g c =
    elim c.match-words.branch [
      | in-Ok w ↦ rw (w.in-Ok.is, w.source-is, w.sink-is, c.from.ensures, w.status-is) w.run-status.ensures.complete
      | in-Err w ↦ rw w.in-Err.is tt
    ]

pub returns-clause-makes : goal.returns-clause-makes
returns-clause-makes g c =
    elim c.match-words.branch [
      | in-Ok w ↦ rw (w.in-Ok.is, w.sink-is, c.from.ensures, w.status-is) w.run-status.ensures.makes
      | in-Err w ↦ rw w.in-Err.is tt
    ]
