use Rattle.dw_writer.specs.Sections.{NoFixups}
use Rattle.dw_link.specs.Sets.{parts_of, sets_of}
use Rattle.dw_link.proofs.Held.{held, held_beside}
use Rattle.dw_link.proofs.SetSteps.{ReachedSets}
use Rattle.dw_link.proofs.join.add_sets.Given as goal

abbrev pub invariant-each : goal.invariant-each
invariant-each g l = record {
  reached : ReachedSets (sets_of (held_beside g.E.Endianity.is_big) l.sets) l.symbols (parts_of (held g.E.Endianity.is_big) l.fn.joined) (parts_of (held g.E.Endianity.is_big) l.joined) l.number;
  fixups : NoFixups l.fn.joined → NoFixups l.joined;
}
