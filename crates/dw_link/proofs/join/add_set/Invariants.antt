use Rattle.dw_writer.specs.Sections.{NoFixups}
use Rattle.dw_link.specs.Sets.{parts_of}
use Rattle.dw_link.specs.Steps.{AddsThese, is_below, layout_behind, lengths_of}
use Rattle.dw_link.proofs.Held.{held, held_beside}
use Rattle.dw_link.proofs.join.add_set.Given as goal

abbrev pub invariant-each : goal.invariant-each
invariant-each g l = record {
  added : AddsThese (is_below l.section-index) (parts_of (held g.E.Endianity.is_big) l.fn.joined) (parts_of (held g.E.Endianity.is_big) l.joined)
      (parts_of (held_beside g.E.Endianity.is_big) l.set)
      (layout_behind (lengths_of (parts_of (held g.E.Endianity.is_big) l.fn.joined)) l.symbols (parts_of (held g.E.Endianity.is_big) l.fn.joined));
  fixups : NoFixups l.fn.joined → NoFixups l.joined;
}
