use Rattle.std.specs.Prelude.{◌≡◌, false, Some}
use Rattle.std.specs.Vec.{vec_len}
use Rattle.dw_link.specs.Steps.{layout_at}
use Rattle.dw_link.proofs.PartSteps.{Reached}
use Rattle.dw_link.proofs.join.add_part.Given as goal

abbrev pub invariant-each : goal.invariant-each
invariant-each g l = record {
  reached : Reached
      (record {
        bytes = Some l.part.writer.bytes.items;
        size = vec_len l.part.writer.bytes;
        is_big = g.E.Endianity.is_big l.part.writer.endian;
        is_plain = false;
        records = l.part.relocations.items;
        faults = 0;
      })
      (layout_at l.places.starts l.places.symbols.now l.start) l.fn.joined.bytes.items l.start l.index l.joined.bytes.items;
  order : g.E.Endianity.is_big l.joined.endian ≡ g.E.Endianity.is_big l.fn.joined.endian;
}
