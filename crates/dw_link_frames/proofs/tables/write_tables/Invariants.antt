use Rattle.std.specs.Prelude.{take}
use Rattle.dw_link.proofs.Held.{held_beside}
use Rattle.dw_link_frames.specs.Placed.{kind_of}
use Rattle.dw_link_frames.specs.Written.{AreTaken, AreAllTold, AreWritten}
use Rattle.dw_link_frames.proofs.tables.write_tables.Given as goal

abbrev pub invariant-each : goal.invariant-each
invariant-each g l = record {
  written : AreWritten (held_beside g.E.Endianity.is_big) (g.E.Endianity.is_big l.endian) (kind_of l.eh_frame) (take l.number l.tables) l.sets.items;
  taken : AreTaken (kind_of l.eh_frame) (take l.number l.tables);
  told : AreAllTold (kind_of l.eh_frame) (take l.number l.tables);
}
