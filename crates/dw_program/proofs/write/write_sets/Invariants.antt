use Rattle.std.proofs.Common.{◌≡◌, ◌++◌, length, map}
use Rattle.std.specs.Vec.Iter.{into_iter_items, into_iter_len}
use Rattle.dw_base.specs.Order.{is_big_of}
use Rattle.dw_dwarf.specs.DwarfValue.{dwarf_in}
use Rattle.dw_link.proofs.Held.{held_beside}
use Rattle.dw_program.proofs.SetsWritten.{AreWrittenSets}
use Rattle.dw_program.proofs.write.write_sets.Given as goal

abbrev pub invariant-loop-dwarf : goal.invariant-loop-dwarf
invariant-loop-dwarf l = record {
  given : l.yielded ++ into_iter_items l.dwarf-iterator ≡ into_iter_items l.initial.dwarf-iterator;
  left : into_iter_len l.dwarf-iterator ≡ length (into_iter_items l.dwarf-iterator);
  written : AreWrittenSets (held_beside is_big_of) (is_big_of l.endian) (map dwarf_in l.yielded) l.sets.items;
}
