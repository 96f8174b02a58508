use Rattle.std.specs.Prelude.{take}
use Rattle.std.specs.List.{flat_map}
use Rattle.dw_writer.specs.Meaning.{Adds}
use Rattle.dw_arange_table.specs.Bytes.{range_bytes}
use Rattle.dw_arange_table.proofs.write.write_ranges.Given as goal

abbrev pub invariant-loop-range : goal.invariant-loop-range
invariant-loop-range g l =
    let first = g.W.Writer.meaning l.initial.w in
    Adds first (g.W.Writer.meaning l.w) (flat_map (range_bytes first.is_big l.size) (take l.range-index l.ranges))
