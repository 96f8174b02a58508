use Rattle.std.proofs.Common.{◌≡◌, ◌≤◌, ◌<◌, ◌^◌, length, drop}
use Rattle.dw_base.specs.Numbers.{low_first}
use Rattle.dw_convert_lines.proofs.step.low_first.Given as goal

abbrev pub invariant-loop-end : goal.invariant-loop-end
invariant-loop-end l = record {
  within : l.end ≤ length l.bytes;
  narrow : l.number < 2 ^ 64;
  number : l.number ≡ low_first (drop l.end l.bytes);
}

abbrev pub decreases-loop-end : goal.decreases-loop-end
decreases-loop-end l = l.end
