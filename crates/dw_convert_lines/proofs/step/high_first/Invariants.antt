use Rattle.std.proofs.Common.{◌≡◌, ◌<◌, ◌^◌, drop}
use Rattle.dw_base.specs.Numbers.{high_first}
use Rattle.dw_convert_lines.proofs.step.high_first.Given as goal

abbrev pub invariant-loop-byte : goal.invariant-loop-byte
invariant-loop-byte l = record {
  narrow : l.number < 2 ^ 64;
  number : high_first 0 l.bytes ≡ high_first l.number (drop l.byte-index l.bytes);
}
