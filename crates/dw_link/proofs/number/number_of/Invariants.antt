use Rattle.std.proofs.Common.{◌≡◌, ◌-◌, ◌^◌, ◌<◌, ◌≤◌, length, drop}
use Rattle.dw_base.specs.Numbers.{high_first, low_first}
use Rattle.dw_link.proofs.number.number_of.Given as goal

abbrev pub invariant-high : goal.invariant-high
invariant-high l = record {
  is : high_first 0 l.bytes ≡ high_first l.value (drop l.byte-index l.bytes);
  fits : l.value < 256 ^ l.byte-index;
}

abbrev pub invariant-low : goal.invariant-low
invariant-low l = record {
  within : l.index ≤ length l.bytes;
  is : low_first (drop l.index l.bytes) ≡ l.value;
  fits : l.value < 256 ^ (length l.bytes - l.index);
}

abbrev pub decreases-low : goal.decreases-low
decreases-low l = l.index
