use Rattle.std.proofs.Common.{◌≡◌, ◌+◌, ◌^◌, ◌<◌, ◌≤◌, drop, Some}
use Rattle.dw_base.specs.Leb128.{groups_at}
use Rattle.dw_read.proofs.leb128.uleb_of.Given as goal

abbrev pub invariant-groups : goal.invariant-groups
invariant-groups l = record {
  within : l.index ≤ l.last;
  small : l.value < 2 ^ 64;
  is : groups_at (drop l.index l.bytes) ≡ Some (l.value, drop (l.last + 1) l.bytes);
}

abbrev pub decreases-groups : goal.decreases-groups
decreases-groups l = l.index
