use Rattle.std.proofs.Common.{◌≡◌, ◌+◌, ◌^◌, ◌<◌, ◌≤◌, drop, Some}
use Rattle.dw_base.specs.Leb128.{signed_groups_at}
use Rattle.dw_read.specs.Reasons.{signed}
use Rattle.dw_read.proofs.leb128.sleb_of.Given as goal

abbrev pub invariant-groups : goal.invariant-groups
invariant-groups l = record {
  within : l.index ≤ l.last;
  small : l.magnitude < 2 ^ 64;
  is : signed_groups_at (drop l.index l.bytes) ≡ Some (signed l.is_negative l.magnitude, drop (l.last + 1) l.bytes);
}

abbrev pub decreases-groups : goal.decreases-groups
decreases-groups l = l.index
