use Rattle.std.proofs.Common.{◌≡◌, ◌≤◌, ◌-◌, vec_len}
use Rattle.dw_ends.proofs.Moves.{with_before}
use Rattle.dw_ends.proofs.transfer.read_all.Given as goal

abbrev pub invariant-chunks : goal.invariant-chunks
invariant-chunks g l = record {
  within : vec_len l.bytes ≤ 16777216;
  counted : (g.S.Source.input l.initial.source).faults ≤ (g.S.Source.input l.source).faults;
  told : (g.S.Source.input l.initial.source).left ≡ with_before l.bytes.items (g.S.Source.input l.source).left;
}

abbrev pub decreases-chunks : goal.decreases-chunks
decreases-chunks g l = 16777216 - vec_len l.bytes
