use Rattle.std.proofs.Common.{◌≡◌, ◌≤◌, ◌-◌, length, take}
use Rattle.dw_ends.specs.Ends.{with_after}
use Rattle.dw_ends.proofs.transfer.write_all.Given as goal

abbrev pub invariant-pieces : goal.invariant-pieces
invariant-pieces g l = record {
  within : l.done ≤ length l.text;
  counted : (g.K.Sink.intake l.initial.sink).faults ≤ (g.K.Sink.intake l.sink).faults;
  taken : (g.K.Sink.intake l.sink).taken ≡ with_after (g.K.Sink.intake l.initial.sink).taken (take l.done l.text);
}

abbrev pub decreases-pieces : goal.decreases-pieces
decreases-pieces g l = length l.text - l.done
