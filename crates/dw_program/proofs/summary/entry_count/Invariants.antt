use Rattle.std.proofs.Common.{◌≡◌, ◌≤◌, ◌*◌, ◌^◌, take, length}
use Rattle.std.specs.Prelude.{sum_by}
use Rattle.dw_program.proofs.summary.entry_count.Given as goal

abbrev pub invariant-loop-index : goal.invariant-loop-index
invariant-loop-index l = record {
  end : l.index-end ≡ length l.units;
  sum : l.count ≡ sum_by (λ u. length u.entries) (take l.index l.units);
  room : l.count ≤ l.index * 2 ^ 64;
}
