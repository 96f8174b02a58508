use Rattle.std.proofs.Common.{◌≡◌, map, take}
use Rattle.std.specs.Prelude.{filter}
use Rattle.dw_entry_ranges.specs.Live.{has_address}
use Rattle.dw_entry_ranges.proofs.live.LiveRanges.new.Given as goal

abbrev pub invariant-loop-range : goal.invariant-loop-range
invariant-loop-range l = record {
  begins : l.begins.items ≡ map (λ x. x.begin) (filter has_address (take l.range-index l.live));
  ends : l.ends.items ≡ map (λ x. x.end) (filter has_address (take l.range-index l.live));
}
