use Rattle.std.proofs.Common.{◌≡◌, take}
use Rattle.dw_lists.proofs.location.LocationList.try_clone.Given as goal

abbrev pub invariant-loop-location : goal.invariant-loop-location
invariant-loop-location l = l.copies.items ≡ take l.location-index l.self
