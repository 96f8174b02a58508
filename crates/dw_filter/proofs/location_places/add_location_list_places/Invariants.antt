use Rattle.std.proofs.Common.{length}
use Rattle.dw_read.specs.Reading.{left}
use Rattle.dw_filter.proofs.ListSteps.{Goes}
use Rattle.dw_filter.proofs.location_places.add_location_list_places.Given as goal

abbrev pub invariant-items : goal.invariant-items
invariant-items g l = Goes _ _ g.R.Reader.reading l.unit l.fn.offset.0 l.fn.places.items l.places.items l.items

abbrev pub decreases-items : goal.decreases-items
decreases-items g l = length (left (g.R.Reader.reading l.items.input))
