use Rattle.std.proofs.Common.{length}
use Rattle.dw_read.specs.Reading.{left}
use Rattle.dw_entry_ranges.proofs.ListLaws.{Stands}
use Rattle.dw_entry_ranges.proofs.list.ranges_at.Given as goal

abbrev pub invariant-items : goal.invariant-items
invariant-items g l = Stands _ _ g.R.Reader.reading l.unit l.fn.offset.0 l.items l.base l.ranges.items

abbrev pub decreases-items : goal.decreases-items
decreases-items g l = length (left (g.R.Reader.reading l.items.input))
