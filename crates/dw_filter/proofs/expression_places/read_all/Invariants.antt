use Rattle.dw_sources.specs.RawListIters.{encoding_in}
use Rattle.dw_filter.specs.PlaceViews.{bounds_of, named_by}
use Rattle.dw_filter.proofs.Pending.{Progress, weight}
use Rattle.dw_filter.proofs.expression_places.read_all.Given as goal

abbrev pub invariant-walk : goal.invariant-walk
invariant-walk g l =
    let reading = g.R.Reader.reading in
    Progress _ _ reading (encoding_in l.unit) (reading l.fn.expression.0).is_big (bounds_of reading l.unit) l.pending.items l.fn.places.items l.places.items (named_by reading l.unit l.fn.expression)

abbrev pub decreases-walk : goal.decreases-walk
decreases-walk g l = weight _ _ g.R.Reader.reading (encoding_in l.unit) l.pending.items
