use Rattle.std.proofs.Common.{refl}
use Rattle.dw_sources.specs.RawListIters.{encoding_in}
use Rattle.dw_filter.specs.PlaceViews.{bounds_of, named_by}
use Rattle.dw_filter.proofs.Pending.{begun, known_next, less_next}
use Rattle.dw_filter.proofs.expression_places.read_all.Goals as goal

pub walk-init : goal.walk-init
walk-init g c =
    let reading = g.R.Reader.reading in
    begun _ _ reading (encoding_in c.args.unit) (reading c.args.expression.0).is_big (bounds_of reading c.args.unit) c.args.expression c.encoding.result c.new.result c.args.pending.now.items c.push.new.self.items c.args.places.now.items
    refl c.encoding.ensures c.new.ensures c.requires c.in_ok-push.ensures.items

pub walk-smaller : goal.walk-smaller
walk-smaller g c =
    let reading = g.R.Reader.reading in
    less_next _ _ reading c.args.unit (reading c.args.expression.0).is_big c.walk.pending.items c.pop.new.self.items c.read_next.new.pending.items c.in-Some.operations c.args.places.now.items c.walk.places.items c.read_next.new.places.items (named_by reading c.args.unit c.args.expression)
    g.met.R.Reader.is_reading c.in-Some.ensures.items c.walk.invariant c.in_ok-read_next.ensures.ok

pub walk-preserved : goal.walk-preserved
walk-preserved g c =
    let reading = g.R.Reader.reading in
    known_next _ _ reading c.args.unit (reading c.args.expression.0).is_big c.walk.pending.items c.pop.new.self.items c.read_next.new.pending.items c.in-Some.operations c.args.places.now.items c.walk.places.items c.read_next.new.places.items (named_by reading c.args.unit c.args.expression)
    g.met.R.Reader.is_reading c.in-Some.ensures.items c.walk.invariant c.in_ok-read_next.ensures.ok
