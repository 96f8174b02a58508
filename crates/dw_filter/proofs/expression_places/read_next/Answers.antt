use Rattle.dw_filter.proofs.Pending.{reads_on}
use Rattle.dw_filter.proofs.expression_places.read_next.Goals as goal

pub returns-clause-ok : goal.returns-clause-ok
returns-clause-ok g c =
    reads_on _ _ g.R.Reader.reading c.args.unit c.args.operations c.next_named.new.operations c.add_place.result c.in-Some.named c.encoding.result c.args.pending.now.items c.push.new.self.items c.begin.new.pending.items c.args.places.now.items c.add_place.new.places.items
    c.in-Some.ensures c.encoding.ensures c.in_ok-push.ensures.items c.in_ok-begin.ensures.ok c.add_place.ensures.ok
