use Rattle.dw_filter.proofs.Pending.{names_some, names_none}
use Rattle.dw_filter.proofs.expression_places.next_named.Goals as goal

pub returns-in-Ok-Some : goal.returns-in-Ok-Some
returns-in-Ok-Some g c =
    names_some _ _ g.R.Reader.reading c.args.unit c.args.operations.now c.next.new.self c.in-Ok-Some.field-0 c.in-Ok-Some.operation (record { place = c.place_named.result; within = c.expression_within.result })
    c.in-Ok-Some.ensures c.in-Ok-Some.field-0-is c.place_named.ensures c.expression_within.ensures

pub returns-in-Ok-None : goal.returns-in-Ok-None
returns-in-Ok-None g c = names_none _ _ g.R.Reader.reading c.args.unit c.args.operations.now c.next.new.self c.in-Ok-None.field-0 c.in-Ok-None.ensures c.in-Ok-None.field-0-is
