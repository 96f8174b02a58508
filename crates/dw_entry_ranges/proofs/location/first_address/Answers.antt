use Rattle.dw_sources.specs.RawListIters.{encoding_in}
use Rattle.dw_entry_ranges.specs.Addresses.{indexed_address}
use Rattle.dw_entry_ranges.proofs.LocationLaws.{first_pushed, first_over, first_refused}
use Rattle.dw_entry_ranges.proofs.location.first_address.Goals as goal

pub returns-in-Ok-Some : goal.returns-in-Ok-Some
returns-in-Ok-Some g c =
    first_pushed _ _ g.R.Reader.reading (indexed_address g.R.Reader.reading c.args.unit) (encoding_in c.args.unit) c.args.expression c.encoding.result c.new-operations.result c.next.new.self c.encoding.ensures c.new-operations.ensures
    c.in-Ok-Some.operation c.pushed.result (rw c.in-Ok-Some.field-0-is at c.in-Ok-Some.ensures) c.pushed.ensures

pub returns-in-Ok-None : goal.returns-in-Ok-None
returns-in-Ok-None g c =
    let over = rw c.in-Ok-None.field-0-is at c.in-Ok-None.ensures in
    first_over _ _ g.R.Reader.reading (indexed_address g.R.Reader.reading c.args.unit) (encoding_in c.args.unit) c.args.expression c.encoding.result c.new-operations.result c.next.new.self c.encoding.ensures c.new-operations.ensures over.1

pub returns : goal.returns
returns g c =
    first_refused _ _ g.R.Reader.reading (indexed_address g.R.Reader.reading c.args.unit) (encoding_in c.args.unit) c.args.expression c.encoding.result c.new-operations.result c.next.new.self c.encoding.ensures c.new-operations.ensures c.in-Err.field-0 c.in-Err.ensures
