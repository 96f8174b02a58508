use Rattle.dw_entry_ranges.proofs.LookupLaws.{address_is}
use Rattle.dw_entry_ranges.proofs.attribute.indexed_address.Goals as goal

pub returns : goal.returns
returns g c = address_is _ _ g.R.Reader.reading c.args.unit c.args.index c.address.result c.address.ensures.ok c.address.ensures.err
