use Rattle.std.proofs.Common.{◌∙◌, ap, Some}
use Rattle.dw_sources.specs.RawListIters.{encoding_in}
use Rattle.dw_entry_ranges.specs.Addresses.{indexed_address}
use Rattle.dw_entry_ranges.specs.Attributes.{values_in}
use Rattle.dw_entry_ranges.proofs.LocationLaws.{located}
use Rattle.dw_entry_ranges.proofs.location.location_address.Goals as goal

pub returns-in-Some-Exprloc : goal.returns-in-Some-Exprloc
returns-in-Some-Exprloc g c = λ big h.
    located _ _ g.R.Reader.reading (indexed_address g.R.Reader.reading c.args.unit) (encoding_in c.args.unit) c.in-Some-Exprloc.expression big (values_in g.R.Reader.reading c.args.attrs.now) c.last_value.result c.first_address.result
    (c.in-Some-Exprloc.is ∙ ap Some c.in-Some-Exprloc.field-0-is) c.last_value.ensures.is (c.last_value.ensures.order big h) c.first_address.ensures
