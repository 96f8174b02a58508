use Rattle.dw_filter.proofs.AttributeSteps.{AreSoFar}
use Rattle.dw_filter.proofs.attribute_places.add_entry_places.Given as goal

abbrev pub invariant-attributes : goal.invariant-attributes
invariant-attributes g l = AreSoFar _ _ g.R.Reader.reading l.unit l.attributes l.attribute-index l.initial.places.items l.places.items
