use Rattle.std.proofs.Common.{◌≡◌, drop, None, Bool}
use Rattle.dw_read.specs.Orders.{IsInOrder}
use Rattle.dw_read.specs.Took.{option_of}
use Rattle.dw_read.specs.Values.{value_of}
use Rattle.dw_read_units.specs.Roots.{last_after}
use Rattle.dw_entry_ranges.specs.Attributes.{values_in, order_of, AreInOrder}
use Rattle.dw_entry_ranges.proofs.attribute.last_value.Given as goal

abbrev pub invariant-loop-attribute : goal.invariant-loop-attribute
invariant-loop-attribute g l = record {
  told : last_after l.name.0 l.name.0 (option_of (value_of g.R.Reader.reading) l.found) (drop l.attribute-index (values_in g.R.Reader.reading l.attrs)) ≡ last_after l.name.0 l.name.0 None (values_in g.R.Reader.reading l.attrs);
  order : (big : Bool) → AreInOrder g.R.Reader.reading big l.attrs → IsInOrder big (order_of g.R.Reader.reading l.found);
}
