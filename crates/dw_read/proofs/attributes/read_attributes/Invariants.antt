use Rattle.std.proofs.Common.{◌≡◌, map, All}
use Rattle.dw_read.specs.Attributes.{attribute_of}
use Rattle.dw_read.specs.Orders.{attribute_order, IsInOrder}
use Rattle.dw_read.specs.Specifications.{specification_of}
use Rattle.dw_read.proofs.AttributeLaws.{ReadsSo}
use Rattle.dw_read.proofs.attributes.read_attributes.Given as goal

abbrev pub invariant-loop-specification : goal.invariant-loop-specification
invariant-loop-specification g l = record {
  so : ReadsSo (g.R.Reader.reading l.initial.input).is_big l.encoding (map specification_of l.specifications) l.specification-index (map (attribute_of g.R.Reader.reading) l.attrs.items) (g.R.Reader.reading l.initial.input) (g.R.Reader.reading l.input);
  encoded : All (λ a. a.encoding ≡ l.encoding) l.attrs.items;
  in_order : All (λ a. IsInOrder (g.R.Reader.reading l.initial.input).is_big (attribute_order g.R.Reader.reading a)) l.attrs.items;
}
