use Rattle.std.proofs.Common.{map, List}
use Rattle.dw_base.specs.Entries.{ReadAttribute}
use Rattle.dw_read.specs.Specifications.{specification_of}
use Rattle.dw_read.proofs.AttributeLaws.{ReadsSo}
use Rattle.dw_read.proofs.attributes.pass_attributes.Given as goal

abbrev pub invariant-loop-specification : goal.invariant-loop-specification
invariant-loop-specification g l =
    (front : List ReadAttribute) × ReadsSo (g.R.Reader.reading l.initial.input).is_big l.encoding (map specification_of l.specifications) l.specification-index front (g.R.Reader.reading l.initial.input) (g.R.Reader.reading l.input)
