use Rattle.std.proofs.Common.{length, map}
use Rattle.dw_base.specs.Abbreviations.{Specification}
use Rattle.dw_read.specs.Reading.{left}
use Rattle.dw_read.specs.Specifications.{specification_of}
use Rattle.dw_read.specs.Declarations.{specification_read}
use Rattle.dw_read.proofs.Chain.{Went}
use Rattle.dw_read.proofs.Items.{Collects}
use Rattle.dw_read.proofs.declaration.read_specifications.Given as goal

abbrev pub invariant-attributes : goal.invariant-attributes
invariant-attributes g l = record {
  went : Went (g.R.Reader.reading l.initial.input) (g.R.Reader.reading l.input);
  is : Collects Specification (λ before. specification_read) (left (g.R.Reader.reading l.initial.input)) (map specification_of l.specifications.items) (left (g.R.Reader.reading l.input));
}

abbrev pub decreases-attributes : goal.decreases-attributes
decreases-attributes g l = length (left (g.R.Reader.reading l.input))
