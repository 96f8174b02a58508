use Rattle.std.proofs.Common.{length}
use Rattle.dw_base.specs.Abbreviations.{Declaration}
use Rattle.dw_read.specs.Reading.{left}
use Rattle.dw_read.specs.Declarations.{declaration_read}
use Rattle.dw_read.proofs.Chain.{Went}
use Rattle.dw_read.proofs.Items.{Collects}
use Rattle.dw_read.proofs.abbreviations.read_table.Given as goal

abbrev pub invariant-declarations : goal.invariant-declarations
invariant-declarations g l = record {
  went : Went (g.R.Reader.reading l.initial.input) (g.R.Reader.reading l.input);
  is : Collects Declaration declaration_read (left (g.R.Reader.reading l.initial.input)) l.table (left (g.R.Reader.reading l.input));
}

abbrev pub decreases-declarations : goal.decreases-declarations
decreases-declarations g l = length (left (g.R.Reader.reading l.input))
