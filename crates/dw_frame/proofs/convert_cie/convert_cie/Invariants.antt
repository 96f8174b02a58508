use Rattle.std.proofs.Common.{◌≡◌, List, length}
use Rattle.dw_read.specs.Reading.{left}
use Rattle.dw_frame.specs.ConvertEntries.{IsCieHead}
use Rattle.dw_frame.specs.ConvertPrograms.{Image, kept_ones}
use Rattle.dw_frame.specs.ConvertViews.{cie_terms}
use Rattle.dw_frame.proofs.ConvertSteps.{Stands}
use Rattle.dw_frame.proofs.convert_cie.convert_cie.Given as goal

abbrev pub invariant-instructions : goal.invariant-instructions
invariant-instructions g l = record {
  images : List Image;
  stands : Stands _ _ g.R.Reader.reading (goal.F-post g l.convert_address) (cie_terms g.R.Reader.reading l.read) (left (g.R.Reader.reading l.read.instructions)) l.instructions images;
  kept : l.cie.instructions.items ≡ kept_ones images;
  head : IsCieHead (goal.F-post g l.convert_address) l.read.fields l.cie;
}

abbrev pub decreases-instructions : goal.decreases-instructions
decreases-instructions g l = length (left (g.R.Reader.reading l.instructions.input))
