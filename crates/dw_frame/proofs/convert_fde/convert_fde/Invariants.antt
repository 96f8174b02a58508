use Rattle.std.proofs.Common.{◌≡◌, ◌<◌, ◌^◌, List, length}
use Rattle.dw_read.specs.Reading.{left}
use Rattle.dw_frame.specs.ConvertEntries.{IsFdeHead}
use Rattle.dw_frame.specs.ConvertPrograms.{Image, behind, kept_steps}
use Rattle.dw_frame.specs.ConvertViews.{fde_terms}
use Rattle.dw_frame.proofs.ConvertSteps.{Stands}
use Rattle.dw_frame.proofs.convert_fde.convert_fde.Given as goal

abbrev pub invariant-instructions : goal.invariant-instructions
invariant-instructions g l = record {
  images : List Image;
  stands : Stands _ _ g.R.Reader.reading (goal.F-post g l.convert_address) (fde_terms g.R.Reader.reading l.read) (left (g.R.Reader.reading l.read.instructions)) l.instructions images;
  offset : l.offset ≡ behind l.read.cie.fields.code_alignment_factor 0 images;
  fits : l.offset < 2 ^ 32;
  kept : l.fde.steps.items ≡ kept_steps l.read.cie.fields.code_alignment_factor 0 images;
  head : IsFdeHead (goal.F-post g l.convert_address) l.read.fields l.fde;
}

abbrev pub decreases-instructions : goal.decreases-instructions
decreases-instructions g l = length (left (g.R.Reader.reading l.instructions.input))
