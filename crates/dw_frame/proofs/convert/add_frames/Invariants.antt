use Rattle.std.proofs.Common.{◌≡◌, List, [], length}
use Rattle.dw_read.specs.Reading.{left}
use Rattle.dw_frame.specs.contracts.cie.CommonInformationEntryPartialEq.TheImpl as cie
use Rattle.dw_frame.specs.ConvertSections.{source}
use Rattle.dw_frame.specs.ConvertTables.{Pair, cies_of, fdes_of}
use Rattle.dw_frame.proofs.ConvertTableSteps.{Stands}
use Rattle.dw_frame.proofs.convert.add_frames.Given as goal

abbrev pub invariant-entries : goal.invariant-entries
invariant-entries g l = record {
  pairs : List Pair;
  stands : Stands (goal.F-post g l.convert_address) (source (g.R.Reader.reading (g.S.UnwindSection.reader l.frame)) g.S.UnwindSection.is_eh (g.S.UnwindSection.size l.frame)) _ _ g.R.Reader.reading l.entries pairs;
  cies : l.table.cies.keys ≡ cies_of cie.ghosts.eq [] pairs;
  fdes : l.table.fdes.items ≡ fdes_of cie.ghosts.eq [] pairs;
}

abbrev pub decreases-entries : goal.decreases-entries
decreases-entries g l = length (left (g.R.Reader.reading l.entries.input))
