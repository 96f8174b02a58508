use Rattle.dw_read_frames.proofs.AugmentationLaws.{LettersSo}
use Rattle.dw_read_frames.proofs.augmentation.read_letters.Given as goal

abbrev pub invariant-loop-letter : goal.invariant-loop-letter
invariant-loop-letter g l = LettersSo l.size l.letters l.letter-index l.augmentation (g.R.Reader.reading l.initial.input) (g.R.Reader.reading l.input)
