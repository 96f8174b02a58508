use Rattle.std.proofs.Common.{◌≡◌, take, drop}
use Rattle.dw_base.specs.declared.error.Error.{Error}
use Rattle.dw_lists.specs.Pieces.{words_draft, IsWritten}
use Rattle.dw_lists.specs.Causes.{words_fail}
use Rattle.dw_lists.proofs.offset_table.write_words.Given as goal

abbrev pub invariant-loop-word : goal.invariant-loop-word
invariant-loop-word g l = record {
  written : IsWritten (g.W.Writer.meaning l.initial.w) (g.W.Writer.meaning l.w) (words_draft l.format (take l.word-index l.words));
  none : (e : Error) → words_fail l.format l.words e ≡ words_fail l.format (drop l.word-index l.words) e;
}
