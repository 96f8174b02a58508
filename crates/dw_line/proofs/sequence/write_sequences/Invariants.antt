use Rattle.std.proofs.Common.{take, All}
use Rattle.std.specs.Prelude.{IsFalse}
use Rattle.std.specs.List.{list_any}
use Rattle.dw_base.specs.declared.error.Error.{Error}
use Rattle.dw_writer.specs.Meaning.{Appends}
use Rattle.dw_line.specs.Programs.{ended_size, ended_text, ended_fails, IsEndedAfter}
use Rattle.dw_line.specs.Parts.{sizes, texts, KeepsFront}
use Rattle.dw_line.proofs.sequence.write_sequences.Given as goal

abbrev pub invariant-loop-sequence : goal.invariant-loop-sequence
invariant-loop-sequence g l = record {
  added : Appends (g.W.Writer.meaning l.initial.w) (g.W.Writer.meaning l.w) (sizes (ended_size l.encoding l.line_encoding) (take l.sequence-index l.sequences)) (texts (ended_text l.encoding l.line_encoding) (take l.sequence-index l.sequences));
  sound : (e : Error) → IsFalse (list_any (λ s. ended_fails (g.W.Writer.meaning l.initial.w).is_plain l.encoding l.line_encoding s e) (take l.sequence-index l.sequences));
  after : All (IsEndedAfter (g.W.Writer.meaning l.initial.w).is_big l.encoding l.line_encoding) (take l.sequence-index l.sequences);
  front : KeepsFront (g.W.Writer.meaning l.initial.w) (g.W.Writer.meaning l.w);
}
