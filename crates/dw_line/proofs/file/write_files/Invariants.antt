use Rattle.std.proofs.Common.{take}
use Rattle.std.specs.Prelude.{IsFalse}
use Rattle.std.specs.List.{list_any}
use Rattle.dw_base.specs.Numbers.{word_of}
use Rattle.dw_base.specs.declared.error.Error.{Error}
use Rattle.dw_writer.specs.Meaning.{Appends}
use Rattle.dw_line.specs.Files.{file_size, file_text, file_fails}
use Rattle.dw_line.specs.Parts.{sizes, texts, KeepsFront}
use Rattle.dw_line.proofs.file.write_files.Given as goal

abbrev pub invariant-loop-file : goal.invariant-loop-file
invariant-loop-file g l = record {
  added : Appends (g.W.Writer.meaning l.initial.w) (g.W.Writer.meaning l.w) (sizes (file_size (word_of l.format) l.columns) (take l.file-index l.files)) (texts (file_text (word_of l.format) l.strings l.line_strings l.columns) (take l.file-index l.files));
  sound : (e : Error) → IsFalse (list_any (λ n. file_fails (word_of l.format) l.strings l.line_strings (g.W.Writer.meaning l.initial.w).is_plain l.columns n e) (take l.file-index l.files));
  front : KeepsFront (g.W.Writer.meaning l.initial.w) (g.W.Writer.meaning l.w);
}
