use Rattle.std.proofs.Common.{take}
use Rattle.std.specs.Prelude.{IsFalse}
use Rattle.std.specs.List.{list_any}
use Rattle.dw_base.specs.Numbers.{word_of}
use Rattle.dw_base.specs.declared.error.Error.{Error}
use Rattle.dw_writer.specs.Meaning.{Appends}
use Rattle.dw_line.specs.Names.{name_size, name_text, name_fails}
use Rattle.dw_line.specs.Parts.{sizes, texts, KeepsFront}
use Rattle.dw_line.proofs.name.write_names.Given as goal

abbrev pub invariant-loop-name : goal.invariant-loop-name
invariant-loop-name g l = record {
  added : Appends (g.W.Writer.meaning l.initial.w) (g.W.Writer.meaning l.w) (sizes (name_size (word_of l.format)) (take l.name-index l.names)) (texts (name_text (word_of l.format) l.strings l.line_strings) (take l.name-index l.names));
  sound : (e : Error) → IsFalse (list_any (λ n. name_fails (word_of l.format) l.strings l.line_strings (g.W.Writer.meaning l.initial.w).is_plain n e) (take l.name-index l.names));
  front : KeepsFront (g.W.Writer.meaning l.initial.w) (g.W.Writer.meaning l.w);
}
