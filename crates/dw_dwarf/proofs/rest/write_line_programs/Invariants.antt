use Rattle.std.proofs.Common.{take}
use Rattle.dw_writer.specs.Meaning.{IsTidy, Appends}
use Rattle.dw_line.specs.LinePrograms.{line_program_size, line_program_text}
use Rattle.dw_line.specs.Parts.{NoCause, KeepsFront, sizes, texts}
use Rattle.dw_dwarf.specs.Valid.{programs_fail}
use Rattle.dw_dwarf.proofs.rest.write_line_programs.Given as goal

abbrev pub invariant-loop-program : goal.invariant-loop-program
invariant-loop-program g l = record {
  added : Appends (g.W.Writer.meaning l.initial.w.0) (g.W.Writer.meaning l.w.0) (sizes line_program_size (take l.program-index l.programs)) (texts (line_program_text l.strings l.line_strings) (take l.program-index l.programs));
  sound : NoCause (programs_fail l.line_strings l.strings (g.W.Writer.meaning l.initial.w.0).is_plain (take l.program-index l.programs));
  front : IsTidy (g.W.Writer.meaning l.initial.w.0) → KeepsFront (g.W.Writer.meaning l.initial.w.0) (g.W.Writer.meaning l.w.0);
}
