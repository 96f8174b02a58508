use Rattle.std.specs.Prelude.{take}
use Rattle.std.specs.List.{flat_map}
use Rattle.dw_strings.specs.Strings.{closed}
use Rattle.dw_writer.specs.Meaning.{Adds}
use Rattle.dw_strings.proofs.string_list.write_strings.Given as goal

abbrev pub invariant-loop-string : goal.invariant-loop-string
invariant-loop-string g l = Adds (g.W.Writer.meaning l.initial.w) (g.W.Writer.meaning l.w) (flat_map closed (take l.string-index l.strings))
