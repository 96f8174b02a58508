use Rattle.std.specs.Prelude.{All, take}
use Rattle.std.specs.List.{flat_map}
use Rattle.dw_base.specs.Spelling.{declaration_bytes}
use Rattle.dw_writer.specs.Meaning.{Adds}
use Rattle.dw_abbrev.specs.Codes.{declarations, IsShape}
use Rattle.dw_abbrev.proofs.table.write_declarations.Given as goal

abbrev pub invariant-loop-index : goal.invariant-loop-index
invariant-loop-index g l = record {
  added : Adds (g.W.Writer.meaning l.initial.w) (g.W.Writer.meaning l.w) (flat_map declaration_bytes (take l.index (declarations l.abbreviations)));
  sound : All IsShape (take l.index l.abbreviations);
}
