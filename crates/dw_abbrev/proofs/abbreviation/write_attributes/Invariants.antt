use Rattle.std.specs.Prelude.{All, take}
use Rattle.std.specs.List.{flat_map}
use Rattle.dw_base.specs.Spelling.{specification_bytes}
use Rattle.dw_base.specs.Spellable.{IsSpecification}
use Rattle.dw_writer.specs.Meaning.{Adds}
use Rattle.dw_abbrev.proofs.abbreviation.write_attributes.Given as goal

abbrev pub invariant-loop-attribute : goal.invariant-loop-attribute
invariant-loop-attribute g l = record {
  added : Adds (g.W.Writer.meaning l.initial.w) (g.W.Writer.meaning l.w) (flat_map specification_bytes (take l.attribute-index l.attributes));
  sound : All IsSpecification (take l.attribute-index l.attributes);
}
