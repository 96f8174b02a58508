use Rattle.std.proofs.Common.{◌<◌, length, subst, arith}
use Rattle.std.proofs.lemmas.List.Elements.{All-more}
use Rattle.dw_base.specs.Spelling.{specification_bytes}
use Rattle.dw_base.specs.Spellable.{IsSpecification}
use Rattle.dw_writer.proofs.Outcomes.{OnErr-always}
use Rattle.dw_writer.proofs.Parts.{Adds-none}
use Rattle.dw_abbrev.proofs.Steps.{Adds-element, AddsSome-element}
use Rattle.dw_abbrev.proofs.abbreviation.write_attributes.Goals as goal

pub loop-attribute-init : goal.loop-attribute-init
loop-attribute-init g c = record { added = Adds-none (g.W.Writer.meaning c.args.w.now); sound = λ k d h. absurd (omega arith) }

pub returns-in_err-write-clause-partly : goal.returns-in_err-write-clause-partly
returns-in_err-write-clause-partly g c =
    let below : c.loop-attribute.attribute-index < length c.args.attributes.now = omega arith in
    OnErr-always c.from_residual.result
    (AddsSome-element specification_bytes c.args.attributes.now c.loop-attribute.attribute-index c.attribute-item.result below c.attribute-item.is
    c.loop-attribute.invariant.added c.in_err-write.ensures.partly)

pub loop-attribute-preserved : goal.loop-attribute-preserved
loop-attribute-preserved g c =
    let below : c.loop-attribute.attribute-index < length c.args.attributes.now = omega arith in
    record {
      added = Adds-element specification_bytes c.args.attributes.now c.loop-attribute.attribute-index c.attribute-item.result below c.attribute-item.is
          c.loop-attribute.invariant.added c.in_ok-write.ensures.ok;
      sound = All-more IsSpecification c.args.attributes.now c.loop-attribute.attribute-index c.attribute-item.result below c.loop-attribute.invariant.sound
          (subst IsSpecification c.attribute-item.is c.in_ok-write.ensures.sound);
    }
