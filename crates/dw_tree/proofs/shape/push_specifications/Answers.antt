use Rattle.std.proofs.Common.{◌<◌, sym, subst}
use Rattle.dw_entries.specs.declared.attribute.Attribute.{Attribute}
use Rattle.dw_tree.proofs.Marks.{named_at}
use Rattle.dw_tree.proofs.shape.push_specifications.Goals as goal

pub specification-requires : goal.specification-requires
specification-requires c =
    let here = named_at c.args.attributes.now c.loop-attribute.attribute-index c.attribute-item.result c.requires c.loop-attribute-test.true in
    subst (λ (a : Attribute). 1 < a.name.0) (sym c.attribute-item.is) here
