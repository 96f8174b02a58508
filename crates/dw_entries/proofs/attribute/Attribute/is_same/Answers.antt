use Rattle.dw_entries.specs.Equality.{attribute_decides}
use Rattle.dw_entries.proofs.attribute.Attribute.is_same.Goals as goal

pub returns : goal.returns
returns c = rw c.eq.ensures (attribute_decides c.args.self.now c.args.other.now)
