use Rattle.dw_entries.proofs.SettledAttributes.{distinct_either}
use Rattle.dw_entries.proofs.attributes.Attributes.settle.Goals as goal

pub invariant_of-self : goal.invariant_of-self
invariant_of-self c =
    distinct_either c.settle_in.result c.args.parts c.self.inside.items.items c.settle_in.new.attributes.items c.self.invariant c.settle_in.ensures.ok c.settle_in.ensures.kept
