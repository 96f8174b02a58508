use Rattle.dw_entries.proofs.Named.{named_either}
use Rattle.dw_entries.proofs.attributes.Attributes.set.Goals as goal

pub invariant_of-self : goal.invariant_of-self
invariant_of-self c =
    named_either c.set_in.result c.args.name.0 c.args.value c.self.inside.items.items c.set_in.new.attributes.items c.requires c.self.invariant c.set_in.ensures.ok c.set_in.ensures.kept
