use Rattle.dw_entries.proofs.Replaced.{length-with_value_at}
use Rattle.dw_entries.proofs.attributes.Attributes.set_value_at.Goals as goal

pub returns-clause-len : goal.returns-clause-len
returns-clause-len c = length-with_value_at c.args.at c.args.value c.args.self.now
