use Rattle.dw_script_fields.specs.Kinds.{kind_of}
use Rattle.dw_script_fields.proofs.kind.Kind.read.Goals as goal

pub returns : goal.returns
unfolding kind_of
returns c = c.find_name.ensures
