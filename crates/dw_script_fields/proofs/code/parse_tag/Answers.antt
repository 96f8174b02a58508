use Rattle.dw_script_fields.specs.Codes.{tag_of}
use Rattle.dw_script_fields.proofs.code.parse_tag.Goals as goal

pub returns : goal.returns
unfolding tag_of
returns c = c.parse_code.ensures
