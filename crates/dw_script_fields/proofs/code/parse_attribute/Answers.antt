use Rattle.dw_script_fields.specs.Codes.{attribute_of}
use Rattle.dw_script_fields.proofs.code.parse_attribute.Goals as goal

pub returns : goal.returns
unfolding attribute_of
returns c = c.parse_code.ensures
