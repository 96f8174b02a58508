use Rattle.dw_script_fields.specs.Codes.{opcode_of}
use Rattle.dw_script_fields.proofs.code.parse_opcode.Goals as goal

pub returns : goal.returns
unfolding opcode_of
returns c = c.parse_byte_code.ensures
