use Rattle.std.proofs.Common.{rules}
use Rattle.hex.specs.Hex.{decode_pairs}
use Rattle.dw_ends.proofs.hex_bytes.HexBytes.empty.Goals as goal

pub invariant_of-result : goal.invariant_of-result
unfolding decode_pairs
invariant_of-result c = search rules

pub returns : goal.returns
unfolding decode_pairs
returns c = search rules
