use Rattle.dw_writer.proofs.Leb.{SlebPart}
use Rattle.dw_writer.proofs.leb128.sleb128_bytes.Given as goal

abbrev pub invariant-groups : goal.invariant-groups
invariant-groups l = SlebPart l.bytes l.len l.val l.is_negative l.rest

abbrev pub decreases-groups : goal.decreases-groups
decreases-groups l = l.rest
