use Rattle.dw_writer.proofs.Leb.{UlebPart}
use Rattle.dw_writer.proofs.leb128.uleb128_bytes.Given as goal

abbrev pub invariant-groups : goal.invariant-groups
invariant-groups l = UlebPart l.bytes l.len l.val l.rest

abbrev pub decreases-groups : goal.decreases-groups
decreases-groups l = l.rest
