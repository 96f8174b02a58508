use Rattle.std.proofs.Common.{arith, add-one}
use Rattle.dw_read.proofs.Groups.{text_none, text_found}
use Rattle.dw_read.proofs.text.first_zero.Goals as goal

pub returns-clause-none : goal.returns-clause-none
returns-clause-none c = text_none c.args.bytes.now (λ k h. c.loop-i.invariant k (omega arith))

pub returns-then-byte-eq0-clause-found : goal.returns-then-byte-eq0-clause-found
returns-then-byte-eq0-clause-found c = rw add-one (text_found c.loop-i.i c.args.bytes.now (omega arith) c.if-byte-eq0.true c.loop-i.invariant)
