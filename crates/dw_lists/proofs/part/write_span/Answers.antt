use Rattle.std.proofs.Common.{arith}
use Rattle.dw_writer.proofs.Outcomes.{OnOk-map}
use Rattle.dw_lists.proofs.Spans.{written-byte}
use Rattle.dw_lists.proofs.part.write_span.Goals as goal

pub returns-in-None-clause-ok : goal.returns-in-None-clause-ok
returns-in-None-clause-ok g c = rw c.in-None.is (OnOk-map c.write_u8.result c.write_u8.ensures.ok (λ p. written-byte 5 (omega arith) p))

pub returns-in-Some-clause-ok : goal.returns-in-Some-clause-ok
returns-in-Some-clause-ok g c = rw c.in-Some.is c.write_new.ensures.ok

pub returns-in-Some-clause-ranged : goal.returns-in-Some-clause-ranged
returns-in-Some-clause-ranged g c = rw c.in-Some.is c.write_new.ensures.ranged

pub returns-in-Some-clause-sound : goal.returns-in-Some-clause-sound
returns-in-Some-clause-sound g c = rw c.in-Some.is c.write_new.ensures.sound

pub returns-in-Some-clause-err : goal.returns-in-Some-clause-err
returns-in-Some-clause-err g c = rw c.in-Some.is c.write_new.ensures.err

pub returns-in-Some-clause-same : goal.returns-in-Some-clause-same
returns-in-Some-clause-same g c = c.write_new.ensures.same

pub returns-in-None-clause-same : goal.returns-in-None-clause-same
returns-in-None-clause-same g c = c.write_u8.ensures.same
