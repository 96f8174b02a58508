use Rattle.std.proofs.Common.{arith}
use Rattle.dw_writer.proofs.Plain.{num-byte}
use Rattle.dw_writer.proofs.writer.Writer.write_u8_at.Goals as goal

pub returns-clause-ok : goal.returns-clause-ok
returns-clause-ok g c = rw (num-byte (g.Self.Writer.meaning c.args.self.now).is_big c.args.val (omega arith)) c.write_at.ensures.ok

pub returns-clause-partly : goal.returns-clause-partly
returns-clause-partly g c = rw (num-byte (g.Self.Writer.meaning c.args.self.now).is_big c.args.val (omega arith)) c.write_at.ensures.partly
