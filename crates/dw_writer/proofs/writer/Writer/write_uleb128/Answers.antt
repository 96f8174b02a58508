use Rattle.dw_writer.proofs.Leb.{uleb-small}
use Rattle.dw_writer.proofs.writer.Writer.write_uleb128.Goals as goal

pub returns-then-val-lt128-clause-ok : goal.returns-then-val-lt128-clause-ok
returns-then-val-lt128-clause-ok g c = rw (uleb-small c.args.val c.if-val-lt128.true) c.write.ensures.ok

pub returns-then-val-lt128-clause-partly : goal.returns-then-val-lt128-clause-partly
returns-then-val-lt128-clause-partly g c = rw (uleb-small c.args.val c.if-val-lt128.true) c.write.ensures.partly
