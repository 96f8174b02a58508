use Rattle.std.proofs.lemmas.Bool.{le-leb, lt-leb}
use Rattle.dw_line.proofs.header.write_tables.Goals as goal

pub returns-then-encoding-le4-clause-ok : goal.returns-then-encoding-le4-clause-ok
returns-then-encoding-le4-clause-ok g c = rw (le-leb c.args.encoding.version 4 c.if-encoding-le4.true) c.write_old_tables.ensures.ok

pub returns-then-encoding-le4-clause-sound : goal.returns-then-encoding-le4-clause-sound
returns-then-encoding-le4-clause-sound g c = rw (le-leb c.args.encoding.version 4 c.if-encoding-le4.true) c.write_old_tables.ensures.sound

pub returns-then-encoding-le4-clause-err : goal.returns-then-encoding-le4-clause-err
returns-then-encoding-le4-clause-err g c = rw (le-leb c.args.encoding.version 4 c.if-encoding-le4.true) c.write_old_tables.ensures.err

pub returns-then-encoding-le4-clause-same : goal.returns-then-encoding-le4-clause-same
returns-then-encoding-le4-clause-same g c = c.write_old_tables.ensures.same

pub returns-then-encoding-le4-clause-front : goal.returns-then-encoding-le4-clause-front
returns-then-encoding-le4-clause-front g c = c.write_old_tables.ensures.front

pub returns-else-encoding-le4-clause-ok : goal.returns-else-encoding-le4-clause-ok
returns-else-encoding-le4-clause-ok g c = rw (lt-leb c.args.encoding.version 4 c.if-encoding-le4.false) c.write_new_tables.ensures.ok

pub returns-else-encoding-le4-clause-sound : goal.returns-else-encoding-le4-clause-sound
returns-else-encoding-le4-clause-sound g c = rw (lt-leb c.args.encoding.version 4 c.if-encoding-le4.false) c.write_new_tables.ensures.sound

pub returns-else-encoding-le4-clause-err : goal.returns-else-encoding-le4-clause-err
returns-else-encoding-le4-clause-err g c = rw (lt-leb c.args.encoding.version 4 c.if-encoding-le4.false) c.write_new_tables.ensures.err

pub returns-else-encoding-le4-clause-same : goal.returns-else-encoding-le4-clause-same
returns-else-encoding-le4-clause-same g c = c.write_new_tables.ensures.same

pub returns-else-encoding-le4-clause-front : goal.returns-else-encoding-le4-clause-front
returns-else-encoding-le4-clause-front g c = c.write_new_tables.ensures.front
