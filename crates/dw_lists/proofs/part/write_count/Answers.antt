use Rattle.dw_writer.proofs.Outcomes.{OnOk-map}
use Rattle.dw_lists.proofs.Causes.{OnOk-both}
use Rattle.dw_lists.proofs.Located.{counted_new, counted_old}
use Rattle.dw_lists.proofs.Versions.{five_is, not_five}
use Rattle.dw_lists.proofs.part.write_count.Goals as goal

pub returns-then-encoding-eq5-clause-ok : goal.returns-then-encoding-eq5-clause-ok
returns-then-encoding-eq5-clause-ok g c =
    OnOk-map c.write_uleb128.result c.write_uleb128.ensures.ok (λ p. counted_new c.args.encoding c.args.count (five_is c.args.encoding c.if-encoding-eq5.true) p)

pub returns-else-encoding-eq5-clause-ok : goal.returns-else-encoding-eq5-clause-ok
returns-else-encoding-eq5-clause-ok g c =
    OnOk-both c.write_udata.result c.write_udata.ensures.fits c.write_udata.ensures.ok (λ fits p. counted_old c.args.encoding c.args.count (not_five c.args.encoding c.if-encoding-eq5.false) fits p)

pub returns-then-encoding-eq5-clause-same : goal.returns-then-encoding-eq5-clause-same
returns-then-encoding-eq5-clause-same g c = c.write_uleb128.ensures.same

pub returns-else-encoding-eq5-clause-same : goal.returns-else-encoding-eq5-clause-same
returns-else-encoding-eq5-clause-same g c = c.write_udata.ensures.same
