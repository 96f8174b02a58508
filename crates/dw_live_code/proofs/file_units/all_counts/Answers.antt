use Rattle.std.proofs.Common.{◌∙◌, ap, arith}
use Rattle.dw_filter.specs.FileGraph.{count_at}
use Rattle.dw_live_code.specs.FileUnits.{most_entries}
use Rattle.dw_live_code.proofs.FewRows.{counted}
use Rattle.dw_live_code.proofs.file_units.all_counts.Goals as goal

pub returns-clause-ok : goal.returns-clause-ok
returns-clause-ok g c = λ i l.
    ap (λ xs. count_at xs i) c.loop.invariant ∙ counted c.loop.counter most_entries i (omega (arith, l, c.loop-test.false))
