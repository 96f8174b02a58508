use Rattle.dw_writer.proofs.Outcomes.{OnOk-map, IfErr-map}
use Rattle.dw_writer.proofs.Steps.{Adds-then}
use Rattle.dw_tree.proofs.ValueRefusals.{BytesRefused-after}
use Rattle.dw_tree.proofs.value.write_block.Goals as goal

pub returns-clause-ok : goal.returns-clause-ok
returns-clause-ok g c =
    OnOk-map c.write.result c.write.ensures.ok (λ rest. Adds-then c.in_ok-write_uleb128.ensures.ok rest)

pub returns-clause-err : goal.returns-clause-err
returns-clause-err g c = IfErr-map c.write.result c.write.ensures.err (BytesRefused-after (g.W.Writer.meaning c.write.new.self) c.in_ok-write_uleb128.ensures.same)
