use Rattle.dw_arange_table.proofs.Again.{written_alone, written_again}
use Rattle.dw_arange_table.proofs.table.ArangeTable.write.Goals as goal

pub returns-clause-alone : goal.returns-clause-alone
returns-clause-alone g c =
    let text = rw c.as_slice.ensures.value at c.write_sets.ensures.text in
    rw (← c.self.view_is) (written_alone c.write_sets.result (g.W.Writer.meaning c.args.w.now) (g.W.Writer.meaning c.write_sets.new.w) c.self.inside.sets.items (g.met.W.Writer.plain_records_nothing c.write_sets.new.w) text)

pub returns-clause-again : goal.returns-clause-again
returns-clause-again g c =
    let text = rw c.as_slice.ensures.value at c.write_sets.ensures.text in
    let are = rw c.as_slice.ensures.value at c.write_sets.ensures.are in
    rw (← c.self.view_is) (written_again c.write_sets.result (g.W.Writer.meaning c.args.w.now) (g.W.Writer.meaning c.write_sets.new.w) c.self.inside.sets.items (g.met.W.Writer.plain_records_nothing c.write_sets.new.w) text are)
