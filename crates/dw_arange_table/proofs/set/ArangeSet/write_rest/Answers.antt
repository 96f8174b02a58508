use Rattle.std.proofs.lemmas.Result.{err_from_is_err_and}
use Rattle.dw_writer.proofs.Outcomes.{OnOk-map, IfErr-map}
use Rattle.dw_writer.proofs.Steps.{IsSameWriter-trans}
use Rattle.dw_arange_table.proofs.WriteSteps.{refused_later, rest_written}
use Rattle.dw_arange_table.proofs.set.ArangeSet.write_rest.Goals as goal

pub returns-clause-ok : goal.returns-clause-ok
returns-clause-ok g c =
    let ranges = rw c.as_slice.ensures.value at c.in_ok-write_ranges.ensures.ok in
    let padding = rw (c.zeros.ensures, c.padding-padding.ensures.is) at c.in_ok-write-2.ensures.ok in
    let last = rw c.zeros-2.ensures at c.write-3.ensures.ok in
    rw (← c.self.view_is)
    (OnOk-map c.write-3.result last (λ pair. rest_written _ c.in_ok-write.ensures.ok padding ranges pair))

pub returns-in_err-write-2-clause-err : goal.returns-in_err-write-2-clause-err
returns-in_err-write-2-clause-err g c =
    let p = err_from_is_err_and c.from_residual-in_err-write-2.result c.from_residual-in_err-write-2.ensures.1 in
    rw (p.1, p.2) (refused_later (g.W.Writer.meaning c.args.w.now) (g.W.Writer.meaning c.write.new.self) (g.W.Writer.meaning c.write-2.new.self) c.in_ok-write.ensures.ok.same _ c.in_err-write-2.ensures.err)

pub returns-in_err-write_ranges-clause-err : goal.returns-in_err-write_ranges-clause-err
returns-in_err-write_ranges-clause-err g c =
    let same = IsSameWriter-trans c.in_ok-write.ensures.ok.same c.in_ok-write-2.ensures.ok.same in
    let p = err_from_is_err_and c.from_residual-in_err-write_ranges.result c.from_residual-in_err-write_ranges.ensures.1 in
    rw (p.1, p.2) (refused_later (g.W.Writer.meaning c.args.w.now) (g.W.Writer.meaning c.write-2.new.self) (g.W.Writer.meaning c.write_ranges.new.w) same _ c.in_err-write_ranges.ensures.err)

pub returns-clause-err : goal.returns-clause-err
returns-clause-err g c =
    let same = IsSameWriter-trans c.in_ok-write.ensures.ok.same (IsSameWriter-trans c.in_ok-write-2.ensures.ok.same c.in_ok-write_ranges.ensures.ok.same) in
    IfErr-map c.write-3.result c.write-3.ensures.err (refused_later (g.W.Writer.meaning c.args.w.now) (g.W.Writer.meaning c.write_ranges.new.w) (g.W.Writer.meaning c.write-3.new.self) same)
