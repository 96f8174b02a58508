use Rattle.std.proofs.Common.{sym, ap, subst, Some}
use Rattle.std.proofs.lemmas.Result.{err_from_is_err_and}
use Rattle.dw_tree.specs.Pending.{ExtendsPending}
use Rattle.dw_tree.specs.Elsewhere.{elsewhere, unit_tables}
use Rattle.dw_tree.specs.Whole.{settled}
use Rattle.dw_unit.proofs.Complete.{unit_complete}
use Rattle.dw_unit.specs.WrittenUnits.{ExtendsFile}
use Rattle.dw_unit.proofs.FileSteps.{file_more}
use Rattle.dw_unit.proofs.PendingSteps.{pending_more}
use Rattle.dw_unit.proofs.unit.Unit.write.Goals as goal

pub returns-clause-pending : goal.returns-clause-pending
returns-clause-pending g c =
    let meaning = g.W.Writer.meaning in
    let old = c.args.sections.now in
    let new = c.write_open.new.sections in
    let u = settled c.args.self.now in
    subst (ExtendsPending meaning old new u (unit_tables (elsewhere g.W.Writer.meaning c.args.sections.now c.args.line_strings.now c.args.strings.now) c.args.self.now)) (sym (ap (λ v. v.offsets) c.mark_written.ensures))
    (pending_more meaning u (unit_tables (elsewhere g.W.Writer.meaning c.args.sections.now c.args.line_strings.now c.args.strings.now) c.args.self.now) old new (Some c.in_ok-offsets.offsets) c.in_ok-offsets.ensures.unit)

pub returns-clause-file : goal.returns-clause-file
returns-clause-file g c =
    let meaning = g.W.Writer.meaning in
    let old = c.args.sections.now in
    let new = c.write_open.new.sections in
    let u = c.args.self.now in
    let p = c.in_ok-offsets.ensures in
    subst (ExtendsFile meaning old new c.args.line_strings.now c.args.strings.now u) (sym (ap (λ v. v.offsets) c.mark_written.ensures))
    (file_more meaning old new c.args.line_strings.now c.args.strings.now u (Some c.in_ok-offsets.offsets) (meaning old.debug_info.0).is_plain p.unit p.lines p.ranges p.writable.0 p.others)

pub returns-in_err-offsets-clause-complete : goal.returns-in_err-offsets-clause-complete
returns-in_err-offsets-clause-complete g c = λ can calm.
    let p = err_from_is_err_and c.from_residual.result c.from_residual.ensures.1 in
    rw (p.1, p.2) (unit_complete g.W.Writer.meaning c.args.sections.now c.write_open.new.sections (elsewhere g.W.Writer.meaning c.args.sections.now c.args.line_strings.now c.args.strings.now) c.args.self.now can calm c.in_err-offsets.field-0.0 c.in_err-offsets.ensures.err)
