use Rattle.std.proofs.Common.{◌∙◌, sym, subst}
use Rattle.std.proofs.lemmas.Result.{err_from_is_err_and}
use Rattle.dw_line.specs.LinePrograms.{line_program_fails}
use Rattle.dw_line.specs.Parts.{Refused as LinesRefused}
use Rattle.dw_tree.specs.Elsewhere.{elsewhere}
use Rattle.dw_tree.specs.UnitValue.{UnitValue}
use Rattle.dw_unit.proofs.LineSteps.{line_unused, line_because}
use Rattle.dw_unit.proofs.unit.Unit.write_line_program.Goals as goal

pub returns-then-not-line_program_in_use-clause-ok : goal.returns-then-not-line_program_in_use-clause-ok
returns-then-not-line_program_in_use-clause-ok g c =
    line_unused c.args.line_strings.now c.args.strings.now g.W.Writer.meaning c.args.sections.now c.args.self.now (sym c.line_program_in_use.ensures ∙ c.if-not-line_program_in_use.true)

pub returns-in_err-place-clause-err : goal.returns-in_err-place-clause-err
returns-in_err-place-clause-err g c =
    let meaning = g.W.Writer.meaning in
    let old = c.args.sections.now in
    let new = record old { debug_line = c.write.new.w } in
    let m = meaning old.debug_line.0 in
    let err = c.in_err-place.field-0.0 in
    let p = err_from_is_err_and c.from_residual.result c.from_residual.ensures.1 in
    let refused = subst (λ (u : UnitValue). LinesRefused m (meaning new.debug_line.0) (line_program_fails c.args.strings.now c.args.line_strings.now m.is_plain u.encoding u.line_program) err) c.self.view_is c.in_err-place.ensures.err in
    rw (p.1, p.2)
    (line_because meaning old new c.args.self.now (elsewhere meaning old c.args.line_strings.now c.args.strings.now) err (sym c.line_program_in_use.ensures ∙ c.if-not-line_program_in_use.false) refused)
