use Rattle.std.proofs.Common.{◌≡◌, ◌∙◌, sym, ap, subst, true, false, IsFalse}
use Rattle.std.proofs.lemmas.Result.{err_from_is_err_and}
use Rattle.dw_base.specs.declared.error.Error.{Error}
use Rattle.dw_base.specs.declared.error.Error.TheVariants as errors
use Rattle.dw_line.specs.LinePrograms.{optional_fails}
use Rattle.dw_line.specs.ProgramTexts.{program_fails}
use Rattle.dw_line.proofs.PartSteps.{valid_refused}
use Rattle.dw_line.proofs.FrontSteps.{Front-none}
use Rattle.dw_line.proofs.line_program.LineProgram.write.Goals as goal

pub returns-in_err-write-in-Some-clause-complete : goal.returns-in_err-write-in-Some-clause-complete
returns-in_err-write-in-Some-clause-complete g c = λ valid.
    let ss = c.args.strings.now in
    let ls = c.args.line_strings.now in
    let plain = (g.W.Writer.meaning c.args.w.now.0).is_plain in
    let there = ap (λ v. v.program) (sym c.self.view_is) ∙ c.in-Some.is in
    let own : (e : Error) → IsFalse (program_fails ss ls plain c.args.encoding c.in-Some.program e) = λ e. subst (λ q. IsFalse (optional_fails ss ls plain c.args.encoding q e)) there (valid e) in
    let p = err_from_is_err_and c.from_residual.result c.from_residual.ensures.1 in
    rw (p.1, p.2) (valid_refused (g.W.Writer.meaning c.args.w.now.0) (g.W.Writer.meaning c.write.new.w) (program_fails ss ls plain c.args.encoding c.in-Some.program) own c.in_err-write-in-Some.field-0.0 c.in_err-write-in-Some.ensures.err)

pub returns-in-None-clause-complete : goal.returns-in-None-clause-complete
returns-in-None-clause-complete g c = λ valid.
    let ss = c.args.strings.now in
    let ls = c.args.line_strings.now in
    let plain = (g.W.Writer.meaning c.args.w.now.0).is_plain in
    let none = ap (λ v. v.program) (sym c.self.view_is) ∙ c.in-None.is in
    let never : true ≡ false = subst (λ q. IsFalse (optional_fails ss ls plain c.args.encoding q errors.IncompatibleLineProgramEncoding)) none (valid errors.IncompatibleLineProgramEncoding) in
    cc

pub returns-in_err-write-in-Some-clause-front : goal.returns-in_err-write-in-Some-clause-front
returns-in_err-write-in-Some-clause-front g c = c.in_err-write-in-Some.ensures.front

pub returns-in_ok-write-in-Some-clause-front : goal.returns-in_ok-write-in-Some-clause-front
returns-in_ok-write-in-Some-clause-front g c = c.in_ok-write-in-Some.ensures.front

pub returns-in-None-clause-front : goal.returns-in-None-clause-front
returns-in-None-clause-front g c = λ tidy. Front-none _

pub returns-in_ok-write-in-Some-clause-ok : goal.returns-in_ok-write-in-Some-clause-ok
returns-in_ok-write-in-Some-clause-ok g c =
    let there = ap (λ v. v.program) (sym c.self.view_is) ∙ c.in-Some.is in
    rw there c.in_ok-write-in-Some.ensures.ok

pub returns-in_ok-write-in-Some-clause-rows : goal.returns-in_ok-write-in-Some-clause-rows
returns-in_ok-write-in-Some-clause-rows g c =
    let there = ap (λ v. v.program) (sym c.self.view_is) ∙ c.in-Some.is in
    rw there c.in_ok-write-in-Some.ensures.rows

pub returns-in_ok-write-in-Some-clause-tables : goal.returns-in_ok-write-in-Some-clause-tables
returns-in_ok-write-in-Some-clause-tables g c =
    let there = ap (λ v. v.program) (sym c.self.view_is) ∙ c.in-Some.is in
    rw there c.in_ok-write-in-Some.ensures.tables

pub returns-in_ok-write-in-Some-clause-sound : goal.returns-in_ok-write-in-Some-clause-sound
returns-in_ok-write-in-Some-clause-sound g c =
    let there = ap (λ v. v.program) (sym c.self.view_is) ∙ c.in-Some.is in
    rw there c.in_ok-write-in-Some.ensures.sound

pub returns-in_err-write-in-Some-clause-err : goal.returns-in_err-write-in-Some-clause-err
returns-in_err-write-in-Some-clause-err g c =
    let there = ap (λ v. v.program) (sym c.self.view_is) ∙ c.in-Some.is in
    let p = err_from_is_err_and c.from_residual.result c.from_residual.ensures.1 in
    rw (p.1, p.2, there) c.in_err-write-in-Some.ensures.err

pub returns-in_err-write-in-Some-clause-ok : goal.returns-in_err-write-in-Some-clause-ok
returns-in_err-write-in-Some-clause-ok g c = rw (err_from_is_err_and c.from_residual.result c.from_residual.ensures.1).1 tt

pub returns-in_err-write-in-Some-clause-place : goal.returns-in_err-write-in-Some-clause-place
returns-in_err-write-in-Some-clause-place g c = rw (err_from_is_err_and c.from_residual.result c.from_residual.ensures.1).1 tt

pub returns-in_err-write-in-Some-clause-rows : goal.returns-in_err-write-in-Some-clause-rows
returns-in_err-write-in-Some-clause-rows g c = rw (err_from_is_err_and c.from_residual.result c.from_residual.ensures.1).1 tt

pub returns-in_err-write-in-Some-clause-tables : goal.returns-in_err-write-in-Some-clause-tables
returns-in_err-write-in-Some-clause-tables g c = rw (err_from_is_err_and c.from_residual.result c.from_residual.ensures.1).1 tt

pub returns-in_err-write-in-Some-clause-sound : goal.returns-in_err-write-in-Some-clause-sound
returns-in_err-write-in-Some-clause-sound g c = rw (err_from_is_err_and c.from_residual.result c.from_residual.ensures.1).1 tt

pub returns-in_ok-write-in-Some-clause-err : goal.returns-in_ok-write-in-Some-clause-err
returns-in_ok-write-in-Some-clause-err g c = tt

pub returns-in-None-clause-ok : goal.returns-in-None-clause-ok
returns-in-None-clause-ok g c = tt

pub returns-in-None-clause-place : goal.returns-in-None-clause-place
returns-in-None-clause-place g c = tt

pub returns-in-None-clause-rows : goal.returns-in-None-clause-rows
returns-in-None-clause-rows g c = tt

pub returns-in-None-clause-tables : goal.returns-in-None-clause-tables
returns-in-None-clause-tables g c = tt

pub returns-in-None-clause-sound : goal.returns-in-None-clause-sound
returns-in-None-clause-sound g c = tt
