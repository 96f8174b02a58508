use Rattle.std.proofs.Common.{◌∙◌, sym, ap, subst}
use Rattle.std.proofs.lemmas.Result.{err_from_is_err_and}
use Rattle.dw_writer.specs.Sections.{SomeHasRisen}
use Rattle.dw_tree.specs.Causes.{Because, Is}
use Rattle.dw_tree.specs.Elsewhere.{AppendsLine, AppendsRanges, elsewhere, ranges_fail_in, ranges_plain}
use Rattle.dw_unit.proofs.RangeSteps.{ranges_plain-is}
use Rattle.dw_unit.proofs.Settling.{rises_behind_line, ranges_are_part}
use Rattle.dw_unit.proofs.unit.Unit.write_parts.Goals as goal

pub returns-in_err-ranges-clause-err : goal.returns-in_err-ranges-clause-err
returns-in_err-ranges-clause-err g c =
    let m = g.W.Writer.meaning in
    let old = c.args.sections.now in
    let mid = c.write_line_program.new.sections in
    let new = c.write_ranges.new.sections in
    let u = c.args.self.now in
    let err = c.in_err-ranges.field-0.0 in
    let t = elsewhere m old c.args.line_strings.now c.args.strings.now in
    let others = c.in_ok-line_program.ensures.others in
    let p = err_from_is_err_and c.from_residual-in_err-ranges.result c.from_residual-in_err-ranges.ensures.1 in
    let line_strings = c.args.line_strings.now in
    let strings = c.args.strings.now in
    let plain = sym (ranges_plain-is m mid line_strings strings u) ∙ ap (λ s. ranges_plain (elsewhere m s line_strings strings) u) others in
    let refused = subst (λ b. Because (SomeHasRisen m mid new) (Is (ranges_fail_in b u)) err) plain c.in_err-ranges.ensures.err in
    rw (p.1, p.2)
    (ranges_are_part m old new u t err (rises_behind_line m old mid new others line_strings strings u c.in_ok-line_program.ensures.ok) refused)

pub returns-clause-lines : goal.returns-clause-lines
returns-clause-lines g c =
    let old = c.args.sections.now in
    subst (λ s. AppendsLine g.W.Writer.meaning old s c.args.line_strings.now c.args.strings.now c.args.self.now) (sym c.in_ok-ranges.ensures.others) c.in_ok-line_program.ensures.ok

pub returns-clause-ranges : goal.returns-clause-ranges
returns-clause-ranges g c =
    let new = c.write_ranges.new.sections in
    let added = subst (λ s. AppendsRanges g.W.Writer.meaning s new c.args.self.now) c.in_ok-line_program.ensures.others c.in_ok-ranges.ensures.ok in
    record { found = added.found; ranges = added.ranges; range_lists = added.range_lists }
