use Rattle.std.proofs.Common.{sym, ap, subst, refl, inr, Some}
use Rattle.std.proofs.lemmas.Result.{err_from_is_err_and}
use Rattle.dw_unit.specs.Alone.{AppendsAlone}
use Rattle.dw_tree.specs.Elsewhere.{elsewhere, unit_tables}
use Rattle.dw_tree.specs.Whole.{settled}
use Rattle.dw_unit.proofs.Alone.{alone_is, alone_refers, alone_appends, alone_refused}
use Rattle.dw_unit.proofs.unit.Unit.write_alone.Goals as goal

pub returns-then-has_fixups-clause-err : goal.returns-then-has_fixups-clause-err
returns-then-has_fixups-clause-err g c =
    inr (refl, alone_refers g.W.Writer.meaning c.args.sections.now c.write_open.new.sections c.args.self.now (unit_tables (elsewhere g.W.Writer.meaning c.args.sections.now c.args.line_strings.now c.args.strings.now) c.args.self.now) (Some c.in_ok-offsets.offsets) c.requires.none_open c.in_ok-offsets.ensures.unit (c.has_fixups.ensures.open c.if-has_fixups.true))

pub returns-clause-closed : goal.returns-clause-closed
returns-clause-closed g c = c.has_fixups.ensures.closed c.if-has_fixups.false

pub returns-clause-alone : goal.returns-clause-alone
returns-clause-alone g c =
    alone_is g.W.Writer.meaning c.args.sections.now c.write_open.new.sections c.args.self.now (unit_tables (elsewhere g.W.Writer.meaning c.args.sections.now c.args.line_strings.now c.args.strings.now) c.args.self.now) (Some c.in_ok-offsets.offsets) c.requires.none_open c.in_ok-offsets.ensures.unit (c.has_fixups.ensures.closed c.if-has_fixups.false)

pub returns-clause-appends : goal.returns-clause-appends
returns-clause-appends g c =
    let meaning = g.W.Writer.meaning in
    let old = c.args.sections.now in
    let new = c.write_open.new.sections in
    let u = c.args.self.now in
    subst (AppendsAlone meaning old new (settled u) (unit_tables (elsewhere g.W.Writer.meaning c.args.sections.now c.args.line_strings.now c.args.strings.now) c.args.self.now)) (sym (ap (λ v. v.offsets) c.mark_written.ensures))
    (alone_appends meaning old new u (unit_tables (elsewhere g.W.Writer.meaning c.args.sections.now c.args.line_strings.now c.args.strings.now) c.args.self.now) (Some c.in_ok-offsets.offsets) c.requires.none_open c.in_ok-offsets.ensures.unit (c.has_fixups.ensures.closed c.if-has_fixups.false))

pub returns-in_err-offsets-clause-err : goal.returns-in_err-offsets-clause-err
returns-in_err-offsets-clause-err g c =
    let p = err_from_is_err_and c.from_residual.result c.from_residual.ensures.1 in
    rw (p.1, p.2)
    (alone_refused g.W.Writer.meaning c.args.sections.now c.write_open.new.sections c.args.self.now (elsewhere g.W.Writer.meaning c.args.sections.now c.args.line_strings.now c.args.strings.now) c.in_err-offsets.field-0.0 c.in_err-offsets.ensures.err)
