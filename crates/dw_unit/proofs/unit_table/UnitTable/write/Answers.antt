use Rattle.std.proofs.Common.{◌∙◌, sym, ap, subst}
use Rattle.std.specs.Prelude.{IsFalse}
use Rattle.std.proofs.lemmas.Result.{err_from_is_err_and}
use Rattle.dw_base.specs.declared.error.Error.{Error}
use Rattle.dw_writer.proofs.Outcomes.{IfErr-map}
use Rattle.dw_writer.specs.Sections.{SomeHasRisen}
use Rattle.dw_tree.specs.Causes.{Because, Is}
use Rattle.dw_unit.specs.Filled.{FillsAll, AreAllFillable, open_fail}
use Rattle.dw_tree.specs.Pending.{info_at, starts_of}
use Rattle.dw_tree.specs.Elsewhere.{AppendsLines, AppendsAllRanges, elsewhere}
use Rattle.dw_unit.proofs.Complete.{units_complete}
use Rattle.dw_unit.proofs.FileCompleted.{all_units_held}
use Rattle.dw_unit.proofs.TableSteps.{stopped_after}
use Rattle.dw_unit.proofs.TableWritten.{units_refused, all_completed, all_refused}
use Rattle.dw_unit.proofs.unit_table.UnitTable.write.Goals as goal

pub returns-in_err-write_units-clause-err : goal.returns-in_err-write_units-clause-err
returns-in_err-write_units-clause-err g c =
    let p = err_from_is_err_and c.from_residual.result c.from_residual.ensures.1 in
    rw (p.1, p.2) (units_refused g.W.Writer.meaning (elsewhere g.W.Writer.meaning c.args.sections.now c.args.line_strings.now c.args.strings.now) c.args.sections.now c.write_units.new.sections c.args.self.now c.write_units.new.self c.in_err-write_units.field-0.0 c.in_err-write_units.ensures.err)

pub returns-in_err-fill_all-clause-err : goal.returns-in_err-fill_all-clause-err
returns-in_err-fill_all-clause-err g c =
    let meaning = g.W.Writer.meaning in
    let now = c.write_units.new.sections in
    let new = c.fill_all.new.sections in
    let table = c.write_units.new.self in
    let err = c.in_err-fill_all.field-0.0 in
    let refused = subst (λ t. AreAllFillable meaning now → Because (SomeHasRisen meaning now new) (Is (open_fail meaning now (info_at t))) err) (c.as_slice.ensures.value ∙ c.self.view_is) c.in_err-fill_all.ensures.err in
    let p = err_from_is_err_and c.from_residual-in_err-fill_all.result c.from_residual-in_err-fill_all.ensures.1 in
    rw (p.1, p.2)
    (λ before us ks none first.
    all_refused meaning before c.args.sections.now now (elsewhere meaning c.args.sections.now c.args.line_strings.now c.args.strings.now) c.args.self.now table us ks none first c.in_ok-write_units.ensures.pending new c.in_ok-write_units.ensures.others c.in_ok-write_units.ensures.lines c.in_ok-write_units.ensures.ranges err refused)

pub returns-in_err-fill_all-clause-stopped : goal.returns-in_err-fill_all-clause-stopped
returns-in_err-fill_all-clause-stopped g c =
    let p = err_from_is_err_and c.from_residual-in_err-fill_all.result c.from_residual-in_err-fill_all.ensures.1 in
    rw p.1 (stopped_after (starts_of g.W.Writer.meaning c.args.sections.now) (starts_of g.W.Writer.meaning c.write_units.new.sections) (elsewhere g.W.Writer.meaning c.args.sections.now c.args.line_strings.now c.args.strings.now) c.args.self.now c.write_units.new.self c.in_ok-write_units.ensures.marked)

pub returns-clause-completes : goal.returns-clause-completes
returns-clause-completes g c before us ks none first =
    let meaning = g.W.Writer.meaning in
    let now = c.write_units.new.sections in
    let new = c.fill_all.new.sections in
    let table = c.write_units.new.self in
    let is = c.as_slice.ensures.value ∙ c.self.view_is in
    let fills = subst (λ t. FillsAll meaning now new (info_at t)) is c.in_ok-fill_all.ensures.ok in
    let sound = subst (λ t. (err : Error) → IsFalse (open_fail meaning now (info_at t) err)) is c.in_ok-fill_all.ensures.sound in
    all_completed meaning before c.args.sections.now now (elsewhere meaning c.args.sections.now c.args.line_strings.now c.args.strings.now) c.args.self.now table us ks none first c.in_ok-write_units.ensures.pending _ (record { units = fills.units; locations = fills.locations; location_lists = fills.location_lists }) (ap (λ s. meaning s.debug_abbrev.0) c.in_ok-fill_all.ensures.others) sound

pub returns-clause-built : goal.returns-clause-built
returns-clause-built g c =
    all_units_held g.W.Writer.meaning g.met.W.Writer.plain_records_nothing c.args.sections.now _ c.args.line_strings.now c.args.strings.now c.args.self.now c.write_units.new.self (returns-clause-completes g c)

pub returns-in_err-write_units-clause-complete : goal.returns-in_err-write_units-clause-complete
returns-in_err-write_units-clause-complete g c can calm =
    IfErr-map c.from_residual.result (returns-in_err-write_units-clause-err g c)
    (units_complete g.W.Writer.meaning c.args.sections.now c.write_units.new.sections (elsewhere g.W.Writer.meaning c.args.sections.now c.args.line_strings.now c.args.strings.now) c.args.self.now c.write_units.new.self can calm)

pub returns-in_err-fill_all-clause-complete : goal.returns-in_err-fill_all-clause-complete
returns-in_err-fill_all-clause-complete g c can calm =
    IfErr-map c.from_residual-in_err-fill_all.result (returns-in_err-fill_all-clause-err g c)
    (units_complete g.W.Writer.meaning c.args.sections.now c.fill_all.new.sections (elsewhere g.W.Writer.meaning c.args.sections.now c.args.line_strings.now c.args.strings.now) c.args.self.now c.write_units.new.self can calm)

pub returns-clause-lines : goal.returns-clause-lines
returns-clause-lines g c =
    let old = c.args.sections.now in
    subst (λ s. AppendsLines g.W.Writer.meaning old s c.args.line_strings.now c.args.strings.now c.args.self.now) (sym c.in_ok-fill_all.ensures.others) c.in_ok-write_units.ensures.lines

pub returns-clause-ranges : goal.returns-clause-ranges
returns-clause-ranges g c =
    let old = c.args.sections.now in
    let before = c.in_ok-write_units.ensures.ranges in
    let added = subst (λ s. AppendsAllRanges g.W.Writer.meaning old s c.args.self.now) (sym c.in_ok-fill_all.ensures.others)
    (record { found = before.found; ranges = before.ranges; range_lists = before.range_lists }) in
    record { found = added.found; ranges = added.ranges; range_lists = added.range_lists }
