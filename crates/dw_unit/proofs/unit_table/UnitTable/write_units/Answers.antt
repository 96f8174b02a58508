use Rattle.std.proofs.Common.{◌≡◌, ◌∙◌, ◌<◌, ◌≤◌, sym, subst, arith, length, true, false}
use Rattle.std.specs.Prelude.{All, slice_set}
use Rattle.std.proofs.lemmas.Result.{err_from_is_err_and}
use Rattle.dw_writer.specs.Sections.{SomeHasRisen}
use Rattle.dw_tree.specs.Causes.{Because, UnitsFail}
use Rattle.dw_tree.specs.Elsewhere.{elsewhere, AppendsLines, AppendsAllRanges}
use Rattle.dw_tree.specs.UnitValue.{UnitValue}
use Rattle.dw_tree.specs.Valid.{AreWritable}
use Rattle.dw_tree.specs.Pending.{starts_of}
use Rattle.dw_tree.specs.Written.{AreWritten, AreStopped, PendsUnits}
use Rattle.dw_unit.proofs.TableSteps.{same_count, written_at}
use Rattle.dw_unit.proofs.TableWritten.{front_none, front_more, front_stopped, front_refused, front_others, front_all}
use Rattle.dw_unit.proofs.unit_table.UnitTable.write_units.Goals as goal

pub loop-index-init : goal.loop-index-init
loop-index-init g c = front_none g.W.Writer.meaning c.args.line_strings.now c.args.strings.now c.args.sections.now c.self.inside.units.items

pub loop-index-preserved : goal.loop-index-preserved
loop-index-preserved g c =
    let f = c.loop-index.invariant in
    let vs = c.loop-index.self-inside.units.items in
    let below : c.loop-index.index < length vs = omega (arith, c.loop-index-test.true, c.len-index-end.ensures, same_count c.self.inside.units.items vs c.loop-index.index f.before f.after f.rest f.at) in
    front_more g.W.Writer.meaning (elsewhere g.W.Writer.meaning c.args.sections.now c.args.line_strings.now c.args.strings.now) c.args.sections.now c.loop-index.sections c.write_if_new.new.sections c.self.inside.units.items vs c.loop-index.index c.index_mut.result.now c.write_if_new.new.unit
    f c.index_mut.ensures.value below c.in_ok-write_if_new.ensures.others c.in_ok-write_if_new.ensures.faults c.in_ok-write_if_new.ensures.ok c.in_ok-write_if_new.ensures.writable

pub returns-in_err-write_if_new-clause-err : goal.returns-in_err-write_if_new-clause-err
returns-in_err-write_if_new-clause-err g c =
    let meaning = g.W.Writer.meaning in
    let old = c.args.sections.now in
    let new = c.write_if_new.new.sections in
    let f = c.loop-index.invariant in
    let vs = c.loop-index.self-inside.units.items in
    let below : c.loop-index.index < length vs = omega (arith, c.loop-index-test.true, c.len-index-end.ensures, same_count c.self.inside.units.items vs c.loop-index.index f.before f.after f.rest f.at) in
    let refused = c.in_err-write_if_new.ensures.err in
    let p = err_from_is_err_and c.from_residual.result c.from_residual.ensures.1 in
    rw (p.1, p.2)
    (subst (λ us. Because (SomeHasRisen meaning old new) (UnitsFail (meaning old.debug_info.0).is_plain (elsewhere g.W.Writer.meaning c.args.sections.now c.args.line_strings.now c.args.strings.now) (meaning old.debug_abbrev.0).size us) c.in_err-write_if_new.field-0.0) c.self.view_is
    (front_refused meaning (elsewhere g.W.Writer.meaning c.args.sections.now c.args.line_strings.now c.args.strings.now) old c.loop-index.sections new c.self.inside.units.items vs c.loop-index.index c.index_mut.result.now c.write_if_new.new.unit
    f c.index_mut.ensures.value below c.in_err-write_if_new.ensures.others c.in_err-write_if_new.ensures.faults refused.0 c.in_err-write_if_new.field-0.0 refused.1))

pub returns-in_err-write_if_new-clause-idle : goal.returns-in_err-write_if_new-clause-idle
returns-in_err-write_if_new-clause-idle g c all =
    let f = c.loop-index.invariant in
    let us = c.self.inside.units.items in
    let vs = c.loop-index.self-inside.units.items in
    let below : c.loop-index.index < length vs = omega (arith, c.loop-index-test.true, c.len-index-end.ensures, same_count us vs c.loop-index.index f.before f.after f.rest f.at) in
    let marks : All (λ (u : UnitValue). u.is_written ≡ true) us = subst (All (λ (u : UnitValue). u.is_written ≡ true)) (sym c.self.view_is) all in
    let written = written_at us vs c.loop-index.index f.before f.after f.rest c.index_mut.result.now f.at below c.index_mut.ensures.value marks in
    absurd (let x : false ≡ true = sym c.in_err-write_if_new.ensures.err.0 ∙ written in cc)

pub returns-in_err-write_if_new-clause-stopped : goal.returns-in_err-write_if_new-clause-stopped
returns-in_err-write_if_new-clause-stopped g c =
    let f = c.loop-index.invariant in
    let vs = c.loop-index.self-inside.units.items in
    let below : c.loop-index.index < length vs = omega (arith, c.loop-index-test.true, c.len-index-end.ensures, same_count c.self.inside.units.items vs c.loop-index.index f.before f.after f.rest f.at) in
    let p = err_from_is_err_and c.from_residual.result c.from_residual.ensures.1 in
    rw p.1
    (subst (λ us. AreStopped (starts_of g.W.Writer.meaning c.args.sections.now) (elsewhere g.W.Writer.meaning c.args.sections.now c.args.line_strings.now c.args.strings.now) us (slice_set vs c.loop-index.index c.write_if_new.new.unit)) c.self.view_is
    (front_stopped g.W.Writer.meaning (elsewhere g.W.Writer.meaning c.args.sections.now c.args.line_strings.now c.args.strings.now) c.args.sections.now c.loop-index.sections c.write_if_new.new.sections c.self.inside.units.items vs c.loop-index.index c.index_mut.result.now c.write_if_new.new.unit
    f c.index_mut.ensures.value below c.in_err-write_if_new.ensures.others c.in_err-write_if_new.ensures.faults c.in_err-write_if_new.ensures.stopped))

pub returns-in_err-write_if_new-clause-others : goal.returns-in_err-write_if_new-clause-others
returns-in_err-write_if_new-clause-others g c =
    front_others c.args.sections.now c.loop-index.sections c.write_if_new.new.sections c.loop-index.invariant.others c.in_err-write_if_new.ensures.others

pub returns-clause-pending : goal.returns-clause-pending
returns-clause-pending g c =
    let f = c.loop-index.invariant in
    let us = c.self.inside.units.items in
    let vs = c.loop-index.self-inside.units.items in
    let done : length vs ≤ c.loop-index.index = omega (arith, c.loop-index-test.false, c.len-index-end.ensures, same_count us vs c.loop-index.index f.before f.after f.rest f.at) in
    subst (λ xs. PendsUnits g.W.Writer.meaning c.args.sections.now c.loop-index.sections xs vs (elsewhere g.W.Writer.meaning c.args.sections.now c.args.line_strings.now c.args.strings.now)) c.self.view_is
    (front_all g.W.Writer.meaning (elsewhere g.W.Writer.meaning c.args.sections.now c.args.line_strings.now c.args.strings.now) c.args.sections.now c.loop-index.sections us vs c.loop-index.index f done).0

pub returns-clause-marked : goal.returns-clause-marked
returns-clause-marked g c =
    let f = c.loop-index.invariant in
    let us = c.self.inside.units.items in
    let vs = c.loop-index.self-inside.units.items in
    let done : length vs ≤ c.loop-index.index = omega (arith, c.loop-index-test.false, c.len-index-end.ensures, same_count us vs c.loop-index.index f.before f.after f.rest f.at) in
    subst (λ xs. AreWritten (starts_of g.W.Writer.meaning c.args.sections.now) (starts_of g.W.Writer.meaning c.loop-index.sections) (elsewhere g.W.Writer.meaning c.args.sections.now c.args.line_strings.now c.args.strings.now) xs vs) c.self.view_is
    (front_all g.W.Writer.meaning (elsewhere g.W.Writer.meaning c.args.sections.now c.args.line_strings.now c.args.strings.now) c.args.sections.now c.loop-index.sections us vs c.loop-index.index f done).1

pub returns-clause-writable : goal.returns-clause-writable
returns-clause-writable g c =
    let f = c.loop-index.invariant in
    let us = c.self.inside.units.items in
    let vs = c.loop-index.self-inside.units.items in
    let old = c.args.sections.now in
    let meaning = g.W.Writer.meaning in
    let done : length vs ≤ c.loop-index.index = omega (arith, c.loop-index-test.false, c.len-index-end.ensures, same_count us vs c.loop-index.index f.before f.after f.rest f.at) in
    subst (AreWritable (meaning old.debug_info.0).is_plain (elsewhere g.W.Writer.meaning c.args.sections.now c.args.line_strings.now c.args.strings.now) (meaning old.debug_abbrev.0).size) c.self.view_is
    (front_all meaning (elsewhere g.W.Writer.meaning c.args.sections.now c.args.line_strings.now c.args.strings.now) old c.loop-index.sections us vs c.loop-index.index f done).2

pub returns-clause-lines : goal.returns-clause-lines
returns-clause-lines g c =
    let f = c.loop-index.invariant in
    let us = c.self.inside.units.items in
    let vs = c.loop-index.self-inside.units.items in
    let old = c.args.sections.now in
    let meaning = g.W.Writer.meaning in
    let done : length vs ≤ c.loop-index.index = omega (arith, c.loop-index-test.false, c.len-index-end.ensures, same_count us vs c.loop-index.index f.before f.after f.rest f.at) in
    subst (AppendsLines meaning old c.loop-index.sections c.args.line_strings.now c.args.strings.now) c.self.view_is
    (front_all meaning (elsewhere meaning old c.args.line_strings.now c.args.strings.now) old c.loop-index.sections us vs c.loop-index.index f done).3

pub returns-clause-ranges : goal.returns-clause-ranges
returns-clause-ranges g c =
    let f = c.loop-index.invariant in
    let us = c.self.inside.units.items in
    let vs = c.loop-index.self-inside.units.items in
    let old = c.args.sections.now in
    let meaning = g.W.Writer.meaning in
    let done : length vs ≤ c.loop-index.index = omega (arith, c.loop-index-test.false, c.len-index-end.ensures, same_count us vs c.loop-index.index f.before f.after f.rest f.at) in
    subst (AppendsAllRanges meaning old c.loop-index.sections) c.self.view_is
    (front_all meaning (elsewhere meaning old c.args.line_strings.now c.args.strings.now) old c.loop-index.sections us vs c.loop-index.index f done).4
